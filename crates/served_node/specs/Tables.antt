-- Tables that a client is shown: a head line with the names of the columns, and a row for each entry. Each line of a
-- table begins with a blank.
use Rattle.std.specs.Prelude.{ℕ, ◌-◌, nat_eq, if◌then◌else◌, List, ◌++◌, codes, decimal, length, replicate, Option, None, Some}
use Rattle.console.specs.Texts.{given_text}
use Rattle.served_node.specs.declared.console_session.table.TheConstants.{NO_NUMBER}

-- a cell of a column: two blanks (32), a text, and blanks up to the column's width
abbrev pub cell : (width : ℕ) → List ℕ → List ℕ
cell width text = codes "  " ++ text ++ replicate (width - length text) 32

-- the cell of the last column ends the row
abbrev pub last_cell : List ℕ → List ℕ
last_cell text = codes "  " ++ text ++ codes "\n"

-- the number of a message; before the first there is none
abbrev pub some_number : ℕ → Option ℕ
some_number number = if nat_eq number NO_NUMBER then None else Some number

-- the same as a text, - for none
abbrev pub message_text : ℕ → List ℕ
message_text number = given_text (some_number number)
