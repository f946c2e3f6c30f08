-- Why a line is none that a client may write. Each mistake is looked for from the left, so a line has one, the first.
use Rattle.std.specs.Prelude.{ℕ, ◌%◌, ◌*◌, nat_eq, nat_lt, not, is_some, bytes_eq, codes, if◌then◌else◌, List, [], ◌∷◌, length}
use Rattle.std.specs.Prelude.{Option, None, Some, Result, Ok, Err}
use Rattle.std.specs.List.{list_all}
use Rattle.std.specs.Char.{is_ascii_hexdigit}
use Rattle.signalling_types.specs.declared.limits.TheConstants.Limits.{FRAME_OCTETS}
use Rattle.settings.specs.declared.point.PointFormat.{PointFormat}
use Rattle.console.specs.Words.{words, first_word, rest_of}
use Rattle.console.specs.Commands.{command_named}
use Rattle.console.specs.ClientWords.{first_client_word}
use Rattle.console.specs.Orders.{Instruction, title_order}
use Rattle.console.specs.TitleTests.{title_tested}
use Rattle.console.specs.declared.client_words.ClientWord.{ClientWord}
use Rattle.console.specs.declared.client_words.ClientWord.TheVariants as word
use Rattle.console.specs.declared.client_words.TheConstants.{COMMANDS, TEXTS}
use Rattle.console.specs.declared.mistakes.Mistake.{Mistake}
use Rattle.console.specs.declared.mistakes.Mistake.TheVariants as mistake
use Rattle.console.specs.declared.title_mistakes.TitleMistake.{TitleMistake}
use Rattle.console.specs.declared.title_words.RowName.{RowName}

-- behind `submit` is the text of octets
abbrev pub octets_mistake : (digits : List ℕ) → Mistake
octets_mistake digits =
    if not (list_all is_ascii_hexdigit digits) then mistake.NoHexDigit
    else if not (nat_eq (length digits % 2) 0) then mistake.OddDigits
    else if nat_lt (2 * FRAME_OCTETS) (length digits) then mistake.TooManyOctets
    else mistake.Form word.Submit

abbrev pub submit_mistake : (behind : List (List ℕ)) → Mistake
submit_mistake [] = mistake.Form word.Submit
submit_mistake (digits ∷ []) = octets_mistake digits
submit_mistake (digits ∷ second ∷ more) = mistake.Form word.Submit

-- behind `show` is a name of what is shown; behind `show link` is one more word
abbrev pub form_shown : ClientWord → ClientWord
form_shown word.Link = word.Link
form_shown _ = word.Show

abbrev pub no_text_unless : Option ClientWord → Mistake
no_text_unless (Some name) = mistake.Form (form_shown name)
no_text_unless None = mistake.NoText

abbrev pub show_mistake : (behind : List (List ℕ)) → Mistake
show_mistake [] = mistake.Form word.Show
show_mistake (name ∷ more) = no_text_unless (first_client_word name TEXTS.now)

-- behind `title` is an order about a row
abbrev pub row_mistake : (verb : List ℕ) → TitleMistake → Mistake
row_mistake verb title = if bytes_eq verb (codes "set") then mistake.SetTitle title else mistake.Title title

abbrev pub title_mistake : (verb : List ℕ) → Result Instruction TitleMistake → Mistake
title_mistake verb (Ok order) = mistake.Form word.Title
title_mistake verb (Err title) = row_mistake verb title

-- behind `test` is a title
abbrev pub test_mistake : Result RowName TitleMistake → Mistake
test_mistake (Ok name) = mistake.Form word.Test
test_mistake (Err title) = mistake.Title title

-- what is wrong behind a command
abbrev pub mistake_behind : PointFormat → ClientWord → (behind : List (List ℕ)) → Mistake
mistake_behind points word.Submit behind = submit_mistake behind
mistake_behind points word.Show behind = show_mistake behind
mistake_behind points word.Title behind = title_mistake (first_word behind) (title_order points behind)
mistake_behind points word.Test behind = test_mistake (title_tested behind)
mistake_behind points command behind = mistake.Form command

-- a word that is no command of a client may be one of a script: there the network and the clock are its
abbrev pub unknown_mistake : List ℕ → Mistake
unknown_mistake first = if is_some (command_named first) then mistake.OfScripts else mistake.NoCommand

abbrev pub mistake_by : PointFormat → (first : List ℕ) → Option ClientWord → (behind : List (List ℕ)) → Mistake
mistake_by points first (Some command) behind = mistake_behind points command behind
mistake_by points first None behind = unknown_mistake first

-- what is wrong with a line of these words
abbrev pub mistake_in : PointFormat → List (List ℕ) → Mistake
mistake_in points ws =
    mistake_by points (first_word ws) (first_client_word (first_word ws) COMMANDS.now) (rest_of ws)

-- why a line is none that a client may write, if it is none
abbrev pub mistake_of : PointFormat → List ℕ → Mistake
mistake_of points line = mistake_in points (words line)
