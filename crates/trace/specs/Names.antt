-- What the files of a ring are named.
use Rattle.std.specs.Prelude.{ℕ, ◌+◌, ◌-◌, ◌*◌, ◌/◌, ◌%◌, List, [], ◌∷◌, ◌++◌}

-- a digit as it is written
abbrev pub digit : ℕ → ℕ
digit value = 48 + value

-- the four digits of a number below 10,000
abbrev pub four_digits : ℕ → List ℕ
four_digits number =
    digit (number / 1000) ∷ digit (number / 100 % 10) ∷ digit (number / 10 % 10) ∷ digit (number % 10) ∷ []

-- the eight digits of one below 100,000,000
abbrev pub eight_digits : ℕ → List ℕ
eight_digits number = four_digits (number / 10_000) ++ four_digits (number % 10_000)

-- what is behind the name of the capture: a dot (46), and the number
abbrev pub behind_name : ℕ → List ℕ
behind_name number = 46 ∷ eight_digits number

-- the name of a file: `near.pcap.00000012`
abbrev pub file_name : (capture : List ℕ) (number : ℕ) → List ℕ
file_name capture number = capture ++ behind_name number

-- the value of four digits
abbrev pub value_of_four : (thousands hundreds tens ones : ℕ) → ℕ
value_of_four thousands hundreds tens ones =
    1000 * (thousands - 48) + 100 * (hundreds - 48) + 10 * (tens - 48) + (ones - 48)
