-- The words of a line, and the parts of a text.
use Rattle.std.specs.Prelude.{ℕ, Bool, not, nat_eq, length, ◌==◌, if◌then◌else◌, List, [], ◌∷◌, ◌++◌, Option, None, Some}
use Rattle.std.specs.Borrow.{Bor}

-- an octet before the first of some parts
abbrev pub onto_first : ℕ → List (List ℕ) → List (List ℕ)
onto_first octet [] = []
onto_first octet (part ∷ parts) = (octet ∷ part) ∷ parts

-- what the octets of one value part: one part more than there are of them
abbrev pub parted : ℕ → List ℕ → List (List ℕ)
parted mark [] = [] ∷ []
parted mark (octet ∷ rest) = if octet == mark then [] ∷ parted mark rest else onto_first octet (parted mark rest)

-- the words of a line: what its spaces (32) part
abbrev pub words : List ℕ → List (List ℕ)
words line = parted 32 line

-- a word that isn't empty
abbrev pub is_some_word : List ℕ → Bool
is_some_word word = not (nat_eq (length word) 0)

-- a text before the first of some parts
abbrev pub begun : List ℕ → List (List ℕ) → List (List ℕ)
begun front [] = []
begun front (part ∷ more) = (front ++ part) ∷ more

-- the first of some words, and those behind it; a word that is missing counts as an empty one
abbrev pub first_word : List (List ℕ) → List ℕ
first_word [] = []
first_word (word ∷ behind) = word

abbrev pub rest_of : List (List ℕ) → List (List ℕ)
rest_of [] = []
rest_of (word ∷ behind) = behind

abbrev pub second_word : List (List ℕ) → List ℕ
second_word ws = first_word (rest_of ws)

abbrev pub third_word : List (List ℕ) → List ℕ
third_word ws = second_word (rest_of ws)

abbrev pub fourth_word : List (List ℕ) → List ℕ
fourth_word ws = third_word (rest_of ws)

-- the words behind the first two, three and four
abbrev pub behind_two : List (List ℕ) → List (List ℕ)
behind_two ws = rest_of (rest_of ws)

abbrev pub behind_three : List (List ℕ) → List (List ℕ)
behind_three ws = rest_of (behind_two ws)

abbrev pub behind_four : List (List ℕ) → List (List ℕ)
behind_four ws = rest_of (behind_three ws)

-- the words that are left after one
abbrev pub words_left : Option (Bor (List ℕ)) → List (List ℕ)
words_left None = []
words_left (Some rest) = words rest.now
