-- The lines of clients without the blanks (32) that part nothing.
use Rattle.std.specs.Prelude.{◌≡◌, ℕ, Bool, true, ◌==◌, ◌&&◌, if◌then◌else◌, List, [], ◌∷◌}
use Rattle.std.specs.List.{filter}
use Rattle.console.specs.Words.{is_some_word, words}

-- no word begins here: a blank is next, or the end
abbrev pub begins_no_word : List ℕ → Bool
begins_no_word [] = true
begins_no_word (octet ∷ rest) = octet == 32

-- a line with one blank where it has several in a row, and without those at its end
abbrev pub single_blanks : List ℕ → List ℕ
single_blanks [] = []
single_blanks (octet ∷ rest) =
    if (octet == 32) && begins_no_word rest then single_blanks rest else octet ∷ single_blanks rest

-- and without one at its front
abbrev pub without_blank : List ℕ → List ℕ
without_blank [] = []
without_blank (octet ∷ rest) = if octet == 32 then rest else octet ∷ rest

-- a line with one blank between its words, and none before or behind them
abbrev pub trimmed : List ℕ → List ℕ
trimmed line = without_blank (single_blanks line)

-- ---- laws

-- a line keeps its words: those that blanks in a row make, which are empty, go, and no other
abbrev pub keeps_the_words : Type 0
keeps_the_words = (line : List ℕ) → filter is_some_word (words (trimmed line)) ≡ filter is_some_word (words line)
