-- The search for the count that a number names finds just that count.
use Rattle.std.specs.Prelude.{◌≡◌, ℕ, ◌↔◌, Some}
use Rattle.link.specs.Queue.{Queue, IsQueue, Names, named_count}

abbrev pub search_finds_named : Type 0
search_finds_named =
    (window : ℕ) (q : Queue) (bsn n : ℕ) → IsQueue window q → (named_count q bsn ≡ Some n) ↔ Names q bsn n
