-- Counts of 64 bits.
use Rattle.std.specs.Prelude.{ℕ, ◌+◌, ◌-◌, ◌^◌, min, List, slice_index, slice_set}

-- a count of 64 bits and this many more, which stays at its greatest value
abbrev pub saturated : ℕ → ℕ
saturated n = min n (2 ^ 64 - 1)

abbrev pub one_more_at : ℕ → List ℕ → List ℕ
one_more_at place counts = slice_set counts place (saturated (slice_index counts place + 1))
