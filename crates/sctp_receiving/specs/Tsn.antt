-- Transmission sequence numbers (TSN): 32 bits, and after the last comes 0 again (RFC 9260 §1.6).
use Rattle.std.specs.Prelude.{ℕ, ◌+◌, ◌-◌, ◌%◌, ◌^◌}

-- how many there are, and half of them
abbrev pub modulus : ℕ
modulus = 2 ^ 32

abbrev pub half : ℕ
half = 2 ^ 31

-- the TSN after this one
abbrev pub next_tsn : ℕ → ℕ
next_tsn tsn = (tsn + 1) % modulus

-- the TSN before this one
abbrev pub previous_tsn : ℕ → ℕ
previous_tsn tsn = (tsn + modulus - 1) % modulus

-- how many times the next TSN is taken on the way from one to another
abbrev pub steps_between : ℕ → ℕ → ℕ
steps_between from to = (to + modulus - from) % modulus
