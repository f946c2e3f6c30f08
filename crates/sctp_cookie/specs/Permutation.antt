-- A Feistel network over the two halves of a 32-bit number: a permutation, whatever its rounds compute.
use Rattle.std.specs.Prelude.{ℕ, ◌+◌, ◌*◌, ◌/◌, ◌%◌, ◌^◌, bit_xor}

-- the halves of a number, of 16 bits each, and the number that two halves make
abbrev pub high_half : ℕ → ℕ
high_half n = n / 2 ^ 16

abbrev pub low_half : ℕ → ℕ
low_half n = n % 2 ^ 16

abbrev pub joined : (high low : ℕ) → ℕ
joined high low = high * 2 ^ 16 + low

-- one round: the halves change places, and the one that was high is altered by what the other one gives
unfoldable pub round : (ℕ → ℕ) → ℕ → ℕ
round f n = joined (low_half n) (bit_xor (high_half n) (f (low_half n) % 2 ^ 16))

-- the number of which a round makes this one
unfoldable pub round_back : (ℕ → ℕ) → ℕ → ℕ
round_back f n = joined (bit_xor (low_half n) (f (high_half n) % 2 ^ 16)) (high_half n)

-- four rounds, from number 0 on; f gives, by the number of a round and one half, what the other half is altered by
abbrev pub permuted : (ℕ → ℕ → ℕ) → ℕ → ℕ
permuted f n = round (f 3) (round (f 2) (round (f 1) (round (f 0) n)))

-- the number that they make this one of
abbrev pub permuted_back : (ℕ → ℕ → ℕ) → ℕ → ℕ
permuted_back f n = round_back (f 0) (round_back (f 1) (round_back (f 2) (round_back (f 3) n)))
