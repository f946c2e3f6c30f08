-- A 24-bit number and its three octets are the same thing.
use Rattle.std.proofs.Common.{◌≡◌, ℕ, ◌^◌, ◌<◌, [], ◌∷◌, arith}
use Rattle.signalling_types.specs.Numbers.{three_octets, number_of}

pub number_of-three_octets : (n : ℕ) → n < 2 ^ 24 → number_of (three_octets n) ≡ n
number_of-three_octets n h = omega (arith, h)

pub three_octets-number_of : (a b c : ℕ) → a < 2 ^ 8 → b < 2 ^ 8 → c < 2 ^ 8 → three_octets (number_of (a ∷ b ∷ c ∷ [])) ≡ a ∷ b ∷ c ∷ []
three_octets-number_of a b c h i j = grind (arith, h, i, j)

pub number_of-fits : (a b c : ℕ) → a < 2 ^ 8 → b < 2 ^ 8 → c < 2 ^ 8 → number_of (a ∷ b ∷ c ∷ []) < 2 ^ 24
number_of-fits a b c h i j = omega (arith, h, i, j)
