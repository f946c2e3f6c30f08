-- The sequence numbers of a link: 24 bits, and after the last comes 0 again (RFC 4165 §2.2).
use Rattle.std.specs.Prelude.{ℕ, Bool, ◌+◌, ◌-◌, ◌*◌, ◌/◌, ◌%◌, ◌^◌, List, [], ◌∷◌, nat_le, slice_index}

-- how many numbers there are
abbrev pub modulus : ℕ
modulus = 2 ^ 24

-- the number after this one
abbrev pub next_number : ℕ → ℕ
next_number number = (number + 1) % modulus

-- the number before this one
abbrev pub previous_number : ℕ → ℕ
previous_number number = (number + modulus - 1) % modulus

-- how many times the next number is taken on the way from one number to another
abbrev pub steps_between : ℕ → ℕ → ℕ
steps_between from to = (to + modulus - from) % modulus

-- whether x is met on the way from low to high, both ends included
abbrev pub is_within : ℕ → ℕ → ℕ → Bool
is_within low high x = nat_le (steps_between low x) (steps_between low high)

-- a number in three octets, most significant first
abbrev pub three_octets : ℕ → List ℕ
three_octets number = number / 2 ^ 16 % 2 ^ 8 ∷ number / 2 ^ 8 % 2 ^ 8 ∷ number % 2 ^ 8 ∷ []

-- the number in three octets
abbrev pub number_of : List ℕ → ℕ
number_of octets = slice_index octets 0 * 2 ^ 16 + slice_index octets 1 * 2 ^ 8 + slice_index octets 2
