-- Numbers as an operator writes them: in decimal digits without leading zeros.
use Rattle.std.specs.Prelude.{ℕ, ◌+◌, ◌-◌, ◌*◌, ◌==◌, ◌&&◌, Bool, nat_le, if◌then◌else◌}
use Rattle.std.specs.Prelude.{List, [], ◌∷◌, Option, None, Some}
use Rattle.std.specs.Option.{option_and_then}

-- the digits 0 to 9
abbrev pub is_digit : ℕ → Bool
is_digit octet = nat_le 48 octet && nat_le octet 57

-- a number with one more digit after it, if that isn't above the most
abbrev pub with_digit : (most : ℕ) → ℕ → ℕ → Option ℕ
with_digit most number octet =
    if is_digit octet && nat_le (10 * number + (octet - 48)) most then Some (10 * number + (octet - 48)) else None

-- with all these digits after it
abbrev pub with_digits : (most : ℕ) → ℕ → List ℕ → Option ℕ
with_digits most number [] = Some number
with_digits most number (octet ∷ rest) =
    option_and_then (λ next. with_digits most next rest) (with_digit most number octet)

-- the number that a text writes, up to the most; 0 alone begins with the digit 0
abbrev pub number_up_to : (most : ℕ) → List ℕ → Option ℕ
number_up_to most [] = None
number_up_to most (octet ∷ []) = with_digits most 0 (octet ∷ [])
number_up_to most (octet ∷ next ∷ rest) = if octet == 48 then None else with_digits most 0 (octet ∷ next ∷ rest)

-- the number that a text writes, from the least to the most
abbrev pub number_within : (least most : ℕ) → List ℕ → Option ℕ
number_within least most text =
    option_and_then (λ number. if nat_le least number then Some number else None) (number_up_to most text)
