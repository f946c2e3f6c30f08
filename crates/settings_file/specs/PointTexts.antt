-- Point codes as a text says them: `4237`, or in three parts, `2-17-5`.
use Rattle.std.specs.Prelude.{ℕ, ℤ, pos, negsuc, ◌+◌, ◌*◌, ◌==◌, Bool, nat_le, nat_lt, if◌then◌else◌}
use Rattle.std.specs.Prelude.{List, length, Option, None, Some, option_and_then}
use Rattle.std.specs.List.{position_or_len, before_first, after_first}
use Rattle.settings_file.specs.Durations.{number_in}

-- the octet of a hyphen
abbrev pub is_hyphen : ℕ → Bool
is_hyphen octet = octet == 45

abbrev pub has_hyphen : List ℕ → Bool
has_hyphen text = nat_lt (position_or_len is_hyphen text) (length text)

-- the number of these digits, up to the most
abbrev pub number_up_to : (most : ℕ) → List ℕ → Option ℕ
number_up_to most digits = option_and_then (λ number. if nat_le number most then Some number else None) (number_in digits)

-- three parts of 3, 8 and 3 bits: the zone, the area and the point (Q.708)
abbrev pub three_parts : (zone area point : List ℕ) → Option ℕ
three_parts zone area point =
    option_and_then (λ z. option_and_then (λ a. option_and_then (λ p. Some (2048 * z + (8 * a + p)))
    (number_up_to 7 point)) (number_up_to 255 area)) (number_up_to 7 zone)

-- the same behind the first hyphen
abbrev pub behind_zone : (zone behind : List ℕ) → Option ℕ
behind_zone zone behind =
    if has_hyphen behind then three_parts zone (before_first is_hyphen behind) (after_first is_hyphen behind) else None

-- the point that a text says: in three parts with hyphens between them, or as one number
unfoldable pub point_in : List ℕ → Option ℕ
point_in text =
    if has_hyphen text
    then behind_zone (before_first is_hyphen text) (after_first is_hyphen text)
    else number_up_to 16383 text

-- the number of the point that a text says; of one that says none a number that no point has
abbrev pub said : Option ℕ → ℤ
said None = negsuc 0
said (Some point) = pos point

abbrev pub point_said : List ℕ → ℤ
point_said text = said (point_in text)
