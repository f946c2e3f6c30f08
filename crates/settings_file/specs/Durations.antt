-- Durations as a text says them: `800ms`, `1.5s`, `2min`.
use Rattle.std.specs.Prelude.{ℕ, ◌+◌, ◌-◌, ◌*◌, Bool, ◌&&◌, not, nat_le, nat_eq, if◌then◌else◌, bytes_eq, codes}
use Rattle.std.specs.Prelude.{List, [], ◌∷◌, length, take, drop, position, Option, None, Some, option_and_then, unwrap_or}
use Rattle.std.specs.Option.{option_map}
use Rattle.std.specs.List.{before_first, after_first}
use Rattle.settings_file.specs.Places.{is_dot, has_dot}

-- the digits 0 to 9
abbrev pub is_digit : ℕ → Bool
is_digit octet = nat_le 48 octet && nat_le octet 57

-- a number with one more digit after it, if that is below 10 million
abbrev pub with_digit : ℕ → ℕ → Option ℕ
with_digit number octet =
    if is_digit octet && nat_le (10 * number + (octet - 48)) 9999999 then Some (10 * number + (octet - 48)) else None

-- with all these digits after it
abbrev pub with_digits : ℕ → List ℕ → Option ℕ
with_digits number [] = Some number
with_digits number (octet ∷ rest) = option_and_then (λ next. with_digits next rest) (with_digit number octet)

-- the number of these digits, one at least
abbrev pub number_in : List ℕ → Option ℕ
number_in [] = None
number_in (octet ∷ rest) = with_digits 0 (octet ∷ rest)

-- how many digits a text begins with
abbrev pub digit_count : List ℕ → ℕ
digit_count text = unwrap_or (position (λ octet. not (is_digit octet)) text) (length text)

-- the digits that a text begins with, and the unit after them
abbrev pub digits_of : List ℕ → List ℕ
digits_of text = take (digit_count text) text

abbrev pub unit_of : List ℕ → List ℕ
unit_of text = drop (digit_count text) text

-- how many milliseconds a unit is
abbrev pub unit_ms : List ℕ → Option ℕ
unit_ms unit =
    if bytes_eq unit (codes "ms")
    then Some 1
    else (if bytes_eq unit (codes "s") then Some 1000 else (if bytes_eq unit (codes "min") then Some 60000 else None))

-- a whole number of a unit, in milliseconds: `800ms`
abbrev pub whole_ms : List ℕ → Option ℕ
whole_ms text =
    option_and_then (λ number. option_map (λ ms. number * ms) (unit_ms (unit_of text))) (number_in (digits_of text))

-- how many milliseconds the last of so many decimals of a second is
abbrev pub decimal_ms : ℕ → Option ℕ
decimal_ms count =
    if nat_eq count 1
    then Some 100
    else (if nat_eq count 2 then Some 10 else (if nat_eq count 3 then Some 1 else None))

-- the decimals of a second, one to three, in milliseconds: `5s` behind the point of `1.5s`
abbrev pub decimals_ms : List ℕ → Option ℕ
decimals_ms text =
    if bytes_eq (unit_of text) (codes "s")
    then option_and_then (λ ms. option_map (λ number. number * ms) (number_in (digits_of text)))
    (decimal_ms (length (digits_of text)))
    else None

-- seconds and their decimals, in milliseconds
abbrev pub seconds_ms : (whole decimals : List ℕ) → Option ℕ
seconds_ms whole decimals =
    option_and_then (λ seconds. option_map (λ ms. 1000 * seconds + ms) (decimals_ms decimals)) (number_in whole)

-- how long a text says that something lasts, in milliseconds, if it is a duration: a number of milliseconds, of seconds
-- or of minutes; or seconds with a decimal point
unfoldable pub duration_in : List ℕ → Option ℕ
duration_in text =
    if has_dot text then seconds_ms (before_first is_dot text) (after_first is_dot text) else whole_ms text
