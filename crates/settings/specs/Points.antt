-- Point codes as an operator writes them.
use Rattle.std.specs.Prelude.{◌≡◌, ℕ, zero, suc, ◌+◌, ◌/◌, ◌%◌, ◌^◌, ◌⊎◌, ◌||◌, Bool, if◌then◌else◌, bytes_eq}
use Rattle.std.specs.Prelude.{List, [], ◌∷◌, ◌++◌, decimal, Option, None, Some}
use Rattle.settings.specs.declared.point.PointFormat.{PointFormat}
use Rattle.settings.specs.declared.point.PointFormat.TheVariants.{Plain, ThreeEightThree}

-- a digit as it is written
abbrev pub digit : ℕ → ℕ
digit value = 48 + value

-- the three digits of a number below 1,000
abbrev pub three_digits : ℕ → List ℕ
three_digits number = digit (number / 100) ∷ digit (number / 10 % 10) ∷ digit (number % 10) ∷ []

-- three parts with a hyphen (45) between them: the zone, of three bits; the area, of eight bits, in three digits;
-- the point, of three bits (Q.708)
abbrev pub in_three_parts : ℕ → List ℕ
in_three_parts point =
    digit (point / 2048) ∷ 45 ∷ three_digits (point / 8 % 256) ++ 45 ∷ digit (point % 8) ∷ []

abbrev pub point_text : PointFormat → ℕ → List ℕ
point_text Plain point = decimal point
point_text ThreeEightThree point = in_three_parts point

-- a text that says a point: its number, or its three parts if points are written in these
abbrev pub IsPointText : PointFormat → List ℕ → ℕ → Type 0
IsPointText Plain text point = text ≡ decimal point
IsPointText ThreeEightThree text point = (text ≡ in_three_parts point) ⊎ (text ≡ decimal point)

-- the same as a test
abbrev pub says_point : PointFormat → List ℕ → ℕ → Bool
says_point Plain text point = bytes_eq text (decimal point)
says_point ThreeEightThree text point = bytes_eq text (in_three_parts point) || bytes_eq text (decimal point)

-- the point that a text says, among those below a number
abbrev pub point_below : PointFormat → ℕ → List ℕ → Option ℕ
point_below format zero text = None
point_below format (suc point) text =
    if says_point format text point then Some point else point_below format point text

-- the point, of 14 bits, that a text says
unfoldable pub point_in : PointFormat → List ℕ → Option ℕ
point_in format text = point_below format (2 ^ 14) text
