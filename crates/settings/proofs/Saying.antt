-- The point that a text says.
use Rattle.std.proofs.Common.{◌≡◌, ◌<◌, ℕ, zero, suc, Bool, true, false, cond, Option, None, Some, List, [], ◌∷◌, ◌++◌, ◌/◌, ◌%◌, refl, sym, subst, arith, inl, inr, decimal}
use Rattle.std.specs.Option.{IfSome}
use Rattle.std.specs.Str.{bytes_eq, IsAscii, IsUtf8}
use Rattle.std.proofs.lemmas.Bool.{or_cases}
use Rattle.std.proofs.lemmas.Str.{IsUtf8-from_ascii}
use Rattle.std.proofs.lemmas.Fmt.{IsAscii-decimal}
use Rattle.std.specs.Cmp.Lexicographic.{bytes_decides}
use Rattle.settings.specs.Points.{IsPointText, in_three_parts, three_digits, digit, point_text, says_point, point_below, point_in}
use Rattle.std.proofs.lemmas.Str.Ascii.{IsAscii-cons, IsAscii-nil}
use Rattle.settings.specs.declared.point.PointFormat.{PointFormat}
use Rattle.settings.specs.declared.point.PointFormat.TheVariants.{Plain, ThreeEightThree}

said : (format : PointFormat) (text : List ℕ) (point : ℕ) → says_point format text point ≡ true → IsPointText format text point
said Plain text point e = (bytes_decides text (decimal point)).0 e
said ThreeEightThree text point e =
    elim (or_cases (bytes_eq text (in_three_parts point)) (bytes_eq text (decimal point)) e) [
      | inl f ↦ inl ((bytes_decides text (in_three_parts point)).0 f)
      | inr f ↦ inr ((bytes_decides text (decimal point)).0 f)
    ]

says : (format : PointFormat) (text : List ℕ) (point : ℕ) → IsPointText format text point → says_point format text point ≡ true
says Plain text point e = (bytes_decides text (decimal point)).1 e
says ThreeEightThree text point (inl e) = grind (arith, (bytes_decides text (in_three_parts point)).1 e)
says ThreeEightThree text point (inr e) = grind (arith, (bytes_decides text (decimal point)).1 e)

below-unless : (p n : ℕ) → p < suc n → (p ≡ n → ⊥) → p < n
below-unless p n less other = grind (arith)

-- a number below the next one is below this one, unless it is this one
earlier : (format : PointFormat) (text : List ℕ) (n : ℕ) (r : Option ℕ) → says_point format text n ≡ false → IfSome r (λ p. (p < suc n) × IsPointText format text p)
    → IfSome r (λ p. (p < n) × IsPointText format text p)
earlier format text n None not h = tt
earlier format text n (Some p) not h =
    let other : p ≡ n → ⊥ = λ e. let yes = says format text n (subst (λ (k : ℕ). IsPointText format text k) e (h.1)) in cc in
    (below-unless p n (h.0) other, h.1)

one-more : (format : PointFormat) (text : List ℕ) (n : ℕ) (r : Option ℕ) (b : Bool) → says_point format text n ≡ b → IfSome r (λ p. (p < suc n) × IsPointText format text p)
    → ((p : ℕ) → p < suc n → IsPointText format text p → r ≡ Some p) → (IfSome r (λ p. (p < n) × IsPointText format text p) → r ≡ point_below format n text)
    → r ≡ cond b (Some n) (point_below format n text)
one-more format text n r true e value found more = found n (omega arith) (said format text n e)
one-more format text n r false e value found more = more (earlier format text n r e value)

-- what is found exactly where a text says a point below a number is that point
pub below-is : (format : PointFormat) (text : List ℕ) (n : ℕ) (r : Option ℕ) → IfSome r (λ p. (p < n) × IsPointText format text p)
    → ((p : ℕ) → p < n → IsPointText format text p → r ≡ Some p) → r ≡ point_below format n text
below-is format text zero None value found = refl
below-is format text zero (Some p) value found = absurd (omega (arith, value.0))
below-is format text (suc n) r value found =
    one-more format text n r (says_point format text n) refl value found (λ v. below-is format text n r v (λ p less is. found p (omega (arith, less)) is))

pub point-is : (format : PointFormat) (text : List ℕ) (r : Option ℕ) → IfSome r (λ p. (p < 16384) × IsPointText format text p)
    → ((p : ℕ) → p < 16384 → IsPointText format text p → r ≡ Some p) → r ≡ point_in format text
unfolding point_in
point-is format text r value found = below-is format text 16384 r value found

-- ---- a text that isn't UTF-8 says none

three-ascii : (number : ℕ) (rest : List ℕ) → number < 256 → IsAscii rest → IsAscii (three_digits number ++ rest)
three-ascii number rest less all =
    IsAscii-cons (digit (number / 100)) (digit (number / 10 % 10) ∷ digit (number % 10) ∷ rest) (omega arith)
    (IsAscii-cons (digit (number / 10 % 10)) (digit (number % 10) ∷ rest) (omega arith) (IsAscii-cons (digit (number % 10)) rest (omega arith) all))

parts-ascii : (point : ℕ) → point < 16384 → IsAscii (in_three_parts point)
parts-ascii point less =
    let last = 45 ∷ digit (point % 8) ∷ [] in
    IsAscii-cons (digit (point / 2048)) (45 ∷ three_digits (point / 8 % 256) ++ last) (omega (arith, less))
    (IsAscii-cons 45 (three_digits (point / 8 % 256) ++ last) (omega arith)
    (three-ascii (point / 8 % 256) last (omega arith) (IsAscii-cons 45 (digit (point % 8) ∷ []) (omega arith) (IsAscii-cons (digit (point % 8)) [] (omega arith) IsAscii-nil))))

pub parts-utf8 : (point : ℕ) → point < 16384 → IsUtf8 (in_three_parts point)
parts-utf8 point less = IsUtf8-from_ascii (in_three_parts point) (parts-ascii point less)

is-ascii : (format : PointFormat) (text : List ℕ) (point : ℕ) → point < 16384 → IsPointText format text point → IsAscii text
is-ascii Plain text point less e = subst IsAscii (sym e) (IsAscii-decimal point (omega (arith, less)))
is-ascii ThreeEightThree text point less (inl e) = subst IsAscii (sym e) (parts-ascii point less)
is-ascii ThreeEightThree text point less (inr e) = subst IsAscii (sym e) (IsAscii-decimal point (omega (arith, less)))

pub utf8-said : (format : PointFormat) (text : List ℕ) (point : ℕ) → point < 16384 → IsPointText format text point → IsUtf8 text
utf8-said format text point less is = IsUtf8-from_ascii text (is-ascii format text point less is)

pub none-said : (format : PointFormat) (text : List ℕ) → (IsUtf8 text → ⊥) → None ≡ point_in format text
none-said format text not = point-is format text None tt (λ p less is. absurd (not (utf8-said format text p less is)))

-- what is written says its point
pub written : (format : PointFormat) (text : List ℕ) (point : ℕ) → text ≡ point_text format point → IsPointText format text point
written Plain text point e = e
written ThreeEightThree text point e = inl e
