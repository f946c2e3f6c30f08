-- The digits of a number, and the number of digits.
use Rattle.std.proofs.Common.{◌≡◌, ◌<◌, ℕ, ◌+◌, ◌*◌, ◌/◌, ◌%◌, List, [], ◌∷◌, ◌++◌, ◌∙◌, ap, sym, take, drop, length, arith}
use Rattle.std.proofs.Math.Seq.{take-append_seam}
use Rattle.std.proofs.lemmas.List.{take-append-drop}
use Rattle.std.specs.Str.{IsAscii, IsUtf8}
use Rattle.std.proofs.lemmas.Str.{IsUtf8-from_ascii}
use Rattle.std.proofs.lemmas.Str.Ascii.{IsAscii-cons, IsAscii-nil}
use Rattle.trace.specs.Names.{behind_name, digit, eight_digits, four_digits, value_of_four}

-- four digits say their number
four : (number : ℕ) → number < 10000 →
    value_of_four (digit (number / 1000)) (digit (number / 100 % 10)) (digit (number / 10 % 10)) (digit (number % 10)) ≡ number
four number few = omega (arith, few)

halves : (number front back : ℕ) → number < 100000000 → front ≡ number / 10000 → back ≡ number % 10000 →
    (10000 * front + back) % 100000000 ≡ number
halves number front back few e f = omega (arith, few, e, f)

-- and so do eight
pub eight : (number : ℕ) → number < 100000000 →
    (10000 * value_of_four (digit (number / 10000 / 1000)) (digit (number / 10000 / 100 % 10)) (digit (number / 10000 / 10 % 10)) (digit (number / 10000 % 10))
    + value_of_four (digit (number % 10000 / 1000)) (digit (number % 10000 / 100 % 10)) (digit (number % 10000 / 10 % 10)) (digit (number % 10000 % 10)))
    % 100000000 ≡ number
eight number few =
    halves number _ _ few (four (number / 10000) (omega (arith, few))) (four (number % 10000) (omega arith))

-- ---- they are text

digits-ascii : (number : ℕ) (rest : List ℕ) → number < 10000 → IsAscii rest → IsAscii (four_digits number ++ rest)
digits-ascii number rest few all =
    IsAscii-cons (digit (number / 1000)) (digit (number / 100 % 10) ∷ digit (number / 10 % 10) ∷ digit (number % 10) ∷ rest) (omega (arith, few))
    (IsAscii-cons (digit (number / 100 % 10)) (digit (number / 10 % 10) ∷ digit (number % 10) ∷ rest) (omega arith)
    (IsAscii-cons (digit (number / 10 % 10)) (digit (number % 10) ∷ rest) (omega arith)
    (IsAscii-cons (digit (number % 10)) rest (omega arith) all)))

pub behind-utf8 : (number : ℕ) → number < 100000000 → IsUtf8 (behind_name number)
behind-utf8 number few =
    IsUtf8-from_ascii (behind_name number)
    (IsAscii-cons 46 (eight_digits number) (omega arith)
    (digits-ascii (number / 10000) (four_digits (number % 10000)) (omega (arith, few))
    (digits-ascii (number % 10000) [] (omega arith) IsAscii-nil)))

-- ---- a text of two parts

pub joined : (front text begins behind : List ℕ) → begins ≡ front → begins ≡ take (length front) text →
    behind ≡ drop (length front) text → text ≡ front ++ behind
joined front text begins behind same first rest =
    sym (take-append-drop (length front) text)
    ∙ ap (λ (xs : List ℕ). xs ++ drop (length front) text) (sym first ∙ same)
    ∙ ap (λ (xs : List ℕ). front ++ xs) (sym rest)

pub begins_with : (front text begins behind : List ℕ) → text ≡ front ++ behind → begins ≡ take (length front) text →
    begins ≡ front
begins_with front text begins behind e first =
    first ∙ ap (λ (xs : List ℕ). take (length front) xs) e ∙ take-append_seam front behind
