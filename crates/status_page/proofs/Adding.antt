-- What is put one piece after another.
use Rattle.std.proofs.Common.{◌≡◌, ◌∙◌, ℕ, List, [], ◌∷◌, ◌++◌, ap, append_assoc, Result, Ok, Err, OnOk}
use Rattle.json.specs.Token.{Token}
use Rattle.json.specs.Written.{Written, Writes}
use Rattle.status_page.specs.Members.{Adds}

-- one token
pub one : {E : Type 0} (r : Result (Unit {0}) E) (old new : Written) (t : Token) → Writes r old new t → Adds r old new (t ∷ [])
one (Ok u) old new t w = (w.ok, w.room.0)
one (Err e) old new t w = tt

-- some tokens, and others after them
pub behind : {E : Type 0} (r : Result (Unit {0}) E) (old mid new : Written) (first second : List Token)
    → (mid.tokens ≡ old.tokens ++ first) × (mid.before ≡ old.before) → Adds r mid new second → Adds r old new (first ++ second)
behind (Ok u) old mid new first second p q =
    (q.0 ∙ ap (λ (ts : List Token). ts ++ second) p.0 ∙ append_assoc old.tokens first second, q.1 ∙ p.1)
behind (Err e) old mid new first second p q = tt

-- two that were put
pub both : (old mid new : Written) (first second : List Token)
    → (mid.tokens ≡ old.tokens ++ first) × (mid.before ≡ old.before) → (new.tokens ≡ mid.tokens ++ second) × (new.before ≡ mid.before)
    → (new.tokens ≡ old.tokens ++ (first ++ second)) × (new.before ≡ old.before)
both old mid new first second p q =
    (q.0 ∙ ap (λ (ts : List Token). ts ++ second) p.0 ∙ append_assoc old.tokens first second, q.1 ∙ p.1)

-- a text, and after it another, which is the same as a third
pub text_behind : {E : Type 0} (r : Result (Unit {0}) E) (old mid new first second third : List ℕ)
    → mid ≡ old ++ first → OnOk r (new ≡ mid ++ second) → second ≡ third → OnOk r (new ≡ old ++ (first ++ third))
text_behind (Ok u) old mid new first second third p q e =
    q ∙ ap (λ (t : List ℕ). t ++ second) p ∙ append_assoc old first second ∙ ap (λ (t : List ℕ). old ++ (first ++ t)) e
text_behind (Err e) old mid new first second third p q same = tt

-- two texts that were put
pub text_both : (old mid new first second : List ℕ) → mid ≡ old ++ first → new ≡ mid ++ second → new ≡ old ++ (first ++ second)
text_both old mid new first second p q = q ∙ ap (λ (t : List ℕ). t ++ second) p ∙ append_assoc old first second

-- a text, which is the same as another
pub text_as : {E : Type 0} (r : Result (Unit {0}) E) (old new first second : List ℕ)
    → OnOk r (new ≡ old ++ first) → first ≡ second → OnOk r (new ≡ old ++ second)
text_as (Ok u) old new first second p e = p ∙ ap (λ (t : List ℕ). old ++ t) e
text_as (Err e) old new first second p same = tt
