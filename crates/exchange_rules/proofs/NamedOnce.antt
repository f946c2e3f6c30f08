-- How often notices name a link as failed.
use Rattle.exchange_rules.proofs.Basics.{◌≡◌, ◌<◌, ◌≤◌, ◌+◌, ℕ, Bool, true, false, cond, List, [], ◌∷◌, ◌++◌, count_by, refl, ap, subst, arith, eqb-true}
use Rattle.std.specs.Prelude.{Contains}
use Rattle.std.proofs.lemmas.List.Elements.{Contains-append_left, Contains-append_right, Contains-push}
use Rattle.signalling_types.specs.declared.notice.FailureReason.{FailureReason}
use Rattle.signalling_types.specs.declared.notice.Notice.{Notice}
use Rattle.signalling_types.specs.declared.notice.Notice.TheVariants as notices
use Rattle.exchange_rules.specs.LawsOfCauses.{says_failed}
use Rattle.exchange_rules.proofs.Naming.{most-one, counts-append}

pub at-most-one : (p : Notice → Bool) (x : Notice) → count_by p (x ∷ []) ≤ 1
at-most-one p x = most-one p x

pub count-joined : (p : Notice → Bool) (xs ys : List Notice) → count_by p (xs ++ ys) ≡ count_by p xs + count_by p ys
count-joined p xs ys = counts-append p xs ys

-- what says that a link failed is such a notice
said : (link : ℕ) (x : Notice) → says_failed link x ≡ true → (why : FailureReason) × (x ≡ notices.Failed link why)
said link (notices.Failed other why) e = (why, ap (λ (l : ℕ). notices.Failed l why) (eqb-true other link e))
said link (notices.Lost cause point sls) e = absurd cc
said link (notices.Unsent cause point) e = absurd cc
said link (notices.Expired timer other) e = absurd cc
said link (notices.Unbarred by other) e = absurd cc
said link (notices.Refused cause other) e = absurd cc
said link (notices.Frame fault other) e = absurd cc
said link (notices.Late timer number) e = absurd cc

abbrev IsNamed : ℕ → List Notice → Type 0
IsNamed link made = (why : FailureReason) × Contains made (notices.Failed link why)

-- if some notice says so, it is among them
pub named-in : (link : ℕ) (made : List Notice) → 0 < count_by (says_failed link) made → IsNamed link made
named-in link [] some = absurd (omega (arith, some))
named-in link (x ∷ made) some =
    let goal : 0 < cond (says_failed link x) 1 0 + count_by (says_failed link) made = omega (arith, some, counts-append (says_failed link) (x ∷ []) made) in
    by (says_failed link x) refl goal (λ more. named-in link made more)
  where
    by : (b : Bool) → says_failed link x ≡ b → 0 < cond b 1 0 + count_by (says_failed link) made → (0 < count_by (says_failed link) made → IsNamed link made) → IsNamed link (x ∷ made)
    by true e more rest =
        let it : (why : FailureReason) × (x ≡ notices.Failed link why) = said link x e in
        (it.0, Contains-append_left (x ∷ []) made (notices.Failed link it.0) (subst (λ (y : Notice). Contains (x ∷ []) y) it.1 (Contains-push [] x)))
    by false e more rest =
        let it : IsNamed link made = rest (omega (arith, more)) in
        (it.0, Contains-append_right (x ∷ []) made (notices.Failed link it.0) it.1)
