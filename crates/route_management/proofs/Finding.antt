-- No number is marked between one and the next, or past the bound.
use Rattle.route_management.proofs.Basics.{◌≡◌, ◌≤◌, ◌+◌, ℕ, zero, suc, Bool, false, List, [], ◌∷◌, length, refl, ap, ◌∙◌, inl, inr, arith, eqb_tells, leb_tells, is_marked, NoneFrom, NoneBetween}

pub none_yet : (marks : List Bool) (from : ℕ) → NoneBetween marks from from
none_yet marks from = λ number least below. absurd (omega (arith, least, below))

pub one_more : (marks : List Bool) (from at : ℕ) → NoneBetween marks from at → is_marked marks at ≡ false → NoneBetween marks from (at + 1)
one_more marks from at none here = λ number least below.
    elim (eqb_tells number at) [
      | inl same ↦ ap (λ (n : ℕ). is_marked marks n) same.1 ∙ here
      | inr apart ↦ none number least (omega (arith, below, apart.1))
    ]

pub past_all : (marks : List Bool) (number : ℕ) → length marks ≤ number → is_marked marks number ≡ false
past_all [] number past = refl
past_all (mark ∷ marks) zero past = absurd (omega (arith, past))
past_all (mark ∷ marks) (suc number) past = past_all marks number (omega (arith, past))

-- if none is from one on up to another, and none of the numbers after that, none is up to an end
pub joined : (marks : List Bool) (from at end : ℕ) → NoneBetween marks from at → NoneBetween marks at end → NoneBetween marks from end
joined marks from at end before behind = λ number least below.
    elim (leb_tells at number) [
      | inl l ↦ behind number l.1 below
      | inr l ↦ before number least l.1
    ]

-- all were looked at
pub past_none : (marks : List Bool) (from at : ℕ) → NoneBetween marks from at → length marks ≤ at → NoneFrom marks from
past_none marks from at before past = λ number least.
    elim (leb_tells at number) [
      | inl l ↦ past_all marks number (omega (arith, l.1, past))
      | inr l ↦ before number least l.1
    ]
