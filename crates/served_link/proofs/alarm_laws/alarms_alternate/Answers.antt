-- By induction on the looks: whether the alarm is raised, and whether it is to be.
use Rattle.std.proofs.Common.{◌≡◌, ℕ, Option, None, Some, is_some, Bool, true, false, List, [], ◌∷◌, refl}
use Rattle.served_link.specs.Alarms.{after_look}
use Rattle.served_link.specs.Alternating.{Look, Alternates, after_looks, raised_by, changes}
use Rattle.served_link.proofs.alarm_laws.alarms_alternate.Goals as goal

-- one look more, by whether the alarm is to be raised by it
alternate-by : (is_on : Bool) (now : ℕ) (looks : List Look) (since : Option ℕ) →
    ((s : Option ℕ) → Alternates (is_some s) (changes looks s)) →
    Alternates (is_some since) (changes (record { is_on = is_on; now = now } ∷ looks) since)
alternate-by true now looks None h = h (Some now)
alternate-by true now looks (Some s) h = h (Some s)
alternate-by false now looks None h = h None
alternate-by false now looks (Some s) h = h None

alternate : (looks : List Look) (since : Option ℕ) → Alternates (is_some since) (changes looks since)
alternate [] since = tt
alternate (look ∷ looks) since = alternate-by look.is_on look.now looks since (alternate looks)

told-by : (is_on : Bool) (now : ℕ) (looks : List Look) (since : Option ℕ) →
    ((s : Option ℕ) → raised_by (is_some s) (changes looks s) ≡ is_some (after_looks looks s)) →
    raised_by (is_some since) (changes (record { is_on = is_on; now = now } ∷ looks) since)
    ≡ is_some (after_looks (record { is_on = is_on; now = now } ∷ looks) since)
told-by true now looks None h = h (Some now)
told-by true now looks (Some s) h = h (Some s)
told-by false now looks None h = h None
told-by false now looks (Some s) h = h None

told : (looks : List Look) (since : Option ℕ) → raised_by (is_some since) (changes looks since) ≡ is_some (after_looks looks since)
told [] since = refl
told (look ∷ looks) since = told-by look.is_on look.now looks since (told looks)

pub returns-clause-alternate : goal.returns-clause-alternate
returns-clause-alternate c = alternate

pub returns-clause-told : goal.returns-clause-told
returns-clause-told c = told
