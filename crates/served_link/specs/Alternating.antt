-- What becomes of one alarm, look after look.
use Rattle.std.specs.Prelude.{◌≡◌, ℕ, Bool, true, false, List, [], ◌∷◌, ◌++◌, Option, None, Some, is_some}
use Rattle.std.specs.Option.{option_to_list}
use Rattle.served_link.specs.Alarms.{after_look, change_of}
use Rattle.served_link.specs.declared.alarms.AlarmChange.{AlarmChange}
use Rattle.served_link.specs.declared.alarms.AlarmChange.TheVariants.{Raised, Cleared}

-- a look at what an alarm is about: whether it is to be raised, and when that was
pub record Look : Type 0 where
  pub is_on : Bool
  pub now : ℕ

-- what becomes of an alarm by these looks, one after another
abbrev pub changes : List Look → (since : Option ℕ) → List AlarmChange
changes [] since = []
changes (look ∷ looks) since =
    option_to_list (change_of look.is_on since) ++ changes looks (after_look look.is_on look.now since)

-- since when it is raised after them
abbrev pub after_looks : List Look → (since : Option ℕ) → Option ℕ
after_looks [] since = since
after_looks (look ∷ looks) since = after_looks looks (after_look look.is_on look.now since)

-- an alarm that is raised is cleared before it is raised again, and none is cleared that isn't raised
abbrev pub Alternates : (is_raised : Bool) → List AlarmChange → Type 0
Alternates is_raised [] = Unit
Alternates false (Raised ∷ changes) = Alternates true changes
Alternates false (Cleared since ∷ changes) = ⊥
Alternates true (Raised ∷ changes) = ⊥
Alternates true (Cleared since ∷ changes) = Alternates false changes

-- whether an alarm is raised after these changes
abbrev pub raised_by : (is_raised : Bool) → List AlarmChange → Bool
raised_by is_raised [] = is_raised
raised_by is_raised (Raised ∷ changes) = raised_by true changes
raised_by is_raised (Cleared since ∷ changes) = raised_by false changes
