-- How long links are proved: laws over the table (Q.703 §7.3).
use Rattle.std.specs.Prelude.{◌≡◌, ◌≢◌, ◌⊎◌, Bool, true, false, Some}
use Rattle.m2pa_codec.specs.declared.status.LinkStatus.TheVariants.{Alignment as AlignmentStatus, ProvingNormal, ProvingEmergency}
use Rattle.link.specs.declared.action.Action.TheVariants.{Go}
use Rattle.link.specs.declared.action.Input.{Input}
use Rattle.link.specs.declared.action.Input.TheVariants.{Status}
use Rattle.link.specs.declared.action.LinkTimer.TheVariants.{L3, L4}
use Rattle.link.specs.declared.action.Transition.{Transition}
use Rattle.link.specs.declared.alignment.Alignment.{Alignment}
use Rattle.link.specs.declared.alignment.Alignment.TheVariants.{NotAligned, Aligned, Proving}
use Rattle.link.specs.declared.period.Period.{Period}
use Rattle.link.specs.declared.period.Period.TheVariants.{Fixed, Normal, Hurried, Emergency}
use Rattle.link.specs.Table.{action_at, period_after, proving_status}

-- whether a link is proved for the emergency period
abbrev pub is_short : Period → Bool
is_short Fixed = false
is_short Normal = false
is_short Hurried = true
is_short Emergency = true

-- a period that a link chooses itself
abbrev pub IsOwn : Period → Type 0
IsOwn period = (period ≡ Normal) ⊎ (period ≡ Emergency)

-- two ends whose periods aren't fixed tell each other how they want to be proved: then both are proved for the same
-- period, that of emergency if either wants it
abbrev pub both_ends_are_proved_alike : Type 0
both_ends_are_proved_alike =
    (one other : Period) → IsOwn one → IsOwn other →
    (is_short (period_after one (Status (proving_status other)))
    ≡ is_short (period_after other (Status (proving_status one))))
    × ((one ≡ Emergency) ⊎ (other ≡ Emergency) →
    is_short (period_after one (Status (proving_status other))) ≡ true)

-- A link asks for emergency proving only if its own period is that of emergency, and for normal proving only if it
-- isn't; and no input gives it that as its own. So what it sends doesn't depend on what the peer asks for (Q.703 §7.2).
pub record TellsItsOwn (period : Period) (step : Transition) : Type 0 where
  pub emergency : step.send ≡ Some ProvingEmergency → period ≡ Emergency
  pub normal : step.send ≡ Some ProvingNormal → period ≢ Emergency
  pub kept : period ≡ Emergency → step.period ≡ Emergency
  pub own : step.period ≡ Emergency → period ≡ Emergency

abbrev pub links_tell_their_own_period : Type 0
links_tell_their_own_period =
    (period : Period) (state : Alignment) (input : Input) (step : Transition) →
    action_at period state input ≡ Go step → TellsItsOwn period step

-- by a step of a link L4 starts, and the link is proved for the emergency period
pub record IsHurried (step : Transition) : Type 0 where
  pub ready : Bool
  pub state : step.state ≡ Proving ready
  pub period : step.period ≡ Hurried
  pub start : step.start ≡ Some L4

-- a peer that asks for emergency proving gets it, before proving begins and while it goes on for the normal period
abbrev pub emergency_proving_begins_when_the_peer_asks : Type 0
emergency_proving_begins_when_the_peer_asks =
    (state : Alignment) → (state ≡ NotAligned) ⊎ ((state ≡ Aligned) ⊎ ((ready : Bool) × (state ≡ Proving ready))) →
    (step : Transition) × (action_at Normal state (Status ProvingEmergency) ≡ Go step) × IsHurried step

-- nothing else changes the period of a link, but that a peer that aligns anew has asked for nothing yet
abbrev pub periods_stay : Type 0
periods_stay =
    (period : Period) (state : Alignment) (input : Input) (step : Transition) →
    action_at period state input ≡ Go step →
    (step.period ≡ period)
    ⊎ (((period ≡ Normal) × (input ≡ Status ProvingEmergency) × (step.period ≡ Hurried))
    ⊎ ((period ≡ Hurried) × (input ≡ Status AlignmentStatus) × (step.period ≡ Normal)))

-- a link is aligned again by a step: what waited doesn't go out, it asks to be proved, and L3 runs in the place of L4
pub record IsAlignedAgain (period : Period) (step : Transition) : Type 0 where
  pub state : step.state ≡ Aligned
  pub stop : step.stop ≡ Some L4
  pub anew : step.anew ≡ true
  pub sent : step.send ≡ Some (proving_status period)
  pub start : step.start ≡ Some L3

-- a peer that aligns anew while a link is proved finds it aligned
abbrev pub links_align_again_with_their_peers : Type 0
links_align_again_with_their_peers =
    (period : Period) (ready : Bool) → period ≢ Fixed →
    (step : Transition) × (action_at period (Proving ready) (Status AlignmentStatus) ≡ Go step)
    × IsAlignedAgain period step
