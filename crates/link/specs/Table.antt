-- Link alignment (RFC 4165 §4.1.3, Q.703 §7), in a table of states and inputs of this node's own.
use Rattle.std.specs.Prelude.{ℕ, Bool, true, false, Option, Some, None, List, [], ◌∷◌, ◌==◌, ◌&&◌, if◌then◌else◌}
use Rattle.m2pa_codec.specs.Frames.{status_number}
use Rattle.m2pa_codec.specs.declared.status.LinkStatus.{LinkStatus}
use Rattle.m2pa_codec.specs.declared.status.LinkStatus.TheVariants.{Alignment as AlignmentStatus, ProvingNormal, ProvingEmergency, Ready, ProcessorOutage, Busy, BusyEnded, OutOfService}
use Rattle.link.specs.declared.alignment.Alignment.{Alignment}
use Rattle.link.specs.declared.alignment.Alignment.TheVariants.{Down, NotAligned, Aligned, Proving, AlignedReady, InService}
use Rattle.link.specs.declared.action.LinkTimer.{LinkTimer}
use Rattle.link.specs.declared.action.LinkTimer.TheVariants.{L1, L2, L3, L4, L6, L7}
use Rattle.link.specs.declared.action.Input.{Input}
use Rattle.link.specs.declared.action.Input.TheVariants.{Status, UserData, Expiry}
use Rattle.link.specs.declared.period.Period.{Period}
use Rattle.link.specs.declared.period.Period.TheVariants.{Fixed, Normal, Hurried, Emergency}
use Rattle.link.specs.declared.action.Action.{Action}
use Rattle.link.specs.declared.action.Action.TheVariants.{Ignored, Fail, Go}
use Rattle.link.specs.declared.action.Transition.{Transition}

-- what a cell of the table says
pub data Effect : Type 0 where
  -- the link fails
  Fails : Effect
  -- Ready is remembered until Proving is left
  Remembers : Effect
  -- the link enters a state; a status is sent and a timer starts, if one is named
  Enters : (state : Alignment) (sent : Option LinkStatus) (started : Option LinkTimer) → Effect
  -- the link enters service, and the input is then handled there
  EntersServing : Effect
  -- the peer began anew: the link is aligned again, and what waited to go out doesn't
  BeginsAgain : Effect
  -- the rules of a link in service handle the input
  Serves : Effect
  -- nothing, as in a cell that isn't there
  Passes : Effect

pub record Cell : Type 0 where
  pub state : Alignment
  pub input : Input
  pub effect : Effect

abbrev pub cell : Alignment → Input → Effect → Cell
cell state input effect = record { state = state; input = input; effect = effect }

-- the status by which a link asks to be proved: by its own period, whatever the peer asks for (Q.703 §7.2)
abbrev pub proving_status : Period → LinkStatus
proving_status Fixed = ProvingNormal
proving_status Normal = ProvingNormal
proving_status Hurried = ProvingNormal
proving_status Emergency = ProvingEmergency

-- the peer asks for emergency proving while a link is proved: normal proving ends, and emergency proving begins
-- (Q.703 §7.3)
abbrev pub hurrying : Period → (ready : Bool) → Effect
hurrying Fixed ready = Passes
hurrying Normal ready = Enters (Proving ready) None (Some L4)
hurrying Hurried ready = Passes
hurrying Emergency ready = Passes

-- the peer aligns anew while a link is proved (Q.703 §7.3)
abbrev pub beginning_again : Period → Effect
beginning_again Fixed = Passes
beginning_again Normal = BeginsAgain
beginning_again Hurried = BeginsAgain
beginning_again Emergency = BeginsAgain

-- by the period before the input
abbrev pub table : Period → List Cell
table period =
    cell NotAligned (Status AlignmentStatus) (Enters Aligned (Some (proving_status period)) (Some L3))
    ∷ cell NotAligned (Status ProvingNormal) (Enters (Proving false) (Some (proving_status period)) (Some L4))
    ∷ cell NotAligned (Status ProvingEmergency) (Enters (Proving false) (Some (proving_status period)) (Some L4))
    ∷ cell NotAligned (Expiry L2) Fails
    ∷ cell NotAligned UserData Fails
    ∷ cell Aligned (Status ProvingNormal) (Enters (Proving false) None (Some L4))
    ∷ cell Aligned (Status ProvingEmergency) (Enters (Proving false) None (Some L4))
    ∷ cell Aligned (Expiry L3) Fails
    ∷ cell Aligned (Status OutOfService) Fails
    ∷ cell Aligned UserData Fails
    ∷ cell (Proving false) (Status Ready) Remembers
    ∷ cell (Proving true) (Status Ready) Remembers
    ∷ cell (Proving false) (Status ProvingEmergency) (hurrying period false)
    ∷ cell (Proving true) (Status ProvingEmergency) (hurrying period true)
    ∷ cell (Proving false) (Status AlignmentStatus) (beginning_again period)
    ∷ cell (Proving true) (Status AlignmentStatus) (beginning_again period)
    ∷ cell (Proving false) (Expiry L4) (Enters AlignedReady (Some Ready) (Some L1))
    ∷ cell (Proving true) (Expiry L4) (Enters InService (Some Ready) None)
    ∷ cell (Proving false) (Status OutOfService) Fails
    ∷ cell (Proving true) (Status OutOfService) Fails
    ∷ cell (Proving false) (Status ProcessorOutage) Fails
    ∷ cell (Proving true) (Status ProcessorOutage) Fails
    ∷ cell (Proving false) UserData Fails
    ∷ cell (Proving true) UserData Fails
    ∷ cell AlignedReady (Status Ready) (Enters InService None None)
    ∷ cell AlignedReady UserData EntersServing
    ∷ cell AlignedReady (Expiry L1) Fails
    ∷ cell AlignedReady (Status AlignmentStatus) Fails
    ∷ cell AlignedReady (Status OutOfService) Fails
    ∷ cell AlignedReady (Status ProcessorOutage) Fails
    ∷ cell InService (Status Busy) Serves
    ∷ cell InService (Status BusyEnded) Serves
    ∷ cell InService UserData Serves
    ∷ cell InService (Expiry L6) Fails
    ∷ cell InService (Expiry L7) Fails
    ∷ cell InService (Status AlignmentStatus) Fails
    ∷ cell InService (Status ProvingNormal) Fails
    ∷ cell InService (Status ProvingEmergency) Fails
    ∷ cell InService (Status OutOfService) Fails
    ∷ cell InService (Status ProcessorOutage) Fails
    ∷ []

-- ---- a cell is found by its state and its input

abbrev pub state_number : Alignment → ℕ
state_number Down = 0
state_number NotAligned = 1
state_number Aligned = 2
state_number (Proving ready) = if ready then 4 else 3
state_number AlignedReady = 5
state_number InService = 6

abbrev pub timer_number : LinkTimer → ℕ
timer_number L1 = 1
timer_number L2 = 2
timer_number L3 = 3
timer_number L4 = 4
timer_number L6 = 6
timer_number L7 = 7

abbrev pub is_same_input : Input → Input → Bool
is_same_input (Status x) (Status y) = status_number x == status_number y
is_same_input UserData UserData = true
is_same_input (Expiry x) (Expiry y) = timer_number x == timer_number y
is_same_input _ _ = false

abbrev pub effect_in : List Cell → Alignment → Input → Option Effect
effect_in [] state input = None
effect_in (c ∷ cells) state input =
    if (state_number c.state == state_number state) && is_same_input c.input input
    then Some c.effect
    else effect_in cells state input

-- ---- what a cell's effect is for a link

-- the timer that runs in a state
abbrev pub timer_of : Alignment → Option LinkTimer
timer_of Down = None
timer_of NotAligned = Some L2
timer_of Aligned = Some L3
timer_of (Proving ready) = Some L4
timer_of AlignedReady = Some L1
timer_of InService = None

-- the period after an input: either end's wish for emergency proving makes both use it (Q.703 §7.3). A peer that
-- aligns anew says again what it wishes
abbrev pub period_after : Period → Input → Period
period_after Fixed input = Fixed
period_after Normal input = if is_same_input input (Status ProvingEmergency) then Hurried else Normal
period_after Hurried input = if is_same_input input (Status AlignmentStatus) then Normal else Hurried
period_after Emergency input = Emergency

-- entering a state stops the timer of the state before
abbrev pub entering : (before after : Alignment) → Period → Option LinkStatus → Option LinkTimer → Transition
entering before after period sent started = record {
  state = after;
  period = period;
  stop = timer_of before;
  anew = false;
  send = sent;
  start = started;
  serve = false;
}

-- the state stays, and no timer with it
abbrev pub staying : Alignment → Period → Transition
staying state period =
    record { state = state; period = period; stop = None; anew = false; send = None; start = None; serve = false }

-- every other cell is Ignored; the period is that after the input
abbrev pub action_of : Period → Alignment → Option Effect → Action
action_of after state None = Ignored
action_of after state (Some Fails) = Fail
action_of after state (Some Remembers) = Go (staying (Proving true) after)
action_of after state (Some (Enters next sent started)) = Go (entering state next after sent started)
action_of after state (Some EntersServing) = Go (record (entering state InService after None None) { serve = true })
action_of after state (Some BeginsAgain) =
    Go (record (entering state Aligned after (Some (proving_status after)) (Some L3)) { anew = true })
action_of after state (Some Serves) = Go (record (staying state after) { serve = true })
action_of after state (Some Passes) = Ignored

-- an association leads from Down to NotAligned
abbrev pub opening : Period → Transition
opening period = record {
  state = NotAligned;
  period = period;
  stop = None;
  anew = false;
  send = Some AlignmentStatus;
  start = Some L2;
  serve = false;
}

-- what a link in a state does about an input
abbrev pub action_at : Period → Alignment → Input → Action
action_at period state input =
    action_of (period_after period input) state (effect_in (table period) state input)
