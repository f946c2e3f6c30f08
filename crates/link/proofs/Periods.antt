-- How long links are proved, by the table.
use Rattle.std.proofs.Common.{◌==◌, ◌&&◌, not, if◌then◌else◌, List, [], ◌∷◌, ◌≡◌, ◌⊎◌, inl, inr, Bool, true, false, Option, Some, None, refl, ap, sym, subst, ◌∙◌}
use Rattle.m2pa_codec.specs.declared.status.LinkStatus.{LinkStatus}
use Rattle.m2pa_codec.specs.declared.status.LinkStatus.TheVariants.{Alignment as AlignmentStatus, ProvingNormal, ProvingEmergency, Ready, ProcessorOutage, ProcessorRecovered, Busy, BusyEnded, OutOfService}
use Rattle.link.specs.declared.action.Action.{Action}
use Rattle.link.specs.declared.action.Action.TheVariants.{Ignored, Fail, Go}
use Rattle.link.specs.declared.action.Input.{Input}
use Rattle.link.specs.declared.action.Input.TheVariants.{Status, UserData, Expiry}
use Rattle.link.specs.declared.action.Transition.{Transition}
use Rattle.link.specs.declared.alignment.Alignment.{Alignment}
use Rattle.link.specs.declared.alignment.Alignment.TheVariants.{Proving}
use Rattle.link.specs.declared.period.Period.{Period}
use Rattle.link.specs.declared.period.Period.TheVariants.{Fixed, Normal, Hurried, Emergency}
use Rattle.link.specs.Table.{Cell, is_same_input, proving_status, state_number, Effect, Fails, Remembers, Enters, EntersServing, BeginsAgain, Serves, Passes, action_at, action_of, effect_in, period_after, table}
use Rattle.link.specs.Periods.{IsHurried, IsOwn, is_short, links_tell_their_own_period, both_ends_are_proved_alike, emergency_proving_begins_when_the_peer_asks, periods_stay, links_align_again_with_their_peers}

-- whether it is one that a link chooses itself
abbrev may_choose : Period → Bool
may_choose Fixed = false
may_choose Normal = true
may_choose Hurried = false
may_choose Emergency = true

no-own : (period : Period) → may_choose period ≡ false → IsOwn period → ⊥
no-own period e (inl f) = (let no : false ≡ true = sym e ∙ ap may_choose f in cc)
no-own period e (inr f) = (let no : false ≡ true = sym e ∙ ap may_choose f in cc)

pub proved_alike : both_ends_are_proved_alike
proved_alike one other e f = by one other e f
  where
    neither : (Normal ≡ Emergency) ⊎ (Normal ≡ Emergency) → false ≡ true
    neither (inl wish) = absurd (let no : Normal ≡ Emergency = wish in cc)
    neither (inr wish) = absurd (let no : Normal ≡ Emergency = wish in cc)

    by : (one other : Period) → IsOwn one → IsOwn other
        → (is_short (period_after one (Status (proving_status other))) ≡ is_short (period_after other (Status (proving_status one))))
        × ((one ≡ Emergency) ⊎ (other ≡ Emergency) → is_short (period_after one (Status (proving_status other))) ≡ true)
    by Normal Normal e f = (refl, neither)
    by Normal Emergency e f = (refl, λ wish. refl)
    by Emergency Normal e f = (refl, λ wish. refl)
    by Emergency Emergency e f = (refl, λ wish. refl)
    by Fixed other e f = absurd (no-own Fixed refl e)
    by Hurried other e f = absurd (no-own Hurried refl e)
    by Normal Fixed e f = absurd (no-own Fixed refl f)
    by Normal Hurried e f = absurd (no-own Hurried refl f)
    by Emergency Fixed e f = absurd (no-own Fixed refl f)
    by Emergency Hurried e f = absurd (no-own Hurried refl f)

abbrev Hurries : Alignment → Type 0
Hurries state = (step : Transition) × (action_at Normal state (Status ProvingEmergency) ≡ Go step) × IsHurried step

from_proving : (ready : Bool) → Hurries (Proving ready)
from_proving true = (_, refl, record { ready = true; state = refl; period = refl; start = refl })
from_proving false = (_, refl, record { ready = false; state = refl; period = refl; start = refl })

pub peer_asks : emergency_proving_begins_when_the_peer_asks
peer_asks state (inl e) = subst Hurries (sym e) (_, refl, record { ready = false; state = refl; period = refl; start = refl })
peer_asks state (inr (inl e)) = subst Hurries (sym e) (_, refl, record { ready = false; state = refl; period = refl; start = refl })
peer_asks state (inr (inr e)) = subst Hurries (sym e.1) (from_proving e.0)

-- ---- the period of a step

abbrev pub period_in : Period → Action → Period
period_in other Ignored = other
period_in other Fail = other
period_in other (Go step) = step.period

pub same-period : (later : Period) (state : Alignment) (effect : Option Effect) → period_in later (action_of later state effect) ≡ later
same-period later state None = refl
same-period later state (Some Fails) = refl
same-period later state (Some Remembers) = refl
same-period later state (Some (Enters next sent started)) = refl
same-period later state (Some EntersServing) = refl
same-period later state (Some BeginsAgain) = refl
same-period later state (Some Serves) = refl
same-period later state (Some Passes) = refl

-- nothing changes it, the peer asks for emergency proving, or it aligns anew
abbrev Stays : (period later : Period) → Input → Type 0
Stays period later input =
    (later ≡ period)
    ⊎ (((period ≡ Normal) × (input ≡ Status ProvingEmergency) × (later ≡ Hurried)) ⊎ ((period ≡ Hurried) × (input ≡ Status AlignmentStatus) × (later ≡ Normal)))

stays : (period : Period) (input : Input) → Stays period (period_after period input) input
stays Fixed input = inl refl
stays Emergency input = inl refl
stays Normal UserData = inl refl
stays Normal (Expiry timer) = inl refl
stays Normal (Status ProvingEmergency) = inr (inl (refl, refl, refl))
stays Normal (Status AlignmentStatus) = inl refl
stays Normal (Status ProvingNormal) = inl refl
stays Normal (Status Ready) = inl refl
stays Normal (Status ProcessorOutage) = inl refl
stays Normal (Status ProcessorRecovered) = inl refl
stays Normal (Status Busy) = inl refl
stays Normal (Status BusyEnded) = inl refl
stays Normal (Status OutOfService) = inl refl
stays Hurried UserData = inl refl
stays Hurried (Expiry timer) = inl refl
stays Hurried (Status ProvingEmergency) = inl refl
stays Hurried (Status AlignmentStatus) = inr (inr (refl, refl, refl))
stays Hurried (Status ProvingNormal) = inl refl
stays Hurried (Status Ready) = inl refl
stays Hurried (Status ProcessorOutage) = inl refl
stays Hurried (Status ProcessorRecovered) = inl refl
stays Hurried (Status Busy) = inl refl
stays Hurried (Status BusyEnded) = inl refl
stays Hurried (Status OutOfService) = inl refl

step-later : (period : Period) (state : Alignment) (input : Input) (step : Transition) → action_at period state input ≡ Go step → step.period ≡ period_after period input
step-later period state input step e =
    sym (ap (period_in (period_after period input)) e) ∙ same-period (period_after period input) state (effect_in (table period) state input)

pub period_stays : periods_stay
period_stays period state input step e =
    subst (λ (later : Period). Stays period later input) (sym (step-later period state input step e)) (stays period input)

-- ---- what a link sends

abbrev is_emergency : Period → Bool
is_emergency Fixed = false
is_emergency Normal = false
is_emergency Hurried = false
is_emergency Emergency = true

abbrev tells : (emergency : Bool) → Option LinkStatus → Bool
tells emergency None = true
tells emergency (Some AlignmentStatus) = true
tells emergency (Some ProvingNormal) = not emergency
tells emergency (Some ProvingEmergency) = emergency
tells emergency (Some Ready) = true
tells emergency (Some ProcessorOutage) = true
tells emergency (Some ProcessorRecovered) = true
tells emergency (Some Busy) = true
tells emergency (Some BusyEnded) = true
tells emergency (Some OutOfService) = true

abbrev effect_tells : (emergency : Bool) → Effect → Bool
effect_tells emergency Fails = true
effect_tells emergency Remembers = true
effect_tells emergency (Enters state sent started) = tells emergency sent
effect_tells emergency EntersServing = true
effect_tells emergency BeginsAgain = true
effect_tells emergency Serves = true
effect_tells emergency Passes = true

abbrev all_tell : (emergency : Bool) → List Cell → Bool
all_tell emergency [] = true
all_tell emergency (c ∷ cells) = effect_tells emergency c.effect && all_tell emergency cells

cells-tell : (period : Period) → all_tell (is_emergency period) (table period) ≡ true
cells-tell Fixed = refl
cells-tell Normal = refl
cells-tell Hurried = refl
cells-tell Emergency = refl

abbrev found_tells : (emergency : Bool) → Option Effect → Bool
found_tells emergency None = true
found_tells emergency (Some effect) = effect_tells emergency effect

first-true : (a b : Bool) → (a && b) ≡ true → a ≡ true
first-true true b e = refl
first-true false b e = absurd cc

other-true : (a b : Bool) → (a && b) ≡ true → b ≡ true
other-true true b e = e
other-true false b e = absurd cc

either-tells : (emergency b : Bool) (effect : Effect) (other : Option Effect) → effect_tells emergency effect ≡ true → found_tells emergency other ≡ true
    → found_tells emergency (if b then Some effect else other) ≡ true
either-tells emergency true effect other e f = e
either-tells emergency false effect other e f = f

found-tells : (emergency : Bool) (cells : List Cell) (a : Alignment) (input : Input) → all_tell emergency cells ≡ true → found_tells emergency (effect_in cells a input) ≡ true
found-tells emergency [] a input e = refl
found-tells emergency (c ∷ cells) a input e =
    either-tells emergency ((state_number c.state == state_number a) && is_same_input c.input input) c.effect (effect_in cells a input)
    (first-true (effect_tells emergency c.effect) (all_tell emergency cells) e)
    (found-tells emergency cells a input (other-true (effect_tells emergency c.effect) (all_tell emergency cells) e))

abbrev sent_in : Action → Option LinkStatus
sent_in Ignored = None
sent_in Fail = None
sent_in (Go step) = step.send

-- one that aligns again asks as it did
again-tells : (period : Period) (input : Input) → tells (is_emergency period) (Some (proving_status (period_after period input))) ≡ true
again-tells Fixed input = refl
again-tells Emergency input = refl
again-tells Normal input = by (is_same_input input (Status ProvingEmergency))
  where
    by : (b : Bool) → tells false (Some (proving_status (if b then Hurried else Normal))) ≡ true
    by true = refl
    by false = refl
again-tells Hurried input = by (is_same_input input (Status AlignmentStatus))
  where
    by : (b : Bool) → tells false (Some (proving_status (if b then Normal else Hurried))) ≡ true
    by true = refl
    by false = refl

action-tells : (period : Period) (state : Alignment) (input : Input) (effect : Option Effect) → found_tells (is_emergency period) effect ≡ true
    → tells (is_emergency period) (sent_in (action_of (period_after period input) state effect)) ≡ true
action-tells period state input None e = refl
action-tells period state input (Some Fails) e = refl
action-tells period state input (Some Remembers) e = refl
action-tells period state input (Some (Enters next sent started)) e = e
action-tells period state input (Some EntersServing) e = refl
action-tells period state input (Some BeginsAgain) e = again-tells period input
action-tells period state input (Some Serves) e = refl
action-tells period state input (Some Passes) e = refl

emergency-is : (period : Period) → is_emergency period ≡ true → period ≡ Emergency
emergency-is Fixed e = absurd cc
emergency-is Normal e = absurd cc
emergency-is Hurried e = absurd cc
emergency-is Emergency e = refl

after-own : (period : Period) (input : Input) → period_after period input ≡ Emergency → period ≡ Emergency
after-own Fixed input e = absurd (let no : Fixed ≡ Emergency = e in cc)
after-own Emergency input e = refl
after-own Normal input e = absurd (by (is_same_input input (Status ProvingEmergency)) e)
  where
    by : (b : Bool) → (if b then Hurried else Normal) ≡ Emergency → ⊥
    by true f = cc
    by false f = cc
after-own Hurried input e = absurd (by (is_same_input input (Status AlignmentStatus)) e)
  where
    by : (b : Bool) → (if b then Normal else Hurried) ≡ Emergency → ⊥
    by true f = cc
    by false f = cc

pub tells_own : links_tell_their_own_period
tells_own period state input step e = record {
  emergency = λ sent. emergency-is period (sym (ap (tells (is_emergency period)) sent) ∙ told);
  normal = λ sent is.
      (let no : false ≡ true = ap (λ (p : Period). not (is_emergency p)) (sym is) ∙ (sym (ap (tells (is_emergency period)) sent) ∙ told) in cc);
  kept = λ is. later ∙ ap (λ (p : Period). period_after p input) is;
  own = λ is. after-own period input (sym later ∙ is);
}
  where
    later : step.period ≡ period_after period input
    later = step-later period state input step e

    told : tells (is_emergency period) step.send ≡ true
    told =
        ap (λ (x : Action). tells (is_emergency period) (sent_in x)) (sym e)
        ∙ action-tells period state input (effect_in (table period) state input) (found-tells (is_emergency period) (table period) state input (cells-tell period))

pub aligned_again : links_align_again_with_their_peers
aligned_again Fixed ready other = absurd (other refl)
aligned_again Normal true other = (_, refl, record { state = refl; stop = refl; anew = refl; sent = refl; start = refl })
aligned_again Normal false other = (_, refl, record { state = refl; stop = refl; anew = refl; sent = refl; start = refl })
aligned_again Hurried true other = (_, refl, record { state = refl; stop = refl; anew = refl; sent = refl; start = refl })
aligned_again Hurried false other = (_, refl, record { state = refl; stop = refl; anew = refl; sent = refl; start = refl })
aligned_again Emergency true other = (_, refl, record { state = refl; stop = refl; anew = refl; sent = refl; start = refl })
aligned_again Emergency false other = (_, refl, record { state = refl; stop = refl; anew = refl; sent = refl; start = refl })
