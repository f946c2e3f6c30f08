-- What a link does by the table of its alignment: it was up, stays so, and heard the other end before it serves.
use Rattle.exchange_rules.proofs.Basics.{◌≡◌, ◌&&◌, Bool, true, false, not, List, [], ◌∷◌, Option, Some, None, refl, ap, sym, ◌∙◌, ◌==◌, if◌then◌else◌, list_all, and_parts}
use Rattle.exchange_rules.proofs.Definitions.{Input, Status, UserData, Expiry, Effect, Fails, Remembers, Enters, EntersServing, BeginsAgain, Serves, Passes, Cell, table, period_after, Period, state_number, is_same_input, effect_in, action_of, action_at, is_down, is_in_service}
use Rattle.link.specs.declared.alignment.Alignment.{Alignment}
use Rattle.link.specs.declared.alignment.Alignment.TheVariants.{Down, NotAligned, Aligned, Proving, AlignedReady, InService}
use Rattle.link.specs.declared.action.Action.{Action}
use Rattle.link.specs.declared.action.Action.TheVariants.{Ignored, Fail, Go}
use Rattle.link.specs.declared.action.LinkTimer.{LinkTimer}
use Rattle.link.specs.declared.action.LinkTimer.TheVariants as its
use Rattle.m2pa_codec.specs.declared.status.LinkStatus.TheVariants as says
use Rattle.link.specs.declared.action.Transition.{Transition}
use Rattle.exchange_rules.proofs.Serving.{in-all}
use Rattle.node_moves.proofs.Shown.{is_heard}

-- ---- by the table of the alignment a link that takes a step is up, before and after

abbrev state_in : Action → Alignment
state_in Ignored = Down
state_in Fail = Down
state_in (Go step) = step.state

abbrev leads_up : Effect → Bool
leads_up (Enters state sent started) = not (is_down state)
leads_up Fails = true
leads_up Remembers = true
leads_up EntersServing = true
leads_up BeginsAgain = true
leads_up Passes = true
leads_up Serves = true

found-up : (cells : List Cell) (a : Alignment) (input : Input) (effect : Effect) → list_all (λ (x : Cell). leads_up x.effect) cells ≡ true → effect_in cells a input ≡ Some effect
    → leads_up effect ≡ true
found-up [] a input effect all e = absurd cc
found-up (x ∷ cells) a input effect all e =
    by ((state_number x.state == state_number a) && is_same_input x.input input) e (found-up cells a input effect both.1)
  where
    both : (leads_up x.effect ≡ true) × (list_all (λ (y : Cell). leads_up y.effect) cells ≡ true)
    both = and_parts (leads_up x.effect) (list_all (λ (y : Cell). leads_up y.effect) cells) all

    by : (b : Bool) → (if b then Some x.effect else effect_in cells a input) ≡ Some effect → (effect_in cells a input ≡ Some effect → leads_up effect ≡ true) → leads_up effect ≡ true
    by true f more = (let same : x.effect ≡ effect = cc in ap leads_up (sym same) ∙ both.0)
    by false f more = more f

-- the same of a test of the states that it enters
abbrev enters_heard : Effect → Bool
enters_heard (Enters state sent started) = is_heard state
enters_heard Fails = true
enters_heard Remembers = true
enters_heard EntersServing = true
enters_heard BeginsAgain = true
enters_heard Passes = true
enters_heard Serves = true

found-heard : (cells : List Cell) (a : Alignment) (input : Input) (effect : Effect) → list_all (λ (x : Cell). enters_heard x.effect) cells ≡ true → effect_in cells a input ≡ Some effect
    → enters_heard effect ≡ true
found-heard [] a input effect all e = absurd cc
found-heard (x ∷ cells) a input effect all e =
    by ((state_number x.state == state_number a) && is_same_input x.input input) e (found-heard cells a input effect both.1)
  where
    both : (enters_heard x.effect ≡ true) × (list_all (λ (y : Cell). enters_heard y.effect) cells ≡ true)
    both = and_parts (enters_heard x.effect) (list_all (λ (y : Cell). enters_heard y.effect) cells) all

    by : (b : Bool) → (if b then Some x.effect else effect_in cells a input) ≡ Some effect → (effect_in cells a input ≡ Some effect → enters_heard effect ≡ true) → enters_heard effect ≡ true
    by true f more = (let same : x.effect ≡ effect = cc in ap enters_heard (sym same) ∙ both.0)
    by false f more = more f

pub not-so : (b : Bool) → not b ≡ true → b ≡ false
not-so true e = sym e
not-so false e = refl

pub starts-up : (period : Period) (a : Alignment) (input : Input) (step : Transition) → action_at period a input ≡ Go step → is_down a ≡ false
starts-up period Down input step e = (let no : Ignored ≡ Go step = e in absurd cc)
starts-up period NotAligned input step e = refl
starts-up period Aligned input step e = refl
starts-up period (Proving ready) input step e = refl
starts-up period AlignedReady input step e = refl
starts-up period InService input step e = refl

leads-by : (period later : Period) (effect : Option Effect) (a : Alignment) (input : Input) (step : Transition) → is_down a ≡ false → effect_in (table period) a input ≡ effect → action_of later a effect ≡ Go step → is_down step.state ≡ false
leads-by period later None a input step up f e = absurd cc
leads-by period later (Some Fails) a input step up f e = absurd cc
leads-by period later (Some Remembers) a input step up f e = sym (ap (λ (x : Action). is_down (state_in x)) e)
leads-by period later (Some (Enters state sent started)) a input step up f e =
    sym (ap (λ (x : Action). is_down (state_in x)) e) ∙ not-so (is_down state) (found-up (table period) a input (Enters state sent started) (in-all (λ (x : Cell). leads_up x.effect) period (record { fixed = refl; normal = refl; hurried = refl; emergency = refl })) f)
leads-by period later (Some EntersServing) a input step up f e = sym (ap (λ (x : Action). is_down (state_in x)) e)
leads-by period later (Some BeginsAgain) a input step up f e = sym (ap (λ (x : Action). is_down (state_in x)) e)
leads-by period later (Some Passes) a input step up f e = absurd cc
leads-by period later (Some Serves) a input step up f e = sym (ap (λ (x : Action). is_down (state_in x)) e) ∙ up

pub leads-up : (period : Period) (a : Alignment) (input : Input) (step : Transition) → action_at period a input ≡ Go step → is_down step.state ≡ false
leads-up period a input step e = leads-by period (period_after period input) (effect_in (table period) a input) a input step (starts-up period a input step e) refl e

-- ---- and a link that takes one has heard the other end then, and before, unless a status came

heard-by : (period later : Period) (effect : Option Effect) (a : Alignment) (input : Input) (step : Transition) → is_heard a ≡ true → effect_in (table period) a input ≡ effect → action_of later a effect ≡ Go step → is_heard step.state ≡ true
heard-by period later None a input step up f e = absurd cc
heard-by period later (Some Fails) a input step up f e = absurd cc
heard-by period later (Some Remembers) a input step up f e = sym (ap (λ (x : Action). is_heard (state_in x)) e)
heard-by period later (Some (Enters state sent started)) a input step up f e =
    sym (ap (λ (x : Action). is_heard (state_in x)) e) ∙ found-heard (table period) a input (Enters state sent started) (in-all (λ (x : Cell). enters_heard x.effect) period (record { fixed = refl; normal = refl; hurried = refl; emergency = refl })) f
heard-by period later (Some EntersServing) a input step up f e = sym (ap (λ (x : Action). is_heard (state_in x)) e)
heard-by period later (Some BeginsAgain) a input step up f e = sym (ap (λ (x : Action). is_heard (state_in x)) e)
heard-by period later (Some Passes) a input step up f e = absurd cc
heard-by period later (Some Serves) a input step up f e = sym (ap (λ (x : Action). is_heard (state_in x)) e) ∙ up

-- where it begins to align, only a status leads on
pub begins-by : (period : Period) (input : Input) (step : Transition) → action_at period NotAligned input ≡ Go step → (is_heard step.state ≡ true) × (is_in_service step.state ≡ false)
begins-by period UserData step e = absurd cc
begins-by period (Expiry its.L1) step e = absurd cc
begins-by period (Expiry its.L2) step e = absurd cc
begins-by period (Expiry its.L3) step e = absurd cc
begins-by period (Expiry its.L4) step e = absurd cc
begins-by period (Expiry its.L6) step e = absurd cc
begins-by period (Expiry its.L7) step e = absurd cc
begins-by period (Status says.Alignment) step e = (sym (ap (λ (x : Action). is_heard (state_in x)) e), sym (ap (λ (x : Action). is_in_service (state_in x)) e))
begins-by period (Status says.ProvingNormal) step e = (sym (ap (λ (x : Action). is_heard (state_in x)) e), sym (ap (λ (x : Action). is_in_service (state_in x)) e))
begins-by period (Status says.ProvingEmergency) step e = (sym (ap (λ (x : Action). is_heard (state_in x)) e), sym (ap (λ (x : Action). is_in_service (state_in x)) e))
begins-by period (Status says.Ready) step e = absurd cc
begins-by period (Status says.ProcessorOutage) step e = absurd cc
begins-by period (Status says.ProcessorRecovered) step e = absurd cc
begins-by period (Status says.Busy) step e = absurd cc
begins-by period (Status says.BusyEnded) step e = absurd cc
begins-by period (Status says.OutOfService) step e = absurd cc

pub leads-heard : (period : Period) (a : Alignment) (input : Input) (step : Transition) → action_at period a input ≡ Go step → is_heard step.state ≡ true
leads-heard period Down input step e = (let no : Ignored ≡ Go step = e in absurd cc)
leads-heard period NotAligned input step e = (begins-by period input step e).0
leads-heard period Aligned input step e = heard-by period (period_after period input) (effect_in (table period) Aligned input) Aligned input step refl refl e
leads-heard period (Proving ready) input step e = heard-by period (period_after period input) (effect_in (table period) (Proving ready) input) (Proving ready) input step refl refl e
leads-heard period AlignedReady input step e = heard-by period (period_after period input) (effect_in (table period) AlignedReady input) AlignedReady input step refl refl e
leads-heard period InService input step e = heard-by period (period_after period input) (effect_in (table period) InService input) InService input step refl refl e

pub enters-heard : (period : Period) (a : Alignment) (input : Input) (step : Transition) → action_at period a input ≡ Go step → is_in_service step.state ≡ true → is_heard a ≡ true
enters-heard period Down input step e s = (let no : Ignored ≡ Go step = e in absurd cc)
enters-heard period NotAligned input step e s = (let no : true ≡ false = sym s ∙ (begins-by period input step e).1 in absurd cc)
enters-heard period Aligned input step e s = refl
enters-heard period (Proving ready) input step e s = refl
enters-heard period AlignedReady input step e s = refl
enters-heard period InService input step e s = refl

pub data-heard : (period : Period) (a : Alignment) (step : Transition) → action_at period a UserData ≡ Go step → is_heard a ≡ true
data-heard period Down step e = (let no : Ignored ≡ Go step = e in absurd cc)
data-heard period NotAligned step e = absurd cc
data-heard period Aligned step e = refl
data-heard period (Proving ready) step e = refl
data-heard period AlignedReady step e = refl
data-heard period InService step e = refl

expiry-no : {A : Type 0} (period : Period) (t : LinkTimer) (step : Transition) → action_at period NotAligned (Expiry t) ≡ Go step → A
expiry-no period its.L1 step e = absurd cc
expiry-no period its.L2 step e = absurd cc
expiry-no period its.L3 step e = absurd cc
expiry-no period its.L4 step e = absurd cc
expiry-no period its.L6 step e = absurd cc
expiry-no period its.L7 step e = absurd cc

pub expiry-heard : (period : Period) (a : Alignment) (t : LinkTimer) (step : Transition) → action_at period a (Expiry t) ≡ Go step → is_heard a ≡ true
expiry-heard period Down t step e = (let no : Ignored ≡ Go step = e in absurd cc)
expiry-heard period NotAligned t step e = expiry-no period t step e
expiry-heard period Aligned t step e = refl
expiry-heard period (Proving ready) t step e = refl
expiry-heard period AlignedReady t step e = refl
expiry-heard period InService t step e = refl
