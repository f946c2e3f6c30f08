-- By the table of the alignment: a step that asks something of the rules of a link in service leads into service, or
-- stays there; no step leads a link in service out of it; and no step sets or stops L7.
use Rattle.exchange_rules.proofs.Basics.{◌≡◌, ℕ, Bool, true, false, ◌&&◌, not, List, [], ◌∷◌, Option, Some, None, refl, ap, sym, subst, ◌∙◌, arith, if◌then◌else◌, list_all, nat_tests}
use Rattle.exchange_rules.proofs.Definitions.{Alignment, Action, Fail, Go, Input, UserData, Expiry, LinkTimer, Transition, Effect, Fails, Remembers, Enters, EntersServing, BeginsAgain, Serves, Passes, Cell, table, period_after, timer_of, state_number, is_same_input, effect_in, action_of, action_at, staying, is_down, is_in_service}
use Rattle.std.proofs.Common.{◌==◌}
use Rattle.exchange_rules.specs.LawsOfCauses.{fails_by}
use Rattle.link.specs.declared.alignment.Alignment.TheVariants.{Down, NotAligned, Aligned, Proving, AlignedReady, InService}
use Rattle.link.specs.declared.action.Action.TheVariants.{Ignored}
use Rattle.link.specs.declared.period.Period.{Period}
use Rattle.link.specs.declared.period.Period.TheVariants.{Fixed, Normal, Hurried, Emergency}
use Rattle.link.specs.declared.action.LinkTimer.TheVariants.{L1, L2, L3, L4, L6, L7}

-- ---- states by their numbers

pub down-is : (a : Alignment) → is_down a ≡ true → a ≡ Down
down-is Down e = refl
down-is NotAligned e = absurd cc
down-is Aligned e = absurd cc
down-is (Proving ready) e = absurd cc
down-is AlignedReady e = absurd cc
down-is InService e = absurd cc

pub serving-number : (a : Alignment) → is_in_service a ≡ (state_number a == 6)
serving-number Down = refl
serving-number NotAligned = refl
serving-number Aligned = refl
serving-number (Proving true) = refl
serving-number (Proving false) = refl
serving-number AlignedReady = refl
serving-number InService = refl

-- ---- cells

front : (a b : Bool) → (a && b) ≡ true → a ≡ true
front true b e = refl
front false b e = absurd cc

rest : (a b : Bool) → (a && b) ≡ true → b ≡ true
rest true b e = e
rest false b e = absurd cc

-- of a cell for a state: whether that is in service, and its effect
record IsCell (P : Bool → Effect → Bool) (a : Alignment) (found : Option Effect) : Type 0 where
  pub holds : (effect : Effect) → found ≡ Some effect → P (is_in_service a) effect ≡ true

one_number : (m n : ℕ) → (m == n) ≡ true → (m == 6) ≡ (n == 6)
one_number m n e = (let same : m ≡ n = grind (arith, nat_tests, e) in ap (λ (k : ℕ). k == 6) same)

abbrev effect_or : Effect → Option Effect → Effect
effect_or other (Some effect) = effect
effect_or other None = other

-- what holds of each cell holds of the one that is found
found-in : (P : Bool → Effect → Bool) (cells : List Cell) (a : Alignment) (input : Input) → list_all (λ (c : Cell). P (state_number c.state == 6) c.effect) cells ≡ true
    → IsCell P a (effect_in cells a input)
found-in P [] a input e = record { holds = λ effect h. absurd cc }
found-in P (c ∷ cells) a input e =
    let all : Cell → Bool = λ (c : Cell). P (state_number c.state == 6) c.effect in
    elim ((state_number c.state == state_number a) && is_same_input c.input input) as
    (λ b. ((state_number c.state == state_number a) && is_same_input c.input input) ≡ b → IsCell P a (if b then Some c.effect else effect_in cells a input)) [
      | true ↦ λ same. record {
        holds = λ effect h.
            let number : (state_number c.state == 6) ≡ is_in_service a =
            one_number (state_number c.state) (state_number a) (front (state_number c.state == state_number a) (is_same_input c.input input) same) ∙ sym (serving-number a) in
            ap (λ (x : Effect). P (is_in_service a) x) (sym (ap (effect_or effect) h)) ∙ ap (λ (b : Bool). P b c.effect) (sym number) ∙ front (all c) (list_all all cells) e;
      }
      | false ↦ λ other. found-in P cells a input (rest (all c) (list_all all cells) e)
    ] refl

-- what holds of each cell, by the number of its state, holds of the one that is found
pub found-cell : (P : ℕ → Effect → Bool) (cells : List Cell) (a : Alignment) (input : Input) (effect : Effect) → list_all (λ (c : Cell). P (state_number c.state) c.effect) cells ≡ true
    → effect_in cells a input ≡ Some effect → P (state_number a) effect ≡ true
found-cell P [] a input effect e h = absurd cc
found-cell P (c ∷ cells) a input effect e h =
    let all : Cell → Bool = λ (c : Cell). P (state_number c.state) c.effect in
    elim ((state_number c.state == state_number a) && is_same_input c.input input) as
    (λ b. ((state_number c.state == state_number a) && is_same_input c.input input) ≡ b → (if b then Some c.effect else effect_in cells a input) ≡ Some effect
    → P (state_number a) effect ≡ true) [
      | true ↦ λ same h.
          let number : state_number c.state ≡ state_number a = same_number (front (state_number c.state == state_number a) (is_same_input c.input input) same) in
          ap (λ (x : Effect). P (state_number a) x) (sym (ap (effect_or effect) h)) ∙ ap (λ (n : ℕ). P n c.effect) (sym number) ∙ front (all c) (list_all all cells) e
      | false ↦ λ other h. found-cell P cells a input effect (rest (all c) (list_all all cells) e) h
    ] refl h
  where
    same_number : {m n : ℕ} → (m == n) ≡ true → m ≡ n
    same_number {m} {n} e = grind (arith, nat_tests, e)

-- what holds of each cell in the tables of all periods
pub record IsInAll (P : Cell → Bool) : Type 0 where
  pub fixed : list_all P (table Fixed) ≡ true
  pub normal : list_all P (table Normal) ≡ true
  pub hurried : list_all P (table Hurried) ≡ true
  pub emergency : list_all P (table Emergency) ≡ true

pub in-all : (P : Cell → Bool) (period : Period) → IsInAll P → list_all P (table period) ≡ true
in-all P Fixed each = each.fixed
in-all P Normal each = each.normal
in-all P Hurried each = each.hurried
in-all P Emergency each = each.emergency

pub cell-found : (P : ℕ → Effect → Bool) (period : Period) (a : Alignment) (input : Input) (effect : Effect) → IsInAll (λ (c : Cell). P (state_number c.state) c.effect)
    → effect_in (table period) a input ≡ Some effect → P (state_number a) effect ≡ true
cell-found P period a input effect e h = found-cell P (table period) a input effect (in-all (λ (c : Cell). P (state_number c.state) c.effect) period e) h

-- ---- what each cell is

-- the input is handled in service alone
abbrev serves_there : Bool → Effect → Bool
serves_there serving Serves = serving
serves_there serving effect = true

-- a link in service stays there
abbrev stays_there : Bool → Effect → Bool
stays_there false effect = true
stays_there true Fails = true
stays_there true Serves = true
stays_there true Remembers = false
stays_there true (Enters state sent started) = false
stays_there true EntersServing = false
stays_there true BeginsAgain = false
stays_there true Passes = true

abbrev pub is_l7 : Option LinkTimer → Bool
is_l7 (Some L7) = true
is_l7 (Some L1) = false
is_l7 (Some L2) = false
is_l7 (Some L3) = false
is_l7 (Some L4) = false
is_l7 (Some L6) = false
is_l7 None = false

-- L7 isn't started
abbrev starts_no_l7 : Bool → Effect → Bool
starts_no_l7 serving (Enters state sent started) = not (is_l7 started)
starts_no_l7 serving Fails = true
starts_no_l7 serving Serves = true
starts_no_l7 serving Remembers = true
starts_no_l7 serving EntersServing = true
starts_no_l7 serving BeginsAgain = true
starts_no_l7 serving Passes = true

cell-of : (P : Bool → Effect → Bool) (period : Period) (a : Alignment) (input : Input) (effect : Effect) → IsInAll (λ (c : Cell). P (state_number c.state == 6) c.effect)
    → effect_in (table period) a input ≡ Some effect → P (is_in_service a) effect ≡ true
cell-of P period a input effect e h = (found-in P (table period) a input (in-all (λ (c : Cell). P (state_number c.state == 6) c.effect) period e)).holds effect h

-- ---- steps

abbrev pub step_in : Action → Transition
step_in Ignored = staying Down Fixed
step_in Fail = staying Down Fixed
step_in (Go step) = step

-- what is known of a step
pub record IsStep (a : Alignment) (step : Transition) : Type 0 where
  pub serves : step.serve ≡ true → is_in_service step.state ≡ true
  pub stays : is_in_service a ≡ true → is_in_service step.state ≡ true
  pub stop : is_l7 step.stop ≡ false
  pub start : is_l7 step.start ≡ false

no_l7_of : (a : Alignment) → is_l7 (timer_of a) ≡ false
no_l7_of Down = refl
no_l7_of NotAligned = refl
no_l7_of Aligned = refl
no_l7_of (Proving ready) = refl
no_l7_of AlignedReady = refl
no_l7_of InService = refl

not-so : (b : Bool) → not b ≡ true → b ≡ false
not-so false e = refl
not-so true e = absurd cc

-- that of an effect
effect-step : (period after : Period) (effect : Option Effect) (a : Alignment) (input : Input) (step : Transition) → effect_in (table period) a input ≡ effect → action_of after a effect ≡ Go step
    → IsStep a (step_in (action_of after a effect))
effect-step period after None a input step f e = absurd cc
effect-step period after (Some Fails) a input step f e = absurd cc
effect-step period after (Some Remembers) a input step f e = record {
  serves = λ h. absurd cc;
  stays = λ h. (let no : false ≡ true = sym (ap (λ (b : Bool). stays_there b Remembers) h) ∙ cell-of stays_there period a input Remembers (record { fixed = refl; normal = refl; hurried = refl; emergency = refl }) f in absurd cc);
  stop = refl;
  start = refl;
}
effect-step period after (Some (Enters state sent started)) a input step f e = record {
  serves = λ h. absurd cc;
  stays = λ h.
      (let no : false ≡ true = sym (ap (λ (b : Bool). stays_there b (Enters state sent started)) h) ∙ cell-of stays_there period a input (Enters state sent started) (record { fixed = refl; normal = refl; hurried = refl; emergency = refl }) f in absurd cc);
  stop = no_l7_of a;
  start = not-so (is_l7 started) (cell-of starts_no_l7 period a input (Enters state sent started) (record { fixed = refl; normal = refl; hurried = refl; emergency = refl }) f);
}
effect-step period after (Some BeginsAgain) a input step f e = record {
  serves = λ h. absurd cc;
  stays = λ h. (let no : false ≡ true = sym (ap (λ (b : Bool). stays_there b BeginsAgain) h) ∙ cell-of stays_there period a input BeginsAgain (record { fixed = refl; normal = refl; hurried = refl; emergency = refl }) f in absurd cc);
  stop = no_l7_of a;
  start = refl;
}
effect-step period after (Some Passes) a input step f e = absurd cc
effect-step period after (Some EntersServing) a input step f e = record { serves = λ h. refl; stays = λ h. refl; stop = no_l7_of a; start = refl }
effect-step period after (Some Serves) a input step f e = record {
  serves = λ h. cell-of serves_there period a input Serves (record { fixed = refl; normal = refl; hurried = refl; emergency = refl }) f;
  stays = λ h. h;
  stop = refl;
  start = refl;
}

pub each-step : (period : Period) (a : Alignment) (input : Input) (step : Transition) → action_at period a input ≡ Go step → IsStep a step
each-step period a input step e = subst (IsStep a) (ap step_in e) (effect-step period (period_after period input) (effect_in (table period) a input) a input step refl e)

pub serves-in : (period : Period) (a : Alignment) (input : Input) (step : Transition) → action_at period a input ≡ Go step → step.serve ≡ true → is_in_service step.state ≡ true
serves-in period a input step e h = (each-step period a input step e).serves h

-- User Data leads into service, or stays there
pub data-serves : (period : Period) (a : Alignment) (step : Transition) → action_at period a UserData ≡ Go step → is_in_service step.state ≡ true
data-serves period Down step e = absurd cc
data-serves period NotAligned step e = absurd cc
data-serves period Aligned step e = absurd cc
data-serves period (Proving true) step e = absurd cc
data-serves period (Proving false) step e = absurd cc
data-serves period AlignedReady step e = sym (ap (λ (x : Action). is_in_service (step_in x).state) e)
data-serves period InService step e = sym (ap (λ (x : Action). is_in_service (step_in x).state) e)

-- ---- a link that is down does nothing

pub fails-up : (period : Period) (a : Alignment) (input : Input) → action_at period a input ≡ Fail → is_down a ≡ false
fails-up period Down input e = absurd cc
fails-up period NotAligned input e = refl
fails-up period Aligned input e = refl
fails-up period (Proving ready) input e = refl
fails-up period AlignedReady input e = refl
fails-up period InService input e = refl

-- no link fails by L4
pub failing-timer : (period : Period) (a : Alignment) (its : LinkTimer) → action_at period a (Expiry its) ≡ Fail → fails_by its ≡ true
failing-timer period a L1 e = refl
failing-timer period a L2 e = refl
failing-timer period a L3 e = refl
failing-timer period a L6 e = refl
failing-timer period a L7 e = refl
failing-timer period Down L4 e = absurd cc
failing-timer period NotAligned L4 e = absurd cc
failing-timer period Aligned L4 e = absurd cc
failing-timer period (Proving true) L4 e = absurd cc
failing-timer period (Proving false) L4 e = absurd cc
failing-timer period AlignedReady L4 e = absurd cc
failing-timer period InService L4 e = absurd cc

pub goes-up : (period : Period) (a : Alignment) (input : Input) (step : Transition) → action_at period a input ≡ Go step → is_down a ≡ false
goes-up period Down input step e = absurd cc
goes-up period NotAligned input step e = refl
goes-up period Aligned input step e = refl
goes-up period (Proving ready) input step e = refl
goes-up period AlignedReady input step e = refl
goes-up period InService input step e = refl

pub serves-up : (a : Alignment) → is_in_service a ≡ true → is_down a ≡ false
serves-up Down e = absurd cc
serves-up NotAligned e = refl
serves-up Aligned e = refl
serves-up (Proving ready) e = refl
serves-up AlignedReady e = refl
serves-up InService e = refl
