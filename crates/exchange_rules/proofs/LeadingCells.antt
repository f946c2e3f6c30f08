-- Where the table of the alignment leads: from which state to which, and by what kind of input.
use Rattle.exchange_rules.proofs.Basics.{◌≢◌, not, ◌≡◌, ◌⊎◌, inl, inr, ℕ, Bool, true, false, ◌&&◌, ◌||◌, ◌==◌, List, [], ◌∷◌, Option, Some, None, refl, ap, sym, subst, ◌∙◌, arith, nat_tests, list_all, if◌then◌else◌}
use Rattle.exchange_rules.proofs.Definitions.{Action, Alignment, LinkStatus, Input, Expiry, Status, UserData, Go, Transition, Effect, Fails, Remembers, Enters, EntersServing, BeginsAgain, Serves, Passes, Cell, table, period_after, Period, state_number, is_same_input, effect_in, action_of, action_at}
use Rattle.link.specs.declared.alignment.Alignment.TheVariants.{Down, NotAligned, Aligned, Proving, AlignedReady, InService}
use Rattle.link.specs.Table.{timer_number}
use Rattle.m2pa_codec.specs.Frames.{status_number, status_of}
use Rattle.m2pa_codec.proofs.StatusNumbers.{status_of-number}
use Rattle.link.specs.declared.period.Period.TheVariants.{Fixed, Normal, Hurried, Emergency}
use Rattle.exchange_rules.proofs.Serving.{step_in, found-cell, IsInAll, in-all}

-- ---- the table

-- what leads a link on: User Data, a link status by its number, and L4
abbrev pub kind_of : Input → ℕ
kind_of UserData = 0
kind_of (Status status) = status_number status
kind_of (Expiry its) = if timer_number its == 4 then 10 else 11

-- whether it leads from one state to another
abbrev pub leads : (kind : ℕ) → (before after : ℕ) → Bool
leads kind before after =
    if after == 2 then kind == 1 && (before == 1 || (before == 3 || before == 4))
    else if after == 3 then ((kind == 2 || kind == 3) && (before == 1 || before == 2)) || (kind == 3 && before == 3)
    else if after == 4 then (kind == 4 && (before == 3 || before == 4)) || (kind == 3 && before == 4)
    else if after == 5 then kind == 10 && before == 3
    else if after == 6
    then (kind == 10 && before == 4) || ((kind == 4 && before == 5) || ((kind == 0 && (before == 5 || before == 6)) || ((kind == 7 || kind == 8) && before == 6)))
    else false

abbrev leads_by : (kind : ℕ) → ℕ → Effect → Bool
leads_by kind before Fails = true
leads_by kind before Remembers = leads kind before 4
leads_by kind before (Enters after sent started) = leads kind before (state_number after)
leads_by kind before EntersServing = leads kind before 6
leads_by kind before BeginsAgain = leads kind before 2
leads_by kind before Serves = leads kind before before
leads_by kind before Passes = true

abbrev cell_leads : Cell → Bool
cell_leads c = leads_by (kind_of c.input) (state_number c.state) c.effect

pub same-number : (m n : ℕ) → (m == n) ≡ true → m ≡ n
same-number m n e = grind (arith, nat_tests, e)

same-kind : (x y : Input) → is_same_input x y ≡ true → kind_of x ≡ kind_of y
same-kind (Status x) (Status y) e = same-number (status_number x) (status_number y) e
same-kind (Status x) UserData e = absurd cc
same-kind (Status x) (Expiry y) e = absurd cc
same-kind UserData (Status y) e = absurd cc
same-kind UserData UserData e = refl
same-kind UserData (Expiry y) e = absurd cc
same-kind (Expiry x) (Status y) e = absurd cc
same-kind (Expiry x) UserData e = absurd cc
same-kind (Expiry x) (Expiry y) e = ap (λ (n : ℕ). if n == 4 then 10 else 11) (same-number (timer_number x) (timer_number y) e)

pub front : (a b : Bool) → (a && b) ≡ true → a ≡ true
front true b e = refl
front false b e = absurd cc

pub rest : (a b : Bool) → (a && b) ≡ true → b ≡ true
rest true b e = e
rest false b e = absurd cc

abbrev effect_or : Effect → Option Effect → Effect
effect_or other (Some effect) = effect
effect_or other None = other

found-leads : (cells : List Cell) (a : Alignment) (input : Input) (effect : Effect) → list_all cell_leads cells ≡ true → effect_in cells a input ≡ Some effect
    → leads_by (kind_of input) (state_number a) effect ≡ true
found-leads [] a input effect e h = absurd cc
found-leads (c ∷ cells) a input effect e h =
    elim ((state_number c.state == state_number a) && is_same_input c.input input) as
    (λ b. ((state_number c.state == state_number a) && is_same_input c.input input) ≡ b → (if b then Some c.effect else effect_in cells a input) ≡ Some effect
    → leads_by (kind_of input) (state_number a) effect ≡ true) [
      | true ↦ λ same g.
          ap (λ (x : Effect). leads_by (kind_of input) (state_number a) x) (sym (ap (effect_or effect) g))
          ∙ ap (λ (n : ℕ). leads_by (kind_of input) n c.effect) (sym (same-number (state_number c.state) (state_number a) (front (state_number c.state == state_number a) (is_same_input c.input input) same)))
          ∙ ap (λ (k : ℕ). leads_by k (state_number c.state) c.effect) (sym (same-kind c.input input (rest (state_number c.state == state_number a) (is_same_input c.input input) same)))
          ∙ front (cell_leads c) (list_all cell_leads cells) e
      | false ↦ λ other g. found-leads cells a input effect (rest (cell_leads c) (list_all cell_leads cells) e) g
    ] refl h

leads-all : IsInAll cell_leads
leads-all = record { fixed = refl; normal = refl; hurried = refl; emergency = refl }

effect-leads : (period later : Period) (effect : Option Effect) (a : Alignment) (input : Input) (step : Transition) → effect_in (table period) a input ≡ effect → action_of later a effect ≡ Go step
    → leads (kind_of input) (state_number a) (state_number (step_in (action_of later a effect)).state) ≡ true
effect-leads period later None a input step f e = absurd cc
effect-leads period later (Some Fails) a input step f e = absurd cc
effect-leads period later (Some Remembers) a input step f e = found-leads (table period) a input Remembers (in-all cell_leads period leads-all) f
effect-leads period later (Some (Enters after sent start)) a input step f e = found-leads (table period) a input (Enters after sent start) (in-all cell_leads period leads-all) f
effect-leads period later (Some EntersServing) a input step f e = found-leads (table period) a input EntersServing (in-all cell_leads period leads-all) f
effect-leads period later (Some BeginsAgain) a input step f e = found-leads (table period) a input BeginsAgain (in-all cell_leads period leads-all) f
effect-leads period later (Some Passes) a input step f e = absurd cc
effect-leads period later (Some Serves) a input step f e = found-leads (table period) a input Serves (in-all cell_leads period leads-all) f

pub each-leads : (period : Period) (a : Alignment) (input : Input) (step : Transition) → action_at period a input ≡ Go step → leads (kind_of input) (state_number a) (state_number step.state) ≡ true
each-leads period a input step e =
    subst (λ (t : Transition). leads (kind_of input) (state_number a) (state_number t.state) ≡ true) (ap step_in e) (effect-leads period (period_after period input) (effect_in (table period) a input) a input step refl e)

-- ---- states and statuses by their numbers

abbrev state_numbered : ℕ → Alignment
state_numbered n =
    if n == 1 then NotAligned else if n == 2 then Aligned else if n == 3 then Proving false else if n == 4 then Proving true
    else if n == 5 then AlignedReady else if n == 6 then InService else Down

from-number : (x : Alignment) → state_numbered (state_number x) ≡ x
from-number Down = refl
from-number NotAligned = refl
from-number Aligned = refl
from-number (Proving true) = refl
from-number (Proving false) = refl
from-number AlignedReady = refl
from-number InService = refl

pub numbered : (x : Alignment) (n : ℕ) → (state_number x == n) ≡ true → x ≡ state_numbered n
numbered x n e = sym (from-number x) ∙ ap state_numbered (same-number (state_number x) n e)

abbrev some-of : {A : Type 0} (d : A) → Option A → A
some-of d (Some x) = x
some-of d None = d

pub status-numbered : (x y : LinkStatus) → status_number x ≡ status_number y → x ≡ y
status-numbered x y e = ap (some-of x) (sym (status_of-number x) ∙ ap status_of e ∙ status_of-number y)

no-status : (x : LinkStatus) (n : ℕ) → status_of n ≡ None → status_number x ≡ n → ⊥
no-status x n e f = (let no : Some x ≡ None = sym (status_of-number x) ∙ ap status_of f ∙ e in cc)

pub no-timer : (x : LinkStatus) → status_number x ≡ 10 → ⊥
unfolding status_of
no-timer x e = no-status x 10 refl e

pub no-data : (x : LinkStatus) → status_number x ≡ 0 → ⊥
unfolding status_of
no-data x e = no-status x 0 refl e

pub either : (a b : Bool) → (a || b) ≡ true → (a ≡ true) ⊎ (b ≡ true)
either true b e = inl refl
either false b e = inr e

-- ---- a link with a fixed period is aligned from NotAligned alone

abbrev aligns_first : ℕ → Effect → Bool
aligns_first before (Enters after sent started) = if state_number after == 2 then before == 1 else true
aligns_first before BeginsAgain = false
aligns_first before Serves = not (before == 2)
aligns_first before Fails = true
aligns_first before Remembers = true
aligns_first before EntersServing = true
aligns_first before Passes = true

effect-aligns : (later : Period) (effect : Option Effect) (a : Alignment) (input : Input) (step : Transition) → effect_in (table Fixed) a input ≡ effect → action_of later a effect ≡ Go step
    → (step_in (action_of later a effect)).state ≡ Aligned → a ≡ NotAligned
effect-aligns later None a input step f e is = absurd cc
effect-aligns later (Some Fails) a input step f e is = absurd cc
effect-aligns later (Some Remembers) a input step f e is = absurd (let no : Proving true ≡ Aligned = is in cc)
effect-aligns later (Some (Enters after sent start)) a input step f e is =
    numbered a 1 (sym (ap (λ (x : Alignment). if state_number x == 2 then state_number a == 1 else true) is)
    ∙ found-cell aligns_first (table Fixed) a input (Enters after sent start) refl f)
effect-aligns later (Some EntersServing) a input step f e is = absurd (let no : InService ≡ Aligned = is in cc)
effect-aligns later (Some BeginsAgain) a input step f e is = absurd (let no : false ≡ true = found-cell aligns_first (table Fixed) a input BeginsAgain refl f in cc)
effect-aligns later (Some Serves) a input step f e is =
    absurd (let no : false ≡ true = sym (ap (λ (x : Alignment). not (state_number x == 2)) is) ∙ found-cell aligns_first (table Fixed) a input Serves refl f in cc)
effect-aligns later (Some Passes) a input step f e is = absurd cc

pub aligned-from : (period : Period) (a : Alignment) (input : Input) (step : Transition) → action_at period a input ≡ Go step → step.state ≡ Aligned → (a ≡ NotAligned) ⊎ (period ≢ Fixed)
aligned-from Normal a input step e is = inr (λ (no : Normal ≡ Fixed). cc)
aligned-from Hurried a input step e is = inr (λ (no : Hurried ≡ Fixed). cc)
aligned-from Emergency a input step e is = inr (λ (no : Emergency ≡ Fixed). cc)
aligned-from Fixed a input step e is =
    inl (effect-aligns (period_after Fixed input) (effect_in (table Fixed) a input) a input step refl e (ap (λ (x : Action). (step_in x).state) e ∙ is))
