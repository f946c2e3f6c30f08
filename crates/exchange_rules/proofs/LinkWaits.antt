-- Which timers of a link run as they are set and stopped, and what a step of its alignment does to the timer of its
-- state.
use Rattle.exchange_rules.proofs.Basics.{◌≡◌, ◌≢◌, ℕ, Bool, true, false, ◌&&◌, ◌||◌, not, ◌==◌, nat_lt, Option, Some, None, refl, ap, sym, subst, ◌∙◌, arith, if◌then◌else◌, is_some, nat_tests}
use Rattle.exchange_rules.proofs.Definitions.{Cell, set_timer, Alignment, Input, Go, Transition, Effect, Fails, Remembers, Enters, EntersServing, BeginsAgain, Serves, Passes, table, period_after, Period, timer_of, state_number, effect_in, action_of, action_at, LinkTimer, TimerName, NodeCounts, key_of, has_name, Running, is_running, left-set, left-set_other, left-clear, left-clear_other, counts-clear, timer_name, ticks_of, without_timer, without_timers, without_timer_if, with_timer_if, clear_timer}
use Rattle.link.specs.Table.{timer_number}
use Rattle.settings.specs.declared.timer_ticks.TimerTicks.{TimerTicks}
use Rattle.link.specs.declared.action.LinkTimer.TheVariants as timer
use Rattle.timers.specs.declared.name.TimerName.TheVariants as name
use Rattle.link.specs.declared.alignment.Alignment.TheVariants.{Down, NotAligned, Aligned, Proving, AlignedReady, InService}
use Rattle.exchange_rules.specs.Aligning.{waiting_in, is_that}
use Rattle.exchange_rules.proofs.Serving.{step_in, cell-found, IsInAll}

-- ---- names of timers

row-of : (link : ℕ) (t : LinkTimer) → (key_of (timer_name link t)).row ≡ link
row-of link timer.L1 = refl
row-of link timer.L2 = refl
row-of link timer.L3 = refl
row-of link timer.L4 = refl
row-of link timer.L6 = refl
row-of link timer.L7 = refl

pub other-link : (link other : ℕ) (t u : LinkTimer) → other ≢ link → timer_name other u ≢ timer_name link t
other-link link other t u apart e = apart (sym (row-of other u) ∙ ap (λ (x : TimerName). (key_of x).row) e ∙ row-of link t)

-- none of them is that of a test
pub no-first : (link other : ℕ) (t : LinkTimer) → timer_name link t ≢ name.Slt1 other
no-first link other timer.L1 e = cc
no-first link other timer.L2 e = cc
no-first link other timer.L3 e = cc
no-first link other timer.L4 e = cc
no-first link other timer.L6 e = cc
no-first link other timer.L7 e = cc

pub no-second : (link other : ℕ) (t : LinkTimer) → timer_name link t ≢ name.Slt2 other
no-second link other timer.L1 e = cc
no-second link other timer.L2 e = cc
no-second link other timer.L3 e = cc
no-second link other timer.L4 e = cc
no-second link other timer.L6 e = cc
no-second link other timer.L7 e = cc

abbrev of_kind : ℕ → LinkTimer
of_kind kind =
    if kind == 0 then timer.L1 else if kind == 1 then timer.L2 else if kind == 2 then timer.L3 else if kind == 3 then timer.L4 else if kind == 4 then timer.L6 else timer.L7

kind-of : (link : ℕ) (t : LinkTimer) → of_kind (key_of (timer_name link t)).kind ≡ t
kind-of link timer.L1 = refl
kind-of link timer.L2 = refl
kind-of link timer.L3 = refl
kind-of link timer.L4 = refl
kind-of link timer.L6 = refl
kind-of link timer.L7 = refl

abbrev of_number : ℕ → LinkTimer
of_number n =
    if n == 1 then timer.L1 else if n == 2 then timer.L2 else if n == 3 then timer.L3 else if n == 4 then timer.L4 else if n == 6 then timer.L6 else timer.L7

number-of : (t : LinkTimer) → of_number (timer_number t) ≡ t
number-of timer.L1 = refl
number-of timer.L2 = refl
number-of timer.L3 = refl
number-of timer.L4 = refl
number-of timer.L6 = refl
number-of timer.L7 = refl

same-number : (m n : ℕ) → (m == n) ≡ true → m ≡ n
same-number m n e = grind (arith, nat_tests, e)

itself : (n : ℕ) → (n == n) ≡ true
itself n = grind (arith, nat_tests)

pub same-timer : (t u : LinkTimer) → (timer_number t == timer_number u) ≡ true → t ≡ u
same-timer t u e = sym (number-of t) ∙ ap of_number (same-number (timer_number t) (timer_number u) e) ∙ number-of u

no-way : {A : Type 0} (b : Bool) → b ≡ true → b ≡ false → A
no-way b e f = (let no : true ≡ false = sym e ∙ f in absurd cc)

apart-timers : (link : ℕ) (t u : LinkTimer) → (timer_number t == timer_number u) ≡ false → timer_name link t ≢ timer_name link u
apart-timers link t u e f =
    let same : t ≡ u = sym (kind-of link t) ∙ ap (λ (x : TimerName). of_kind (key_of x).kind) f ∙ kind-of link u in
    no-way (timer_number t == timer_number u) (ap (λ (x : LinkTimer). timer_number x == timer_number u) same ∙ itself (timer_number u)) e

has-timer : (link : ℕ) (t : LinkTimer) (n : NodeCounts) → nat_lt link n.links ≡ true → has_name n (timer_name link t) ≡ true
has-timer link timer.L1 n e = e
has-timer link timer.L2 n e = e
has-timer link timer.L3 n e = e
has-timer link timer.L4 n e = e
has-timer link timer.L6 n e = e
has-timer link timer.L7 n e = e

-- ---- which of a link's timers run

module _ (link : ℕ) where
  abbrev pub runs : Running → LinkTimer → Bool
  runs r t = is_running (timer_name link t) r

  pub stopped : (its t : LinkTimer) (r : Running) → runs (without_timer link its r) t ≡ (not (is_that (Some its) t) && runs r t)
  stopped its t r = by (timer_number its == timer_number t) refl
    where
      by : (b : Bool) → (timer_number its == timer_number t) ≡ b → runs (without_timer link its r) t ≡ (not b && runs r t)
      by true e = ap is_some (ap (λ (x : LinkTimer). (without_timer link its r).left (timer_name link x)) (sym (same-timer its t e)) ∙ left-clear (timer_name link its) r)
      by false e = ap is_some (left-clear_other (timer_name link its) (timer_name link t) r (apart-timers link its t e))

  stops : (its : Option LinkTimer) (t : LinkTimer) (r : Running) → runs (without_timer_if link its r) t ≡ (not (is_that its t) && runs r t)
  stops None t r = refl
  stops (Some its) t r = stopped its t r

  -- none runs of a link that failed
  pub none-runs : (t : LinkTimer) (r : Running) → runs (without_timers link r) t ≡ false
  none-runs t r = all-stopped ∙ by t (runs r t)
    where
      left : LinkTimer → Bool → Bool
      left its b = not (is_that (Some its) t) && b

      links_stopped : Running
      links_stopped =
          without_timer link timer.L7 (without_timer link timer.L6 (without_timer link timer.L4
          (without_timer link timer.L3 (without_timer link timer.L2 (without_timer link timer.L1 r)))))

      tests-stopped : runs (without_timers link r) t ≡ runs links_stopped t
      tests-stopped =
          ap is_some (left-clear_other (name.Slt2 link) (timer_name link t) (clear_timer (name.Slt1 link) links_stopped) (λ e. no-second link link t (sym e))
          ∙ left-clear_other (name.Slt1 link) (timer_name link t) links_stopped (λ e. no-first link link t (sym e)))

      all-stopped : runs (without_timers link r) t ≡ left timer.L7 (left timer.L6 (left timer.L4 (left timer.L3 (left timer.L2 (left timer.L1 (runs r t))))))
      all-stopped =
          tests-stopped ∙ stopped timer.L7 t _ ∙ ap (left timer.L7) (stopped timer.L6 t _ ∙ ap (left timer.L6) (stopped timer.L4 t _ ∙ ap (left timer.L4)
          (stopped timer.L3 t _ ∙ ap (left timer.L3) (stopped timer.L2 t _ ∙ ap (left timer.L2) (stopped timer.L1 t r)))))

      by : (u : LinkTimer) (b : Bool)
          → (not (is_that (Some timer.L7) u) && (not (is_that (Some timer.L6) u) && (not (is_that (Some timer.L4) u)
          && (not (is_that (Some timer.L3) u) && (not (is_that (Some timer.L2) u) && (not (is_that (Some timer.L1) u) && b)))))) ≡ false
      by timer.L1 b = refl
      by timer.L2 b = refl
      by timer.L3 b = refl
      by timer.L4 b = refl
      by timer.L6 b = refl
      by timer.L7 b = refl

  module _ (ticks : TimerTicks) where
    pub started : (its t : LinkTimer) (r : Running) → nat_lt link r.counts.links ≡ true → runs (set_timer (timer_name link its) (ticks_of ticks its) r) t ≡ (is_that (Some its) t || runs r t)
    started its t r there = by (timer_number its == timer_number t) refl
      where
        by : (b : Bool) → (timer_number its == timer_number t) ≡ b → runs (set_timer (timer_name link its) (ticks_of ticks its) r) t ≡ (b || runs r t)
        by true e =
            ap is_some (ap (λ (x : LinkTimer). (set_timer (timer_name link its) (ticks_of ticks its) r).left (timer_name link x)) (sym (same-timer its t e))
            ∙ left-set (timer_name link its) (ticks_of ticks its) r (has-timer link its r.counts there))
        by false e = ap is_some (left-set_other (timer_name link its) (timer_name link t) (ticks_of ticks its) r (apart-timers link its t e))

    starts : (its : Option LinkTimer) (t : LinkTimer) (r : Running) → nat_lt link r.counts.links ≡ true → runs (with_timer_if ticks link its r) t ≡ (is_that its t || runs r t)
    starts None t r there = refl
    starts (Some its) t r there = started its t r there

    still-there : (its : Option LinkTimer) (r : Running) → nat_lt link r.counts.links ≡ true → nat_lt link (without_timer_if link its r).counts.links ≡ true
    still-there None r there = there
    still-there (Some its) r there = ap (λ (n : NodeCounts). nat_lt link n.links) (counts-clear (timer_name link its) r) ∙ there

    -- one stops, if one does, and then another starts
    pub turned : (stop start : Option LinkTimer) (t : LinkTimer) (r : Running) → nat_lt link r.counts.links ≡ true
        → runs (with_timer_if ticks link start (without_timer_if link stop r)) t ≡ (is_that start t || (not (is_that stop t) && runs r t))
    turned stop start t r there =
        starts start t (without_timer_if link stop r) (still-there stop r there) ∙ ap (λ (b : Bool). is_that start t || b) (stops stop t r)

-- ---- by the table of the alignment

-- the table stops the timer with which the link waited
waits-of : (a : Alignment) → timer_of a ≡ waiting_in a
waits-of Down = refl
waits-of NotAligned = refl
waits-of Aligned = refl
waits-of (Proving ready) = refl
waits-of AlignedReady = refl
waits-of InService = refl

pub no-l6 : (a : Alignment) → is_that (waiting_in a) timer.L6 ≡ false
no-l6 Down = refl
no-l6 NotAligned = refl
no-l6 Aligned = refl
no-l6 (Proving ready) = refl
no-l6 AlignedReady = refl
no-l6 InService = refl

abbrev is_same_wait : Option LinkTimer → Option LinkTimer → Bool
is_same_wait None None = true
is_same_wait None (Some u) = false
is_same_wait (Some t) None = false
is_same_wait (Some t) (Some u) = timer_number t == timer_number u

same-wait : (o p : Option LinkTimer) → is_same_wait o p ≡ true → o ≡ p
same-wait None None e = refl
same-wait None (Some u) e = absurd cc
same-wait (Some t) None e = absurd cc
same-wait (Some t) (Some u) e = ap (λ (x : LinkTimer). Some x) (same-timer t u e)

-- a cell starts the timer of the state that it enters, and remembers Ready only while the link is proved
abbrev turns_so : ℕ → Effect → Bool
turns_so state Fails = true
turns_so state Serves = true
turns_so state EntersServing = true
turns_so state BeginsAgain = true
turns_so state Passes = true
turns_so state Remembers = state == 3 || state == 4
turns_so state (Enters after sent started) = is_same_wait started (waiting_in after)

-- what a step does to the timers with which a link waits
pub record IsTurn (a : Alignment) (step : Transition) : Type 0 where
  pub waits : (t : LinkTimer) → (is_that step.start t || (not (is_that step.stop t) && is_that (waiting_in a) t)) ≡ is_that (waiting_in step.state) t
  pub stop : is_that step.stop timer.L6 ≡ false
  pub start : is_that step.start timer.L6 ≡ false

cancelled : (b d : Bool) → (d || (not b && b)) ≡ d
cancelled true true = refl
cancelled true false = refl
cancelled false true = refl
cancelled false false = refl

entered : (a after : Alignment) (start : Option LinkTimer) (t : LinkTimer) → start ≡ waiting_in after
    → (is_that start t || (not (is_that (timer_of a) t) && is_that (waiting_in a) t)) ≡ is_that (waiting_in after) t
entered a after start t e =
    ap (λ (o : Option LinkTimer). is_that start t || (not (is_that o t) && is_that (waiting_in a) t)) (waits-of a)
    ∙ cancelled (is_that (waiting_in a) t) (is_that start t) ∙ ap (λ (o : Option LinkTimer). is_that o t) e

proved-wait : (a : Alignment) → (state_number a == 3 || state_number a == 4) ≡ true → waiting_in a ≡ Some timer.L4
proved-wait Down e = absurd cc
proved-wait NotAligned e = absurd cc
proved-wait Aligned e = absurd cc
proved-wait (Proving ready) e = refl
proved-wait AlignedReady e = absurd cc
proved-wait InService e = absurd cc

stops-no-l6 : (a : Alignment) → is_that (timer_of a) timer.L6 ≡ false
stops-no-l6 a = ap (λ (o : Option LinkTimer). is_that o timer.L6) (waits-of a) ∙ no-l6 a

turns-all : IsInAll (λ (c : Cell). turns_so (state_number c.state) c.effect)
turns-all = record { fixed = refl; normal = refl; hurried = refl; emergency = refl }

turn-of : (period later : Period) (effect : Option Effect) (a : Alignment) (input : Input) (step : Transition) → effect_in (table period) a input ≡ effect → action_of later a effect ≡ Go step
    → IsTurn a (step_in (action_of later a effect))
turn-of period later None a input step f e = absurd cc
turn-of period later (Some Fails) a input step f e = absurd cc
turn-of period later (Some Remembers) a input step f e = record {
  waits = λ t. ap (λ (o : Option LinkTimer). is_that o t) (proved-wait a (cell-found turns_so period a input Remembers turns-all f));
  stop = refl;
  start = refl;
}
turn-of period later (Some (Enters after sent start)) a input step f e =
    let same : start ≡ waiting_in after = same-wait start (waiting_in after) (cell-found turns_so period a input (Enters after sent start) turns-all f) in
    record {
      waits = λ t. entered a after start t same;
      stop = stops-no-l6 a;
      start = ap (λ (o : Option LinkTimer). is_that o timer.L6) same ∙ no-l6 after;
    }
turn-of period later (Some EntersServing) a input step f e = record { waits = λ t. entered a InService None t refl; stop = stops-no-l6 a; start = refl }
turn-of period later (Some BeginsAgain) a input step f e = record { waits = λ t. entered a Aligned (Some timer.L3) t refl; stop = stops-no-l6 a; start = refl }
turn-of period later (Some Passes) a input step f e = absurd cc
turn-of period later (Some Serves) a input step f e = record { waits = λ t. refl; stop = refl; start = refl }

pub each-turn : (period : Period) (a : Alignment) (input : Input) (step : Transition) → action_at period a input ≡ Go step → IsTurn a step
each-turn period a input step e = subst (IsTurn a) (ap step_in e) (turn-of period (period_after period input) (effect_in (table period) a input) a input step refl e)
