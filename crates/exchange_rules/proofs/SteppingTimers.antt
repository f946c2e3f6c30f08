-- Timers other than L7 that are set and stopped: no timer that watches a link changes, and none becomes due.
use Rattle.exchange_rules.proofs.Basics.{⊎_elim, ◌≡◌, ◌≢◌, ℕ, Bool, true, false, cond, refl, sym, ap, ◌∙◌, arith, max, is_some, nat_tests, false_from_ne_true as not-so}
use Rattle.exchange_rules.proofs.Definitions.{tests_links, is_running, left-clear, Configuration, TimerName, L7, has_name, is_same, is_of_set, Running, set_timer, clear_timer, clear_set, is_due, no_tick_left, left-set_other, left-clear_other, left-clear_set_other, counts-set, counts-clear, counts-clear_set}
use Rattle.std.specs.Prelude.{Option, Some, None}
use Rattle.timers.specs.declared.name.RouteTimer.{RouteTimer}
use Rattle.timers.specs.declared.name.RouteTimer.TheVariants as route
use Rattle.timers.specs.declared.name.TimerName.TheVariants as name
use Rattle.timers.specs.declared.name.TimerName.TheVariants.{T8}
use Rattle.exchange_rules.specs.TimerSettings.{setting_of}
use Rattle.timers.proofs.Maps.{left-clear_set}
use Rattle.exchange_rules.proofs.TimerSettings.{cases-name, same-set, both-set, set-set, clear-set, clear_set-set}
use Rattle.exchange_rules.proofs.Steps.{AreTimed, AreQuiet, ends_holds, is_of_link, is_of_test}

-- where a timer that is due is due still, or has what is never due
due-of : (b : Bool) (o p q : Option ℕ) → no_tick_left p ≡ false → no_tick_left (cond b (cond true p o) None) ≡ true → no_tick_left q ≡ true
due-of true o p q never e = (let goal = sym never ∙ e in absurd cc)
due-of false o p q never e = absurd cc

not_due : (ticks : ℕ) → no_tick_left (Some (max 1 ticks)) ≡ false
not_due ticks = grind (arith, nat_tests)

-- what is due once a timer is set was due before
pub due-set : (name other : TimerName) (ticks : ℕ) (r : Running) → is_due (set_timer name ticks r) other ≡ true → is_due r other ≡ true
unfolding set_timer
due-set name other ticks r e =
    elim (is_same name other) as (λ b. is_same name other ≡ b
    → no_tick_left (cond (has_name r.counts other) (cond b (Some (max 1 ticks)) (r.left other)) None) ≡ true → is_due r other ≡ true) [
      | true ↦ λ same d. due-of (has_name r.counts other) (r.left other) (Some (max 1 ticks)) (r.left other) (not_due ticks) d
      | false ↦ λ apart d. kept (has_name r.counts other) d
    ] refl e
  where
    kept : (b : Bool) → no_tick_left (cond b (r.left other) None) ≡ true → is_due r other ≡ true
    kept true d = d
    kept false d = absurd cc

pub due-clear : (name other : TimerName) (r : Running) → is_due (clear_timer name r) other ≡ true → is_due r other ≡ true
unfolding clear_timer
due-clear name other r e = kept (has_name r.counts other) (is_same name other) e
  where
    kept : (b d : Bool) → no_tick_left (cond b (cond d None (r.left other)) None) ≡ true → is_due r other ≡ true
    kept true true h = absurd cc
    kept true false h = h
    kept false d h = absurd cc

pub due-clear_set : (timer : RouteTimer) (set : ℕ) (other : TimerName) (r : Running) → is_due (clear_set timer set r) other ≡ true → is_due r other ≡ true
unfolding clear_set
due-clear_set timer set other r e = kept (has_name r.counts other) (is_of_set timer set other) e
  where
    kept : (b d : Bool) → no_tick_left (cond b (cond d None (r.left other)) None) ≡ true → is_due r other ≡ true
    kept true true h = absurd cc
    kept true false h = h
    kept false d h = absurd cc

-- ---- timers that aren't an L7

pub same-timed : (r : Running) → AreTimed r r
same-timed r = record { counts = refl; watching = λ link. refl; due = λ name e. e }

pub both-timed : (r s t : Running) → AreTimed r s → AreTimed s t → AreTimed r t
both-timed r s t e f = record {
  counts = f.counts ∙ e.counts;
  watching = λ link. f.watching link ∙ e.watching link;
  due = λ name h. e.due name (f.due name h);
}

pub set-timed : (name : TimerName) (ticks : ℕ) (r : Running) → ((link : ℕ) → name ≢ L7 link) → AreTimed r (set_timer name ticks r)
set-timed name ticks r other = record {
  counts = counts-set name ticks r;
  watching = λ link. ap is_some (left-set_other name (L7 link) ticks r (other link));
  due = λ it e. due-set name it ticks r e;
}

pub clear-timed : (name : TimerName) (r : Running) → ((link : ℕ) → name ≢ L7 link) → AreTimed r (clear_timer name r)
clear-timed name r other = record {
  counts = counts-clear name r;
  watching = λ link. ap is_some (left-clear_other name (L7 link) r (other link));
  due = λ it e. due-clear name it r e;
}

pub clear_set-timed : (timer : RouteTimer) (set : ℕ) (r : Running) → AreTimed r (clear_set timer set r)
clear_set-timed timer set r = record {
  counts = counts-clear_set timer set r;
  watching = λ link. ap is_some (left-clear_set_other timer set (L7 link) r (of_route timer link));
  due = λ it e. due-clear_set timer set it r e;
}
  where
    of_route : (timer : RouteTimer) (link : ℕ) → is_of_set timer set (L7 link) ≡ false
    of_route route.T8 link = refl
    of_route route.T10 link = refl

-- ---- one that runs once another is stopped ran before

runs-not : (o : Option ℕ) → o ≡ None → is_some o ≡ true → ⊥
runs-not None e runs = cc
runs-not (Some x) e runs = cc

pub ran-before : (name other : TimerName) (r : Running) → is_running other (clear_timer name r) ≡ true → is_running other r ≡ true
ran-before name other r runs =
    ⊎_elim
    (λ (same : name ≡ other). absurd (runs-not ((clear_timer name r).left other) (ap (λ (x : TimerName). (clear_timer name r).left x) (sym same) ∙ left-clear name r) runs))
    (λ (apart : name ≢ other). sym (ap is_some (left-clear_other name other r apart)) ∙ runs)
    (cases-name name other)

of-set-before : (timer : RouteTimer) (set : ℕ) (other : TimerName) (r : Running) → is_running other (clear_set timer set r) ≡ true → is_running other r ≡ true
of-set-before timer set other r runs = by (is_of_set timer set other) refl
  where
    by : (b : Bool) → is_of_set timer set other ≡ b → is_running other r ≡ true
    by true e = absurd (runs-not ((clear_set timer set r).left other) (left-clear_set timer set other r e) runs)
    by false e = sym (ap is_some (left-clear_set_other timer set other r e)) ∙ runs

-- ---- and none that ends a hold, or is a link's

pub same-quiet : {E : ℕ → Type 0} (c : Configuration) (r : Running) → AreQuiet c E r r
same-quiet {E} c r = record { timed = same-timed r; endings = λ name e. refl; links = λ name e. refl; set = same-set c E r r refl; tests = λ off name of runs. runs }

pub both-quiet : {E : ℕ → Type 0} (c : Configuration) (r s t : Running) → AreQuiet c E r s → AreQuiet c E s t → AreQuiet c E r t
both-quiet {E} c r s t e f = record {
  timed = both-timed r s t e.timed f.timed;
  endings = λ name h. f.endings name h ∙ e.endings name h;
  links = λ name h. f.links name h ∙ e.links name h;
  set = both-set c E r s t e.set f.set;
  tests = λ off name of runs. e.tests off name of (f.tests off name of runs);
}

-- a name of another kind is another name
pub apart-by : (kind : TimerName → Bool) (name other : TimerName) → kind name ≡ false → kind other ≡ true → name ≢ other
apart-by kind name other not-of of same = (let goal : true ≡ false = sym of ∙ sym (ap kind same) ∙ not-of in cc)

pub apart-from : (name ending : TimerName) → ends_holds name ≡ false → ends_holds ending ≡ true → name ≢ ending
apart-from name ending quiet ends = apart-by ends_holds name ending quiet ends

pub set-quiet : {E : ℕ → Type 0} (c : Configuration) (name : TimerName) (ticks : ℕ) (r : Running) → ((link : ℕ) → name ≢ L7 link) → ends_holds name ≡ false → is_of_link name ≡ false
    → ticks ≡ setting_of c.timers name → (tests_links c ≡ false → is_of_test name ≡ false) → AreQuiet c E r (set_timer name ticks r)
set-quiet {E} c name ticks r other quiet none own no_test = record {
  timed = set-timed name ticks r other;
  endings = λ ending e. left-set_other name ending ticks r (apart-from name ending quiet e);
  links = λ its e. left-set_other name its ticks r (apart-by is_of_link name its none e);
  set = set-set c E name ticks r own;
  tests = λ off its of runs. sym (ap is_some (left-set_other name its ticks r (apart-by is_of_test name its (no_test off) of))) ∙ runs;
}

pub clear-quiet : {E : ℕ → Type 0} (c : Configuration) (name : TimerName) (r : Running) → ((link : ℕ) → name ≢ L7 link) → ends_holds name ≡ false → is_of_link name ≡ false
    → ((set destination : ℕ) → name ≢ T8 set destination) → AreQuiet c E r (clear_timer name r)
clear-quiet {E} c name r other quiet none apart = record {
  timed = clear-timed name r other;
  endings = λ ending e. left-clear_other name ending r (apart-from name ending quiet e);
  links = λ its e. left-clear_other name its r (apart-by is_of_link name its none e);
  set = clear-set c E name r (λ set destination e. absurd (apart set destination e));
  tests = λ off its of runs. ran-before name its r runs;
}

-- the timers of a set are of neither kind
of_neither : (timer : RouteTimer) (set : ℕ) (name : TimerName) → is_of_set timer set name ≡ true → (ends_holds name ≡ false) × (is_of_link name ≡ false)
of_neither timer set (name.T8 its destination) e = (refl, refl)
of_neither timer set (name.T10 its destination) e = (refl, refl)
of_neither route.T8 set (name.L1 link) e = absurd cc
of_neither route.T10 set (name.L1 link) e = absurd cc
of_neither route.T8 set (name.L2 link) e = absurd cc
of_neither route.T10 set (name.L2 link) e = absurd cc
of_neither route.T8 set (name.L3 link) e = absurd cc
of_neither route.T10 set (name.L3 link) e = absurd cc
of_neither route.T8 set (name.L4 link) e = absurd cc
of_neither route.T10 set (name.L4 link) e = absurd cc
of_neither route.T8 set (name.L6 link) e = absurd cc
of_neither route.T10 set (name.L6 link) e = absurd cc
of_neither route.T8 set (name.L7 link) e = absurd cc
of_neither route.T10 set (name.L7 link) e = absurd cc
of_neither route.T8 set (name.T1 link) e = absurd cc
of_neither route.T10 set (name.T1 link) e = absurd cc
of_neither route.T8 set (name.T2 link) e = absurd cc
of_neither route.T10 set (name.T2 link) e = absurd cc
of_neither route.T8 set (name.T3 link) e = absurd cc
of_neither route.T10 set (name.T3 link) e = absurd cc
of_neither route.T8 set (name.T4 its code) e = absurd cc
of_neither route.T10 set (name.T4 its code) e = absurd cc
of_neither route.T8 set (name.T6 destination) e = absurd cc
of_neither route.T10 set (name.T6 destination) e = absurd cc
of_neither route.T8 set (name.Slt1 link) e = absurd cc
of_neither route.T10 set (name.Slt1 link) e = absurd cc
of_neither route.T8 set (name.Slt2 link) e = absurd cc
of_neither route.T10 set (name.Slt2 link) e = absurd cc

pub clear_set-endings : (timer : RouteTimer) (set : ℕ) (r : Running) (its : TimerName) → ends_holds its ≡ true → (clear_set timer set r).left its ≡ r.left its
clear_set-endings timer set r its e =
    left-clear_set_other timer set its r (not-so (is_of_set timer set its) (λ of. (let no : true ≡ false = sym e ∙ (of_neither timer set its of).0 in cc)))

pub clear_set-quiet : {E : ℕ → Type 0} (c : Configuration) (timer : RouteTimer) (set : ℕ) (r : Running) → (timer ≡ route.T8 → E set) → AreQuiet c E r (clear_set timer set r)
clear_set-quiet {E} c timer set r own = record {
  timed = clear_set-timed timer set r;
  endings = clear_set-endings timer set r;
  set = clear_set-set c E timer set r own;
  tests = λ off its of runs. of-set-before timer set its r runs;
  links = λ its e. left-clear_set_other timer set its r (not-so (is_of_set timer set its) (λ of. (let no : true ≡ false = sym e ∙ (of_neither timer set its of).1 in cc)));
}
