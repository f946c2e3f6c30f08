-- What each call leaves for each name.
use Rattle.timers.proofs.Basics.{◌≡◌, ◌≢◌, ℕ, ◌==◌, true, false, cond, refl, sym, ap, ◌∙◌, arith, nat_tests, Option, Some, None, max, TimerName, RouteTimer, NodeCounts, has_name, is_same, is_of_set, Running, running_with, none_running, is_running, set_timer, start_unless_running, clear_timer, clear_set, one_less, ticked, one_map}
use Rattle.timers.specs.declared.name.TimerName.TheVariants as name
use Rattle.timers.specs.declared.name.RouteTimer.TheVariants as route
use Rattle.timers.proofs.Same.{same_is, is_itself, other_is_not}

-- ---- one name

-- what a name had, it keeps
kept : (r : Running) (left : TimerName → Option ℕ) (name : TimerName) → left name ≡ r.left name → (running_with r.counts left).left name ≡ r.left name
kept r left name e =
    elim (has_name r.counts name) as (λ b. has_name r.counts name ≡ b → cond b (left name) None ≡ r.left name) [
      | true ↦ λ h. e
      | false ↦ λ h. sym (r.only name h)
    ] refl

-- or nothing
lost : (n : NodeCounts) (left : TimerName → Option ℕ) (name : TimerName) → left name ≡ None → (running_with n left).left name ≡ None
lost n left name e = elim (has_name n name) as (λ b. cond b (left name) None ≡ None) [ true ↦ e | false ↦ refl ]

-- only a name that exists has something
pub exists : (r : Running) (name : TimerName) (ticks : ℕ) → r.left name ≡ Some ticks → has_name r.counts name ≡ true
exists r name ticks e =
    elim (has_name r.counts name) as (λ b. has_name r.counts name ≡ b → b ≡ true) [
      | true ↦ λ h. refl
      | false ↦ λ h. (let none = sym (r.only name h) ∙ e in absurd cc)
    ] refl

-- ---- setting

pub left-set : (name : TimerName) (ticks : ℕ) (r : Running) → has_name r.counts name ≡ true → (set_timer name ticks r).left name ≡ Some (max 1 ticks)
unfolding set_timer
left-set name ticks r h =
    ap (λ b. cond b (cond (is_same name name) (Some (max 1 ticks)) (r.left name)) None) h
    ∙ ap (λ b. cond b (Some (max 1 ticks)) (r.left name)) (is_itself name)

pub left-set_other : (name other : TimerName) (ticks : ℕ) (r : Running) → name ≢ other → (set_timer name ticks r).left other ≡ r.left other
unfolding set_timer
left-set_other name other ticks r h = kept r (λ x. cond (is_same name x) (Some (max 1 ticks)) (r.left x)) other (ap (λ b. cond b (Some (max 1 ticks)) (r.left other)) (other_is_not name other h))

pub counts-set : (name : TimerName) (ticks : ℕ) (r : Running) → (set_timer name ticks r).counts ≡ r.counts
unfolding set_timer
counts-set name ticks r = refl

pub set-absent : (name : TimerName) (ticks : ℕ) (r : Running) → has_name r.counts name ≡ false → set_timer name ticks r ≡ r
set-absent name ticks r h = one_map (set_timer name ticks r) r (counts-set name ticks r) each
  where
    each : (other : TimerName) → (set_timer name ticks r).left other ≡ r.left other
    each other =
        elim (is_same name other) as (λ b. is_same name other ≡ b → (set_timer name ticks r).left other ≡ r.left other) [
          | true ↦ λ e.
              let gone : has_name r.counts other ≡ false = ap (has_name r.counts) (sym (same_is name other e)) ∙ h in
              (set_timer name ticks r).only other (ap (λ n. has_name n other) (counts-set name ticks r) ∙ gone) ∙ sym (r.only other gone)
          | false ↦ λ e. left-set_other name other ticks r (differs e)
        ] refl
      where
        differs : is_same name other ≡ false → name ≢ other
        differs e k = (let same = sym e ∙ ap (λ x. is_same x other) k ∙ is_itself other in absurd cc)

pub start-running : (name : TimerName) (ticks : ℕ) (r : Running) → is_running name r ≡ true → start_unless_running name ticks r ≡ r
unfolding start_unless_running
start-running name ticks r h = ap (λ b. cond b r (set_timer name ticks r)) h

pub start-idle : (name : TimerName) (ticks : ℕ) (r : Running) → is_running name r ≡ false → start_unless_running name ticks r ≡ set_timer name ticks r
unfolding start_unless_running
start-idle name ticks r h = ap (λ b. cond b r (set_timer name ticks r)) h

-- ---- stopping

pub left-clear : (name : TimerName) (r : Running) → (clear_timer name r).left name ≡ None
unfolding clear_timer
left-clear name r = lost r.counts (λ x. cond (is_same name x) None (r.left x)) name (ap (λ b. cond b None (r.left name)) (is_itself name))

pub left-clear_other : (name other : TimerName) (r : Running) → name ≢ other → (clear_timer name r).left other ≡ r.left other
unfolding clear_timer
left-clear_other name other r h = kept r (λ x. cond (is_same name x) None (r.left x)) other (ap (λ b. cond b None (r.left other)) (other_is_not name other h))

pub counts-clear : (name : TimerName) (r : Running) → (clear_timer name r).counts ≡ r.counts
unfolding clear_timer
counts-clear name r = refl

pub left-clear_set : (timer : RouteTimer) (set : ℕ) (name : TimerName) (r : Running) → is_of_set timer set name ≡ true → (clear_set timer set r).left name ≡ None
unfolding clear_set
left-clear_set timer set name r h = lost r.counts (λ x. cond (is_of_set timer set x) None (r.left x)) name (ap (λ b. cond b None (r.left name)) h)

pub left-clear_set_other : (timer : RouteTimer) (set : ℕ) (other : TimerName) (r : Running) → is_of_set timer set other ≡ false → (clear_set timer set r).left other ≡ r.left other
unfolding clear_set
left-clear_set_other timer set other r h = kept r (λ x. cond (is_of_set timer set x) None (r.left x)) other (ap (λ b. cond b None (r.left other)) h)

pub counts-clear_set : (timer : RouteTimer) (set : ℕ) (r : Running) → (clear_set timer set r).counts ≡ r.counts
unfolding clear_set
counts-clear_set timer set r = refl

same_set : (set : ℕ) → (set == set) ≡ true
same_set set = grind (arith, nat_tests)

pub left-clear_t8 : (set destination : ℕ) (r : Running) → (clear_set route.T8 set r).left (name.T8 set destination) ≡ None
left-clear_t8 set destination r = left-clear_set route.T8 set (name.T8 set destination) r (same_set set)

pub left-clear_t10 : (set destination : ℕ) (r : Running) → (clear_set route.T10 set r).left (name.T10 set destination) ≡ None
left-clear_t10 set destination r = left-clear_set route.T10 set (name.T10 set destination) r (same_set set)

-- ---- at first, and by a tick

pub left-none : (name : TimerName) (n : NodeCounts) → (none_running n).left name ≡ None
left-none name n = lost n (λ name. None) name refl

pub left-ticked : (name : TimerName) (r : Running) → (ticked r).left name ≡ one_less (r.left name)
left-ticked name r =
    elim (has_name r.counts name) as (λ b. has_name r.counts name ≡ b → cond b (one_less (r.left name)) None ≡ one_less (r.left name)) [
      | true ↦ λ h. refl
      | false ↦ λ h. sym (ap one_less (r.only name h))
    ] refl
