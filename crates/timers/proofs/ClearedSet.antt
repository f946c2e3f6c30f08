-- A timer of a set is stopped, destination by destination.
use Rattle.timers.proofs.Basics.{◌≡◌, ℕ, zero, suc, ◌==◌, nat_lt, ◌<◌, ◌≤◌, inl, inr, Bool, true, false, refl, sym, ap, subst, ◌∙◌, arith, cases_eq, cases_lt, false≢true, nat_tests, None, ◌&&◌, TimerName, T8, T10, RouteTimer, NodeCounts, has_name, is_of_set, name_of_route, Running, clear_timer, clear_set, one_map}
use Rattle.timers.specs.declared.name.RouteTimer.TheVariants as route
use Rattle.timers.proofs.Maps.{left-clear, left-clear_other, counts-clear, left-clear_set, left-clear_set_other, counts-clear_set}

-- stopped for n destinations
abbrev pub cleared_below : RouteTimer → (set destinations : ℕ) → Running → Running
cleared_below timer set zero r = r
cleared_below timer set (suc destinations) r = clear_timer (name_of_route timer set destinations) (cleared_below timer set destinations r)

counts-below : (timer : RouteTimer) (set destinations : ℕ) (r : Running) → (cleared_below timer set destinations r).counts ≡ r.counts
counts-below timer set zero r = refl
counts-below timer set (suc d) r = counts-clear (name_of_route timer set d) (cleared_below timer set d r) ∙ counts-below timer set d r

-- a name of a set is that of a destination
record IsOfRoute (timer : RouteTimer) (set : ℕ) (name : TimerName) : Type 0 where
  destination : ℕ
  named : name ≡ name_of_route timer set destination

same_set : (s set : ℕ) → (s == set) ≡ true → s ≡ set
same_set s set h = grind (arith, nat_tests, h)

of_route : (timer : RouteTimer) (set : ℕ) (name : TimerName) → is_of_set timer set name ≡ true → IsOfRoute timer set name
of_route route.T8 set (T8 s destination) h = record { destination = destination; named = ap (λ s. T8 s destination) (same_set s set h) }
of_route route.T10 set (T10 s destination) h = record { destination = destination; named = ap (λ s. T10 s destination) (same_set s set h) }
of_route timer set name h = absurd cc

is_route : (timer : RouteTimer) (set destination : ℕ) → is_of_set timer set (name_of_route timer set destination) ≡ true
is_route route.T8 set destination = grind (arith, nat_tests)
is_route route.T10 set destination = grind (arith, nat_tests)

-- the destination that a name gives
abbrev destination_of : TimerName → ℕ
destination_of (T8 set destination) = destination
destination_of (T10 set destination) = destination
destination_of name = 0

route-destination : (timer : RouteTimer) (set d : ℕ) → destination_of (name_of_route timer set d) ≡ d
route-destination route.T8 set d = refl
route-destination route.T10 set d = refl

-- it is stopped for these
gone : (timer : RouteTimer) (set destinations d : ℕ) (r : Running) → d < destinations → (cleared_below timer set destinations r).left (name_of_route timer set d) ≡ None
gone timer set zero d r h = absurd (omega (arith, h))
gone timer set (suc n) d r h =
    let s = cleared_below timer set n r in
    elim (cases_eq n d) [
      | inl same ↦ subst (λ d. (clear_timer (name_of_route timer set n) s).left (name_of_route timer set d) ≡ None) same (left-clear (name_of_route timer set n) s)
      | inr differs ↦
          left-clear_other (name_of_route timer set n) (name_of_route timer set d) s (λ e. differs (sym (route-destination timer set n) ∙ ap destination_of e ∙ route-destination timer set d))
          ∙ gone timer set n d r (below n d h differs)
    ]
  where
    below : (n d : ℕ) → d < suc n → (n ≡ d → ⊥) → d < n
    below n d h differs = elim (cases_lt d n) [ inl lower ↦ lower | inr higher ↦ absurd (differs (omega (arith, h, higher))) ]

-- and no other timer is
stays : (timer : RouteTimer) (set destinations : ℕ) (name : TimerName) (r : Running) → is_of_set timer set name ≡ false → (cleared_below timer set destinations r).left name ≡ r.left name
stays timer set zero name r h = refl
stays timer set (suc d) name r h =
    left-clear_other (name_of_route timer set d) name (cleared_below timer set d r) (λ e. false≢true (sym h ∙ ap (is_of_set timer set) (sym e) ∙ is_route timer set d))
    ∙ stays timer set d name r h

past : (b : Bool) (d m : ℕ) → m ≤ d → (b && nat_lt d m) ≡ false
past true d m h = grind (arith, nat_tests, h)
past false d m h = refl

-- it exists for the destinations of the node alone
no_further : (timer : RouteTimer) (set d : ℕ) (n : NodeCounts) → n.destinations ≤ d → has_name n (name_of_route timer set d) ≡ false
no_further route.T8 set d n h = past (nat_lt set n.sets) d n.destinations h
no_further route.T10 set d n h = past (nat_lt set n.sets) d n.destinations h

pub all-cleared : (timer : RouteTimer) (set : ℕ) (r : Running) → cleared_below timer set r.counts.destinations r ≡ clear_set timer set r
all-cleared timer set r =
    one_map (cleared_below timer set r.counts.destinations r) (clear_set timer set r) (counts-below timer set r.counts.destinations r ∙ sym (counts-clear_set timer set r)) each
  where
    of_set : (name : TimerName) → is_of_set timer set name ≡ true → (cleared_below timer set r.counts.destinations r).left name ≡ None
    of_set name h =
        let o = of_route timer set name h in
        let m = cleared_below timer set r.counts.destinations r in
        elim (cases_lt o.destination r.counts.destinations) [
          | inl there ↦ ap (λ x. m.left x) o.named ∙ gone timer set r.counts.destinations o.destination r there
          | inr further ↦ m.only name (ap (λ n. has_name n name) (counts-below timer set r.counts.destinations r) ∙ ap (has_name r.counts) o.named ∙ no_further timer set o.destination r.counts further)
        ]

    each : (name : TimerName) → (cleared_below timer set r.counts.destinations r).left name ≡ (clear_set timer set r).left name
    each name =
        elim (is_of_set timer set name) as (λ b. is_of_set timer set name ≡ b → (cleared_below timer set r.counts.destinations r).left name ≡ (clear_set timer set r).left name) [
          | true ↦ λ h. of_set name h ∙ sym (left-clear_set timer set name r h)
          | false ↦ λ h. stays timer set r.counts.destinations name r h ∙ sym (left-clear_set_other timer set name r h)
        ] refl
