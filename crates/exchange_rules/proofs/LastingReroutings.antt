-- Which flows are counted as rerouted, and that each keeps its link set while none is.
use Rattle.exchange_rules.proofs.Basics.{◌≡◌, ◌≤◌, ◌<◌, ◌+◌, inl, inr, ℕ, Bool, true, false, ◌&&◌, not, nat_eq, eq-eqb, eqb-true, false_from_ne_true, List, [], ◌∷◌, length, slice_index_or, slice_get, Option, Some, None, refl, ap, sym, subst, ◌∙◌, arith, min}
use Rattle.std.specs.Option.{option_map_or}
use Rattle.exchange_rules.proofs.Definitions.{Configuration, SetEntry, Facts, facts, point_of, Abstract, first_state, Asking, Happening, Happens, Takes, AsksWants, after_asking, after_each, whole, apply, SELECTIONS}
use Rattle.exchange_rules.specs.State.{Reroutings}
use Rattle.exchange_rules.specs.Exchange.{after, taken}
use Rattle.exchange_rules.specs.Reroutings.{set_taken, last_set, is_direct, is_rerouted, counted, set_before}
use Rattle.exchange_rules.specs.LawsOfReroutings.{set_in, most_times, IsOwnSet, KeepsItsSet, is_rerouted_by, CountsRerouted, no_flow_went_at_first, events_count_what_they_reroute, events_that_keep_sets_count_none, takes_reroute_nothing, reroutings_stay_counted, uncounted_events_keep_sets, flows_go_by_their_last_set, flows_keep_their_last_set}
use Rattle.exchange_rules.proofs.CountedFlows.{all-counted, none-counted}
use Rattle.exchange_rules.proofs.Reroutings.{stays, counted-again, set-at, flow-kept, never-falls, HasFlows, counted-flows, set-there, take-facts, take-rerouting, first-rerouting, first-flows, none-before}

-- ---- the count

pub none-first : no_flow_went_at_first
none-first c destination sls = (refl, none-before c destination sls)

pub takes-reroute : takes_reroute_nothing
takes-reroute a link destination sls =
    (refl, ap (λ (f : Facts). set_taken a.settings f destination sls) (take-facts a.settings link a.node))

at-most : (first next last : ℕ) → first ≤ next → next ≤ last → first ≤ last
at-most first next last l m = omega (arith, l, m)

self-most : (n : ℕ) → n ≤ n
self-most n = omega arith

pub stay-counted : reroutings_stay_counted
stay-counted [] a l = self-most a.reroutings.times
stay-counted (Happens what ∷ others) a l =
    let b : Abstract = after whole what a in
    let grows = never-falls a.settings (facts a.settings b.node.parts) a.reroutings l in
    at-most a.reroutings.times b.reroutings.times (after_each others b).reroutings.times grows.0 (stay-counted others b grows.1)
stay-counted (Takes link ∷ others) a l = stay-counted others (taken whole a link) l
stay-counted (AsksWants link ∷ others) a l = stay-counted others a l

-- ---- a destination's own set

is-own : (c : Configuration) (set destination : ℕ) → is_direct c set destination ≡ true → IsOwnSet c set destination
is-own c set destination = by (slice_get c.sets set) refl
  where
    by : (row : Option SetEntry) → slice_get c.sets set ≡ row → option_map_or (λ (s : SetEntry). nat_eq s.adjacent (point_of c destination)) row false ≡ true → IsOwnSet c set destination
    by None at e = absurd cc
    by (Some s) at e = (s, at, eqb-true s.adjacent (point_of c destination) e)

not-own : (c : Configuration) (set destination : ℕ) → (IsOwnSet c set destination → ⊥) → is_direct c set destination ≡ false
not-own c set destination apart = false_from_ne_true (is_direct c set destination) (λ e. apart (is-own c set destination e))

own-is : (c : Configuration) (set destination : ℕ) → IsOwnSet c set destination → is_direct c set destination ≡ true
own-is c set destination (s, at, e) =
    ap (λ (row : Option SetEntry). option_map_or (λ (t : SetEntry). nat_eq t.adjacent (point_of c destination)) row false) at ∙ eq-eqb s.adjacent (point_of c destination) e

-- ---- one event

keeps-by : (same own : Bool) (c : Configuration) (destination set now : ℕ) → nat_eq set now ≡ same → is_direct c set destination ≡ own → (not same && not own) ≡ false
    → KeepsItsSet c destination (Some set) now
keeps-by true own c destination set now e d f = inr (inl (ap (λ (s : ℕ). Some s) (eqb-true set now e)))
keeps-by false true c destination set now e d f = inr (inr (set, refl, is-own c set destination d))
keeps-by false false c destination set now e d f = absurd cc

keeps : (c : Configuration) (destination : ℕ) (before : Option ℕ) (now : ℕ) → is_rerouted c destination before (Some now) ≡ false → KeepsItsSet c destination before now
keeps c destination None now e = inl refl
keeps c destination (Some set) now e = keeps-by (nat_eq set now) (is_direct c set destination) c destination set now refl refl e

pub uncounted-keep : uncounted_events_keep_sets
uncounted-keep what a destination sls now few same takes =
    let b : Abstract = after whole what a in
    keeps a.settings destination (set_before a.reroutings destination sls) now
    (subst (λ (o : Option ℕ). is_rerouted a.settings destination (set_before a.reroutings destination sls) o ≡ false) takes
    (flow-kept a.settings (facts a.settings b.node.parts) a.reroutings destination sls few same))

-- and the other way round
leaves-own : (same own : Bool) → own ≡ true → (not same && not own) ≡ false
leaves-own true own e = refl
leaves-own false true e = refl
leaves-own false false e = absurd cc

kept-stays : (c : Configuration) (destination : ℕ) (before : Option ℕ) (now : ℕ) → KeepsItsSet c destination before now → is_rerouted c destination before (Some now) ≡ false
kept-stays c destination None now k = refl
kept-stays c destination (Some set) now (inl e) = absurd cc
kept-stays c destination (Some set) now (inr (inl e)) = stays c destination (Some set) (Some now) (sym e)
kept-stays c destination (Some set) now (inr (inr (own, e, is))) =
    subst (λ (o : Option ℕ). is_rerouted c destination o (Some now) ≡ false) (sym e)
    (leaves-own (nat_eq own now) (is_direct c own destination) (own-is c own destination is))

flow-stays : (c : Configuration) (destination : ℕ) (before now : Option ℕ) → ((set : ℕ) → now ≡ Some set → KeepsItsSet c destination before set) → is_rerouted c destination before now ≡ false
flow-stays c destination None None k = refl
flow-stays c destination (Some set) None k = refl
flow-stays c destination before (Some now) k = kept-stays c destination before now (k now refl)

no-more : (times more limit : ℕ) → more ≡ 0 → times ≤ limit → min (times + more) limit ≡ times
no-more times more limit e l = omega (arith, e, l)

pub kept-uncounted : events_that_keep_sets_count_none
kept-uncounted what a l keep =
    let f : Facts = facts a.settings (after whole what a).node.parts in
    no-more a.reroutings.times _ most_times
    (none-counted a.settings f a.reroutings
    (λ destination sls. flow-stays a.settings destination (set_before a.reroutings destination sls) (set_taken a.settings f destination sls) (keep destination sls)))
    l

-- ---- each state reached from the first

record Reached (c : Configuration) (a : Abstract) : Type 0 where
  settings : a.settings ≡ c
  flows : HasFlows a.settings a.reroutings
  rerouting : counted a.settings (facts a.settings a.node.parts) a.reroutings ≡ a.reroutings

reach-one : (c : Configuration) (asking : Asking) (a : Abstract) → Reached c a → Reached c (after_asking asking a)
reach-one c (Happens what) a h =
    let f : Facts = facts a.settings (apply whole a.settings what a.node).left.parts in
    record {
      settings = h.settings;
      flows = counted-flows a.settings f a.reroutings h.flows;
      rerouting = counted-again a.settings f a.reroutings;
    }
reach-one c (Takes link) a h = record {
  settings = h.settings;
  flows = h.flows;
  rerouting = take-rerouting a.settings link a.node a.reroutings h.rerouting;
}
reach-one c (AsksWants link) a h = h

reach : (c : Configuration) (asked : List Asking) (a : Abstract) → Reached c a → Reached c (after_each asked a)
reach c [] a h = h
reach c (asking ∷ others) a h = reach c others (after_asking asking a) (reach-one c asking a h)

reach-first : (c : Configuration) → Reached c (first_state c)
reach-first c = record {
  settings = refl;
  flows = first-flows c;
  rerouting = first-rerouting c;
}

events-count : (c : Configuration) (what : Happening) (a : Abstract) → Reached c a → CountsRerouted what a
events-count c what a h =
    let f : Facts = facts a.settings (after whole what a).node.parts in
    ap (λ (n : ℕ). min (a.reroutings.times + n) most_times)
    (all-counted a.settings f (is_rerouted_by what a) a.reroutings h.flows (λ destination sls. refl))

pub reached-count : events_count_what_they_reroute
reached-count c asked what = events-count c what (after_each asked (first_state c)) (reach c asked (first_state c) (reach-first c))

goes-by : (c : Configuration) (a : Abstract) (destination sls now : ℕ) → Reached c a → destination < length c.destinations → sls < SELECTIONS
    → set_in a destination sls ≡ Some now → set_before a.reroutings destination sls ≡ Some now
goes-by c a destination sls now h there few takes =
    let f : Facts = facts a.settings a.node.parts in
    let is : destination < length a.settings.destinations = subst (λ (d : Configuration). destination < length d.destinations) (sym h.settings) there in
    let row : destination < length a.reroutings.last_sets = omega (arith, is, h.flows.rows) in
    let many = h.flows.places destination is in
    let place : sls < length (slice_index_or a.reroutings.last_sets destination []) = omega (arith, few, many) in
    sym (ap (λ (r : Reroutings). set_before r destination sls) h.rerouting)
    ∙ set-at a.settings f a.reroutings destination sls row place
    ∙ ap (λ (o : Option ℕ). last_set (set_before a.reroutings destination sls) o) takes

pub go-by : flows_go_by_their_last_set
go-by c asked destination sls now there few takes =
    goes-by c (after_each asked (first_state c)) destination sls now (reach c asked (first_state c) (reach-first c)) there few takes

-- ---- while none is counted

last-kept : (c : Configuration) (destination set : ℕ) (now : Option ℕ) → is_rerouted c destination (Some set) now ≡ false → is_direct c set destination ≡ false
    → last_set (Some set) now ≡ Some set
last-kept c destination set None e d = refl
last-kept c destination set (Some other) e d = ap (λ (s : ℕ). Some s) (sym (eqb-true set other (by (nat_eq set other) (is_direct c set destination) e d)))
  where
    by : (same direct : Bool) → (not same && not direct) ≡ false → direct ≡ false → same ≡ true
    by true direct e d = refl
    by false true e d = absurd cc
    by false false e d = absurd cc

event-kept : (c : Configuration) (f : Facts) (r : Reroutings) (destination sls set : ℕ) → r.times < most_times → (counted c f r).times ≡ r.times
    → set_before r destination sls ≡ Some set → is_direct c set destination ≡ false → set_before (counted c f r) destination sls ≡ Some set
event-kept c f r destination sls set few same e d =
    let now : Option ℕ = set_taken c f destination sls in
    let there = set-there r destination sls set e in
    set-at c f r destination sls there.0 there.1
    ∙ ap (λ (o : Option ℕ). last_set o now) e
    ∙ last-kept c destination set now
    (subst (λ (o : Option ℕ). is_rerouted c destination o now ≡ false) e (flow-kept c f r destination sls few same)) d

between : (first next last : ℕ) → first ≤ next → next ≤ last → last ≡ first → next ≡ first
between first next last l m e = omega (arith, l, m, e)

at-most-so : (n limit : ℕ) → n < limit → n ≤ limit
at-most-so n limit l = omega (arith, l)

sets-kept : (asked : List Asking) (a : Abstract) (destination sls set : ℕ) → a.reroutings.times < most_times → (after_each asked a).reroutings.times ≡ a.reroutings.times
    → set_before a.reroutings destination sls ≡ Some set → is_direct a.settings set destination ≡ false → set_before (after_each asked a).reroutings destination sls ≡ Some set
sets-kept [] a destination sls set few same e d = e
sets-kept (Happens what ∷ others) a destination sls set few same e d =
    let b : Abstract = after whole what a in
    let f : Facts = facts a.settings b.node.parts in
    let grows = never-falls a.settings f a.reroutings (at-most-so a.reroutings.times most_times few) in
    let now : b.reroutings.times ≡ a.reroutings.times =
    between a.reroutings.times b.reroutings.times (after_each others b).reroutings.times grows.0 (stay-counted others b grows.1) same in
    sets-kept others b destination sls set (subst (λ (n : ℕ). n < most_times) (sym now) few) (same ∙ sym now)
    (event-kept a.settings f a.reroutings destination sls set few now e d) d
sets-kept (Takes link ∷ others) a destination sls set few same e d = sets-kept others (taken whole a link) destination sls set few same e d
sets-kept (AsksWants link ∷ others) a destination sls set few same e d = sets-kept others a destination sls set few same e d

pub last-sets-kept : flows_keep_their_last_set
last-sets-kept asked a destination sls set few same e apart = sets-kept asked a destination sls set few same e (not-own a.settings set destination apart)
