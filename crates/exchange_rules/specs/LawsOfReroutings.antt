-- Which flows are counted as rerouted, and that each flow keeps its link set while none is: laws.
use Rattle.std.specs.Prelude.{◌≡◌, ◌≤◌, ◌<◌, ◌⊎◌, ◌+◌, ◌-◌, ◌^◌, min, ℕ, Bool, length, count_by, slice_get, List, Option, None, Some}
use Rattle.signalling_types.specs.declared.limits.TheConstants.Limits.{SELECTIONS}
use Rattle.settings.specs.Configuration.{Configuration, SetEntry}
use Rattle.flow_hold.specs.Holds.{flows, passes}
use Rattle.exchange_rules.specs.State.{Asking, Happening}
use Rattle.exchange_rules.specs.Routing.{facts, point_of}
use Rattle.exchange_rules.specs.Reroutings.{set_taken, is_rerouted, set_before}
use Rattle.exchange_rules.specs.Exchange.{after, taken}
use Rattle.exchange_rules.specs.Queues.{whole}
use Rattle.exchange_rules.specs.Lasting.{after_each}
use Rattle.exchange_rules.specs.First.{Abstract, first_state}

-- the set that a flow takes in a state
abbrev pub set_in : Abstract → (destination sls : ℕ) → Option ℕ
set_in a destination sls = set_taken a.settings (facts a.settings a.node.parts) destination sls

-- how many changes can be counted
abbrev pub most_times : ℕ
most_times = 2 ^ 64 - 1

-- a set is a destination's own: its adjacent point is the destination's point
abbrev pub IsOwnSet : Configuration → (set destination : ℕ) → Type 0
IsOwnSet c set destination =
    (s : SetEntry) × (slice_get c.sets set ≡ Some s) × (s.adjacent ≡ point_of c destination)

-- a flow went by no set yet, or by the one that it takes now, or it has left its destination's own set
abbrev pub KeepsItsSet : Configuration → (destination : ℕ) → (before : Option ℕ) → (now : ℕ) → Type 0
KeepsItsSet c destination before now =
    (before ≡ None)
    ⊎ ((before ≡ Some now)
    ⊎ ((own : ℕ) × (before ≡ Some own) × IsOwnSet c own destination))

-- ---- the count

-- at first no flow went by any set, and none is counted
abbrev pub no_flow_went_at_first : Type 0
no_flow_went_at_first =
    (c : Configuration) (destination sls : ℕ) →
    ((first_state c).reroutings.times ≡ 0) × (set_before (first_state c).reroutings destination sls ≡ None)

-- whether an event reroutes a flow
abbrev pub is_rerouted_by : Happening → Abstract → (destination sls : ℕ) → Bool
is_rerouted_by what a destination sls =
    is_rerouted a.settings destination (set_before a.reroutings destination sls)
    (set_in (after whole what a) destination sls)

-- an event counts each flow to each destination once that it reroutes, as far as can be counted
abbrev pub CountsRerouted : Happening → Abstract → Type 0
CountsRerouted what a =
    (after whole what a).reroutings.times
    ≡ min (a.reroutings.times + count_by (passes (is_rerouted_by what a)) (flows (length a.settings.destinations)))
    most_times

-- so does each event in each state reached from the first
abbrev pub events_count_what_they_reroute : Type 0
events_count_what_they_reroute =
    (c : Configuration) (asked : List Asking) (what : Happening) → CountsRerouted what (after_each asked (first_state c))

-- an event that lets each flow that has a link after it keep its set counts none
abbrev pub events_that_keep_sets_count_none : Type 0
events_that_keep_sets_count_none =
    (what : Happening) (a : Abstract) → a.reroutings.times ≤ most_times →
    ((destination sls now : ℕ) → set_in (after whole what a) destination sls ≡ Some now →
    KeepsItsSet a.settings destination (set_before a.reroutings destination sls) now) →
    (after whole what a).reroutings.times ≡ a.reroutings.times

-- a take counts none, and no flow goes by another set for it
abbrev pub takes_reroute_nothing : Type 0
takes_reroute_nothing =
    (a : Abstract) (link destination sls : ℕ) →
    ((taken whole a link).reroutings ≡ a.reroutings)
    × (set_in (taken whole a link) destination sls ≡ set_in a destination sls)

-- the count never falls
abbrev pub reroutings_stay_counted : Type 0
reroutings_stay_counted =
    (asked : List Asking) (a : Abstract) → a.reroutings.times ≤ most_times →
    a.reroutings.times ≤ (after_each asked a).reroutings.times

-- ---- what a flow does while none is counted

-- an event that counts none lets each flow that has a link after it keep its set
abbrev pub uncounted_events_keep_sets : Type 0
uncounted_events_keep_sets =
    (what : Happening) (a : Abstract) (destination sls now : ℕ) → a.reroutings.times < most_times →
    (after whole what a).reroutings.times ≡ a.reroutings.times →
    set_in (after whole what a) destination sls ≡ Some now →
    KeepsItsSet a.settings destination (set_before a.reroutings destination sls) now

-- in each state reached from the first, the set that a flow takes is the one by which it went last
abbrev pub flows_go_by_their_last_set : Type 0
flows_go_by_their_last_set =
    (c : Configuration) (asked : List Asking) (destination sls now : ℕ) → destination < length c.destinations →
    sls < SELECTIONS → set_in (after_each asked (first_state c)) destination sls ≡ Some now →
    set_before (after_each asked (first_state c)).reroutings destination sls ≡ Some now

-- and while none is counted that stays so, but for its destination's own set
abbrev pub flows_keep_their_last_set : Type 0
flows_keep_their_last_set =
    (asked : List Asking) (a : Abstract) (destination sls set : ℕ) → a.reroutings.times < most_times →
    (after_each asked a).reroutings.times ≡ a.reroutings.times →
    set_before a.reroutings destination sls ≡ Some set → (IsOwnSet a.settings set destination → ⊥) →
    set_before (after_each asked a).reroutings destination sls ≡ Some set
