-- Which flows are rerouted: what is counted at the end of each event.
use Rattle.std.specs.Prelude.{ℕ, Bool, true, false, not, ◌&&◌, ◌+◌, ◌-◌, ◌^◌, min, nat_eq, List, [], ◌∷◌, length, replicate, slice_get, slice_index_or, Option, Some, None}
use Rattle.std.specs.Option.{option_map, option_map_or, option_or}
use Rattle.signalling_types.specs.declared.limits.TheConstants.Limits.{SELECTIONS}
use Rattle.settings.specs.Configuration.{Configuration}
use Rattle.routes.specs.Routes.{Facts, chosen_link}
use Rattle.exchange_rules.specs.State.{Reroutings}
use Rattle.exchange_rules.specs.Routing.{set_of, point_of}

-- the set of a flow's link, if it has one
abbrev pub set_taken : Configuration → Facts → (destination sls : ℕ) → Option ℕ
set_taken c f destination sls = option_map (set_of c) (chosen_link f destination sls)

-- the set by which a flow went last, if it goes by one now, or by none
abbrev pub last_set : (before now : Option ℕ) → Option ℕ
last_set before now = option_or now before

-- whether a set is a destination's own: its links lead to that point itself
abbrev pub is_direct : Configuration → (set destination : ℕ) → Bool
is_direct c set destination =
    option_map_or (λ s. nat_eq s.adjacent (point_of c destination)) (slice_get c.sets set) false

-- whether a flow went by one set before, and goes by another now. One that leaves its destination's own set isn't
-- counted, since the changeover of its link moves its messages in order (Q.704 §5)
abbrev pub is_rerouted : Configuration → (destination : ℕ) → (before now : Option ℕ) → Bool
is_rerouted c destination None now = false
is_rerouted c destination (Some before) None = false
is_rerouted c destination (Some before) (Some now) =
    not (nat_eq before now) && not (is_direct c before destination)

-- a flow of which that holds counts one
abbrev pub one_if : Bool → ℕ
one_if true = 1
one_if false = 0

module _ (c : Configuration) (f : Facts) where
  -- the sets by which the flows to a destination went last, from a selection on
  abbrev pub last_sets_from : (destination sls : ℕ) → List (Option ℕ) → List (Option ℕ)
  last_sets_from destination sls [] = []
  last_sets_from destination sls (before ∷ others) =
      last_set before (set_taken c f destination sls) ∷ last_sets_from destination (sls + 1) others

  -- how many of these flows are rerouted
  abbrev pub changes_from : (destination sls : ℕ) → List (Option ℕ) → ℕ
  changes_from destination sls [] = 0
  changes_from destination sls (before ∷ others) =
      one_if (is_rerouted c destination before (set_taken c f destination sls))
      + changes_from destination (sls + 1) others

  -- the same of all destinations from one on: the sets, and how many flows are rerouted
  abbrev pub all_last_sets_from : (destination : ℕ) → List (List (Option ℕ)) → List (List (Option ℕ))
  all_last_sets_from destination [] = []
  all_last_sets_from destination (row ∷ others) =
      last_sets_from destination 0 row ∷ all_last_sets_from (destination + 1) others

  abbrev pub all_changes_from : (destination : ℕ) → List (List (Option ℕ)) → ℕ
  all_changes_from destination [] = 0
  all_changes_from destination (row ∷ others) =
      changes_from destination 0 row + all_changes_from (destination + 1) others

  -- each flow that is rerouted is counted, and goes by its set from then on
  abbrev pub counted : Reroutings → Reroutings
  counted r = record {
    last_sets = all_last_sets_from 0 r.last_sets;
    times = min (r.times + all_changes_from 0 r.last_sets) (2 ^ 64 - 1);
  }

-- no flow went by any set, and none was counted
abbrev pub first_reroutings : Configuration → Reroutings
first_reroutings c = record {
  last_sets = replicate (length c.destinations) (replicate SELECTIONS None);
  times = 0;
}

-- the set by which a flow went last; one that isn't there went by none
abbrev pub set_before : Reroutings → (destination sls : ℕ) → Option ℕ
set_before r destination sls = slice_index_or (slice_index_or r.last_sets destination []) sls None
