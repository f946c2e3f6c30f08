-- TCRC, controlled rerouting control (Q.704 §8): the flows to a destination that change their link when a route to it
-- gets another status, and what holds them.
use Rattle.std.specs.Prelude.{ℕ, Bool, false, not, nat_eq, List, [], ◌∷◌, Option, Some, None, slice_index_or}
use Rattle.std.specs.List.{filter, range_with_len}
use Rattle.routes.specs.Routes.{Facts, chosen_link}
use Rattle.flow_hold.specs.declared.procedure.Procedure.TheVariants.{Reroute}
use Rattle.signalling_types.specs.declared.limits.TheConstants.Limits.{SELECTIONS}
use Rattle.flow_hold.specs.Holds.{HoldSet, with_hold}

-- whether a flow goes from one link to another; one that had no link, or has none now, doesn't
abbrev pub is_other_link : (before after : Option ℕ) → Bool
is_other_link (Some from) (Some to) = not (nat_eq from to)
is_other_link (Some from) None = false
is_other_link None after = false

module _ (before after : Facts) (destination : ℕ) where
  -- whether the flow of a selection goes from one link to another
  abbrev pub changes_link : (sls : ℕ) → Bool
  changes_link sls = is_other_link (chosen_link before destination sls) (chosen_link after destination sls)

  -- the selections of the flows to a destination that go from one link to another
  unfoldable pub rerouted : List ℕ
  rerouted = filter changes_link (range_with_len 0 SELECTIONS)

-- the same among the first n selections, by the list of the links that their flows took before
unfoldable pub moved_from : (before : List (Option ℕ)) → (after : Facts) → (destination count : ℕ) → List ℕ
moved_from before after destination count =
    filter (λ sls. is_other_link (slice_index_or before sls None) (chosen_link after destination sls))
    (range_with_len 0 count)

-- the flows of these selections to a destination are held by its rerouting
abbrev pub held_for : (destination : ℕ) → (selections : List ℕ) → HoldSet → HoldSet
held_for destination [] h = h
held_for destination (sls ∷ others) h = held_for destination others (with_hold h (Reroute destination) destination sls)
