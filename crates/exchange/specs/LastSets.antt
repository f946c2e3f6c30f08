-- How the sets by which the flows to one destination went are kept.
use Rattle.std.specs.Prelude.{◌≡◌, ℕ, List, Option, length}
use Rattle.signalling_types.specs.declared.limits.TheConstants.Limits.{SELECTIONS}
use Rattle.exchange.specs.declared.reroutings.LastSets.TheInside.{Inside}

abbrev pub last_sets_in : Inside → List (Option ℕ)
last_sets_in s = s.sets

-- there is a place for each selection
pub record HasSelections (s : Inside) : Type 0 where
  pub places : length s.sets ≡ SELECTIONS
