-- Which flows may have changed their set since they were last counted.
use Rattle.std.specs.Prelude.{◌≡◌, ◌≤◌, ◌<◌, ◌+◌, ◌-◌, ◌^◌, min, ℕ, Bool, true, false, nat_eq, List, [], length, slice_index_or, slice_set, Option, if◌then◌else◌}
use Rattle.settings.specs.Configuration.{Configuration}
use Rattle.routes.specs.Routes.{Facts}
use Rattle.exchange_rules.specs.State.{Reroutings, State}
use Rattle.exchange_rules.specs.Routing.{facts}
use Rattle.exchange_rules.specs.Reroutings.{last_sets_from, changes_from, counted}
use Rattle.exchange.specs.declared.reroutings.DueFlows.{DueFlows}
use Rattle.exchange.specs.declared.reroutings.DueFlows.TheVariants.{Nothing, To, All}

-- whether flows to a destination may have
abbrev pub is_due : DueFlows → (destination : ℕ) → Bool
is_due Nothing destination = false
is_due (To its) destination = nat_eq its destination
is_due All destination = true

abbrev pub is_any_due : DueFlows → Bool
is_any_due Nothing = false
is_any_due (To its) = true
is_any_due All = true

-- and those to one more
abbrev pub with_due : (destination : ℕ) → DueFlows → DueFlows
with_due destination Nothing = To destination
with_due destination (To its) = if nat_eq its destination then To its else All
with_due destination All = All

abbrev pub with_all_due_if : (changed : Bool) → DueFlows → DueFlows
with_all_due_if true due = All
with_all_due_if false due = due

-- the sets by which the flows to a destination went last
abbrev pub row_of : Reroutings → (destination : ℕ) → List (Option ℕ)
row_of r destination = slice_index_or r.last_sets destination []

-- the flows to one destination are counted
abbrev pub row_counted : Configuration → Facts → (destination : ℕ) → Reroutings → Reroutings
row_counted c f destination r = record {
  last_sets = slice_set r.last_sets destination (last_sets_from c f destination 0 (row_of r destination));
  times = min (r.times + changes_from c f destination 0 (row_of r destination)) (2 ^ 64 - 1);
}

-- an exchange with other reroutings
abbrev pub with_reroutings : {Q : Type 0} → State Q → Reroutings → State Q
with_reroutings s r = record s { reroutings = r }

-- those to a destination were counted: to count them again changes nothing
abbrev pub IsCounted : Configuration → Facts → Reroutings → (destination : ℕ) → Type 0
IsCounted c f r destination = last_sets_from c f destination 0 (row_of r destination) ≡ row_of r destination

-- there are sets for each destination, and all flows were counted but those that are due
pub record CountedBut (c : Configuration) (due : DueFlows) (f : Facts) (r : Reroutings) : Type 0 where
  pub rows : length r.last_sets ≡ length c.destinations
  pub few : r.times ≤ 2 ^ 64 - 1
  pub counted : (destination : ℕ) → is_due due destination ≡ false → IsCounted c f r destination

-- of an exchange, the flows to the destinations below one were counted, and nothing else changed
pub record IsCountedBelow {Q : Type 0} (old : State Q) (below : ℕ) (new : State Q) : Type 0 where
  pub others : new ≡ with_reroutings old new.reroutings
  pub same :
      counted old.settings (facts old.settings old.node.parts) new.reroutings
      ≡ counted old.settings (facts old.settings old.node.parts) old.reroutings
  pub rows : length new.reroutings.last_sets ≡ length old.settings.destinations
  pub few : new.reroutings.times ≤ 2 ^ 64 - 1
  pub done : (destination : ℕ) → destination < below →
      IsCounted old.settings (facts old.settings old.node.parts) new.reroutings destination
