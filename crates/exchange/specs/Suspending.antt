-- How the code finds the flows that a changeover holds: it walks all flows, and then the messages of the link.
use Rattle.std.specs.Prelude.{ℕ, zero, suc, List, [], ◌∷◌, Option, Some, None, if◌then◌else◌}
use Rattle.signalling_types.specs.Message.{Message, flow_of, is_management}
use Rattle.settings.specs.Configuration.{Configuration}
use Rattle.settings.specs.Readings.{destination_place}
use Rattle.routes.specs.Routes.{Facts, chosen_link}
use Rattle.flow_hold.specs.declared.procedure.Procedure.TheVariants.{Changeover}
use Rattle.signalling_types.specs.declared.limits.TheConstants.Limits.{SELECTIONS}
use Rattle.flow_hold.specs.Holds.{HoldSet, with_hold}
use Rattle.exchange_rules.specs.Routing.{goes_by}

module _ (f : Facts) (link : ℕ) where
  -- a flow is held if it goes by the link
  abbrev pub with_flow : (place sls : ℕ) → HoldSet → HoldSet
  with_flow place sls holds =
      if goes_by (chosen_link f place sls) link then with_hold holds (Changeover link) place sls else holds

  -- the same for the flows of the first n selections to a destination
  unfoldable pub with_selections : (place count : ℕ) → HoldSet → HoldSet
  with_selections place zero holds = holds
  with_selections place (suc count) holds = with_flow place count (with_selections place count holds)

  -- and those to the first n destinations
  unfoldable pub with_destinations : (count : ℕ) → HoldSet → HoldSet
  with_destinations zero holds = holds
  with_destinations (suc count) holds = with_selections count SELECTIONS (with_destinations count holds)

module _ (c : Configuration) (link : ℕ) where
  -- a flow to a destination that is there is held
  abbrev pub with_flow_to : Option ℕ → (sls : ℕ) → HoldSet → HoldSet
  with_flow_to (Some place) sls holds = with_hold holds (Changeover link) place sls
  with_flow_to None sls holds = holds

  -- the flow of a user message is held
  abbrev pub with_message : Message → HoldSet → HoldSet
  with_message m holds =
      if is_management m then holds
      else with_flow_to (destination_place c (flow_of m).point) (flow_of m).sls holds

  -- so are those of several messages
  abbrev pub with_messages : List Message → HoldSet → HoldSet
  with_messages [] holds = holds
  with_messages (m ∷ ms) holds = with_messages ms (with_message m holds)
