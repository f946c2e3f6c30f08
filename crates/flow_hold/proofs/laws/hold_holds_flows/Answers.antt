use Rattle.flow_hold.proofs.Holding.{holds_its_flow, keeps_flows_held}
use Rattle.flow_hold.proofs.laws.hold_holds_flows.Goals as goal

pub returns : goal.returns
returns c = record { own = holds_its_flow; others = keeps_flows_held }
