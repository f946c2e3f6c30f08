-- Where no flow may have changed its set, all were counted.
use Rattle.exchange.proofs.Basics.{ap, sym, ◌∙◌, facts, State, KeptQueues}
use Rattle.exchange_rules.specs.State.{Reroutings}
use Rattle.exchange.specs.DueFlows.{with_reroutings}
use Rattle.exchange.proofs.Recounting.{nothing-due}
use Rattle.exchange.proofs.Rooms.{view_flows}
use Rattle.exchange.proofs.exchange.Exchange.count_flows.Goals as goal

pub returns-else-is_any : goal.returns-else-is_any
returns-else-is_any c =
    let s : State KeptQueues = c.args.self.now in
    ap (λ (r : Reroutings). with_reroutings s r)
    (sym (nothing-due s.settings (facts s.settings s.node.parts) c.self.inside.flows_due s.reroutings (sym c.is_any.ensures ∙ c.if-is_any.false)
    (view_flows c.self.inside s c.self.invariant c.self.view_is)))
