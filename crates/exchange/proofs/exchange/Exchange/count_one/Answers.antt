-- With the flows to the destination all are counted; if it isn't there, they were.
use Rattle.exchange.proofs.Basics.{◌≡◌, length, ap, sym, ◌∙◌, facts, arith, State, KeptQueues}
use Rattle.exchange_rules.specs.State.{Reroutings}
use Rattle.exchange.specs.DueFlows.{with_reroutings}
use Rattle.exchange.proofs.Recounting.{one-due, past-due}
use Rattle.exchange.proofs.exchange.Exchange.count_one.Goals as goal

pub returns-then-destination-destinations : goal.returns-then-destination-destinations
returns-then-destination-destinations c =
    let s : State KeptQueues = c.args.self.now in
    let rows : length c.destinations.result.now ≡ length s.settings.destinations =
    ap length c.destinations.ensures.rows ∙ ap (λ (k : State KeptQueues). length k.settings.destinations) c.self.view_is in
    c.count_row.ensures
    ∙ ap (λ (r : Reroutings). with_reroutings s r)
    (one-due s.settings (facts s.settings s.node.parts) c.args.destination s.reroutings c.requires (omega (arith, c.if-destination-destinations.true, rows)))

pub returns-else-destination-destinations : goal.returns-else-destination-destinations
returns-else-destination-destinations c =
    let s : State KeptQueues = c.args.self.now in
    let rows : length c.destinations.result.now ≡ length s.settings.destinations =
    ap length c.destinations.ensures.rows ∙ ap (λ (k : State KeptQueues). length k.settings.destinations) c.self.view_is in
    ap (λ (r : Reroutings). with_reroutings s r)
    (sym (past-due s.settings (facts s.settings s.node.parts) c.args.destination s.reroutings c.requires (omega (arith, c.if-destination-destinations.false, rows))))
