-- Once the flows to all destinations were counted, all flows are.
use Rattle.exchange.proofs.Basics.{◌≡◌, ap, ◌∙◌, length, arith, State, KeptQueues}
use Rattle.exchange.proofs.Recounting.{none-below, one-below, all-below}
use Rattle.exchange.proofs.Rooms.{view_flows}
use Rattle.exchange.proofs.exchange.Exchange.count_rows.Goals as goal

pub loop-destination-init : goal.loop-destination-init
loop-destination-init c =
    let s : State KeptQueues = c.args.self.now in
    let f = view_flows c.self.inside s c.self.invariant c.self.view_is in
    none-below s f.rows f.few

pub loop-destination-preserved : goal.loop-destination-preserved
loop-destination-preserved c =
    let rows : length c.destinations-destination-end.result.now ≡ length c.args.self.now.settings.destinations =
    ap length c.destinations-destination-end.ensures.rows ∙ ap (λ (s : State KeptQueues). length s.settings.destinations) c.self.view_is in
    one-below c.args.self.now c.loop-destination.destination c.loop-destination.self _ c.loop-destination.invariant (omega (arith, c.loop-destination-test.true, rows)) c.count_row.ensures

pub returns : goal.returns
returns c =
    let rows : length c.destinations-destination-end.result.now ≡ length c.args.self.now.settings.destinations =
    ap length c.destinations-destination-end.ensures.rows ∙ ap (λ (s : State KeptQueues). length s.settings.destinations) c.self.view_is in
    all-below c.args.self.now c.loop-destination.destination c.loop-destination.self c.loop-destination.invariant (omega (arith, c.loop-destination-test.false, rows))
