-- A link passed its first test, or carried traffic before, or doesn't now.
use Rattle.std.proofs.Common.{sym, ◌∙◌, inl, inr}
use Rattle.exchange.proofs.Basics.{◌<◌, length, arith, ap, State, KeptQueues}
use Rattle.exchange.proofs.Returning.{passed_first, passed_later}
use Rattle.exchange.proofs.exchange.Exchange.pass_test.Goals as goal
use Rattle.exchange.proofs.exchange.Exchange.pass_test.Goals.{else-not-carried-via-then-not-carried+else-carries_traffic, else-not-carried-via-else-not-carried}

pub returns-then-carries_traffic : goal.returns-then-carries_traffic
returns-then-carries_traffic c =
    let there : c.args.link < length c.args.self.now.node.parts.links =
    omega (arith, c.requires, c.self.invariant.links, ap (λ (s : State KeptQueues). length s.settings.links) c.self.view_is, ap (λ (s : State KeptQueues). length s.node.parts.links) c.self.view_is) in
    passed_first c.args.self.now c.test_passed.new.self c.take_flows_back.new.self c.args.link there c.test_passed.ensures
    (sym c.carries_traffic-carried.ensures ∙ c.if-not-carried.true)
    (sym c.carries_traffic.ensures ∙ c.if-carries_traffic.true) c.take_flows_back.ensures

pub returns-else-not-carried : goal.returns-else-not-carried
returns-else-not-carried c =
    let there : c.args.link < length c.args.self.now.node.parts.links =
    omega (arith, c.requires, c.self.invariant.links, ap (λ (s : State KeptQueues). length s.settings.links) c.self.view_is, ap (λ (s : State KeptQueues). length s.node.parts.links) c.self.view_is) in
    passed_later c.args.self.now c.test_passed.new.self c.args.link there c.test_passed.ensures
    (elim c.else-not-carried.branch [
      | else-not-carried-via-then-not-carried+else-carries_traffic w ↦ inr (sym w.carries_traffic.ensures ∙ w.if-carries_traffic.false)
      | else-not-carried-via-else-not-carried w ↦ inl (sym c.carries_traffic-carried.ensures ∙ w.if-not-carried.false)
    ])
