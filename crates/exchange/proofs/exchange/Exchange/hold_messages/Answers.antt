-- The flow of one message is held, and one fewer is left.
use Rattle.exchange.proofs.Basics.{◌≡◌, ◌+◌, [], List, drop, arith, ap, sym, ◌∙◌, slice_get, drop_all, Message, HoldSet, State, KeptQueues, link_lane, with_holds, with_head, with_messages}
use Rattle.exchange.proofs.Passing.{next_held}
use Rattle.exchange.proofs.exchange.Exchange.hold_messages.Goals as goal

pub loop-place-preserved : goal.loop-place-preserved
loop-place-preserved c =
    let did = c.hold_message.ensures
    ∙ ap (λ (s : State KeptQueues). with_holds s (with_head s.settings c.args.link (slice_get (link_lane s.node.queues c.args.link) c.loop-place.place) c.loop-place.self.node.parts.holds)) c.loop-place.invariant.same in
    let holds = ap (λ (s : State KeptQueues). s.node.parts.holds) did in
    record {
      same = did ∙ ap (λ (t : HoldSet). with_holds c.args.self.now t) (sym holds);
      rest = ap (λ (t : HoldSet). with_messages c.args.self.now.settings c.args.link (drop (c.loop-place.place + 1) (link_lane c.args.self.now.node.queues c.args.link)) t) holds
          ∙ next_held c.args.self.now.settings c.args.link c.loop-place.place (link_lane c.args.self.now.node.queues c.args.link) c.loop-place.self.node.parts.holds
          ∙ c.loop-place.invariant.rest;
    }

pub returns : goal.returns
returns c =
    let lane : List Message = link_lane c.args.self.now.node.queues c.args.link in
    let none : drop c.loop-place.place lane ≡ [] = drop_all c.loop-place.place lane (omega (arith, c.loop-place-test.false, c.count_on-place-end.ensures)) in
    c.loop-place.invariant.same
    ∙ ap (λ (t : HoldSet). with_holds c.args.self.now t)
    (sym (ap (λ (ms : List Message). with_messages c.args.self.now.settings c.args.link ms c.loop-place.self.node.parts.holds) none) ∙ c.loop-place.invariant.rest)
