-- One message is lost, and one fewer is left.
use Rattle.exchange.proofs.Basics.{◌≡◌, ◌+◌, [], List, drop, take, arith, ap, sym, ◌∙◌, slice_get, drop_all, Message, State, Parts, with_node, with_parts, KeptQueues, link_lane, lose_one, lose_users}
use Rattle.exchange.proofs.Passing.{next_lost, shorter}
use Rattle.exchange.proofs.exchange.Exchange.lose_first.Goals as goal

pub loop-place-preserved : goal.loop-place-preserved
loop-place-preserved c =
    let did = c.lose_at.ensures
    ∙ ap (λ (s : State KeptQueues). with_node s (with_parts s.node (lose_one (slice_get (link_lane s.node.queues c.args.link) c.loop-place.place) c.loop-place.self.node.parts))) c.loop-place.invariant.same in
    let parts = ap (λ (s : State KeptQueues). s.node.parts) did in
    record {
      same = did ∙ ap (λ (p : Parts). with_node c.args.self.now (with_parts c.args.self.now.node p)) (sym parts);
      rest = ap (λ (p : Parts). lose_users (drop (c.loop-place.place + 1) (take c.args.count (link_lane c.args.self.now.node.queues c.args.link))) p) parts
          ∙ next_lost c.args.count c.loop-place.place (link_lane c.args.self.now.node.queues c.args.link) c.loop-place.self.node.parts c.loop-place-test.true
          ∙ c.loop-place.invariant.rest;
    }

pub returns : goal.returns
returns c =
    let lane : List Message = link_lane c.args.self.now.node.queues c.args.link in
    let none : drop c.loop-place.place (take c.args.count lane) ≡ [] =
    drop_all c.loop-place.place (take c.args.count lane) (omega (arith, c.loop-place-test.false, shorter c.args.count lane)) in
    c.loop-place.invariant.same
    ∙ ap (λ (p : Parts). with_node c.args.self.now (with_parts c.args.self.now.node p))
    (sym (ap (λ (ms : List Message). lose_users ms c.loop-place.self.node.parts) none) ∙ c.loop-place.invariant.rest)
