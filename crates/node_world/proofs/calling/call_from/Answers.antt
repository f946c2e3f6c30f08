-- The other end of the link is that by which the gate is called.
use Rattle.std.proofs.Common.{Option, subst}
use Rattle.node_world.specs.Calls.{NodesCall, octets_heard, told}
use Rattle.node_world.specs.Kept.{KeptPlace, sent_there}
use Rattle.node_world.proofs.calling.call_from.Goals as goal

pub returns-in-Some-clause-calls : goal.returns-in-Some-clause-calls
returns-in-Some-clause-calls c = λ made.
    subst (λ (o : Option KeptPlace). NodesCall c.args.place c.args.link (told c.args.call (octets_heard c.args.call (sent_there c.args.nodes.now o)) c.args.now) c.args.nodes.now c.call_to.new.nodes)
    c.in-Some.ensures.place (c.call_to.ensures.calls made)
