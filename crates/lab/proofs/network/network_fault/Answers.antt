use Rattle.std.proofs.Common.{arith}
use Rattle.lab.proofs.Networks.{node-found, node-past, no-node}
use Rattle.lab.proofs.network.network_fault.Goals as goal

pub returns-in-Some : goal.returns-in-Some
returns-in-Some c =
    node-found c.args.nodes.now c.loop-place.place _ _ _ c.in-Some.fault (omega (arith, c.loop-place-test.true)) c.index-nodes-place.is
    c.settings.ensures.kept_settings c.in-Some.ensures c.loop-place.invariant

pub loop-place-preserved : goal.loop-place-preserved
loop-place-preserved c =
    node-past c.args.nodes.now c.loop-place.place _ _ _ (omega (arith, c.loop-place-test.true)) c.index-nodes-place.is
    c.settings.ensures.kept_settings c.in-None.ensures c.loop-place.invariant

pub returns : goal.returns
returns c = no-node c.args.nodes.now c.loop-place.place _ (omega (arith, c.loop-place-test.false)) c.loop-place.invariant
