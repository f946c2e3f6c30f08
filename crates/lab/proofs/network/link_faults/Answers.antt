use Rattle.std.proofs.Common.{arith}
use Rattle.lab.specs.Network.{settings_in}
use Rattle.lab.proofs.Networks.{link-found, link-past, no-link}
use Rattle.lab.proofs.network.link_faults.Goals as goal

pub returns-in-Some : goal.returns-in-Some
returns-in-Some c =
    link-found (settings_in c.args.nodes.now) c.args.place c.args.node.now c.loop-number.number c.index-links-number.result c.args.links.now _ c.in-Some.fault
    (omega (arith, c.loop-number-test.true)) c.index-links-number.is c.in-Some.ensures c.loop-number.invariant

pub loop-number-preserved : goal.loop-number-preserved
loop-number-preserved c =
    link-past (settings_in c.args.nodes.now) c.args.place c.args.node.now c.loop-number.number c.index-links-number.result c.args.links.now _
    (omega (arith, c.loop-number-test.true)) c.index-links-number.is c.in-None.ensures c.loop-number.invariant

pub returns : goal.returns
returns c =
    no-link (settings_in c.args.nodes.now) c.args.place c.args.node.now c.loop-number.number c.args.links.now _ (omega (arith, c.loop-number-test.false))
    c.loop-number.invariant
