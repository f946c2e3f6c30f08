use Rattle.sccp_relay.proofs.Basics.{◌≡◌, ◌<◌, ◌+◌, length, take, Some, ◌∙◌, arith, ne_eqb, child, reached, root}
use Rattle.sccp_relay.proofs.Walking.{step-on, reached-within}
use Rattle.sccp_relay.proofs.trie.way_to.Goals as goal

pub loop-digit-preserved : goal.loop-digit-preserved
loop-digit-preserved c =
    let way : reached (child c.next-at.new.nodes.items) root (take (c.loop-digit.digit-index + 1) c.args.digits.now) ≡ Some c.next-at.result =
    step-on (child c.next-at.new.nodes.items) root c.loop-digit.at c.next-at.result c.args.digits.now c.loop-digit.digit-index c.loop-digit-test.true
    (c.next-at.ensures.ways.kept root (take c.loop-digit.digit-index c.args.digits.now) c.loop-digit.at c.loop-digit.invariant.2)
    (ne_eqb _ 0 (λ e. omega (arith, e, c.next-at.ensures.child, c.next-at.ensures.there)))
    c.next-at.ensures.child in
    let some : 0 < length c.next-at.new.nodes.items = omega (arith, c.next-at.ensures.kept, c.loop-digit.invariant.1) in (
      c.next-at.ensures.tree,
      reached-within c.next-at.new.nodes.items c.next-at.ensures.tree root (take (c.loop-digit.digit-index + 1) c.args.digits.now) c.next-at.result some way,
      way,
      c.next-at.ensures.same ∙ c.loop-digit.invariant.3,
      omega (arith, c.next-at.ensures.grown, c.loop-digit.invariant.4, c.loop-digit-test.true),
      omega (arith, c.next-at.ensures.grown, c.next-at.ensures.room, c.loop-digit.invariant.5, c.loop-digit-test.true),
    )
