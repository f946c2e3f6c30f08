use Rattle.sccp_relay.proofs.Basics.{sym, ◌∙◌, arith, stored_from}
use Rattle.sccp_relay.proofs.Walking.{is-nowhere, node-step}
use Rattle.sccp_relay.proofs.Longest.{longest-so-far, none-behind, longest-step}
use Rattle.sccp_relay.proofs.trie.longest_from.Goals as goal

pub returns-in_default : goal.returns-in_default
returns-in_default c =
    c.loop-count.invariant.2 ∙ longest-so-far (stored_from c.args.nodes.now c.args.start) c.args.digits.now c.loop-count.count (omega (arith, c.loop-count-test.true))
    (none-behind c.args.nodes.now c.args.start c.loop-count.at c.args.digits.now c.loop-count.count c.loop-count.invariant.0 (is-nowhere _ (sym c.in_default.is ∙ c.child_of.ensures)))

pub loop-count-preserved : goal.loop-count-preserved
loop-count-preserved c =
    let next = node-step c.args.nodes.now c.requires.tree c.args.start c.loop-count.at c.in-Some.child c.args.digits.now c.loop-count.count c.loop-count-test.true c.loop-count.invariant.0
    (sym c.in-Some.is ∙ c.child_of.ensures) in
    (next.0, next.1, longest-step c.args.nodes.now c.args.start c.in-Some.child c.args.digits.now c.loop-count.count c.loop-count.best _ _ next.0 c.value_at-in-loop-count.ensures c.loop-count.invariant.2 c.found_at-best-in-loop-count.ensures)
