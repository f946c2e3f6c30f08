use Rattle.std.proofs.Common.{sym, ◌∙◌}
use Rattle.sccp_relay.proofs.Walking.{is-nowhere, is-none, step-off, node-step}
use Rattle.sccp_relay.proofs.trie.node_of.Goals as goal

pub returns-in_err-at-clause-node : goal.returns-in_err-at-clause-node
returns-in_err-at-clause-node c =
    c.from_residual.ensures ∙ is-none _ _ (step-off _ _ c.loop-digit.at c.args.digits.now c.loop-digit.digit-index c.loop-digit-test.true c.loop-digit.invariant.0
    (is-nowhere _ (sym c.in_err-at.was ∙ c.child_of.ensures)))

pub loop-digit-preserved : goal.loop-digit-preserved
loop-digit-preserved c =
    node-step c.args.nodes.now c.requires _ c.loop-digit.at c.in_ok-at.at c.args.digits.now c.loop-digit.digit-index c.loop-digit-test.true c.loop-digit.invariant.0
    (sym c.in_ok-at.was ∙ c.child_of.ensures)
