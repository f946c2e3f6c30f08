use Rattle.sccp_relay.proofs.Basics.{◌≡◌, List, sym, ap, ◌∙◌, arith, eqb-true, Node, child}
use Rattle.sccp_relay.proofs.Walking.{is-nowhere}
use Rattle.sccp_relay.proofs.Rows.{grown-ways, grown-stored}
use Rattle.sccp_relay.proofs.Trees.{grown-tree}
use Rattle.sccp_relay.proofs.trie.next.Goals as goal

led-nowhere : (c : goal.After-add_child) → child c.args.nodes.now.items c.args.at c.args.digit ≡ 0
led-nowhere c =
    sym (ap (λ (nodes : List Node). child nodes c.args.at c.args.digit) c.deref.ensures.value)
    ∙ eqb-true _ _ (is-nowhere _ (sym c.in_default.is ∙ c.child_of.ensures))

pub returns-clause-tree : goal.returns-clause-tree
returns-clause-tree c =
    rw c.add_child.ensures.nodes (grown-tree c.args.nodes.now.items c.args.at c.args.digit c.requires.tree c.requires.at c.requires.digit (led-nowhere c))

pub returns-clause-ways : goal.returns-clause-ways
returns-clause-ways c =
    rw c.add_child.ensures.nodes (grown-ways c.args.nodes.now.items c.args.at c.args.digit c.requires.at (omega (arith, c.requires.digit, c.requires.tree.wide c.args.at c.requires.at)) (led-nowhere c))

pub returns-clause-same : goal.returns-clause-same
returns-clause-same c =
    rw c.add_child.ensures.nodes (grown-stored c.args.nodes.now.items c.args.at c.args.digit c.requires.at (omega (arith, c.requires.digit, c.requires.tree.wide c.args.at c.requires.at)) (led-nowhere c))
