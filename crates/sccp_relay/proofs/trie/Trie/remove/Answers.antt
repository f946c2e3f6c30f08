use Rattle.sccp_relay.proofs.Basics.{◌≡◌, ◌<◌, List, length, Some, None, rules, ap, sym, ◌∙◌, Node, child, node_of, reached, root, stored}
use Rattle.sccp_relay.proofs.Behind.{is-node, none-at-node}
use Rattle.sccp_relay.proofs.Trees.{but_at, none-there, put-stored}
use Rattle.sccp_relay.proofs.trie.Trie.remove.Goals as goal

pub returns-in_err-at-clause-removed : goal.returns-in_err-at-clause-removed
returns-in_err-at-clause-removed c =
    rw (← c.self.view_is, ← c.deref.ensures.value)
    (none-there c.deref.result.now c.args.digits.now (none-at-node c.deref.result.now c.args.digits.now (sym c.in_err-at.was ∙ c.node_of.ensures.node)))

pub returns-clause-removed : goal.returns-clause-removed
returns-clause-removed c =
    let lent = c.deref.ensures.value in
    let way : reached (child c.self.inside.nodes.items) root c.args.digits.now ≡ Some c.in_ok-at.at =
    is-node c.self.inside.nodes.items c.args.digits.now c.in_ok-at.at
    (sym c.in_ok-at.was ∙ c.node_of.ensures.node ∙ ap (λ (nodes : List Node). node_of nodes c.args.digits.now) lent) in
    let there : c.in_ok-at.at < length c.self.inside.nodes.items = search rules in
    ap stored c.put.ensures ∙ put-stored c.self.inside.nodes.items c.in_ok-at.at None c.args.digits.now c.self.invariant.tree there way
    ∙ ap (λ (nodes : List Node). but_at (stored nodes) c.args.digits.now None) c.self.view_is
