use Rattle.sccp_relay.proofs.Basics.{◌≡◌, ◌<◌, ℕ, List, length, Option, Some, rules, ap, sym, ◌∙◌, if◌then◌else◌, is_some, Node, child, node_of, reached, root, stored, value, value_there, with_value}
use Rattle.sccp_relay.proofs.Behind.{is-node}
use Rattle.sccp_relay.proofs.Trees.{put-stored}
use Rattle.sccp_relay.proofs.trie.Trie.replace.Goals as goal

pub returns-clause-replaced : goal.returns-clause-replaced
returns-clause-replaced c =
    let nodes = c.self.inside.nodes.items in
    let digits = c.args.digits.now in
    let lent = c.deref.ensures.value in
    let way : reached (child nodes) root digits ≡ Some c.in_ok-at.at =
    is-node nodes digits c.in_ok-at.at (sym c.in_ok-at.was ∙ c.node_of.ensures.node ∙ ap (λ (ns : List Node). node_of ns digits) lent) in
    let there : c.in_ok-at.at < length nodes = search rules in
    let some : stored nodes digits ≡ Some c.in_ok-old.old =
    ap (value_there (value nodes)) way ∙ ap (λ (ns : List Node). value ns c.in_ok-at.at) (sym c.deref-2.ensures.value) ∙ sym c.value_at.ensures ∙ c.in_ok-old.was in
    ap stored c.put.ensures ∙ put-stored nodes c.in_ok-at.at (Some c.args.value) digits c.self.invariant.tree there way
    ∙ ap (λ (o : Option ℕ). if is_some o then with_value (stored nodes) digits c.args.value else stored nodes) (sym some)
    ∙ ap (λ (ns : List Node). if is_some (stored ns digits) then with_value (stored ns) digits c.args.value else stored ns) c.self.view_is
