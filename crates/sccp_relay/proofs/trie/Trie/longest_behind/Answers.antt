use Rattle.sccp_relay.proofs.Basics.{List, ap, sym, ◌∙◌, Node, DigitMap, behind, longest, stored, stored_from}
use Rattle.sccp_relay.proofs.Behind.{is-node, from-node, none-behind-node, longest-none}
use Rattle.sccp_relay.proofs.trie.Trie.longest_behind.Goals as goal

pub returns-in_err-at : goal.returns-in_err-at
returns-in_err-at c =
    rw (← c.self.view_is, ← c.deref.ensures.value)
    (c.from_residual.ensures ∙ sym (longest-none (behind (stored c.deref.result.now) c.args.front.now) c.args.digits.now
    (λ digits. none-behind-node c.deref.result.now c.args.front.now digits (sym c.in_err-at.was ∙ c.node_of.ensures.node))))

pub returns : goal.returns
returns c =
    let same = c.deref-2.ensures.value ∙ sym c.deref.ensures.value in
    rw (← c.self.view_is, ← c.deref.ensures.value)
    (c.longest_from.ensures ∙ ap (λ (map : DigitMap). longest map c.args.digits.now)
    (ap (λ (nodes : List Node). stored_from nodes c.in_ok-at.at) same
    ∙ from-node c.deref.result.now c.args.front.now c.in_ok-at.at (is-node c.deref.result.now c.args.front.now c.in_ok-at.at (sym c.in_ok-at.was ∙ c.node_of.ensures.node))))
