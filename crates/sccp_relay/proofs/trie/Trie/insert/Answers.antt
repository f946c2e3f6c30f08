use Rattle.sccp_relay.proofs.Basics.{Some, ap, ◌∙◌, DigitMap, stored}
use Rattle.sccp_relay.proofs.Trees.{but_at, put-stored}
use Rattle.sccp_relay.proofs.trie.Trie.insert.Goals as goal

pub returns-clause-added : goal.returns-clause-added
returns-clause-added c =
    let at = c.way_to-at.ensures in
    ap stored c.put.ensures
    ∙ put-stored c.way_to-at.new.nodes.items c.way_to-at.result (Some c.args.value) c.args.digits.now at.tree at.within at.way
    ∙ ap (λ (map : DigitMap). but_at map c.args.digits.now (Some c.args.value)) (at.same ∙ ap stored (c.try_reserve.ensures.items ∙ c.self.view_is))
