use Rattle.std.proofs.Common.{rules, ◌≡◌, true, false, ◌∙◌, ◌∷◌, ap, sym, length}
use Rattle.sctp_codec.specs.Items.{ItemValue, begins_whole, first_item, behind_first}
use Rattle.sctp_codec.specs.Values.{item_of, items_in}
use Rattle.sctp_codec.proofs.ItemTexts.{none_left, one_more}
use Rattle.sctp_codec.proofs.items.ItemsIterator.next.Goals as goal

pub returns-in_default-clause-steps : goal.returns-in_default-clause-steps
returns-in_default-clause-steps c =
    let broken : begins_whole c.args.self.now.octets.now ≡ false = search rules in
    let none = none_left c.args.self.now.octets.now c.args.self.now.whole broken in
    (none, none)

pub invariant_of-self : goal.invariant_of-self
invariant_of-self c =
    let octets = c.args.self.now.octets.now in
    let begins : begins_whole octets ≡ true = search rules in
    let behind : c.in-Some.behind.now ≡ behind_first octets = search rules in
    record { whole = rw behind (one_more octets c.args.self.now.whole begins).rest }

pub returns-clause-steps : goal.returns-clause-steps
returns-clause-steps c =
    let octets = c.args.self.now.octets.now in
    let begins : begins_whole octets ≡ true = search rules in
    let item : item_of c.in-Some.item ≡ first_item octets = search rules in
    let behind : c.in-Some.behind.now ≡ behind_first octets = search rules in
    (one_more octets c.args.self.now.whole begins).here ∙ ap (λ (first : ItemValue). first ∷ items_in (behind_first octets)) (sym item)
    ∙ ap (λ rest. item_of c.in-Some.item ∷ items_in rest) (sym behind)

pub returns-clause-goes : goal.returns-clause-goes
returns-clause-goes c =
    let octets = c.args.self.now.octets.now in
    let begins : begins_whole octets ≡ true = search rules in
    let behind : c.in-Some.behind.now ≡ behind_first octets = search rules in
    let shorter = ap length ((one_more octets c.args.self.now.whole begins).here ∙ ap (λ rest. first_item octets ∷ items_in rest) (sym behind)) in
    search rules
