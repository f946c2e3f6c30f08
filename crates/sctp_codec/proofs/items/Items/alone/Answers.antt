use Rattle.std.proofs.Common.{rules, ◌≡◌, ◌<◌, true, false, length, Some, sym, ap, ◌∙◌, arith}
use Rattle.std.proofs.lemmas.Bool.Decides.{nat_tests}
use Rattle.sctp_codec.specs.Items.{begins_whole, first_item, behind_first}
use Rattle.sctp_codec.specs.Values.{item_of}
use Rattle.sctp_codec.proofs.ItemTexts.{none_alone, one_alone, several_alone}
use Rattle.sctp_codec.proofs.items.Items.alone.Goals as goal

pub returns-in_default : goal.returns-in_default
returns-in_default c =
    let broken : begins_whole c.args.self.octets.now ≡ false = search rules in
    none_alone c.args.self.octets.now c.args.self.whole broken

pub returns-then-is_empty : goal.returns-then-is_empty
returns-then-is_empty c =
    let octets = c.args.self.octets.now in
    let whole : begins_whole octets ≡ true = search rules in
    let behind : c.in-Some.behind.now ≡ behind_first octets = search rules in
    let item : item_of c.in-Some.item ≡ first_item octets = search rules in
    let none : length c.in-Some.behind.now ≡ 0 = grind (arith, nat_tests, c.if-is_empty.true, c.is_empty.ensures) in
    one_alone octets whole (sym (ap length behind) ∙ none) ∙ ap Some (sym item)

pub returns : goal.returns
returns c =
    let octets = c.args.self.octets.now in
    let whole : begins_whole octets ≡ true = search rules in
    let behind : c.in-Some.behind.now ≡ behind_first octets = search rules in
    let some : 0 < length c.in-Some.behind.now = grind (arith, nat_tests, c.if-is_empty.false, c.is_empty.ensures) in
    several_alone octets c.args.self.whole whole (omega (arith, some, ap length behind))
