use Rattle.std.proofs.Common.{rules, ◌≡◌, ◌<◌, ℕ, List, true, false, length, ap, sym, ◌∙◌}
use Rattle.std.specs.Prelude.{is_some}
use Rattle.sctp_codec.specs.Items.{begins_whole, behind_first, read_items}
use Rattle.sctp_codec.proofs.ItemTexts.{none-read, is_some-broken, is_some-behind, is_some-empty}
use Rattle.sctp_codec.proofs.items.Items.read.Goals as goal

pub returns-in_default : goal.returns-in_default
returns-in_default c =
    let some : 0 < length c.each_item.rest.now = search rules in
    let broken : begins_whole c.each_item.rest.now ≡ false = search rules in
    none-read c.args.octets.now (sym c.each_item.invariant ∙ is_some-broken c.each_item.rest.now some broken)

pub each_item-preserved : goal.each_item-preserved
each_item-preserved c =
    let whole : begins_whole c.each_item.rest.now ≡ true = search rules in
    let behind : c.in-Some.behind.now ≡ behind_first c.each_item.rest.now = search rules in
    ap (λ (octets : List ℕ). is_some (read_items octets)) behind ∙ is_some-behind c.each_item.rest.now whole ∙ c.each_item.invariant

pub invariant_of-result-2 : goal.invariant_of-result-2
invariant_of-result-2 c =
    let empty : length c.each_item.rest.now ≡ 0 = search rules in
    record { whole = sym c.each_item.invariant ∙ is_some-empty c.each_item.rest.now empty }

pub invariant_of-result : goal.invariant_of-result
invariant_of-result c = record { whole = ap is_some (c.is_one.ensures c.if-is_one.true) }
