use Rattle.std.proofs.Common.{rules, ◌≡◌, true, length, ap, sym, ◌∙◌, arith}
use Rattle.std.proofs.lemmas.Bool.Decides.{nat_tests}
use Rattle.sctp_codec.specs.Items.{begins_whole, behind_first}
use Rattle.sctp_codec.proofs.ItemTexts.{read_items-one}
use Rattle.sctp_codec.proofs.items.is_one.Goals as goal

pub returns-in-Some : goal.returns-in-Some
returns-in-Some c = λ one.
    let octets = c.args.octets.now in
    let whole : begins_whole octets ≡ true = search rules in
    let behind : c.in-Some.behind.now ≡ behind_first octets = search rules in
    let none : length c.in-Some.behind.now ≡ 0 = grind (arith, nat_tests, one, c.is_empty.ensures) in
    read_items-one octets whole (sym (ap length behind) ∙ none)
