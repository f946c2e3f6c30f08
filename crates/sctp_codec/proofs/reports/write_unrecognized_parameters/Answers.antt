use Rattle.std.proofs.Common.{◌≡◌, ℕ, ◌+◌, List, length, take, map, sym, ap, ◌∙◌, arith}
use Rattle.std.proofs.lemmas.List.{length-take}
use Rattle.sctp_codec.specs.Items.{ItemValue, padding_behind, joined_items}
use Rattle.sctp_codec.specs.Parameters.{reported_in, fitting, following, report_octets, complained_of}
use Rattle.sctp_codec.specs.Values.{items_of}
use Rattle.sctp_codec.proofs.ReportTexts.{joined-following}
use Rattle.sctp_codec.proofs.WrittenTexts.{nested, nested-count, same_items}
use Rattle.sctp_codec.proofs.reports.write_unrecognized_parameters.Goals as goal

value-is : (c : goal.After-write_item) → take c.write_reports-end.result c.write_reports-end.new.out ≡ joined_items (complained_of (items_of c.args.parameters))
value-is c =
    let all = reported_in (items_of c.args.parameters) in
    rw (c.write_reports-end.ensures.text, c.of.ensures)
    (ap (λ reports. following 0 (fitting report_octets reports)) (same_items all) ∙ sym (joined-following (fitting report_octets all)))

from_zero : (n : ℕ) → 0 + n ≡ n
from_zero n = omega arith

end-is : (c : goal.After-write_item) → c.write_reports-end.result ≡ length (joined_items (complained_of (items_of c.args.parameters)))
end-is c =
    let all = reported_in (items_of c.args.parameters) in
    rw (c.write_reports-end.ensures.count, c.of.ensures)
    (from_zero (length (following 0 (fitting report_octets (map (λ (item : ItemValue). item) all)))) ∙ ap (λ reports. length (following 0 (fitting report_octets reports))) (same_items all) ∙ ap length (sym (joined-following (fitting report_octets all))))

pub returns-clause-count : goal.returns-clause-count
returns-clause-count c =
    let v : List ℕ = joined_items (complained_of (items_of c.args.parameters)) in
    c.write_item.ensures.count ∙ ap (λ (n : ℕ). n + 4 + length (take c.write_reports-end.result c.write_reports-end.new.out) + padding_behind (length (take c.write_reports-end.result c.write_reports-end.new.out))) c.write_front-at.ensures.count
    ∙ ap (λ (v : List ℕ). c.args.at + 4 + 4 + length v + padding_behind (length v)) (value-is c) ∙ nested-count c.args.at v

pub returns-clause-text : goal.returns-clause-text
returns-clause-text c =
    let v : List ℕ = joined_items (complained_of (items_of c.args.parameters)) in
    rw (c.write_item.ensures.text, value-is c, c.write_front-at.ensures.text, c.numbered.ensures)
    (nested (take c.args.at c.args.out.now) v c.write_reports-end.result (end-is c))

pub returns-clause-room : goal.returns-clause-room
returns-clause-room c =
    let taken = length-take c.write_reports-end.result c.write_reports-end.new.out in
    omega (arith, c.write_item.ensures.count, c.write_front-at.ensures.count, c.write_reports-end.ensures.room, taken)
