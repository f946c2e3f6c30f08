use Rattle.std.proofs.Common.{◌≡◌, ℕ, ◌+◌, ◌*◌, ◌^◌, List, [], ◌∷◌, ◌++◌, length, take, map, ap, ◌∙◌, arith}
use Rattle.std.proofs.lemmas.List.{append_assoc, length-take}
use Rattle.sctp_codec.specs.Items.{ItemValue, padding_behind, padded_item, padded_items, joined_items}
use Rattle.sctp_codec.specs.Parameters.{state_cookie, listing, reporting, reported_in, fitting, report_octets, answering}
use Rattle.sctp_codec.specs.Writing.{init_front, init_octets}
use Rattle.sctp_codec.specs.Values.{items_of, offer_with}
use Rattle.sctp_codec.proofs.WrittenTexts.{answered, padded-count}
use Rattle.sctp_codec.proofs.AddressTexts.{joined-behind}
use Rattle.sctp_codec.proofs.inits.write_init_ack.Goals as goal

value-is : (c : goal.After-write_item) → take c.write_reports-end.result c.write_reports-end.new.out
    ≡ init_octets (offer_with c.args.offer.now (answering c.args.addresses.now c.args.cookie.now (items_of c.args.parameters)))
value-is c =
    let front : List ℕ = init_front (offer_with c.args.offer.now []) in
    let addresses : List ItemValue = listing c.args.addresses.now in
    let cookie : ItemValue = record { kind = state_cookie; value = c.args.cookie.now } in
    let reports : List ItemValue = fitting report_octets (map reporting (reported_in (items_of c.args.parameters))) in
    rw (c.write_reports-end.ensures.text, c.write_at-end.ensures.text, c.write_front-end.ensures.text, c.write_addresses-end.ensures.text, c.write_offer-end.ensures.text, c.of.ensures, c.padding_behind-padding.ensures.value)
    (answered (front ++ padded_items addresses) c.args.cookie.now reports
    ∙ append_assoc front (padded_items addresses) (joined_items (cookie ∷ reports))
    ∙ ap (λ (text : List ℕ). front ++ text) (joined-behind addresses cookie reports))

pub returns-clause-count : goal.returns-clause-count
returns-clause-count c =
    c.write_item.ensures.count ∙ ap (λ (v : List ℕ). c.args.at + 4 + length v + padding_behind (length v)) (value-is c)
    ∙ padded-count c.args.at (2 * 2 ^ 8 + 0) (init_octets (offer_with c.args.offer.now (answering c.args.addresses.now c.args.cookie.now (items_of c.args.parameters))))

pub returns-clause-text : goal.returns-clause-text
returns-clause-text c =
    let front = take c.args.at c.args.out.now in
    c.write_item.ensures.text
    ∙ ap (λ (k : ℕ). front ++ padded_item (record { kind = k; value = take c.write_reports-end.result c.write_reports-end.new.out })) c.numbered.ensures
    ∙ ap (λ (v : List ℕ). front ++ padded_item (record { kind = 2 * 2 ^ 8 + 0; value = v })) (value-is c)

pub returns-clause-room : goal.returns-clause-room
returns-clause-room c =
    let taken = length-take c.write_reports-end.result c.write_reports-end.new.out in
    omega (arith, c.write_item.ensures.count, c.write_reports-end.ensures.room, c.write_at-end.ensures.count, c.write_front-end.ensures.count, c.write_addresses-end.ensures.room, c.write_offer-end.ensures.count, c.padding_behind-padding.ensures.value, taken)
