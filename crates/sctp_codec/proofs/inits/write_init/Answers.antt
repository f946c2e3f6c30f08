use Rattle.std.proofs.Common.{◌≡◌, ℕ, ◌+◌, ◌*◌, ◌^◌, ◌≤◌, List, [], ◌++◌, length, take, sym, ap, subst, ◌∙◌}
use Rattle.sctp_codec.specs.Items.{padding_behind, padded_item}
use Rattle.sctp_codec.specs.Parameters.{listing}
use Rattle.sctp_codec.specs.Writing.{init_front, init_octets}
use Rattle.sctp_codec.specs.Values.{offer_with}
use Rattle.sctp_codec.proofs.WrittenTexts.{padded-count}
use Rattle.sctp_codec.proofs.AddressTexts.{listing-joined}
use Rattle.sctp_codec.proofs.inits.write_init.Goals as goal

value-is : (c : goal.After-write_item) → take c.write_addresses-end.result c.write_addresses-end.new.out ≡ init_octets (offer_with c.args.offer.now (listing c.args.addresses.now))
value-is c =
    rw (c.write_addresses-end.ensures.text, c.write_offer-end.ensures.text)
    (ap (λ (text : List ℕ). init_front (offer_with c.args.offer.now []) ++ text) (sym (listing-joined c.args.addresses.now c.write_addresses-end.ensures.whole c.requires.few)))

pub returns-clause-count : goal.returns-clause-count
returns-clause-count c =
    c.write_item.ensures.count ∙ ap (λ (v : List ℕ). c.args.at + 4 + length v + padding_behind (length v)) (value-is c)
    ∙ padded-count c.args.at (1 * 2 ^ 8 + 0) (init_octets (offer_with c.args.offer.now (listing c.args.addresses.now)))

pub returns-clause-text : goal.returns-clause-text
returns-clause-text c =
    let front = take c.args.at c.args.out.now in
    c.write_item.ensures.text
    ∙ ap (λ (k : ℕ). front ++ padded_item (record { kind = k; value = take c.write_addresses-end.result c.write_addresses-end.new.out })) c.numbered.ensures
    ∙ ap (λ (v : List ℕ). front ++ padded_item (record { kind = 1 * 2 ^ 8 + 0; value = v })) (value-is c)

-- a value that fits with its padding
pub write_item-requires : goal.write_item-requires
write_item-requires c =
    let v : List ℕ = init_octets (offer_with c.args.offer.now (listing c.args.addresses.now)) in
    let value : take c.write_addresses-end.result c.write_addresses-end.new.out ≡ v =
    rw (c.write_addresses-end.ensures.text, c.write_offer-end.ensures.text)
    (ap (λ (text : List ℕ). init_front (offer_with c.args.offer.now []) ++ text) (sym (listing-joined c.args.addresses.now c.write_addresses-end.ensures.whole c.requires.few))) in
    let fits : c.args.at + 4 + length v + padding_behind (length v) ≤ 1200 = subst (λ (k : ℕ). k ≤ 1200) (sym (padded-count c.args.at (1 * 2 ^ 8 + 0) v)) c.requires.space in
    subst (λ (x : List ℕ). c.args.at + 4 + length x + padding_behind (length x) ≤ 1200) (sym value) fits
