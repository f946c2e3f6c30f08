use Rattle.std.proofs.Common.{◌≤◌, ◌++◌, List, refl, arith, length, map, ap, sym, ◌∙◌, take}
use Rattle.std.specs.declared.net.ip_addr.IpAddr.{IpAddr}
use Rattle.std.proofs.lemmas.List.{append-nil, drop_all}
use Rattle.sctp_codec.specs.Items.{ItemValue, padded_item, padded_items}
use Rattle.sctp_codec.specs.Parameters.{address_item}
use Rattle.sctp_codec.proofs.Joined.{one_written}
use Rattle.sctp_codec.proofs.AddressTexts.{one-more, all-of-them, all-listed}
use Rattle.sctp_codec.proofs.inits.write_addresses.Goals as goal

pub each_address-preserved : goal.each_address-preserved
each_address-preserved c = record {
  room = omega (arith, c.write_address-end.ensures.room, c.each_address.invariant.room);
  whole =
      one-more c.args.addresses.now c.each_address.address-index _ _ (omega (arith, c.each_address-test.true)) refl c.write_address-end.ensures.whole c.each_address.invariant.whole;
  text =
      one_written (λ (a : IpAddr). padded_item (address_item a)) (λ (addresses : List IpAddr). padded_items (map address_item addresses)) (λ x xs. refl) _ _ _ c.args.addresses.now c.each_address.address-index _ _
      (omega (arith, c.each_address-test.true)) refl c.write_address-end.ensures.text c.each_address.invariant.text;
}

pub returns-clause-text : goal.returns-clause-text
returns-clause-text c =
    let addresses = c.args.addresses.now in
    let i = c.each_address.address-index in
    let text = take c.each_address.end c.each_address.out in
    let past : length addresses ≤ i = omega (arith, c.each_address-test.false) in
    let all = all-listed addresses (all-of-them addresses i past c.each_address.invariant.whole) c.requires.few in
    sym (append-nil text) ∙ ap (λ (left : List IpAddr). text ++ padded_items (map address_item left)) (sym (drop_all i addresses past)) ∙ c.each_address.invariant.text
    ∙ ap (λ (items : List ItemValue). take c.args.at c.args.out.now ++ padded_items items) (sym all)
