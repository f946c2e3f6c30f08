use Rattle.std.proofs.Common.{◌≡◌, ◌+◌, ◌*◌, ◌≤◌, ◌++◌, take, drop, map}
use Rattle.std.specs.Prelude.{All}
use Rattle.sctp_codec.specs.Items.{padded_items}
use Rattle.sctp_codec.specs.Parameters.{address_item}
use Rattle.sctp_codec.specs.Addresses.{IsAddress}
use Rattle.sctp_codec.proofs.inits.write_addresses.Given as goal

abbrev pub invariant-each_address : goal.invariant-each_address
invariant-each_address l = record {
  room : l.end ≤ l.at + 20 * l.address-index;
  whole : All IsAddress (take l.address-index l.addresses);
  text : take l.end l.out ++ padded_items (map address_item (drop l.address-index l.addresses)) ≡ take l.fn.at l.fn.out ++ padded_items (map address_item l.fn.addresses);
}
