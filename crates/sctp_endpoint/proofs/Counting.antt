-- How many chunks a datagram has.
use Rattle.std.proofs.Common.{◌≡◌, ◌≤◌, ℕ, zero, suc, Bool, true, false, List, [], ◌∷◌, length, drop, map, Option, Some, None, ap, arith, length-drop}
use Rattle.std.specs.Prelude.{if◌then◌else◌, unwrap_or, nat_lt, ◌==◌}
use Rattle.std.proofs.lemmas.List.{length-map}
use Rattle.sctp_codec.specs.Items.{ItemValue, begins_whole, first_item, behind_first, with_first, read_up_to, read_items, number16_at}
use Rattle.sctp_codec.specs.Packets.{ChunkValue, PacketValue}
use Rattle.sctp_codec.specs.Reading.{chunk_in, tag_field, is_bundled_well, packet_with, checksum_field, checksum_of, read_packet}

abbrev count_of : Option (List ItemValue) → ℕ
count_of found = length (unwrap_or found [])

either-short : (b : Bool) (item : ItemValue) (found : Option (List ItemValue)) (most : ℕ) → count_of found ≤ most
    → count_of (if b then with_first item found else None) ≤ suc most
either-short true item None most h = omega arith
either-short true item (Some items) most h = omega (arith, h)
either-short false item found most h = omega arith

short-items : (most : ℕ) (octets : List ℕ) → count_of (read_up_to most octets) ≤ most
unfolding read_up_to
short-items zero [] = omega arith
short-items zero (octet ∷ octets) = omega arith
short-items (suc most) [] = omega arith
short-items (suc most) (octet ∷ octets) =
    either-short (begins_whole (octet ∷ octets)) (first_item (octet ∷ octets)) (read_up_to most (behind_first (octet ∷ octets))) most (short-items most (behind_first (octet ∷ octets)))

abbrev chunks_in : Option PacketValue → ℕ
chunks_in None = 0
chunks_in (Some p) = length p.chunks

either-counted : (b : Bool) (x y : Option PacketValue) (n : ℕ) → chunks_in x ≤ n → chunks_in y ≤ n → chunks_in (if b then x else y) ≤ n
either-counted true x y n f g = f
either-counted false x y n f g = g

with-counted : (octets : List ℕ) (found : Option (List ItemValue)) (n : ℕ) → count_of found ≤ n → chunks_in (packet_with octets found) ≤ n
with-counted octets None n h = omega arith
with-counted octets (Some items) n h =
    let p : PacketValue = record {
      source = number16_at octets 0;
      destination = number16_at octets 2;
      tag = tag_field octets;
      chunks = map chunk_in items;
    } in
    either-counted (is_bundled_well (tag_field octets) items) (Some p) None n (omega (arith, length-map {B = ChunkValue} items chunk_in, h)) (omega arith)

-- it has no more chunks than octets
pub packet-short : (octets : List ℕ) (p : PacketValue) → read_packet octets ≡ Some p → length p.chunks ≤ length octets
packet-short octets p e =
    let n = length octets in
    let found = read_items (drop 12 octets) in
    let few : count_of found ≤ n = omega (arith, short-items (length (drop 12 octets)) (drop 12 octets), length-drop 12 octets) in
    let read = packet_with octets found in
    let most : chunks_in (read_packet octets) ≤ n =
    either-counted (nat_lt n 16) None (if checksum_field octets == checksum_of octets then read else None) n (omega arith)
    (either-counted (checksum_field octets == checksum_of octets) read None n (with-counted octets found n few) (omega arith)) in
    omega (arith, ap chunks_in e, most)
