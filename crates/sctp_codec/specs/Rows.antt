-- An INIT and an INIT ACK with addresses, octet by octet.
use Rattle.std.specs.Prelude.{◌≡◌, ℕ, List, [], ◌∷◌, ◌++◌}
use Rattle.std.specs.declared.net.ip_addr.IpAddr.{IpAddr}
use Rattle.std.specs.declared.net.ip_addr.IpAddr.TheVariants.{V4, V6}
use Rattle.sctp_codec.specs.Packets.{InitValue, InitChunk, InitAckChunk}
use Rattle.sctp_codec.specs.Items.{ItemValue}
use Rattle.sctp_codec.specs.Parameters.{listing, answering}
use Rattle.sctp_codec.specs.Writing.{chunk_octets}

-- 192.0.2.1 and 2001:db8::1
abbrev pub two_addresses : List IpAddr
two_addresses =
    V4 (record { octets = 192 ∷ 0 ∷ 2 ∷ 1 ∷ [] })
    ∷ V6 (record { segments = 0x2001 ∷ 0x0db8 ∷ 0 ∷ 0 ∷ 0 ∷ 0 ∷ 0 ∷ 1 ∷ [] }) ∷ []

abbrev pub offering : List ItemValue → InitValue
offering parameters = record {
  tag = 0x01020304;
  window = 65536;
  outgoing = 2;
  incoming = 2;
  first_tsn = 0x0a0b0c0d;
  parameters = parameters;
}

-- tag, window, streams and first TSN (RFC 9260 §3.3.2)
abbrev pub offered_octets : List ℕ
offered_octets = 1 ∷ 2 ∷ 3 ∷ 4 ∷ 0 ∷ 1 ∷ 0 ∷ 0 ∷ 0 ∷ 2 ∷ 0 ∷ 2 ∷ 0x0a ∷ 0x0b ∷ 0x0c ∷ 0x0d ∷ []

-- parameter 5 has 8 octets, parameter 6 has 20 (RFC 9260 §3.3.2.1.1, §3.3.2.1.2)
abbrev pub address_octets : List ℕ
address_octets =
    0 ∷ 5 ∷ 0 ∷ 8 ∷ 192 ∷ 0 ∷ 2 ∷ 1 ∷ 0 ∷ 6 ∷ 0 ∷ 20 ∷ 0x20 ∷ 0x01 ∷ 0x0d ∷ 0xb8 ∷ 0 ∷ 0 ∷ 0 ∷ 0 ∷ 0 ∷ 0 ∷ 0 ∷ 0
    ∷ 0 ∷ 0 ∷ 0 ∷ 1 ∷ []

-- 4 octets of header, 16 of the offer, 28 of addresses
abbrev pub init_with_two_addresses : Type 0
init_with_two_addresses =
    chunk_octets (InitChunk (offering (listing two_addresses)))
    ≡ 1 ∷ 0 ∷ 0 ∷ 48 ∷ offered_octets ++ address_octets

-- without addresses it has none of their octets
abbrev pub init_without_addresses : Type 0
init_without_addresses = chunk_octets (InitChunk (offering (listing []))) ≡ 1 ∷ 0 ∷ 0 ∷ 20 ∷ offered_octets

-- a cookie of two octets, which is the last parameter: 54 octets, and two of padding that aren't counted
abbrev pub init_ack_with_two_addresses : Type 0
init_ack_with_two_addresses =
    chunk_octets (InitAckChunk (offering (answering two_addresses (171 ∷ 205 ∷ []) [])))
    ≡ 2 ∷ 0 ∷ 0 ∷ 54 ∷ offered_octets ++ address_octets ++ (0 ∷ 7 ∷ 0 ∷ 6 ∷ 171 ∷ 205 ∷ 0 ∷ 0 ∷ [])
