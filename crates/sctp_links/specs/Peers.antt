-- Which link a datagram is for.
use Rattle.std.specs.Prelude.{ℕ, ◌&&◌, ◌||◌, Bool, false, List, [], ◌∷◌, Option, None, Some, bytes_eq, nat_eq, position}
use Rattle.std.specs.Int.{w16, from_be_bytes}
use Rattle.sctp_links.specs.declared.peers.Peer.{Peer}
use Rattle.sctp_links.specs.declared.peers.Ports.{Ports}

-- the SCTP ports of a packet: its first four octets (RFC 9260 §3.1). What is shorter has none
abbrev pub ports_in : List ℕ → Option Ports
ports_in [] = None
ports_in (a ∷ []) = None
ports_in (a ∷ b ∷ []) = None
ports_in (a ∷ b ∷ c ∷ []) = None
ports_in (a ∷ b ∷ c ∷ d ∷ rest) = Some (record {
  source = from_be_bytes w16 (a ∷ b ∷ []);
  destination = from_be_bytes w16 (c ∷ d ∷ []);
})

-- a host is one of these, which are kept from the front on
abbrev pub is_among : (host : List ℕ) → List (Option (List ℕ)) → Bool
is_among host [] = false
is_among host (None ∷ places) = false
is_among host (Some other ∷ places) = bytes_eq other host || is_among host places

-- what comes from a host of the peer with these ports is of this link. The UDP port may be any (RFC 6951 §5.4)
abbrev pub is_of : (host : List ℕ) → Ports → Peer → Bool
is_of host ports peer =
    nat_eq peer.far_port ports.source && (nat_eq peer.own_port ports.destination
    && (bytes_eq peer.host host || is_among host peer.others))

abbrev pub place_by : List Peer → (host : List ℕ) → Option Ports → Option ℕ
place_by peers host None = None
place_by peers host (Some ports) = position (is_of host ports) peers

-- the index of the first link that a datagram is for, by the host that it comes from and its octets; none for a
-- stranger's
abbrev pub link_of : List Peer → (host octets : List ℕ) → Option ℕ
link_of peers host octets = place_by peers host (ports_in octets)
