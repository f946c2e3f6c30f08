-- The settings of a link's endpoint, and what its datagrams have.
use Rattle.std.specs.Prelude.{ℕ, List, [], ◌∷◌, map, Option, Some, None}
use Rattle.std.specs.declared.net.ip_addr.IpAddr.{IpAddr}
use Rattle.std.specs.declared.net.socket_addr.SocketAddr.{SocketAddr}
use Rattle.sctp_rules.specs.Settings as rules
use Rattle.sctp_bundling.specs.Settings as endpoints
use Rattle.settings_file.specs.declared.serve.sctp.Remote.{Remote}
use Rattle.settings_file.specs.declared.serve.sctp.SctpTimes.{SctpTimes}
use Rattle.sctp_links.specs.declared.endpoint_settings.TheConstants.{COOKIE_LIFE}
use Rattle.sctp_links.specs.declared.peers.Peer.{Peer}
use Rattle.sctp_links.specs.Hosts.{address_of}

-- the addresses that are given, from the front on
abbrev pub given : List (Option IpAddr) → List IpAddr
given [] = []
given (None ∷ places) = []
given (Some address ∷ places) = address ∷ given places

-- RFC 9260 §16
abbrev pub settings_of : Remote → SctpTimes → rules.Settings
settings_of r t = record {
  own_port = r.own_port;
  far_port = r.far_port;
  address = endpoints.address_of (address_of r.address);
  addresses = given r.addresses;
  bounds = record { initial = t.rto_initial_ms; least = t.rto_min_ms; most = t.rto_max_ms };
  init_retransmissions = t.init_tries;
  retransmissions = t.retransmissions;
  heartbeat = t.heartbeat_ms;
  cookie_life = COOKIE_LIFE;
}

abbrev pub host_in : Option SocketAddr → Option (List ℕ)
host_in None = None
host_in (Some a) = Some (address_of a).host

abbrev pub peer_of : Remote → Peer
peer_of r = record {
  host = (address_of r.address).host;
  others = map host_in r.others;
  own_port = r.own_port;
  far_port = r.far_port;
}
