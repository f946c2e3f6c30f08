-- The links of a node over SCTP: what the datagrams of each have, and the link itself, in the same places.
use Rattle.std.specs.Prelude.{ℕ, List, [], ◌∷◌, ◌++◌, Option, None, Some, if◌then◌else◌, nat_eq}
use Rattle.sctp_sending.specs.RoundTrips.{smoothed_round_trip}
use Rattle.sctp_sending.specs.Sending.{Sending}
use Rattle.sctp_gate.specs.Gates.{Gate, new_gate}
use Rattle.served_link.specs.declared.association_status.AssociationStatus.{AssociationStatus}
use Rattle.settings_file.specs.declared.serve.sctp.Remote.{Remote}
use Rattle.settings_file.specs.declared.serve.sctp.SctpTimes.{SctpTimes}
use Rattle.sctp_links.specs.declared.allowance.Allowance.{Allowance}
use Rattle.sctp_links.specs.declared.keys.Keys.{Keys}
use Rattle.sctp_links.specs.declared.peers.Peer.{Peer}
use Rattle.sctp_links.specs.Allowances.{full}
use Rattle.sctp_links.specs.EndpointSettings.{peer_of, settings_of}

pub record Link : Type 0 where
  pub gate : Gate
  -- its peer, as the settings say
  pub remote : Remote
  -- how many of its INITs are answered
  pub allowance : Allowance

pub record Links : Type 0 where
  pub peers : List Peer
  pub links : List Link

abbrev pub no_links : Links
no_links = record { peers = []; links = [] }

-- a link that is new: no association, and none of its INITs came yet
abbrev pub new_link : Remote → Gate → Link
new_link remote gate = record { gate = gate; remote = remote; allowance = full }

-- one link more, behind the others
abbrev pub with_link : (link : ℕ) → Remote → SctpTimes → Keys → Links → Links
with_link link remote times keys l = record {
  peers = l.peers ++ peer_of remote ∷ [];
  links = l.links
      ++ new_link remote (new_gate link remote.tries (settings_of remote times) keys.tags keys.cookies) ∷ [];
}

-- ---- how the association of a link does

abbrev pub status_of : Sending → AssociationStatus
status_of s = record {
  round_trip_ms = smoothed_round_trip s.round_trips;
  timeout_ms = s.round_trips.timeout;
  congestion_window = s.congestion.window;
}

-- while it is up
abbrev pub status_at : Gate → Option AssociationStatus
status_at g = if g.standing.is_up then Some (status_of g.endpoint.state.association.sender) else None

-- that of the first of these that is the link of this number
abbrev pub status_among : (link : ℕ) → List Link → Option AssociationStatus
status_among link [] = None
status_among link (l ∷ links) = if nat_eq l.gate.link link then status_at l.gate else status_among link links
