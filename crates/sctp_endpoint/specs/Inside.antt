-- An endpoint as the struct keeps it.
use Rattle.std.specs.Prelude.{◌≤◌, ◌^◌, List, Option, Some, None, sum_by}
use Rattle.sctp_codec.specs.Packets.{ChunkValue}
use Rattle.sctp_rules.specs.State as rules
use Rattle.sctp_rules.specs.State.{Association, Try}
use Rattle.sctp_endpoint.specs.declared.endpoint.Endpoint.TheInside.{Inside}
use Rattle.sctp_endpoint.specs.declared.peer.Attempt.{Attempt}
use Rattle.sctp_endpoint.specs.declared.peer.Beat.{Beat}
use Rattle.sctp_endpoint.specs.declared.peer.Peer.{Peer}
use Rattle.sctp_bundling.specs.Settings.{settings_of, address_of}
use Rattle.sctp_endpoint.specs.Endpoints.{Endpoint}
use Rattle.sctp_bundling.specs.Replies.{size_of}

abbrev pub peer_of : Peer → rules.Peer
peer_of p = record { first = p.first; window = p.window }

abbrev pub beat_of : Option Beat → Option rules.Beat
beat_of None = None
beat_of (Some b) = Some (record { nonce = b.nonce; sent = b.sent })

abbrev pub try_of : List ChunkValue → Option Attempt → Option Try
try_of chunks None = None
try_of chunks (Some a) = Some (record { chunks = chunks; failures = a.failures; t1 = a.t1 })

abbrev pub association_in : Inside → Association
association_in e = record {
  phase = e.phase;
  is_up = e.is_up;
  own_tag = e.own_tag;
  far_tag = e.far_tag;
  own_first = e.own_first;
  peer = peer_of e.peer;
  address = address_of e.address;
  control = e.control;
  sender = e.sender;
  receiver = e.receiver;
  is_sack_due = e.is_sack_due;
  trying = try_of e.tried e.attempt;
  t2 = e.t2;
  t5 = e.t5;
  beat_due = e.beat_due;
  beat = beat_of e.beat;
  failures = e.failures;
}

abbrev pub endpoint_in : Inside → Endpoint
endpoint_in e = record {
  settings = settings_of e.settings;
  tag_key = e.beginnings.key;
  cookie_key = e.cookie_key;
  state = record {
    is_wanted = e.is_wanted;
    generation = e.generation;
    beginnings = e.beginnings.count;
    nonces = e.nonces;
    association = association_in e;
  };
}

pub record IsEndpoint (e : Inside) : Type 0 where
  pub initial : e.settings.bounds.initial ≤ e.settings.bounds.most
  pub least : e.settings.bounds.least ≤ e.settings.bounds.most
  pub most : e.settings.bounds.most ≤ 2 ^ 24
  -- the answers that wait leave room for a chunk after them
  pub control : sum_by size_of e.control ≤ 1024
