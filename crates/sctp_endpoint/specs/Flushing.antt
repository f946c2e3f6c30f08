-- Packets that go out, step by step (RFC 9260 §6.10).
use Rattle.std.specs.Prelude.{ℕ, List, [], ◌∷◌, Option, Some, None}
use Rattle.sctp_codec.specs.Packets.{ChunkValue, DataChunk}
use Rattle.sctp_sending.specs.Sending.{Sending}
use Rattle.sctp_rules.specs.Settings.{Settings, Address}
use Rattle.sctp_rules.specs.State.{Association, with_association}
use Rattle.sctp_rules.specs.declared.phase.Phase.{Phase}
use Rattle.sctp_rules.specs.declared.phase.Phase.TheVariants.{ShutdownSent}
use Rattle.sctp_rules.specs.Shutdown.{shutdown_of}
use Rattle.sctp_rules.specs.Confirming.{data_at}
use Rattle.sctp_bundling.specs.Ways.{Way}
use Rattle.sctp_endpoint.specs.Endpoints.{Endpoint}

-- where packets go to an address, with a tag
abbrev pub way_to : Settings → Address → (tag : ℕ) → Way
way_to c to tag = record { source = c.own_port; destination = c.far_port; tag = tag; to = to }

-- where those of the association go
abbrev pub way_of_peer : Endpoint → Way
way_of_peer e = way_to e.settings e.state.association.address e.state.association.far_tag

-- SHUTDOWN, in SHUTDOWN-SENT
abbrev pub shutdown_chunks : Phase → Association → List ChunkValue
shutdown_chunks ShutdownSent a = shutdown_of a ∷ []
shutdown_chunks phase a = []

abbrev pub with_sender : Endpoint → Sending → Endpoint
with_sender e s = record e { state = with_association e.state (record e.state.association { sender = s }) }

-- the message that goes out next, if one may
abbrev pub next_chunks : Sending → Option ℕ → List ChunkValue
next_chunks s None = []
next_chunks s (Some place) = DataChunk (data_at s place) ∷ []
