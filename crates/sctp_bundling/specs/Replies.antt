-- The chunks that an endpoint sends, as values.
use Rattle.std.specs.Prelude.{ℕ, false, true, List, [], ◌∷◌, length, Option, Some, None}
use Rattle.std.specs.Borrow.{Bor}
use Rattle.sctp_codec.specs.Items.{ItemValue, item_octets}
use Rattle.sctp_codec.specs.Packets as value
use Rattle.sctp_codec.specs.Packets.{ChunkValue}
use Rattle.sctp_codec.specs.Parameters.{cause_item, listing, unrecognized_parameters}
use Rattle.sctp_codec.specs.Causes.{cause_of}
use Rattle.sctp_codec.specs.Values.{offer_with}
use Rattle.sctp_codec.specs.Writing.{chunk_octets}
use Rattle.sctp_bundling.specs.Addresses.{listed}
use Rattle.sctp_bundling.specs.declared.reply.Reply.{Reply}
use Rattle.sctp_bundling.specs.declared.reply.Reply.TheVariants.{Init, Error, Abort, ReflectedAbort}
use Rattle.sctp_bundling.specs.declared.reply.Reply.TheVariants.{Shutdown, ShutdownAck, ShutdownComplete}
use Rattle.sctp_bundling.specs.declared.reply.Reply.TheVariants.{CookieEcho, CookieAck, Heartbeat, HeartbeatAck}

abbrev pub chunk_of : Reply → ChunkValue
chunk_of (Init offer addresses) = value.InitChunk (offer_with offer (listing (listed addresses.now)))
chunk_of (Error cause) = value.ErrorChunk (cause_item (cause_of cause) ∷ [])
chunk_of (Abort cause) = value.AbortChunk false (item_octets (cause_item (cause_of cause)))
chunk_of ReflectedAbort = value.AbortChunk true []
chunk_of (Shutdown cumulative) = value.ShutdownChunk cumulative
chunk_of ShutdownAck = value.ShutdownAckChunk
chunk_of (ShutdownComplete is_reflected) = value.ShutdownCompleteChunk is_reflected
chunk_of (CookieEcho cookie) = value.CookieEchoChunk cookie.now
chunk_of CookieAck = value.CookieAckChunk
chunk_of (Heartbeat information) = value.HeartbeatChunk information.now
chunk_of (HeartbeatAck information) = value.HeartbeatAckChunk information.now

-- the octets of a chunk, padded
abbrev pub size_of : ChunkValue → ℕ
size_of chunk = length (chunk_octets chunk)

-- a last chunk, if there is one
abbrev pub last_of : Option (Bor Reply) → List ChunkValue
last_of None = []
last_of (Some chunk) = chunk_of chunk.now ∷ []

abbrev pub size_of_last : Option (Bor Reply) → ℕ
size_of_last None = 0
size_of_last (Some chunk) = size_of (chunk_of chunk.now)

-- ERROR with parameters that are to be reported, if there are any
abbrev pub complaint_of : List ItemValue → List ChunkValue
complaint_of [] = []
complaint_of (item ∷ items) = value.ErrorChunk (unrecognized_parameters (item ∷ items) ∷ []) ∷ []
