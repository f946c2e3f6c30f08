-- What an endpoint gives out: datagrams, and what the user is told.
use Rattle.std.specs.Prelude.{ℕ, List, ◌++◌, map}
use Rattle.sctp_rules.specs.Settings.{Address}
use Rattle.sctp_rules.specs.State.{Datagram, Told, Up, Heard, Down, Failed, Done}
use Rattle.sctp_sending.specs.declared.message.Message.{Message}
use Rattle.sctp_receiving.specs.Pieces as pieces
use Rattle.sctp_bundling.specs.ChunkRows.{packet_text}
use Rattle.sctp_bundling.specs.declared.watch.Event.{Event}
use Rattle.sctp_bundling.specs.declared.watch.Event.TheVariants as events

-- octets that went out, and where to
pub record Sent : Type 0 where
  pub octets : List ℕ
  pub to : Address

abbrev pub sent_as : Datagram → Sent
sent_as d = record { octets = packet_text d.packet; to = d.to }

abbrev pub message_of : Message → pieces.Message
message_of m = record { stream = m.stream; protocol = m.protocol; octets = m.octets.now }

abbrev pub told_of : Event → Told
told_of events.Up = Up
told_of (events.Heard message) = Heard (message_of message)
told_of (events.Down why) = Down why
told_of (events.Failed why) = Failed why

-- these datagrams went out, and nothing was told, whatever a watch had
pub record Puts {W : Type 0} (has : W → List Sent → List Told → Type 0) (before after : W)
    (datagrams : List Datagram) : Type 0 where
  pub more : (sent : List Sent) (told : List Told) → has before sent told
      → has after (sent ++ map sent_as datagrams) told

-- this was told, and no datagram went out, whatever a watch had
pub record Tells {W : Type 0} (has : W → List Sent → List Told → Type 0) (before after : W) (events : List Told) :
    Type 0 where
  pub more : (sent : List Sent) (told : List Told) → has before sent told → has after sent (told ++ events)

-- what a watch was given by a rule, whatever it had
pub record Gives {W : Type 0} (has : W → List Sent → List Told → Type 0) (before after : W) (done : Done) :
    Type 0 where
  pub more : (sent : List Sent) (told : List Told) → has before sent told
      → has after (sent ++ map sent_as done.sent) (told ++ done.told)
