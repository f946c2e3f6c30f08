-- What goes out on a link (RFC 4165 §4.2.1).
use Rattle.std.specs.Prelude.{ℕ, Bool, true, false, ◌&&◌, not, drop, slice_get, Option, Some, None, if◌then◌else◌}
use Rattle.settings.specs.Configuration.{Configuration}
use Rattle.m2pa_codec.specs.declared.status.LinkStatus.{LinkStatus}
use Rattle.m2pa_codec.specs.Frames.{FrameValue, EmptyFrame, MessageFrame, StatusFrame}
use Rattle.link.specs.Queue.{Sending}
use Rattle.node_links.specs.NodeLinks.{Link, is_in_service}
use Rattle.exchange_rules.specs.State.{QueueKind, Parts, Node, with_parts, link_at, links_with, with_link}
use Rattle.exchange_rules.specs.Timing.{timed_sending}

pub data Outgoing : Type 0 where
  -- the status that waited longest
  SendsStatus : (status : LinkStatus) → Outgoing
  -- the next message, with its number
  SendsMessage : (next : Sending) → Outgoing
  -- an empty User Data, which acknowledges what came
  Acknowledges : Outgoing
  SendsNothing : Outgoing

-- the acknowledgement, if one is owed
abbrev pub if_owed : Bool → Outgoing
if_owed true = Acknowledges
if_owed false = SendsNothing

-- a message comes first
abbrev pub message_first : Option Sending → Bool → Outgoing
message_first (Some next) owed = SendsMessage next
message_first None owed = if_owed owed

-- a status that waits comes before either
abbrev pub status_first : Option LinkStatus → Outgoing → Outgoing
status_first (Some status) others = SendsStatus status
status_first None others = others

-- a link in service takes the next message, unless its peer is busy
abbrev pub may_send : Link → Bool
may_send l = is_in_service l.alignment && not l.peer_busy

-- the frame for that: the backward number is that of the last message accepted, and a frame without a number of its own
-- repeats the last forward number
abbrev pub frame_from : (last_accepted last_sent : ℕ) → Outgoing → Option FrameValue
frame_from last_accepted last_sent (SendsStatus status) = Some (StatusFrame last_accepted last_sent status)
frame_from last_accepted last_sent (SendsMessage next) =
    Some (MessageFrame last_accepted next.number next.message.sio next.message.sif)
frame_from last_accepted last_sent Acknowledges = Some (EmptyFrame last_accepted last_sent)
frame_from last_accepted last_sent SendsNothing = None

-- the status that waited longest waits no more
abbrev pub without_status : ℕ → Parts → Parts
without_status link p = with_link p link (record (link_at p link) { waiting = drop 1 (link_at p link).waiting })

-- an acknowledgement is no longer owed
abbrev pub without_owed : Link → Link
without_owed l = record l { acknowledgement_owed = false }

-- a message goes out
abbrev pub carried : Configuration → ℕ → Parts → Parts
carried c link p = record p {
  links = links_with p link (without_owed (link_at p link));
  timers = timed_sending c link p.timers;
}

module _ {Q : Type 0} (q : QueueKind Q) (c : Configuration) where
  -- the next message, if the window allows and the peer isn't busy
  abbrev pub next_message : ℕ → Node Q → Option Sending
  next_message link node =
      if may_send (link_at node.parts link) then q.to_send node.queues link c.window else None

  -- what goes out next: a status that waits, the one that waited longest first; otherwise the next message; otherwise
  -- the acknowledgement that is owed
  abbrev pub goes_out : ℕ → Node Q → Outgoing
  goes_out link node =
      status_first (slice_get (link_at node.parts link).waiting 0)
      (message_first (next_message link node) (link_at node.parts link).acknowledgement_owed)

  -- the node after it went out: a message counts as sent, and both a message and an empty User Data settle the
  -- acknowledgement
  abbrev pub after_sending : ℕ → Node Q → Outgoing → Node Q
  after_sending link node (SendsStatus status) = with_parts node (without_status link node.parts)
  after_sending link node (SendsMessage next) = record {
    queues = q.sent_one node.queues link c.window;
    parts = carried c link node.parts;
  }
  after_sending link node Acknowledges =
      with_parts node (with_link node.parts link (without_owed (link_at node.parts link)))
  after_sending link node SendsNothing = node

  -- the frame that a take gives, and the node after it
  abbrev pub frame_taken : ℕ → Node Q → Option FrameValue
  frame_taken link node =
      frame_from (q.last_accepted node.queues link) (q.last_sent node.queues link) (goes_out link node)

  abbrev pub after_take : ℕ → Node Q → Node Q
  after_take link node = after_sending link node (goes_out link node)
