-- What is counted for a link, and what it adds to each counter.
use Rattle.std.specs.Prelude.{ℕ, ◌+◌, ◌-◌, Bool, false, not, if◌then◌else◌, Option, None, Some}
use Rattle.std.specs.Prelude.{List, length, replicate, slice_index, slice_index_or, slice_set}
use Rattle.signalling_types.specs.Causes.{cause_number}
use Rattle.signalling_types.specs.Message.{Message, is_management}
use Rattle.signalling_types.specs.declared.notice.FailureReason.{FailureReason}
use Rattle.signalling_types.specs.declared.notice.FailureReason.TheVariants.{Association, Timer, Sequence, Status}
use Rattle.signalling_types.specs.declared.notice.FailureReason.TheVariants.{Length, Changeover, Operator, Test}
use Rattle.signalling_types.specs.declared.outcome.Outcome.{Outcome}
use Rattle.signalling_types.specs.declared.outcome.Outcome.TheVariants.{Queued, Held, Local, Handled, Ignored, Refused}
use Rattle.trace.specs.Observed.{message_in}
use Rattle.served_link.specs.declared.counter.TheConstants.{CAUSES, REASONS}
use Rattle.served_link.specs.declared.counter.Counter.{Counter}
use Rattle.served_link.specs.declared.counter.Counter.TheVariants.{FramesIn, OctetsIn, FramesOut, OctetsOut}
use Rattle.served_link.specs.declared.counter.Counter.TheVariants.{Forwarded, Delivered, Refused as RefusedBy}
use Rattle.served_link.specs.declared.counter.Counter.TheVariants.{Failed, Retries, Setbacks, Retransmissions}
use Rattle.served_link.specs.declared.row.LinkCounters.{LinkCounters}
use Rattle.served_link.specs.declared.setback.TheConstants.{SETBACKS}
use Rattle.served_link.specs.declared.setback.Setback.{Setback}
use Rattle.served_link.specs.declared.setback.Setback.TheVariants.{OtherPort, TooMany, WithoutTag, HostName}
use Rattle.served_link.specs.declared.setback.Setback.TheVariants.{FewStreams, Unwanted, NoTagLeft, ShuttingDown}
use Rattle.served_link.specs.declared.setback.Setback.TheVariants.{WithoutCookie, LongCookie, EndedByPeer}
use Rattle.served_link.specs.declared.setback.Setback.TheVariants.{Unanswered, BadAnswer, EndedByNode}
use Rattle.served_link.specs.declared.datagrams.DatagramCounters.{DatagramCounters}
use Rattle.served_link.specs.declared.messages.LinkMessages.{LinkMessages}
use Rattle.served_link.specs.Messages.{heard_at, no_messages, sent_at}
pub use Rattle.served_link.specs.Saturating.{one_more_at, saturated}

-- what is counted for a link
pub data Counted : Type 0 where
  -- a frame of this many octets came in, with a user message or without one, and was handed in with this outcome
  FrameCame : (octets : ℕ) (has_user_message : Bool) (outcome : Outcome) → Counted
  -- a frame of this many octets went out
  FrameWent : (octets : ℕ) → Counted
  -- the link failed for this reason
  Failure : (reason : FailureReason) → Counted
  -- its connection was tried again
  Retry : Counted
  -- its association over SCTP didn't open
  WasSetBack : (setback : Setback) → Counted
  -- its association over SCTP sent this many chunks again
  WentAgain : (chunks : ℕ) → Counted

-- a message is a user's unless it is of network management or of link tests (Q.704 §14.2.1)
abbrev pub is_users : Option Message → Bool
is_users None = false
is_users (Some message) = not (is_management message)

-- whether octets are a frame with a message of a user
abbrev pub has_user_message : List ℕ → Bool
has_user_message frame = is_users (message_in frame)

-- what is counted for a frame that came in, and of one that went out
abbrev pub came : (frame : List ℕ) → Outcome → Counted
came frame outcome = FrameCame (length frame) (has_user_message frame) outcome

abbrev pub went : (frame : List ℕ) → Counted
went frame = FrameWent (length frame)

-- the index of a reason among all
abbrev pub reason_number : FailureReason → ℕ
reason_number Association = 0
reason_number Timer = 1
reason_number Sequence = 2
reason_number Status = 3
reason_number Length = 4
reason_number Changeover = 5
reason_number Operator = 6
reason_number Test = 7

-- the index of a setback among all
abbrev pub setback_number : Setback → ℕ
setback_number OtherPort = 0
setback_number TooMany = 1
setback_number WithoutTag = 2
setback_number HostName = 3
setback_number FewStreams = 4
setback_number Unwanted = 5
setback_number NoTagLeft = 6
setback_number ShuttingDown = 7
setback_number WithoutCookie = 8
setback_number LongCookie = 9
setback_number EndedByPeer = 10
setback_number Unanswered = 11
setback_number BadAnswer = 12
setback_number EndedByNode = 13

-- nothing is counted yet
abbrev pub no_counts : LinkCounters
no_counts = record {
  frames_in = 0;
  octets_in = 0;
  frames_out = 0;
  octets_out = 0;
  forwarded = 0;
  delivered = 0;
  refused = replicate CAUSES 0;
  failed = replicate REASONS 0;
  retries = 0;
  setbacks = replicate SETBACKS 0;
  retransmissions = 0;
}

-- a message was queued or held; if it is a user's, it is forwarded
abbrev pub sent_on : (has_user_message : Bool) → LinkCounters → LinkCounters
sent_on has_user_message row =
    record row { forwarded = if has_user_message then saturated (row.forwarded + 1) else row.forwarded }

-- what an outcome adds
abbrev pub outcome_counted : (has_user_message : Bool) → Outcome → LinkCounters → LinkCounters
outcome_counted has_user_message (Queued link) row = sent_on has_user_message row
outcome_counted has_user_message Held row = sent_on has_user_message row
outcome_counted has_user_message Local row = record row { delivered = saturated (row.delivered + 1) }
outcome_counted has_user_message Handled row = row
outcome_counted has_user_message Ignored row = row
outcome_counted has_user_message (Refused cause) row =
    record row { refused = one_more_at (cause_number cause - 1) row.refused }

-- the counters of a link after one thing more is counted
abbrev pub counted : Counted → LinkCounters → LinkCounters
counted (FrameCame octets has_user_message outcome) row =
    outcome_counted has_user_message outcome (record row {
      frames_in = saturated (row.frames_in + 1);
      octets_in = saturated (row.octets_in + octets);
    })
counted (FrameWent octets) row =
    record row { frames_out = saturated (row.frames_out + 1); octets_out = saturated (row.octets_out + octets) }
counted (Failure reason) row = record row { failed = one_more_at (reason_number reason) row.failed }
counted Retry row = record row { retries = saturated (row.retries + 1) }
counted (WasSetBack setback) row = record row { setbacks = one_more_at (setback_number setback) row.setbacks }
counted (WentAgain chunks) row = record row { retransmissions = saturated (row.retransmissions + chunks) }

-- the counters of a link, in the counters of all
abbrev pub row_at : List LinkCounters → ℕ → LinkCounters
row_at rows link = slice_index_or rows link no_counts

-- in the counters of all links, one thing more is counted for a link; for a link that isn't there nothing is
abbrev pub row_counted_at : (link : ℕ) → Counted → List LinkCounters → List LinkCounters
row_counted_at link what rows = slice_set rows link (counted what (row_at rows link))

-- ---- the counters of a node

pub record NodeCounters : Type 0 where
  -- of each link
  pub links : List LinkCounters
  -- of datagrams
  pub datagrams : DatagramCounters
  -- of the messages of each link, by kind
  pub messages : List LinkMessages

abbrev pub no_datagrams : DatagramCounters
no_datagrams = record { incoming = 0; outgoing = 0; strangers = 0 }

-- nothing is counted yet for this many links
abbrev pub first_counters : (links : ℕ) → NodeCounters
first_counters links = record {
  links = replicate links no_counts;
  datagrams = no_datagrams;
  messages = replicate links no_messages;
}

-- one thing more is counted for a link
abbrev pub counted_at : (link : ℕ) → Counted → NodeCounters → NodeCounters
counted_at link what counters = record counters { links = row_counted_at link what counters.links }

-- a frame that came in on a link with this outcome is counted, and so is its message
abbrev pub frame_came : (link : ℕ) → (frame : List ℕ) → Outcome → NodeCounters → NodeCounters
frame_came link frame outcome counters =
    record (counted_at link (came frame outcome) counters) { messages = heard_at link (message_in frame) counters.messages }

-- and those of one that went out
abbrev pub frame_went : (link : ℕ) → (frame : List ℕ) → NodeCounters → NodeCounters
frame_went link frame counters =
    record (counted_at link (went frame) counters) { messages = sent_at link (message_in frame) counters.messages }

-- what is counted of datagrams
pub data CountedDatagram : Type 0 where
  -- one of a link came, or went out
  DatagramCame : CountedDatagram
  DatagramWent : CountedDatagram
  -- one came that belongs to no link
  StrangerCame : CountedDatagram

abbrev pub datagrams_after : CountedDatagram → DatagramCounters → DatagramCounters
datagrams_after DatagramCame d = record d { incoming = saturated (d.incoming + 1) }
datagrams_after DatagramWent d = record d { outgoing = saturated (d.outgoing + 1) }
datagrams_after StrangerCame d = record d { strangers = saturated (d.strangers + 1) }

-- one datagram more is counted
abbrev pub counted_datagram : CountedDatagram → NodeCounters → NodeCounters
counted_datagram what counters = record counters { datagrams = datagrams_after what counters.datagrams }

-- ---- the value of each counter

abbrev pub value_of : Counter → LinkCounters → ℕ
value_of FramesIn row = row.frames_in
value_of OctetsIn row = row.octets_in
value_of FramesOut row = row.frames_out
value_of OctetsOut row = row.octets_out
value_of Forwarded row = row.forwarded
value_of Delivered row = row.delivered
value_of (RefusedBy cause) row = slice_index row.refused (cause_number cause - 1)
value_of (Failed reason) row = slice_index row.failed (reason_number reason)
value_of Retries row = row.retries
value_of (Setbacks setback) row = slice_index row.setbacks (setback_number setback)
value_of Retransmissions row = row.retransmissions
