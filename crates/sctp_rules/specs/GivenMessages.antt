-- The sending half under any list of calls, with any peer: what goes out was given, and in order.
use Rattle.std.specs.Prelude.{◌≡◌, ℕ, ◌+◌, ◌%◌, ◌<◌, ◌^◌, Bool, All, List, [], ◌∷◌, ◌++◌, Option, Some, None, drop}
use Rattle.std.specs.Prelude.{length}
use Rattle.std.specs.Prelude.{map, slice_index_or}
use Rattle.sctp_sending.specs.declared.bounds.Bounds.{Bounds}
use Rattle.sctp_sending.specs.declared.confirmation.Confirmation.{Confirmation}
use Rattle.sctp_sending.specs.declared.confirmation.Confirmation.TheVariants.{Old, Beyond, Of}
use Rattle.sctp_sending.specs.Outgoing.{Message, Outgoing, no_message}
use Rattle.sctp_sending.specs.Sending.{Sending, first_sending, given, next_place, gone_next, confirmation}
use Rattle.sctp_sending.specs.Sending.{after_cumulative}
use Rattle.sctp_sending.specs.Sending.{after_sack, after_t3}
use Rattle.sctp_codec.specs.Packets.{DataValue}
use Rattle.sctp_rules.specs.Confirming.{data_at}

pub data Call : Type 0 where
  -- the user gives a message
  Gives : (message : Message) → Call
  -- a message goes out, if one may
  PutsOut : (now : ℕ) → Call
  -- a SACK comes, or a SHUTDOWN
  Hears : (now window cumulative : ℕ) (names : ℕ → Bool) → Call
  HearsShutdown : (now cumulative : ℕ) → Call
  -- T3 runs out
  TimesOut : (now : ℕ) → Call

-- a sending half, and all that was given, how many of it are confirmed, and the chunks that went out
pub record Course : Type 0 where
  pub half : Sending
  pub messages : List Message
  pub confirmed : ℕ
  pub chunks : List DataValue

abbrev pub first_course : Bounds → (first window : ℕ) → Course
first_course bounds first window = record {
  half = first_sending bounds first window;
  messages = [];
  confirmed = 0;
  chunks = [];
}

abbrev pub counted : Confirmation → ℕ → ℕ
counted Old confirmed = confirmed
counted Beyond confirmed = confirmed
counted (Of count) confirmed = confirmed + count

abbrev pub after_putting : Option ℕ → (now : ℕ) → Course → Course
after_putting None now c = record c { half = gone_next c.half now None }
after_putting (Some place) now c = record c {
  half = gone_next c.half now (Some place);
  chunks = c.chunks ++ data_at c.half place ∷ [];
}

abbrev pub after_call : Call → Course → Course
after_call (Gives message) c = record c { half = given c.half message; messages = c.messages ++ message ∷ [] }
after_call (PutsOut now) c = after_putting (next_place c.half) now c
after_call (Hears now window cumulative names) c = record c {
  half = after_sack c.half now window names (confirmation c.half cumulative);
  confirmed = counted (confirmation c.half cumulative) c.confirmed;
}
after_call (HearsShutdown now cumulative) c = record c {
  half = after_cumulative c.half now (confirmation c.half cumulative);
  confirmed = counted (confirmation c.half cumulative) c.confirmed;
}
after_call (TimesOut now) c = record c { half = after_t3 c.half now }

abbrev pub after_calls : List Call → Course → Course
after_calls [] c = c
after_calls (call ∷ calls) c = after_calls calls (after_call call c)

-- ---- what holds of each

abbrev pub message_of : Outgoing → Message
message_of o = o.message

-- a chunk that goes out is a message that was given, under the TSN of its place
pub record IsGiven (first : ℕ) (messages : List Message) (chunk : DataValue) : Type 0 where
  pub place : ℕ
  pub within : place < length messages
  pub tsn : chunk.tsn ≡ (first + place) % 2 ^ 32
  pub message :
      slice_index_or messages place no_message
      ≡ record { stream = chunk.stream; protocol = chunk.protocol; octets = chunk.octets }

-- what isn't confirmed is what was given, without the first of it: what leaves, leaves from the front. And each chunk
-- that went out was given
pub record IsInOrder (first : ℕ) (c : Course) : Type 0 where
  pub out : map message_of c.half.out ≡ drop c.confirmed c.messages
  pub tsn : c.half.first ≡ (first + c.confirmed) % 2 ^ 32
  pub chunks : All (IsGiven first c.messages) c.chunks

abbrev pub given_messages_go_out : Type 0
given_messages_go_out =
    (bounds : Bounds) (first window : ℕ) (calls : List Call) → first < 2 ^ 32 →
    IsInOrder first (after_calls calls (first_course bounds first window))
