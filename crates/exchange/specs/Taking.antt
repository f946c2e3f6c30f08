-- What a call of take writes, and what goes out of it by kind.
use Rattle.std.specs.Prelude.{◌≡◌, ℕ, false, List, length, take, Option, Some, None}
use Rattle.m2pa_codec.specs.Frames.{FrameValue, spelled}
use Rattle.exchange_rules.specs.State.{State, with_node, link_at}
use Rattle.exchange.specs.KeptQueues.{KeptQueues, kept}
use Rattle.exchange_rules.specs.Sending.{Outgoing, message_first, if_owed, frame_from, next_message, after_sending}

-- the text of the frame at the front of the buffer, and its length in octets; nothing if there is no frame
abbrev pub Writes : Option FrameValue → Option ℕ → List ℕ → List ℕ → Type 0
Writes (Some frame) count old new =
    (count ≡ Some (length (spelled frame))) × (take (length (spelled frame)) new ≡ spelled frame)
Writes None count old new = (count ≡ None) × (new ≡ old)

-- ---- on what is kept

-- the frame that says it
abbrev pub frame_of : State KeptQueues → ℕ → Outgoing → Option FrameValue
frame_of s link out =
    frame_from (kept.last_accepted s.node.queues link) (kept.last_sent s.node.queues link) out

-- the state after it went out
abbrev pub sent : State KeptQueues → ℕ → Outgoing → State KeptQueues
sent s link out = with_node s (after_sending kept s.settings link s.node out)

-- the next message alone
abbrev pub message_out : State KeptQueues → ℕ → Outgoing
message_out s link = message_first (next_message kept s.settings link s.node) false

-- the acknowledgement alone
abbrev pub owed_out : State KeptQueues → ℕ → Outgoing
owed_out s link = if_owed (link_at s.node.parts link).acknowledgement_owed

-- the next message, else the acknowledgement
abbrev pub data_out : State KeptQueues → ℕ → Outgoing
data_out s link =
    message_first (next_message kept s.settings link s.node) (link_at s.node.parts link).acknowledgement_owed
