-- What goes out of the sending half, and what a SACK or a SHUTDOWN does to that half (RFC 9260 §6.1, §6.2.1).
use Rattle.std.specs.Prelude.{ℕ, zero, suc, Bool, true, false, ◌&&◌, ◌||◌, List, [], ◌∷◌, Option, Some, None}
use Rattle.std.specs.Prelude.{length, nat_lt, nat_le}
use Rattle.sctp_sending.specs.Outgoing.{Message, Outgoing, outgoing_at, tsn_at}
use Rattle.sctp_sending.specs.Sending.{Sending, most_messages, most_octets, next_place, gone_next, confirmation}
use Rattle.sctp_sending.specs.Sending.{confirmed}
use Rattle.sctp_sending.specs.Sending.{naming_of, after_sack}
use Rattle.sctp_sending.specs.Gaps.{names_in}
use Rattle.sctp_sending.specs.declared.confirmation.Confirmation.{Confirmation}
use Rattle.sctp_sending.specs.declared.confirmation.Confirmation.TheVariants.{Old, Beyond, Of}
use Rattle.sctp_codec.specs.Packets.{DataValue, SackValue}
use Rattle.sctp_rules.specs.declared.limits.TheConstants.{STREAMS}

-- ---- a message is taken

abbrev pub can_take : Sending → Message → Bool
can_take s m =
    nat_lt (length s.out) most_messages
    && nat_lt 0 (length m.octets)
    && nat_le (length m.octets) most_octets
    && nat_lt m.stream STREAMS

-- ---- what goes out

-- one chunk is one message
abbrev pub data_of : (tsn : ℕ) → Outgoing → DataValue
data_of tsn o = record {
  immediate = false;
  unordered = false;
  begins = true;
  ends = true;
  tsn = tsn;
  stream = o.message.stream;
  sequence = o.sequence;
  protocol = o.message.protocol;
  octets = o.message.octets;
}

abbrev pub data_at : Sending → (place : ℕ) → DataValue
data_at s place = data_of (tsn_at s.first place) (outgoing_at s.out place)

-- the chunks that go out, and the sending half afterwards
pub record Gone : Type 0 where
  pub chunks : List DataValue
  pub left : Sending

abbrev pub behind_chunk : DataValue → Gone → Gone
behind_chunk chunk g = record g { chunks = chunk ∷ g.chunks }

-- one message after another goes out, at most n, until none may
abbrev pub gone_from : (Sending → Gone) → (now : ℕ) → Option ℕ → Sending → Gone
gone_from rest now None s = record { chunks = []; left = gone_next s now None }
gone_from rest now (Some place) s = behind_chunk (data_at s place) (rest (gone_next s now (Some place)))

unfoldable pub going : (most now : ℕ) → Sending → Gone
going zero now s = record { chunks = []; left = s }
going (suc most) now s = gone_from (λ left. going most now left) now (next_place s) s

-- each message goes out once at most
abbrev pub all_gone : (now : ℕ) → Sending → Gone
all_gone now s = going (suc most_messages) now s

-- ---- what is confirmed

-- what it confirms didn't go out, which no peer may do
abbrev pub is_beyond : Confirmation → Bool
is_beyond Old = false
is_beyond Beyond = true
is_beyond (Of count) = false

abbrev pub confirms_beyond : Sending → (cumulative : ℕ) → Bool
confirms_beyond s cumulative = is_beyond (confirmation s cumulative)

abbrev pub is_old : Confirmation → Bool
is_old Old = true
is_old Beyond = false
is_old (Of count) = false

-- the sending half after a SACK
abbrev pub with_sack_of : Confirmation → (now : ℕ) → SackValue → Sending → Sending
with_sack_of (Of count) now sack s =
    after_sack s now sack.window (names_in sack.blocks (length (confirmed s count now).out)) (Of count)
with_sack_of Old now sack s = s
with_sack_of Beyond now sack s = s

abbrev pub with_sack : (now : ℕ) → SackValue → Sending → Sending
with_sack now sack s = with_sack_of (confirmation s sack.cumulative) now sack s

-- whether it confirms something, or names it for the first time
abbrev pub confirms_some_of : Confirmation → (now : ℕ) → SackValue → Sending → Bool
confirms_some_of (Of count) now sack s =
    let left = confirmed s count now in
    nat_lt 0 count || nat_lt 0 (naming_of (names_in sack.blocks (length left.out)) left).octets
confirms_some_of Old now sack s = false
confirms_some_of Beyond now sack s = false

abbrev pub confirms_some : (now : ℕ) → SackValue → Sending → Bool
confirms_some now sack s = confirms_some_of (confirmation s sack.cumulative) now sack s
