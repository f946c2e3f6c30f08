-- The queue of a link: all messages of an epoch in order, numbered from 0, and how far they have come (RFC 4165 §2.2).
use Rattle.std.specs.Prelude.{◌≡◌, ℕ, zero, suc, Bool, ◌+◌, ◌-◌, ◌%◌, ◌≤◌, List, [], ◌∷◌, ◌++◌, length, drop, find}
use Rattle.std.specs.Prelude.{Option}
use Rattle.std.specs.Prelude.{Some, None, Result, Ok, Err, nat_eq, nat_lt, slice_get, if◌then◌else◌}
use Rattle.std.specs.Option.{option_map}
use Rattle.signalling_types.specs.Message.{Message}
use Rattle.signalling_types.specs.declared.limits.TheConstants.Limits.{WINDOW}
use Rattle.signalling_types.specs.Numbers.{modulus, next_number, previous_number}
use Rattle.link.specs.declared.fault.SeqFault.{SeqFault}
use Rattle.link.specs.declared.fault.SeqFault.TheVariants.{BadFsn, BadBsn}

-- all messages that were ever queued on the link in this epoch; message k has the number base + k modulo 2^24
pub record Queue : Type 0 where
  pub base : ℕ
  pub all : List Message
  -- how many of them the peer has confirmed, and how many were sent
  pub confirmed : ℕ
  pub sent : ℕ
  -- how many messages of the peer were accepted
  pub received : ℕ

-- what is confirmed was sent, what was sent is there, and no more than a window of w is sent and unconfirmed; settings
-- allow no window above WINDOW
pub record IsQueue (w : ℕ) (q : Queue) : Type 0 where
  pub confirmed : q.confirmed ≤ q.sent
  pub sent : q.sent ≤ length q.all
  pub window : q.sent ≤ q.confirmed + w
  pub limit : w ≤ WINDOW

-- the messages that aren't confirmed, sent or not
abbrev pub unconfirmed : Queue → List Message
unconfirmed q = drop q.confirmed q.all

-- the queue of a new epoch
abbrev pub first_queue : Queue
first_queue = record { base = 0; all = []; confirmed = 0; sent = 0; received = 0 }

-- the same, if the first message gets another number
abbrev pub first_queue_at : ℕ → Queue
first_queue_at number = record { base = number; all = []; confirmed = 0; sent = 0; received = 0 }

-- the forward sequence number (FSN) of message k
abbrev pub forward_number : Queue → ℕ → ℕ
forward_number q k = (q.base + k) % modulus

-- a backward sequence number names a count from `confirmed` to `sent`, if the number after it is that of the message
-- after the count (RFC 4165 §2.2)
pub record Names (q : Queue) (bsn n : ℕ) : Type 0 where
  pub from_confirmed : q.confirmed ≤ n
  pub to_sent : n ≤ q.sent
  pub number : (q.base + n) % modulus ≡ (bsn + 1) % modulus

-- counts in a row
abbrev pub counts_from : ℕ → ℕ → List ℕ
counts_from first zero = []
counts_from first (suc many) = first ∷ counts_from (first + 1) many

-- the count that it names, found among those from `confirmed` to `sent`
abbrev pub named_count : Queue → ℕ → Option ℕ
named_count q bsn =
    find (λ n. nat_eq (forward_number q n) (next_number bsn)) (counts_from q.confirmed (q.sent - q.confirmed + 1))

-- how many more messages it confirms
abbrev pub newly_confirmed : Queue → ℕ → Option ℕ
newly_confirmed q bsn = option_map (λ n. n - q.confirmed) (named_count q bsn)

-- the FSN that must come: with a message the next one, without a message the last accepted one again
abbrev pub expected : Queue → Bool → ℕ
expected q carries = if carries then q.received % modulus else previous_number q.received

-- how many messages a frame confirms, or what is wrong with it; the FSN is looked at first
abbrev pub confirmation : Option ℕ → Result ℕ SeqFault
confirmation (Some count) = Ok count
confirmation None = Err BadBsn

abbrev pub accept_answer : Queue → ℕ → ℕ → Bool → Result ℕ SeqFault
accept_answer q fsn bsn carries =
    if nat_eq fsn (expected q carries) then confirmation (newly_confirmed q bsn) else Err BadFsn

-- how many it confirms; a frame with a fault confirms none
abbrev pub count_confirmed : Result ℕ SeqFault → ℕ
count_confirmed (Ok count) = count
count_confirmed (Err fault) = 0

-- the queue after a frame; a fault changes nothing
abbrev pub after_answer : Queue → Bool → Result ℕ SeqFault → Queue
after_answer q carries (Ok count) = record q {
  confirmed = q.confirmed + count;
  received = if carries then q.received + 1 else q.received;
}
after_answer q carries (Err fault) = q

abbrev pub accepted : Queue → ℕ → ℕ → Bool → Queue
accepted q fsn bsn carries = after_answer q carries (accept_answer q fsn bsn carries)

-- a message on its way out, with its number
pub record Sending : Type 0 where
  pub number : ℕ
  pub message : Message

abbrev pub numbered : ℕ → Option Message → Option Sending
numbered number (Some message) = Some (record { number = number; message = message })
numbered number None = None

-- the next message that goes out: the first that wasn't sent, while fewer than a window are unconfirmed
abbrev pub to_send : Queue → ℕ → Option Sending
to_send q window =
    if nat_lt (q.sent - q.confirmed) window then numbered (forward_number q q.sent) (slice_get q.all q.sent) else None

-- the queue after it went out
abbrev pub after_sending : Queue → Option Sending → Queue
after_sending q (Some sending) = record q { sent = q.sent + 1 }
after_sending q None = q

abbrev pub sent_one : Queue → ℕ → Queue
sent_one q window = after_sending q (to_send q window)

-- one more message at the end
abbrev pub appended : Queue → Message → Queue
appended q m = record q { all = q.all ++ m ∷ [] }

-- what is left when the link has failed and its messages have gone elsewhere: what was received
abbrev pub emptied : Queue → Queue
emptied q = record { base = 0; all = []; confirmed = 0; sent = 0; received = q.received }

-- the numbers of the last message that was sent, and of the last that was accepted
abbrev pub last_sent : Queue → ℕ
last_sent q = previous_number (q.base + q.sent)

abbrev pub last_accepted : Queue → ℕ
last_accepted q = previous_number q.received
