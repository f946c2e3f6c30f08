-- What is kept of a queue: the messages that aren't confirmed, the number of the first of them, how many of them were
-- sent, and the number that the peer's next message must have.
use Rattle.std.specs.Prelude.{ℕ, Bool, ◌+◌, ◌-◌, ◌%◌, List, Option, Some, None, Result, Ok, Err, nat_eq, nat_lt}
use Rattle.std.specs.Prelude.{nat_le, slice_get, if◌then◌else◌}
use Rattle.signalling_types.specs.Message.{Message}
use Rattle.signalling_types.specs.Numbers.{modulus, next_number, previous_number, steps_between}
use Rattle.link.specs.declared.fault.SeqFault.{SeqFault}
use Rattle.link.specs.declared.fault.SeqFault.TheVariants.{BadFsn}
use Rattle.link.specs.Queue.{Queue, Sending, forward_number, confirmation, numbered}

pub record Counts : Type 0 where
  -- the number of the first message that isn't confirmed, sent or not
  pub oldest : ℕ
  -- how many messages were sent and aren't confirmed
  pub outstanding : ℕ
  -- the number that the next message of the peer must have
  pub expected : ℕ

-- what is kept of a queue's counts
abbrev pub counts_of : Queue → Counts
counts_of q = record {
  oldest = forward_number q q.confirmed;
  outstanding = q.sent - q.confirmed;
  expected = q.received % modulus;
}

-- what is kept of the queue of a new epoch
abbrev pub kept_first : Counts
kept_first = record { oldest = 0; outstanding = 0; expected = 0 }

-- the same, if the first message gets another number
abbrev pub kept_first_at : ℕ → Counts
kept_first_at number = record { oldest = number; outstanding = 0; expected = 0 }

-- how many more messages a number confirms: its distance from the last confirmed one, if that many are outstanding
abbrev pub kept_newly_confirmed : Counts → ℕ → Option ℕ
kept_newly_confirmed k bsn =
    if nat_le (steps_between k.oldest (next_number bsn)) k.outstanding
    then Some (steps_between k.oldest (next_number bsn))
    else None

-- the FSN that must come
abbrev pub kept_expected : Counts → Bool → ℕ
kept_expected k carries = if carries then k.expected else previous_number k.expected

-- how many messages a frame confirms, or what is wrong with it
abbrev pub kept_accept_answer : Counts → ℕ → ℕ → Bool → Result ℕ SeqFault
kept_accept_answer k fsn bsn carries =
    if nat_eq fsn (kept_expected k carries) then confirmation (kept_newly_confirmed k bsn) else Err BadFsn

-- the counts after a frame; a fault changes nothing
abbrev pub kept_after_answer : Counts → Bool → Result ℕ SeqFault → Counts
kept_after_answer k carries (Ok count) = record {
  oldest = (k.oldest + count) % modulus;
  outstanding = k.outstanding - count;
  expected = if carries then next_number k.expected else k.expected;
}
kept_after_answer k carries (Err fault) = k

abbrev pub kept_accepted : Counts → ℕ → ℕ → Bool → Counts
kept_accepted k fsn bsn carries = kept_after_answer k carries (kept_accept_answer k fsn bsn carries)

-- the next message that goes out: the first that wasn't sent, while fewer than a window are outstanding
abbrev pub kept_to_send : Counts → List Message → ℕ → Option Sending
kept_to_send k lane window =
    if nat_lt k.outstanding window
    then numbered ((k.oldest + k.outstanding) % modulus) (slice_get lane k.outstanding)
    else None

-- the counts after it went out
abbrev pub kept_after_sending : Counts → Option Sending → Counts
kept_after_sending k (Some sending) = record k { outstanding = k.outstanding + 1 }
kept_after_sending k None = k

abbrev pub kept_sent_one : Counts → List Message → ℕ → Counts
kept_sent_one k lane window = kept_after_sending k (kept_to_send k lane window)

-- what is left when the link has failed and its messages have gone elsewhere
abbrev pub kept_emptied : Counts → Counts
kept_emptied k = record { oldest = 0; outstanding = 0; expected = k.expected }

-- the numbers of the last message that was sent, and of the last that was accepted
abbrev pub kept_last_sent : Counts → ℕ
kept_last_sent k = previous_number (k.oldest + k.outstanding)

abbrev pub kept_last_accepted : Counts → ℕ
kept_last_accepted k = previous_number k.expected
