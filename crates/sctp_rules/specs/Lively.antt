-- The sending half under any list of calls, with any peer: its timer runs, what went out twice is never timed, and
-- while nothing is under way something may go (RFC 9260 §6.1, §6.3).
use Rattle.std.specs.Prelude.{◌≡◌, ℕ, ◌<◌, ◌≤◌, Bool, true, false, ◌||◌, List, IfSome, is_some, length, nat_lt}
use Rattle.sctp_sending.specs.declared.bounds.Bounds.{Bounds}
use Rattle.sctp_sending.specs.Congestion.{packet_octets}
use Rattle.sctp_sending.specs.Outgoing.{outgoing_at, lost_from}
use Rattle.sctp_sending.specs.Sending.{Sending, under_way, next_place}
use Rattle.sctp_rules.specs.State.{Association}
use Rattle.sctp_rules.specs.Data.{takes_sack}
use Rattle.sctp_rules.specs.Sending.{data_of}
use Rattle.sctp_rules.specs.GivenMessages.{Call, first_course, after_calls}

pub record IsLively (s : Sending) : Type 0 where
  -- T3 runs while something is outstanding (§6.3.2 R1)
  pub timer : 0 < s.went → is_some s.t3 ≡ true
  -- what is timed went out once: Karn's rule (§6.3.1 C5)
  pub timed : IfSome s.timed (λ t. (outgoing_at s.out t.place).again ≡ false)
  -- cwnd is a packet at least (§7.2.3)
  pub window : packet_octets ≤ s.congestion.window

-- the half that is left after these calls
abbrev pub half_after : Bounds → (first window : ℕ) → List Call → Sending
half_after bounds first window calls = (after_calls calls (first_course bounds first window)).half

abbrev pub halves_are_lively : Type 0
halves_are_lively =
    (bounds : Bounds) (first window : ℕ) (calls : List Call) → IsLively (half_after bounds first window calls)

-- something waits: a message is lost, or didn't go out yet
abbrev pub is_waiting : Sending → Bool
is_waiting s = is_some (lost_from s.out 0 s.went) || nat_lt s.went (length s.out)

-- while nothing is under way, one goes out if one waits, whatever the peer's window is (§6.1 A)
abbrev pub idle_halves_put_out : Type 0
idle_halves_put_out =
    (bounds : Bounds) (first window : ℕ) (calls : List Call) →
    under_way (half_after bounds first window calls) ≡ 0 →
    is_waiting (half_after bounds first window calls) ≡ true →
    is_some (next_place (half_after bounds first window calls)) ≡ true

-- and one that goes out is DATA in the next packets, in the states in which DATA may go
abbrev pub messages_go_out_as_data : Type 0
messages_go_out_as_data =
    (now : ℕ) (a : Association) → takes_sack a.phase ≡ true → is_some (next_place a.sender) ≡ true →
    0 < length (data_of now a)
