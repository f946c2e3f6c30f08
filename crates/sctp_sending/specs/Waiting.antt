-- Messages that were given and didn't go out yet, and whether one more goes out with them.
use Rattle.std.specs.Prelude.{ℕ, zero, suc, ◌+◌, Bool, not, ◌&&◌, ◌||◌, length, drop, sum_by, nat_lt, nat_le, ◌==◌}
use Rattle.std.specs.Prelude.{is_some}
use Rattle.sctp_sending.specs.Outgoing.{octets_of, lost_from}
use Rattle.sctp_sending.specs.Sending.{Sending, most_messages, most_octets, under_way, next_place, gone_next}

-- the octets that were given and didn't go out yet
abbrev pub waiting_octets : Sending → ℕ
waiting_octets s = sum_by octets_of (drop s.went s.out)

-- after this many octets that didn't go out yet, a message that is given now goes out with them
unfoldable pub has_room_behind : Sending → (octets : ℕ) → Bool
has_room_behind s octets =
    nat_lt (length s.out) most_messages
    && not (is_some (lost_from s.out 0 s.went))
    && nat_lt (under_way s + octets) s.congestion.window
    && (nat_le (octets + most_octets) s.peer_window || ((under_way s + octets) == 0))

-- this many go out one after another, as far as they may
unfoldable pub after_going : (many now : ℕ) → Sending → Sending
after_going zero now s = s
after_going (suc more) now s = after_going more now (gone_next s now (next_place s))
