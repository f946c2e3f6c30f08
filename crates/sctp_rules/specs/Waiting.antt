-- Messages that were given and didn't go out yet.
use Rattle.std.specs.Prelude.{ℕ, Bool, ◌&&◌}
use Rattle.sctp_sending.specs.Waiting as half
use Rattle.sctp_rules.specs.State.{State}
use Rattle.sctp_rules.specs.Sending.{is_established}

-- after this many octets that didn't go out yet, a message that is sent now goes out with them
abbrev pub has_room_behind : State → (octets : ℕ) → Bool
has_room_behind s octets = is_established s.association.phase && half.has_room_behind s.association.sender octets
