-- What is called at a gate, one call after another.
use Rattle.std.specs.Prelude.{ℕ, List, [], ◌∷◌, Option}
use Rattle.sctp_codec.specs.Packets.{PacketValue}
use Rattle.sctp_rules.specs.Settings.{Address}
use Rattle.exchange_rules.specs.State.{QueueKind, State}
use Rattle.sctp_gate.specs.Gates.{Gate, Did, heard, timed, settled, filled, aborted}

-- each at a time in milliseconds
pub data Call : Type 0 where
  -- a datagram comes, and the packet that it is, if it is one
  Hears : (now : ℕ) (packet : Option PacketValue) (source : Address) → Call
  Ticks : (now : ℕ) → Call
  Settles : (now : ℕ) → Call
  Fills : (now : ℕ) → Call
  Closes : (now : ℕ) → Call

-- a call, and the exchange that is lent to it: anything may have happened to that since the call before
pub record Visit (Q : Type 0) : Type 0 where
  pub call : Call
  pub exchange : State Q

module _ {Q : Type 0} (q : QueueKind Q) where
  abbrev pub called : Call → Gate → State Q → Did Q
  called (Hears now packet source) g s = heard q now packet source g s
  called (Ticks now) g s = timed q now g s
  called (Settles now) g s = settled q now g s
  called (Fills now) g s = filled q now g s
  called (Closes now) g s = aborted q now g s

  -- the gate after several
  abbrev pub visited : List (Visit Q) → Gate → Gate
  visited [] g = g
  visited (visit ∷ more) g = visited more (called visit.call g visit.exchange).gate
