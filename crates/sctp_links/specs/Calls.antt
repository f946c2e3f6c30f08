-- What a call of a gate does.
use Rattle.std.specs.Prelude.{ℕ}
use Rattle.sctp_codec.specs.Reading.{read_packet}
use Rattle.sctp_bundling.specs.Settings.{address_of}
use Rattle.exchange_rules.specs.State.{QueueKind, State}
use Rattle.sctp_gate.specs.Gates.{Gate, Did, heard, timed, settled, filled, aborted}
use Rattle.sctp_links.specs.declared.calling.GateCall.{GateCall}
use Rattle.sctp_links.specs.declared.calling.GateCall.TheVariants.{Hear, Tick, Settle, Fill, Close}

abbrev pub called : {Q : Type 0} → QueueKind Q → GateCall → (now : ℕ) → Gate → State Q → Did Q
called q (Hear octets source) now g s = heard q now (read_packet octets.now) (address_of source) g s
called q Tick now g s = timed q now g s
called q Settle now g s = settled q now g s
called q Fill now g s = filled q now g s
called q Close now g s = aborted q now g s
