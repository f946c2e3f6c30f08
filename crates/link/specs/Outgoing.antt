-- A message that goes out, as a call returns it: its number, and the message in place.
use Rattle.std.specs.Prelude.{ℕ}
use denote.Ref.{Bor}
use Rattle.signalling_types.specs.Message.{Message}
use Rattle.link.specs.Queue.{Sending}

abbrev pub sending_of : ℕ × Bor Message → Sending
sending_of outgoing = record { number = outgoing.0; message = outgoing.1.now }
