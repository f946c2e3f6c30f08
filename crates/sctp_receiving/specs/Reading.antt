-- What a piece that is lent says, and what a call tells.
use Rattle.std.specs.Prelude.{ℕ, List, take}
use Rattle.sctp_receiving.specs.Pieces as pieces
use Rattle.sctp_receiving.specs.Consuming as consuming
use Rattle.sctp_receiving.specs.declared.piece.Piece.{Piece}
use Rattle.sctp_receiving.specs.declared.told.Told.{Told}
use Rattle.sctp_receiving.specs.declared.told.Told.TheVariants.{Nothing, Whole, Message, NoStream, Violates}

abbrev pub lent : Piece → pieces.Piece
lent p = record {
  stream = p.stream;
  sequence = p.sequence;
  protocol = p.protocol;
  begins = p.begins;
  ends = p.ends;
  unordered = p.unordered;
  octets = p.octets.now;
}

-- of a message that a piece is by itself, the octets are the piece's; of another they are at the front of a buffer
abbrev pub told_by : pieces.Piece → (buffer : List ℕ) → Told → consuming.Told
told_by p buffer Nothing = consuming.Nothing
told_by p buffer Whole = consuming.Tells (consuming.message_of (consuming.begun p))
told_by p buffer (Message stream protocol count) =
    consuming.Tells (record { stream = stream; protocol = protocol; octets = take count buffer })
told_by p buffer (NoStream stream) = consuming.NoStream stream
told_by p buffer (Violates violation) = consuming.Violates violation
