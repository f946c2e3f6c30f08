-- What the user of an endpoint is told, handed in to an exchange as events of a link, each once and in order.
use Rattle.std.specs.Prelude.{ℕ, Bool, List, [], ◌∷◌, nat_eq, if◌then◌else◌}
use Rattle.sctp_receiving.specs.Pieces.{Message}
use Rattle.sctp_rules.specs.State.{Told, Up, Heard, Down}
use Rattle.sctp_rules.specs.State as told
use Rattle.exchange_rules.specs.State.{QueueKind, State, CameUp, WentDown, FrameCame}
use Rattle.exchange_rules.specs.Exchange.{outcome_of, after}
use Rattle.sctp_gate.specs.declared.handing.TheConstants.{PROTOCOL}
use Rattle.sctp_gate.specs.Watching.{Sight, Rose, CameIn, Dropped, Fell, Failed}

-- a message is a frame by its payload protocol identifier, on either stream (RFC 4165 §7.1)
abbrev pub is_frame : Message → Bool
is_frame m = nat_eq m.protocol PROTOCOL

module _ {Q : Type 0} (q : QueueKind Q) (link : ℕ) where
  -- the state after one was handed in: Up and Down are events of the association, and a frame is one of the link
  abbrev pub after_one : Told → State Q → State Q
  after_one Up s = after q (CameUp link) s
  after_one (Heard m) s = if is_frame m then after q (FrameCame link m.octets) s else s
  after_one (Down why) s = after q (WentDown link) s
  after_one (told.Failed why) s = s

  -- and what is seen of it
  abbrev pub sight_of : Told → State Q → Sight
  sight_of Up s = Rose
  sight_of (Heard m) s =
      if is_frame m then CameIn m.octets (outcome_of q (FrameCame link m.octets) s) else Dropped m
  sight_of (Down why) s = Fell why
  sight_of (told.Failed why) s = Failed why

  -- the same of several, one after another
  abbrev pub after_told : List Told → State Q → State Q
  after_told [] s = s
  after_told (one ∷ more) s = after_told more (after_one one s)

  abbrev pub sights_of : List Told → State Q → List Sight
  sights_of [] s = []
  sights_of (one ∷ more) s = sight_of one s ∷ sights_of more (after_one one s)
