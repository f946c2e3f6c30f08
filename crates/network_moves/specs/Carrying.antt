-- Moves of frames (RFC 4165 §2 and §4).
use Rattle.std.specs.Prelude.{◌≡◌, ℕ, suc, Bool, true, false, ◌≤◌, List, ◌∷◌, [], ◌++◌, Some, Ok}
use Rattle.signalling_types.specs.Message.{Message}
use Rattle.signalling_types.specs.declared.limits.TheConstants.Limits.{WINDOW}
use Rattle.link.specs.Queue.{Queue, Sending, to_send, after_sending, last_sent, last_accepted}
use Rattle.link.specs.Queue.{accept_answer, after_answer}
use Rattle.network_moves.specs.Networks.{Frame, EmptyFrame, MessageFrame, Line, Network, Shape, Place, line_at, node_at}
use Rattle.network_moves.specs.Networks.{Becomes}

-- a line after the near end sent a link status
abbrev pub with_status : Line → Line
with_status z = record z { told_far = suc z.told_far }

-- a line with this many link statuses in flight to the near end
abbrev pub with_statuses_left : Line → ℕ → Line
with_statuses_left z count = record z { told_near = count }

-- a line after the near end sent User Data
abbrev pub with_frame : Line → Frame → Line
with_frame z frame = record z { to_far = z.to_far ++ frame ∷ [] }

-- User Data without a message: the numbers of the last message that was sent, and of the last that was accepted
abbrev pub acknowledgement : Queue → Frame
acknowledgement q = EmptyFrame (last_sent q) (last_accepted q)

-- a line after the near end sent a message
abbrev pub with_sent : Line → Sending → Line
with_sent z sending = record z {
  near = record z.near { queue = after_sending z.near.queue (Some sending) };
  to_far = z.to_far ++ MessageFrame sending.number (last_accepted z.near.queue) sending.message ∷ [];
}

-- a line after User Data came to the near end and said nothing to it
abbrev pub with_frames_left : Line → List Frame → Line
with_frames_left z rest = record z { to_near = rest }

-- a line whose near end heard the far one
abbrev pub with_heard : Line → Line
with_heard z = record z { near = record z.near { heard = true } }

-- a line after the near end accepted the numbers of a frame, of which count are newly confirmed; and this many messages
-- have come from the far end
abbrev pub with_accepted : Line → List Frame → (carries : Bool) → (count : ℕ) → (came : List Message) → Line
with_accepted z rest carries count came = record z {
  near = record z.near { queue = after_answer z.near.queue carries (Ok count) };
  far = record z.far { came = came };
  to_near = rest;
}

module _ (shape : Shape) (p q : Network) where
  -- only one link changes, at one end
  abbrev pub LineBecomes : Place → Line → Type 0
  LineBecomes place z = Becomes shape p q place z (node_at shape p place)

  -- a link status goes out, from an end that is up
  pub record SendsStatus : Type 0 where
    pub place : Place
    pub up : (line_at p place).near.up ≡ true
    pub after : LineBecomes place (with_status (line_at p place))

  -- the next message of a link in service goes out, within a window
  pub record SendsMessage : Type 0 where
    pub place : Place
    pub serving : (line_at p place).near.serving ≡ true
    pub window : ℕ
    pub small : window ≤ WINDOW
    pub sending : Sending
    pub next : to_send (line_at p place).near.queue window ≡ Some sending
    pub after : LineBecomes place (with_sent (line_at p place) sending)

  -- an acknowledgement goes out, from an end that is up
  pub record SendsEmpty : Type 0 where
    pub place : Place
    pub up : (line_at p place).near.up ≡ true
    pub after : LineBecomes place (with_frame (line_at p place) (acknowledgement (line_at p place).near.queue))

  -- an end that is up hears a link status in flight to it: so its alignment goes on
  pub record HearsStatus : Type 0 where
    pub place : Place
    pub up : (line_at p place).near.up ≡ true
    pub rest : ℕ
    pub some : (line_at p place).told_near ≡ suc rest
    pub after : LineBecomes place (with_heard (line_at p place))

  -- a link status is in flight no longer: it came, or was lost
  pub record TakesStatus : Type 0 where
    pub place : Place
    pub rest : ℕ
    pub some : (line_at p place).told_near ≡ suc rest
    pub after : LineBecomes place (with_statuses_left (line_at p place) rest)

  -- a link status in flight becomes two
  pub record DoublesStatus : Type 0 where
    pub place : Place
    pub rest : ℕ
    pub some : (line_at p place).told_near ≡ suc rest
    pub after : LineBecomes place (with_statuses_left (line_at p place) (suc (suc rest)))

  -- User Data comes to an end that is down
  pub record Drops : Type 0 where
    pub place : Place
    pub frame : Frame
    pub rest : List Frame
    pub first : (line_at p place).to_near ≡ frame ∷ rest
    pub down : (line_at p place).near.up ≡ false
    pub after : LineBecomes place (with_frames_left (line_at p place) rest)

  -- User Data without a message comes, and its numbers are accepted
  pub record TakesEmpty : Type 0 where
    pub place : Place
    pub fsn : ℕ
    pub bsn : ℕ
    pub rest : List Frame
    pub first : (line_at p place).to_near ≡ EmptyFrame fsn bsn ∷ rest
    pub up : (line_at p place).near.up ≡ true
    pub count : ℕ
    pub accepted : accept_answer (line_at p place).near.queue fsn bsn false ≡ Ok count
    pub after : LineBecomes place (with_accepted (line_at p place) rest false count (line_at p place).far.came)

  -- User Data with a message comes, and its numbers are accepted
  pub record TakesMessage : Type 0 where
    pub place : Place
    pub fsn : ℕ
    pub bsn : ℕ
    pub message : Message
    pub rest : List Frame
    pub first : (line_at p place).to_near ≡ MessageFrame fsn bsn message ∷ rest
    pub up : (line_at p place).near.up ≡ true
    pub count : ℕ
    pub accepted : accept_answer (line_at p place).near.queue fsn bsn true ≡ Ok count
    pub after : Becomes shape p q place
        (with_accepted (line_at p place) rest true count (message ∷ (line_at p place).far.came))
        (record (node_at shape p place) {
          bag = message ∷ (node_at shape p place).bag;
          accepted = message ∷ (node_at shape p place).accepted;
        })
