-- Moves of frames (RFC 4165 §2 and §4).
use Rattle.std.specs.Prelude.{◌≡◌, ℕ, suc, Bool, true, false, ◌≤◌, List, ◌∷◌, [], ◌++◌, Some, Ok}
use Rattle.signalling_types.specs.Message.{Message}
use Rattle.signalling_types.specs.declared.limits.TheConstants.Limits.{WINDOW}
use Rattle.link.specs.Queue.{Queue, Sending, to_send, after_sending, last_sent, last_accepted}
use Rattle.link.specs.Queue.{accept_answer, after_answer}
use Rattle.pair_moves.specs.Sayings.{Reading}
use Rattle.pair_moves.specs.Ends.{Frame, EmptyFrame, MessageFrame, Line, Pair}
use Rattle.pair_moves.specs.Passing.{BecomeAt}

-- a line after the near end sent a link status
abbrev pub with_status : Line → Line
with_status z = record z { told_far = suc z.told_far }

-- a line with this many link statuses in flight to the near end
abbrev pub with_statuses_left : Line → ℕ → Line
with_statuses_left z count = record z { told_near = count }

-- a line after the near end sent User Data
abbrev pub with_frame : Line → Frame → Line
with_frame z frame = record z { to_far = z.to_far ++ frame ∷ [] }

-- User Data without a message: the numbers of the last message that was sent, and of the last that
-- was accepted
abbrev pub acknowledgement : Queue → Frame
acknowledgement q = EmptyFrame (last_sent q) (last_accepted q)

-- a line after the near end sent a message
abbrev pub with_sent : Line → Sending → Line
with_sent z sending = record z {
  near = record z.near { queue = after_sending z.near.queue (Some sending) };
  to_far = z.to_far ++ MessageFrame sending.number (last_accepted z.near.queue) sending.message ∷ [];
}

-- a line after User Data came to the near end and said nothing to it
abbrev pub with_frames_left : Line → List Frame → Line
with_frames_left z rest = record z { to_near = rest }

-- a line whose near end heard the far one
abbrev pub with_heard : Line → Line
with_heard z = record z { near = record z.near { heard = true } }

-- a line after the near end accepted the numbers of a frame, of which count are newly confirmed
abbrev pub with_accepted : Line → List Frame → (carries : Bool) → (count : ℕ) → Line
with_accepted z rest carries count = record z {
  near = record z.near { queue = after_answer z.near.queue carries (Ok count) };
  to_near = rest;
}

module _ (read : Reading) (p q : Pair) where
  -- a link status goes out, from an end that is up
  pub record SendsStatus : Type 0 where
    pub link : ℕ
    pub up : (p.line link).near.up ≡ true
    pub lines : ℕ → Line
    pub set : BecomeAt p link (with_status (p.line link)) lines
    pub after : q ≡ record p { line = lines }

  -- the next message of a link in service goes out, within a window
  pub record SendsMessage : Type 0 where
    pub link : ℕ
    pub serving : (p.line link).near.serving ≡ true
    pub window : ℕ
    pub small : window ≤ WINDOW
    pub sending : Sending
    pub next : to_send (p.line link).near.queue window ≡ Some sending
    pub lines : ℕ → Line
    pub set : BecomeAt p link (with_sent (p.line link) sending) lines
    pub after : q ≡ record p { line = lines }

  -- an acknowledgement goes out, from an end that is up
  pub record SendsEmpty : Type 0 where
    pub link : ℕ
    pub up : (p.line link).near.up ≡ true
    pub lines : ℕ → Line
    pub set : BecomeAt p link (with_frame (p.line link) (acknowledgement (p.line link).near.queue)) lines
    pub after : q ≡ record p { line = lines }

  -- an end that is up hears a link status in flight to it: so its alignment goes on
  pub record HearsStatus : Type 0 where
    pub link : ℕ
    pub up : (p.line link).near.up ≡ true
    pub rest : ℕ
    pub some : (p.line link).told_near ≡ suc rest
    pub lines : ℕ → Line
    pub set : BecomeAt p link (with_heard (p.line link)) lines
    pub after : q ≡ record p { line = lines }

  -- a link status is in flight no longer: it came, or was lost
  pub record TakesStatus : Type 0 where
    pub link : ℕ
    pub rest : ℕ
    pub some : (p.line link).told_near ≡ suc rest
    pub lines : ℕ → Line
    pub set : BecomeAt p link (with_statuses_left (p.line link) rest) lines
    pub after : q ≡ record p { line = lines }

  -- a link status in flight becomes two
  pub record DoublesStatus : Type 0 where
    pub link : ℕ
    pub rest : ℕ
    pub some : (p.line link).told_near ≡ suc rest
    pub lines : ℕ → Line
    pub set : BecomeAt p link (with_statuses_left (p.line link) (suc (suc rest))) lines
    pub after : q ≡ record p { line = lines }

  -- User Data comes to an end that is down
  pub record Drops : Type 0 where
    pub link : ℕ
    pub frame : Frame
    pub rest : List Frame
    pub first : (p.line link).to_near ≡ frame ∷ rest
    pub down : (p.line link).near.up ≡ false
    pub lines : ℕ → Line
    pub set : BecomeAt p link (with_frames_left (p.line link) rest) lines
    pub after : q ≡ record p { line = lines }

  -- User Data without a message comes, and its numbers are accepted
  pub record TakesEmpty : Type 0 where
    pub link : ℕ
    pub fsn : ℕ
    pub bsn : ℕ
    pub rest : List Frame
    pub first : (p.line link).to_near ≡ EmptyFrame fsn bsn ∷ rest
    pub up : (p.line link).near.up ≡ true
    pub count : ℕ
    pub accepted : accept_answer (p.line link).near.queue fsn bsn false ≡ Ok count
    pub lines : ℕ → Line
    pub set : BecomeAt p link (with_accepted (p.line link) rest false count) lines
    pub after : q ≡ record p { line = lines }

  -- User Data with a message comes, and its numbers are accepted
  pub record TakesMessage : Type 0 where
    pub link : ℕ
    pub fsn : ℕ
    pub bsn : ℕ
    pub message : Message
    pub rest : List Frame
    pub first : (p.line link).to_near ≡ MessageFrame fsn bsn message ∷ rest
    pub up : (p.line link).near.up ≡ true
    pub count : ℕ
    pub accepted : accept_answer (p.line link).near.queue fsn bsn true ≡ Ok count
    pub lines : ℕ → Line
    pub set : BecomeAt p link (with_accepted (p.line link) rest true count) lines
    pub after : q ≡ record p {
      line = lines;
      near = record p.near { arrived = p.near.arrived ++ message ∷ [] };
    }
