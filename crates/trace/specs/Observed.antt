-- What the octets of a frame that passed say.
use Rattle.std.specs.Prelude.{ℕ, ◌≤◌, List, length, Option, None, Some, Result, Ok, Err, IfOk}
use Rattle.signalling_types.specs.Message.{Message}
use Rattle.signalling_types.specs.declared.notice.FrameFault.{FrameFault}
use Rattle.m2pa_codec.specs.declared.frame.Frame.{Frame}
use Rattle.m2pa_codec.specs.Frames.{FrameValue, EmptyFrame, MessageFrame, StatusFrame, sif_of, read_frame}
use Rattle.m2pa_codec.specs.Values.{value_of, Answers}

-- this is what the octets say as a frame, or their first fault
pub record Says (octets : List ℕ) (said : Result Frame FrameFault) : Type 0 where
  pub exact : Answers said (read_frame octets)
  pub field : IfOk said (λ frame. length (sif_of (value_of frame)) ≤ length octets)

-- the message of a frame that was read, if it has one
abbrev pub message_said : Result FrameValue FrameFault → Option Message
message_said (Ok (EmptyFrame bsn fsn)) = None
message_said (Ok (MessageFrame bsn fsn sio sif)) = Some (record { sio = sio; sif = sif })
message_said (Ok (StatusFrame bsn fsn status)) = None
message_said (Err fault) = None

-- the message that octets have as a frame
abbrev pub message_in : List ℕ → Option Message
message_in octets = message_said (read_frame octets)
