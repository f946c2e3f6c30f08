-- What a frame of the code says, without where its octets lie.
use Rattle.std.specs.Prelude.{◌≡◌, Result, Ok, Err}
use Rattle.signalling_types.specs.declared.notice.FrameFault.{FrameFault}
use Rattle.m2pa_codec.specs.declared.frame.Frame.{Frame}
use Rattle.m2pa_codec.specs.declared.frame.Frame.TheVariants.{Empty, Message, Status}
use Rattle.m2pa_codec.specs.Frames.{FrameValue, EmptyFrame, MessageFrame, StatusFrame}

abbrev pub value_of : Frame → FrameValue
value_of (Empty bsn fsn) = EmptyFrame bsn fsn
value_of (Message bsn fsn sio sif) = MessageFrame bsn fsn sio sif.now
value_of (Status bsn fsn status) = StatusFrame bsn fsn status

-- the answer of the code, its frame seen as a value, is what reading gives
abbrev pub Answers : Result Frame FrameFault → Result FrameValue FrameFault → Type 0
Answers (Ok frame) read = read ≡ Ok (value_of frame)
Answers (Err fault) read = read ≡ Err fault
