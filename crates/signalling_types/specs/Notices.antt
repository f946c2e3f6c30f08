-- The faults of frames and the reasons of failures, as texts print them.
use Rattle.std.specs.Prelude.{ℕ, List, codes}
use Rattle.signalling_types.specs.declared.notice.FrameFault.{FrameFault}
use Rattle.signalling_types.specs.declared.notice.FrameFault.TheVariants.{Short, Length, Version, Unknown}
use Rattle.signalling_types.specs.declared.notice.FailureReason.{FailureReason}
use Rattle.signalling_types.specs.declared.notice.FailureReason.TheVariants.{Association, Timer, Sequence, Status}
use Rattle.signalling_types.specs.declared.notice.FailureReason.TheVariants.{Length as WrongLength, Changeover}
use Rattle.signalling_types.specs.declared.notice.FailureReason.TheVariants.{Operator, Test}

abbrev pub frame_fault_number : FrameFault → ℕ
frame_fault_number Short = 1
frame_fault_number Length = 2
frame_fault_number Version = 3
frame_fault_number Unknown = 4

abbrev pub frame_fault_name : FrameFault → List ℕ
frame_fault_name Short = codes "Short"
frame_fault_name Length = codes "Length"
frame_fault_name Version = codes "Version"
frame_fault_name Unknown = codes "Unknown"

-- the name of the reason why a link failed
abbrev pub failure_name : FailureReason → List ℕ
failure_name Association = codes "association"
failure_name Timer = codes "timer"
failure_name Sequence = codes "sequence"
failure_name Status = codes "status"
failure_name WrongLength = codes "length"
failure_name Changeover = codes "changeover"
failure_name Operator = codes "operator"
failure_name Test = codes "test"
