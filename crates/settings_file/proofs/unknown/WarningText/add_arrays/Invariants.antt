use Rattle.settings_file.proofs.Basics.{GoesOn}
use Rattle.settings_file.proofs.unknown.WarningText.add_arrays.Given as goal

abbrev pub invariant-loop-array : goal.invariant-loop-array
invariant-loop-array l = GoesOn l.fn.self l.self
