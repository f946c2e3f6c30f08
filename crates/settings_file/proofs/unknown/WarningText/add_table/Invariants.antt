use Rattle.settings_file.proofs.Basics.{GoesOn}
use Rattle.settings_file.proofs.unknown.WarningText.add_table.Given as goal

abbrev pub invariant-loop-key : goal.invariant-loop-key
invariant-loop-key l = GoesOn l.fn.self l.self
