use Rattle.settings_file.proofs.Basics.{GoesOn}
use Rattle.settings_file.proofs.unknown.WarningText.add_entries.Given as goal

abbrev pub invariant-loop-i : goal.invariant-loop-i
invariant-loop-i l = GoesOn l.fn.self l.self
