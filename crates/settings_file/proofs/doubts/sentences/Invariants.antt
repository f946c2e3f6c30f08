use Rattle.settings_file.proofs.Basics.{string_bytes}
use Rattle.settings_file.specs.Sentences.{IsAbout}
use Rattle.settings_file.proofs.Placed.{Continues}
use Rattle.settings_file.proofs.doubts.sentences.Given as goal

abbrev pub invariant-loop-i : goal.invariant-loop-i
invariant-loop-i l = Continues (IsAbout l.file) l.doubts l.i (string_bytes l.text)
