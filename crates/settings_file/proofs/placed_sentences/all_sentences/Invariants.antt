use Rattle.settings_file.proofs.Basics.{string_bytes}
use Rattle.settings_file.specs.PlacedSentences.{IsSentence}
use Rattle.settings_file.proofs.Placed.{Continues}
use Rattle.settings_file.proofs.placed_sentences.all_sentences.Given as goal

abbrev pub invariant-loop-i : goal.invariant-loop-i
invariant-loop-i l = Continues (IsSentence l.file l.text) l.faults l.i (string_bytes l.sentences)
