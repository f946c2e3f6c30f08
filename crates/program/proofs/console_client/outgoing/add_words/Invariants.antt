-- The remaining words add to the line so far what all add.
use Rattle.std.proofs.Common.{◌≡◌, drop}
use Rattle.program.specs.ConsoleLines.{with_words}
use Rattle.program.proofs.console_client.outgoing.add_words.Given as goal

abbrev pub invariant-loop-word : goal.invariant-loop-word
invariant-loop-word l = with_words (drop l.word-index l.words) l.line.items ≡ with_words l.words l.fn.line.items
