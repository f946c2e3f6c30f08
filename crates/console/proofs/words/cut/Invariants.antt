use Rattle.std.proofs.Common.{◌≡◌, take, drop}
use Rattle.console.specs.Words.{words, begun}
use Rattle.console.proofs.words.cut.Given as goal

abbrev pub invariant-loop-at : goal.invariant-loop-at
invariant-loop-at l = words l.text ≡ begun (take l.at l.text) (words (drop l.at l.text))
