-- What is left of the octets so far is in front of what is left of the others.
use Rattle.std.proofs.Common.{◌≡◌, ◌≤◌, ◌++◌, drop, length}
use Rattle.console.specs.Trimming.{single_blanks}
use Rattle.console.proofs.trimming.SpacedLine.of.Given as goal

abbrev pub invariant-loop-k : goal.invariant-loop-k
invariant-loop-k l = record {
  line : l.octets.items ++ single_blanks (drop l.k l.line) ≡ single_blanks l.line;
  room : length l.octets.items ≤ l.k;
}
