use Rattle.std.proofs.Common.{◌≡◌, ◌+◌, ◌≤◌}
use Rattle.lab.proofs.run.take_all.Given as goal

abbrev pub invariant-loop-octet : goal.invariant-loop-octet
invariant-loop-octet g l = record {
  number : l.line.number ≤ l.fn.line.number + l.octet-index;
  writes : (g.W.Sink.output l.writer).failures ≡ (g.W.Sink.output l.fn.writer).failures;
}
