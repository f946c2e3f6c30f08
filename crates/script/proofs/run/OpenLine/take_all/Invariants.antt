use Rattle.script.proofs.Basics.{◌≡◌, ◌+◌, ◌≤◌, Option, List, Result, ℕ, drop, length, LINE_OCTETS, Kept, LineSoFar, HasTaken, ScriptFault}
use Rattle.script.proofs.run.OpenLine.take_all.Given as goal

abbrev pub invariant-loop-octet : goal.invariant-loop-octet
invariant-loop-octet g l = record {
  number : l.self.number ≤ l.fn.self.number + l.octet-index;
  short : length l.self.octets ≤ LINE_OCTETS;
  writes : (g.W.Sink.output l.writer).failures ≡ (g.W.Sink.output l.fn.writer).failures;
  run : (end : Result Unit ScriptFault) (next : LineSoFar) (after : Kept) (written : Option (List ℕ))
      → HasTaken (drop l.octet-index l.octets) end l.self next l.exchange after (g.W.Sink.output l.writer).written written
      → HasTaken l.octets end l.fn.self next l.fn.exchange after (g.W.Sink.output l.fn.writer).written written;
}
