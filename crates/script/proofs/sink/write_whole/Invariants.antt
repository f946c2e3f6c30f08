use Rattle.script.proofs.Basics.{length, ◌-◌, ◌≤◌, take, Appends}
use Rattle.script.proofs.sink.write_whole.Given as goal

abbrev pub invariant-loop-start : goal.invariant-loop-start
invariant-loop-start g l = record {
  within : l.start ≤ length l.octets;
  written : Appends (g.W.Write.contents l.fn.writer) (g.W.Write.contents l.writer) (take l.start l.octets);
}

abbrev pub decreases-loop-start : goal.decreases-loop-start
decreases-loop-start g l = length l.octets - l.start
