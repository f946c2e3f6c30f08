use Rattle.std.proofs.Common.{arith}
use Rattle.lab.proofs.run.take_all.Goals as goal

pub loop-octet-preserved : goal.loop-octet-preserved
loop-octet-preserved g c = record {
  number = omega (arith, c.in_ok-take.ensures.number, c.loop-octet.invariant.number);
  writes = rw (c.in_ok-take.ensures.writes) c.loop-octet.invariant.writes;
}
