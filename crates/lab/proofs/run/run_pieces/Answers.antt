use Rattle.std.proofs.Common.{◌≤◌, ◌<◌, ◌+◌, ◌∙◌, sym, refl, arith, take, length}
use Rattle.std.proofs.lemmas.Grind.{common_steps}
use Rattle.script.proofs.Running.{line-reads-failed, line-reads-made}
use Rattle.lab.proofs.Reading.{reads-nothing, reads-more, reads-all, line-reads-on, line-in-script, when-ok}
use Rattle.lab.proofs.run.run_pieces.Goals as goal

pub loop-init : goal.loop-init
loop-init g c = record {
  number = rw (c.first-line.ensures) (omega arith);
  most = omega arith;
  least = omega arith;
  reads = refl;
  many = reads-nothing (g.R.Source.input c.args.reader.now).remaining;
  writes = refl;
}

pub returns-then-count-eq0-clause-reads : goal.returns-then-count-eq0-clause-reads
returns-then-count-eq0-clause-reads g c =
    c.in_ok-count.ensures.counted ∙ c.loop.invariant.reads ∙ sym (line-reads-failed c.end.result _ c.end.ensures.fault)

pub returns-then-count-eq0-clause-bounded : goal.returns-then-count-eq0-clause-bounded
returns-then-count-eq0-clause-bounded g c =
    line-reads-made c.end.result _ _ c.end.ensures.fault
    (let m = c.in_ok-count.ensures.made in omega (arith, m, c.loop.invariant.most, c.loop-test.true))

pub returns-then-count-eq0-clause-end : goal.returns-then-count-eq0-clause-end
returns-then-count-eq0-clause-end g c =
    let room : 0 < length c.read.new.buffer = grind (arith, common_steps) in
    when-ok c.end.result (c.in_ok-count.ensures.octets.1 c.if-count-eq0.true room)

pub returns-then-count-eq0-clause-many : goal.returns-then-count-eq0-clause-many
returns-then-count-eq0-clause-many g c = line-reads-on c.end.result _ _ c.end.ensures.fault

pub returns-then-count-eq0-clause-begun : goal.returns-then-count-eq0-clause-begun
returns-then-count-eq0-clause-begun g c = line-in-script c.end.result c.end.ensures.fault

pub returns-clause-many : goal.returns-clause-many
returns-clause-many g c = reads-all c.loop.counter _ _ (omega (arith, c.loop-test.false)) c.loop.invariant.many

pub loop-preserved : goal.loop-preserved
loop-preserved g c = record {
  number = grind (arith, common_steps);
  most = let m = c.in_ok-count.ensures.made in omega (arith, m, c.loop.invariant.most);
  least = let m = c.in_ok-count.ensures.made in omega (arith, m, c.loop.invariant.least);
  reads = c.in_ok-count.ensures.counted ∙ c.loop.invariant.reads;
  many = let some : c.loop.counter + 1 ≤ c.loop.counter + length (take c.in_ok-count.count c.read.new.buffer) = grind (arith, common_steps) in
      reads-more c.loop.counter (c.loop.counter + 1) (g.R.Source.input c.args.reader.now).remaining (g.R.Source.input c.loop.reader).remaining
      (g.R.Source.input c.read.new.self).remaining (take c.in_ok-count.count c.read.new.buffer) some c.loop.invariant.many c.in_ok-count.ensures.octets.0;
  writes = c.in_ok-take_all.ensures.writes ∙ c.loop.invariant.writes;
}
