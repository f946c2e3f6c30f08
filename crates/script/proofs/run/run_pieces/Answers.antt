use Rattle.script.proofs.Basics.{◌≡◌, ◌<◌, ◌≤◌, ◌+◌, ◌∙◌, ap, sym, [], Err, arith, take, refl, length, err_from_is_err_and, ScriptFault, Read}
use Rattle.std.proofs.lemmas.Grind.{common_steps}
use Rattle.script.proofs.Running.{no-progress, more-progress, at-end, at-fault, at-failed-read, at-last-read, end-reads-failed, end-reads-made}
use Rattle.script.proofs.run.run_pieces.Goals as goal

pub loop-init : goal.loop-init
loop-init g c = record {
  number = rw (c.requires) (omega arith);
  most = omega arith;
  least = omega arith;
  reads = refl;
  writes = refl;
  short = rw (c.requires) (omega arith);
  run = rw (c.requires) (no-progress c.args.exchange.now (g.R.Source.input c.args.reader.now).remaining (g.W.Sink.output c.args.writer.now).written);
}

pub returns-in_err-count-clause-run : goal.returns-in_err-count-clause-run
returns-in_err-count-clause-run g c =
    let q = err_from_is_err_and c.from_residual.result c.from_residual.ensures.1 in
    let e : c.from_residual.result ≡ Err Read = q.1 ∙ ap (λ (f : ScriptFault). Err f) q.2 in
    rw e (at-failed-read c.loop.counter c.args.exchange.now c.loop.exchange
    (g.R.Source.input c.args.reader.now).remaining (g.R.Source.input c.loop.reader).remaining (g.R.Source.input c.read.new.self).remaining
    (g.W.Sink.output c.args.writer.now).written (g.W.Sink.output c.loop.writer).written c.loop.line c.loop.invariant.short c.loop.invariant.run c.in_err-count.ensures.octets)

pub returns-then-count-eq0-clause-reads : goal.returns-then-count-eq0-clause-reads
returns-then-count-eq0-clause-reads g c =
    c.in_ok-count.ensures.counted ∙ c.loop.invariant.reads
    ∙ sym (end-reads-failed _ c.end.result c.loop.exchange _ _ (g.R.Source.input c.args.reader.now).failures (c.end.ensures.run c.loop.exchange))

pub returns-then-count-eq0-clause-bounded : goal.returns-then-count-eq0-clause-bounded
returns-then-count-eq0-clause-bounded g c =
    end-reads-made _ c.end.result c.loop.exchange _ _ (g.R.Source.input c.args.reader.now).reads (g.R.Source.input c.read.new.self).reads (c.end.ensures.run c.loop.exchange)
    (let m = c.in_ok-count.ensures.made in omega (arith, m, c.loop.invariant.most, c.loop-test.true))

pub returns-then-count-eq0-clause-run : goal.returns-then-count-eq0-clause-run
returns-then-count-eq0-clause-run g c =
    let none : take c.in_ok-count.count c.read.new.buffer ≡ [] = rw c.if-count-eq0.true refl in
    let room : 0 < length c.read.new.buffer = grind (arith, common_steps) in
    at-end c.loop.counter c.args.exchange.now c.loop.exchange
    (g.R.Source.input c.args.reader.now).remaining (g.R.Source.input c.loop.reader).remaining (g.R.Source.input c.read.new.self).remaining
    (g.W.Sink.output c.args.writer.now).written (g.W.Sink.output c.loop.writer).written (g.W.Sink.output c.end.new.writer).written c.loop.line c.end.result
    (take c.in_ok-count.count c.read.new.buffer) c.loop.invariant.short c.loop.invariant.run none c.in_ok-count.ensures.octets.0 (c.in_ok-count.ensures.octets.1 c.if-count-eq0.true room)
    (c.end.ensures.run c.loop.exchange)

pub returns-in_err-take_all-clause-run : goal.returns-in_err-take_all-clause-run
returns-in_err-take_all-clause-run g c =
    let fault = c.in_err-take_all.field-0.0 in
    let q = err_from_is_err_and c.from_residual-in_err-take_all.result c.from_residual-in_err-take_all.ensures.1 in
    let e : c.from_residual-in_err-take_all.result ≡ Err fault = q.1 ∙ ap (λ (f : ScriptFault). Err f) q.2 in
    rw e (at-fault c.loop.counter c.args.exchange.now c.loop.exchange c.take_all.new.exchange
    (g.R.Source.input c.args.reader.now).remaining (g.R.Source.input c.loop.reader).remaining (g.R.Source.input c.read.new.self).remaining
    (g.W.Sink.output c.args.writer.now).written (g.W.Sink.output c.loop.writer).written (g.W.Sink.output c.take_all.new.writer).written c.loop.line c.take_all.new.self
    fault (take c.in_ok-count.count c.read.new.buffer) c.loop.invariant.run c.in_ok-count.ensures.octets.0 c.in_err-take_all.ensures.run)

pub loop-preserved : goal.loop-preserved
loop-preserved g c = record {
  number = grind (arith, common_steps);
  most = let m = c.in_ok-count.ensures.made in omega (arith, m, c.loop.invariant.most);
  least = let m = c.in_ok-count.ensures.made in omega (arith, m, c.loop.invariant.least);
  reads = c.in_ok-count.ensures.counted ∙ c.loop.invariant.reads;
  writes = c.in_ok-take_all.ensures.writes ∙ c.loop.invariant.writes;
  short = c.in_ok-take_all.ensures.short;
  run = let some : c.loop.counter + 1 ≤ c.loop.counter + length (take c.in_ok-count.count c.read.new.buffer) = grind (arith, common_steps) in
      more-progress c.loop.counter (c.loop.counter + 1) c.args.exchange.now c.loop.exchange c.take_all.new.exchange
      (g.R.Source.input c.args.reader.now).remaining (g.R.Source.input c.loop.reader).remaining (g.R.Source.input c.read.new.self).remaining
      (g.W.Sink.output c.args.writer.now).written (g.W.Sink.output c.loop.writer).written (g.W.Sink.output c.take_all.new.writer).written c.loop.line c.take_all.new.self
      (take c.in_ok-count.count c.read.new.buffer) some c.loop.invariant.run c.in_ok-count.ensures.octets.0 c.in_ok-take_all.ensures.run;
}

pub returns-clause-run : goal.returns-clause-run
returns-clause-run g c =
    at-last-read c.loop.counter c.args.exchange.now c.loop.exchange (g.R.Source.input c.args.reader.now).remaining (g.R.Source.input c.loop.reader).remaining
    (g.W.Sink.output c.args.writer.now).written (g.W.Sink.output c.loop.writer).written c.loop.line c.loop.invariant.short (omega (arith, c.loop-test.false)) c.loop.invariant.run
