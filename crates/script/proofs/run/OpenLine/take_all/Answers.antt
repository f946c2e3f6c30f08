use Rattle.script.proofs.Basics.{◌≡◌, Ok, Err, arith, ap, ◌∙◌, err_from_is_err_and, ScriptFault}
use Rattle.script.proofs.Taken.{taken-at, broken-at, end-at}
use Rattle.script.proofs.run.OpenLine.take_all.Goals as goal

pub loop-octet-preserved : goal.loop-octet-preserved
loop-octet-preserved g c = record {
  number = omega (arith, c.in_ok-take.ensures.number, c.loop-octet.invariant.number);
  short = c.in_ok-take.ensures.short;
  writes = rw (c.in_ok-take.ensures.writes) c.loop-octet.invariant.writes;
  run = λ end next after written taken.
      c.loop-octet.invariant.run end next after written
      (taken-at c.args.octets.now c.loop-octet.octet-index end c.loop-octet.self c.take.new.self next c.loop-octet.exchange c.take.new.exchange after
      (g.W.Sink.output c.loop-octet.writer).written (g.W.Sink.output c.take.new.writer).written written c.loop-octet-test.true c.in_ok-take.ensures.run taken);
}

pub returns-clause-run : goal.returns-clause-run
returns-clause-run g c =
    c.loop-octet.invariant.run (Ok tt) c.loop-octet.self c.loop-octet.exchange (g.W.Sink.output c.loop-octet.writer).written
    (end-at c.args.octets.now c.loop-octet.octet-index c.loop-octet.self c.loop-octet.exchange (g.W.Sink.output c.loop-octet.writer).written c.loop-octet-test.false)

pub returns-in_err-take-clause-run : goal.returns-in_err-take-clause-run
returns-in_err-take-clause-run g c =
    let fault = c.in_err-take.field-0.0 in
    let q = err_from_is_err_and c.from_residual.result c.from_residual.ensures.1 in
    let e : c.from_residual.result ≡ Err fault = q.1 ∙ ap (λ (f : ScriptFault). Err f) q.2 in
    rw e (c.loop-octet.invariant.run (Err fault) c.take.new.self c.take.new.exchange (g.W.Sink.output c.take.new.writer).written
    (broken-at c.args.octets.now c.loop-octet.octet-index fault c.loop-octet.self c.take.new.self c.take.new.self c.loop-octet.exchange c.take.new.exchange
    (g.W.Sink.output c.loop-octet.writer).written (g.W.Sink.output c.take.new.writer).written c.loop-octet-test.true c.in_err-take.ensures.run))
