use Rattle.script.proofs.Basics.{◌≡◌, ◌∙◌, ap, subst, Err, Ok, err_from_is_err_and, Plain, parsed_line, Does, stopped, LineSoFar, DoesLine, ScriptFault}
use Rattle.script.proofs.OneOctet.{grown-kept, grown-too_long, grown-done, grown-broken}
use Rattle.script.proofs.run.OpenLine.take.Goals as goal

pub returns-in-Open-clause-run : goal.returns-in-Open-clause-run
returns-in-Open-clause-run g c = grown-kept c.args.octet c.args.self.now c.add.new.self c.args.exchange.now _ c.in-Open.ensures.line

pub returns-in-TooLong-clause-run : goal.returns-in-TooLong-clause-run
returns-in-TooLong-clause-run g c =
    let s = c.args.exchange.now in
    let w0 = (g.W.Sink.output c.args.writer.now).written in
    let w1 = (g.W.Sink.output c.fail.new.writer).written in
    grown-too_long c.args.octet c.args.self.now c.add.new.self s c.fail.result w0 w1 c.in-TooLong.ensures.line c.add.ensures.short
    (subst (λ (l : LineSoFar). Does (stopped l.number s) c.fail.result s w0 w1) c.self.view_is (c.fail.ensures.run s))

pub returns-in_err-do_line-in-Whole-clause-run : goal.returns-in_err-do_line-in-Whole-clause-run
returns-in_err-do_line-in-Whole-clause-run g c =
    let fault = c.in_err-do_line-in-Whole.field-0.0 in
    let q = err_from_is_err_and c.from_residual.result c.from_residual.ensures.1 in
    let e : c.from_residual.result ≡ Err fault = q.1 ∙ ap (λ (f : ScriptFault). Err f) q.2 in
    let s = c.args.exchange.now in
    let w0 = (g.W.Sink.output c.args.writer.now).written in
    let w1 = (g.W.Sink.output c.do_line.new.writer).written in
    rw e (grown-broken c.args.octet c.args.self.now c.add.new.self c.octets.result.now s c.do_line.new.exchange fault w0 w1
    c.in-Whole.ensures.line c.add.ensures.short c.octets.ensures.octets
    (subst (λ (l : LineSoFar). DoesLine l.number (parsed_line Plain c.octets.result.now) s (Err fault) c.do_line.new.exchange w0 w1) c.self-in-Whole.view_is
    c.in_err-do_line-in-Whole.ensures.run))

pub returns-in_ok-do_line-in-Whole-clause-run : goal.returns-in_ok-do_line-in-Whole-clause-run
returns-in_ok-do_line-in-Whole-clause-run g c =
    let s = c.args.exchange.now in
    let w0 = (g.W.Sink.output c.args.writer.now).written in
    let w1 = (g.W.Sink.output c.do_line.new.writer).written in
    rw c.begin_next.ensures (grown-done c.args.octet c.args.self.now c.add.new.self c.octets.result.now s c.do_line.new.exchange tt w0 w1
    c.in-Whole.ensures.line c.add.ensures.short c.octets.ensures.octets
    (subst (λ (l : LineSoFar). DoesLine l.number (parsed_line Plain c.octets.result.now) s (Ok tt) c.do_line.new.exchange w0 w1) c.self-in-Whole.view_is
    c.in_ok-do_line-in-Whole.ensures.run))
