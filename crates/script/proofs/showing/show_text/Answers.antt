-- A line was written in part, after those before it.
use Rattle.script.proofs.Basics.{arith, kept, line_of, most_lines}
use Rattle.script.proofs.Shown.{lines-broken, on-error}
use Rattle.script.proofs.showing.show_text.Goals as goal

pub returns-in_err-show_line-clause-first : goal.returns-in_err-show_line-clause-first
returns-in_err-show_line-clause-first g c =
    on-error _ c.from_residual.result
    (lines-broken (line_of kept c.args.what c.args.exchange.now) c.loop-k.k (most_lines c.args.what c.args.exchange.now)
    (g.W.Sink.output c.args.writer.now).written (g.W.Sink.output c.loop-k.writer).written (g.W.Sink.output c.show_line.new.writer).written
    (omega (arith, c.loop-k-test.true, c.most_lines-k-end.ensures)) c.loop-k.invariant.written c.in_err-show_line.ensures.first)
