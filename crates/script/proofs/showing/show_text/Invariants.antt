-- The lines so far were written.
use Rattle.script.proofs.Basics.{◌≡◌, Appends, kept, line_of, first_lines}
use Rattle.script.proofs.showing.show_text.Given as goal

abbrev pub invariant-loop-k : goal.invariant-loop-k
invariant-loop-k g l = record {
  written : Appends (g.W.Sink.output l.fn.writer).written (g.W.Sink.output l.writer).written (first_lines (line_of kept l.fn.what l.fn.exchange) l.k);
  failures : (g.W.Sink.output l.writer).failures ≡ (g.W.Sink.output l.fn.writer).failures;
}
