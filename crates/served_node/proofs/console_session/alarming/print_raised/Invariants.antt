-- The rows of the places so far were written.
use Rattle.std.proofs.Common.{◌≡◌}
use Rattle.std.specs.Io.KnownBytes.{Appends}
use Rattle.served_node.specs.Alarmed.{row_at}
use Rattle.served_node.specs.Counters.{first_texts}
use Rattle.served_node.proofs.console_session.alarming.print_raised.Given as goal

abbrev pub invariant-loop-place : goal.invariant-loop-place
invariant-loop-place g l = record {
  written :
      Appends (g.W.Sink.output l.fn.writer).written (g.W.Sink.output l.writer).written
      (first_texts (row_at l.fn.points l.fn.exchange.settings l.fn.alarms) l.place);
  failures : (g.W.Sink.output l.writer).failures ≡ (g.W.Sink.output l.fn.writer).failures;
}
