-- The lines of the links so far were written.
use Rattle.std.proofs.Common.{◌≡◌}
use Rattle.std.specs.Io.KnownBytes.{Appends}
use Rattle.console.specs.Names.{name_in}
use Rattle.served_node.specs.Counters.{first_texts}
use Rattle.served_node.specs.Captured.{captured_line, is_captured}
use Rattle.served_node.proofs.console_session.capturing.print_links.Given as goal

abbrev pub invariant-loop-k : goal.invariant-loop-k
invariant-loop-k g l = record {
  written :
      Appends (g.W.Sink.output l.fn.writer).written (g.W.Sink.output l.writer).written
      (first_texts (λ k. captured_line (name_in l.fn.exchange.settings k) (is_captured k l.fn.captured)) l.k);
  failures : (g.W.Sink.output l.writer).failures ≡ (g.W.Sink.output l.fn.writer).failures;
}
