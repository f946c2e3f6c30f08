-- The counters of the links so far were written.
use Rattle.std.proofs.Common.{◌≡◌, slice_get}
use Rattle.std.specs.Io.KnownBytes.{Appends}
use Rattle.console.specs.Names.{name_in}
use Rattle.served_node.specs.Counters.{first_texts, row_text}
use Rattle.served_node.proofs.console_session.counting.print_rows.Given as goal

abbrev pub invariant-loop-k : goal.invariant-loop-k
invariant-loop-k g l = record {
  written :
      Appends (g.W.Sink.output l.fn.writer).written (g.W.Sink.output l.writer).written
      (first_texts (λ k. row_text (name_in l.fn.exchange.settings k) (slice_get l.fn.counters.links k)) l.k);
  failures : (g.W.Sink.output l.writer).failures ≡ (g.W.Sink.output l.fn.writer).failures;
}
