-- The lines so far were written.
use Rattle.std.proofs.Common.{◌≡◌, slice_get}
use Rattle.std.specs.Io.KnownBytes.{Appends}
use Rattle.served_node.specs.Counters.{first_texts, counter_at}
use Rattle.served_node.proofs.console_session.counting.print_each.Given as goal

abbrev pub invariant-loop-k : goal.invariant-loop-k
invariant-loop-k g l = record {
  written : Appends (g.W.Sink.output l.fn.writer).written (g.W.Sink.output l.writer).written (first_texts (λ k. counter_at l.fn.name l.fn.row (slice_get l.counters k)) l.k);
  failures : (g.W.Sink.output l.writer).failures ≡ (g.W.Sink.output l.fn.writer).failures;
}
