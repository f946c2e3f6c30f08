-- The entries so far were written.
use Rattle.std.proofs.Common.{◌≡◌}
use Rattle.std.specs.Io.KnownBytes.{Appends}
use Rattle.served_node.specs.Listings.{entry_of, length_of}
use Rattle.served_node.specs.Counters.{first_texts}
use Rattle.served_node.proofs.console_session.listing.print_entries.Given as goal

abbrev pub invariant-loop-k : goal.invariant-loop-k
invariant-loop-k g l = record {
  written :
      Appends (g.W.Sink.output l.fn.writer).written (g.W.Sink.output l.writer).written
      (first_texts (entry_of l.fn.points l.fn.tick_ms l.fn.links l.fn.counters.links l.fn.exchange l.fn.listing) l.k);
  failures : (g.W.Sink.output l.writer).failures ≡ (g.W.Sink.output l.fn.writer).failures;
}
