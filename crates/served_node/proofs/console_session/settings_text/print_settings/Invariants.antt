-- The parts so far were written.
use Rattle.std.proofs.Common.{◌≡◌}
use Rattle.std.specs.Io.KnownBytes.{Appends}
use Rattle.std.specs.Prelude.{slice_get}
use Rattle.console.specs.declared.settings_part.TheConstants.{SETTINGS_PARTS}
use Rattle.served_node.specs.Listings.{part_text}
use Rattle.served_node.specs.Counters.{first_texts}
use Rattle.served_node.proofs.console_session.settings_text.print_settings.Given as goal

abbrev pub invariant-loop-k : goal.invariant-loop-k
invariant-loop-k g l = record {
  written :
      Appends (g.W.Sink.output l.fn.writer).written (g.W.Sink.output l.writer).written
      (first_texts (λ k. part_text l.fn.points l.fn.exchange (slice_get SETTINGS_PARTS.now k)) l.k);
  failures : (g.W.Sink.output l.writer).failures ≡ (g.W.Sink.output l.fn.writer).failures;
}
