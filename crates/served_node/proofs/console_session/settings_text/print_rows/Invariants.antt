-- The rows of the entries so far were written.
use Rattle.std.proofs.Common.{◌≡◌}
use Rattle.std.specs.Io.KnownBytes.{Appends}
use Rattle.console.specs.SettingsTexts.{entries_of, rows_of}
use Rattle.served_node.specs.Counters.{first_texts}
use Rattle.served_node.proofs.console_session.settings_text.print_rows.Given as goal

abbrev pub invariant-loop-k : goal.invariant-loop-k
invariant-loop-k g l = record {
  written :
      Appends (g.W.Sink.output l.fn.writer).written (g.W.Sink.output l.writer).written
      (first_texts (rows_of l.fn.points l.fn.exchange l.fn.part) l.k);
  failures : (g.W.Sink.output l.writer).failures ≡ (g.W.Sink.output l.fn.writer).failures;
}
