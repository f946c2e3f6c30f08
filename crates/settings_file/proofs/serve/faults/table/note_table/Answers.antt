use Rattle.toml.specs.View.{table_view}
use Rattle.settings_file.specs.AllServeFaults.{ring_checks}
unfoldable use Rattle.settings_file.specs.AllServeFaults.{leading_checks, shown_checks, sctp_checks, page_checks, log_checks, table_checks}
use Rattle.settings_file.proofs.Noting.{six_noted}
use Rattle.settings_file.proofs.serve.faults.table.note_table.Goals as goal

pub returns : goal.returns
unfolding table_checks
returns c = λ s.
    let t = table_view c.args.serve.now in
    rw (c.in_ok-note_log.ensures, c.in_ok-note_page.ensures s, c.in_ok-note_sctp.ensures, c.in_ok-note_shown.ensures s, c.in_ok-note_ring.ensures, c.in_ok-note_leading.ensures s)
    (six_noted c.args.faults.now.items (leading_checks s t) (ring_checks t) (shown_checks s t) (sctp_checks t) (page_checks s t) (log_checks t))
