use Rattle.toml.specs.View.{view, table_view}
use Rattle.settings_file.specs.AllServeFaults.{listener_checks, sctp_keys_checks, from_checks}
unfoldable use Rattle.settings_file.specs.AllServeFaults.{listen_checks}
use Rattle.settings_file.proofs.Noting.{three_noted}
use Rattle.settings_file.proofs.serve.faults.links.note_listen.Goals as goal

pub returns : goal.returns
unfolding listen_checks
returns c = λ s.
    let t = table_view c.args.link.now in
    rw (c.in_ok-note_from.ensures s, c.in_ok-note_sctp_keys.ensures, c.in_ok-note_listener.ensures s)
    (three_noted c.args.faults.now.items (listener_checks s c.args.i t (view c.args.value.now)) (sctp_keys_checks c.args.i t) (from_checks s c.args.i t))
