use Rattle.settings_file.proofs.Basics.{Bool, ap, ◌∙◌, subst}
use Rattle.std.specs.Option.{option_map}
use Rattle.toml.specs.View.{table_view}
use Rattle.settings_file.specs.AllServeFaults.{open_or_unread}
unfoldable use Rattle.settings_file.specs.AllServeFaults.{console_read}
use Rattle.settings_file.specs.Consoles.{place_of}
unfoldable use Rattle.settings_file.specs.Consoles.{console_at}
use Rattle.settings_file.specs.Faults.{Answers}
use Rattle.settings_file.proofs.serve.faults.table.console_read.Goals as goal

pub returns : goal.returns
unfolding console_read
returns c = λ s.
    subst (λ (opened : Bool). Answers (λ console. option_map place_of console) (console_at s opened (table_view c.args.serve.now)) c.console.result)
    (c.open_or_unread.ensures ∙ ap open_or_unread c.console_open.ensures) (c.console.ensures s)
