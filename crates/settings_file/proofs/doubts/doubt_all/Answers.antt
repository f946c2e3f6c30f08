use Rattle.toml.specs.View.{table_view}
use Rattle.settings_file.specs.Doubts.{each_key, timers_of, doubtful_share, doubtful_title}
use Rattle.settings_file.proofs.Doubting.{three_behind}
use Rattle.settings_file.proofs.doubts.doubt_all.Goals as goal

pub returns : goal.returns
returns c =
    let settings = c.args.settings.now in
    rw (c.in_ok-doubt_titles.ensures, c.in_ok-doubt_shares.ensures, c.in_ok-doubt_server_timers.ensures) (
    three_behind c.args.doubts.now.items (timers_of (table_view c.args.document.now) settings.timers) (each_key (doubtful_share settings.pool) 0 settings.links)
    (each_key (doubtful_title settings) 0 settings.titles)
    )
