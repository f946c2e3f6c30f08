-- The row of a timer, by the settings that the exchange has.
use Rattle.std.proofs.Common.{◌∙◌, ap, slice_get, sym}
use Rattle.settings.specs.declared.settings.Settings.{Settings}
use Rattle.settings.specs.declared.timer_ticks.TimerTicks.{TimerTicks}
use Rattle.console.specs.TimerKeys.{keyed_timers}
use Rattle.served_node.specs.Listings.{entry_of, row_of_timer}
use Rattle.served_node.specs.declared.console_session.listing.Listing.{Listing}
use Rattle.served_node.proofs.console_session.listing.entry_of.Goals as goal

pub returns-in-Timers : goal.returns-in-Timers
returns-in-Timers c =
    c.timer_row.ensures
    ∙ ap (λ (t : TimerTicks). row_of_timer c.args.tick_ms (slice_get (keyed_timers t) c.args.k))
    (c.timers.ensures.value ∙ ap (λ (s : Settings). s.timers) c.settings.ensures.kept_settings)
    ∙ sym (ap (λ (l : Listing). entry_of c.args.points c.args.tick_ms c.args.links.now c.args.counters.now.links c.args.exchange.now l c.args.k) c.in-Timers.is)
