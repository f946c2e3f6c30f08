use Rattle.timers.proofs.Basics.{refl, sym, ap, ◌∙◌, Some, is_running, table_in}
use Rattle.timers.proofs.Calls.{place_fits, running_at, running_nowhere}
use Rattle.timers.proofs.timers.Timers.is_running.Goals as goal

pub is_running-requires : goal.is_running-requires
is_running-requires c = place_fits c.in-Some.place c.args.name (table_in c.self.inside) c.self.invariant.whole (sym c.in-Some.is ∙ c.place_of.ensures.place)

pub returns-in-Some : goal.returns-in-Some
returns-in-Some c =
    c.is_running.ensures
    ∙ running_at (Some c.in-Some.place) c.args.name (table_in c.self.inside) (sym c.in-Some.is ∙ c.place_of.ensures.place) c.in-Some.place refl
    ∙ ap (λ r. is_running c.args.name r) c.self.view_is

pub returns-in-None : goal.returns-in-None
returns-in-None c = running_nowhere c.args.name (table_in c.self.inside) (sym c.place_of.ensures.place ∙ c.in-None.is) ∙ ap (λ r. is_running c.args.name r) c.self.view_is
