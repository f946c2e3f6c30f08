-- What the table leaves by a tick is what the rule leaves.
use Rattle.exchange.proofs.Basics.{sym, ap, ◌∙◌, Kept}
use Rattle.exchange_rules.specs.Messages.{sst_ticks}
use Rattle.exchange.specs.Room.{kept_in}
use Rattle.exchange.proofs.SubsystemTests.{own-here, ticked-left}
use Rattle.exchange.proofs.exchange.Exchange.count_subsystems.Goals as goal

pub returns : goal.returns
returns c = rw (← c.self.view_is)
    (ticked-left (kept_in c.self.inside) _ _ _ (c.own_in.ensures ∙ own-here c.self.inside.settings c.self.inside.links c.self.invariant.sets)
    (c.sst_ticks-sst.ensures ∙ ap (λ (s : Kept). sst_ticks s.settings) (sym c.self.view_is)) c.tick.ensures)
