-- What becomes of it on what is kept is what becomes of it.
use Rattle.std.proofs.Common.{List, sym, subst, ◌∙◌}
use Rattle.network_rules.specs.Outside.{OpensOutside, after_move}
use Rattle.network_world.specs.KeptNodes.{KeptNode}
use Rattle.network_world.specs.NetworkStands.{NetworkStandsFor}
use Rattle.network_world.specs.NetworkAnew.{since}
use Rattle.network_world.proofs.LeadingOut.{opens-still}
use Rattle.network_world.proofs.Runs.{runs-kept}
use Rattle.network_world.proofs.OutsideTurns.{open-outcome, open-stands}
use Rattle.network_world.proofs.network.Network.open_outside.Goals as goal

pub returns-clause-outcome : goal.returns-clause-outcome
returns-clause-outcome c = λ w s. c.opened.ensures.outcome ∙ open-outcome c.args.self.now w s c.args.at c.args.link

pub returns-clause-state : goal.returns-clause-state
returns-clause-state c = λ w s.
    subst (λ (k : List KeptNode). NetworkStandsFor k (after_move (OpensOutside c.args.at c.args.link) w)) (sym c.opened.ensures.state)
    (open-stands c.args.self.now w s c.args.at c.args.link)

pub returns-clause-since : goal.returns-clause-since
returns-clause-since c = λ from changes s within.
    c.opened.ensures.state ∙ opens-still c.args.self.now (since from changes) (runs-kept c.args.self.now from changes s) c.args.at c.args.link within
