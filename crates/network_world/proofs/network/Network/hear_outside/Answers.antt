-- What becomes of it on what is kept is what becomes of it.
use Rattle.std.proofs.Common.{List, sym, subst, ◌∙◌}
use Rattle.std.proofs.lemmas.Result.{IfOk-weaker}
use Rattle.network_rules.specs.Outside.{HearsOutside, after_move}
use Rattle.network_world.specs.KeptNodes.{KeptNode}
use Rattle.network_world.specs.NetworkStands.{NetworkStandsFor}
use Rattle.network_world.specs.NetworkAnew.{since}
use Rattle.network_world.proofs.LeadingOut.{hears-still}
use Rattle.network_world.proofs.Runs.{runs-kept}
use Rattle.network_world.proofs.OutsideTurns.{hear-outcome, hear-stands}
use Rattle.network_world.proofs.network.Network.hear_outside.Goals as goal

pub returns-clause-outcome : goal.returns-clause-outcome
returns-clause-outcome c = λ w s.
    IfOk-weaker c.heard.result _ _ (λ outcome e. e ∙ hear-outcome c.args.self.now w s c.args.at c.args.link c.args.text.now) c.heard.ensures.outcome

pub returns-clause-state : goal.returns-clause-state
returns-clause-state c = λ w s.
    IfOk-weaker c.heard.result _ _
    (λ outcome e.
    subst (λ (k : List KeptNode). NetworkStandsFor k (after_move (HearsOutside c.args.at c.args.link c.args.text.now) w)) (sym e)
    (hear-stands c.args.self.now w s c.args.at c.args.link c.args.text.now))
    c.heard.ensures.state

pub returns-clause-since : goal.returns-clause-since
returns-clause-since c = λ from changes s within.
    IfOk-weaker c.heard.result _ _
    (λ outcome e. e ∙ hears-still c.args.self.now (since from changes) (runs-kept c.args.self.now from changes s) c.args.at c.args.link within c.args.text.now)
    c.heard.ensures.state
