-- What becomes of it on what is kept is what becomes of it.
use Rattle.std.proofs.Common.{List, ap, sym, subst, ◌∙◌}
use Rattle.std.proofs.lemmas.Result.{IfOk-weaker}
use Rattle.network_rules.specs.Anew.{Restarts}
use Rattle.network_world.specs.KeptNodes.{KeptNode}
use Rattle.network_world.specs.KeptNetworks.{points_of}
use Rattle.network_world.specs.NetworkAnew.{RunsSince, and_then}
use Rattle.network_world.specs.NetworkStands.{has_node}
use Rattle.network_world.proofs.PointsStay.{restart-points}
use Rattle.network_world.proofs.StartingAgain.{restart-outcome, restart-runs}
use Rattle.network_world.proofs.network.Network.restart.Goals as goal

pub returns-clause-outcome : goal.returns-clause-outcome
returns-clause-outcome c =
    IfOk-weaker c.restarted.result _ _ (λ outcome e. e ∙ restart-outcome c.args.self.now c.args.settings) c.restarted.ensures.outcome

pub returns-clause-since : goal.returns-clause-since
returns-clause-since c = λ from changes s same.
    IfOk-weaker c.restarted.result _ _
    (λ outcome e.
    subst (λ (k : List KeptNode). RunsSince k from (and_then (has_node c.args.settings.own c.args.self.now) (Restarts c.args.settings.own) changes)) (sym e)
    (restart-runs c.args.self.now from changes s c.args.settings same))
    c.restarted.ensures.state

pub returns-clause-points : goal.returns-clause-points
returns-clause-points c =
    IfOk-weaker c.restarted.result _ _
    (λ outcome e. ap points_of e ∙ restart-points c.args.settings c.args.self.now)
    c.restarted.ensures.state
