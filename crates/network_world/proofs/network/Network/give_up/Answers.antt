-- What becomes of it on what is kept is what becomes of it.
use Rattle.std.proofs.Common.{List, ap, sym, subst, ◌∙◌}
use Rattle.network_rules.specs.Anew.{GivesUp}
use Rattle.network_world.specs.KeptNodes.{KeptNode}
use Rattle.network_world.specs.KeptNetworks.{points_of}
use Rattle.network_world.specs.NetworkAnew.{RunsSince, and_then}
use Rattle.network_world.specs.NetworkStands.{has_node}
use Rattle.network_world.proofs.PointsStay.{give-points}
use Rattle.network_world.proofs.StartingAgain.{give-outcome, give-runs}
use Rattle.network_world.proofs.network.Network.give_up.Goals as goal

pub returns-clause-outcome : goal.returns-clause-outcome
returns-clause-outcome c = λ from changes s. c.given_up.ensures.outcome ∙ give-outcome c.args.self.now from changes s c.args.at c.args.link

pub returns-clause-since : goal.returns-clause-since
returns-clause-since c = λ from changes s.
    subst (λ (k : List KeptNode). RunsSince k from (and_then (has_node c.args.at c.args.self.now) (GivesUp c.args.at c.args.link) changes)) (sym c.given_up.ensures.state)
    (give-runs c.args.self.now from changes s c.args.at c.args.link)

pub returns-clause-points : goal.returns-clause-points
returns-clause-points c = ap points_of c.given_up.ensures.state ∙ give-points c.args.at c.args.link c.args.self.now
