-- The books of the abstract network begin anew.
use Rattle.std.proofs.Common.{List, [], ap, sym, subst, ◌∙◌}
use Rattle.network_rules.specs.Anew.{after_all}
use Rattle.network_world.specs.KeptNodes.{KeptNode}
use Rattle.network_world.specs.KeptNetworks.{points_of}
use Rattle.network_world.specs.NetworkAnew.{RunsSince}
use Rattle.network_world.proofs.PointsStay.{anew-points}
use Rattle.network_world.proofs.Runs.{anew-runs}
use Rattle.network_world.proofs.network.Network.begin_anew.Goals as goal

pub returns-clause-since : goal.returns-clause-since
returns-clause-since c = λ from changes s.
    subst (λ (k : List KeptNode). RunsSince k (after_all changes from) []) (sym c.begun_anew.ensures) (anew-runs c.args.self.now from changes s)

pub returns-clause-points : goal.returns-clause-points
returns-clause-points c = ap points_of c.begun_anew.ensures ∙ anew-points c.args.self.now
