-- What is counted is what waits of the abstract pair.
use Rattle.std.proofs.Common.{rules, ◌≡◌, List, ◌∙◌, ap, sym, subst}
use Rattle.network_world.specs.KeptNodes.{KeptNode}
use Rattle.network_world.specs.KeptNetworks.{node_at}
use Rattle.network_world.specs.NetworkPromised.{AcceptedOrWait, waiting_between}
use Rattle.network_world.specs.NetworkAnew.{since}
use Rattle.network_world.proofs.AsKept.{as-kept}
use Rattle.network_world.proofs.NetworkLaws.{wait-or-come}
use Rattle.network_world.proofs.Runs.{runs-kept}
use Rattle.network_world.proofs.Shown.{counted}
use Rattle.network_world.proofs.network.Network.waiting.Goals as goal

pub returns-clause-waiting : goal.returns-clause-waiting
returns-clause-waiting g c =
    let here : c.deref.result.now ≡ c.args.self.now = search rules in
    λ w s a.
    (c.waiting_between.ensures ∙ ap (λ (k : List KeptNode). waiting_between (g.P.Pick.picks c.args.pick.now) (node_at c.args.at k) (node_at c.args.far k)) here) ∙ counted c.args.self.now w (as-kept c.args.self.now w s) c.args.at c.args.far a (g.P.Pick.picks c.args.pick.now)

pub returns-clause-once : goal.returns-clause-once
returns-clause-once g c =
    let here : c.deref.result.now ≡ c.args.self.now = search rules in
    λ w s.
    subst (AcceptedOrWait w c.args.at c.args.far (g.P.Pick.picks c.args.pick.now)) (sym (c.waiting_between.ensures ∙ ap (λ (k : List KeptNode). waiting_between (g.P.Pick.picks c.args.pick.now) (node_at c.args.at k) (node_at c.args.far k)) here))
    (wait-or-come c.args.self.now w s c.args.at c.args.far (g.P.Pick.picks c.args.pick.now))

pub returns-clause-since : goal.returns-clause-since
returns-clause-since g c =
    let here : c.deref.result.now ≡ c.args.self.now = search rules in
    λ from changes s a.
    (c.waiting_between.ensures ∙ ap (λ (k : List KeptNode). waiting_between (g.P.Pick.picks c.args.pick.now) (node_at c.args.at k) (node_at c.args.far k)) here) ∙ counted c.args.self.now (since from changes) (runs-kept c.args.self.now from changes s) c.args.at c.args.far a (g.P.Pick.picks c.args.pick.now)
