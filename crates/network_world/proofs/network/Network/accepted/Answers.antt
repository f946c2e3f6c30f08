-- What is shown is what the abstract node accepted.
use Rattle.std.proofs.Common.{rules, ◌≡◌, List, ap, sym, subst, ◌∙◌}
use Rattle.network_world.specs.NetworkPromised.{AcceptedInOrder, AcceptedOnce}
use Rattle.network_world.specs.KeptNodes.{KeptNode}
use Rattle.network_world.specs.KeptNetworks.{node_at}
use Rattle.network_world.specs.NetworkAnew.{since}
use Rattle.network_world.specs.NetworkPromised.{booked}
use Rattle.network_world.proofs.AsKept.{as-kept}
use Rattle.network_world.proofs.NetworkLaws.{accepted-once, accepted-order}
use Rattle.network_world.proofs.Runs.{runs-kept}
use Rattle.network_world.proofs.Shown.{accepted-same}
use Rattle.network_world.proofs.network.Network.accepted.Goals as goal

pub returns-clause-accepted : goal.returns-clause-accepted
returns-clause-accepted c =
    let here : c.deref.result.now ≡ c.args.self.now = search rules in
    λ w s. (c.accepted_at.ensures ∙ ap (λ (k : List KeptNode). booked (λ n. n.accepted) (node_at c.args.at k)) (here)) ∙ accepted-same c.args.self.now w (as-kept c.args.self.now w s) c.args.at

pub returns-clause-once : goal.returns-clause-once
returns-clause-once c =
    let here : c.deref.result.now ≡ c.args.self.now = search rules in
    λ w s far.
    subst (AcceptedOnce w c.args.at far) (sym ((c.accepted_at.ensures ∙ ap (λ (k : List KeptNode). booked (λ n. n.accepted) (node_at c.args.at k)) (here)) ∙ accepted-same c.args.self.now w (as-kept c.args.self.now w s) c.args.at))
    (accepted-once c.args.self.now w s c.args.at far)

pub returns-clause-order : goal.returns-clause-order
returns-clause-order c =
    let here : c.deref.result.now ≡ c.args.self.now = search rules in
    λ w s far.
    subst (AcceptedInOrder w c.args.at far) (sym ((c.accepted_at.ensures ∙ ap (λ (k : List KeptNode). booked (λ n. n.accepted) (node_at c.args.at k)) (here)) ∙ accepted-same c.args.self.now w (as-kept c.args.self.now w s) c.args.at))
    (accepted-order c.args.self.now w s c.args.at far)

pub returns-clause-since : goal.returns-clause-since
returns-clause-since c =
    let here : c.deref.result.now ≡ c.args.self.now = search rules in
    λ from changes s. (c.accepted_at.ensures ∙ ap (λ (k : List KeptNode). booked (λ n. n.accepted) (node_at c.args.at k)) (here)) ∙ accepted-same c.args.self.now (since from changes) (runs-kept c.args.self.now from changes s) c.args.at
