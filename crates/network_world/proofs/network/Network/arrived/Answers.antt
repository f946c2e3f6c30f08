-- What is shown is what came to the abstract node.
use Rattle.std.proofs.Common.{rules, ◌≡◌, List, ap, sym, subst, ◌∙◌}
use Rattle.network_world.specs.NetworkPromised.{ArrivedInOrder, ArrivedOnce}
use Rattle.network_world.specs.KeptNodes.{KeptNode}
use Rattle.network_world.specs.KeptNetworks.{node_at}
use Rattle.network_world.specs.NetworkAnew.{since}
use Rattle.network_world.specs.NetworkPromised.{booked}
use Rattle.network_world.proofs.AsKept.{as-kept}
use Rattle.network_world.proofs.NetworkLaws.{arrived-once, arrived-order}
use Rattle.network_world.proofs.Runs.{runs-kept}
use Rattle.network_world.proofs.Shown.{arrived-same}
use Rattle.network_world.proofs.network.Network.arrived.Goals as goal

pub returns-clause-arrived : goal.returns-clause-arrived
returns-clause-arrived c =
    let here : c.deref.result.now ≡ c.args.self.now = search rules in
    λ w s. (c.arrived_at.ensures ∙ ap (λ (k : List KeptNode). booked (λ n. n.arrived) (node_at c.args.at k)) (here)) ∙ arrived-same c.args.self.now w (as-kept c.args.self.now w s) c.args.at

pub returns-clause-once : goal.returns-clause-once
returns-clause-once c =
    let here : c.deref.result.now ≡ c.args.self.now = search rules in
    λ w s far.
    subst (ArrivedOnce w c.args.at far) (sym ((c.arrived_at.ensures ∙ ap (λ (k : List KeptNode). booked (λ n. n.arrived) (node_at c.args.at k)) (here)) ∙ arrived-same c.args.self.now w (as-kept c.args.self.now w s) c.args.at))
    (arrived-once c.args.self.now w s far c.args.at)

pub returns-clause-order : goal.returns-clause-order
returns-clause-order c =
    let here : c.deref.result.now ≡ c.args.self.now = search rules in
    λ w s far.
    subst (ArrivedInOrder w c.args.at far) (sym ((c.arrived_at.ensures ∙ ap (λ (k : List KeptNode). booked (λ n. n.arrived) (node_at c.args.at k)) (here)) ∙ arrived-same c.args.self.now w (as-kept c.args.self.now w s) c.args.at))
    (arrived-order c.args.self.now w s far c.args.at)

pub returns-clause-since : goal.returns-clause-since
returns-clause-since c =
    let here : c.deref.result.now ≡ c.args.self.now = search rules in
    λ from changes s. (c.arrived_at.ensures ∙ ap (λ (k : List KeptNode). booked (λ n. n.arrived) (node_at c.args.at k)) (here)) ∙ arrived-same c.args.self.now (since from changes) (runs-kept c.args.self.now from changes s) c.args.at
