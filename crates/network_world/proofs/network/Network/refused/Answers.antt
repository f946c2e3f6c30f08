-- What is shown is what the abstract node books.
use Rattle.std.proofs.Common.{rules, ◌≡◌, List, ap, ◌∙◌}
use Rattle.network_world.specs.KeptNodes.{KeptNode}
use Rattle.network_world.specs.KeptNetworks.{node_at}
use Rattle.network_world.specs.NetworkAnew.{since}
use Rattle.network_world.specs.NetworkPromised.{booked}
use Rattle.network_world.proofs.AsKept.{as-kept}
use Rattle.network_world.proofs.Runs.{runs-kept}
use Rattle.network_world.proofs.Shown.{refused-same}
use Rattle.network_world.proofs.network.Network.refused.Goals as goal

pub returns-clause-refused : goal.returns-clause-refused
returns-clause-refused c =
    let here : c.deref.result.now ≡ c.args.self.now = search rules in
    λ w s. (c.refused_at.ensures ∙ ap (λ (k : List KeptNode). booked (λ n. n.refused) (node_at c.args.at k)) (here)) ∙ refused-same c.args.self.now w (as-kept c.args.self.now w s) c.args.at

pub returns-clause-since : goal.returns-clause-since
returns-clause-since c =
    let here : c.deref.result.now ≡ c.args.self.now = search rules in
    λ from changes s. (c.refused_at.ensures ∙ ap (λ (k : List KeptNode). booked (λ n. n.refused) (node_at c.args.at k)) (here)) ∙ refused-same c.args.self.now (since from changes) (runs-kept c.args.self.now from changes s) c.args.at
