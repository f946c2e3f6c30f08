-- Where the node may follow is where that of the abstract network may.
use Rattle.std.proofs.Common.{rules, ◌≡◌, List, ◌∙◌, ap}
use Rattle.network_world.specs.KeptNodes.{KeptNode}
use Rattle.network_world.specs.KeptNetworks.{node_at}
use Rattle.network_world.specs.NetworkAnew.{since}
use Rattle.network_world.specs.NetworkPromised.{follows_at}
use Rattle.network_world.proofs.AsKept.{as-kept}
use Rattle.network_world.proofs.Runs.{runs-kept}
use Rattle.network_world.proofs.Shown.{follows-same}
use Rattle.network_world.proofs.network.Network.may_follow.Goals as goal

pub returns-clause-follows : goal.returns-clause-follows
returns-clause-follows c =
    let here : c.deref.result.now ≡ c.args.self.now = search rules in
    λ w s. (c.follows_at.ensures ∙ ap (λ (k : List KeptNode). follows_at c.args.link (node_at c.args.at k)) here) ∙ follows-same c.args.self.now w (as-kept c.args.self.now w s) c.args.at c.args.link

pub returns-clause-since : goal.returns-clause-since
returns-clause-since c =
    let here : c.deref.result.now ≡ c.args.self.now = search rules in
    λ from changes s. (c.follows_at.ensures ∙ ap (λ (k : List KeptNode). follows_at c.args.link (node_at c.args.at k)) here) ∙ follows-same c.args.self.now (since from changes) (runs-kept c.args.self.now from changes s) c.args.at c.args.link
