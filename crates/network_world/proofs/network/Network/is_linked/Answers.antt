-- What is kept is linked exactly if the abstract network is.
use Rattle.network_world.specs.NetworkAnew.{since}
use Rattle.network_world.proofs.AsKept.{as-kept}
use Rattle.network_world.proofs.Linked.{all-linked, linked-all}
use Rattle.network_world.proofs.Runs.{runs-kept}
use Rattle.network_world.proofs.network.Network.is_linked.Goals as goal

pub returns-clause-since : goal.returns-clause-since
returns-clause-since c = λ from changes s.
    let k = c.args.self.now in
    let its = runs-kept k from changes s in (
      (λ yes. all-linked k (since from changes) its (c.are_linked.ensures.0 yes)),
      (λ linked. c.are_linked.ensures.1 (linked-all k (since from changes) its linked)),
    )

pub returns-clause-linked : goal.returns-clause-linked
returns-clause-linked c = λ w s.
    let k = c.args.self.now in (
      (λ yes. all-linked k w (as-kept k w s) (c.are_linked.ensures.0 yes)),
      (λ linked. c.are_linked.ensures.1 (linked-all k w (as-kept k w s) linked)),
    )
