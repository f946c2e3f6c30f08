-- What is kept is quiet exactly if the abstract network is.
use Rattle.network_world.specs.KeptNetworks.{points_of}
use Rattle.network_world.specs.NetworkAnew.{since}
use Rattle.network_world.proofs.AsKept.{as-kept}
use Rattle.network_world.proofs.Quiet.{all-quiet, quiet-all, quiet-anew, quiet-since}
use Rattle.network_world.proofs.Runs.{runs-kept}
use Rattle.network_world.proofs.network.Network.is_quiet.Goals as goal

pub returns-clause-since : goal.returns-clause-since
returns-clause-since c = λ from changes s.
    let k = c.args.self.now in
    let its = runs-kept k from changes s in (
      (λ yes. all-quiet k (since from changes) its (c.are_quiet.ensures.0 yes)),
      (λ quiet. c.are_quiet.ensures.1 (quiet-all k (since from changes) its quiet)),
    )

pub returns-clause-anew : goal.returns-clause-anew
returns-clause-anew c = λ from changes s.
    let k = c.args.self.now in
    let its = runs-kept k from changes s in (
      (λ yes. quiet-anew (points_of k) from changes (all-quiet k (since from changes) its (c.are_quiet.ensures.0 yes))),
      (λ quiet. c.are_quiet.ensures.1 (quiet-all k (since from changes) its (quiet-since (points_of k) from changes quiet))),
    )

pub returns-clause-quiet : goal.returns-clause-quiet
returns-clause-quiet c = λ w s.
    let k = c.args.self.now in (
      (λ yes. all-quiet k w (as-kept k w s) (c.are_quiet.ensures.0 yes)),
      (λ quiet. c.are_quiet.ensures.1 (quiet-all k w (as-kept k w s) quiet)),
    )
