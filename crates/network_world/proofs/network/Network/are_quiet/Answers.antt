-- They are as they are lent.
use Rattle.std.proofs.Common.{rules, ◌≡◌, IsTrue, List, subst}
use Rattle.network_world.specs.KeptAnew.{AreQuiet}
use Rattle.network_world.specs.KeptNodes.{KeptNode}
use Rattle.network_world.proofs.network.Network.are_quiet.Goals as goal

pub returns : goal.returns
returns c =
    let here : c.deref.result.now ≡ c.args.self.now = search rules in
    subst (λ (k : List KeptNode). (IsTrue c.are_quiet.result → AreQuiet k) × (AreQuiet k → IsTrue c.are_quiet.result)) here c.are_quiet.ensures
