-- They are as they are lent.
use Rattle.std.proofs.Common.{rules, ◌≡◌, IsTrue, List, subst}
use Rattle.network_world.specs.KeptLinks.{AreAllLinked}
use Rattle.network_world.specs.KeptNodes.{KeptNode}
use Rattle.network_world.proofs.network.Network.are_linked.Goals as goal

pub returns : goal.returns
returns c =
    let here : c.deref.result.now ≡ c.args.self.now = search rules in
    subst (λ (k : List KeptNode). (IsTrue c.are_linked.result → AreAllLinked k) × (AreAllLinked k → IsTrue c.are_linked.result)) here c.are_linked.ensures
