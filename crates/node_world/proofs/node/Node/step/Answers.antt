-- An exchange keeps its settings.
use Rattle.std.proofs.Common.{ap, ◌∙◌}
use Rattle.exchange.specs.Calls.{Kept}
use Rattle.node_world.specs.Kept.{KeptNode}
use Rattle.node_world.proofs.node.Node.step.Goals as goal

pub returns-clause-settings : goal.returns-clause-settings
returns-clause-settings c =
    ap (λ (x : Kept). x.settings) c.step.ensures.kept_state ∙ ap (λ (n : KeptNode). n.exchange.settings) c.self.view_is
