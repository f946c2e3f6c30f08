-- When to call a gate is what the abstract one tells.
use Rattle.std.proofs.Common.{rules, ◌≡◌, List, ap, ◌∙◌}
use Rattle.node_world.specs.Kept.{KeptNode, due_at, node_at}
use Rattle.node_world.proofs.Shown.{due-so}
use Rattle.node_world.proofs.world.World.deadline.Goals as goal

pub returns-clause-kept : goal.returns-clause-kept
returns-clause-kept c =
    let here : c.deref.result.now ≡ c.args.self.now = search rules in
    c.deadline_at.ensures ∙ ap (λ (k : List KeptNode). due_at (node_at c.args.at k) c.args.link) here

pub returns-clause-stands : goal.returns-clause-stands
returns-clause-stands c =
    let here : c.deref.result.now ≡ c.args.self.now = search rules in
    λ w s l.
    c.deadline_at.ensures ∙ ap (λ (k : List KeptNode). due_at (node_at c.args.at k) c.args.link) here ∙ due-so c.args.self.now w s c.args.at c.args.link l
