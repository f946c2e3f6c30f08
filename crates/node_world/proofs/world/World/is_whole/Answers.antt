-- While a log is whole, it has all that was put out; once it isn't, it has fewer.
use Rattle.std.proofs.Common.{rules, ◌≡◌, List, ap, sym, ◌∙◌}
use Rattle.node_world.specs.Kept.{KeptNode, is_whole_at, node_at}
use Rattle.node_world.proofs.Shown.{fewer-so, has-all}
use Rattle.node_world.proofs.world.World.is_whole.Goals as goal

pub returns-clause-kept : goal.returns-clause-kept
returns-clause-kept c =
    let here : c.deref.result.now ≡ c.args.self.now = search rules in
    c.is_whole_at.ensures ∙ ap (λ (k : List KeptNode). is_whole_at (node_at c.args.at k) c.args.link) here

pub returns-clause-has_all : goal.returns-clause-has_all
returns-clause-has_all c =
    let here : c.deref.result.now ≡ c.args.self.now = search rules in
    λ w s t.
    has-all c.args.self.now w s c.args.at c.args.link
    (sym (c.is_whole_at.ensures ∙ ap (λ (k : List KeptNode). is_whole_at (node_at c.args.at k) c.args.link) here) ∙ t)

pub returns-clause-fewer : goal.returns-clause-fewer
returns-clause-fewer c =
    let here : c.deref.result.now ≡ c.args.self.now = search rules in
    λ w s less f.
    fewer-so c.args.self.now w s c.args.at c.args.link less
    (sym (c.is_whole_at.ensures ∙ ap (λ (k : List KeptNode). is_whole_at (node_at c.args.at k) c.args.link) here) ∙ f)
