-- What is kept of a gate was put out.
use Rattle.std.proofs.Common.{rules, ◌≡◌, List, ap, sym, subst, ◌∙◌}
use Rattle.std.specs.Prelude.{All}
use Rattle.sctp_bundling.specs.Watching.{Sent}
use Rattle.node_world.specs.Kept.{KeptNode, node_at, sent_at}
use Rattle.node_world.specs.Stands.{IsSentBy}
use Rattle.node_world.proofs.Shown.{put-out-so}
use Rattle.node_world.proofs.world.World.sent.Goals as goal

pub returns-clause-put_out : goal.returns-clause-put_out
returns-clause-put_out c =
    let here : c.deref.result.now ≡ c.args.self.now = search rules in
    λ w s.
    subst (λ (sent : List Sent). All (IsSentBy ((w.node c.args.at).ports c.args.link)) sent)
    (sym (c.sent_at.ensures ∙ ap (λ (k : List KeptNode). sent_at (node_at c.args.at k) c.args.link) here)) (put-out-so c.args.self.now w s c.args.at c.args.link)
