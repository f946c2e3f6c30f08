use Rattle.std.proofs.Common.{sym, subst}
use Rattle.sctp_world.specs.declared.step.End.{End}
use Rattle.sctp_world.specs.Kept.{KeptWorld, other_kept}
use Rattle.sctp_world.specs.Doing.{MayCome, other_site}
use Rattle.sctp_world.specs.Stands.{StandsFor}
use Rattle.sctp_world.proofs.Sites.{near-kept, far-kept}
use Rattle.sctp_world.proofs.Standing.{did-at-near, did-at-far}
use Rattle.sctp_world.proofs.world.World.act.Goals as goal

pub returns-in-Near-clause-goes_on : goal.returns-in-Near-clause-goes_on
returns-in-Near-clause-goes_on c = λ w h done whole may.
    let inside : KeptWorld = record { near = c.self.inside.near; far = c.self.inside.far } in
    did-at-near c.args.what c.args.now inside c.act_at.new.site (near-kept inside.near _ c.act_at.new.site inside.far (c.act_at.ensures.did done) whole) c.has_numbers.ensures w
    (subst (λ (k : KeptWorld). StandsFor k w) (sym c.self.view_is) h)
    (subst (λ (k : KeptWorld). MayCome c.args.what k.far w.far) (sym c.self.view_is)
    (subst (λ (end : End). MayCome c.args.what (other_kept end c.args.self.now) (other_site end w)) c.in-Near.is may))

pub returns-in-Far-clause-goes_on : goal.returns-in-Far-clause-goes_on
returns-in-Far-clause-goes_on c = λ w h done whole may.
    let inside : KeptWorld = record { near = c.self.inside.near; far = c.self.inside.far } in
    did-at-far c.args.what c.args.now inside c.act_at-in-Far.new.site (far-kept inside.far _ c.act_at-in-Far.new.site inside.near (c.act_at-in-Far.ensures.did done) whole) c.has_numbers.ensures w
    (subst (λ (k : KeptWorld). StandsFor k w) (sym c.self.view_is) h)
    (subst (λ (k : KeptWorld). MayCome c.args.what k.near w.near) (sym c.self.view_is)
    (subst (λ (end : End). MayCome c.args.what (other_kept end c.args.self.now) (other_site end w)) c.in-Far.is may))
