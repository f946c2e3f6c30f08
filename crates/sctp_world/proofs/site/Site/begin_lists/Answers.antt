use Rattle.std.proofs.Common.{ap, ◌∙◌, sym, subst, length, List, [], ◌∷◌, ◌<◌, arith}
use Rattle.sctp_rules.specs.State.{Told}
use Rattle.sctp_world.specs.Kept.{KeptSite, Keeps}
use Rattle.sctp_world.proofs.Sites.{begun-first, begun-more, begun-same, begun-all}
use Rattle.sctp_world.proofs.site.Site.begin_lists.Goals.{then-is_opening, else-is_opening}
use Rattle.sctp_world.proofs.site.Site.begin_lists.Goals as goal

pub loop-i-init : goal.loop-i-init
loop-i-init c = begun-first c.args.self.now c.args.from

pub loop-i-preserved : goal.loop-i-preserved
loop-i-preserved c =
    let within : c.loop-i.i < length c.args.self.now.log.told =
    subst (λ (l : List Told). c.loop-i.i < length l) (c.told-i-end.ensures ∙ ap (λ (k : KeptSite). k.log.told) c.self.view_is) c.loop-i-test.true in
    elim c.if-is_opening.branch [
      | then-is_opening w ↦
          begun-more c.args.self.now c.loop-i.self c.if-is_opening.self c.loop-i.i c.args.from
          (sym w.if-is_opening.true ∙ c.is_opening.ensures) within c.loop-i.invariant (subst (λ (x : KeptSite). Keeps c.loop-i.self (record c.loop-i.self { given = [] ∷ c.loop-i.self.given }) x) (sym w.self-is) w.begin_list.ensures)
      | else-is_opening w ↦
          begun-same c.args.self.now c.loop-i.self c.if-is_opening.self c.loop-i.i c.args.from
          (sym w.if-is_opening.false ∙ c.is_opening.ensures) within c.loop-i.invariant w.self-is
    ]

pub returns : goal.returns
returns c =
    begun-all c.args.self.now c.loop-i.self c.loop-i.i c.args.from
    (omega (arith, c.loop-i-test.false, ap length (c.told-i-end.ensures ∙ ap (λ (k : KeptSite). k.log.told) c.self.view_is))) c.loop-i.invariant
