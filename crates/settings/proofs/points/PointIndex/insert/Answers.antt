use Rattle.settings.proofs.Basics.{ap, arith, false, nat_eq, not, sym, true, ◌≡◌, common_steps, list_any}
use Rattle.settings.proofs.Entries.{some_place}
use Rattle.settings.proofs.Indexing.{finds-more}
use Rattle.settings.proofs.points.PointIndex.insert.Goals as goal

pub returns-then-is_some-clause-new : goal.returns-then-is_some-clause-new
returns-then-is_some-clause-new c =
    let it : list_any (nat_eq c.args.point) c.args.self.now ≡ true = grind (arith, some_place (nat_eq c.args.point) c.args.self.now, c.place.ensures, c.is_some.ensures, c.if-is_some.true) in
    sym (ap not it)

pub invariant_of-self-2 : goal.invariant_of-self-2
invariant_of-self-2 c =
    let none : list_any (nat_eq c.args.point) c.self.inside.points.items ≡ false =
    grind (arith, some_place (nat_eq c.args.point) c.self.inside.points.items, c.place.ensures, c.is_some.ensures, c.if-is_some.false, c.self.view_is) in
    record {
      codes = grind (arith, common_steps, c.self.invariant.codes);
      finds = rw (c.in_ok-push.ensures.items, c.code.ensures.value, c.len-place.ensures)
          (finds-more c.self.inside.places.items c.self.inside.points.items c.args.point _ (grind (arith, c.self.inside.points.ok)) c.self.invariant.codes c.code.ensures.fits none c.self.invariant.finds);
    }

pub returns-clause-new : goal.returns-clause-new
returns-clause-new c =
    let none : list_any (nat_eq c.args.point) c.args.self.now ≡ false = grind (arith, some_place (nat_eq c.args.point) c.args.self.now, c.place.ensures, c.is_some.ensures, c.if-is_some.false) in
    sym (ap not none)
