-- The row of a procedure is cleared, and the set that the table stands for has none of its pairs.
use Rattle.flow_hold.proofs.Basics.{ap, sym, subst, ◌∙◌, HoldSet, lifted, HasPlaces, set_of}
use Rattle.flow_hold.proofs.Placing.{without_pairs-places}
use Rattle.flow_hold.proofs.Changed.{set-without_pairs}
use Rattle.flow_hold.proofs.holds.Holds.lift.Goals as goal

pub invariant_of-self : goal.invariant_of-self
invariant_of-self c = record {
  places = subst HasPlaces (sym c.unmark.ensures) (without_pairs-places c.self.inside.table c.args.procedure c.self.invariant.places);
}

pub returns : goal.returns
returns c =
    ap set_of c.unmark.ensures
    ∙ set-without_pairs c.self.inside.table c.args.procedure c.self.invariant.places
    ∙ ap (λ (h : HoldSet). lifted h c.args.procedure) c.self.view_is
