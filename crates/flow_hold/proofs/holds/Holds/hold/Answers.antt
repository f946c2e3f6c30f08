-- The pair is marked, and the set that the table stands for has it.
use Rattle.flow_hold.proofs.Basics.{ℕ, ap, sym, subst, ◌∙◌, HoldSet, with_hold, HasPlaces, with_pair, set_of}
use Rattle.flow_hold.proofs.Placing.{with_pair-places}
use Rattle.flow_hold.proofs.Changed.{set-with_pair}
use Rattle.flow_hold.proofs.holds.Holds.hold.Goals as goal

pub invariant_of-self : goal.invariant_of-self
invariant_of-self c = record {
  places = subst HasPlaces (sym c.mark.ensures) (with_pair-places c.self.inside.table c.args.procedure c.args.destination c.number.result c.self.invariant.places);
}

pub returns : goal.returns
returns c =
    ap set_of c.mark.ensures
    ∙ ap (λ (sls : ℕ). set_of (with_pair c.self.inside.table c.args.procedure c.args.destination sls)) c.number.ensures.value
    ∙ set-with_pair c.self.inside.table c.args.procedure c.args.destination c.args.sls c.self.invariant.places c.number.ensures.fits
    ∙ ap (λ (h : HoldSet). with_hold h c.args.procedure c.args.destination c.args.sls) c.self.view_is
