-- A flow that has a mark is one that some pair names.
use Rattle.flow_hold.proofs.Basics.{ℕ, ap, ◌∙◌, HoldSet, is_held, has_flow}
use Rattle.flow_hold.proofs.Changed.{set-has_flow}
use Rattle.flow_hold.proofs.holds.Holds.is_held.Goals as goal

pub returns : goal.returns
returns c =
    c.is_marked.ensures
    ∙ ap (λ (sls : ℕ). has_flow c.self.inside.table c.args.destination sls) c.number.ensures.value
    ∙ set-has_flow c.self.inside.table c.args.destination c.args.sls c.self.invariant.places c.number.ensures.fits
    ∙ ap (λ (h : HoldSet). is_held h c.args.destination c.args.sls) c.self.view_is
