use Rattle.settings.proofs.Basics.{sym, subst, ap, get_or, ◌∙◌, ◌≡◌, Configuration, IsWell}
use Rattle.settings.proofs.Adjacent.{to_none, to_first}
use Rattle.settings.proofs.settings.Settings.set_to.Goals as goal

pub returns-in_err-place : goal.returns-in_err-place
returns-in_err-place c =
    let well = subst IsWell c.self.view_is c.self.invariant.well in
    c.from_residual.ensures ∙ sym (to_none c.args.self.now well c.args.point (sym c.destination.ensures ∙ c.in_err-place.was))

pub returns : goal.returns
returns c =
    let well = subst IsWell c.self.view_is c.self.invariant.well in
    let d = c.index-destination.result.now in
    let at = subst (λ (k : Configuration). d ≡ get_or k.destinations c.in_ok-place.place d) c.self.view_is c.index-destination.ensures in
    let sets = ap (λ (k : Configuration). k.sets) c.self.view_is in
    rw (c.first_to.ensures, c.deref.ensures.value, c.sets.ensures.rows, sets) (to_first c.args.self.now well c.args.point c.in_ok-place.place d (sym c.destination.ensures ∙ c.in_ok-place.was) at)
