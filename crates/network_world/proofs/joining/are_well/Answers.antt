-- Each is, and so all are.
use Rattle.std.proofs.Common.{rules, ◌≡◌, ◌<◌, ℕ, Some, length, ap, sym, subst, ◌∙◌}
use Rattle.std.specs.Prelude.{slice_get}
use Rattle.std.proofs.lemmas.Option.{slice_get-get_or, slice_get_within}
use Rattle.settings.specs.Configuration.{Configuration}
use Rattle.settings.specs.Well.{IsWell}
use Rattle.network_world.proofs.OneByOne.{one-further, same-some}
use Rattle.network_world.proofs.joining.are_well.Goals as goal

pub loop-place-preserved : goal.loop-place-preserved
loop-place-preserved c =
    let xs = c.args.settings.now in
    let inside : c.loop-place.place < length xs = search rules in
    let got : slice_get xs c.loop-place.place ≡ Some c.index-settings-place.result =
    slice_get-get_or xs c.loop-place.place c.index-settings-place.result inside ∙ ap (λ (o : Configuration). Some o) (sym c.index-settings-place.is) in
    one-further (λ (place : ℕ). (own : Configuration) → slice_get xs place ≡ Some own → IsWell own) c.loop-place.place c.loop-place.invariant
    (λ own e. subst IsWell (same-some c.index-settings-place.result own (sym got ∙ e)) c.are_well.ensures)

pub returns : goal.returns
returns c = λ place own e.
    let xs = c.args.settings.now in
    let within : place < length xs = slice_get_within xs place own e in
    let below : place < c.loop-place.place = search rules in
    c.loop-place.invariant place below own e
