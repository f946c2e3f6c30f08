-- One more mark is gone.
use Rattle.flow_hold.proofs.Basics.{◌≡◌, ℕ, ◌<◌, Bool, false, List, length, get_or, arith, ap, ◌∙◌, set, common_steps, as_count}
use Rattle.flow_hold.proofs.Clearing.{gone-more, next-mark, taken-more}
use Rattle.flow_hold.proofs.row.take_marks.Goals as goal

pub loop-place-preserved : goal.loop-place-preserved
loop-place-preserved c =
    let marks : List Bool = c.args.marks.now in
    let place : ℕ = c.loop-place.place in
    let within : place < length marks = omega (arith, c.loop-place-test.true, c.loop-place.auto.marks) in
    let next : get_or c.loop-place.marks place false ≡ get_or marks place false = ap (λ (ms : List Bool). get_or ms place false) c.loop-place.invariant.marks ∙ next-mark marks place within in
    let taken : c.from.result ≡ as_count (get_or marks place false) = grind (arith, common_steps, c.from.ensures, next) in
    record {
      marks = ap (λ (ms : List Bool). set ms place false) c.loop-place.invariant.marks ∙ gone-more marks place within;
      counts = taken-more c.args.counts.now c.loop-place.counts c.args.first place c.from.result marks (omega (arith, within, c.requires.fits, c.loop-place.auto.counts)) taken c.loop-place.invariant.counts;
    }
