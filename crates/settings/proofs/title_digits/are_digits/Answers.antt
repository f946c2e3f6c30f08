use Rattle.std.proofs.Common.{arith, refl, ◌<◌, ◌^◌}
use Rattle.std.proofs.lemmas.Grind.{common_steps}
use Rattle.std.proofs.lemmas.List.Elements.{All-more}
use Rattle.settings.proofs.title_digits.are_digits.Goals as goal

pub loop-digit-preserved : goal.loop-digit-preserved
loop-digit-preserved c =
    All-more (λ digit. digit < 2 ^ 4) c.args.digits.now c.loop-digit.digit-index 0 (omega arith) c.loop-digit.invariant (omega arith)

pub returns : goal.returns
returns c = (λ _ k d h. grind (arith, common_steps, c.loop-digit.invariant k d), λ _. refl)
