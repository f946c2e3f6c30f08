-- What is written in decimal digits parses as its number.
use Rattle.std.proofs.Common.{arith, ◌∙◌, ap}
use Rattle.std.specs.Result.{result_ok}
use Rattle.std.proofs.lemmas.Fmt.{parse-decimal}
use Rattle.settings.proofs.point.number.Goals as goal

pub returns : goal.returns
returns c = λ number fits is. c.ok.ensures.value ∙ ap result_ok (parse-decimal 16 number _ c.parse.result fits (omega (arith, fits)) is c.parse.ensures.value.0)
