use Rattle.std.proofs.Common.{◌∙◌}
use Rattle.settings.proofs.Saying.{none-said, utf8-said, written, point-is}
use Rattle.settings.proofs.point.parse_point.Goals as goal

pub returns-in_default-clause-point : goal.returns-in_default-clause-point
returns-in_default-clause-point c = none-said c.args.format c.args.text.now c.in_default.ensures.cases.0

pub returns-in_default-clause-found : goal.returns-in_default-clause-found
returns-in_default-clause-found c = λ point less is. absurd (c.in_default.ensures.cases.0 (utf8-said c.args.format c.args.text.now point less is))

pub returns-in_default-clause-back : goal.returns-in_default-clause-back
returns-in_default-clause-back c = λ point less is.
    absurd (c.in_default.ensures.cases.0 (utf8-said c.args.format c.args.text.now point less (written c.args.format c.args.text.now point is)))

pub returns-clause-point : goal.returns-clause-point
returns-clause-point c = rw (← c.in-Ok.ensures.cases.0) (point-is c.args.format c.in-Ok.text.now c.parse_text.result c.parse_text.ensures.value c.parse_text.ensures.found)

pub returns-clause-back : goal.returns-clause-back
returns-clause-back c = λ point less is.
    c.parse_text.ensures.found point less (written c.args.format c.in-Ok.text.now point (c.in-Ok.ensures.cases.0 ∙ is))
