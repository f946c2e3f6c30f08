use Rattle.std.proofs.Common.{sym, subst}
use Rattle.std.specs.Str.{IsUtf8}
use Rattle.settings.proofs.Saying.{parts-utf8}
use Rattle.settings.proofs.point.push_three_parts.Goals as goal

pub returns-in_default : goal.returns-in_default
returns-in_default c = absurd (c.in_default.ensures.cases.0 (subst IsUtf8 (sym c.in_three_parts.ensures) (parts-utf8 c.args.point c.code.ensures.fits)))
