use Rattle.std.proofs.Common.{sym, subst, arith}
use Rattle.std.specs.Str.{IsUtf8}
use Rattle.trace.proofs.Digits.{behind-utf8}
use Rattle.trace.proofs.names.file_name.Goals as goal

pub returns-in_default : goal.returns-in_default
returns-in_default c = absurd (c.in_default.ensures.cases.0 (subst IsUtf8 (sym c.behind_name-behind.ensures) (behind-utf8 c.args.number (omega (arith, c.requires)))))
