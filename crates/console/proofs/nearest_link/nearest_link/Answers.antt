use Rattle.std.proofs.Common.{sym}
use Rattle.console.proofs.NearestWord.{shown-text}
use Rattle.console.proofs.nearest_link.nearest_link.Goals as goal

pub returns-in-Err : goal.returns-in-Err
returns-in-Err c = absurd (c.in-Err.ensures.cases.0 (shown-text c.args.name.now (sym c.if-not-is_shown.ensures)))
