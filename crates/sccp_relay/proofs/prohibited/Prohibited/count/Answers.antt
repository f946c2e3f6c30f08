use Rattle.std.proofs.Common.{arith}
use Rattle.std.proofs.lemmas.Grind.{common_steps}
use Rattle.std.proofs.lemmas.List.Edits.{map_over_more}
use Rattle.sccp_relay.specs.Statuses.{counted}
use Rattle.sccp_relay.proofs.prohibited.Prohibited.count.Goals as goal

pub loop-prohibited-preserved : goal.loop-prohibited-preserved
loop-prohibited-preserved c = grind (arith, common_steps, map_over_more (counted c.args.sst))
