use Rattle.std.proofs.Common.{ap, ◌∙◌}
use Rattle.sctp_world.specs.Kept.{KeptSite}
use Rattle.sctp_world.proofs.Standing.{told-delivers}
use Rattle.sctp_world.proofs.world.World.told.Goals as goal

pub returns-clause-delivers : goal.returns-clause-delivers
returns-clause-delivers c = told-delivers c.args.end c.args.self.now c.told.result.now (c.told.ensures ∙ ap (λ (k : KeptSite). k.log.told) c.site.ensures)
