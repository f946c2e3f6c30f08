use Rattle.std.proofs.Common.{[], ◌∷◌}
use Rattle.sctp_gate.specs.Watching.{Fell}
use Rattle.node_world.proofs.Logs.{kept-still}
use Rattle.node_world.proofs.log.LogWatch.went_down.Goals as goal

pub returns : goal.returns
returns c = kept-still c.args.self.now (Fell c.args._why ∷ [])
