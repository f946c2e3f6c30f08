use Rattle.std.proofs.Common.{[], ◌∷◌}
use Rattle.sctp_gate.specs.Watching.{Rose}
use Rattle.node_world.proofs.Logs.{kept-still}
use Rattle.node_world.proofs.log.LogWatch.came_up.Goals as goal

pub returns : goal.returns
returns c = kept-still c.args.self.now (Rose ∷ [])
