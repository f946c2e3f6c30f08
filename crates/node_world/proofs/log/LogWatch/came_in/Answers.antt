use Rattle.std.proofs.Common.{[], ◌∷◌}
use Rattle.sctp_gate.specs.Watching.{CameIn}
use Rattle.node_world.proofs.Logs.{kept-still}
use Rattle.node_world.proofs.log.LogWatch.came_in.Goals as goal

pub returns : goal.returns
returns c = kept-still c.args.self.now (CameIn c.args._frame.now c.args._outcome.now ∷ [])
