use Rattle.std.proofs.Common.{[], ◌∷◌}
use Rattle.sctp_gate.specs.Watching.{Failed}
use Rattle.node_world.proofs.Logs.{kept-still}
use Rattle.node_world.proofs.log.LogWatch.failed.Goals as goal

pub returns : goal.returns
returns c = kept-still c.args.self.now (Failed c.args._why ∷ [])
