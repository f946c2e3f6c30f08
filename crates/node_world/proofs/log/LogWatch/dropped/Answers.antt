use Rattle.std.proofs.Common.{[], ◌∷◌}
use Rattle.sctp_bundling.specs.Watching.{message_of}
use Rattle.sctp_gate.specs.Watching.{Dropped}
use Rattle.node_world.proofs.Logs.{kept-still}
use Rattle.node_world.proofs.log.LogWatch.dropped.Goals as goal

pub returns : goal.returns
returns c = kept-still c.args.self.now (Dropped (message_of c.args._message.now) ∷ [])
