use Rattle.std.proofs.Common.{[], ◌∷◌}
use Rattle.sctp_gate.specs.Watching.{WentOut}
use Rattle.node_world.proofs.Logs.{kept-still}
use Rattle.node_world.proofs.log.LogWatch.went_out.Goals as goal

pub returns : goal.returns
returns c = kept-still c.args.self.now (WentOut c.args._frame.now ∷ [])
