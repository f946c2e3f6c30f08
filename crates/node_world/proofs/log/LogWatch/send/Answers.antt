use Rattle.std.proofs.Common.{rules}
use Rattle.node_world.proofs.Logs.{kept-one, kept-none}
use Rattle.node_world.proofs.log.LogWatch.send.Goals as goal

pub returns-then-is_err : goal.returns-then-is_err
returns-then-is_err c = kept-none c.args.self.now c.keep.new.self c.lose.new.self _ (search rules) c.lose.ensures

pub returns-else-is_err : goal.returns-else-is_err
returns-else-is_err c = kept-one c.args.self.now c.keep.new.self _ (search rules)
