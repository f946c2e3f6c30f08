use Rattle.std.proofs.Common.{inl}
use Rattle.program.proofs.program.run_on.Goals as goal

pub returns-in-Ok : goal.returns-in-Ok
returns-in-Ok g c = inl (c.run_in-ended.ensures c.args.settings c.in-Ok.ensures.first)
