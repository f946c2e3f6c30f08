use Rattle.std.proofs.Common.{inl, inr}
use Rattle.program.proofs.serving.serve_parsed.Goals as goal

pub returns-in-Ok : goal.returns-in-Ok
returns-in-Ok g c = inl (c.in-Ok.settings, c.in-Ok.ensures.settings.0.0)

pub returns-in-Err : goal.returns-in-Err
returns-in-Err g c = inr c.in-Err.ensures.ended
