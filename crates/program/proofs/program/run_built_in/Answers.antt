use Rattle.std.proofs.Common.{inl, inr, refl}
use Rattle.settings_file.specs.Faults.{no_memory}
use Rattle.program.proofs.program.run_built_in.Goals as goal

pub returns-in-Ok : goal.returns-in-Ok
returns-in-Ok g c = elim c.run_on.ensures [
  | inl ran ↦ inl (c.in-Ok.settings, c.in-Ok.ensures.settings, ran)
  | inr told ↦ inr (no_memory, refl, told.0, told.1, inr told.2)
]

pub returns-in-Err : goal.returns-in-Err
returns-in-Err g c = inr (no_memory, refl, c.tell_no_memory.ensures, refl, inr refl)
