use Rattle.std.proofs.Common.{inl, inr, refl}
use Rattle.toml.specs.View.{table_view}
use Rattle.settings_file.specs.declared.serve.fault.ServeFault.TheVariants.{NoMemory}
use Rattle.program.proofs.Files.{told-explains}
use Rattle.program.proofs.program.check_server_in.Goals as goal

pub returns-in-Ok : goal.returns-in-Ok
returns-in-Ok g c = inl (
  record { document = table_view c.args.parsed.now.document; are = c.requires; well = λ s. c.in-Ok.ensures s },
  c.end_with.ensures,
  refl,
)

pub returns-in-Err : goal.returns-in-Err
returns-in-Err g c = elim c.tell_server_fault.ensures [
  | inl told ↦ inr (
    c.in-Err.fault,
    record { document = table_view c.args.parsed.now.document; are = c.requires; first = λ s. c.in-Err.ensures s },
    told.0,
    told-explains c.args.file.now c.args.parsed.now.octets.items _ c.in-Err.fault _ _ c.requires told.1,
  )
  | inr told ↦ inr (
    NoMemory,
    record { document = table_view c.args.parsed.now.document; are = c.requires; first = λ s. inl refl },
    told.0,
    inr told.1,
  )
]
