use Rattle.std.proofs.Common.{inl, inr, refl}
use Rattle.toml.specs.View.{table_view}
use Rattle.settings_file.specs.Consoles.{place_of}
use Rattle.settings_file.specs.declared.serve.fault.ServeFault.TheVariants.{NoMemory}
use Rattle.program.proofs.telling.tell_document.Goals as goal

pub returns-in-Ok : goal.returns-in-Ok
returns-in-Ok g c = λ octets are. inl (record {
  document = table_view c.args.document.now;
  are = are;
  place = place_of c.in-Ok.place;
  named = λ s. c.in-Ok.ensures s;
})

pub returns-in-Err : goal.returns-in-Err
returns-in-Err g c = λ octets are. elim c.tell_console_fault.ensures [
  | inl told ↦ inr (
    c.in-Err.fault,
    record { document = table_view c.args.document.now; are = are; first = λ s. inr (c.in-Err.ensures s) },
    told.0,
    refl,
    told.1,
  )
  | inr told ↦ inr (
    NoMemory,
    record { document = table_view c.args.document.now; are = are; first = λ s. inl refl },
    told.0,
    refl,
    inr told.1,
  )
]
