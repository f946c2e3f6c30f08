use Rattle.std.proofs.Common.{inl, inr, refl}
use Rattle.settings_file.specs.Faults.{no_memory}
use Rattle.settings_file.specs.declared.serve.fault.ServeFault.TheVariants.{Settings}
use Rattle.program.specs.Folders.{AreSettings}
use Rattle.program.proofs.Files.{file-fault, told-explains}
use Rattle.program.proofs.settings_files.settings_in.Goals as goal

pub returns-in-Ok-clause-settings : goal.returns-in-Ok-clause-settings
returns-in-Ok-clause-settings g c =
    let settings : AreSettings c.args.parsed.now.octets.items c.in-Ok.settings = record { text = c.requires.text; read = c.in-Ok.ensures.settings c.args.parsed.now.octets.items c.requires.parsed } in
    ((settings, _, c.requires, g.E.Sink.output c.warn.new.errors, c.warn.ensures, c.warn_of_values.ensures), refl)

pub returns-in-Err-clause-ended : goal.returns-in-Err-clause-ended
returns-in-Err-clause-ended g c =
    let octets = c.args.parsed.now.octets.items in
    elim c.tell_file_fault.ensures [
      | inl told ↦ (
        c.in-Err.fault,
        file-fault octets c.in-Err.fault c.requires.text (c.in-Err.ensures.fault octets c.requires.parsed),
        told.0,
        g.E.Sink.output c.warn.new.errors,
        c.warn.ensures,
        told-explains c.args.file.now octets _ (Settings c.in-Err.fault) _ _ c.requires told.1,
      )
      | inr told ↦ (no_memory, inl refl, told.0, g.E.Sink.output c.warn.new.errors, c.warn.ensures, inr told.1)
    ]
