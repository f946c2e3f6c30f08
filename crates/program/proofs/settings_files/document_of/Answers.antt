use Rattle.std.proofs.Common.{inl, inr, refl, string_bytes}
use Rattle.std.proofs.lemmas.Result.{IfErr-at_err}
use Rattle.settings_file.specs.Faults.{no_memory}
use Rattle.settings_file.specs.Parsed.{AreNoDocument}
use Rattle.settings_file.specs.Sentences.{Names}
use Rattle.settings_file.specs.declared.fault.SettingsFault.TheVariants.{Text}
use Rattle.program.proofs.Files.{no-document, names-explain}
use Rattle.program.proofs.settings_files.document_of.Goals as goal

pub returns-in_default-clause-ended : goal.returns-in_default-clause-ended
returns-in_default-clause-ended g c = (no_memory, inl refl, c.tell_no_memory.ensures, g.E.Sink.output c.args.errors.now, inr refl, inr refl)

pub returns-in-Err-clause-ended : goal.returns-in-Err-clause-ended
returns-in-Err-clause-ended g c =
    let none = IfErr-at_err (λ _. AreNoDocument c.args.octets.now) c.in-Err.is c.in-Ok.ensures.none in
    let names = IfErr-at_err (λ why. Names c.args.file.now (string_bytes why)) c.in-Err.is c.in-Ok.ensures.names in (
      Text,
      no-document c.args.octets.now none,
      c.tell_no_document.ensures.printed,
      g.E.Sink.output c.args.errors.now,
      inr refl,
      inl (c.as_str.result.now, names-explain c.args.file.now c.args.octets.now c.as_str.result.now none (rw c.as_str.ensures.value names), c.tell_no_document.ensures.told),
    )
