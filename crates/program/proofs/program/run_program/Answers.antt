use Rattle.std.proofs.Common.{inl, inr}
use Rattle.program.proofs.Files.{asks-run, does-run}
use Rattle.program.proofs.Labs.{does-lab, does-datagram-lab}
use Rattle.program.proofs.Networks.{does-network}
use Rattle.program.proofs.Consoles.{does-tell}
use Rattle.program.proofs.program.run_program.Goals as goal

pub returns-in-Run-Some : goal.returns-in-Run-Some
returns-in-Run-Some g c = elim c.in-Run-Some.ensures [
  | inl asked ↦ does-run c.args.words.now _ _ _ _ _ _ c.as_str.ensures.value
      (cc (c.in-Run-Some.field-0-is, c.in-Run-Some.file-is, asked, asks-run c.in-Run-Some.file)) c.run_file.ensures
  | inr refused ↦ absurd (cc (refused.0))
]

pub returns-in-Lab : goal.returns-in-Lab
returns-in-Lab g c = elim c.in-Lab.ensures [
  | inl asked ↦ does-lab c.args.words.now _ _ _ _ _ _ _ _ c.as_str-in-Lab.ensures.value c.as_str-in-Lab-2.ensures.value asked c.run_files.ensures
  | inr refused ↦ absurd (cc (refused.0))
]

pub returns-in-DatagramLab : goal.returns-in-DatagramLab
returns-in-DatagramLab g c = elim c.in-DatagramLab.ensures [
  | inl asked ↦ does-datagram-lab c.args.words.now _ _ _ _ _ _ _ _ c.as_str-in-DatagramLab.ensures.value c.as_str-in-DatagramLab-2.ensures.value asked c.run_files-in-DatagramLab.ensures
  | inr refused ↦ absurd (cc (refused.0))
]

pub returns-in-Network : goal.returns-in-Network
returns-in-Network g c = elim c.in-Network.ensures [
  | inl asked ↦ does-network c.args.words.now _ _ _ _ _ asked c.run_network_files.ensures
  | inr refused ↦ absurd (cc (refused.0))
]

pub returns-in-Tell : goal.returns-in-Tell
returns-in-Tell g c = elim c.in-Tell.ensures [
  | inl asked ↦ does-tell c.args.words.now _ _ _ _ _ _ asked c.tell_file.ensures
  | inr refused ↦ absurd (cc (refused.0))
]
