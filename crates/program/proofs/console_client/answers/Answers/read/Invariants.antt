-- The remaining octets say with those so far what all say.
use Rattle.std.proofs.Common.{◌≡◌, drop}
use Rattle.program.specs.ConsoleAnswers.{read}
use Rattle.program.proofs.console_client.answers.Answers.read.Given as goal

abbrev pub invariant-loop-octet : goal.invariant-loop-octet
invariant-loop-octet l = read (drop l.octet-index l.octets) l.self ≡ read l.octets l.fn.self
