-- The remaining octets add to those so far what all add.
use Rattle.std.proofs.Common.{◌≡◌, drop}
use Rattle.program.specs.ConsoleLines.{with}
use Rattle.program.proofs.console_client.written.WrittenLines.add.Given as goal

abbrev pub invariant-loop-octet : goal.invariant-loop-octet
invariant-loop-octet l = with (drop l.octet-index l.octets) l.self ≡ with l.octets l.fn.self
