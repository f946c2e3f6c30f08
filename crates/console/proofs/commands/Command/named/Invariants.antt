-- The first remaining command that has the word is the first of all commands that has it.
use Rattle.std.proofs.Common.{◌≡◌, drop}
use Rattle.console.specs.Commands.{commands, first_named}
use Rattle.console.proofs.commands.Command.named.Given as goal

abbrev pub invariant-loop-command : goal.invariant-loop-command
invariant-loop-command l = first_named l.word (drop l.command-index l.command-items) ≡ first_named l.word commands
