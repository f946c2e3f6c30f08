use Rattle.std.proofs.Common.{◌∙◌, sym, ap, inl, Some}
use Rattle.program.specs.Words.{texts}
use Rattle.program.proofs.Asked.{plain-texts, unplain}
use Rattle.program.proofs.command_line.read_command.Goals as goal

pub returns-then-not-are_plain : goal.returns-then-not-are_plain
returns-then-not-are_plain c = inl (ap (λ t. Some t)
    (sym (unplain (texts c.args.words.now) (sym (plain-texts c.args.words.now) ∙ sym c.if-not-are_plain.ensures))))
