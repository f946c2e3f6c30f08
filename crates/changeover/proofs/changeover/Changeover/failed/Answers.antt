use Rattle.std.proofs.Common.{◌∙◌}
use Rattle.changeover.proofs.Finishing.{beginning-alike}
use Rattle.changeover.proofs.changeover.Changeover.failed.Goals as goal

pub returns-clause-queue : goal.returns-clause-queue
returns-clause-queue c = λ w lane q h.
    c.of.ensures ∙ beginning-alike w c.args.ordered c.args.sequence.now lane q h
