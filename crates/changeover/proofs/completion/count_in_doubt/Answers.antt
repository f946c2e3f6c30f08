use Rattle.changeover.proofs.Basics.{ap, ◌∙◌, kept_doubted}
use Rattle.changeover.proofs.Finishing.{doubted-alike}
use Rattle.changeover.proofs.completion.count_in_doubt.Goals as goal

pub returns-clause-queue : goal.returns-clause-queue
returns-clause-queue c = λ w lane q h.
    c.sent_in_doubt.ensures
    ∙ ap (kept_doubted c.args.sequence.now) c.accepted.ensures
    ∙ doubted-alike w c.args.sequence.now lane q c.args.confirmed h
