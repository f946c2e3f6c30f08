use Rattle.link.proofs.Basics.{arith, ◌≡◌, ◌∙◌, common_steps, kept_newly_confirmed}
use Rattle.link.proofs.Keeping.{answers-newly_confirmed}
use Rattle.link.proofs.sequence.Sequence.retrieve.Goals as goal

pub returns-clause-queue : goal.returns-clause-queue
returns-clause-queue c = λ w lane q h.
    let e : c.then_some.result ≡ kept_newly_confirmed c.args.self.now c.args.confirmed = grind (arith, common_steps) in
    e ∙ answers-newly_confirmed c.args.self.now lane q c.args.confirmed h
