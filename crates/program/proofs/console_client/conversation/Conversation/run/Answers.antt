use Rattle.std.proofs.Common.{◌∙◌, false, refl}
use Rattle.std.proofs.lemmas.Result.{err_from_is_err_and}
use Rattle.program.proofs.Coming.{came-then}
use Rattle.program.proofs.console_client.conversation.Conversation.run.Goals as goal

pub returns-in_err-is_whole-clause-came : goal.returns-in_err-is_whole-clause-came
returns-in_err-is_whole-clause-came g c =
    let q = err_from_is_err_and c.from_residual-in_err-is_whole.result c.from_residual-in_err-is_whole.ensures.1 in
    rw (q.1, q.2) (came-then _ _ _ _ _ _ _ _ _ c.loop.invariant.0 (c.write.ensures.answers ∙ c.take_input.ensures.answers) c.in_err-is_whole.ensures.came refl)

pub returns-in-Some-clause-came : goal.returns-in-Some-clause-came
returns-in-Some-clause-came g c =
    came-then false _ _ _ _ _ _ _ _ c.loop.invariant.0 (c.write.ensures.answers ∙ c.take_input.ensures.answers) c.in_ok-is_whole.ensures.came refl

pub returns-in_err-wait-in-None-clause-came : goal.returns-in_err-wait-in-None-clause-came
returns-in_err-wait-in-None-clause-came g c =
    let q = err_from_is_err_and c.from_residual-in_err-wait-in-None.result c.from_residual-in_err-wait-in-None.ensures.1 in
    rw (q.1, q.2, c.in_err-wait-in-None.ensures.quiet)
    (came-then false _ _ _ _ _ _ _ _ c.loop.invariant.0 (c.write.ensures.answers ∙ c.take_input.ensures.answers) c.in_ok-is_whole.ensures.came c.wait.ensures.answers)

pub loop-preserved : goal.loop-preserved
loop-preserved g c = (
  came-then false _ _ _ _ _ _ _ _ c.loop.invariant.0 (c.write.ensures.answers ∙ c.take_input.ensures.answers) c.in_ok-is_whole.ensures.came c.wait.ensures.answers,
  λ due e. rw (c.wait.ensures.outgoing, c.read.ensures.outgoing, c.write.ensures.outgoing) (c.in_ok-take_input.ensures.owed due (c.loop.invariant.1 due e)),
)
