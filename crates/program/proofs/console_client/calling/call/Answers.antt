use Rattle.std.proofs.Common.{◌∙◌, Bool, Ok, Err, ap, refl}
use Rattle.std.proofs.lemmas.Result.{err_from_is_err_and}
use Rattle.program.specs.declared.console_client.fault.CallFault.{CallFault}
use Rattle.program.proofs.Called.{calls-nothing, calls-failed, calls-judged}
use Rattle.program.proofs.console_client.calling.call.Goals as goal

pub returns-in_err-outgoing : goal.returns-in_err-outgoing
returns-in_err-outgoing g c =
    let q = err_from_is_err_and c.from_residual.result c.from_residual.ensures.1 in
    calls-nothing _ _ _ _ _ q.1 (rw (q.1, q.2) refl)

pub returns-in-Err : goal.returns-in-Err
returns-in-Err g c = calls-nothing _ _ _ _ _ refl refl

pub returns-in_err-conversation : goal.returns-in_err-conversation
returns-in_err-conversation g c =
    let q = err_from_is_err_and c.from_residual-in_err-conversation.result c.from_residual-in_err-conversation.ensures.1 in
    calls-nothing _ _ _ _ _ q.1 (rw (q.1, q.2) c.in_err-conversation.ensures.quiet)

pub returns-in_err-is_whole : goal.returns-in_err-is_whole
returns-in_err-is_whole g c =
    let q = err_from_is_err_and c.from_residual-in_err-is_whole.result c.from_residual-in_err-is_whole.ensures.1 in
    calls-failed _ _ _ _ _ _ _ _ (q.1 ∙ ap (λ (fault : CallFault). Err fault) q.2) c.in_err-is_whole.ensures.came

pub returns : goal.returns
returns g c =
    calls-judged _ _ _ _ _ _ _ _ _ _ _ _ c.verdict.ensures c.in_ok-is_whole.ensures.came
    c.in_ok-conversation.ensures.answers
    (c.in_ok-conversation.ensures.outgoing ∙ c.in_ok-outgoing.ensures)
    c.in_ok-is_whole.ensures.owed (λ w. c.in_ok-is_whole.ensures.whole (ap (λ (b : Bool). Ok b) w)) c.due.ensures
