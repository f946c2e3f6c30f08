-- The answers are those on what is kept, which are those of the abstract exchange.
use Rattle.exchange.proofs.Basics.{◌∙◌, arith, asked_each}
use Rattle.exchange.proofs.Calls.{answered_at, all_answered, stands-answers, stands-calls}
use Rattle.exchange.proofs.exchange.Exchange.run.Goals as goal

pub loop-call-preserved : goal.loop-call-preserved
loop-call-preserved c = record {
  answered = rw c.push_reserved.ensures.items
      (answered_at c.args.calls.now c.loop-call.call-index c.loop-call.answers.items c.call-item.result c.answer.result c.args.self.now c.loop-call.self c.answer.new.self
      c.loop-call-test.true c.call-item.is c.loop-call.invariant.answered c.answer.ensures.answer c.answer.ensures.state);
  room = omega (arith, c.loop-call.invariant.room, c.push_reserved.ensures.capacity);
}

pub returns-clause-answers : goal.returns-clause-answers
returns-clause-answers c = λ a s.
    let all = all_answered c.args.calls.now c.loop-call.call-index c.loop-call.answers.items c.args.self.now c.loop-call.self (omega (arith, c.loop-call-test.false)) c.loop-call.invariant.answered in
    all.told ∙ stands-answers (asked_each c.args.calls.now c.loop-call.answers.items) c.args.self.now a s

pub returns-clause-state : goal.returns-clause-state
returns-clause-state c = λ a s.
    let all = all_answered c.args.calls.now c.loop-call.call-index c.loop-call.answers.items c.args.self.now c.loop-call.self (omega (arith, c.loop-call-test.false)) c.loop-call.invariant.answered in
    rw all.rest (stands-calls (asked_each c.args.calls.now c.loop-call.answers.items) c.args.self.now a s)

pub returns-clause-kept_answers : goal.returns-clause-kept_answers
returns-clause-kept_answers c =
    let all = all_answered c.args.calls.now c.loop-call.call-index c.loop-call.answers.items c.args.self.now c.loop-call.self (omega (arith, c.loop-call-test.false)) c.loop-call.invariant.answered in
    all.told

pub returns-clause-kept_state : goal.returns-clause-kept_state
returns-clause-kept_state c =
    let all = all_answered c.args.calls.now c.loop-call.call-index c.loop-call.answers.items c.args.self.now c.loop-call.self (omega (arith, c.loop-call-test.false)) c.loop-call.invariant.answered in
    all.rest

pub returns-clause-count : goal.returns-clause-count
returns-clause-count c =
    let all = all_answered c.args.calls.now c.loop-call.call-index c.loop-call.answers.items c.args.self.now c.loop-call.self (omega (arith, c.loop-call-test.false)) c.loop-call.invariant.answered in
    all.count
