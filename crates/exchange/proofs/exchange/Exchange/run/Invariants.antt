-- The calls so far were answered as they should be.
use Rattle.std.proofs.Common.{◌≤◌, take, length, vec_capacity}
use Rattle.exchange.proofs.Calls.{IsAnswered}
use Rattle.exchange.proofs.exchange.Exchange.run.Given as goal

abbrev pub invariant-loop-call : goal.invariant-loop-call
invariant-loop-call l = record {
  answered : IsAnswered (take l.call-index l.calls) l.answers.items l.fn.self l.self;
  room : length l.calls ≤ vec_capacity l.answers;
}
