-- The alarms so far were put.
use Rattle.std.proofs.Common.{◌≡◌, ◌++◌}
use Rattle.status_page.specs.Each.{each}
use Rattle.status_page.specs.Facts.{facts_of}
use Rattle.status_page.specs.States.{alarm_tokens}
use Rattle.status_page.proofs.state.alarms.put_each_alarm.Given as goal

abbrev pub invariant-loop-place : goal.invariant-loop-place
invariant-loop-place l = record {
  tokens : l.out.tokens ≡ l.fn.out.tokens ++ each (alarm_tokens l.fn.exchange (facts_of l.fn.facts)) l.place;
  before : l.out.before ≡ l.fn.out.before;
}
