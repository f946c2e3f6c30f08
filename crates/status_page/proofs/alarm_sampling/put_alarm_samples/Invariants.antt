-- The samples so far were put.
use Rattle.std.proofs.Common.{◌≡◌, ◌++◌}
use Rattle.status_page.specs.AlarmSamples.{alarm_sample}
use Rattle.status_page.specs.Each.{each}
use Rattle.status_page.specs.Facts.{facts_of}
use Rattle.status_page.proofs.alarm_sampling.put_alarm_samples.Given as goal

abbrev pub invariant-loop-place : goal.invariant-loop-place
invariant-loop-place l =
    l.body.items ≡ l.fn.body.items ++ each (alarm_sample l.fn.exchange (facts_of l.fn.facts) l.fn.family) l.place
