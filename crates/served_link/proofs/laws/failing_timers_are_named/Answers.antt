use Rattle.served_link.proofs.NamedTimers.{named}
use Rattle.served_link.proofs.laws.failing_timers_are_named.Goals as goal

pub returns : goal.returns
returns c = named
