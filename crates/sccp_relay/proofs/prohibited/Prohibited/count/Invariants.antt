-- Those before the index have one tick less.
use Rattle.std.proofs.Common.{◌≡◌, ◌++◌, map, take, drop}
use Rattle.sccp_relay.specs.Statuses.{counted}
use Rattle.sccp_relay.proofs.prohibited.Prohibited.count.Given as goal

abbrev pub invariant-loop-prohibited : goal.invariant-loop-prohibited
invariant-loop-prohibited l = l.prohibited-items ≡ map (counted l.sst) (take l.prohibited-index l.fn.self) ++ drop l.prohibited-index l.fn.self
