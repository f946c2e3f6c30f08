-- The links so far were counted.
use Rattle.std.proofs.Common.{◌≡◌}
use Rattle.exchange.specs.KeptQueues.{kept}
use Rattle.status_page.specs.Measuring.{users_on_first}
use Rattle.status_page.proofs.measuring.users_on_links.Given as goal

abbrev pub invariant-loop-k : goal.invariant-loop-k
invariant-loop-k l = l.users ≡ users_on_first kept l.fn.exchange l.k
