-- what sockets return changes nothing that is known of a page
use Rattle.std.proofs.Common.{◌≡◌}
use Rattle.stp_server.proofs.served_page.ServedPage.accept.Given as goal

abbrev pub invariant-loop : goal.invariant-loop
invariant-loop l = l.self ≡ l.fn.self
