use Rattle.std.proofs.Common.{◌≡◌, false, replicate}
use Rattle.network_world.proofs.flight.none_follows.Given as goal

-- as many as the loop has gone round
abbrev pub invariant-loop : goal.invariant-loop
invariant-loop l = l.following.items ≡ replicate l.counter false
