use Rattle.std.proofs.Common.{◌≡◌, [], replicate}
use Rattle.network_world.proofs.flight.nothing_in_flight.Given as goal

-- as many as the loop has gone round
abbrev pub invariant-loop : goal.invariant-loop
invariant-loop l = l.incoming.items ≡ replicate l.counter []
