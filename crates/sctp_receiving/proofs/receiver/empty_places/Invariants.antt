use Rattle.std.proofs.Common.{◌≡◌, replicate, None}
use Rattle.std.specs.Prelude.{vec_capacity}
use Rattle.sctp_receiving.proofs.receiver.empty_places.Given as goal

abbrev pub invariant-loop : goal.invariant-loop
invariant-loop l = record { items : l.places.items ≡ replicate l.counter None; room : vec_capacity l.places ≡ 256 }
