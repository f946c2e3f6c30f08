use Rattle.std.proofs.Common.{◌≡◌, length, take, replicate, None}
use Rattle.sctp_receiving.proofs.receiver.clear_all.Given as goal

abbrev pub invariant-loop-i : goal.invariant-loop-i
invariant-loop-i l = record {
  cleared : take l.i l.places.items ≡ replicate l.i None;
  long : length l.places.items ≡ length l.fn.places.items;
}
