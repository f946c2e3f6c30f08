use Rattle.std.proofs.Common.{◌≡◌, ◌≤◌, ◌+◌, ◌-◌}
use Rattle.sctp_receiving.specs.Sack.{run_from}
use Rattle.sctp_receiving.proofs.receiver.Receiver.block_from.Given as goal

abbrev pub invariant-loop-end : goal.invariant-loop-end
invariant-loop-end l = record {
  within : l.end ≤ 256;
  run : l.end + run_from l.self (l.end + 1) (256 - l.end) ≡ l.start + run_from l.self (l.start + 1) (256 - l.start);
}

abbrev pub decreases-loop-end : goal.decreases-loop-end
decreases-loop-end l = 256 - l.end
