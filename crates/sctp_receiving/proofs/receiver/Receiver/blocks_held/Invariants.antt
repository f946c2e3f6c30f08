use Rattle.std.proofs.Common.{◌≡◌, ◌≤◌, ◌-◌, ◌++◌, take, length}
use Rattle.sctp_receiving.specs.Sack.{blocks, blocks_from}
use Rattle.sctp_receiving.proofs.receiver.Receiver.blocks_held.Given as goal

abbrev pub invariant-loop-ahead : goal.invariant-loop-ahead
invariant-loop-ahead l = record {
  found : take 100 (l.blocks.items ++ blocks_from l.self l.is_before_held l.ahead (257 - l.ahead)) ≡ blocks l.self;
  few : length l.blocks.items ≤ 100;
}
