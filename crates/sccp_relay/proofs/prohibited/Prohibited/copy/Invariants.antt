use Rattle.std.proofs.Common.{◌≡◌, take}
use Rattle.sccp_relay.proofs.prohibited.Prohibited.copy.Given as goal

abbrev pub invariant-loop-index : goal.invariant-loop-index
invariant-loop-index l = l.copy ≡ take l.index l.self
