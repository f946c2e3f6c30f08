-- Those before the index of which a test is due; there are no more than were looked at.
use Rattle.std.proofs.Common.{◌≡◌, ◌≤◌, filter, map, take}
use Rattle.arrayvec.specs.ArrayVec.{array_vec_len}
use Rattle.sccp_relay.specs.Statuses.{is_due}
use Rattle.sccp_relay.proofs.prohibited.Prohibited.due.Given as goal

abbrev pub invariant-loop-index : goal.invariant-loop-index
invariant-loop-index l = record {
  due : l.due.items ≡ map (λ prohibited. prohibited.subsystem) (filter is_due (take l.index l.self));
  few : array_vec_len l.due ≤ l.index;
}
