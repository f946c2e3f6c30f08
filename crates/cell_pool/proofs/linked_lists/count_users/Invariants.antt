-- Those counted so far, with those among the remaining messages, are all that there are to count.
use Rattle.std.proofs.Common.{◌≡◌, ◌+◌, ◌<◌, ◌≤◌, drop, slice_get, count_by}
use Rattle.std.specs.Prelude.{IfSome}
use Rattle.cell_pool.specs.Lanes.{is_user_picked}
use Rattle.cell_pool.specs.Cells.{messages_at}
use Rattle.cell_pool.specs.Numbering.{ring_at}
use Rattle.cell_pool.proofs.linked_lists.count_users.Given as goal

abbrev pub invariant-loop-place : goal.invariant-loop-place
invariant-loop-place g l = record {
  next : l.next ≡ slice_get (ring_at l.links.rings l.list) l.place;
  sum : l.count + count_by (is_user_picked (g.P.Pick.picks l.pick)) (messages_at l.cells (drop l.place (ring_at l.links.rings l.list)))
      ≡ count_by (is_user_picked (g.P.Pick.picks l.pick)) (messages_at l.cells (drop l.first (ring_at l.links.rings l.list)));
  within : IfSome l.next (λ cell. cell < l.links.used);
  few : l.count ≤ l.place;
}
