-- The messages of a ring, as the struct keeps them.
use Rattle.std.specs.Prelude.{◌≡◌, ◌<◌, ◌≤◌, List, length}
use Rattle.sctp_sending.specs.declared.ring.Ring.TheInside.{Inside}
use Rattle.sctp_sending.specs.Outgoing.{Outgoing}
use Rattle.sctp_sending.specs.Cells.{cells_of_ring, window}

abbrev pub messages_in : Inside → List Outgoing
messages_in r = window r.cells.items r.start r.count

pub record IsRing (r : Inside) : Type 0 where
  pub row : length r.cells.items ≡ cells_of_ring
  pub start : r.start < cells_of_ring
  pub count : r.count ≤ cells_of_ring
