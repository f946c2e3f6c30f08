-- Another run of the same network: point 0 breaks, while its order is under way. The mates keep to themselves, and a
-- message for point 2 comes from point 1, once.
use Rattle.std.specs.Prelude.{◌≡◌, true, false, List, [], ◌∷◌, ◌++◌}
use Rattle.signalling_types.specs.Message.{Message}
use Rattle.network_moves.specs.Networks.{Network}
use Rattle.network_moves.specs.Moves.{Moves}
use Rattle.network_moves.specs.Quiet.{first_network}
use Rattle.network_moves.specs.Groups.{KeepsToItself}
use Rattle.network_moves.specs.Crossing.{Doing, First0, Cross1, Cross2, falls, orders, releases, submits, ends, passes}
use Rattle.network_moves.specs.Crossing.{is_mate, is_for_mate, mated, read_plainly, joining, networks_of, end_of, none_yet}

-- the order of the far end of the first link, on which nothing was accepted; and a message for point 2
abbrev pub far_order : Message
far_order = record { sio = 0; sif = 0 ∷ 0 ∷ 1 ∷ 255 ∷ 255 ∷ 255 ∷ [] }

abbrev pub message_three : Message
message_three = record { sio = 5; sif = 2 ∷ 0 ∷ 0 ∷ 0 ∷ [] }

abbrev pub breaking : List Doing
breaking = falls First0 ∷ orders First0 far_order ∷ releases First0 ∷ []

abbrev pub between : List Doing
between = submits 1 message_three ∷ passes Cross1 Cross2 0 none_yet message_three 0 ++ ends 2 message_three ∷ []

abbrev pub mates_run : List Doing
mates_run = joining ++ breaking ++ between

abbrev pub mates_after : Network
mates_after = end_of first_network mates_run

-- point 0 is broken, and no mate: its order is left, though it is awaited no longer. The message was accepted at point
-- 1, and ended at point 2
pub record MatesDecide : Type 0 where
  pub apart : KeepsToItself mated read_plainly is_mate is_for_mate
  pub moves : Moves mated read_plainly first_network (networks_of first_network mates_run)
  pub broken : mates_after.broken 0 ≡ true
  pub whole : (mates_after.broken 1 ≡ false) × (mates_after.broken 2 ≡ false)
  pub left : ((mates_after.node 0).bag ≡ far_order ∷ []) × ((mates_after.line 0).far.awaited ≡ false)
  pub accepted : (mates_after.node 1).accepted ≡ message_three ∷ []
  pub ended : (mates_after.node 2).ended ≡ message_three ∷ []
