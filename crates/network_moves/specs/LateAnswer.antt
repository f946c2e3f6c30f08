-- Another run of the same network: the first link fails with a message on it that doesn't come. T2 runs out before the
-- answer is here, so the message is given up and named; and the link opens only once the answer came.
use Rattle.std.specs.Prelude.{◌≡◌, ℕ, true, false, List, [], ◌∷◌, ◌++◌}
use Rattle.network_moves.specs.Networks.{MessageFrame, Network}
use Rattle.network_moves.specs.Moves.{Moves}
use Rattle.network_moves.specs.Quiet.{first_network}
use Rattle.network_moves.specs.Crossing.{Doing, First1, First0, submits, places, sends, falls, drops, orders, answers}
use Rattle.network_moves.specs.Crossing.{runs_out, ends_wait, opens, message_one, order_about, answer_of_none, none_yet}
use Rattle.network_moves.specs.Crossing.{mated, read_plainly, joining, goes, comes_back, networks_of, end_of}

abbrev pub giving_up : List Doing
giving_up =
    submits 1 message_one ∷ places First1 message_one ∷ sends First1 0 message_one ∷ falls First1 ∷ falls First0
    ∷ drops First0 (MessageFrame 0 none_yet message_one)
    ∷ orders First1 (order_about 0) ∷ goes 0 none_yet (order_about 0) 0 ++ runs_out First1 ∷ []

abbrev pub opening_again : List Doing
opening_again =
    answers First0 (order_about 0) none_yet (answer_of_none 0) 0 ∷ comes_back 0 0 (answer_of_none 0) 1
    ++ ends_wait First1 (answer_of_none 0) none_yet ∷ opens First1 ∷ []

abbrev pub late_run : List Doing
late_run = joining ++ giving_up ++ opening_again

-- the changeover is complete, and the link may not open
pub record IsBarred (p : Network) : Type 0 where
  pub complete : (p.line 0).near.incomplete ≡ false
  pub awaited : (p.line 0).near.awaited ≡ true
  pub named : (p.node 1).named ≡ message_one ∷ []

-- the link has opened; the message didn't come, and is gone, as a notice names it; and no node is broken
pub record HasOpened (p : Network) : Type 0 where
  pub up : (p.line 0).near.up ≡ true
  pub came : (p.line 0).near.came ≡ []
  pub gone : (p.line 0).near.gone ≡ message_one ∷ []
  pub named : (p.node 1).named ≡ message_one ∷ []
  pub unbroken : (point : ℕ) → p.broken point ≡ false

pub record EndsTheBar : Type 0 where
  pub moves : Moves mated read_plainly first_network (networks_of first_network late_run)
  pub barred : IsBarred (end_of first_network (joining ++ giving_up))
  pub opened : HasOpened (end_of first_network late_run)
