-- Another run: the link that fails under the message is the only one, so no order goes out. Another link opens, and then
-- the order goes out, late.
use Rattle.std.specs.Prelude.{◌≡◌, ℕ, ◌+◌, true, false, List, [], ◌∷◌, ◌++◌, Some, None}
use Rattle.pair_moves.specs.Sayings.{is_order, is_answer}
use Rattle.pair_moves.specs.Ends.{Pair, turned, first_pair}
use Rattle.pair_moves.specs.Failing.{with_failure}
use Rattle.pair_moves.specs.LateOrders.{with_wait}
use Rattle.pair_moves.specs.Moves.{Moves, last_of}
use Rattle.pair_moves.specs.Laws.{saying, under_way}
use Rattle.pair_moves.specs.Crossing.{plain_reading, read_plainly, the_message, the_order, with_line, with_near}
use Rattle.pair_moves.specs.Crossing.{held_by_changeover, after_placing, after_sending_one, opens, joined, joining}
use Rattle.pair_moves.specs.Crossing.{enters_near, first_opens, ordered_run, AwaitsOne, HasCrossed}

-- link 0 alone opens, and enters service at both ends

abbrev pub serves_alone : Pair
serves_alone = enters_near (joined first_opens 0) 0 (Some 0)

abbrev pub serves_alone_there : Pair
serves_alone_there = turned (enters_near (turned serves_alone) 0 None)

-- the message goes out on it, and it fails at the near end. The message's flow has no link, and is held

abbrev pub accepted_alone : Pair
accepted_alone =
    with_near serves_alone_there
    (record serves_alone_there.near { accepted = the_message ∷ []; loose = the_message ∷ [] })

abbrev pub placed_alone : Pair
placed_alone = after_placing accepted_alone 0 the_message

abbrev pub sent_alone : Pair
sent_alone = after_sending_one placed_alone 0 0 the_message

abbrev pub failed_alone : Pair
failed_alone =
    with_near (with_line sent_alone 0 (with_failure (sent_alone.line 0) false))
    (record sent_alone.near { route = λ flow. None; holds = λ procedure flow. held_by_changeover 0 procedure })

-- link 1 opens and enters service at both ends, and the flow takes it

abbrev pub other_opens : Pair
other_opens = opens failed_alone 1

abbrev pub other_serves : Pair
other_serves = enters_near (joined other_opens 1) 1 (Some 1)

abbrev pub other_serves_there : Pair
other_serves_there = turned (enters_near (turned other_serves) 1 None)

-- the order about link 0 is made. From here all goes as in the first run

abbrev pub ordered_late : Pair
ordered_late =
    with_near (with_line other_serves_there 0 (with_wait (other_serves_there.line 0)))
    (record other_serves_there.near { loose = the_order ∷ [] })

-- once link 1 is open
abbrev pub ordering_run : List Pair
ordering_run = other_serves ∷ other_serves_there ∷ ordered_late ∷ ordered_run

-- once link 0 is
abbrev pub failing_run : List Pair
failing_run =
    serves_alone ∷ serves_alone_there ∷ accepted_alone ∷ placed_alone ∷ sent_alone ∷ failed_alone
    ∷ other_opens ∷ joining other_opens 1 ++ ordering_run

abbrev pub late_run : List Pair
late_run = first_opens ∷ joining first_opens 0 ++ failing_run

-- the changeover of a link at the near end isn't complete, and neither an order about it nor an answer is under way
pub record IsUnordered (p : Pair) (link : ℕ) : Type 0 where
  pub incomplete : (p.line link).near.incomplete ≡ true
  pub unawaited : (p.line link).near.awaited ≡ false
  pub none :
      under_way (saying read_plainly (is_order link)) p + under_way (saying read_plainly (is_answer link)) (turned p) ≡ 0

-- the run is one, no order goes out before the other link serves, the order is awaited on its way, and the message
-- crosses the failure
pub record CrossesLate : Type 0 where
  pub moves : Moves plain_reading (first_pair 2) late_run
  pub unordered : IsUnordered other_serves_there 0
  pub order : AwaitsOne ordered_late 0
  pub crossed : HasCrossed (last_of (first_pair 2) late_run)
