-- What holds after every list of moves, while neither node lost anything.
use Rattle.std.specs.Prelude.{◌≡◌, ℕ, true, false, ◌+◌, List, drop, slice_get, Some}
use Rattle.signalling_types.specs.Message.{Message}
use Rattle.signalling_types.specs.declared.point.Flow.{Flow}
use Rattle.pair_moves.specs.Sayings.{Reading, turned_reading, is_order, is_answer}
use Rattle.pair_moves.specs.Ends.{Pair, turned, unreceived}
use Rattle.pair_moves.specs.Carrying.{TakesMessage}
use Rattle.pair_moves.specs.Failing.{CompletesByOrder, CompletesByAnswer}
use Rattle.pair_moves.specs.Returning.{MayOpen}
use Rattle.pair_moves.specs.Moves.{Moves, last_of}
use Rattle.pair_moves.specs.Flowing.{IsFlowing, OpensAlone, IsEnd, NamesReceived, WaitsRightly}
use Rattle.pair_moves.specs.Quiet.{IsQuiet}
use Rattle.pair_moves.specs.Laws.{OrdersAreAwaited, WordsAreTrue, CodesAreOutstanding, under_way, saying}
use Rattle.pair_moves.specs.Once.{EachOnce}
use Rattle.pair_moves.specs.Order.{IsInOrder}

-- a statement about one direction holds in both
pub record BothWays (Statement : Reading → Pair → Type 0) (read : Reading) (p : Pair) : Type 0 where
  pub there : Statement read p
  pub back : Statement (turned_reading read) (turned p)

-- and it does so after every list of moves from every quiet pair on, as the first is, however messages are read, while
-- neither node lost anything
abbrev pub Always : (Reading → Pair → Type 0) → Type 0
Always Statement =
    (read : Reading) (start : Pair) (pairs : List Pair) → IsQuiet read start → Moves read start pairs →
    (last_of start pairs).near.lost ≡ false →
    (last_of start pairs).far.lost ≡ false → BothWays Statement read (last_of start pairs)

-- law (i), and what holds in place of it; how the ends of a link are; a message that comes is the first that its end
-- lacked
abbrev pub lines_flow : Type 0
lines_flow = Always (λ read p. (link : ℕ) → IsFlowing (p.line link))

abbrev pub first_ends_are_alone : Type 0
first_ends_are_alone = Always (λ read p. (link : ℕ) → OpensAlone (p.line link))

abbrev pub ends_are_sound : Type 0
ends_are_sound = Always (λ read p. (link : ℕ) → IsEnd (p.line link).near)

abbrev pub messages_come_in_order : Type 0
messages_come_in_order =
    Always (λ read p.
    (q : Pair) (m : TakesMessage read p q) →
    slice_get (p.line m.link).far.queue.all (p.line m.link).near.queue.received ≡ Some m.message)

-- law (ii). So nothing about a link is under way from either node when it may open at both ends, or when one may follow
-- the other
abbrev pub orders_are_awaited : Type 0
orders_are_awaited = Always OrdersAreAwaited

abbrev pub opens_with_nothing_under_way : Type 0
opens_with_nothing_under_way =
    Always (λ read p.
    (link : ℕ) → MayOpen (p.line link).near → MayOpen (p.line link).far →
    under_way (saying read.there (is_order link)) p + under_way (saying read.there (is_answer link)) p ≡ 0)

abbrev pub follows_with_nothing_under_way : Type 0
follows_with_nothing_under_way =
    Always (λ read p.
    (link : ℕ) → (p.line link).near_may_follow ≡ true →
    (under_way (saying read.there (is_order link)) p + under_way (saying read.there (is_answer link)) p)
    + (under_way (saying read.back (is_order link)) (turned p) + under_way (saying read.back (is_answer link)) (turned p))
    ≡ 0)

-- law (iii)
abbrev pub words_are_true : Type 0
words_are_true = Always WordsAreTrue

-- law (iv), and what it amounts to: what waits by the number is what the far end lacks, and a completion moves the
-- messages that the far end lacks, and no others
abbrev pub numbers_name_what_was_received : Type 0
numbers_name_what_was_received = Always (λ read p. (link : ℕ) → NamesReceived (p.line link))

abbrev pub what_waits_is_lacked : Type 0
what_waits_is_lacked = Always (λ read p. (link : ℕ) → WaitsRightly (p.line link))

abbrev pub orders_move_what_is_lacked : Type 0
orders_move_what_is_lacked =
    Always (λ read p.
    (q : Pair) (m : CompletesByOrder read p q) →
    drop m.count (p.line m.link).near.queue.all ≡ unreceived (p.line m.link))

abbrev pub answers_move_what_is_lacked : Type 0
answers_move_what_is_lacked =
    Always (λ read p.
    (q : Pair) (m : CompletesByAnswer read p q) →
    drop m.count (p.line m.link).near.queue.all ≡ unreceived (p.line m.link))

-- the law of codes; and none is given up later
abbrev pub codes_are_outstanding : Type 0
codes_are_outstanding = Always CodesAreOutstanding

abbrev pub none_is_given_up : Type 0
none_is_given_up =
    (read : Reading) (start : Pair) (pairs : List Pair) → IsQuiet read start → Moves read start pairs →
    (last_of start pairs).near.lost ≡ false →
    (last_of start pairs).far.lost ≡ false →
    ((last_of start pairs).near.given_up ≡ start.near.given_up)
    × ((last_of start pairs).far.given_up ≡ start.far.given_up)

-- "Exactly once"
abbrev pub each_message_once : Type 0
each_message_once = Always (λ read. EachOnce read.there)

-- "Order", if furthermore no timer of the sending node ended a hold
abbrev pub each_flow_in_order : Type 0
each_flow_in_order = Always (λ read p. p.near.late ≡ false → (flow : Flow) → IsInOrder read.there flow p)
