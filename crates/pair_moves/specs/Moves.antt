-- All moves, and lists of them.
use Rattle.std.specs.Prelude.{◌≡◌, Bool, true, List, [], ◌∷◌}
use Rattle.signalling_types.specs.declared.point.Flow.{Flow}
use Rattle.pair_moves.specs.Sayings.{Reading, turned_reading}
use Rattle.pair_moves.specs.Ends.{Procedure, Pair, turned}
use Rattle.pair_moves.specs.Passing.{Accepts, TakesOut, Keeps, Places, HandsOver, MixesOthers}
use Rattle.pair_moves.specs.Carrying.{SendsStatus, SendsMessage, SendsEmpty, HearsStatus, TakesStatus, DoublesStatus, Drops}
use Rattle.pair_moves.specs.Carrying.{TakesEmpty, TakesMessage}
use Rattle.pair_moves.specs.Failing.{Falls, FallsWithOrder, CompletesByOrder, AnswersOrder}
use Rattle.pair_moves.specs.Failing.{CompletesByAnswer, EndsWait, IgnoresAnswer, HoldsInService}
use Rattle.pair_moves.specs.LateOrders.{OrdersLate}
use Rattle.pair_moves.specs.Returning.{OpensFirst, OpensSecond, Enters, Declares, WaitsForTime}
use Rattle.pair_moves.specs.Returning.{Confirms, EndsHold, IgnoresConfirmation}

-- a timer ends holds: from then on nothing is claimed about order
pub record RunsLate (p q : Pair) : Type 0 where
  pub holds : Procedure → Flow → Bool
  pub after : q ≡ record p { near = record p.near { holds = holds; late = true } }

-- a message may be lost: from then on nothing is claimed at all
pub record Loses (q : Pair) : Type 0 where
  pub lost : q.near.lost ≡ true

module _ (read : Reading) where
  -- a move of the near node
  pub data NearMove (p q : Pair) : Type 0 where
    accepts : Accepts read p q → NearMove p q
    takes_out : TakesOut read p q → NearMove p q
    keeps : Keeps read p q → NearMove p q
    places : Places read p q → NearMove p q
    hands_over : HandsOver read p q → NearMove p q
    mixes_others : MixesOthers read p q → NearMove p q
    sends_status : SendsStatus read p q → NearMove p q
    sends_message : SendsMessage read p q → NearMove p q
    sends_empty : SendsEmpty read p q → NearMove p q
    hears_status : HearsStatus read p q → NearMove p q
    takes_status : TakesStatus read p q → NearMove p q
    doubles_status : DoublesStatus read p q → NearMove p q
    drops : Drops read p q → NearMove p q
    takes_empty : TakesEmpty read p q → NearMove p q
    takes_message : TakesMessage read p q → NearMove p q
    falls : Falls read p q → NearMove p q
    falls_with_order : FallsWithOrder read p q → NearMove p q
    orders_late : OrdersLate read p q → NearMove p q
    completes_by_order : CompletesByOrder read p q → NearMove p q
    answers_order : AnswersOrder read p q → NearMove p q
    completes_by_answer : CompletesByAnswer read p q → NearMove p q
    ends_wait : EndsWait read p q → NearMove p q
    ignores_answer : IgnoresAnswer read p q → NearMove p q
    holds_in_service : HoldsInService read p q → NearMove p q
    opens_first : OpensFirst read p q → NearMove p q
    opens_second : OpensSecond read p q → NearMove p q
    enters : Enters read p q → NearMove p q
    declares : Declares read p q → NearMove p q
    waits_for_time : WaitsForTime read p q → NearMove p q
    confirms : Confirms read p q → NearMove p q
    ends_hold : EndsHold read p q → NearMove p q
    ignores_confirmation : IgnoresConfirmation read p q → NearMove p q
    runs_late : RunsLate p q → NearMove p q
    loses : Loses q → NearMove p q

module _ (read : Reading) where
  -- a move of either node
  pub data Move (p q : Pair) : Type 0 where
    near : NearMove read p q → Move p q
    far : NearMove (turned_reading read) (turned p) (turned q) → Move p q

  -- from a pair, by moves, through the pairs of a list
  abbrev pub Moves : Pair → List Pair → Type 0
  Moves p [] = Unit {0}
  Moves p (q ∷ rest) = Move p q × Moves q rest

abbrev pub last_of : Pair → List Pair → Pair
last_of p [] = p
last_of p (q ∷ rest) = last_of q rest
