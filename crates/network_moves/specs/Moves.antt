-- All moves, and lists of them.
use Rattle.std.specs.Prelude.{List, [], ◌∷◌}
use Rattle.signalling_types.specs.Message.{Message}
use Rattle.network_moves.specs.Sayings.{Saying}
use Rattle.network_moves.specs.Networks.{Network, Shape}
use Rattle.network_moves.specs.Passing.{Submits, Makes, Ends, GivesUp, Discards, Places}
use Rattle.network_moves.specs.Carrying.{SendsStatus, SendsMessage, SendsEmpty, HearsStatus, TakesStatus, DoublesStatus}
use Rattle.network_moves.specs.Carrying.{Drops, TakesEmpty, TakesMessage}
use Rattle.network_moves.specs.Failing.{Falls, Orders, CompletesByOrder, AnswersOrder, CompletesByAnswer, EndsWait}
use Rattle.network_moves.specs.Failing.{CompletesByTime}
use Rattle.network_moves.specs.Returning.{OpensFirst, OpensSecond, Enters}
use Rattle.network_moves.specs.Returning.{ReleasesBar, GivesUpFollowing, HearsUnreasonableOrder, HearsUnreasonableAnswer, Strays, StartsAgain}

module _ (shape : Shape) (read : Message → Saying) where
  -- a move of one node, with the ends of its links
  pub data Move (p q : Network) : Type 0 where
    submits : Submits shape read p q → Move p q
    makes : Makes shape read p q → Move p q
    ends : Ends shape read p q → Move p q
    gives_up : GivesUp shape read p q → Move p q
    discards : Discards shape read p q → Move p q
    places : Places shape read p q → Move p q
    sends_status : SendsStatus shape p q → Move p q
    sends_message : SendsMessage shape p q → Move p q
    sends_empty : SendsEmpty shape p q → Move p q
    hears_status : HearsStatus shape p q → Move p q
    takes_status : TakesStatus shape p q → Move p q
    doubles_status : DoublesStatus shape p q → Move p q
    drops : Drops shape p q → Move p q
    takes_empty : TakesEmpty shape p q → Move p q
    takes_message : TakesMessage shape p q → Move p q
    falls : Falls shape read p q → Move p q
    orders : Orders shape read p q → Move p q
    completes_by_order : CompletesByOrder shape read p q → Move p q
    answers_order : AnswersOrder shape read p q → Move p q
    completes_by_answer : CompletesByAnswer shape read p q → Move p q
    ends_wait : EndsWait shape read p q → Move p q
    completes_by_time : CompletesByTime shape read p q → Move p q
    opens_first : OpensFirst shape p q → Move p q
    opens_second : OpensSecond shape p q → Move p q
    enters : Enters shape p q → Move p q
    releases_bar : ReleasesBar shape read p q → Move p q
    gives_up_following : GivesUpFollowing shape read p q → Move p q
    hears_unreasonable_order : HearsUnreasonableOrder shape read p q → Move p q
    hears_unreasonable_answer : HearsUnreasonableAnswer shape read p q → Move p q
    strays : Strays shape read p q → Move p q
    starts_again : StartsAgain shape read p q → Move p q

  -- from a network, by moves, through those of a list
  abbrev pub Moves : Network → List Network → Type 0
  Moves p [] = Unit {0}
  Moves p (q ∷ rest) = Move p q × Moves q rest

abbrev pub last_of : Network → List Network → Network
last_of p [] = p
last_of p (q ∷ rest) = last_of q rest
