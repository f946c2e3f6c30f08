-- What holds after every list of moves, while no node is broken.
use Rattle.std.specs.Prelude.{◌≡◌, ℕ, true, false, List, slice_get, drop, Some}
use Rattle.signalling_types.specs.Message.{Message}
use Rattle.network_moves.specs.Sayings.{Side, Saying, is_awaited_by, saying}
use Rattle.network_moves.specs.Networks.{Network, Shape, Place, line_at, waiting}
use Rattle.network_moves.specs.Carrying.{TakesMessage}
use Rattle.network_moves.specs.Failing.{CompletesByOrder, CompletesByAnswer}
use Rattle.network_moves.specs.Returning.{MayOpen, HearsUnreasonableOrder, HearsUnreasonableAnswer}
use Rattle.network_moves.specs.Moves.{Moves, last_of}
use Rattle.network_moves.specs.Flowing.{IsFlowing, OpensAlone, IsEnd, MovesAlone, NamesReceived}
use Rattle.network_moves.specs.Quiet.{IsQuiet}
use Rattle.network_moves.specs.Laws.{EntersOnce, EndsOnce, IsJoined, IsAccountedFor, under_way}

-- a statement holds after every list of moves from a quiet network, while no node is broken
abbrev pub Always : (Shape → (Message → Saying) → Network → Type 0) → Type 0
Always Statement =
    (shape : Shape) (read : Message → Saying) (start : Network) (networks : List Network) →
    IsQuiet read start → Moves shape read start networks →
    ((point : ℕ) → (last_of start networks).broken point ≡ false) →
    Statement shape read (last_of start networks)

module _ (shape : Shape) (read : Message → Saying) (p : Network) where
  -- ---- law (i), of each link as either end sees it, and what holds in place of it

  abbrev pub LinesFlow : Type 0
  LinesFlow = (place : Place) → IsFlowing (line_at p place)

  abbrev pub FirstEndsAreAlone : Type 0
  FirstEndsAreAlone = (place : Place) → OpensAlone (line_at p place)

  abbrev pub EndsAreSound : Type 0
  EndsAreSound = (place : Place) → IsEnd (line_at p place).near

  abbrev pub MovedEndsAreAlone : Type 0
  MovedEndsAreAlone = (place : Place) → MovesAlone (line_at p place)

  -- a message that comes is the first that its end lacked
  abbrev pub MessagesComeInOrder : Type 0
  MessagesComeInOrder =
      (q : Network) (m : TakesMessage shape p q) →
      slice_get (line_at p m.place).far.queue.all (line_at p m.place).near.queue.received ≡ Some m.message

  -- ---- of law (ii): where a link may open, and where an end may follow, no word about it is under way, anywhere

  abbrev pub NothingAbout : Place → Type 0
  NothingAbout place = (side : Side) → under_way shape (saying read (is_awaited_by place.link side)) p ≡ 0

  abbrev pub LinksOpenWithNoWordLeft : Type 0
  LinksOpenWithNoWordLeft =
      (place : Place) → MayOpen (line_at p place).near → MayOpen (line_at p place).far → NothingAbout place

  abbrev pub EndsFollowWithNoWordLeft : Type 0
  EndsFollowWithNoWordLeft = (place : Place) → (line_at p place).near_may_follow ≡ true → NothingAbout place

  -- ---- law (iv)

  abbrev pub NumbersNameWhatWasReceived : Type 0
  NumbersNameWhatWasReceived = (place : Place) → NamesReceived (line_at p place)

  -- a completion by a word moves what the other end lacks, and nothing else
  abbrev pub OrdersMoveWhatIsLacked : Type 0
  OrdersMoveWhatIsLacked =
      (q : Network) (m : CompletesByOrder shape read p q) →
      drop m.count (line_at p m.place).near.queue.all ≡ waiting (line_at p m.place)

  abbrev pub AnswersMoveWhatIsLacked : Type 0
  AnswersMoveWhatIsLacked =
      (q : Network) (m : CompletesByAnswer shape read p q) →
      drop m.count (line_at p m.place).near.queue.all ≡ waiting (line_at p m.place)

  -- no word has an unreasonable number
  abbrev pub OrdersAreReasonable : Type 0
  OrdersAreReasonable = (q : Network) → HearsUnreasonableOrder shape read p q → ⊥

  abbrev pub AnswersAreReasonable : Type 0
  AnswersAreReasonable = (q : Network) → HearsUnreasonableAnswer shape read p q → ⊥

  -- ---- the node law

  abbrev pub EachMessageEntersOnce : Type 0
  EachMessageEntersOnce = (point : ℕ) → EntersOnce shape read p point

  abbrev pub EachMessageEndsOnce : Type 0
  EachMessageEndsOnce = (point : ℕ) → EndsOnce shape read p point

  -- ---- of the whole network

  abbrev pub EachMessageIsAccountedFor : Type 0
  EachMessageIsAccountedFor = IsJoined shape → IsAccountedFor shape read p
