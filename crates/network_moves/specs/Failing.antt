-- Moves of a failure and its changeover (Q.704 §5, with the numbers of Q.2210).
use Rattle.std.specs.Prelude.{◌≡◌, ℕ, Bool, true, false, ◌||◌, List, ◌∷◌, ◌++◌, drop, take, Some}
use Rattle.signalling_types.specs.Message.{Message}
use Rattle.link.specs.Queue.{Queue, named_count, last_accepted}
use Rattle.network_moves.specs.Sayings.{Saying, Order, Answer, opposite}
use Rattle.network_moves.specs.Networks.{Phase, Moved, Gone, Line, Node, Network, Shape, Place}
use Rattle.network_moves.specs.Networks.{line_at, node_at, point_at, NodeBecomes, Becomes, IsTakenFrom}

-- the number that an order or an answer of the near end has: that of the last message accepted there
abbrev pub final_number : Line → ℕ
final_number z = last_accepted z.near.queue

-- a line after its near end failed; a changeover begins if it served
abbrev pub with_failure : Line → Line
with_failure z = record z {
  near = record z.near {
    up = false;
    serving = false;
    incomplete = z.near.serving || z.near.incomplete;
    heard = false;
  };
}

-- a line whose near end awaits an answer, or doesn't
abbrev pub with_wait : Line → (awaited : Bool) → Line
with_wait z awaited = record z { near = record z.near { awaited = awaited } }

-- a line after the near end's changeover is complete, and whether an answer is awaited from then on
abbrev pub with_completion : Line → Phase → (awaited : Bool) → Line
with_completion z phase awaited = record z {
  near = record z.near { phase = phase; incomplete = false; awaited = awaited };
}

-- the messages that were sent after the first `confirmed`, and not confirmed
abbrev pub sent_unconfirmed : Queue → List Message
sent_unconfirmed q = drop q.confirmed (take q.sent q.all)

-- a node after a changeover without a number (Q.704 §5.6): what wasn't sent goes elsewhere, and what was sent and not
-- confirmed is given up and named, since nobody knows whether it came
abbrev pub without_unconfirmed : Node → Queue → Node
without_unconfirmed n q = record n { bag = drop q.sent q.all ++ n.bag; named = sent_unconfirmed q ++ n.named }

module _ (shape : Shape) (read : Message → Saying) (p q : Network) where
  -- a link fails
  pub record Falls : Type 0 where
    pub place : Place
    pub up : (line_at p place).near.up ≡ true
    pub after : Becomes shape p q place (with_failure (line_at p place)) (node_at shape p place)

  -- an order goes out about a link that failed in service, with the number of the last message accepted there: at once,
  -- or later, when there is a way to the other end; and no second one while an answer is awaited (Q.704 §5.4)
  pub record Orders : Type 0 where
    pub place : Place
    pub incomplete : (line_at p place).near.incomplete ≡ true
    pub unawaited : (line_at p place).near.awaited ≡ false
    pub order : Message
    pub says : read order ≡ Order place.link place.side (final_number (line_at p place))
    pub after : Becomes shape p q place
        (with_wait (line_at p place) true)
        (record (node_at shape p place) { bag = order ∷ (node_at shape p place).bag })

  -- an order of the other end completes the changeover of a link that failed, and is answered; an answer that is
  -- awaited still is (Q.704 §5.4, §5.5)
  pub record CompletesByOrder : Type 0 where
    pub place : Place
    pub number : ℕ
    pub order : Message
    pub rest : List Message
    pub taken : IsTakenFrom (node_at shape p place).bag order rest
    pub says : read order ≡ Order place.link (opposite place.side) number
    pub incomplete : (line_at p place).near.incomplete ≡ true
    pub count : ℕ
    pub named : named_count (line_at p place).near.queue number ≡ Some count
    pub answer : Message
    pub answers : read answer ≡ Answer place.link place.side (final_number (line_at p place))
    pub after : Becomes shape p q place
        (with_completion (line_at p place) Moved (line_at p place).near.awaited)
        (record (node_at shape p place) { bag = answer ∷ (drop count (line_at p place).near.queue.all ++ rest) })

  -- an order about a link that is down and has nothing to complete is answered too
  pub record AnswersOrder : Type 0 where
    pub place : Place
    pub number : ℕ
    pub order : Message
    pub rest : List Message
    pub taken : IsTakenFrom (node_at shape p place).bag order rest
    pub says : read order ≡ Order place.link (opposite place.side) number
    pub down : (line_at p place).near.up ≡ false
    pub complete : (line_at p place).near.incomplete ≡ false
    pub answer : Message
    pub answers : read answer ≡ Answer place.link place.side (final_number (line_at p place))
    pub after : NodeBecomes shape p q (point_at shape place) (record (node_at shape p place) { bag = answer ∷ rest })

  -- the answer about a link that failed completes its changeover
  pub record CompletesByAnswer : Type 0 where
    pub place : Place
    pub number : ℕ
    pub answer : Message
    pub rest : List Message
    pub taken : IsTakenFrom (node_at shape p place).bag answer rest
    pub says : read answer ≡ Answer place.link (opposite place.side) number
    pub awaited : (line_at p place).near.awaited ≡ true
    pub incomplete : (line_at p place).near.incomplete ≡ true
    pub count : ℕ
    pub named : named_count (line_at p place).near.queue number ≡ Some count
    pub after : Becomes shape p q place
        (with_completion (line_at p place) Moved false)
        (record (node_at shape p place) { bag = drop count (line_at p place).near.queue.all ++ rest })

  -- the answer about a link whose changeover is complete: it is awaited no longer
  pub record EndsWait : Type 0 where
    pub place : Place
    pub number : ℕ
    pub answer : Message
    pub rest : List Message
    pub taken : IsTakenFrom (node_at shape p place).bag answer rest
    pub says : read answer ≡ Answer place.link (opposite place.side) number
    pub awaited : (line_at p place).near.awaited ≡ true
    pub complete : (line_at p place).near.incomplete ≡ false
    pub after : Becomes shape p q place
        (with_wait (line_at p place) false)
        (record (node_at shape p place) { bag = rest })

  -- T1 or T2 runs out: the changeover is complete without a number, and its holds end. If an answer is awaited it still
  -- is, so the link doesn't open again before it came (Q.704 §5.6, §5.7)
  pub record CompletesByTime : Type 0 where
    pub place : Place
    pub incomplete : (line_at p place).near.incomplete ≡ true
    pub after : Becomes shape p q place
        (with_completion (line_at p place) Gone (line_at p place).near.awaited)
        (without_unconfirmed (node_at shape p place) (line_at p place).near.queue)
