-- Moves of a link that opens and enters service (Q.704 §6), and those by which a node breaks.
use Rattle.std.specs.Prelude.{◌≡◌, ◌≢◌, ◌≤◌, ℕ, Bool, true, false, ◌<◌, [], ◌++◌, ◌∷◌, List, drop, None}
use Rattle.signalling_types.specs.Message.{Message}
use Rattle.link.specs.Queue.{Queue, first_queue, emptied, named_count}
use Rattle.network_moves.specs.Sayings.{Near, Far, Saying, Order, Answer, opposite, saying}
use Rattle.network_moves.specs.Networks.{Frame, Live, Gone, LinkEnd, Line, Node, Network, Shape, Place, turned}
use Rattle.network_moves.specs.Networks.{line_at, node_at, point_at, given_up, frames_by, LinesBecome, Becomes}
use Rattle.network_moves.specs.Networks.{IsTakenFrom, spoofs}
use Rattle.network_moves.specs.Failing.{final_number, with_wait, with_completion}

-- an end in a new epoch; what came from it before stays, and what was given up here has gone for good
abbrev pub opened_end : (came gone : List Message) → LinkEnd
opened_end came gone = record {
  queue = first_queue;
  phase = Live;
  up = true;
  serving = false;
  incomplete = false;
  awaited = false;
  heard = false;
  came = came;
  gone = gone;
}

-- a line whose near end opens first: nothing is in flight, and the far end may follow. That one keeps the number of the
-- last message accepted there
abbrev pub opened_first : Line → Line
opened_first z = record {
  near = opened_end z.near.came (given_up z ++ z.near.gone);
  far = record z.far {
    queue = emptied z.far.queue;
    phase = Live;
    gone = given_up (turned z) ++ z.far.gone;
  };
  to_far = [];
  to_near = [];
  told_far = 0;
  told_near = 0;
  near_may_follow = false;
  far_may_follow = true;
}

-- a line whose near end follows the far one
abbrev pub opened_second : Line → Line
opened_second z = record z { near = opened_end z.near.came z.near.gone; near_may_follow = false }

-- an end as at first, but for what ever came from it, and what was given up here
abbrev pub shut_end : (came gone : List Message) → LinkEnd
shut_end came gone = record {
  queue = first_queue;
  phase = Live;
  up = false;
  serving = false;
  incomplete = false;
  awaited = false;
  heard = false;
  came = came;
  gone = gone;
}

-- a line whose near end is at a node that starts again: nothing is in flight to it any more. What it sent is in flight
-- yet, and the far end loses the association later, by a move of its own; it may follow if it might
abbrev pub restarted : Line → Line
restarted z = record z {
  near = shut_end z.near.came z.near.gone;
  to_near = [];
  told_near = 0;
  near_may_follow = false;
}

-- a line whose near end is at a node that does as it likes: so much is in flight to the far end from then on, and that
-- may follow or not. The near end itself is closed
abbrev pub strayed : Line → (to_far : List Frame) → (told_far : ℕ) → (follows : Bool) → Line
strayed z to_far told_far follows = record (restarted z) {
  to_far = to_far;
  told_far = told_far;
  far_may_follow = follows;
}

-- a line whose near end may not follow the far one
abbrev pub unled : Line → Line
unled z = record z { near_may_follow = false }

-- an end may open again: it is down, its changeover is complete, and no answer is awaited for it
pub record MayOpen (x : LinkEnd) : Type 0 where
  pub down : x.up ≡ false
  pub complete : x.incomplete ≡ false
  pub unawaited : x.awaited ≡ false

-- a line whose near end serves
abbrev pub with_service : Line → Line
with_service z = record z { near = record z.near { serving = true } }

module _ (shape : Shape) (p q : Network) where
  -- a link opens at one end, if it may open at the other one too, which may then follow
  pub record OpensFirst : Type 0 where
    pub place : Place
    pub near_may : MayOpen (line_at p place).near
    pub far_may : MayOpen (line_at p place).far
    pub after : Becomes shape p q place (opened_first (line_at p place)) (node_at shape p place)

  -- an end follows the other one, which may be down again by then
  pub record OpensSecond : Type 0 where
    pub place : Place
    pub follows : (line_at p place).near_may_follow ≡ true
    pub near_may : MayOpen (line_at p place).near
    pub after : Becomes shape p q place (opened_second (line_at p place)) (node_at shape p place)

  -- a link enters service at an end that heard the other
  pub record Enters : Type 0 where
    pub place : Place
    pub up : (line_at p place).near.up ≡ true
    pub heard : (line_at p place).near.heard ≡ true
    pub after : Becomes shape p q place (with_service (line_at p place)) (node_at shape p place)

-- ---- a node breaks: from then on only laws that say so promise anything

-- one link becomes z, as seen from one end; the node there becomes n, and is broken
pub record Breaks (shape : Shape) (p q : Network) (place : Place) (z : Line) (n : Node) : Type 0 where
  pub inside : point_at shape place < shape.nodes
  pub lines : LinesBecome shape p q place z
  pub here : q.node (point_at shape place) ≡ n
  pub others : (other : ℕ) → other ≢ point_at shape place → q.node other ≡ p.node other
  pub broken : q.broken (point_at shape place) ≡ true
  pub others_broken : (other : ℕ) → other ≢ point_at shape place → q.broken other ≡ p.broken other

-- a node after a changeover with such a number: what wasn't sent goes elsewhere, and notices of loss name these
abbrev pub without_sent : Node → Queue → (named : List Message) → Node
without_sent n q named = record n { bag = drop q.sent q.all ++ n.bag; named = named ++ n.named }

module _ (shape : Shape) (read : Message → Saying) (p q : Network) where
  -- an end waits no longer for an answer that hasn't come: a timer far longer than T2 ran out, or an operator says so
  pub record ReleasesBar : Type 0 where
    pub place : Place
    pub awaited : (line_at p place).near.awaited ≡ true
    pub after : Breaks shape p q place (with_wait (line_at p place) false) (node_at shape p place)

  -- an end gives up following the other one, which may be up for long, and have sent
  pub record GivesUpFollowing : Type 0 where
    pub place : Place
    pub after : Breaks shape p q place (unled (line_at p place)) (node_at shape p place)

  -- an order has a number that no count has: its changeover is complete without one (Q.704 §5.6). What notices of loss
  -- name then doesn't matter, since the node is broken
  pub record HearsUnreasonableOrder : Type 0 where
    pub place : Place
    pub number : ℕ
    pub order : Message
    pub rest : List Message
    pub taken : IsTakenFrom (node_at shape p place).bag order rest
    pub says : read order ≡ Order place.link (opposite place.side) number
    pub incomplete : (line_at p place).near.incomplete ≡ true
    pub unreasonable : named_count (line_at p place).near.queue number ≡ None
    pub answer : Message
    pub answers : read answer ≡ Answer place.link place.side (final_number (line_at p place))
    pub named : List Message
    pub after : Breaks shape p q place
        (with_completion (line_at p place) Gone (line_at p place).near.awaited)
        (without_sent (record (node_at shape p place) { bag = answer ∷ rest }) (line_at p place).near.queue named)

  -- an answer has such a number
  pub record HearsUnreasonableAnswer : Type 0 where
    pub place : Place
    pub number : ℕ
    pub answer : Message
    pub rest : List Message
    pub taken : IsTakenFrom (node_at shape p place).bag answer rest
    pub says : read answer ≡ Answer place.link (opposite place.side) number
    pub awaited : (line_at p place).near.awaited ≡ true
    pub incomplete : (line_at p place).near.incomplete ≡ true
    pub unreasonable : named_count (line_at p place).near.queue number ≡ None
    pub named : List Message
    pub after : Breaks shape p q place
        (with_completion (line_at p place) Gone false)
        (without_sent (record (node_at shape p place) { bag = rest }) (line_at p place).near.queue named)

  -- a node does as it likes on a link of it, as one outside may: it puts anything in flight, but spoofs nobody else who
  -- isn't outside. So its order or answer is about that link, or about one that leads out
  pub record Strays : Type 0 where
    pub place : Place
    -- what is left in flight of what was, and what is new
    pub left : List Frame
    pub fewer : (test : Message → Bool) → frames_by test left ≤ frames_by test (line_at p place).to_far
    pub new : List Frame
    pub own : frames_by (saying read (spoofs shape place.link)) new ≡ 0
    pub told_far : ℕ
    pub follows : Bool
    pub after : Breaks shape p q place
        (strayed (line_at p place) (left ++ new) told_far follows)
        (node_at shape p place)

  -- a node starts again: no message is there, whatever its books say, and its ends of links are as at first
  pub record StartsAgain : Type 0 where
    pub point : ℕ
    pub empty : (q.node point).bag ≡ []
    pub others : (other : ℕ) → other ≢ point → q.node other ≡ p.node other
    pub ends : (place : Place) → point_at shape place ≡ point → line_at q place ≡ restarted (line_at p place)
    pub lines : (link : ℕ) → shape.point link Near ≢ point → shape.point link Far ≢ point → q.line link ≡ p.line link
    pub broken : q.broken point ≡ true
    pub others_broken : (other : ℕ) → other ≢ point → q.broken other ≡ p.broken other
