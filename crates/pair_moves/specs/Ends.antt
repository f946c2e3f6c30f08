-- The two ends of a link, the two nodes that it joins, and what is on its way between them.
use Rattle.std.specs.Prelude.{ℕ, Bool, false, List, [], drop, Option, None}
use Rattle.signalling_types.specs.Message.{Message}
use Rattle.signalling_types.specs.declared.point.Flow.{Flow}
use Rattle.link.specs.Queue.{Queue, first_queue}

-- User Data in flight: without a message, or with one (RFC 4165 §2)
pub data Frame : Type 0 where
  EmptyFrame : (fsn bsn : ℕ) → Frame
  MessageFrame : (fsn bsn : ℕ) (message : Message) → Frame

-- one end of a link
pub record LinkEnd : Type 0 where
  pub queue : Queue
  -- it isn't Down
  pub up : Bool
  -- it is in service
  pub serving : Bool
  -- it failed in service, and its changeover isn't complete
  pub incomplete : Bool
  -- an order about it went out, and its answer hasn't come
  pub awaited : Bool
  -- since it opened, it heard the other end
  pub heard : Bool

-- a link: its two ends, and what is in flight to each: User Data, the first that went out first, and this many link
-- statuses, on a stream of their own
pub record Line : Type 0 where
  pub near : LinkEnd
  pub far : LinkEnd
  pub to_far : List Frame
  pub to_near : List Frame
  pub told_far : ℕ
  pub told_near : ℕ
  -- the other end opened, and this one hasn't followed yet
  pub near_may_follow : Bool
  pub far_may_follow : Bool

-- what a flow waits for: the changeover of a link, a declaration's confirmation, or the time of a
-- link that returned
pub data Procedure : Type 0 where
  Changeover : (link : ℕ) → Procedure
  Code : (code : ℕ) → Procedure
  Time : (link : ℕ) → Procedure

-- a node apart from its links
pub record Side : Type 0 where
  -- all user messages that it accepted from its user parts, and all that came from the far node
  pub accepted : List Message
  pub received : List Message
  -- the messages that came in frames and weren't looked at yet
  pub arrived : List Message
  -- the messages of flows that wait
  pub held : List Message
  -- the messages that were accepted, made or taken out of a list, and are nowhere yet
  pub loose : List Message
  -- the link that a flow takes, and which procedures hold it
  pub route : Flow → Option ℕ
  pub holds : Procedure → Flow → Bool
  -- the codes of declarations without their confirmation; and of these, those that were so when the moves began, to
  -- which no confirmation comes any more
  pub outstanding : ℕ → Bool
  pub given_up : ℕ → Bool
  -- whether a message may be lost, and whether a hold was ended by its timer
  pub lost : Bool
  pub late : Bool

-- two nodes, and the links between them
pub record Pair : Type 0 where
  pub links : ℕ
  pub line : ℕ → Line
  pub near : Side
  pub far : Side

-- ---- the same, seen from the far node

abbrev pub turned_line : Line → Line
turned_line z = record {
  near = z.far;
  far = z.near;
  to_far = z.to_near;
  to_near = z.to_far;
  told_far = z.told_near;
  told_near = z.told_far;
  near_may_follow = z.far_may_follow;
  far_may_follow = z.near_may_follow;
}

abbrev pub turned : Pair → Pair
turned p = record { links = p.links; line = λ link. turned_line (p.line link); near = p.far; far = p.near }

-- ---- what the far end hasn't accepted

-- of the messages of a queue
abbrev pub unreceived : Line → List Message
unreceived z = drop z.far.queue.received z.near.queue.all

-- ---- the first pair

abbrev pub closed_end : LinkEnd
closed_end = record {
  queue = first_queue;
  up = false;
  serving = false;
  incomplete = false;
  awaited = false;
  heard = false;
}

abbrev pub closed_line : Line
closed_line = record {
  near = closed_end;
  far = closed_end;
  to_far = [];
  to_near = [];
  told_far = 0;
  told_near = 0;
  near_may_follow = false;
  far_may_follow = false;
}

abbrev pub first_side : Side
first_side = record {
  accepted = [];
  received = [];
  arrived = [];
  held = [];
  loose = [];
  route = λ flow. None;
  holds = λ procedure flow. false;
  outstanding = λ code. false;
  given_up = λ code. false;
  lost = false;
  late = false;
}

abbrev pub first_pair : ℕ → Pair
first_pair links = record { links = links; line = λ link. closed_line; near = first_side; far = first_side }
