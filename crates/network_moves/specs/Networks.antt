-- Nodes, the links between them, and what is on its way.
use Rattle.std.specs.Prelude.{◌≡◌, ◌≢◌, ◌<◌, ◌+◌, ◌^◌, ◌&&◌, ◌||◌, ℕ, zero, suc, Bool, false, not, nat_eq, nat_lt, List}
use Rattle.std.specs.Prelude.{[], ◌∷◌, drop, take, count_by, cond}
use Rattle.signalling_types.specs.Message.{Message}
use Rattle.link.specs.Queue.{Queue}
use Rattle.network_moves.specs.Sayings.{Side, Near, Far, Saying, UserMessage, Order, Answer, Other}

-- User Data in flight: without a message, or with one (RFC 4165 §2)
pub data Frame : Type 0 where
  EmptyFrame : (fsn bsn : ℕ) → Frame
  MessageFrame : (fsn bsn : ℕ) (message : Message) → Frame

-- what became of the messages on an end since it opened: they are there, or their changeover is complete, by a number
-- that a word had, or without one (Q.704 §5)
pub data Phase : Type 0 where
  Live : Phase
  Moved : Phase
  Gone : Phase

-- one end of a link
pub record LinkEnd : Type 0 where
  -- all messages since it opened, also once their changeover is complete
  pub queue : Queue
  pub phase : Phase
  -- it isn't Down
  pub up : Bool
  -- it is in service
  pub serving : Bool
  -- it failed in service, and its changeover isn't complete
  pub incomplete : Bool
  -- an order about it went out, and its answer hasn't come
  pub awaited : Bool
  -- since it opened, it heard the other end
  pub heard : Bool
  -- all messages that ever came from it to the other end; and those that were given up here before the link opened
  -- again, and hadn't come
  pub came : List Message
  pub gone : List Message

-- a link: its two ends, and what is in flight to each: User Data, the first that went out first, and this many link
-- statuses, on a stream of their own
pub record Line : Type 0 where
  pub near : LinkEnd
  pub far : LinkEnd
  pub to_far : List Frame
  pub to_near : List Frame
  pub told_far : ℕ
  pub told_near : ℕ
  -- the other end opened, and this one hasn't followed yet
  pub near_may_follow : Bool
  pub far_may_follow : Bool

-- a node apart from its links
pub record Node : Type 0 where
  -- what is at the node and on no link: in Held, or just taken in, made or taken out of a list. Only how many there are
  -- of each matters
  pub bag : List Message
  -- all messages that its user parts handed over; all that came in, from these or by a link; and all that ended here:
  -- received, or refused by name
  pub submitted : List Message
  pub accepted : List Message
  pub ended : List Message
  -- the user messages that were given up for want of a way; and all that notices of loss name
  pub gone : List Message
  pub named : List Message

pub record Network : Type 0 where
  pub node : ℕ → Node
  pub line : ℕ → Line
  -- the nodes after which only laws that say so promise anything
  pub broken : ℕ → Bool

-- which nodes and links there are, each by its number; at which nodes the ends of a link are; which messages the node
-- there may put on an end; and which nodes are outside
pub record Shape : Type 0 where
  pub nodes : ℕ
  pub links : ℕ
  pub point : ℕ → Side → ℕ
  pub leads : ℕ → Side → Message → Bool
  pub outside : ℕ → Bool

-- ---- a link seen from either end

-- the same link, with its ends exchanged
abbrev pub turned : Line → Line
turned z = record {
  near = z.far;
  far = z.near;
  to_far = z.to_near;
  to_near = z.to_far;
  told_far = z.told_near;
  told_near = z.told_far;
  near_may_follow = z.far_may_follow;
  far_may_follow = z.near_may_follow;
}

-- a link with this end as the near one
abbrev pub seen : Side → Line → Line
seen Near z = z
seen Far z = turned z

abbrev pub end_at : Network → ℕ → Side → LinkEnd
end_at p link side = (seen side (p.line link)).near

-- an end of a link of the network
pub record Place : Type 0 where
  pub link : ℕ
  pub side : Side

abbrev pub line_at : Network → Place → Line
line_at p place = seen place.side (p.line place.link)

abbrev pub point_at : Shape → Place → ℕ
point_at shape place = shape.point place.link place.side

abbrev pub node_at : Shape → Network → Place → Node
node_at shape p place = p.node (point_at shape place)

-- ---- what nobody says who does as they like

-- an end of a link is outside
abbrev pub leads_out : Shape → (link : ℕ) → Bool
leads_out shape link = shape.outside (shape.point link Near) || shape.outside (shape.point link Far)

-- a word that comes by this link is about another one, of which no end is outside; or it has a number that no message
-- has: these have 24 bits. (A word about a link that leads out may come by any, Q.704 §5.4)
abbrev pub spoofs : Shape → (link : ℕ) → Saying → Bool
spoofs shape link UserMessage = false
spoofs shape link (Order about maker number) =
    (not (nat_eq about link) && not (leads_out shape about)) || not (nat_lt number (2 ^ 24))
spoofs shape link (Answer about maker number) =
    (not (nat_eq about link) && not (leads_out shape about)) || not (nat_lt number (2 ^ 24))
spoofs shape link Other = false

-- ---- what the near end's messages are

-- those that the far end hasn't, and that wait here
abbrev pub waiting_in : Phase → Queue → (received : ℕ) → List Message
waiting_in Live q received = drop received q.all
waiting_in Moved q received = []
waiting_in Gone q received = []

abbrev pub waiting : Line → List Message
waiting z = waiting_in z.near.phase z.near.queue z.far.queue.received

-- those that were given up here, and that the far end hasn't: they were sent, and may still come
abbrev pub given_up_in : Phase → Queue → (received : ℕ) → List Message
given_up_in Live q received = []
given_up_in Moved q received = []
given_up_in Gone q received = drop received (take q.sent q.all)

abbrev pub given_up : Line → List Message
given_up z = given_up_in z.near.phase z.near.queue z.far.queue.received

-- ---- sums over a network

abbrev pub one_if : Bool → ℕ
one_if b = cond b 1 0

-- how many messages in User Data in flight pass a test
abbrev pub frames_by : (Message → Bool) → List Frame → ℕ
frames_by test [] = 0
frames_by test (EmptyFrame fsn bsn ∷ frames) = frames_by test frames
frames_by test (MessageFrame fsn bsn m ∷ frames) = one_if (test m) + frames_by test frames

-- over this many numbers
abbrev pub sum_to : (ℕ → ℕ) → ℕ → ℕ
sum_to f zero = 0
sum_to f (suc n) = sum_to f n + f n

-- over all ends of links, by the link as it is seen from there
abbrev pub sum_of_ends : Shape → (ℕ → Side → Line → ℕ) → Network → ℕ
sum_of_ends shape f p =
    sum_to (λ link. f link Near (p.line link) + f link Far (turned (p.line link))) shape.links

-- ---- what becomes of a network

-- one node becomes n, and all else is as before
pub record NodeBecomes (shape : Shape) (p q : Network) (point : ℕ) (n : Node) : Type 0 where
  pub inside : point < shape.nodes
  pub here : q.node point ≡ n
  pub others : (other : ℕ) → other ≢ point → q.node other ≡ p.node other
  pub lines : (link : ℕ) → q.line link ≡ p.line link
  pub broken : (other : ℕ) → q.broken other ≡ p.broken other

-- of all lines, that of one link becomes z, as seen from one end, and the others are as before
pub record LinesBecome (shape : Shape) (p q : Network) (place : Place) (z : Line) : Type 0 where
  pub inside : place.link < shape.links
  pub here : q.line place.link ≡ seen place.side z
  pub others : (other : ℕ) → other ≢ place.link → q.line other ≡ p.line other

-- one link becomes z, as seen from one end; the node there becomes n; and all else is as before
pub record Becomes (shape : Shape) (p q : Network) (place : Place) (z : Line) (n : Node) : Type 0 where
  pub inside : point_at shape place < shape.nodes
  pub lines : LinesBecome shape p q place z
  pub here : q.node (point_at shape place) ≡ n
  pub others : (other : ℕ) → other ≢ point_at shape place → q.node other ≡ p.node other
  pub broken : (other : ℕ) → q.broken other ≡ p.broken other

-- one message is taken out of a bag, which leaves the rest
pub record IsTakenFrom (bag : List Message) (message : Message) (rest : List Message) : Type 0 where
  pub counted : (test : Message → Bool) → count_by test bag ≡ count_by test rest + one_if (test message)
