-- What two exchanges promise each other: each message once, each flow in order.
use Rattle.std.specs.Prelude.{◌≡◌, ◌&&◌, ◌+◌, ℕ, Bool, false, not, nat_eq, List, ◌++◌, count_by, drop, filter, length, unwrap_or}
use Rattle.signalling_types.specs.Message.{Message, flow_of, is_management}
use Rattle.signalling_types.specs.declared.point.Flow.{Flow}
use Rattle.settings.specs.Configuration.{Configuration}
use Rattle.settings.specs.Well.{IsWell}
use Rattle.settings.specs.Facing.{IsFacing}
use Rattle.link.specs.Queue.{Queue, named_count, last_accepted}
use Rattle.changeover.specs.Changeover.{users_of}
use Rattle.exchange_rules.specs.Queues.{queue_at}
use Rattle.exchange_rules.specs.State.{lost_any, late_any}
use Rattle.pair_moves.specs.Order.{join_to}
use Rattle.pair_rules.specs.Pairs.{End, PairState, Step, turned, first_pair, after_steps}

abbrev pub queue_of : End → (link : ℕ) → Queue
queue_of e link = queue_at e.exchange.node.queues link

-- how many of the near end's messages on a link the far end accepted, as its number names them; if that names none,
-- those that it confirmed
abbrev pub accepted_there : PairState → (link : ℕ) → ℕ
accepted_there p link =
    unwrap_or
    (named_count (queue_of p.near link) (last_accepted (queue_of p.far link)))
    (queue_of p.near link).confirmed

-- the user messages of a link that wait at the near end: those after that count
abbrev pub waiting_on : PairState → (link : ℕ) → List Message
waiting_on p link = users_of (drop (accepted_there p link) (queue_of p.near link).all)

-- all that wait there: those of each link, and then those of Held
abbrev pub waiting : PairState → List Message
waiting p =
    join_to (waiting_on p) (length p.near.exchange.settings.links) ++ users_of p.near.exchange.node.queues.held

-- neither end may have lost a message
pub record LostNothing (p : PairState) : Type 0 where
  pub near : lost_any p.near.exchange.node.parts ≡ false
  pub far : lost_any p.far.exchange.node.parts ≡ false

-- a user message that passes a test
abbrev pub user : (Message → Bool) → Message → Bool
user test m = not (is_management m) && test m

-- of every kind of user message, as many were accepted at the near end as came to the far end, together with those that
-- wait
abbrev pub EachOnce : PairState → Type 0
EachOnce p =
    (test : Message → Bool) →
    count_by (user test) p.near.accepted ≡ count_by (user test) p.far.received + count_by (user test) (waiting p)

-- the user messages of a flow
abbrev pub is_of_flow : Flow → Message → Bool
is_of_flow flow m = not (is_management m) && (nat_eq (flow_of m).point flow.point && nat_eq (flow_of m).sls flow.sls)

abbrev pub of_flow : Flow → List Message → List Message
of_flow flow ms = filter (is_of_flow flow) ms

-- the messages of each flow come in the order in which they were accepted, and then those that wait
abbrev pub InOrder : PairState → Type 0
InOrder p =
    (flow : Flow) → of_flow flow p.near.accepted ≡ of_flow flow p.far.received ++ of_flow flow (waiting p)

-- ---- always

-- two checked settings that face each other
pub record AreJoined (near far : Configuration) : Type 0 where
  pub near_well : IsWell near
  pub far_well : IsWell far
  pub facing : IsFacing near far

-- after every list of steps from two newly booted exchanges
abbrev pub Always : (PairState → Type 0) → Type 0
Always Statement =
    (near far : Configuration) (steps : List Step) → AreJoined near far →
    Statement (after_steps steps (first_pair near far))

-- a statement in both directions
pub record BothWays (Statement : PairState → Type 0) (p : PairState) : Type 0 where
  pub there : Statement p
  pub back : Statement (turned p)

-- "Order", if furthermore no T3 or T4 of the accepting end ended a hold
abbrev pub IsPunctual : PairState → Type 0
IsPunctual p = late_any p.near.exchange.node.parts ≡ false
