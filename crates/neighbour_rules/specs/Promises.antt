-- What two nodes that share a link set promise each other, whatever other neighbours each has: each message for the
-- other once, each flow in order; and what holds whatever has been lost.
use Rattle.std.specs.Prelude.{◌≡◌, ◌+◌, ℕ, Bool, true, List, [], ◌∷◌, ◌++◌, All, count_by, drop, length, unwrap_or, slice_index_or, Option, Some, None}
use Rattle.signalling_types.specs.Message.{Message}
use Rattle.signalling_types.specs.declared.point.Flow.{Flow}
use Rattle.settings.specs.Configuration.{Configuration}
use Rattle.settings.specs.Readings.{destination_place}
use Rattle.settings.specs.Sharing.{LeadsAlone}
use Rattle.routes.specs.Routes.{first_route, chosen_link}
use Rattle.link.specs.Queue.{named_count, last_accepted}
use Rattle.exchange_rules.specs.Routing.{facts, peer_of}
use Rattle.pair_moves.specs.Order.{join_to}
use Rattle.pair_rules.specs.Pairs.{PairState, first_pair}
use Rattle.pair_rules.specs.Promises.{BothWays, LostNothing, IsPunctual, queue_of, user, of_flow}
use Rattle.pair_rules.specs.Accepting.{IsUserMessageTo}
use Rattle.pair_rules.specs.Sharing.{AreSharing}
use Rattle.neighbour_rules.specs.Neighbours.{Step, after_steps, far_end, leads_elsewhere, users_to}

-- how many of the near end's messages on a link the far end of it accepted, as its number names them; if that names
-- none, those that it confirmed
abbrev pub accepted_there : PairState → (link other : ℕ) → ℕ
accepted_there p link other =
    unwrap_or
    (named_count (queue_of p.near link) (last_accepted (queue_of p.far other)))
    (queue_of p.near link).confirmed

-- the user messages for the far point that wait on a link: those after that count. None is on a link that leads
-- elsewhere
abbrev pub waiting_by : PairState → (link : ℕ) → (other : Option ℕ) → List Message
waiting_by p link (Some other) =
    users_to p.far.exchange.settings.own (drop (accepted_there p link other) (queue_of p.near link).all)
waiting_by p link None = []

abbrev pub waiting_on : PairState → (link : ℕ) → List Message
waiting_on p link = waiting_by p link (far_end p link)

-- all that wait at the near end: those of each link, and then those of Held
abbrev pub waiting : PairState → List Message
waiting p =
    join_to (waiting_on p) (length p.near.exchange.settings.links)
    ++ users_to p.far.exchange.settings.own p.near.exchange.node.queues.held

-- of every kind of user message, as many were accepted at the near end as came to the far end, together with those that
-- wait
abbrev pub EachOnce : PairState → Type 0
EachOnce p =
    (test : Message → Bool) →
    count_by (user test) p.near.accepted ≡ count_by (user test) p.far.received + count_by (user test) (waiting p)

-- the messages of each flow come in the order in which they were accepted, and then those that wait
abbrev pub InOrder : PairState → Type 0
InOrder p =
    (flow : Flow) → of_flow flow p.near.accepted ≡ of_flow flow p.far.received ++ of_flow flow (waiting p)

-- ---- always

-- after every list of steps from two newly booted exchanges whose settings share a set
abbrev pub Always : (PairState → Type 0) → Type 0
Always Statement =
    (near far : Configuration) (steps : List Step) → AreSharing near far →
    Statement (after_steps steps (first_pair near far))

-- "Exactly once"
abbrev pub each_message_once : Type 0
each_message_once = Always (λ p. LostNothing p → BothWays EachOnce p)

-- "Order", if furthermore no T3 or T4 of the accepting end ended a hold
abbrev pub each_flow_in_order : Type 0
each_flow_in_order = Always (λ p. LostNothing p → BothWays (λ q. IsPunctual q → InOrder q) p)

-- ---- whatever has been lost

-- the books of the near end
pub record AreBooked (p : PairState) : Type 0 where
  -- everything that the near end accepted is for the far point, everything that it received is for its own, and all of
  -- it are user messages
  pub accepted : All (IsUserMessageTo p.far.exchange.settings.own) p.near.accepted
  pub received : All (IsUserMessageTo p.near.exchange.settings.own) p.near.received

abbrev pub books_are_of_the_two : Type 0
books_are_of_the_two = Always (λ p. BothWays AreBooked p)

-- one set alone leads to the far point, and the route over it is allowed (`first_route`); each flow there that has a
-- link has one that leads there; and no user message for the far point is on a link that leads elsewhere
pub record StaysBetween (p : PairState) : Type 0 where
  pub destination : ℕ
  pub known : destination_place p.near.exchange.settings p.far.exchange.settings.own ≡ Some destination
  pub set : ℕ
  pub leads : LeadsAlone p.near.exchange.settings p.far.exchange.settings.own set
  pub route : slice_index_or p.near.exchange.node.parts.routes destination [] ≡ first_route set ∷ []
  pub flows : (sls link : ℕ) →
      chosen_link (facts p.near.exchange.settings p.near.exchange.node.parts) destination sls ≡ Some link →
      peer_of p.near.exchange.settings link ≡ p.far.exchange.settings.own
  pub elsewhere : (link : ℕ) → leads_elsewhere p link ≡ true →
      users_to p.far.exchange.settings.own (queue_of p.near link).all ≡ []

abbrev pub flows_stay_between : Type 0
flows_stay_between = Always (λ p. BothWays StaysBetween p)
