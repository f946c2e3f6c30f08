-- Order over a path of nodes. What a node passes on stays in the order in which it came; so if each hop of a path keeps
-- a flow in order, the path does.
use Rattle.std.specs.Prelude.{◌≡◌, ◌+◌, ℕ, ⊤, Bool, List, [], ◌∷◌, ◌++◌, All, Option, Some, None, count_by, drop, filter, length, map}
use Rattle.signalling_types.specs.Message.{Message}
use Rattle.signalling_types.specs.declared.point.Flow.{Flow}
use Rattle.settings.specs.Configuration.{Configuration}
use Rattle.changeover.specs.Changeover.{users_of}
use Rattle.pair_moves.specs.Order.{join_to}
use Rattle.pair_rules.specs.Pairs.{PairState}
use Rattle.pair_rules.specs.Promises.{IsPunctual, LostNothing, of_flow, queue_of}
use Rattle.pair_rules.specs.Sharing.{AreSharing}
use Rattle.neighbour_rules.specs.Neighbours.{far_end}
use Rattle.neighbour_rules.specs.Promises.{accepted_there}
use Rattle.neighbour_rules.specs.Anew.{IsQuietPair, LostNothingSince, Stays, times_late}
use Rattle.network_rules.specs.Networks.{NetworkNode, NetworkState, first_network, goes_onward}
use Rattle.network_rules.specs.Outside.{Move, after_moves}
use Rattle.network_rules.specs.Pairs.{AreTheirPoints, AreWellOrAlone, came_from, pair_of}
use Rattle.network_rules.specs.Totals.{received_at}
use Rattle.network_rules.specs.Anew.{AfterChanges, Change, IsStepOrThird, after_all, begun_anew}

-- the messages of one list and those of another, in some order that keeps that of each
pub data AreMerged : (one other both : List Message) → Type 0 where
  none : AreMerged [] [] []
  from_one : (m : Message) (one other both : List Message) → AreMerged one other both →
      AreMerged (m ∷ one) other (m ∷ both)
  from_other : (m : Message) (one other both : List Message) → AreMerged one other both →
      AreMerged one (m ∷ other) (m ∷ both)

-- ---- at a node

-- all that came to a node for another point
abbrev pub onward_at : NetworkNode → List Message
onward_at x = filter (goes_onward x.exchange.settings) (map (λ a. a.message) x.arrived)

-- of the user messages, those that it passed on are, in order, those that came for another point, but for those that it
-- refused; and all that it accepted are these and those that entered there, each in order
pub record PassesInOrder (x : NetworkNode) : Type 0 where
  pub passed : List Message
  pub came : AreMerged passed x.refused (users_of (onward_at x))
  pub accepted : AreMerged passed (users_of x.entered) (users_of x.accepted)

-- so it is at each node, from any network on, of what is booked from then on: whatever is done or lost, and however
-- often nodes start again
abbrev pub each_node_passes_in_order : Type 0
each_node_passes_in_order =
    (w : NetworkState) (changes : List Change) (point : ℕ) →
    PassesInOrder ((after_all changes (begun_anew w)).node point)

-- and whatever comes from outside
abbrev pub each_node_passes_what_comes_in_order : Type 0
each_node_passes_what_comes_in_order =
    (w : NetworkState) (moves : List Move) (point : ℕ) → PassesInOrder ((after_moves moves (begun_anew w)).node point)

-- at first nothing is booked
abbrev pub books_begin_empty : Type 0
books_begin_empty =
    (settings : (point : ℕ) → Configuration) → begun_anew (first_network settings) ≡ first_network settings

-- ---- over a hop

-- the user messages of a flow that came to one point from another
abbrev pub came_over : Flow → NetworkState → (from to : ℕ) → List Message
came_over flow w from to =
    of_flow flow (came_from (w.node to).exchange.settings (w.node from).exchange.settings (w.node to).arrived)

-- the messages of a link that wait, if it leads to the far end: those after the count that the far end accepted
abbrev pub waits_on : PairState → (link : ℕ) → (other : Option ℕ) → List Message
waits_on p link (Some other) = drop (accepted_there p link other) (queue_of p.near link).all
waits_on p link None = []

-- those of the flow that wait at one point for another: on the links that lead there, and in Held
abbrev pub waits_over : Flow → NetworkState → (from to : ℕ) → List Message
waits_over flow w from to =
    of_flow
    flow
    (join_to
    (λ link. waits_on (pair_of w from to) link (far_end (pair_of w from to) link))
    (length (w.node from).exchange.settings.links)
    ++ (w.node from).exchange.node.queues.held)

-- what a point accepted of the flow is, in order, what came to the next one, and then what waits
abbrev pub KeepsInOrder : Flow → NetworkState → (from to : ℕ) → Type 0
KeepsInOrder flow w from to =
    of_flow flow (w.node from).accepted ≡ came_over flow w from to ++ waits_over flow w from to

-- ---- over a path: a point, and those after it

-- each hop keeps the flow in order
abbrev pub EachHopInOrder : Flow → NetworkState → (first : ℕ) → (rest : List ℕ) → Type 0
EachHopInOrder flow w first [] = ⊤
EachHopInOrder flow w first (next ∷ rest) = KeepsInOrder flow w first next × EachHopInOrder flow w next rest

-- at a point between, the flow comes from the one before, and from nowhere else
pub record OnlyPasses (flow : Flow) (w : NetworkState) (from point : ℕ) : Type 0 where
  pub comes : of_flow flow (map (λ a. a.message) (w.node point).arrived) ≡ came_over flow w from point
  pub enters : of_flow flow (w.node point).entered ≡ []

abbrev pub EachOnlyPasses : Flow → NetworkState → (first : ℕ) → (rest : List ℕ) → Type 0
EachOnlyPasses flow w first [] = ⊤
EachOnlyPasses flow w first (last ∷ []) = ⊤
EachOnlyPasses flow w first (next ∷ another ∷ rest) =
    OnlyPasses flow w first next × EachOnlyPasses flow w next (another ∷ rest)

-- what came to the last point of a path from the one before, where this came to the first
abbrev pub came_last : Flow → NetworkState → (came : List Message) → (first : ℕ) → (rest : List ℕ) → List Message
came_last flow w came first [] = came
came_last flow w came first (next ∷ rest) = came_last flow w (came_over flow w first next) next rest

-- how many that pass a test wait on the way, were refused there, or ended at a point between
abbrev pub left_on : (test : Message → Bool) → Flow → NetworkState → (first : ℕ) → (rest : List ℕ) → ℕ
left_on test flow w first [] = 0
left_on test flow w first (last ∷ []) = count_by test (waits_over flow w first last)
left_on test flow w first (next ∷ another ∷ rest) =
    count_by test (waits_over flow w first next)
    + count_by test (of_flow flow (w.node next).refused)
    + count_by test (of_flow flow (received_at w next))
    + left_on test flow w next (another ∷ rest)

-- what the first point accepted of the flow is made up of what came to the last one, in the order in which it was
-- accepted, and of what is left on the way
pub record ComesInOrder (flow : Flow) (w : NetworkState) (first : ℕ) (rest : List ℕ) : Type 0 where
  pub left : List Message
  pub order :
      AreMerged (came_last flow w (of_flow flow (w.node first).accepted) first rest) left
      (of_flow flow (w.node first).accepted)
  pub counted : (test : Message → Bool) → count_by test left ≡ left_on test flow w first rest

-- so it is over each path of which each hop keeps the flow in order
abbrev pub paths_keep_the_order_of_their_hops : Type 0
paths_keep_the_order_of_their_hops =
    (w : NetworkState) (changes : List Change) (flow : Flow) (first : ℕ) (rest : List ℕ) →
    EachHopInOrder flow (after_all changes (begun_anew w)) first rest →
    EachOnlyPasses flow (after_all changes (begun_anew w)) first rest →
    ComesInOrder flow (after_all changes (begun_anew w)) first rest

-- ---- the last hop, where the flow is for the last point

-- it keeps the flow in order while neither of its two nodes may have lost a message, and no T3 or T4 of the former one
-- ended a hold, whatever comes from outside
abbrev pub last_hops_keep_flows_in_order : Type 0
last_hops_keep_flows_in_order =
    (settings : (point : ℕ) → Configuration) (moves : List Move) (near far sls : ℕ) → AreTheirPoints settings →
    AreWellOrAlone settings → AreSharing (settings near) (settings far) →
    LostNothing (pair_of (after_moves moves (first_network settings)) near far) →
    IsPunctual (pair_of (after_moves moves (first_network settings)) near far) →
    KeepsInOrder (record { point = far; sls = sls }) (after_moves moves (first_network settings)) near far

-- and anew whenever nothing is left between the two
abbrev pub last_hops_begin_anew : Type 0
last_hops_begin_anew =
    AfterChanges (λ near far w.
    IsQuietPair (pair_of w near far) →
    (later : List Change) (sls : ℕ) → All (IsStepOrThird near far) later →
    LostNothingSince (pair_of w near far) (pair_of (after_all later (begun_anew w)) near far) →
    Stays (times_late (pair_of w near far)) (times_late (pair_of (after_all later (begun_anew w)) near far)) →
    KeepsInOrder (record { point = far; sls = sls }) (after_all later (begun_anew w)) near far)
