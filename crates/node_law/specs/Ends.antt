-- The node law of a network: what becomes of the user messages that each node accepted, whatever the routes, and
-- however many ways lead to a point.
use Rattle.std.specs.Prelude.{◌≡◌, ◌≤◌, ◌+◌, ◌-◌, ℕ, Bool, true, List, [], length, min, Option, Some, None}
use Rattle.signalling_types.specs.Message.{Message}
use Rattle.settings.specs.Configuration.{Configuration}
use Rattle.network_moves.specs.Networks.{sum_to}
use Rattle.node_moves.specs.Laws.{most, users_that}
use Rattle.network_rules.specs.Networks.{NetworkState, Place, first_network, other_end}
use Rattle.network_rules.specs.Outside.{Move, after_moves}
use Rattle.network_rules.specs.Paths.{onward_at}
use Rattle.network_rules.specs.Totals.{HaveLostNothing, IsPlaced, is_listed, waiting_at}
use Rattle.node_law.specs.Alike.{AreLinked, came_by}

module _ (w : NetworkState) where
  -- what came by a link to the other end of it
  abbrev pub came_there : Option Place → List Message
  came_there (Some there) = came_by there.link (w.node there.point).arrived
  came_there None = []

  -- how many pass a test, of the user messages that nodes take in
  module _ (test : Message → Bool) (point : ℕ) where
    abbrev pub accepted_at : ℕ
    accepted_at = users_that test (w.node point).accepted

    -- to a neighbour, by any of the node's links
    abbrev pub came_from : ℕ
    came_from =
        sum_to
        (λ link. users_that test (came_there (other_end w point link)))
        (length (w.node point).exchange.settings.links)

    -- in Held, or on a link and not received at its other end
    abbrev pub waits_at : ℕ
    waits_at = users_that test (waiting_at w point)

    -- and how many of those accepted neither came nor wait
    abbrev pub gone_at : ℕ
    gone_at = accepted_at - (came_from + waits_at)

  -- by any test, those that came and those that wait are together no more than the node accepted: so much `once` says,
  -- since `gone_at` is what is left of these, or 0. So a message that it accepted once came to one neighbour at most,
  -- once at most, and doesn't wait if it came. And no more are gone than the node counts as lost (`messages_lost`), up
  -- to the most that it counts
  pub record EndsOnce (point : ℕ) : Type 0 where
    pub once : (test : Message → Bool) →
        accepted_at test point ≡ came_from test point + waits_at test point + gone_at test point
    pub counted : (test : Message → Bool) →
        min (gone_at test point) most ≤ (w.node point).exchange.node.parts.messages_lost

  -- none is gone
  pub record EndsWhole (point : ℕ) : Type 0 where
    pub once : (test : Message → Bool) →
        accepted_at test point ≡ came_from test point + waits_at test point

  -- by any test, what a node accepted, and what it refused of the messages for other points, is what entered the
  -- network there, and what came for other points. So the node laws of neighbours are joined
  pub record TakesOrRefuses (point : ℕ) : Type 0 where
    pub once : (test : Message → Bool) →
        accepted_at test point + users_that test (w.node point).refused
        ≡ users_that test (w.node point).entered + users_that test (onward_at (w.node point))

-- none of these nodes counts a break
abbrev pub AreUnbroken : (points : List ℕ) → NetworkState → Type 0
AreUnbroken points w =
    (point : ℕ) → is_listed points point ≡ true → (w.node point).exchange.node.parts.times_broken ≡ 0

-- ---- always

-- after every list of moves of a network each of whose links has its other end in it
abbrev pub Always : (Statement : (points : List ℕ) → NetworkState → Type 0) → Type 0
Always Statement =
    (settings : (point : ℕ) → Configuration) (points : List ℕ) (moves : List Move) → IsPlaced settings points →
    AreLinked (first_network settings) → Statement points (after_moves moves (first_network settings))

-- after every list of moves of any network, whatever was lost or broken, and whatever comes by links that lead out
abbrev pub what_comes_is_taken_or_refused : Type 0
what_comes_is_taken_or_refused =
    (settings : (point : ℕ) → Configuration) (moves : List Move) (point : ℕ) →
    TakesOrRefuses (after_moves moves (first_network settings)) point

-- while no node counts a break, at each of them
abbrev pub each_message_ends_once : Type 0
each_message_ends_once =
    Always (λ points w. AreUnbroken points w → (point : ℕ) → is_listed points point ≡ true → EndsOnce w point)

-- and while none may have lost a message
abbrev pub nodes_lose_nothing : Type 0
nodes_lose_nothing =
    Always (λ points w. HaveLostNothing points w → (point : ℕ) → is_listed points point ≡ true → EndsWhole w point)
