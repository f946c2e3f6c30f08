-- A network anew: the node law, and what becomes of messages from end to end, from each state on in which nothing is left
-- at any node, whatever was lost or broken before, and however often nodes have started again.
use Rattle.std.specs.Prelude.{◌≡◌, ◌≤◌, ◌<◌, ◌+◌, ℕ, Bool, min, List, [], length}
use Rattle.signalling_types.specs.Message.{Message}
use Rattle.settings.specs.Configuration.{Configuration}
use Rattle.node_moves.specs.Anew.{Change, IsQuietEnd, Stays, after_changes, begun_anew}
use Rattle.node_moves.specs.EndToEnd.{ComeFromEndToEnd, IsAccounted}
use Rattle.node_moves.specs.Laws.{AreTheirs, accepted_at, came_from, gone_at, most, users_that, waits_at}
use Rattle.node_moves.specs.Lossless.{ComeWhole, EndsWhole}
use Rattle.node_moves.specs.Networks.{NetworkState, IsNode, Step, after_steps, first_network}

module _ (settings : (point : ℕ) → Configuration) where
  -- each link of a node is quiet at its end there, and nothing is in its Held
  pub record IsQuietAlone (w : NetworkState) (point : ℕ) : Type 0 where
    pub links : (link : ℕ) → link < length (settings point).links → IsQuietEnd (w.node point) link
    pub held : (w.node point).node.queues.held ≡ []

  -- so it is at all nodes
  abbrev pub IsQuietNetwork : NetworkState → Type 0
  IsQuietNetwork w = (point : ℕ) → IsNode settings point → IsQuietAlone w point

  module _ (before w : NetworkState) where
    -- no node was broken since
    abbrev pub NoneBrokenSince : Type 0
    NoneBrokenSince =
        (point : ℕ) → IsNode settings point →
        Stays (before.node point).node.parts.times_broken (w.node point).node.parts.times_broken

    -- none may have lost a message since
    abbrev pub NoneLostSince : Type 0
    NoneLostSince =
        (point : ℕ) → IsNode settings point →
        Stays (before.node point).node.parts.times_lost (w.node point).node.parts.times_lost

    -- the node law, of what a node accepted since then
    pub record EndsOnceSince (point : ℕ) : Type 0 where
      pub once : (test : Message → Bool) →
          accepted_at settings w test point
          ≡ came_from settings w test point + waits_at settings w test point + gone_at settings w test point
      pub named : (test : Message → Bool) → gone_at settings w test point ≤ users_that test (w.node point).named
      pub counted : (test : Message → Bool) →
          min ((before.node point).node.parts.messages_lost + gone_at settings w test point) most
          ≤ (w.node point).node.parts.messages_lost

-- a statement of what the nodes did since a network was quiet, after every list of steps from there on
abbrev pub SinceQuiet :
    (((point : ℕ) → Configuration) → (before w : NetworkState) → Type 0) →
    (((point : ℕ) → Configuration) → (before w : NetworkState) → Type 0) → Type 0
SinceQuiet Premise Statement =
    (settings : (point : ℕ) → Configuration) (before : List Change) (steps : List Step) → AreTheirs settings →
    IsQuietNetwork settings (after_changes settings before (first_network settings)) →
    Premise settings
    (after_changes settings before (first_network settings))
    (after_steps settings steps (begun_anew (after_changes settings before (first_network settings)))) →
    Statement settings
    (after_changes settings before (first_network settings))
    (after_steps settings steps (begun_anew (after_changes settings before (first_network settings))))

-- the node law begins anew, while no node is broken once more
abbrev pub nodes_begin_anew : Type 0
nodes_begin_anew =
    SinceQuiet NoneBrokenSince (λ settings before w. (point : ℕ) → IsNode settings point →
    EndsOnceSince settings before w point)

-- and so do both laws from end to end
abbrev pub ends_begin_anew : Type 0
ends_begin_anew =
    SinceQuiet NoneBrokenSince (λ settings before w. (point : ℕ) → IsNode settings point →
    ComeFromEndToEnd settings w point)

abbrev pub sums_begin_anew : Type 0
sums_begin_anew = SinceQuiet NoneBrokenSince (λ settings before w. IsAccounted settings w)

-- and while no node counts a loss, none is gone: at each node
abbrev pub nodes_lose_nothing_anew : Type 0
nodes_lose_nothing_anew =
    SinceQuiet NoneLostSince (λ settings before w. (point : ℕ) → IsNode settings point →
    EndsWhole settings w point)

-- and from end to end
abbrev pub nothing_is_lost_from_end_to_end_anew : Type 0
nothing_is_lost_from_end_to_end_anew =
    SinceQuiet NoneLostSince (λ settings before w. (point : ℕ) → IsNode settings point →
    ComeWhole settings w point)

-- the first network is quiet
abbrev pub first_networks_are_quiet : Type 0
first_networks_are_quiet =
    (settings : (point : ℕ) → Configuration) → IsQuietNetwork settings (first_network settings)
