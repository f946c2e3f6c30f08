-- A hop, from one node to an adjacent one: what becomes of the messages that the near node accepted for the far one,
-- where one set alone leads from each of the two to the other.
use Rattle.std.specs.Prelude.{◌≡◌, ◌≤◌, ◌+◌, ◌-◌, ℕ, Bool, false, min, nat_eq, List, length, if◌then◌else◌}
use Rattle.signalling_types.specs.Message.{Message}
use Rattle.settings.specs.Configuration.{Configuration}
use Rattle.settings.specs.Sharing.{LeadsAlone}
use Rattle.exchange_rules.specs.Routing.{peer_of}
use Rattle.exchange_rules.specs.State.{lost_any}
use Rattle.network_moves.specs.Networks.{sum_to}
use Rattle.node_moves.specs.EndToEnd.{to_point}
use Rattle.node_moves.specs.Laws.{AreTheirs, accepted_at, any_fate, came_by, fates_that, most, users_that, waiting_on}
use Rattle.node_moves.specs.Networks.{NetworkState, IsNode, Step, other_end, after_steps, first_network}

module _ (settings : (point : ℕ) → Configuration) (near far : ℕ) where
  -- each node has a set that alone leads to the other's point
  pub record IsHop : Type 0 where
    pub near_set : ℕ
    pub far_set : ℕ
    pub near_leads : LeadsAlone (settings near) far near_set
    pub far_leads : LeadsAlone (settings far) near far_set

  -- the sum over the links of the near node that lead to the far one
  abbrev pub over_hop : ((link : ℕ) → ℕ) → ℕ
  over_hop at =
      sum_to
      (λ link. if nat_eq (peer_of (settings near) link) far then at link else 0)
      (length (settings near).links)

  module _ (w : NetworkState) (test : Message → Bool) where
    -- accepted by the near node, for the far one
    abbrev pub accepted_for : ℕ
    accepted_for = accepted_at settings w (to_point far test) near

    -- of these, those that came to the far node by a link from the near one
    abbrev pub came_over : ℕ
    came_over =
        over_hop (λ link. fates_that any_fate (to_point far test) (came_by settings w (other_end settings near link)))

    -- those that wait at the near node, in Held or on a link to the far one
    abbrev pub waits_for : ℕ
    waits_for =
        users_that (to_point far test) (w.node near).node.queues.held
        + over_hop (λ link. users_that (to_point far test) (waiting_on settings w near link))

    -- and how many neither came nor wait
    abbrev pub gone_for : ℕ
    gone_for = accepted_for - (came_over + waits_for)

  -- by any test, of the messages for the far node that the near one accepted, those that came to it from there and those
  -- that wait are together no more than were accepted. So one that was accepted once comes at most once, and doesn't wait
  -- if it came. And no more are gone than the near node named as lost; nor than it counts, up to the most that it counts
  pub record ComesOver (w : NetworkState) : Type 0 where
    pub once : (test : Message → Bool) → accepted_for w test ≡ came_over w test + waits_for w test + gone_for w test
    pub named : (test : Message → Bool) → gone_for w test ≤ users_that (to_point far test) (w.node near).named
    pub counted : (test : Message → Bool) → min (gone_for w test) most ≤ (w.node near).node.parts.messages_lost

  -- neither of the two is broken, whatever the others are
  pub record AreUnbroken (w : NetworkState) : Type 0 where
    pub near_whole : (w.node near).node.parts.times_broken ≡ 0
    pub far_whole : (w.node far).node.parts.times_broken ≡ 0

  -- neither of the two has raised its flag of losses
  pub record HaveNoFlag (w : NetworkState) : Type 0 where
    pub near_none : lost_any (w.node near).node.parts ≡ false
    pub far_none : lost_any (w.node far).node.parts ≡ false

-- so it is after every list of steps, while neither of the two is broken
abbrev pub messages_come_over_a_hop : Type 0
messages_come_over_a_hop =
    (settings : (point : ℕ) → Configuration) (steps : List Step) (near far : ℕ) → AreTheirs settings →
    IsNode settings near → IsNode settings far → IsHop settings near far →
    AreUnbroken settings near far (after_steps settings steps (first_network settings)) →
    ComesOver settings near far (after_steps settings steps (first_network settings))

-- and while neither has raised its flag, none is gone
abbrev pub nothing_is_lost_over_a_hop : Type 0
nothing_is_lost_over_a_hop =
    (settings : (point : ℕ) → Configuration) (steps : List Step) (near far : ℕ) (test : Message → Bool) →
    AreTheirs settings → IsNode settings near → IsNode settings far → IsHop settings near far →
    HaveNoFlag settings near far (after_steps settings steps (first_network settings)) →
    accepted_for settings near far (after_steps settings steps (first_network settings)) test
    ≡ came_over settings near far (after_steps settings steps (first_network settings)) test
    + waits_for settings near far (after_steps settings steps (first_network settings)) test
