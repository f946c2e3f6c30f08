-- The node law of exchanges in a network.
use Rattle.std.specs.Prelude.{◌≡◌, ◌<◌, ◌≤◌, ◌+◌, ◌-◌, ◌^◌, ◌&&◌, ℕ, Bool, true, not, nat_lt, List, [], length, drop}
use Rattle.std.specs.Prelude.{min, count_by, Option, Some, None, is_some}
use Rattle.signalling_types.specs.Message.{Message, is_management}
use Rattle.signalling_types.specs.declared.limits.TheConstants.Limits.{SIF_OCTETS}
use Rattle.settings.specs.Well.{IsWell}
use Rattle.settings.specs.Configuration.{Configuration}
use Rattle.exchange_rules.specs.Queues.{queue_at}
use Rattle.network_moves.specs.Networks.{sum_to}
use Rattle.node_moves.specs.Networks.{Fate, NetworkState, LinkEnd, Step, IsNode, other_end, after_steps, first_network}

-- user messages, of the lengths that nodes take in: of service indicators 2 to 15, and no longer than a signalling
-- information field. No longer one is counted
abbrev pub is_user : Message → Bool
is_user m = not (nat_lt SIF_OCTETS (length m.sif)) && not (is_management m)

-- how many user messages of a list pass a test
abbrev pub users_that : (Message → Bool) → List Message → ℕ
users_that test ms = count_by (λ m. is_user m && test m) ms

-- of those in a list of fates, how many pass a test, where the fate is of a kind
abbrev pub fates_that : (kind : Fate → Bool) → (Message → Bool) → List Fate → ℕ
fates_that kind test fs = count_by (λ f. is_user f.message && (kind f && test f.message)) fs

abbrev pub any_fate : Fate → Bool
any_fate f = true

-- the most that a node counts
abbrev pub most : ℕ
most = 2 ^ 64 - 1

-- ---- what becomes of the messages that a node accepted

module _ (settings : (point : ℕ) → Configuration) (w : NetworkState) where
  -- what came by a link to the other end of it, and how many messages that accepted since the link opened
  abbrev pub came_by : Option LinkEnd → List Fate
  came_by (Some there) = (w.node there.point).came there.link
  came_by None = []

  abbrev pub received_by : Option LinkEnd → ℕ
  received_by (Some there) = (queue_at (w.node there.point).node.queues there.link).received
  received_by None = 0

  -- the messages in a link's queue that the other end hasn't received: these wait on the link
  abbrev pub waiting_on : (point link : ℕ) → List Message
  waiting_on point link =
      drop (received_by (other_end settings point link)) (queue_at (w.node point).node.queues link).all

  module _ (test : Message → Bool) (point : ℕ) where
    abbrev pub accepted_at : ℕ
    accepted_at = users_that test (w.node point).accepted

    -- to a neighbour, by any of the node's links
    abbrev pub came_from : ℕ
    came_from =
        sum_to
        (λ link. fates_that any_fate test (came_by (other_end settings point link)))
        (length (settings point).links)

    -- in Held, or on a link's queue and not received at its other end
    abbrev pub waits_at : ℕ
    waits_at =
        users_that test (w.node point).node.queues.held
        + sum_to (λ link. users_that test (waiting_on point link)) (length (settings point).links)

    -- and how many of those accepted neither came nor wait. One that was named as lost while it was in flight is among
    -- them, but may still come
    abbrev pub gone_at : ℕ
    gone_at = accepted_at - (came_from + waits_at)

  -- by any test, those that came and those that wait are together no more than the node accepted: so much `once` says,
  -- since `gone_at` is what is left of these, or 0. So a message that it accepted once came to one neighbour at most,
  -- once at most, and doesn't wait if it came. And no more are gone, by any test, than the node named as lost; nor than
  -- it counts as named (`messages_lost`), up to the most that it counts
  pub record EndsOnce (point : ℕ) : Type 0 where
    pub once : (test : Message → Bool) →
        accepted_at test point ≡ came_from test point + waits_at test point + gone_at test point
    pub named : (test : Message → Bool) → gone_at test point ≤ users_that test (w.node point).named
    pub counted : (test : Message → Bool) → min (gone_at test point) most ≤ (w.node point).node.parts.messages_lost

  -- no node is broken: none stopped waiting for an answer that hadn't come, and none was given a number that names no
  -- count
  abbrev pub IsUnbroken : Type 0
  IsUnbroken = (point : ℕ) → IsNode settings point → (w.node point).node.parts.times_broken ≡ 0

-- each node is at its point, its settings are checked, and each of its links has another end
pub record AreTheirs (settings : (point : ℕ) → Configuration) : Type 0 where
  pub own : (point : ℕ) → IsNode settings point → (settings point).own ≡ point
  pub well : (point : ℕ) → IsNode settings point → IsWell (settings point)
  pub joined : (point link : ℕ) → IsNode settings point → link < length (settings point).links →
      is_some (other_end settings point link) ≡ true

abbrev pub each_message_of_a_node_ends_once : Type 0
each_message_of_a_node_ends_once =
    (settings : (point : ℕ) → Configuration) (steps : List Step) (point : ℕ) → AreTheirs settings →
    IsNode settings point → IsUnbroken settings (after_steps settings steps (first_network settings)) →
    EndsOnce settings (after_steps settings steps (first_network settings)) point
