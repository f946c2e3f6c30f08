-- From end to end, over all nodes of a network, whatever the routes, and however many ways lead to a point.
use Rattle.std.specs.Prelude.{◌≡◌, ◌+◌, ◌&&◌, ℕ, Bool, true, List, sum_by}
use Rattle.signalling_types.specs.Message.{Message}
use Rattle.settings.specs.Configuration.{Configuration}
use Rattle.node_moves.specs.Laws.{users_that}
use Rattle.network_rules.specs.Networks.{NetworkState}
use Rattle.network_rules.specs.Totals.{HaveLostNothing, is_for, is_listed, received_at, waiting_at}
use Rattle.node_law.specs.Ends.{Always, AreUnbroken, gone_at}

-- how many pass a test, of the user messages that are listed for each point
abbrev pub users_in_all : (test : Message → Bool) → (points : List ℕ) → (list : (point : ℕ) → List Message) → ℕ
users_in_all test points list = sum_by (λ point. users_that test (list point)) points

module _ (points : List ℕ) (w : NetworkState) where
  -- by any test, as many user messages entered the network as were received at a node that they aren't to leave, as
  -- wait in nodes, as were refused by a node on the way, and as are gone
  pub record AreAccountedFor : Type 0 where
    pub once : (test : Message → Bool) →
        users_in_all test points (λ point. (w.node point).entered)
        ≡ users_in_all test points (received_at w)
        + users_in_all test points (waiting_at w)
        + users_in_all test points (λ point. (w.node point).refused)
        + sum_by (gone_at w test) points

  -- none is gone
  pub record IsWhole : Type 0 where
    pub once : (test : Message → Bool) →
        users_in_all test points (λ point. (w.node point).entered)
        ≡ users_in_all test points (received_at w)
        + users_in_all test points (waiting_at w)
        + users_in_all test points (λ point. (w.node point).refused)

  -- of those for the node with these settings, as many entered as it received, as wait, as were refused on the way, and
  -- as are gone. So one that entered once, at whatever node, was received once at most
  module _ (c : Configuration) where
    pub record ComeToNode : Type 0 where
      pub once : (test : Message → Bool) →
          users_in_all (λ m. is_for c m && test m) points (λ point. (w.node point).entered)
          ≡ users_that (λ m. is_for c m && test m) (received_at w c.own)
          + users_in_all (λ m. is_for c m && test m) points (waiting_at w)
          + users_in_all (λ m. is_for c m && test m) points (λ point. (w.node point).refused)
          + sum_by (gone_at w (λ m. is_for c m && test m)) points

    -- none is gone
    pub record ComeWhole : Type 0 where
      pub once : (test : Message → Bool) →
          users_in_all (λ m. is_for c m && test m) points (λ point. (w.node point).entered)
          ≡ users_that (λ m. is_for c m && test m) (received_at w c.own)
          + users_in_all (λ m. is_for c m && test m) points (waiting_at w)
          + users_in_all (λ m. is_for c m && test m) points (λ point. (w.node point).refused)

-- where all nodes have the network indicator of one, it is so of the messages for that
abbrev pub ToEach : (Statement : (points : List ℕ) → NetworkState → Configuration → Type 0)
    → (points : List ℕ) → NetworkState → Type 0
ToEach Statement points w =
    (point : ℕ) → is_listed points point ≡ true →
    ((other : ℕ) → is_listed points other ≡ true →
    (w.node other).exchange.settings.network ≡ (w.node point).exchange.settings.network) →
    Statement points w (w.node point).exchange.settings

-- ---- always

-- the first while no node counts a break, the second while none may have lost a message
abbrev pub each_message_is_accounted_for : Type 0
each_message_is_accounted_for = Always (λ points w. AreUnbroken points w → AreAccountedFor points w)

abbrev pub networks_lose_nothing : Type 0
networks_lose_nothing = Always (λ points w. HaveLostNothing points w → IsWhole points w)

abbrev pub messages_come_from_end_to_end : Type 0
messages_come_from_end_to_end = Always (λ points w. AreUnbroken points w → ToEach ComeToNode points w)

abbrev pub nothing_is_lost_from_end_to_end : Type 0
nothing_is_lost_from_end_to_end = Always (λ points w. HaveLostNothing points w → ToEach ComeWhole points w)
