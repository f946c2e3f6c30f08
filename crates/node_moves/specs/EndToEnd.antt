-- From end to end, over all nodes of a network: what becomes of the user messages for one point, and of all together.
use Rattle.std.specs.Prelude.{◌≡◌, ◌≤◌, ◌+◌, ◌&&◌, ℕ, Bool, not, nat_eq, List, if◌then◌else◌}
use Rattle.signalling_types.specs.Message.{Message, dpc_of}
use Rattle.settings.specs.Configuration.{Configuration}
use Rattle.network_moves.specs.Networks.{sum_to}
use Rattle.node_moves.specs.Fates.{is_delivered, is_refused, sccp_takes, is_sccp, made_at, met_at, submitted_at}
use Rattle.node_moves.specs.Laws.{AreTheirs, IsUnbroken, any_fate, gone_at, users_that, waits_at}
use Rattle.node_moves.specs.Networks.{NetworkState, IsNode, Step, is_node, points, after_steps, first_network}

-- of the messages that pass a test, those for a point, by their destination
abbrev pub to_point : (point : ℕ) → (Message → Bool) → Message → Bool
to_point point test m = nat_eq (dpc_of m) point && test m

-- those for user parts, SCCP apart
abbrev pub for_user_parts : (Message → Bool) → Message → Bool
for_user_parts test m = not (is_sccp m) && test m

-- and those that are both: for the user parts of a point, SCCP apart
abbrev pub to_user_parts : (point : ℕ) → (Message → Bool) → Message → Bool
to_user_parts point test = for_user_parts (to_point point test)

module _ (settings : (point : ℕ) → Configuration) (w : NetworkState) where
  -- over all nodes
  abbrev pub total : ((point : ℕ) → ℕ) → ℕ
  total at = sum_to (λ point. if is_node settings point then at point else 0) points

  pub record ComeFromEndToEnd (point : ℕ) : Type 0 where
    -- By any test, the number of user messages for the user parts of the point, SCCP apart, that were handed over, at
    -- whatever nodes, is the sum of those that were delivered there, that some node refused, that wait at some node,
    -- and that are gone. So one that was handed over once was delivered at most once
    pub once : (test : Message → Bool) →
        total (submitted_at settings w any_fate (to_user_parts point test))
        ≡ met_at settings w (is_delivered (settings point)) (to_user_parts point test) point
        + total (met_at settings w is_refused (to_user_parts point test))
        + total (waits_at settings w (to_user_parts point test))
        + total (gone_at settings w (to_user_parts point test))
    -- with those for its SCCP, what SCCP makes for the point, at whatever nodes, is added to the number handed over,
    -- and what SCCP takes there to the sum
    pub with_sccp : (test : Message → Bool) →
        total (submitted_at settings w any_fate (to_point point test))
        + total (made_at settings w (to_point point test))
        ≡ met_at settings w (is_delivered (settings point)) (to_point point test) point
        + met_at settings w (sccp_takes (settings point)) (to_point point test) point
        + total (met_at settings w is_refused (to_point point test))
        + total (waits_at settings w (to_point point test))
        + total (gone_at settings w (to_point point test))
    -- and no more are gone, by any test and for whatever points, than nodes named as lost
    pub named : (test : Message → Bool) →
        total (gone_at settings w test) ≤ total (λ other. users_that test (w.node other).named)

  -- The same of the whole network, for messages to all points, including those without a node. By any test, the number
  -- of user messages that were handed over, SCCP apart, is the sum of those that were delivered, that some node refused,
  -- that wait at some node, and that are gone, at all nodes together
  pub record IsAccounted : Type 0 where
    pub once : (test : Message → Bool) →
        total (submitted_at settings w any_fate (for_user_parts test))
        ≡ total (λ other. met_at settings w (is_delivered (settings other)) (for_user_parts test) other)
        + total (met_at settings w is_refused (for_user_parts test))
        + total (waits_at settings w (for_user_parts test))
        + total (gone_at settings w (for_user_parts test))
    -- with those for SCCP, what SCCP makes is added to the number handed over, and what it takes to the sum
    pub with_sccp : (test : Message → Bool) →
        total (submitted_at settings w any_fate test) + total (made_at settings w test)
        ≡ total (λ other. met_at settings w (is_delivered (settings other)) test other)
        + total (λ other. met_at settings w (sccp_takes (settings other)) test other)
        + total (met_at settings w is_refused test)
        + total (waits_at settings w test)
        + total (gone_at settings w test)

-- both hold after every list of steps, while no node is broken; the first of each point that has a node
abbrev pub messages_come_from_end_to_end : Type 0
messages_come_from_end_to_end =
    (settings : (point : ℕ) → Configuration) (steps : List Step) (point : ℕ) → AreTheirs settings →
    IsNode settings point → IsUnbroken settings (after_steps settings steps (first_network settings)) →
    ComeFromEndToEnd settings (after_steps settings steps (first_network settings)) point

abbrev pub each_message_is_accounted_for : Type 0
each_message_is_accounted_for =
    (settings : (point : ℕ) → Configuration) (steps : List Step) → AreTheirs settings →
    IsUnbroken settings (after_steps settings steps (first_network settings)) →
    IsAccounted settings (after_steps settings steps (first_network settings))
