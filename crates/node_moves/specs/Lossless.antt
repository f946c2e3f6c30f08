-- While no node has raised its flag of losses, no node is broken, and no message is gone.
use Rattle.std.specs.Prelude.{◌≡◌, ◌+◌, ℕ, Bool, false, List}
use Rattle.signalling_types.specs.Message.{Message}
use Rattle.settings.specs.Configuration.{Configuration}
use Rattle.exchange_rules.specs.State.{Parts, lost_any}
use Rattle.node_moves.specs.EndToEnd.{to_point, to_user_parts, total}
use Rattle.node_moves.specs.Fates.{is_delivered, is_refused, sccp_takes, made_at, met_at, submitted_at}
use Rattle.node_moves.specs.Laws.{AreTheirs, accepted_at, any_fate, came_from, waits_at}
use Rattle.node_moves.specs.Networks.{NetworkState, IsNode, Step, after_steps, first_network}

-- a node counts no message that it named as lost, and no break
pub record CountsNothing (p : Parts) : Type 0 where
  pub none_lost : p.messages_lost ≡ 0
  pub unbroken : p.times_broken ≡ 0

module _ (settings : (point : ℕ) → Configuration) (w : NetworkState) where
  -- no node may have lost a message
  abbrev pub HaveLostNothing : Type 0
  HaveLostNothing = (point : ℕ) → IsNode settings point → lost_any (w.node point).node.parts ≡ false

  -- the node law: by any test, the number of user messages that a node accepted is the sum of those that came from it
  -- to a neighbour and those that wait at it
  pub record EndsWhole (point : ℕ) : Type 0 where
    pub once : (test : Message → Bool) →
        accepted_at settings w test point ≡ came_from settings w test point + waits_at settings w test point

  -- and from end to end: the number handed over for a point is the sum of those that were delivered there, that some
  -- node refused, and that wait
  pub record ComeWhole (point : ℕ) : Type 0 where
    pub once : (test : Message → Bool) →
        total settings w (submitted_at settings w any_fate (to_user_parts point test))
        ≡ met_at settings w (is_delivered (settings point)) (to_user_parts point test) point
        + total settings w (met_at settings w is_refused (to_user_parts point test))
        + total settings w (waits_at settings w (to_user_parts point test))
    pub with_sccp : (test : Message → Bool) →
        total settings w (submitted_at settings w any_fate (to_point point test))
        + total settings w (made_at settings w (to_point point test))
        ≡ met_at settings w (is_delivered (settings point)) (to_point point test) point
        + met_at settings w (sccp_takes (settings point)) (to_point point test) point
        + total settings w (met_at settings w is_refused (to_point point test))
        + total settings w (waits_at settings w (to_point point test))

-- the flag of each node tells of all that it counts, after every list of steps, whatever the settings
abbrev pub flags_tell_of_each_loss : Type 0
flags_tell_of_each_loss =
    (settings : (point : ℕ) → Configuration) (steps : List Step) (point : ℕ) →
    lost_any ((after_steps settings steps (first_network settings)).node point).node.parts ≡ false →
    CountsNothing ((after_steps settings steps (first_network settings)).node point).node.parts

-- so while none is raised no message is gone. (A refusal raises none)
abbrev pub nodes_lose_nothing : Type 0
nodes_lose_nothing =
    (settings : (point : ℕ) → Configuration) (steps : List Step) (point : ℕ) → AreTheirs settings →
    IsNode settings point → HaveLostNothing settings (after_steps settings steps (first_network settings)) →
    EndsWhole settings (after_steps settings steps (first_network settings)) point

abbrev pub nothing_is_lost_from_end_to_end : Type 0
nothing_is_lost_from_end_to_end =
    (settings : (point : ℕ) → Configuration) (steps : List Step) (point : ℕ) → AreTheirs settings →
    IsNode settings point → HaveLostNothing settings (after_steps settings steps (first_network settings)) →
    ComeWhole settings (after_steps settings steps (first_network settings)) point
