-- The runs of the mated pair of `node_moves`, as runs of a network of these laws: its mates are a hop, over which a
-- message comes while a third point breaks; and one comes anew after a mate has started again.
use Rattle.std.specs.Prelude.{◌≡◌, List, [], ◌∷◌, ◌++◌, map}
use Rattle.node_moves.specs.Anew as anew
use Rattle.node_moves.specs.AnewRun.{message_four, next, restarting, return}
use Rattle.node_moves.specs.HopRun.{breaking, message_three}
use Rattle.node_moves.specs.MatedPair.{mated}
use Rattle.node_moves.specs.MatedRun.{cross, opening, sends, settling, submits, users}
use Rattle.node_moves.specs.Networks as nodes
use Rattle.pair_rules.specs.Pairs as pairs
use Rattle.network_rules.specs.Anew.{Change, GivesUp, Restarts, Steps, after_all, begun_anew}
use Rattle.network_rules.specs.Networks.{NetworkState, Step, after_steps, first_network}
use Rattle.node_law.specs.Alike.{came_by}
use Rattle.node_law.specs.Anew.{AreInTimeSince, IsHopSince}
use Rattle.node_law.specs.Hops.{AreBothUnbroken, AreHop, AreInTime, HaveNoFlag}
use Rattle.node_law.specs.Mated.{mated_points}

-- what is done at a node, as these laws say it
abbrev pub as_doing : nodes.Doing → pairs.Doing
as_doing (nodes.Submits message) = pairs.Submits message
as_doing (nodes.Takes link) = pairs.Takes link
as_doing (nodes.Delivers link) = pairs.Delivers link
as_doing (nodes.DeliversStatus link) = pairs.DeliversStatus link
as_doing (nodes.LosesStatus link) = pairs.LosesStatus link
as_doing (nodes.DoublesStatus link) = pairs.DoublesStatus link
as_doing (nodes.Loses link) = pairs.Loses link
as_doing nodes.Ticks = pairs.Ticks
as_doing (nodes.Activates link emergency) = pairs.Activates link emergency
as_doing (nodes.Deactivates link) = pairs.Deactivates link
as_doing (nodes.Releases link) = pairs.Releases link
as_doing (nodes.AddsTitle row is_memory_refused) = pairs.AddsTitle row is_memory_refused
as_doing (nodes.SetsTitle row is_memory_refused) = pairs.SetsTitle row is_memory_refused
as_doing (nodes.RemovesTitle key digits) = pairs.RemovesTitle key digits
as_doing (nodes.OpensFirst link) = pairs.OpensFirst link
as_doing (nodes.OpensSecond link) = pairs.OpensSecond link

abbrev pub as_step : nodes.Step → Step
as_step s = record { point = s.point; what = as_doing s.what }

abbrev pub as_steps : List nodes.Step → List Step
as_steps steps = map as_step steps

-- what is done to a network; nothing comes from outside
abbrev pub as_change : anew.Change → List Change
as_change (anew.Does step) = Steps (as_step step) ∷ []
as_change (anew.Restarts point) = Restarts point ∷ []
as_change (anew.GivesUp point link) = GivesUp point link ∷ []
as_change (anew.OpensOutside point link) = []
as_change (anew.ComesOutside point link text) = []

abbrev pub as_changes : List anew.Change → List Change
as_changes [] = []
as_changes (change ∷ changes) = as_change change ++ as_changes changes

-- ---- a message comes over the hop

-- all links are in service
abbrev pub served : NetworkState
served = after_steps (as_steps (opening ++ settling)) (first_network mated)

abbrev pub come_over : NetworkState
come_over = after_steps (as_steps (submits message_three ∷ breaking ++ sends cross)) served

pub record MatesCarry : Type 0 where
  -- what the laws of hops ask
  pub hop : AreHop mated_points come_over 1 2
  pub whole : AreBothUnbroken come_over 1 2
  pub lossless : HaveNoFlag come_over 1 2
  pub in_time : AreInTime come_over 1 2
  -- point 3 counts a break
  pub broken : (come_over.node 3).exchange.node.parts.times_broken ≡ 1
  -- point 1 accepted the message, and it came to point 2, once
  pub accepted : users (come_over.node 1).accepted ≡ message_three ∷ []
  pub comes : users (came_by 2 (come_over.node 2).arrived) ≡ message_three ∷ []

-- ---- and one anew

-- point 1 starts again with the message on its link to point 2, where T1 runs out
abbrev pub over : NetworkState
over = after_all (as_changes restarting) (first_network mated)

-- the link returns, and the next message comes
abbrev pub since_then : List Change
since_then = as_changes (map anew.Does (return ++ next))

abbrev pub come_anew : NetworkState
come_anew = after_all since_then (begun_anew over)

pub record MatesBeginAnew : Type 0 where
  -- what the laws ask
  pub hop : IsHopSince mated_points over since_then 1 2
  pub in_time : AreInTimeSince over come_anew 1 2
  -- the message was accepted, and came nowhere
  pub accepted_before : users (over.node 1).accepted ≡ message_three ∷ []
  pub none_came : users (came_by 2 (over.node 2).arrived) ≡ []
  -- the next one is accepted, and comes, once
  pub accepted : users (come_anew.node 1).accepted ≡ message_four ∷ []
  pub comes : users (came_by 2 (come_anew.node 2).arrived) ≡ message_four ∷ []
