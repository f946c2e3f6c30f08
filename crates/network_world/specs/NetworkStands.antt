-- When a network of the code stands for an abstract one, and what becomes of something that is done in that.
use Rattle.std.specs.Prelude.{◌≡◌, ℕ, Bool, true, false, List, is_some, slice_get, Option, Some, None, if◌then◌else◌}
use Rattle.std.specs.Option.{option_map}
use Rattle.signalling_types.specs.declared.outcome.Outcome.{Outcome}
use Rattle.signalling_types.specs.declared.outcome.Outcome.TheVariants.{Handled, Ignored}
use Rattle.settings.specs.Configuration.{Configuration}
use Rattle.m2pa_codec.specs.Frames.{spelled}
use Rattle.exchange_rules.specs.First.{IsSound}
use Rattle.exchange_rules.specs.Exchange.{frame_to_take, outcome_of, wants_of}
use Rattle.exchange_rules.specs.Queues.{whole}
use Rattle.exchange_rules.specs.State.{Happening, FrameCame, Submitted, WentDown, Ticked, Activated, Deactivated, Released, TitleAdded, TitleSet, TitleRemoved}
use Rattle.exchange_rules.specs.declared.wants.Wants.{Wants}
use Rattle.exchange_rules.specs.declared.wants.Wants.TheVariants.{Open}
use Rattle.pair_rules.specs.Pairs.{Doing, Submits, Takes, Delivers, DeliversStatus, LosesStatus, DoublesStatus, Loses, Ticks, Activates, Deactivates, Releases, AddsTitle, SetsTitle, RemovesTitle, OpensFirst, OpensSecond, in_flight, may_follow}
use Rattle.network_rules.specs.Networks.{NetworkNode, NetworkState, Place, Step, after_step, end_of, first_network, first_node, may_open_there, other_end}
use Rattle.network_rules.specs.Outside.{Move, after_moves}
use Rattle.network_rules.specs.Totals.{IsPlaced}
use Rattle.network_world.specs.Joined.{no_settings}
use Rattle.network_world.specs.KeptNodes.{KeptNode, kept_node_of}
use Rattle.network_world.specs.KeptNetworks.{kept_at, place_at, points_of}

-- ---- it stands for an abstract network

-- by these moves it comes of a network of nodes at these points that were just booted
pub record IsNetworkReached (points : List ℕ) (w : NetworkState) : Type 0 where
  pub settings : (point : ℕ) → Configuration
  pub placed : IsPlaced settings points
  pub moves : List Move
  pub by : w ≡ after_moves moves (first_network settings)

-- the node that is kept for a point
pub record IsNodeOf (n : KeptNode) (x : NetworkNode) : Type 0 where
  pub sound : IsSound x.exchange
  pub kept : n ≡ kept_node_of x

-- a point for which none is kept has a node without links, at which nothing was done
abbrev pub IsNodeAt : (point : ℕ) → Option KeptNode → NetworkNode → Type 0
IsNodeAt point (Some n) x = IsNodeOf n x
IsNodeAt point None x = x ≡ first_node (no_settings point)

pub record NetworkStandsFor (k : List KeptNode) (w : NetworkState) : Type 0 where
  pub reached : IsNetworkReached (points_of k) w
  pub nodes : (point : ℕ) → IsNodeAt point (kept_at point k) (w.node point)

-- ---- what becomes of something that is done

-- a frame that was in flight, if one was
abbrev pub hear_outcome : Option (List ℕ) → (link : ℕ) → NetworkNode → Outcome
hear_outcome (Some text) link x = outcome_of whole (FrameCame link text) x.exchange
hear_outcome None link x = Ignored

-- it is handled, if there is one
abbrev pub if_any : {A : Type 0} → Option A → Outcome
if_any (Some a) = Handled
if_any None = Ignored

-- a link opens first
abbrev pub first_outcome : Wants → (may : Bool) → Option Place → Outcome
first_outcome Open true (Some there) = Handled
first_outcome wants may there = Ignored

-- or second
abbrev pub second_outcome : Wants → (follows : Bool) → Outcome
second_outcome Open true = Handled
second_outcome wants follows = Ignored

-- at a node, to that node alone
abbrev pub here_outcome : Doing → NetworkNode → Outcome
here_outcome (Submits m) x = outcome_of whole (Submitted m) x.exchange
here_outcome (Delivers link) x = hear_outcome (slice_get (in_flight x.incoming.user_data link) 0) link x
here_outcome (DeliversStatus link) x = hear_outcome (slice_get (in_flight x.incoming.statuses link) 0) link x
here_outcome (LosesStatus link) x = if_any (slice_get (in_flight x.incoming.statuses link) 0)
here_outcome (DoublesStatus link) x = if_any (slice_get (in_flight x.incoming.statuses link) 0)
here_outcome (Loses link) x = outcome_of whole (WentDown link) x.exchange
here_outcome Ticks x = outcome_of whole Ticked x.exchange
here_outcome (Activates link emergency) x = outcome_of whole (Activated link emergency) x.exchange
here_outcome (Deactivates link) x = outcome_of whole (Deactivated link) x.exchange
here_outcome (Releases link) x = outcome_of whole (Released link) x.exchange
here_outcome (AddsTitle row is_memory_refused) x = outcome_of whole (TitleAdded row is_memory_refused) x.exchange
here_outcome (SetsTitle row is_memory_refused) x = outcome_of whole (TitleSet row is_memory_refused) x.exchange
here_outcome (RemovesTitle key digits) x = outcome_of whole (TitleRemoved key digits) x.exchange
here_outcome (OpensSecond link) x = second_outcome (wants_of x.exchange link) (may_follow (end_of x) link)
here_outcome (Takes link) x = Ignored
here_outcome (OpensFirst link) x = Ignored

abbrev pub did_outcome : Doing → (point : ℕ) → NetworkState → Outcome
did_outcome (Takes link) point w = if_any (frame_to_take whole (w.node point).exchange link)
did_outcome (OpensFirst link) point w =
    first_outcome
    (wants_of (w.node point).exchange link)
    (may_open_there w (other_end w point link))
    (other_end w point link)
did_outcome what point w = here_outcome what (w.node point)

-- where a node is kept for its point; else nothing is done
abbrev pub step_outcome : (is_there : Bool) → Step → NetworkState → Outcome
step_outcome is_there step w = if is_there then did_outcome step.what step.point w else Ignored

abbrev pub stepped : (is_there : Bool) → Step → NetworkState → NetworkState
stepped is_there step w = if is_there then after_step step w else w

-- of what comes by a link, if that leads out, and a frame doesn't speak for a node of the network
abbrev pub outside_outcome : (out speaks : Bool) → Happening → NetworkNode → Outcome
outside_outcome true false what x = outcome_of whole what x.exchange
outside_outcome out speaks what x = Ignored

-- and the frame that goes out there
abbrev pub sent_outside : (out : Bool) → (link : ℕ) → NetworkNode → Option (List ℕ)
sent_outside true link x = option_map spelled (frame_to_take whole x.exchange link)
sent_outside false link x = None

abbrev pub has_node : (point : ℕ) → List KeptNode → Bool
has_node point k = is_some (place_at point k)

-- something is done to the node at a point, if there is one
abbrev pub if_there : (is_there : Bool) → Outcome
if_there is_there = if is_there then Handled else Ignored
