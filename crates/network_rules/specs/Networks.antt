-- A network: a node at each point, what is done at any of them, and the frames in flight on the links that join them.
-- Streams, and what may be done, are those of `pair_rules`.
use Rattle.std.specs.Prelude.{◌&&◌, ℕ, Bool, true, false, nat_eq, List, ◌∷◌, [], ◌++◌, length, map, replicate, Option, Some, None, slice_get, slice_set, option_to_list, if◌then◌else◌}
use Rattle.std.specs.Option.{option_map}
use Rattle.signalling_types.specs.Message.{Message}
use Rattle.signalling_types.specs.declared.outcome.Outcome.{Outcome}
use Rattle.signalling_types.specs.declared.outcome.Outcome.TheVariants as outcomes
use Rattle.settings.specs.Configuration.{Configuration, LinkEntry}
use Rattle.m2pa_codec.specs.Frames.{FrameValue}
use Rattle.mtp3_codec.specs.declared.discrimination.Discrimination.{Discrimination}
use Rattle.mtp3_codec.specs.declared.discrimination.Discrimination.TheVariants as whither
use Rattle.changeover.specs.Changeover.{users_of}
use Rattle.exchange_rules.specs.Conserving.{brought_in}
use Rattle.exchange_rules.specs.declared.wants.Wants.{Wants}
use Rattle.exchange_rules.specs.declared.wants.Wants.TheVariants.{Open}
use Rattle.exchange_rules.specs.State.{Happening, CameUp, WentDown, FrameCame, Ticked, Submitted, Activated, Deactivated, Released, TitleAdded, TitleSet, TitleRemoved}
use Rattle.exchange_rules.specs.First.{Abstract, first_state}
use Rattle.exchange_rules.specs.Queues.{whole}
use Rattle.exchange_rules.specs.Exchange.{outcome_of, after, frame_to_take, taken, wants_of}
use Rattle.exchange_rules.specs.Messages.{link_with_code, whither_goes}
use Rattle.exchange_rules.specs.Receiving.{new_message}
use Rattle.exchange_rules.specs.Routing.{adjacent_of}
use Rattle.pair_rules.specs.Pairs.{Doing, Submits, Takes, Delivers, DeliversStatus, LosesStatus, DoublesStatus, Loses, Ticks, Activates, Deactivates, Releases, AddsTitle, SetsTitle, RemovesTitle, OpensFirst, OpensSecond, End, Streams, in_flight, may_follow, may_open_at, launched, without_status, without_data, with_status_twice, emptied, nothing_in_flight}

-- a message that a frame newly carried, and the link by which it came
pub record Arrival : Type 0 where
  pub link : ℕ
  pub message : Message

-- a node: its exchange; what is in flight to it on each of its links; of each link whether it may follow the other end,
-- which opened first; all messages that it took in, whomever they are for, and all that came to it; of those that it
-- took in, the ones that entered the network here; and the user messages that came for another point and were refused
pub record NetworkNode : Type 0 where
  pub exchange : Abstract
  pub incoming : Streams
  pub following : List Bool
  pub accepted : List Message
  pub arrived : List Arrival
  pub entered : List Message
  pub refused : List Message

-- the node at each point. A point with no node has one with no links
pub record NetworkState : Type 0 where
  pub node : (point : ℕ) → NetworkNode

-- something is done to the node at one point
abbrev pub changed : (point : ℕ) → (NetworkNode → NetworkNode) → NetworkState → NetworkState
changed point change w =
    record { node = λ other. if nat_eq other point then change (w.node other) else w.node other }

-- a node as an end of pairs
abbrev pub end_of : NetworkNode → End
end_of x = record {
  exchange = x.exchange;
  incoming = x.incoming;
  following = x.following;
  accepted = x.accepted;
  received = map (λ a. a.message) x.arrived;
}

-- ---- the links

-- one end of a link: a link of the node at a point
pub record Place : Type 0 where
  pub point : ℕ
  pub link : ℕ

-- the other end of a link: at the point that it leads to, the link to this point with its signalling link code
abbrev pub place_there : NetworkState → Configuration → Option LinkEntry → Option Place
place_there w c (Some l) =
    option_map
    (λ other. record { point = adjacent_of c l.set; link = other })
    (link_with_code (w.node (adjacent_of c l.set)).exchange.settings c.own l.slc)
place_there w c None = None

abbrev pub other_end : NetworkState → (point link : ℕ) → Option Place
other_end w point link =
    place_there
    w
    (w.node point).exchange.settings
    (slice_get (w.node point).exchange.settings.links link)

-- whether a link may open there
abbrev pub may_open_there : NetworkState → Option Place → Bool
may_open_there w (Some there) = may_open_at (end_of (w.node there.point)) there.link
may_open_there w None = false

-- ---- a message for another point

-- whether a message that comes to a node is for another point
abbrev pub is_onward : Discrimination → Bool
is_onward (whither.Transfer label) = true
is_onward (whither.Here label) = false
is_onward (whither.Refused fault) = false

abbrev pub goes_onward : Configuration → Message → Bool
goes_onward c m = is_onward (whither_goes c m)

-- of what a frame brings in, what enters the network here: a message for another point that came by the frame entered
-- before, but what SCCP here makes of one for this point didn't
abbrev pub entered_by : Option Message → Configuration → (brought : List Message) → List Message
entered_by (Some m) c brought = if goes_onward c m then [] else brought
entered_by None c brought = brought

-- whether an outcome is a refusal
abbrev pub is_refused : Outcome → Bool
is_refused (outcomes.Refused cause) = true
is_refused (outcomes.Queued link) = false
is_refused outcomes.Held = false
is_refused outcomes.Local = false
is_refused outcomes.Handled = false
is_refused outcomes.Ignored = false

-- the user message for another point that a frame newly carries, where it is refused
abbrev pub refused_by : Option Message → Configuration → Outcome → List Message
refused_by (Some m) c outcome = if goes_onward c m && is_refused outcome then users_of (m ∷ []) else []
refused_by None c outcome = []

-- ---- what is done at one node

-- what its exchange does about what happens
abbrev pub happens : Happening → NetworkNode → NetworkNode
happens what x = record x { exchange = after whole what x.exchange }

-- a message that is submitted
abbrev pub submit : Message → NetworkNode → NetworkNode
submit m x = record x {
  exchange = after whole (Submitted m) x.exchange;
  accepted = x.accepted ++ brought_in (Submitted m) x.exchange;
  entered = x.entered ++ brought_in (Submitted m) x.exchange;
}

-- a frame comes that was in flight on a link, and with it the message that it newly carries. So much is left in flight
abbrev pub deliver_frame : Option (List ℕ) → (link : ℕ) → (left : Streams) → NetworkNode → NetworkNode
deliver_frame None link left x = x
deliver_frame (Some text) link left x = record x {
  exchange = after whole (FrameCame link text) x.exchange;
  incoming = left;
  accepted = x.accepted ++ brought_in (FrameCame link text) x.exchange;
  arrived =
      x.arrived
      ++ map
      (λ m. record { link = link; message = m })
      (option_to_list (new_message link text x.exchange));
  entered =
      x.entered
      ++ entered_by
      (new_message link text x.exchange)
      x.exchange.settings
      (brought_in (FrameCame link text) x.exchange);
  refused =
      x.refused
      ++ refused_by
      (new_message link text x.exchange)
      x.exchange.settings
      (outcome_of whole (FrameCame link text) x.exchange);
}

-- what is in flight to it changes, where a link status is in flight there
abbrev pub change_statuses : Option (List ℕ) → (left : Streams) → NetworkNode → NetworkNode
change_statuses None left x = x
change_statuses (Some text) left x = record x { incoming = left }

-- it follows the other end of a link, where it may and wants to
abbrev pub opens_second : Wants → (follows : Bool) → (link : ℕ) → NetworkNode → NetworkNode
opens_second Open true link x = record x {
  exchange = after whole (CameUp link) x.exchange;
  following = slice_set x.following link false;
}
opens_second wants follows link x = x

-- ---- what goes to another node

-- the next frame of a link goes out
abbrev pub sends : (link : ℕ) → NetworkNode → NetworkNode
sends link x = record x { exchange = taken whole x.exchange link }

-- and is in flight to the other end; where there is none, it goes nowhere
abbrev pub reaches : FrameValue → (link : ℕ) → NetworkNode → NetworkNode
reaches frame link x = record x { incoming = launched frame link x.incoming }

abbrev pub take_frame : Option FrameValue → (point link : ℕ) → Option Place → NetworkState → NetworkState
take_frame None point link there w = w
take_frame (Some frame) point link None w = changed point (sends link) w
take_frame (Some frame) point link (Some there) w =
    changed there.point (reaches frame there.link) (changed point (sends link) w)

-- a link opens at the first of its ends, and the other may follow: nothing is in flight
abbrev pub comes_up : (link : ℕ) → NetworkNode → NetworkNode
comes_up link x = record x {
  exchange = after whole (CameUp link) x.exchange;
  incoming = emptied link x.incoming;
  following = slice_set x.following link false;
}

abbrev pub is_led : (link : ℕ) → NetworkNode → NetworkNode
is_led link x = record x {
  incoming = emptied link x.incoming;
  following = slice_set x.following link true;
}

-- where it wants to, and where the link may open at the other end too
abbrev pub opens_first : Wants → (may : Bool) → (point link : ℕ) → Option Place → NetworkState → NetworkState
opens_first Open true point link (Some there) w =
    changed there.point (is_led there.link) (changed point (comes_up link) w)
opens_first wants may point link there w = w

-- ---- what each does

-- at a node, to that node alone
abbrev pub did_here : Doing → NetworkNode → NetworkNode
did_here (Submits m) x = submit m x
did_here (Delivers link) x =
    deliver_frame (slice_get (in_flight x.incoming.user_data link) 0) link (without_data link x.incoming) x
did_here (DeliversStatus link) x =
    deliver_frame (slice_get (in_flight x.incoming.statuses link) 0) link (without_status link x.incoming) x
did_here (LosesStatus link) x =
    change_statuses (slice_get (in_flight x.incoming.statuses link) 0) (without_status link x.incoming) x
did_here (DoublesStatus link) x =
    change_statuses (slice_get (in_flight x.incoming.statuses link) 0) (with_status_twice link x.incoming) x
did_here (Loses link) x = happens (WentDown link) x
did_here Ticks x = happens Ticked x
did_here (Activates link emergency) x = happens (Activated link emergency) x
did_here (Deactivates link) x = happens (Deactivated link) x
did_here (Releases link) x = happens (Released link) x
did_here (AddsTitle row is_memory_refused) x = happens (TitleAdded row is_memory_refused) x
did_here (SetsTitle row is_memory_refused) x = happens (TitleSet row is_memory_refused) x
did_here (RemovesTitle key digits) x = happens (TitleRemoved key digits) x
did_here (OpensSecond link) x = opens_second (wants_of x.exchange link) (may_follow (end_of x) link) link x
did_here (Takes link) x = x
did_here (OpensFirst link) x = x

-- at a point
pub record Step : Type 0 where
  pub point : ℕ
  pub what : Doing

abbrev pub did : Doing → (point : ℕ) → NetworkState → NetworkState
did (Takes link) point w =
    take_frame (frame_to_take whole (w.node point).exchange link) point link (other_end w point link) w
did (OpensFirst link) point w =
    opens_first
    (wants_of (w.node point).exchange link)
    (may_open_there w (other_end w point link))
    point
    link
    (other_end w point link)
    w
did what point w = changed point (did_here what) w

abbrev pub after_step : Step → NetworkState → NetworkState
after_step step w = did step.what step.point w

abbrev pub after_steps : List Step → NetworkState → NetworkState
after_steps [] w = w
after_steps (step ∷ steps) w = after_steps steps (after_step step w)

-- ---- from the first on

-- as it is booted, with nothing in flight to it
abbrev pub first_node : Configuration → NetworkNode
first_node c = record {
  exchange = first_state c;
  incoming = nothing_in_flight (length c.links);
  following = replicate (length c.links) false;
  accepted = [];
  arrived = [];
  entered = [];
  refused = [];
}

abbrev pub first_network : (settings : (point : ℕ) → Configuration) → NetworkState
first_network settings = record { node = λ point. first_node (settings point) }
