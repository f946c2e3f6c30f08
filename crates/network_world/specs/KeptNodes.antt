-- A node of a network as the code keeps it, and what becomes of what is done there.
use Rattle.std.specs.Prelude.{ℕ, Bool, true, List, [], ◌∷◌, ◌++◌, map, slice_get, Option, Some, None, if◌then◌else◌}
use Rattle.signalling_types.specs.Message.{Message}
use Rattle.signalling_types.specs.declared.outcome.Outcome.{Outcome}
use Rattle.signalling_types.specs.declared.outcome.Outcome.TheVariants.{Handled, Ignored}
use Rattle.settings.specs.Configuration.{Configuration}
use Rattle.exchange_rules.specs.State.{Happening, FrameCame, Submitted, WentDown, Ticked, Activated, Deactivated, Released, TitleAdded, TitleSet, TitleRemoved}
use Rattle.exchange_rules.specs.declared.wants.Wants.{Wants}
use Rattle.exchange_rules.specs.declared.wants.Wants.TheVariants.{Open}
use Rattle.exchange_rules.specs.Exchange.{after, outcome_of, taken, wants_of}
use Rattle.exchange.specs.KeptQueues.{kept}
use Rattle.exchange.specs.Calls.{Kept, kept_of}
use Rattle.exchange.specs.Views.{may_restart_at}
use Rattle.pair_rules.specs.Pairs.{Doing, Submits, Takes, Delivers, DeliversStatus, LosesStatus, DoublesStatus, Loses, Ticks, Activates, Deactivates, Releases, AddsTitle, SetsTitle, RemovesTitle, OpensFirst, OpensSecond, Streams, in_flight, without_data, without_status}
use Rattle.network_rules.specs.Networks.{Arrival, NetworkNode, entered_by, refused_by}
use Rattle.network_world.specs.declared.doing.Reach.{Reach}
use Rattle.network_world.specs.declared.doing.Reach.TheVariants as reach
use Rattle.network_world.specs.KeptSites.{KeptSite, SiteTurn, behind_its, handed_in, newly_brought, newly_carried, site_doubles_status, site_happens, site_loses_status, site_may_follow, site_opens_first, site_opens_second, take_outcome, text_to_take, has_link}

pub record KeptNode : Type 0 where
  pub exchange : Kept
  pub incoming : Streams
  pub following : List Bool
  pub accepted : List Message
  pub arrived : List Arrival
  pub entered : List Message
  pub refused : List Message

-- what is kept of a node
abbrev pub kept_node_of : NetworkNode → KeptNode
kept_node_of x = record {
  exchange = kept_of x.exchange;
  incoming = x.incoming;
  following = x.following;
  accepted = x.accepted;
  arrived = x.arrived;
  entered = x.entered;
  refused = x.refused;
}

-- what became of something at one node, and what it left
pub record NodeTurn : Type 0 where
  pub outcome : Outcome
  pub left : KeptNode

-- ---- its site

abbrev pub site_of_node : KeptNode → KeptSite
site_of_node n = record { exchange = n.exchange; incoming = n.incoming; following = n.following }

-- the node with another site
abbrev pub node_with : KeptSite → KeptNode → KeptNode
node_with s n = record n { exchange = s.exchange; incoming = s.incoming; following = s.following }

-- what became of something at its site alone
abbrev pub node_of_site : SiteTurn → KeptNode → NodeTurn
node_of_site t n = record { outcome = t.outcome; left = node_with t.left n }

abbrev pub node_happens : Happening → KeptNode → NodeTurn
node_happens what n = node_of_site (site_happens what (site_of_node n)) n

-- ---- what comes

-- a message that is handed over: what it brings in enters here
abbrev pub node_submits : Message → KeptNode → NodeTurn
node_submits m n = record {
  outcome = outcome_of kept (Submitted m) n.exchange;
  left = record n {
    exchange = after kept (Submitted m) n.exchange;
    accepted = n.accepted ++ handed_in m n.exchange;
    entered = n.entered ++ handed_in m n.exchange;
  };
}

-- of the message that a frame newly carried, if it did: what enters by it, and what is refused
abbrev pub entered_of : (carried : List Message) → Configuration → (brought : List Message) → List Message
entered_of [] c brought = entered_by None c brought
entered_of (m ∷ ms) c brought = entered_by (Some m) c brought

abbrev pub refused_of : (carried : List Message) → Configuration → Outcome → List Message
refused_of [] c outcome = refused_by None c outcome
refused_of (m ∷ ms) c outcome = refused_by (Some m) c outcome

abbrev pub arrivals : (link : ℕ) → List Message → List Arrival
arrivals link ms = map (λ m. record { link = link; message = m }) ms

-- a frame that was in flight, and so much is left
abbrev pub node_hears : Option (List ℕ) → (link : ℕ) → (left : Streams) → KeptNode → NodeTurn
node_hears (Some text) link left n = record {
  outcome = outcome_of kept (FrameCame link text) n.exchange;
  left = record n {
    exchange = after kept (FrameCame link text) n.exchange;
    incoming = left;
    accepted = n.accepted ++ newly_brought link text n.exchange;
    arrived = n.arrived ++ arrivals link (newly_carried link text n.exchange);
    entered =
        n.entered
        ++ entered_of (newly_carried link text n.exchange) n.exchange.settings (newly_brought link text n.exchange);
    refused =
        n.refused
        ++ refused_of
        (newly_carried link text n.exchange)
        n.exchange.settings
        (outcome_of kept (FrameCame link text) n.exchange);
  };
}
node_hears None link left n = record { outcome = Ignored; left = n }

-- ---- what is done at a node, to that node alone

abbrev pub node_did : Doing → KeptNode → NodeTurn
node_did (Submits m) n = node_submits m n
node_did (Delivers link) n =
    node_hears (slice_get (in_flight n.incoming.user_data link) 0) link (without_data link n.incoming) n
node_did (DeliversStatus link) n =
    node_hears (slice_get (in_flight n.incoming.statuses link) 0) link (without_status link n.incoming) n
node_did (LosesStatus link) n = node_of_site (site_loses_status link (site_of_node n)) n
node_did (DoublesStatus link) n = node_of_site (site_doubles_status link (site_of_node n)) n
node_did (Loses link) n = node_happens (WentDown link) n
node_did Ticks n = node_happens Ticked n
node_did (Activates link emergency) n = node_happens (Activated link emergency) n
node_did (Deactivates link) n = node_happens (Deactivated link) n
node_did (Releases link) n = node_happens (Released link) n
node_did (AddsTitle row is_memory_refused) n = node_happens (TitleAdded row is_memory_refused) n
node_did (SetsTitle row is_memory_refused) n = node_happens (TitleSet row is_memory_refused) n
node_did (RemovesTitle key digits) n = node_happens (TitleRemoved key digits) n
node_did (OpensSecond link) n = node_of_site (site_opens_second link (site_of_node n)) n
node_did (Takes link) n = record { outcome = Ignored; left = n }
node_did (OpensFirst link) n = record { outcome = Ignored; left = n }

-- ---- what is done at a node, and reaches the other end of a link

-- what becomes of both
pub record BothTurn : Type 0 where
  pub outcome : Outcome
  pub near : KeptNode
  pub far : KeptNode

-- the next frame is in flight to the far node by its own link, where that is there
abbrev pub both_take : (link other : ℕ) → (near far : KeptNode) → BothTurn
both_take link other near far = record {
  outcome = take_outcome (text_to_take near.exchange link);
  near = record near { exchange = taken kept near.exchange link };
  far = record far { incoming = behind_its (text_to_take near.exchange link) other far.incoming };
}

-- where there is no other end, it goes nowhere
abbrev pub node_takes : (link : ℕ) → KeptNode → NodeTurn
node_takes link n = record {
  outcome = take_outcome (text_to_take n.exchange link);
  left = record n { exchange = taken kept n.exchange link };
}

-- the link opens at the near node first, where that wants it to, and it may open at the far one too
abbrev pub both_open : Wants → (may : Bool) → (link other : ℕ) → (near far : KeptNode) → BothTurn
both_open Open true link other near far = record {
  outcome = Handled;
  near = node_with (site_opens_first link (site_of_node near)) near;
  far = node_with (site_may_follow other (site_of_node far)) far;
}
both_open wants may link other near far = record { outcome = Ignored; near = near; far = far }

-- one of these
abbrev pub both_did : Reach → (link other : ℕ) → (near far : KeptNode) → BothTurn
both_did reach.Fetch link other near far =
    if has_link other far.incoming then both_take link other near far
    else record { outcome = Ignored; near = near; far = far }
both_did reach.Open link other near far =
    both_open (wants_of near.exchange link) (may_restart_at far.exchange other) link other near far
