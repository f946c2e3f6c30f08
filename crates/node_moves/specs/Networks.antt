-- A network of nodes of any shape, with whatever routes: what is done at one of them, and the frames in flight between
-- them (RFC 4165 §4.1.2).
use Rattle.std.specs.Prelude.{◌≡◌, ◌&&◌, ℕ, Bool, true, false, nat_eq, nat_lt, List, [], ◌∷◌, ◌++◌, drop, length}
use Rattle.std.specs.Prelude.{map, take, Option, Some, None, slice_get, option_to_list, if◌then◌else◌}
use Rattle.std.specs.Option.{option_map}
use Rattle.signalling_types.specs.Message.{Message, dpc_of}
use Rattle.signalling_types.specs.declared.outcome.Outcome.{Outcome}
use Rattle.settings.specs.Configuration.{Configuration, TitleEntry}
use Rattle.sccp_codec.specs.declared.title.TitleKey.{TitleKey}
use Rattle.m2pa_codec.specs.Frames.{FrameValue, EmptyFrame, MessageFrame, StatusFrame, spelled}
use Rattle.changeover.specs.Changeover.{may_restart}
use Rattle.exchange_rules.specs.Reroutings.{first_reroutings}
use Rattle.exchange_rules.specs.Conserving.{brought_in, gone}
use Rattle.exchange_rules.specs.declared.wants.Wants.{Wants}
use Rattle.exchange_rules.specs.declared.wants.Wants.TheVariants.{Open}
use Rattle.exchange_rules.specs.ChangingOver.{changeover_of}
unfoldable use Rattle.exchange_rules.specs.Exchange.{apply}
use Rattle.exchange_rules.specs.Exchange.{outcome_of}
use Rattle.exchange_rules.specs.First.{Abstract, first_state}
use Rattle.exchange_rules.specs.Messages.{link_with_code}
use Rattle.exchange_rules.specs.Opening.{wanted}
use Rattle.exchange_rules.specs.Queues.{WholeQueues, whole}
use Rattle.exchange_rules.specs.Receiving.{new_message}
use Rattle.exchange_rules.specs.Routing.{entry_of, peer_of}
use Rattle.exchange_rules.specs.Sending.{frame_taken, after_take}
use Rattle.exchange_rules.specs.State.{Happening, CameUp, WentDown, FrameCame, Ticked, Submitted, Activated}
use Rattle.exchange_rules.specs.State.{Deactivated, Released, TitleAdded, TitleSet, TitleRemoved, Node, down}

-- a message that a user part handed over, or that came by a link, and what became of it: the outcome of that event
pub record Fate : Type 0 where
  pub message : Message
  pub outcome : Outcome

-- the messages of a list of them
abbrev pub messages_of : List Fate → List Message
messages_of fs = map (λ f. f.message) fs

-- a node: its exchange; what is in flight to it on each link, on two streams, the first that went out first; and on
-- which links it may follow the other end, which opened first. Its books: all messages that its user parts handed over,
-- and all that came to it by each link, each with its fate; all that it accepted, whoever sent them; of these, what its
-- SCCP made of messages for this point; and all that it named as lost
pub record NetworkNode : Type 0 where
  pub node : Node WholeQueues
  pub statuses : (link : ℕ) → List (List ℕ)
  pub user_data : (link : ℕ) → List (List ℕ)
  pub follows : (link : ℕ) → Bool
  pub submitted : List Fate
  pub came : (link : ℕ) → List Fate
  pub accepted : List Message
  pub made : List Message
  pub named : List Message

-- the node at each point code
pub record NetworkState : Type 0 where
  pub node : (point : ℕ) → NetworkNode

-- how many point codes there are (Q.704 §2.2)
abbrev pub points : ℕ
points = 16384

-- ---- what is done at a node

pub data Doing : Type 0 where
  -- a user part hands a message over
  Submits : (message : Message) → Doing
  -- the next frame of a link is fetched, and is in flight
  Takes : (link : ℕ) → Doing
  -- the next User Data in flight to the node is handed in, or the next link status
  Delivers : (link : ℕ) → Doing
  DeliversStatus : (link : ℕ) → Doing
  -- the next link status in flight to it is lost on its way, or comes twice
  LosesStatus : (link : ℕ) → Doing
  DoublesStatus : (link : ℕ) → Doing
  -- the association is lost, as the node sees it
  Loses : (link : ℕ) → Doing
  Ticks : Doing
  -- the operator's orders
  Activates : (link : ℕ) (emergency : Bool) → Doing
  Deactivates : (link : ℕ) → Doing
  Releases : (link : ℕ) → Doing
  AddsTitle : (row : TitleEntry) (is_memory_refused : Bool) → Doing
  SetsTitle : (row : TitleEntry) (is_memory_refused : Bool) → Doing
  RemovesTitle : (key : TitleKey) (digits : List ℕ) → Doing
  -- a link opens here, at the first of its two ends; or this end follows the other
  OpensFirst : (link : ℕ) → Doing
  OpensSecond : (link : ℕ) → Doing

pub record Step : Type 0 where
  pub point : ℕ
  pub what : Doing

-- ---- changes

-- a function with another value in one place
abbrev pub updated : {A : Type 0} → (ℕ → A) → (place : ℕ) → A → ℕ → A
updated f place x = λ other. if nat_eq other place then x else f other

-- something is done to the node at one point
abbrev pub changed : (point : ℕ) → (NetworkNode → NetworkNode) → NetworkState → NetworkState
changed point change w = record { node = λ other. if nat_eq other point then change (w.node other) else w.node other }

-- its exchange; no rule depends on what was rerouted
abbrev pub state_of : Configuration → NetworkNode → Abstract
state_of c x = record { settings = c; node = x.node; reroutings = first_reroutings c }

-- the next text in flight on a link of a node
abbrev pub next_in : Configuration → (link : ℕ) → List (List ℕ) → Option (List ℕ)
next_in c link texts = if nat_lt link (length c.links) then slice_get texts 0 else None

-- the messages that an event names as lost, whole. (A notice of one has its cause, destination and selection)
abbrev pub named_by : Configuration → Happening → NetworkNode → List Message
named_by c what x = (gone what (state_of c x)).lost

-- its exchange does what the rules say about what happens
abbrev pub after_event : Configuration → Happening → NetworkNode → Node WholeQueues
after_event c what x = (apply whole c what x.node).left

abbrev pub happens : Configuration → Happening → NetworkNode → NetworkNode
happens c what x = record x { node = after_event c what x; named = x.named ++ named_by c what x }

-- a message is for this point, by its destination
abbrev pub is_here : Configuration → Message → Bool
is_here c m = nat_eq (dpc_of m) c.own

-- of what an event brings in, what SCCP here makes of its message: that message as it goes on by its title, or one that
-- returns it or answers it. A message for another point is brought in as it is
abbrev pub made_of : Configuration → Option Message → (brought : List Message) → List Message
made_of c None brought = []
made_of c (Some m) brought = if is_here c m then brought else []

-- it may accept messages by an event, which is about this one, if about any
abbrev pub takes_in : Configuration → Happening → Option Message → NetworkNode → NetworkNode
takes_in c what new x = record (happens c what x) {
  accepted = x.accepted ++ brought_in what (state_of c x);
  made = x.made ++ made_of c new (brought_in what (state_of c x));
}

-- what becomes of that one
abbrev pub fates : Configuration → Happening → Option Message → NetworkNode → List Fate
fates c what new x =
    map (λ m. record { message = m; outcome = outcome_of whole what (state_of c x) }) (option_to_list new)

-- a user part hands a message over
abbrev pub hand_over : Configuration → Message → NetworkNode → NetworkNode
hand_over c m x =
    record (takes_in c (Submitted m) (Some m) x) { submitted = x.submitted ++ fates c (Submitted m) (Some m) x }

-- User Data comes that was in flight on a link, and with it the message that it newly carries
abbrev pub hear_data : Configuration → Option (List ℕ) → (link : ℕ) → NetworkNode → NetworkNode
hear_data c None link x = x
hear_data c (Some text) link x =
    let new : Option Message = new_message link text (state_of c x) in
    record (takes_in c (FrameCame link text) new x) {
      user_data = updated x.user_data link (drop 1 (x.user_data link));
      came = updated x.came link (x.came link ++ fates c (FrameCame link text) new x);
    }

-- a link status comes, which carries no message
abbrev pub hear_status : Configuration → Option (List ℕ) → (link : ℕ) → NetworkNode → NetworkNode
hear_status c None link x = x
hear_status c (Some text) link x =
    record (happens c (FrameCame link text) x) { statuses = updated x.statuses link (drop 1 (x.statuses link)) }

-- the link statuses in flight on a link are these, if there is one
abbrev pub with_statuses : Option (List ℕ) → (link : ℕ) → List (List ℕ) → NetworkNode → NetworkNode
with_statuses None link left x = x
with_statuses (Some text) link left x = record x { statuses = updated x.statuses link left }

-- a link opens, after the other end
abbrev pub follow : Configuration → Wants → (may : Bool) → (link : ℕ) → NetworkNode → NetworkNode
follow c Open true link x = record (happens c (CameUp link) x) { follows = updated x.follows link false }
follow c wants may link x = x

-- or before it, and nothing is in flight
abbrev pub come_up : Configuration → (link : ℕ) → NetworkNode → NetworkNode
come_up c link x = record (happens c (CameUp link) x) {
  statuses = updated x.statuses link [];
  user_data = updated x.user_data link [];
  follows = updated x.follows link false;
}

abbrev pub be_led : (link : ℕ) → NetworkNode → NetworkNode
be_led link x = record x {
  statuses = updated x.statuses link [];
  user_data = updated x.user_data link [];
  follows = updated x.follows link true;
}

-- a frame is in flight to it
abbrev pub reach : FrameValue → (link : ℕ) → NetworkNode → NetworkNode
reach (StatusFrame bsn fsn status) link x =
    record x { statuses = updated x.statuses link (x.statuses link ++ spelled (StatusFrame bsn fsn status) ∷ []) }
reach (EmptyFrame bsn fsn) link x =
    record x { user_data = updated x.user_data link (x.user_data link ++ spelled (EmptyFrame bsn fsn) ∷ []) }
reach (MessageFrame bsn fsn sio sif) link x =
    record x { user_data = updated x.user_data link (x.user_data link ++ spelled (MessageFrame bsn fsn sio sif) ∷ []) }

-- ---- what is done to the node alone

abbrev pub did_here : Doing → Configuration → NetworkNode → NetworkNode
did_here (Submits m) c x = hand_over c m x
did_here (Takes link) c x = x
did_here (Delivers link) c x = hear_data c (next_in c link (x.user_data link)) link x
did_here (DeliversStatus link) c x = hear_status c (next_in c link (x.statuses link)) link x
did_here (LosesStatus link) c x = with_statuses (next_in c link (x.statuses link)) link (drop 1 (x.statuses link)) x
did_here (DoublesStatus link) c x =
    with_statuses (next_in c link (x.statuses link)) link (take 1 (x.statuses link) ++ x.statuses link) x
did_here (Loses link) c x = happens c (WentDown link) x
did_here Ticks c x = happens c Ticked x
did_here (Activates link emergency) c x = happens c (Activated link emergency) x
did_here (Deactivates link) c x = happens c (Deactivated link) x
did_here (Releases link) c x = happens c (Released link) x
did_here (AddsTitle row is_memory_refused) c x = happens c (TitleAdded row is_memory_refused) x
did_here (SetsTitle row is_memory_refused) c x = happens c (TitleSet row is_memory_refused) x
did_here (RemovesTitle key digits) c x = happens c (TitleRemoved key digits) x
did_here (OpensFirst link) c x = x
did_here (OpensSecond link) c x = follow c (wanted x.node.parts link) (x.follows link) link x

-- as it is booted, with nothing in flight
abbrev pub first_node : Configuration → NetworkNode
first_node c = record {
  node = (first_state c).node;
  statuses = λ link. [];
  user_data = λ link. [];
  follows = λ link. false;
  submitted = [];
  came = λ link. [];
  accepted = [];
  made = [];
  named = [];
}

-- ---- the links between the nodes, by the settings of each

-- one end of a link
pub record LinkEnd : Type 0 where
  pub point : ℕ
  pub link : ℕ

-- a frame is in flight to an end, if there is one
abbrev pub flies : FrameValue → Option LinkEnd → NetworkState → NetworkState
flies frame None w = w
flies frame (Some there) w = changed there.point (reach frame there.link) w

module _ (settings : (point : ℕ) → Configuration) where
  -- whether there is a node at a point: the settings of one have links
  abbrev pub is_node : (point : ℕ) → Bool
  is_node point = nat_lt point points && nat_lt 0 (length (settings point).links)

  abbrev pub IsNode : (point : ℕ) → Type 0
  IsNode point = is_node point ≡ true

  -- the other end of a link: at the point that it leads to, the link to this point with its signalling link code
  abbrev pub other_end : (point link : ℕ) → Option LinkEnd
  other_end point link =
      let there : ℕ = peer_of (settings point) link in
      option_map (λ other. record { point = there; link = other })
      (link_with_code (settings there) point (entry_of (settings point) link).slc)

  -- ---- what goes to another node

  -- the next frame of a link goes out, and is in flight to the other end; where there is none, it goes nowhere
  abbrev pub sent : (point link : ℕ) → NetworkState → NetworkState
  sent point link w = changed point (λ x. record x { node = after_take whole (settings point) link x.node }) w

  abbrev pub fetch : Option FrameValue → (point link : ℕ) → NetworkState → NetworkState
  fetch None point link w = w
  fetch (Some frame) point link w = flies frame (other_end point link) (sent point link w)

  -- whether a link may open at an end: it is down, its changeover is complete, and no answer is awaited
  abbrev pub may_open_at : NetworkState → Option LinkEnd → Bool
  may_open_at w (Some there) =
      down (w.node there.point).node.parts there.link
      && may_restart (changeover_of (w.node there.point).node.parts there.link)
  may_open_at w None = false

  -- a link opens at the first of its ends, if that wants it to and it may open at the other one too, which may then
  -- follow
  abbrev pub open_first : Wants → (may : Bool) → (point link : ℕ) → Option LinkEnd → NetworkState → NetworkState
  open_first Open true point link (Some there) w =
      changed there.point (be_led there.link) (changed point (come_up (settings point) link) w)
  open_first wants may point link there w = w

  -- ---- what each does

  abbrev pub did : Doing → (point : ℕ) → NetworkState → NetworkState
  did (Takes link) point w = fetch (frame_taken whole (settings point) link (w.node point).node) point link w
  did (OpensFirst link) point w =
      open_first (wanted (w.node point).node.parts link) (may_open_at w (other_end point link)) point link
      (other_end point link) w
  did what point w = changed point (did_here what (settings point)) w

  -- (nothing is done where there is no node)
  abbrev pub after_step : Step → NetworkState → NetworkState
  after_step step w = if is_node step.point then did step.what step.point w else w

  abbrev pub after_steps : List Step → NetworkState → NetworkState
  after_steps [] w = w
  after_steps (step ∷ steps) w = after_steps steps (after_step step w)

  abbrev pub first_network : NetworkState
  first_network = record { node = λ point. first_node (settings point) }
