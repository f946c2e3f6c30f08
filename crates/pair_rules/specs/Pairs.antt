-- Two exchanges that face each other, and the frames in flight between them.
use Rattle.std.specs.Prelude.{◌&&◌, ℕ, Bool, true, false, List, [], ◌∷◌, ◌++◌, drop, length, replicate, Option, Some, None, slice_get, slice_index_or, slice_set, option_to_list, take}
use Rattle.signalling_types.specs.Message.{Message}
use Rattle.signalling_types.specs.declared.outcome.Outcome.{Outcome}
use Rattle.signalling_types.specs.declared.outcome.Outcome.TheVariants.{Handled, Ignored}
use Rattle.settings.specs.Configuration.{Configuration, TitleEntry}
use Rattle.sccp_codec.specs.declared.title.TitleKey.{TitleKey}
use Rattle.m2pa_codec.specs.Frames.{FrameValue, EmptyFrame, MessageFrame, StatusFrame, spelled}
use Rattle.changeover.specs.Changeover.{users_of, may_restart}
use Rattle.exchange_rules.specs.Conserving.{brought_in}
use Rattle.exchange_rules.specs.declared.wants.Wants.{Wants}
use Rattle.exchange_rules.specs.declared.wants.Wants.TheVariants.{Open}
use Rattle.exchange_rules.specs.State.{Happening, CameUp, WentDown, FrameCame, Ticked, Submitted, Activated, Deactivated, Released, TitleAdded, TitleSet, TitleRemoved, down}
use Rattle.exchange_rules.specs.ChangingOver.{changeover_of}
use Rattle.exchange_rules.specs.First.{Abstract, first_state}
use Rattle.exchange_rules.specs.Queues.{whole}
use Rattle.exchange_rules.specs.Exchange.{outcome_of, after, frame_to_take, taken, wants_of}
use Rattle.exchange_rules.specs.Receiving.{new_message}

-- what is in flight to an end on each link, on two streams: its link statuses, and its User Data. On each stream the
-- first that went out comes first, but neither stream is ordered with the other (RFC 4165 §4.1.2)
pub record Streams : Type 0 where
  pub statuses : List (List (List ℕ))
  pub user_data : List (List (List ℕ))

-- an end: its exchange; what is in flight to it; for each link, whether it may follow the other end, which opened
-- first; all user messages that it accepted, and all that came to it from the other end. It accepts what an event there
-- brings into a queue or Held: what a user part hands over, what SCCP relays, and the UDTS or XUDTS that it returns
pub record End : Type 0 where
  pub exchange : Abstract
  pub incoming : Streams
  pub following : List Bool
  pub accepted : List Message
  pub received : List Message

pub record PairState : Type 0 where
  pub near : End
  pub far : End

-- the same, seen from the far end
abbrev pub turned : PairState → PairState
turned p = record { near = p.far; far = p.near }

-- ---- what is done

-- at one end
pub data Doing : Type 0 where
  -- a user part hands a message over
  Submits : (message : Message) → Doing
  -- a frame is fetched for the other end
  Takes : (link : ℕ) → Doing
  -- the next User Data in flight to this end is handed in, or the next link status
  Delivers : (link : ℕ) → Doing
  DeliversStatus : (link : ℕ) → Doing
  -- the next link status in flight to this end is lost on its way, or comes twice
  LosesStatus : (link : ℕ) → Doing
  DoublesStatus : (link : ℕ) → Doing
  -- the association is lost, as this end sees it
  Loses : (link : ℕ) → Doing
  Ticks : Doing
  -- the operator lets a link open, or keeps it from it
  Activates : (link : ℕ) (emergency : Bool) → Doing
  Deactivates : (link : ℕ) → Doing
  Releases : (link : ℕ) → Doing
  -- the operator adds a translation row, if memory for it isn't refused, or removes one
  AddsTitle : (row : TitleEntry) (is_memory_refused : Bool) → Doing
  SetsTitle : (row : TitleEntry) (is_memory_refused : Bool) → Doing
  RemovesTitle : (key : TitleKey) (digits : List ℕ) → Doing
  -- a link opens at this end, which is the first of the two; or this end follows the other
  OpensFirst : (link : ℕ) → Doing
  OpensSecond : (link : ℕ) → Doing

pub data Step : Type 0 where
  AtNear : (what : Doing) → Step
  AtFar : (what : Doing) → Step

-- the outcome of a step, and the pair after it
pub record Turn : Type 0 where
  pub outcome : Outcome
  pub left : PairState

-- ---- what each does

-- what one stream has in flight on one link
abbrev pub in_flight : List (List (List ℕ)) → (link : ℕ) → List (List ℕ)
in_flight frames link = slice_index_or frames link []

-- whether an end may follow the other on one link
abbrev pub may_follow : End → (link : ℕ) → Bool
may_follow e link = slice_index_or e.following link false

-- whether a link may open at an end: it is down, its changeover is complete, and no answer is awaited
abbrev pub may_open_at : End → (link : ℕ) → Bool
may_open_at e link = down e.exchange.node.parts link && may_restart (changeover_of e.exchange.node.parts link)

-- a step that did nothing
abbrev pub ignored : PairState → Turn
ignored p = record { outcome = Ignored; left = p }

-- what the near end's exchange does about what happens
abbrev pub happens : Happening → PairState → Turn
happens what p = record {
  outcome = outcome_of whole what p.near.exchange;
  left = record p { near = record p.near { exchange = after whole what p.near.exchange } };
}

-- a message that is submitted to the near end's exchange
abbrev pub submit : Message → PairState → Turn
submit m p = record {
  outcome = outcome_of whole (Submitted m) p.near.exchange;
  left = record p {
    near = record p.near {
      exchange = after whole (Submitted m) p.near.exchange;
      accepted = p.near.accepted ++ brought_in (Submitted m) p.near.exchange;
    };
  };
}

-- a frame is put in flight after the others of its stream
abbrev pub behind_statuses : List ℕ → (link : ℕ) → Streams → Streams
behind_statuses text link s =
    record s { statuses = slice_set s.statuses link (in_flight s.statuses link ++ text ∷ []) }

abbrev pub behind_data : List ℕ → (link : ℕ) → Streams → Streams
behind_data text link s =
    record s { user_data = slice_set s.user_data link (in_flight s.user_data link ++ text ∷ []) }

abbrev pub launched : FrameValue → (link : ℕ) → Streams → Streams
launched (StatusFrame bsn fsn status) link s = behind_statuses (spelled (StatusFrame bsn fsn status)) link s
launched (EmptyFrame bsn fsn) link s = behind_data (spelled (EmptyFrame bsn fsn)) link s
launched (MessageFrame bsn fsn sio sif) link s = behind_data (spelled (MessageFrame bsn fsn sio sif)) link s

-- the next frame of a link is in flight
abbrev pub take_frame : Option FrameValue → (link : ℕ) → PairState → Turn
take_frame None link p = ignored p
take_frame (Some frame) link p = record {
  outcome = Handled;
  left = record {
    near = record p.near { exchange = taken whole p.near.exchange link };
    far = record p.far { incoming = launched frame link p.far.incoming };
  };
}

-- the streams without the first of one link
abbrev pub without_status : (link : ℕ) → Streams → Streams
without_status link s = record s { statuses = slice_set s.statuses link (drop 1 (in_flight s.statuses link)) }

abbrev pub without_data : (link : ℕ) → Streams → Streams
without_data link s = record s { user_data = slice_set s.user_data link (drop 1 (in_flight s.user_data link)) }

-- a frame that was in flight on a link comes, and with it the user message that it newly carries. Of that the end may
-- accept what SCCP makes of it for the other end. This much is left in flight
abbrev pub deliver_frame : Option (List ℕ) → (link : ℕ) → (left : Streams) → PairState → Turn
deliver_frame None link left p = ignored p
deliver_frame (Some text) link left p = record {
  outcome = outcome_of whole (FrameCame link text) p.near.exchange;
  left = record p {
    near = record p.near {
      exchange = after whole (FrameCame link text) p.near.exchange;
      incoming = left;
      accepted = p.near.accepted ++ brought_in (FrameCame link text) p.near.exchange;
      received = p.near.received ++ users_of (option_to_list (new_message link text p.near.exchange));
    };
  };
}

-- what is in flight to the near end changes, if a link status is in flight there
abbrev pub change_statuses : Option (List ℕ) → (left : Streams) → PairState → Turn
change_statuses None left p = ignored p
change_statuses (Some text) left p =
    record { outcome = Handled; left = record p { near = record p.near { incoming = left } } }

-- the streams with the first status of one link twice
abbrev pub with_status_twice : (link : ℕ) → Streams → Streams
with_status_twice link s =
    record s {
      statuses = slice_set s.statuses link (take 1 (in_flight s.statuses link) ++ in_flight s.statuses link);
    }

-- the streams with nothing in flight on one link
abbrev pub emptied : (link : ℕ) → Streams → Streams
emptied link s = record { statuses = slice_set s.statuses link []; user_data = slice_set s.user_data link [] }

-- a link opens at the near end, if that wants it to and it may open at the far one too. Then nothing is in flight, and
-- the far end may follow
abbrev pub opens_first : Wants → (far_may : Bool) → (link : ℕ) → PairState → Turn
opens_first Open true link p = record {
  outcome = Handled;
  left = record {
    near = record p.near {
      exchange = after whole (CameUp link) p.near.exchange;
      incoming = emptied link p.near.incoming;
      following = slice_set p.near.following link false;
    };
    far = record p.far {
      incoming = emptied link p.far.incoming;
      following = slice_set p.far.following link true;
    };
  };
}
opens_first wants far_may link p = ignored p

-- the near end follows the far one, if it may and wants to
abbrev pub opens_second : Wants → (follows : Bool) → (link : ℕ) → PairState → Turn
opens_second Open true link p = record {
  outcome = Handled;
  left = record p {
    near = record p.near {
      exchange = after whole (CameUp link) p.near.exchange;
      following = slice_set p.near.following link false;
    };
  };
}
opens_second wants follows link p = ignored p

-- what is done at the near end
abbrev pub did : Doing → PairState → Turn
did (Submits m) p = submit m p
did (Takes link) p = take_frame (frame_to_take whole p.near.exchange link) link p
did (Delivers link) p =
    deliver_frame (slice_get (in_flight p.near.incoming.user_data link) 0) link (without_data link p.near.incoming) p
did (DeliversStatus link) p =
    deliver_frame (slice_get (in_flight p.near.incoming.statuses link) 0) link (without_status link p.near.incoming) p
did (LosesStatus link) p =
    change_statuses (slice_get (in_flight p.near.incoming.statuses link) 0) (without_status link p.near.incoming) p
did (DoublesStatus link) p =
    change_statuses (slice_get (in_flight p.near.incoming.statuses link) 0) (with_status_twice link p.near.incoming) p
did (Loses link) p = happens (WentDown link) p
did Ticks p = happens Ticked p
did (Activates link emergency) p = happens (Activated link emergency) p
did (Deactivates link) p = happens (Deactivated link) p
did (Releases link) p = happens (Released link) p
did (AddsTitle row is_memory_refused) p = happens (TitleAdded row is_memory_refused) p
did (SetsTitle row is_memory_refused) p = happens (TitleSet row is_memory_refused) p
did (RemovesTitle key digits) p = happens (TitleRemoved key digits) p
did (OpensFirst link) p = opens_first (wants_of p.near.exchange link) (may_open_at p.far link) link p
did (OpensSecond link) p = opens_second (wants_of p.near.exchange link) (may_follow p.near link) link p

-- what becomes of a step
abbrev pub turn : Step → PairState → Turn
turn (AtNear what) p = did what p
turn (AtFar what) p = record {
  outcome = (did what (turned p)).outcome;
  left = turned (did what (turned p)).left;
}

-- ---- from the first

-- nothing is in flight on this many links
abbrev pub nothing_in_flight : (links : ℕ) → Streams
nothing_in_flight links = record { statuses = replicate links []; user_data = replicate links [] }

abbrev pub first_end : Configuration → End
first_end c = record {
  exchange = first_state c;
  incoming = nothing_in_flight (length c.links);
  following = replicate (length c.links) false;
  accepted = [];
  received = [];
}

-- both exchanges are as they are booted, nothing is in flight, and neither end may follow
abbrev pub first_pair : (near far : Configuration) → PairState
first_pair near far = record { near = first_end near; far = first_end far }

abbrev pub after_steps : List Step → PairState → PairState
after_steps [] p = p
after_steps (step ∷ steps) p = after_steps steps (turn step p).left
