-- Two nodes that share a link set, each with whatever further links and neighbours: what is done at either of them, and
-- the frames in flight between them. Streams, ends and pairs are those of `pair_rules`.
use Rattle.std.specs.Prelude.{◌&&◌, ◌||◌, ℕ, Bool, true, false, not, nat_eq, List, ◌∷◌, [], ◌++◌, filter, Option, Some}
use Rattle.std.specs.Prelude.{None, slice_get, slice_set, option_to_list, if◌then◌else◌}
use Rattle.std.specs.List.{list_any}
use Rattle.signalling_types.specs.Message.{Message, dpc_of, opc_of, service_indicator}
use Rattle.signalling_types.specs.declared.outcome.Outcome.TheVariants.{Handled}
use Rattle.settings.specs.Configuration.{Configuration, LinkEntry}
use Rattle.m2pa_codec.specs.Frames.{FrameValue, read_frame}
use Rattle.exchange_rules.specs.Conserving.{brought_in}
use Rattle.exchange_rules.specs.declared.wants.Wants.{Wants}
use Rattle.exchange_rules.specs.declared.wants.Wants.TheVariants.{Open}
use Rattle.exchange_rules.specs.State.{Happening, CameUp, WentDown, FrameCame, Ticked, Submitted, Activated}
use Rattle.exchange_rules.specs.State.{Deactivated, Released, TitleAdded, TitleSet, TitleRemoved}
use Rattle.exchange_rules.specs.Queues.{whole}
use Rattle.exchange_rules.specs.Exchange.{outcome_of, after, frame_to_take, taken, wants_of}
use Rattle.exchange_rules.specs.Laws.{carried_message}
use Rattle.exchange_rules.specs.LoneRoutes.{is_user_to}
use Rattle.exchange_rules.specs.Messages.{link_with_code}
use Rattle.exchange_rules.specs.Receiving.{new_message}
use Rattle.exchange_rules.specs.Routing.{adjacent_of}
use Rattle.pair_rules.specs.Pairs as pairs
use Rattle.pair_rules.specs.Pairs.{PairState, Streams, Turn, turned, in_flight, may_follow, may_open_at, ignored}
use Rattle.pair_rules.specs.Pairs.{happens, launched, without_status, without_data, with_status_twice, change_statuses}
use Rattle.pair_rules.specs.Pairs.{emptied}

-- ---- the links between the two

-- the far end of a link, if it leads to the far point: the link there with its signalling link code
abbrev pub end_there : (near far : Configuration) → Option LinkEntry → Option ℕ
end_there near far (Some l) =
    if nat_eq (adjacent_of near l.set) far.own then link_with_code far near.own l.slc else None
end_there near far None = None

abbrev pub far_end : PairState → (link : ℕ) → Option ℕ
far_end p link =
    end_there p.near.exchange.settings p.far.exchange.settings (slice_get p.near.exchange.settings.links link)

-- whether a link leads to another point
abbrev pub leads_elsewhere_by : (near far : Configuration) → Option LinkEntry → Bool
leads_elsewhere_by near far (Some l) = not (nat_eq (adjacent_of near l.set) far.own)
leads_elsewhere_by near far None = false

abbrev pub leads_elsewhere : PairState → (link : ℕ) → Bool
leads_elsewhere p link =
    leads_elsewhere_by
    p.near.exchange.settings
    p.far.exchange.settings
    (slice_get p.near.exchange.settings.links link)

-- ---- the messages between the two

-- the user messages for a point
abbrev pub users_to : (point : ℕ) → List Message → List Message
users_to point ms = filter (is_user_to point) ms

-- whether a message is management (SI 0) from one point to another
abbrev pub is_management_between : (from to : ℕ) → Message → Bool
is_management_between from to m =
    nat_eq (service_indicator m) 0 && (nat_eq (opc_of m) from && nat_eq (dpc_of m) to)

-- ---- what is done at one end

pub data Doing : Type 0 where
  -- what is done at an end of a pair that has only each other, on whichever link
  Does : (what : pairs.Doing) → Doing
  -- a link that leads elsewhere opens, or a frame comes by it
  OpensElsewhere : (link : ℕ) → Doing
  HearsElsewhere : (link : ℕ) (text : List ℕ) → Doing

pub data Step : Type 0 where
  AtNear : (what : Doing) → Step
  AtFar : (what : Doing) → Step

-- what the near end's exchange does about what happens, and what it accepts of it: the user messages for a point that
-- this brings in
abbrev pub takes_in_for : (point : ℕ) → Happening → PairState → Turn
takes_in_for point what p = record {
  outcome = outcome_of whole what p.near.exchange;
  left = record p {
    near = record p.near {
      exchange = after whole what p.near.exchange;
      accepted = p.near.accepted ++ users_to point (brought_in what p.near.exchange);
    };
  };
}

-- the next frame of a link is in flight to the far end of the link, or goes elsewhere if the link leads elsewhere
abbrev pub take_frame : Option FrameValue → (link : ℕ) → (other : Option ℕ) → PairState → Turn
take_frame None link other p = ignored p
take_frame (Some frame) link (Some other) p = record {
  outcome = Handled;
  left = record {
    near = record p.near { exchange = taken whole p.near.exchange link };
    far = record p.far { incoming = launched frame other p.far.incoming };
  };
}
take_frame (Some frame) link None p = record {
  outcome = Handled;
  left = record p { near = record p.near { exchange = taken whole p.near.exchange link } };
}

-- a frame that was in flight on a link comes, and with it the message that it newly carries, which is received if it is
-- a user message for the point for which the far end's are
abbrev pub deliver_frame_for : (there back : ℕ) → Option (List ℕ) → (link : ℕ) → (left : Streams) → PairState → Turn
deliver_frame_for there back None link left p = ignored p
deliver_frame_for there back (Some text) link left p = record {
  outcome = outcome_of whole (FrameCame link text) p.near.exchange;
  left = record p {
    near = record p.near {
      exchange = after whole (FrameCame link text) p.near.exchange;
      incoming = left;
      accepted =
          p.near.accepted
          ++ users_to there (brought_in (FrameCame link text) p.near.exchange);
      received = p.near.received ++ users_to back (option_to_list (new_message link text p.near.exchange));
    };
  };
}

-- a link opens at the near end, if that wants it to and it may open at the far one too. Then nothing is in flight, and
-- the far end may follow
abbrev pub opens_first : Wants → (other : Option ℕ) → (far_may : Bool) → (link : ℕ) → PairState → Turn
opens_first Open (Some other) true link p = record {
  outcome = Handled;
  left = record {
    near = record p.near {
      exchange = after whole (CameUp link) p.near.exchange;
      incoming = emptied link p.near.incoming;
      following = slice_set p.near.following link false;
    };
    far = record p.far {
      incoming = emptied other p.far.incoming;
      following = slice_set p.far.following other true;
    };
  };
}
opens_first wants other far_may link p = ignored p

-- whether a link may open at the far end of it
abbrev pub far_may_open : PairState → (other : Option ℕ) → Bool
far_may_open p (Some other) = may_open_at p.far other
far_may_open p None = false

-- ---- on links that lead elsewhere

-- whether a frame carries management in the name of one of two points for the other
abbrev pub speaks_for : (near far : ℕ) → (text : List ℕ) → Bool
speaks_for near far text =
    list_any
    (λ m. is_management_between near far m || is_management_between far near m)
    (option_to_list (carried_message (read_frame text)))

-- whether it does so for either of the two nodes, for which nobody else may speak
abbrev pub speaks_for_either : PairState → (text : List ℕ) → Bool
speaks_for_either p text = speaks_for p.near.exchange.settings.own p.far.exchange.settings.own text

-- anything may happen on a link that leads elsewhere, except that a frame speaks for either
abbrev pub takes_elsewhere_for : (point : ℕ) → (elsewhere speaks : Bool) → Happening → PairState → Turn
takes_elsewhere_for point true false what p = takes_in_for point what p
takes_elsewhere_for point elsewhere speaks what p = ignored p

-- ---- what each does, where the user messages that the near end accepts are for one point, and those that come back for
-- another

abbrev pub did_between_for : (there back : ℕ) → pairs.Doing → PairState → Turn
did_between_for there back (pairs.Submits m) p = takes_in_for there (Submitted m) p
did_between_for there back (pairs.Takes link) p =
    take_frame (frame_to_take whole p.near.exchange link) link (far_end p link) p
did_between_for there back (pairs.Delivers link) p =
    deliver_frame_for there back (slice_get (in_flight p.near.incoming.user_data link) 0) link
    (without_data link p.near.incoming) p
did_between_for there back (pairs.DeliversStatus link) p =
    deliver_frame_for there back (slice_get (in_flight p.near.incoming.statuses link) 0) link
    (without_status link p.near.incoming) p
did_between_for there back (pairs.LosesStatus link) p =
    change_statuses (slice_get (in_flight p.near.incoming.statuses link) 0) (without_status link p.near.incoming) p
did_between_for there back (pairs.DoublesStatus link) p =
    change_statuses (slice_get (in_flight p.near.incoming.statuses link) 0) (with_status_twice link p.near.incoming) p
did_between_for there back (pairs.Loses link) p = happens (WentDown link) p
did_between_for there back pairs.Ticks p = happens Ticked p
did_between_for there back (pairs.Activates link emergency) p = happens (Activated link emergency) p
did_between_for there back (pairs.Deactivates link) p = happens (Deactivated link) p
did_between_for there back (pairs.Releases link) p = happens (Released link) p
did_between_for there back (pairs.AddsTitle row is_memory_refused) p = happens (TitleAdded row is_memory_refused) p
did_between_for there back (pairs.SetsTitle row is_memory_refused) p = happens (TitleSet row is_memory_refused) p
did_between_for there back (pairs.RemovesTitle key digits) p = happens (TitleRemoved key digits) p
did_between_for there back (pairs.OpensFirst link) p =
    opens_first (wants_of p.near.exchange link) (far_end p link) (far_may_open p (far_end p link)) link p
did_between_for there back (pairs.OpensSecond link) p =
    pairs.opens_second (wants_of p.near.exchange link) (may_follow p.near link) link p

abbrev pub did_for : (there back : ℕ) → Doing → PairState → Turn
did_for there back (Does what) p = did_between_for there back what p
did_for there back (OpensElsewhere link) p = takes_elsewhere_for there (leads_elsewhere p link) false (CameUp link) p
did_for there back (HearsElsewhere link text) p =
    takes_elsewhere_for there (leads_elsewhere p link) (speaks_for_either p text) (FrameCame link text) p

abbrev pub turn_for : (there back : ℕ) → Step → PairState → Turn
turn_for there back (AtNear what) p = did_for there back what p
turn_for there back (AtFar what) p = record {
  outcome = (did_for back there what (turned p)).outcome;
  left = turned (did_for back there what (turned p)).left;
}

abbrev pub after_steps_for : (there back : ℕ) → List Step → PairState → PairState
after_steps_for there back [] p = p
after_steps_for there back (step ∷ steps) p = after_steps_for there back steps (turn_for there back step p).left

-- ---- the same, where they are for the two themselves

abbrev pub takes_in : Happening → PairState → Turn
takes_in what p = takes_in_for p.far.exchange.settings.own what p

abbrev pub deliver_frame : Option (List ℕ) → (link : ℕ) → (left : Streams) → PairState → Turn
deliver_frame text link left p =
    deliver_frame_for p.far.exchange.settings.own p.near.exchange.settings.own text link left p

abbrev pub takes_elsewhere : (elsewhere speaks : Bool) → Happening → PairState → Turn
takes_elsewhere elsewhere speaks what p = takes_elsewhere_for p.far.exchange.settings.own elsewhere speaks what p

abbrev pub did_between : pairs.Doing → PairState → Turn
did_between what p = did_between_for p.far.exchange.settings.own p.near.exchange.settings.own what p

abbrev pub did : Doing → PairState → Turn
did what p = did_for p.far.exchange.settings.own p.near.exchange.settings.own what p

-- what becomes of a step
abbrev pub turn : Step → PairState → Turn
turn (AtNear what) p = did what p
turn (AtFar what) p = record {
  outcome = (did what (turned p)).outcome;
  left = turned (did what (turned p)).left;
}

abbrev pub after_steps : List Step → PairState → PairState
after_steps [] p = p
after_steps (step ∷ steps) p = after_steps steps (turn step p).left
