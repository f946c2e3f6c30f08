-- Each end of a pair is an exchange that was asked some things since it was booted: a step asks it one thing, or
-- nothing. What it books is user messages for the far point, and for its own.
use Rattle.pair_rules.proofs.Basics.{◌≡◌, ℕ, Bool, true, false, not, ◌&&◌, List, [], ◌∷◌, ◌++◌, Option, Some, None, refl, ap, sym, subst, ◌∙◌, arith, nat_eq, nat_tests, All, slice_get, option_to_list, if◌then◌else◌}
use Rattle.std.proofs.lemmas.List.Elements.{All-append, All-cons, All-nil}
use Rattle.pair_rules.proofs.Definitions.{Message, dpc_of, is_management, Configuration, FrameValue, Happening, brought_in, new_message, whole, wants_of, End, PairState, Streams, first_pair, turned, in_flight, may_follow, Nothing, Open, Close, change_statuses, happens}
use Rattle.exchange_rules.specs.declared.wants.Wants.{Wants}
use Rattle.exchange_rules.specs.Exchange.{after, frame_to_take, taken}
use Rattle.exchange_rules.specs.First.{first_state, Abstract}
use Rattle.exchange_rules.specs.State as happening
use Rattle.exchange_rules.specs.State.{Asking, Happens, Takes}
use Rattle.exchange_rules.specs.Lasting.{after_each}
use Rattle.pair_rules.specs.Accepting.{IsUserMessageTo}
use Rattle.pair_rules.specs.Pairs as pairs
use Rattle.neighbour_rules.specs.Neighbours.{Doing, Does, OpensElsewhere, HearsElsewhere, Step, AtNear, AtFar, after_steps, deliver_frame, did, did_between, far_end, far_may_open, leads_elsewhere, opens_first, speaks_for_either, take_frame, takes_elsewhere, takes_in, turn, users_to}

-- ---- an exchange that was asked these things since it was booted with these settings

pub record IsAsked (c : Configuration) (a : Abstract) : Type 0 where
  pub asked : List Asking
  pub is : a ≡ after_each asked (first_state c)
  pub settings : a.settings ≡ c

after-both : (xs ys : List Asking) (a : Abstract) → after_each (xs ++ ys) a ≡ after_each ys (after_each xs a)
after-both [] ys a = refl
after-both (x ∷ xs) ys a = after-both xs ys _

module _ (c : Configuration) (a : Abstract) (i : IsAsked c a) where
  happened : (what : Happening) → IsAsked c (after whole what a)
  happened what = record {
    asked = i.asked ++ Happens what ∷ [];
    is = ap (after whole what) i.is ∙ sym (after-both i.asked (Happens what ∷ []) (first_state c));
    settings = i.settings;
  }

  fetched : (link : ℕ) → IsAsked c (taken whole a link)
  fetched link = record {
    asked = i.asked ++ Takes link ∷ [];
    is = ap (λ (x : Abstract). taken whole x link) i.is ∙ sym (after-both i.asked (Takes link ∷ []) (first_state c));
    settings = i.settings;
  }

-- ---- the user messages of a list for a point

same-number : (m n : ℕ) → nat_eq m n ≡ true → m ≡ n
same-number m n e = grind (arith, nat_tests)

users-are : (point : ℕ) (ms : List Message) → All (IsUserMessageTo point) (users_to point ms)
users-are point [] = All-nil (IsUserMessageTo point)
users-are point (m ∷ ms) = by (is_management m) (nat_eq (dpc_of m) point) refl refl (users-are point ms)
  where
    by : (b d : Bool) → is_management m ≡ b → nat_eq (dpc_of m) point ≡ d → All (IsUserMessageTo point) (users_to point ms)
        → All (IsUserMessageTo point) (if not b && d then m ∷ users_to point ms else users_to point ms)
    by true d e f rest = rest
    by false false e f rest = rest
    by false true e f rest = All-cons (IsUserMessageTo point) m (users_to point ms) (record { destination = same-number (dpc_of m) point f; user = e }) rest

-- ---- an end

pub record IsEnd (own other : Configuration) (e : End) : Type 0 where
  pub exchange : IsAsked own e.exchange
  pub accepted : All (IsUserMessageTo other.own) e.accepted
  pub received : All (IsUserMessageTo own.own) e.received

module _ (own other : Configuration) (e : End) (i : IsEnd own other e) where
  -- beside its exchange and its books
  pub aside : (s : Streams) (v : List Bool) → IsEnd own other (record e { incoming = s; following = v })
  aside s v = record { exchange = i.exchange; accepted = i.accepted; received = i.received }

  -- its exchange is asked something
  asked : (a : Abstract) (s : Streams) (v : List Bool) → IsAsked own a → IsEnd own other (record e { exchange = a; incoming = s; following = v })
  asked a s v is = record { exchange = is; accepted = i.accepted; received = i.received }

  -- and that is booked
  booked : (a : Abstract) (s : Streams) (accepted : List Message) → IsAsked own a → All (IsUserMessageTo other.own) accepted
      → IsEnd own other (record e { exchange = a; incoming = s; accepted = e.accepted ++ accepted })
  booked a s accepted is all = record {
    exchange = is;
    accepted = All-append (IsUserMessageTo other.own) e.accepted accepted i.accepted all;
    received = i.received;
  }

  both-booked : (a : Abstract) (s : Streams) (accepted received : List Message) → IsAsked own a → All (IsUserMessageTo other.own) accepted → All (IsUserMessageTo own.own) received
      → IsEnd own other (record e { exchange = a; incoming = s; accepted = e.accepted ++ accepted; received = e.received ++ received })
  both-booked a s accepted received is all them = record {
    exchange = is;
    accepted = All-append (IsUserMessageTo other.own) e.accepted accepted i.accepted all;
    received = All-append (IsUserMessageTo own.own) e.received received i.received them;
  }

-- both ends
pub record AreEnds (near far : Configuration) (p : PairState) : Type 0 where
  pub near_is : IsEnd near far p.near
  pub far_is : IsEnd far near p.far

pub ends-turned : (near far : Configuration) (p : PairState) → AreEnds near far p → AreEnds far near (turned p)
ends-turned near far p t = record { near_is = t.far_is; far_is = t.near_is }

-- ---- each step

module _ (near far : Configuration) (p : PairState) (t : AreEnds near far p) where
  came : (what : Happening) → IsAsked near (after whole what p.near.exchange)
  came what = happened near p.near.exchange t.near_is.exchange what

  went : (link : ℕ) → IsAsked near (taken whole p.near.exchange link)
  went link = fetched near p.near.exchange t.near_is.exchange link

  -- what is booked for the far point, and for its own
  theirs : (ms : List Message) → All (IsUserMessageTo far.own) (users_to p.far.exchange.settings.own ms)
  theirs ms = subst (λ (x : Configuration). All (IsUserMessageTo far.own) (users_to x.own ms)) (sym t.far_is.exchange.settings) (users-are far.own ms)

  ours : (ms : List Message) → All (IsUserMessageTo near.own) (users_to p.near.exchange.settings.own ms)
  ours ms = subst (λ (x : Configuration). All (IsUserMessageTo near.own) (users_to x.own ms)) (sym t.near_is.exchange.settings) (users-are near.own ms)

  takes_in-ends : (what : Happening) → AreEnds near far (takes_in what p).left
  takes_in-ends what = record {
    near_is = booked near far p.near t.near_is (after whole what p.near.exchange) p.near.incoming _ (came what) (theirs (brought_in what p.near.exchange));
    far_is = t.far_is;
  }

  take-ends : (frame : Option FrameValue) (link : ℕ) (other : Option ℕ) → AreEnds near far (take_frame frame link other p).left
  take-ends None link other = t
  take-ends (Some frame) link None = record { near_is = asked near far p.near t.near_is _ _ _ (went link); far_is = t.far_is }
  take-ends (Some frame) link (Some other) = record { near_is = asked near far p.near t.near_is _ _ _ (went link); far_is = aside far near p.far t.far_is _ _ }

  deliver-ends : (text : Option (List ℕ)) (link : ℕ) (left : Streams) → AreEnds near far (deliver_frame text link left p).left
  deliver-ends None link left = t
  deliver-ends (Some text) link left = record {
    near_is = both-booked near far p.near t.near_is _ left _ _ (came (happening.FrameCame link text))
        (theirs (brought_in (happening.FrameCame link text) p.near.exchange)) (ours (option_to_list (new_message link text p.near.exchange)));
    far_is = t.far_is;
  }

  statuses-ends : (text : Option (List ℕ)) (left : Streams) → AreEnds near far (change_statuses text left p).left
  statuses-ends None left = t
  statuses-ends (Some text) left = record { near_is = aside near far p.near t.near_is _ _; far_is = t.far_is }

  first-ends : (wish : Wants) (other : Option ℕ) (may : Bool) (link : ℕ) → AreEnds near far (opens_first wish other may link p).left
  first-ends Open (Some other) true link = record { near_is = asked near far p.near t.near_is _ _ _ (came (happening.CameUp link)); far_is = aside far near p.far t.far_is _ _ }
  first-ends Open (Some other) false link = t
  first-ends Open None may link = t
  first-ends Close other may link = t
  first-ends Nothing other may link = t

  second-ends : (wish : Wants) (may : Bool) (link : ℕ) → AreEnds near far (pairs.opens_second wish may link p).left
  second-ends Open true link = record { near_is = asked near far p.near t.near_is _ _ _ (came (happening.CameUp link)); far_is = t.far_is }
  second-ends Open false link = t
  second-ends Close may link = t
  second-ends Nothing may link = t

  happens-ends : (what : Happening) → AreEnds near far (happens what p).left
  happens-ends what = record { near_is = asked near far p.near t.near_is _ _ _ (came what); far_is = t.far_is }

  elsewhere-ends : (elsewhere speaks : Bool) (what : Happening) → AreEnds near far (takes_elsewhere elsewhere speaks what p).left
  elsewhere-ends true false what = takes_in-ends what
  elsewhere-ends true true what = t
  elsewhere-ends false speaks what = t

  between-ends : (what : pairs.Doing) → AreEnds near far (did_between what p).left
  between-ends (pairs.Submits m) = takes_in-ends (happening.Submitted m)
  between-ends (pairs.Takes link) = take-ends (frame_to_take whole p.near.exchange link) link (far_end p link)
  between-ends (pairs.Delivers link) = deliver-ends (slice_get (in_flight p.near.incoming.user_data link) 0) link (pairs.without_data link p.near.incoming)
  between-ends (pairs.DeliversStatus link) = deliver-ends (slice_get (in_flight p.near.incoming.statuses link) 0) link (pairs.without_status link p.near.incoming)
  between-ends (pairs.LosesStatus link) = statuses-ends (slice_get (in_flight p.near.incoming.statuses link) 0) (pairs.without_status link p.near.incoming)
  between-ends (pairs.DoublesStatus link) = statuses-ends (slice_get (in_flight p.near.incoming.statuses link) 0) (pairs.with_status_twice link p.near.incoming)
  between-ends (pairs.Loses link) = happens-ends (happening.WentDown link)
  between-ends pairs.Ticks = happens-ends happening.Ticked
  between-ends (pairs.Activates link emergency) = happens-ends (happening.Activated link emergency)
  between-ends (pairs.Deactivates link) = happens-ends (happening.Deactivated link)
  between-ends (pairs.Releases link) = happens-ends (happening.Released link)
  between-ends (pairs.AddsTitle row is_memory_refused) = happens-ends (happening.TitleAdded row is_memory_refused)
  between-ends (pairs.SetsTitle row is_memory_refused) = happens-ends (happening.TitleSet row is_memory_refused)
  between-ends (pairs.RemovesTitle key digits) = happens-ends (happening.TitleRemoved key digits)
  between-ends (pairs.OpensFirst link) = first-ends (wants_of p.near.exchange link) (far_end p link) (far_may_open p (far_end p link)) link
  between-ends (pairs.OpensSecond link) = second-ends (wants_of p.near.exchange link) (may_follow p.near link) link

  did-ends : (what : Doing) → AreEnds near far (did what p).left
  did-ends (Does what) = between-ends what
  did-ends (OpensElsewhere link) = elsewhere-ends (leads_elsewhere p link) false (happening.CameUp link)
  did-ends (HearsElsewhere link text) = elsewhere-ends (leads_elsewhere p link) (speaks_for_either p text) (happening.FrameCame link text)

pub step-ends : (near far : Configuration) (step : Step) (p : PairState) → AreEnds near far p → AreEnds near far (turn step p).left
step-ends near far (AtNear what) p t = did-ends near far p t what
step-ends near far (AtFar what) p t = ends-turned far near (did what (turned p)).left (did-ends far near (turned p) (ends-turned near far p t) what)

pub steps-ends : (near far : Configuration) (steps : List Step) (p : PairState) → AreEnds near far p → AreEnds near far (after_steps steps p)
steps-ends near far [] p t = t
steps-ends near far (step ∷ steps) p t = steps-ends near far steps (turn step p).left (step-ends near far step p t)

first-end : (own other : Configuration) → IsEnd own other (pairs.first_end own)
first-end own other = record {
  exchange = record { asked = []; is = refl; settings = refl };
  accepted = All-nil (IsUserMessageTo other.own);
  received = All-nil (IsUserMessageTo own.own);
}

pub begin-ends : (near far : Configuration) → AreEnds near far (first_pair near far)
begin-ends near far = record { near_is = first-end near far; far_is = first-end far near }

pub all-ends : (near far : Configuration) (steps : List Step) → AreEnds near far (after_steps steps (first_pair near far))
all-ends near far steps = steps-ends near far steps (first_pair near far) (begin-ends near far)
