-- What a step of a network makes of the exchange and the books of its node; those of all others stay.
use Rattle.pair_rules.proofs.Basics.{◌≡◌, ◌≢◌, ◌⊎◌, inl, inr, ℕ, Bool, true, false, List, Option, Some, None, refl, ap, ◌∙◌, nat_eq, slice_get, if◌then◌else◌}
use Rattle.pair_rules.proofs.Definitions.{Message, FrameValue, Open, Nothing, Close, whole, wants_of, frame_to_take, Happening, CameUp}
use Rattle.exchange_rules.specs.State.{WentDown, Ticked, Activated, Deactivated, Released, TitleAdded, TitleSet, TitleRemoved}
use Rattle.exchange_rules.specs.declared.wants.Wants.{Wants}
use Rattle.pair_rules.specs.Pairs as pairs
use Rattle.pair_rules.specs.Pairs.{Doing, Streams, in_flight, may_follow, may_open_at, with_status_twice, without_data, without_status}
use Rattle.network_rules.specs.Networks.{NetworkNode, NetworkState, Place, change_statuses, changed, comes_up, deliver_frame, did, did_here, end_of, happens, is_led, may_open_there, opens_first, opens_second, other_end, reaches, sends, submit, take_frame}
use Rattle.network_rules.proofs.Places.{node-other, node-same}

-- a node has the exchange and the books of another
pub record SameBooks (x y : NetworkNode) : Type 0 where
  pub exchange : y.exchange ≡ x.exchange
  pub accepted : y.accepted ≡ x.accepted
  pub arrived : y.arrived ≡ x.arrived
  pub entered : y.entered ≡ x.entered
  pub refused : y.refused ≡ x.refused

books-same : (x y : NetworkNode) → y ≡ x → SameBooks x y
books-same x y e = record {
  exchange = ap (λ (n : NetworkNode). n.exchange) e;
  accepted = ap (λ (n : NetworkNode). n.accepted) e;
  arrived = ap (λ (n : NetworkNode). n.arrived) e;
  entered = ap (λ (n : NetworkNode). n.entered) e;
  refused = ap (λ (n : NetworkNode). n.refused) e;
}

books-then : (x y z : NetworkNode) → SameBooks x y → SameBooks y z → SameBooks x z
books-then x y z e f = record {
  exchange = f.exchange ∙ e.exchange;
  accepted = f.accepted ∙ e.accepted;
  arrived = f.arrived ∙ e.arrived;
  entered = f.entered ∙ e.entered;
  refused = f.refused ∙ e.refused;
}

-- what happens that brings no message, and opens no link
abbrev pub IsPlain : Happening → Type 0
IsPlain (WentDown link) = Unit {0}
IsPlain Ticked = Unit {0}
IsPlain (Activated link emergency) = Unit {0}
IsPlain (Deactivated link) = Unit {0}
IsPlain (Released link) = Unit {0}
IsPlain (TitleAdded row is_memory_refused) = Unit {0}
IsPlain (TitleSet row is_memory_refused) = Unit {0}
IsPlain (TitleRemoved key digits) = Unit {0}
IsPlain what = ⊥

-- why a link opens: it may open at its other end, too, or this end may follow that
pub record MayOpenThere (w : NetworkState) (point link : ℕ) : Type 0 where
  pub there : Place
  pub is : other_end w point link ≡ Some there
  pub may : may_open_at (end_of (w.node there.point)) there.link ≡ true

pub data Turn (w v : NetworkState) (point : ℕ) : Type 0 where
  idles : SameBooks (w.node point) (v.node point) → Turn w v point
  goes_out : (link : ℕ) → SameBooks (sends link (w.node point)) (v.node point) → Turn w v point
  occurs : (what : Happening) → IsPlain what → SameBooks (happens what (w.node point)) (v.node point) → Turn w v point
  enters : (m : Message) → SameBooks (submit m (w.node point)) (v.node point) → Turn w v point
  comes : (link : ℕ) (text : List ℕ) (left : Streams) → (slice_get (in_flight (w.node point).incoming.user_data link) 0 ≡ Some text) ⊎ (slice_get (in_flight (w.node point).incoming.statuses link) 0 ≡ Some text)
      → SameBooks (deliver_frame (Some text) link left (w.node point)) (v.node point) → Turn w v point
  opens : (link : ℕ) → MayOpenThere w point link ⊎ (may_follow (end_of (w.node point)) link ≡ true) → SameBooks (happens (CameUp link) (w.node point)) (v.node point) → Turn w v point

-- ---- what is done at one node, or at two

changed-same : (point : ℕ) (change : NetworkNode → NetworkNode) (w : NetworkState) → SameBooks (change (w.node point)) ((changed point change w).node point)
changed-same point change w = books-same (change (w.node point)) ((changed point change w).node point) (node-same point change w)

changed-other : (point other : ℕ) (change : NetworkNode → NetworkNode) (w : NetworkState) → other ≢ point → SameBooks (w.node other) ((changed point change w).node other)
changed-other point other change w apart = books-same (w.node other) ((changed point change w).node other) (node-other point other change w apart)

-- where the change leaves the books
changed-books : (point other : ℕ) (change : NetworkNode → NetworkNode) (w : NetworkState) → ((x : NetworkNode) → SameBooks x (change x)) → SameBooks (w.node other) ((changed point change w).node other)
changed-books point other change w keeps = by (nat_eq other point)
  where
    by : (b : Bool) → SameBooks (w.node other) (if b then change (w.node other) else w.node other)
    by true = keeps (w.node other)
    by false = books-same (w.node other) (w.node other) refl

reaches-books : (frame : FrameValue) (link : ℕ) (x : NetworkNode) → SameBooks x (reaches frame link x)
reaches-books frame link x = record { exchange = refl; accepted = refl; arrived = refl; entered = refl; refused = refl }

led-books : (link : ℕ) (x : NetworkNode) → SameBooks x (is_led link x)
led-books link x = record { exchange = refl; accepted = refl; arrived = refl; entered = refl; refused = refl }

up-books : (link : ℕ) (x : NetworkNode) → SameBooks (happens (CameUp link) x) (comes_up link x)
up-books link x = record { exchange = refl; accepted = refl; arrived = refl; entered = refl; refused = refl }

statuses-books : (o : Option (List ℕ)) (left : Streams) (x : NetworkNode) → SameBooks x (change_statuses o left x)
statuses-books None left x = books-same x x refl
statuses-books (Some text) left x = record { exchange = refl; accepted = refl; arrived = refl; entered = refl; refused = refl }

module _ (point : ℕ) (w : NetworkState) where
  abbrev x : NetworkNode
  x = w.node point

  heard-turn : (link : ℕ) (left : Streams) (o : Option (List ℕ)) (v : NetworkState)
      → ((text : List ℕ) → o ≡ Some text → (slice_get (in_flight x.incoming.user_data link) 0 ≡ Some text) ⊎ (slice_get (in_flight x.incoming.statuses link) 0 ≡ Some text))
      → SameBooks (deliver_frame o link left x) (v.node point) → Turn w v point
  heard-turn link left None v f e = idles e
  heard-turn link left (Some text) v f e = comes link text left (f text refl) e

  second-turn : (wants : Wants) (follows : Bool) (link : ℕ) (v : NetworkState) → may_follow (end_of x) link ≡ follows → SameBooks (opens_second wants follows link x) (v.node point) → Turn w v point
  second-turn Open true link v f e =
      opens link (inr f) (books-then (happens (CameUp link) x) (opens_second Open true link x) (v.node point) (record { exchange = refl; accepted = refl; arrived = refl; entered = refl; refused = refl }) e)
  second-turn Open false link v f e = idles e
  second-turn Nothing follows link v f e = idles e
  second-turn Close follows link v f e = idles e

  take-turn : (o : Option FrameValue) (link : ℕ) (there : Option Place) → Turn w (take_frame o point link there w) point
  take-turn None link there = idles (books-same x x refl)
  take-turn (Some frame) link None = goes_out link (changed-same point (sends link) w)
  take-turn (Some frame) link (Some there) =
      let sent : NetworkState = changed point (sends link) w in
      goes_out link (books-then (sends link x) (sent.node point) ((changed there.point (reaches frame there.link) sent).node point) (changed-same point (sends link) w)
      (changed-books there.point point (reaches frame there.link) sent (reaches-books frame there.link)))

  first-turn : (wants : Wants) (may : Bool) (link : ℕ) (o : Option Place) → other_end w point link ≡ o → may_open_there w o ≡ may → Turn w (opens_first wants may point link o w) point
  first-turn Open true link (Some there) e f =
      let opened : NetworkState = changed point (comes_up link) w in
      opens link (inl (record { there = there; is = e; may = f }))
      (books-then (happens (CameUp link) x) (opened.node point) ((changed there.point (is_led there.link) opened).node point)
      (books-then (happens (CameUp link) x) (comes_up link x) (opened.node point) (up-books link x) (changed-same point (comes_up link) w))
      (changed-books there.point point (is_led there.link) opened (led-books there.link)))
  first-turn Open true link None e f = idles (books-same x x refl)
  first-turn Open false link o e f = idles (books-same x x refl)
  first-turn Nothing may link o e f = idles (books-same x x refl)
  first-turn Close may link o e f = idles (books-same x x refl)

  abbrev here : (what : Doing) → SameBooks (did_here what x) ((changed point (did_here what) w).node point)
  here what = changed-same point (did_here what) w

  pub turn-of : (what : Doing) → Turn w (did what point w) point
  turn-of (pairs.Submits m) = enters m (here (pairs.Submits m))
  turn-of (pairs.Takes link) = take-turn (frame_to_take whole x.exchange link) link (other_end w point link)
  turn-of (pairs.Delivers link) =
      heard-turn link (without_data link x.incoming) (slice_get (in_flight x.incoming.user_data link) 0) (did (pairs.Delivers link) point w) (λ text e. inl e) (here (pairs.Delivers link))
  turn-of (pairs.DeliversStatus link) =
      heard-turn link (without_status link x.incoming) (slice_get (in_flight x.incoming.statuses link) 0) (did (pairs.DeliversStatus link) point w) (λ text e. inr e) (here (pairs.DeliversStatus link))
  turn-of (pairs.LosesStatus link) =
      idles (books-then x (did_here (pairs.LosesStatus link) x) ((did (pairs.LosesStatus link) point w).node point)
      (statuses-books (slice_get (in_flight x.incoming.statuses link) 0) (without_status link x.incoming) x) (here (pairs.LosesStatus link)))
  turn-of (pairs.DoublesStatus link) =
      idles (books-then x (did_here (pairs.DoublesStatus link) x) ((did (pairs.DoublesStatus link) point w).node point)
      (statuses-books (slice_get (in_flight x.incoming.statuses link) 0) (with_status_twice link x.incoming) x) (here (pairs.DoublesStatus link)))
  turn-of (pairs.Loses link) = occurs (WentDown link) tt (here (pairs.Loses link))
  turn-of pairs.Ticks = occurs Ticked tt (here pairs.Ticks)
  turn-of (pairs.Activates link emergency) = occurs (Activated link emergency) tt (here (pairs.Activates link emergency))
  turn-of (pairs.Deactivates link) = occurs (Deactivated link) tt (here (pairs.Deactivates link))
  turn-of (pairs.Releases link) = occurs (Released link) tt (here (pairs.Releases link))
  turn-of (pairs.AddsTitle row is_memory_refused) = occurs (TitleAdded row is_memory_refused) tt (here (pairs.AddsTitle row is_memory_refused))
  turn-of (pairs.SetsTitle row is_memory_refused) = occurs (TitleSet row is_memory_refused) tt (here (pairs.SetsTitle row is_memory_refused))
  turn-of (pairs.RemovesTitle key digits) = occurs (TitleRemoved key digits) tt (here (pairs.RemovesTitle key digits))
  turn-of (pairs.OpensFirst link) = first-turn (wants_of x.exchange link) (may_open_there w (other_end w point link)) link (other_end w point link) refl refl
  turn-of (pairs.OpensSecond link) = second-turn (wants_of x.exchange link) (may_follow (end_of x) link) link (did (pairs.OpensSecond link) point w) refl (here (pairs.OpensSecond link))

  -- ---- all others

  module _ (other : ℕ) (apart : other ≢ point) where
    take-others : (o : Option FrameValue) (link : ℕ) (there : Option Place) → SameBooks (w.node other) ((take_frame o point link there w).node other)
    take-others None link there = books-same (w.node other) (w.node other) refl
    take-others (Some frame) link None = changed-other point other (sends link) w apart
    take-others (Some frame) link (Some there) =
        let sent : NetworkState = changed point (sends link) w in
        books-then (w.node other) (sent.node other) ((changed there.point (reaches frame there.link) sent).node other) (changed-other point other (sends link) w apart)
        (changed-books there.point other (reaches frame there.link) sent (reaches-books frame there.link))

    first-others : (wants : Wants) (may : Bool) (link : ℕ) (o : Option Place) → SameBooks (w.node other) ((opens_first wants may point link o w).node other)
    first-others Open true link (Some there) =
        let opened : NetworkState = changed point (comes_up link) w in
        books-then (w.node other) (opened.node other) ((changed there.point (is_led there.link) opened).node other) (changed-other point other (comes_up link) w apart)
        (changed-books there.point other (is_led there.link) opened (led-books there.link))
    first-others Open true link None = books-same (w.node other) (w.node other) refl
    first-others Open false link o = books-same (w.node other) (w.node other) refl
    first-others Nothing may link o = books-same (w.node other) (w.node other) refl
    first-others Close may link o = books-same (w.node other) (w.node other) refl

    pub others-of : (what : Doing) → SameBooks (w.node other) ((did what point w).node other)
    others-of (pairs.Takes link) = take-others (frame_to_take whole x.exchange link) link (other_end w point link)
    others-of (pairs.OpensFirst link) = first-others (wants_of x.exchange link) (may_open_there w (other_end w point link)) link (other_end w point link)
    others-of (pairs.Submits m) = changed-other point other (did_here (pairs.Submits m)) w apart
    others-of (pairs.Delivers link) = changed-other point other (did_here (pairs.Delivers link)) w apart
    others-of (pairs.DeliversStatus link) = changed-other point other (did_here (pairs.DeliversStatus link)) w apart
    others-of (pairs.LosesStatus link) = changed-other point other (did_here (pairs.LosesStatus link)) w apart
    others-of (pairs.DoublesStatus link) = changed-other point other (did_here (pairs.DoublesStatus link)) w apart
    others-of (pairs.Loses link) = changed-other point other (did_here (pairs.Loses link)) w apart
    others-of pairs.Ticks = changed-other point other (did_here pairs.Ticks) w apart
    others-of (pairs.Activates link emergency) = changed-other point other (did_here (pairs.Activates link emergency)) w apart
    others-of (pairs.Deactivates link) = changed-other point other (did_here (pairs.Deactivates link)) w apart
    others-of (pairs.Releases link) = changed-other point other (did_here (pairs.Releases link)) w apart
    others-of (pairs.AddsTitle row is_memory_refused) = changed-other point other (did_here (pairs.AddsTitle row is_memory_refused)) w apart
    others-of (pairs.SetsTitle row is_memory_refused) = changed-other point other (did_here (pairs.SetsTitle row is_memory_refused)) w apart
    others-of (pairs.RemovesTitle key digits) = changed-other point other (did_here (pairs.RemovesTitle key digits)) w apart
    others-of (pairs.OpensSecond link) = changed-other point other (did_here (pairs.OpensSecond link)) w apart
