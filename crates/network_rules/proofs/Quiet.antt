-- In a network nobody speaks for another: no frame that comes to one of two nodes that share a set by a link that leads
-- elsewhere carries management of one of them for the other.
use Rattle.pair_rules.proofs.Basics.{◌≡◌, ◌≢◌, ℕ, zero, suc, Bool, true, false, List, [], ◌∷◌, Option, Some, None, refl, ap, sym, subst, ◌∙◌, nat_eq, slice_get, slice_set, slice_index_or, drop, take, if◌then◌else◌, ⊎_elim, cases_eq}
use Rattle.exchange_rules.proofs.Basics.{eqb-true}
use Rattle.pair_rules.proofs.Definitions.{Message, Configuration, LinkEntry, IsWell, FrameValue, EmptyFrame, MessageFrame, StatusFrame, Happening, FrameCame, Open, Nothing, Close, whole, queue_at, apply, after, Streams, in_flight, spelled, frame_to_take, wants_of}
use Rattle.exchange_rules.specs.State.{CameUp, Submitted, WentDown, Ticked, Activated, Deactivated, Released, TitleAdded, TitleSet, TitleRemoved}
use Rattle.exchange_rules.specs.First.{Abstract}
use Rattle.exchange_rules.specs.Exchange.{taken}
use Rattle.exchange_rules.specs.Sending.{after_take}
use Rattle.exchange_rules.specs.declared.wants.Wants.{Wants}
use Rattle.pair_rules.specs.Pairs as pairs
use Rattle.pair_rules.specs.Pairs.{Doing, emptied, first_pair, launched, may_follow, with_status_twice, without_data, without_status}
use Rattle.pair_rules.proofs.Good.{Each, each-behind, each-get}
use Rattle.neighbour_rules.proofs.Good.{Joint}
use Rattle.neighbour_rules.proofs.Sharing.{AreFacing, facing_back, far_joint, near_joint}
use Rattle.network_rules.specs.Networks.{NetworkNode, NetworkState, Place, change_statuses, changed, comes_up, deliver_frame, did, did_here, end_of, is_led, may_open_there, opens_first, opens_second, other_end, reaches, sends, take_frame}
use Rattle.network_rules.specs.Networks.{place_there}
use Rattle.network_rules.specs.Pairs.{AreTheirPoints, AreWellOrAlone}
use Rattle.network_rules.proofs.Alike.{away}
use Rattle.network_rules.proofs.Thirds.{third-fine}
use Rattle.network_rules.proofs.Ends.{EndOk, all-get, event-ok, is_fine, take-ok, taken-harmless}
use Rattle.network_rules.proofs.Fine.{AreFine}
use Rattle.network_rules.proofs.Passing.{IsFine}
use Rattle.network_rules.proofs.PassingEvents.{IsFineAt, event-keeps, take-keeps}
use Rattle.network_rules.proofs.Texts.{IsHarmless}
use Rattle.network_rules.proofs.Elsewhere.{SaysElsewhere, end-harmless, harmless-turned}

-- ---- lists of which an element is replaced

each-drop : {A : Type 0} (P : A → Type 0) (xs : List A) → Each P xs → Each P (drop 1 xs)
each-drop P [] h = h
each-drop P (x ∷ xs) h = h.1

each-first : {A : Type 0} (P : A → Type 0) (xs : List A) → Each P xs → Each P (take 1 xs)
each-first P [] h = tt
each-first P (x ∷ xs) h = (h.0, tt)

-- of the lists of some links one is replaced: where a condition holds of a link, all on it are as they should be
set-each : {A : Type 0} (P : A → Type 0) (Q : (link : ℕ) → Type 0) (xs : List (List A)) (i j : ℕ) (ys : List A) → ((k : ℕ) → Q k → Each P (slice_index_or xs k []))
    → (Q i → Each P ys) → Q j → Each P (slice_index_or (slice_set xs i ys) j [])
set-each P Q [] i j ys each h q = each j q
set-each P Q (x ∷ xs) zero zero ys each h q = h q
set-each P Q (x ∷ xs) zero (suc j) ys each h q = each (suc j) q
set-each P Q (x ∷ xs) (suc i) zero ys each h q = each zero q
set-each P Q (x ∷ xs) (suc i) (suc j) ys each h q = set-each P (λ k. Q (suc k)) xs i j ys (λ k. each (suc k)) h q

-- ---- a network

module _ (settings : (point : ℕ) → Configuration) (near far : ℕ) (points : AreTheirPoints settings) (well : AreWellOrAlone settings) (a : AreFacing (settings near) (settings far)) where
  abbrev pub one : Configuration
  one = settings near

  abbrev pub two : Configuration
  two = settings far

  abbrev pub joint : Joint one two
  joint = near_joint one two a

  abbrev pub back : Joint two one
  back = far_joint one two a

  abbrev pub fine : Message → Bool
  fine m = is_fine one.own two.own m

  abbrev pub Harmless : List ℕ → Type 0
  Harmless text = IsHarmless fine text

  -- a link by which nothing of the two comes to one of them: one that leads elsewhere, or one of a third node
  pub record Watched (point link : ℕ) : Type 0 where
    pub of_near : near ≡ point → away one two link ≡ true
    pub of_far : far ≡ point → away two one link ≡ true

  pub record FliesOk (point : ℕ) (s : Streams) : Type 0 where
    pub user_data : (link : ℕ) → Watched point link → Each Harmless (in_flight s.user_data link)
    pub statuses : (link : ℕ) → Watched point link → Each Harmless (in_flight s.statuses link)

  pub record NodeOk (point : ℕ) (e : Abstract) (s : Streams) : Type 0 where
    pub kept : e.settings ≡ settings point
    pub third : near ≢ point → far ≢ point → (f : IsFine (settings point) fine) → AreFine (settings point) fine f e.node.queues
    pub near_end : near ≡ point → EndOk one two joint e.node
    pub far_end : far ≡ point → EndOk two one back e.node
    pub flying : FliesOk point s

  pub record IsQuiet (w : NetworkState) : Type 0 where
    pub each : (point : ℕ) → NodeOk point (w.node point).exchange (w.node point).incoming

  -- ---- streams

  module _ (point : ℕ) (s : Streams) (h : FliesOk point s) where
    changed-data : (link : ℕ) (texts : List (List ℕ)) → (Watched point link → Each Harmless texts) → FliesOk point (record s { user_data = slice_set s.user_data link texts })
    changed-data link texts g = record { user_data = λ other q. set-each Harmless (Watched point) s.user_data link other texts h.user_data g q; statuses = h.statuses }

    changed-status : (link : ℕ) (texts : List (List ℕ)) → (Watched point link → Each Harmless texts) → FliesOk point (record s { statuses = slice_set s.statuses link texts })
    changed-status link texts g = record { user_data = h.user_data; statuses = λ other q. set-each Harmless (Watched point) s.statuses link other texts h.statuses g q }

    less-data : (link : ℕ) → FliesOk point (without_data link s)
    less-data link = changed-data link _ (λ q. each-drop Harmless (in_flight s.user_data link) (h.user_data link q))

    less-status : (link : ℕ) → FliesOk point (without_status link s)
    less-status link = changed-status link _ (λ q. each-drop Harmless (in_flight s.statuses link) (h.statuses link q))

    twice : (link : ℕ) → FliesOk point (with_status_twice link s)
    twice link = changed-status link _ (λ q. each-behind Harmless (take 1 (in_flight s.statuses link)) (in_flight s.statuses link) (each-first Harmless (in_flight s.statuses link) (h.statuses link q)) (h.statuses link q))

    more : (frame : FrameValue) (link : ℕ) → (Watched point link → Harmless (spelled frame)) → FliesOk point (launched frame link s)
    more (StatusFrame bsn fsn status) link g = changed-status link _ (λ q. each-behind Harmless (in_flight s.statuses link) (spelled (StatusFrame bsn fsn status) ∷ []) (h.statuses link q) (g q, tt))
    more (EmptyFrame bsn fsn) link g = changed-data link _ (λ q. each-behind Harmless (in_flight s.user_data link) (spelled (EmptyFrame bsn fsn) ∷ []) (h.user_data link q) (g q, tt))
    more (MessageFrame bsn fsn sio sif) link g = changed-data link _ (λ q. each-behind Harmless (in_flight s.user_data link) (spelled (MessageFrame bsn fsn sio sif) ∷ []) (h.user_data link q) (g q, tt))

  none : (point : ℕ) (s : Streams) (link : ℕ) → FliesOk point s → FliesOk point (emptied link s)
  none point s link h =
      changed-status point (record s { user_data = slice_set s.user_data link [] }) (changed-data point s h link [] (λ q. tt)) link [] (λ q. tt)

  -- ---- a node

  module _ (point : ℕ) (e : Abstract) (s : Streams) (h : NodeOk point e s) where
    with-streams : (t : Streams) → FliesOk point t → NodeOk point e t
    with-streams t g = record { kept = h.kept; third = h.third; near_end = h.near_end; far_end = h.far_end; flying = g }

    pub happened : (what : Happening) → (near ≢ point → far ≢ point → (f : IsFine (settings point) fine) → IsFineAt (settings point) fine f what) → NodeOk point (after whole what e) s
    happened what g = record {
      kept = h.kept;
      third = λ d i f.
          subst (λ (x : Configuration). AreFine (settings point) fine f (apply whole x what e.node).left.queues) (sym h.kept)
          ((event-keeps (settings point) fine f what e.node (g d i f)).stay (h.third d i f));
      near_end = λ i. subst (λ (x : Configuration). EndOk one two joint (apply whole x what e.node).left) (sym (h.kept ∙ ap settings (sym i))) (event-ok one two joint what e.node (h.near_end i));
      far_end = λ i. subst (λ (x : Configuration). EndOk two one back (apply whole x what e.node).left) (sym (h.kept ∙ ap settings (sym i))) (event-ok two one back what e.node (h.far_end i));
      flying = h.flying;
    }

    sent : (link : ℕ) → NodeOk point (taken whole e link) s
    sent link = record {
      kept = h.kept;
      third = λ d i f.
          subst (λ (x : Configuration). AreFine (settings point) fine f (after_take whole x link e.node).queues) (sym h.kept)
          ((take-keeps (settings point) fine f link e.node).stay (h.third d i f));
      near_end = λ i. subst (λ (x : Configuration). EndOk one two joint (after_take whole x link e.node)) (sym (h.kept ∙ ap settings (sym i))) (take-ok one two joint link e.node (h.near_end i));
      far_end = λ i. subst (λ (x : Configuration). EndOk two one back (after_take whole x link e.node)) (sym (h.kept ∙ ap settings (sym i))) (take-ok two one back link e.node (h.far_end i));
      flying = h.flying;
    }

  abbrev pub IsOk : (point : ℕ) → NetworkNode → Type 0
  IsOk point x = NodeOk point x.exchange x.incoming

  pub delivered : (point : ℕ) (o : Option (List ℕ)) (link : ℕ) (left : Streams) (x : NetworkNode) → IsOk point x → FliesOk point left → ((text : List ℕ) → o ≡ Some text → Watched point link → Harmless text)
      → IsOk point (deliver_frame o link left x)
  delivered point None link left x h g i = h
  delivered point (Some text) link left x h g i =
      with-streams point (after whole (FrameCame link text) x.exchange) x.incoming
      (happened point x.exchange x.incoming h (FrameCame link text)
      (λ d e f. (i text refl (record { of_near = λ n. absurd (d n); of_far = λ n. absurd (e n) })).carried)) left g

  restated : (point : ℕ) (o : Option (List ℕ)) (left : Streams) (x : NetworkNode) → IsOk point x → FliesOk point left → IsOk point (change_statuses o left x)
  restated point None left x h g = h
  restated point (Some text) left x h g = with-streams point x.exchange x.incoming h left g

  followed : (point : ℕ) (wants : Wants) (follows : Bool) (link : ℕ) (x : NetworkNode) → IsOk point x → IsOk point (opens_second wants follows link x)
  followed point Open true link x h = happened point x.exchange x.incoming h (CameUp link) (λ d e f. tt)
  followed point Open false link x h = h
  followed point Nothing follows link x h = h
  followed point Close follows link x h = h

  here-ok : (what : Doing) (point : ℕ) (x : NetworkNode) → IsOk point x → IsOk point (did_here what x)
  here-ok (pairs.Submits m) point x h = happened point x.exchange x.incoming h (Submitted m) (λ d e f. tt)
  here-ok (pairs.Takes link) point x h = h
  here-ok (pairs.Delivers link) point x h =
      delivered point (slice_get (in_flight x.incoming.user_data link) 0) link (without_data link x.incoming) x h (less-data point x.incoming h.flying link)
      (λ text e q. each-get Harmless (in_flight x.incoming.user_data link) 0 text (h.flying.user_data link q) e)
  here-ok (pairs.DeliversStatus link) point x h =
      delivered point (slice_get (in_flight x.incoming.statuses link) 0) link (without_status link x.incoming) x h (less-status point x.incoming h.flying link)
      (λ text e q. each-get Harmless (in_flight x.incoming.statuses link) 0 text (h.flying.statuses link q) e)
  here-ok (pairs.LosesStatus link) point x h = restated point (slice_get (in_flight x.incoming.statuses link) 0) (without_status link x.incoming) x h (less-status point x.incoming h.flying link)
  here-ok (pairs.DoublesStatus link) point x h = restated point (slice_get (in_flight x.incoming.statuses link) 0) (with_status_twice link x.incoming) x h (twice point x.incoming h.flying link)
  here-ok (pairs.Loses link) point x h = happened point x.exchange x.incoming h (WentDown link) (λ d e f. tt)
  here-ok pairs.Ticks point x h = happened point x.exchange x.incoming h Ticked (λ d e f. tt)
  here-ok (pairs.Activates link emergency) point x h = happened point x.exchange x.incoming h (Activated link emergency) (λ d e f. tt)
  here-ok (pairs.Deactivates link) point x h = happened point x.exchange x.incoming h (Deactivated link) (λ d e f. tt)
  here-ok (pairs.Releases link) point x h = happened point x.exchange x.incoming h (Released link) (λ d e f. tt)
  here-ok (pairs.AddsTitle row is_memory_refused) point x h = happened point x.exchange x.incoming h (TitleAdded row is_memory_refused) (λ d e f. tt)
  here-ok (pairs.SetsTitle row is_memory_refused) point x h = happened point x.exchange x.incoming h (TitleSet row is_memory_refused) (λ d e f. tt)
  here-ok (pairs.RemovesTitle key digits) point x h = happened point x.exchange x.incoming h (TitleRemoved key digits) (λ d e f. tt)
  here-ok (pairs.OpensFirst link) point x h = h
  here-ok (pairs.OpensSecond link) point x h = followed point (wants_of x.exchange link) (may_follow (end_of x) link) link x h

  -- ---- a network in which something is done

  pub quiet-changed : (w : NetworkState) (point : ℕ) (change : NetworkNode → NetworkNode) → IsQuiet w → IsOk point (change (w.node point)) → IsQuiet (changed point change w)
  quiet-changed w point change h g = record { each = λ other. by other (nat_eq other point) refl }
    where
      by : (other : ℕ) (b : Bool) → nat_eq other point ≡ b → IsOk other (if b then change (w.node other) else w.node other)
      by other true e = subst (λ (n : ℕ). IsOk n (change (w.node n))) (sym (eqb-true other point e)) g
      by other false e = h.each other

  -- what is said elsewhere by either of the two
  pub record SayElsewhere (w : NetworkState) : Type 0 where
    pub near_says : SaysElsewhere settings near far points a w
    pub far_says : SaysElsewhere settings far near points (facing_back one two a) w

  pub are-kept : (w : NetworkState) → IsQuiet w → (point : ℕ) → (w.node point).exchange.settings ≡ settings point
  are-kept w h point = (h.each point).kept

  third-harmless : (w : NetworkState) (point link : ℕ) (frame : FrameValue) (there : Place) → IsQuiet w → near ≢ point → far ≢ point
      → frame_to_take whole (w.node point).exchange link ≡ Some frame → other_end w point link ≡ Some there → Harmless (spelled frame)
  third-harmless w point link frame there h d e f g =
      ⊎_elim
      (λ (its : IsWell (settings point)).
      let fine_there : IsFine (settings point) fine =
      third-fine (settings point) one.own two.own its (λ i. d (sym (sym (points point) ∙ i ∙ points near))) (λ i. e (sym (sym (points point) ∙ i ∙ points far))) in
      taken-harmless fine (w.node point).exchange.settings (w.node point).exchange.node link frame
      (λ i m k. all-get fine (queue_at (w.node point).exchange.node.queues link).all i m (((h.each point).third d e fine_there).links link) k) f)
      (λ (alone : (settings point).links ≡ []).
      let no : None ≡ Some there =
      sym (ap (λ (links : List LinkEntry). place_there w (w.node point).exchange.settings (slice_get links link)) (ap (λ (s : Configuration). s.links) ((h.each point).kept) ∙ alone)) ∙ g in
      absurd cc)
      (well point)

  frame-harmless : (w : NetworkState) (point link : ℕ) (frame : FrameValue) (there : Place) → IsQuiet w → SayElsewhere w
      → frame_to_take whole (w.node point).exchange link ≡ Some frame → other_end w point link ≡ Some there → Watched there.point there.link → Harmless (spelled frame)
  frame-harmless w point link frame there h s e g q =
      ⊎_elim
      (λ (is : point ≡ near).
      end-harmless settings near far points a w (record { kept = are-kept w h }) link frame there ((h.each near).near_end refl) s.near_says
      (ap (λ (n : ℕ). frame_to_take whole (w.node n).exchange link) (sym is) ∙ e) (ap (λ (n : ℕ). other_end w n link) (sym is) ∙ g) q.of_far)
      (λ (d : point ≢ near).
      ⊎_elim
      (λ (is : point ≡ far).
      harmless-turned two.own one.own (spelled frame)
      (end-harmless settings far near points (facing_back one two a) w (record { kept = are-kept w h }) link frame there ((h.each far).far_end refl) s.far_says
      (ap (λ (n : ℕ). frame_to_take whole (w.node n).exchange link) (sym is) ∙ e) (ap (λ (n : ℕ). other_end w n link) (sym is) ∙ g) q.of_near))
      (λ (i : point ≢ far). third-harmless w point link frame there h (λ k. d (sym k)) (λ k. i (sym k)) e g)
      (cases_eq point far))
      (cases_eq point near)

  take-quiet : (w : NetworkState) (point link : ℕ) (o : Option FrameValue) (there : Option Place) → IsQuiet w → SayElsewhere w
      → frame_to_take whole (w.node point).exchange link ≡ o → other_end w point link ≡ there → IsQuiet (take_frame o point link there w)
  take-quiet w point link None there h s e g = h
  take-quiet w point link (Some frame) None h s e g = quiet-changed w point (sends link) h (sent point (w.node point).exchange (w.node point).incoming (h.each point) link)
  take-quiet w point link (Some frame) (Some there) h s e g =
      let v : NetworkState = changed point (sends link) w in
      let i : IsQuiet v = quiet-changed w point (sends link) h (sent point (w.node point).exchange (w.node point).incoming (h.each point) link) in
      let x : NetworkNode = v.node there.point in
      quiet-changed v there.point (reaches frame there.link) i
      (with-streams there.point x.exchange x.incoming (i.each there.point) (launched frame there.link x.incoming)
      (more there.point x.incoming (i.each there.point).flying frame there.link (frame-harmless w point link frame there h s e g)))

  open-quiet : (w : NetworkState) (wants : Wants) (may : Bool) (point link : ℕ) (there : Option Place) → IsQuiet w → IsQuiet (opens_first wants may point link there w)
  open-quiet w Open true point link (Some there) h =
      let x : NetworkNode = w.node point in
      let v : NetworkState = changed point (comes_up link) w in
      let i : IsQuiet v =
      quiet-changed w point (comes_up link) h
      (with-streams point (after whole (CameUp link) x.exchange) x.incoming (happened point x.exchange x.incoming (h.each point) (CameUp link) (λ d e f. tt))
      (emptied link x.incoming) (none point x.incoming link (h.each point).flying)) in
      let y : NetworkNode = v.node there.point in
      quiet-changed v there.point (is_led there.link) i
      (with-streams there.point y.exchange y.incoming (i.each there.point) (emptied there.link y.incoming) (none there.point y.incoming there.link (i.each there.point).flying))
  open-quiet w Open true point link None h = h
  open-quiet w Open false point link there h = h
  open-quiet w Nothing may point link there h = h
  open-quiet w Close may point link there h = h

  at-one : (w : NetworkState) (point : ℕ) (what : Doing) → IsQuiet w → IsQuiet (changed point (did_here what) w)
  at-one w point what h = quiet-changed w point (did_here what) h (here-ok what point (w.node point) (h.each point))

  pub did-quiet : (what : Doing) (point : ℕ) (w : NetworkState) → IsQuiet w → SayElsewhere w → IsQuiet (did what point w)
  did-quiet (pairs.Submits m) point w h s = at-one w point (pairs.Submits m) h
  did-quiet (pairs.Takes link) point w h s = take-quiet w point link (frame_to_take whole (w.node point).exchange link) (other_end w point link) h s refl refl
  did-quiet (pairs.Delivers link) point w h s = at-one w point (pairs.Delivers link) h
  did-quiet (pairs.DeliversStatus link) point w h s = at-one w point (pairs.DeliversStatus link) h
  did-quiet (pairs.LosesStatus link) point w h s = at-one w point (pairs.LosesStatus link) h
  did-quiet (pairs.DoublesStatus link) point w h s = at-one w point (pairs.DoublesStatus link) h
  did-quiet (pairs.Loses link) point w h s = at-one w point (pairs.Loses link) h
  did-quiet pairs.Ticks point w h s = at-one w point pairs.Ticks h
  did-quiet (pairs.Activates link emergency) point w h s = at-one w point (pairs.Activates link emergency) h
  did-quiet (pairs.Deactivates link) point w h s = at-one w point (pairs.Deactivates link) h
  did-quiet (pairs.Releases link) point w h s = at-one w point (pairs.Releases link) h
  did-quiet (pairs.AddsTitle row is_memory_refused) point w h s = at-one w point (pairs.AddsTitle row is_memory_refused) h
  did-quiet (pairs.SetsTitle row is_memory_refused) point w h s = at-one w point (pairs.SetsTitle row is_memory_refused) h
  did-quiet (pairs.RemovesTitle key digits) point w h s = at-one w point (pairs.RemovesTitle key digits) h
  did-quiet (pairs.OpensFirst link) point w h s =
      open-quiet w (wants_of (w.node point).exchange link) (may_open_there w (other_end w point link)) point link (other_end w point link) h
  did-quiet (pairs.OpensSecond link) point w h s = at-one w point (pairs.OpensSecond link) h
