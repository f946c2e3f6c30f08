-- What a link of a network does at one end, act by act, is steps of the network.
use Rattle.std.proofs.Common.{◌≡◌, ◌≢◌, ◌⊎◌, inl, inr, ◌<◌, ◌&&◌, ℕ, Bool, true, false, List, [], ◌∷◌, ◌++◌, Option, Some, length, map, drop, refl, ap, sym, ◌∙◌, subst, ⊎_elim}
use Rattle.std.proofs.lemmas.Bool.{cases_eq}
use Rattle.std.proofs.lemmas.List.{length-set}
use Rattle.std.specs.Prelude.{slice_get}
use Rattle.settings.specs.Configuration.{Configuration}
use Rattle.m2pa_codec.specs.Frames.{FrameValue, EmptyFrame, MessageFrame, StatusFrame}
use Rattle.changeover.specs.Changeover.{may_restart}
use Rattle.exchange_rules.specs.State.{CameUp, WentDown, FrameCame, down}
use Rattle.exchange_rules.specs.ChangingOver.{changeover_of}
use Rattle.exchange_rules.specs.Exchange.{frame_to_take, wants_of}
use Rattle.exchange_rules.specs.First.{Abstract}
use Rattle.exchange_rules.specs.Queues.{whole}
use Rattle.exchange_rules.specs.declared.wants.Wants.{Wants}
use Rattle.exchange_rules.specs.declared.wants.Wants.TheVariants.{Open}
use Rattle.sctp_moves.specs.Ends.{Message}
use Rattle.pair_rules.specs.Pairs as pairs
use Rattle.pair_rules.specs.Pairs.{Streams, behind_data, behind_statuses, emptied, in_flight, launched, may_follow, nothing_in_flight, without_data, without_status}
use Rattle.network_rules.specs.Networks as networks
use Rattle.network_rules.specs.Networks.{NetworkNode, NetworkState, Place, Step, after_step, after_steps, changed, comes_up, deliver_frame, did_here, end_of, is_led, may_open_there, opens_first, opens_second, other_end, reaches, take_frame}
use Rattle.network_rules.proofs.Joined.{end_at, ends-are}
use Rattle.network_rules.proofs.Places.{node-other, node-same}
use Rattle.node_rules.proofs.Staying.{MayOpen}
use Rattle.node_rules.proofs.Flights.{Air, Flies, Sized}
use Rattle.node_rules.proofs.PairSteps.{emptied-here, emptied-there, set-here, set-there, sized-emptied}
use Rattle.node_rules.proofs.PairFrames.{data-first, data-less, data-more, data-others, data-sized, framed, status-first, status-less, status-more, status-others, status-sized}
use Rattle.node_rules.proofs.Acts.{Act, Leads, Follows, Comes, Falls, event_of, air_after, air_after_all, air_given, MayAct, MayActAll}
use Rattle.network_datagrams.specs.NetworkWorlds.{happened}
use Rattle.network_datagrams.proofs.Handing.{event-exchange, happened_all}
use Rattle.network_datagrams.proofs.Showing.{Flight, Shows, ShowsBut, plain, settings-there, to_far, to_near}

pub steps-append : (list more : List Step) (s : NetworkState) → after_steps (list ++ more) s ≡ after_steps more (after_steps list s)
steps-append [] more s = refl
steps-append (step ∷ list) more s = steps-append list more (after_step step s)

-- ---- one link: k of the node at p, and j of that at q

module _ (settings : (point : ℕ) → Configuration) (books : (point : ℕ) → NetworkNode) (air : (point link : ℕ) → Flight) (p k q j : ℕ) (apart : q ≢ p)
    (k-in : k < length (settings p).links) (j-in : j < length (settings q).links) (end : end_at settings p k ≡ Some (record { point = q; link = j })) where
  -- the node at p has come to these books, and this is on its way on the link
  pub record ShowsAt (b : NetworkNode) (x : Air) (s : NetworkState) : Type 0 where
    pub near : ShowsBut (settings p) b (air p) k (to_near x) (s.node p)
    pub far : ShowsBut (settings q) (books q) (air q) j (to_far x) (s.node q)
    pub others : (o : ℕ) → o ≢ p → o ≢ q → Shows (settings o) (books o) (air o) (s.node o)

  -- by some steps
  pub record Goes (b : NetworkNode) (x : Air) (s : NetworkState) : Type 0 where
    pub list : List Step
    pub shows : ShowsAt b x (after_steps list s)

  abbrev at_near : pairs.Doing → Step
  at_near what = record { point = p; what = what }

  -- by one step, that does this
  by-step : (b : NetworkNode) (x : Air) (s v : NetworkState) (what : pairs.Doing) → networks.did what p s ≡ v → ShowsAt b x v → Goes b x s
  by-step b x s v what is h = record { list = at_near what ∷ []; shows = subst (ShowsAt b x) (sym is) h }

  -- the near node alone changes
  near-changes : (b b' : NetworkNode) (x x' : Air) (s : NetworkState) (change : NetworkNode → NetworkNode) → ShowsAt b x s → to_far x ≡ to_far x'
      → ShowsBut (settings p) b' (air p) k (to_near x') (change (s.node p)) → ShowsAt b' x' (changed p change s)
  near-changes b b' x x' s change h same here = record {
    near = subst (ShowsBut (settings p) b' (air p) k (to_near x')) (sym (node-same p change s)) here;
    far = subst (ShowsBut (settings q) (books q) (air q) j (to_far x')) (sym (node-other p q change s apart))
        (subst (λ (f : Flight). ShowsBut (settings q) (books q) (air q) j f (s.node q)) same h.far);
    others = λ o d e. subst (Shows (settings o) (books o) (air o)) (sym (node-other p o change s d)) (h.others o d e);
  }

  -- both do
  both-change : (b b' : NetworkNode) (x x' : Air) (s : NetworkState) (change other : NetworkNode → NetworkNode) → ShowsAt b x s
      → ShowsBut (settings p) b' (air p) k (to_near x') (change (s.node p)) → ShowsBut (settings q) (books q) (air q) j (to_far x') (other (s.node q))
      → ShowsAt b' x' (changed q other (changed p change s))
  both-change b b' x x' s change other h here there =
      let v : NetworkState = changed p change s in
      record {
        near = subst (ShowsBut (settings p) b' (air p) k (to_near x')) (sym (node-other q p other v (λ e. apart (sym e)) ∙ node-same p change s)) here;
        far = subst (ShowsBut (settings q) (books q) (air q) j (to_far x')) (sym (node-same q other v ∙ ap other (node-other p q change s apart))) there;
        others = λ o d e. subst (Shows (settings o) (books o) (air o)) (sym (node-other q o other v e ∙ node-other p o change s d)) (h.others o d e);
      }

  -- ---- where the link leads

  settings-all : (b : NetworkNode) (x : Air) (s : NetworkState) → ShowsAt b x s → (o : ℕ) → (s.node o).exchange.settings ≡ settings o
  settings-all b x s h o =
      ⊎_elim
      (λ (e : o ≡ p). subst (λ (n : ℕ). (s.node n).exchange.settings ≡ settings n) (sym e) (settings-there (settings p) b (s.node p) h.near.settings h.near.same))
      (λ (d : o ≢ p).
      ⊎_elim
      (λ (e : o ≡ q). subst (λ (n : ℕ). (s.node n).exchange.settings ≡ settings n) (sym e) (settings-there (settings q) (books q) (s.node q) h.far.settings h.far.same))
      (λ (f : o ≢ q). (let g : Shows (settings o) (books o) (air o) (s.node o) = h.others o d f in settings-there (settings o) (books o) (s.node o) g.settings g.same))
      (cases_eq o q))
      (cases_eq o p)

  abbrev there : Place
  there = record { point = q; link = j }

  leads-there : (b : NetworkNode) (x : Air) (s : NetworkState) → ShowsAt b x s → other_end s p k ≡ Some there
  leads-there b x s h = ends-are settings s (settings-all b x s h) p k ∙ end

  exchange-is : (b x : NetworkNode) → plain b ≡ plain x → b.exchange ≡ x.exchange
  exchange-is b x e = ap (λ (y : NetworkNode). y.exchange) e

  -- ---- it comes up first

  up-near : (b : NetworkNode) (x : Air) (s : NetworkState) → ShowsAt b x s → ShowsBut (settings p) (happened (CameUp k) b) (air p) k (to_near (air_after Leads x)) (comes_up k (s.node p))
  up-near b x s h =
      let y : NetworkNode = s.node p in
      let n : ℕ = length (settings p).links in
      record {
        settings = h.near.settings;
        same = ap (networks.happens (CameUp k)) h.near.same;
        sized = sized-emptied n k k-in y.incoming y.following false h.near.sized;
        here = emptied-here n k k-in y.incoming y.following false h.near.sized;
        there = λ i d. emptied-there n k k-in y.incoming y.following false h.near.sized i (air p i).to (air p i).follows d (h.near.there i d);
      }

  up-far : (b : NetworkNode) (x : Air) (s : NetworkState) → ShowsAt b x s → ShowsBut (settings q) (books q) (air q) j (to_far (air_after Leads x)) (is_led j (s.node q))
  up-far b x s h =
      let y : NetworkNode = s.node q in
      let n : ℕ = length (settings q).links in
      record {
        settings = h.far.settings;
        same = h.far.same;
        sized = sized-emptied n j j-in y.incoming y.following true h.far.sized;
        here = emptied-here n j j-in y.incoming y.following true h.far.sized;
        there = λ i d. emptied-there n j j-in y.incoming y.following true h.far.sized i (air q i).to (air q i).follows d (h.far.there i d);
      }

  opens-it : (s : NetworkState) (w : Wants) (o : Option Place) → w ≡ Open → o ≡ Some there → may_open_there s (Some there) ≡ true
      → opens_first w (may_open_there s o) p k o s ≡ changed q (is_led j) (changed p (comes_up k) s)
  opens-it s w o e f g =
      ap (λ (v : Wants). opens_first v (may_open_there s o) p k o s) e
      ∙ ap (λ (n : Option Place). opens_first Open (may_open_there s n) p k n s) f
      ∙ ap (λ (b : Bool). opens_first Open b p k (Some there) s) g

  both-true : (x y : Bool) → x ≡ true → y ≡ true → (x && y) ≡ true
  both-true x y f g = ap (λ (b : Bool). b && y) f ∙ g

  leads-goes : (b : NetworkNode) (x : Air) (s : NetworkState) → ShowsAt b x s → wants_of b.exchange k ≡ Open → MayOpen j (books q).exchange.node.parts
      → Goes (happened (CameUp k) b) (air_after Leads x) s
  leads-goes b x s h e m =
      let wants : wants_of (s.node p).exchange k ≡ Open = ap (λ (a : Abstract). wants_of a k) (sym (exchange-is b (s.node p) h.near.same)) ∙ e in
      let may : may_open_there s (Some there) ≡ true =
      ap (λ (a : Abstract). down a.node.parts j && may_restart (changeover_of a.node.parts j)) (sym (exchange-is (books q) (s.node q) h.far.same))
      ∙ both-true (down (books q).exchange.node.parts j) (may_restart (changeover_of (books q).exchange.node.parts j)) m.down m.restarts in
      by-step (happened (CameUp k) b) (air_after Leads x) s (changed q (is_led j) (changed p (comes_up k) s)) (pairs.OpensFirst k)
      (opens-it s (wants_of (s.node p).exchange k) (other_end s p k) wants (leads-there b x s h) may)
      (both-change b (happened (CameUp k) b) x (air_after Leads x) s (comes_up k) (is_led j) h (up-near b x s h) (up-far b x s h))

  -- ---- it comes up as it did at the other end

  abbrev followed : NetworkNode → NetworkNode
  followed y = opens_second Open true k y

  follows-near : (b : NetworkNode) (x : Air) (s : NetworkState) → ShowsAt b x s → ShowsBut (settings p) (happened (CameUp k) b) (air p) k (to_near (air_after Follows x)) (followed (s.node p))
  follows-near b x s h =
      let y : NetworkNode = s.node p in
      record {
        settings = h.near.settings;
        same = ap (networks.happens (CameUp k)) h.near.same;
        sized = record { statuses = h.near.sized.statuses; user_data = h.near.sized.user_data; may = length-set y.following k false ∙ h.near.sized.may };
        here = record {
          statuses = h.near.here.statuses;
          user_data = h.near.here.user_data;
          may = set-here (length (settings p).links) k k-in y.following false false h.near.sized.may;
        };
        there = λ i d. record {
          statuses = (h.near.there i d).statuses;
          user_data = (h.near.there i d).user_data;
          may = set-there y.following k false false i d ∙ (h.near.there i d).may;
        };
      }

  follows-goes : (b : NetworkNode) (x : Air) (s : NetworkState) → ShowsAt b x s → wants_of b.exchange k ≡ Open → x.near_follows ≡ true
      → Goes (happened (CameUp k) b) (air_after Follows x) s
  follows-goes b x s h e f =
      let y : NetworkNode = s.node p in
      let wants : wants_of y.exchange k ≡ Open = ap (λ (a : Abstract). wants_of a k) (sym (exchange-is b y h.near.same)) ∙ e in
      let is : did_here (pairs.OpensSecond k) y ≡ followed y =
      ap (λ (w : Wants). opens_second w (may_follow (end_of y) k) k y) wants ∙ ap (λ (m : Bool). opens_second Open m k y) (h.near.here.may ∙ f) in
      by-step (happened (CameUp k) b) (air_after Follows x) s (changed p (did_here (pairs.OpensSecond k)) s) (pairs.OpensSecond k) refl
      (near-changes b (happened (CameUp k) b) x (air_after Follows x) s (did_here (pairs.OpensSecond k)) h refl
      (subst (ShowsBut (settings p) (happened (CameUp k) b) (air p) k (to_near (air_after Follows x))) (sym is) (follows-near b x s h)))

  -- ---- it goes down

  falls-goes : (b : NetworkNode) (x : Air) (s : NetworkState) → ShowsAt b x s → Goes (happened (WentDown k) b) x s
  falls-goes b x s h =
      by-step (happened (WentDown k) b) x s (changed p (networks.happens (WentDown k)) s) (pairs.Loses k) refl
      (near-changes b (happened (WentDown k) b) x x s (networks.happens (WentDown k)) h refl
      (record {
        settings = h.near.settings;
        same = ap (networks.happens (WentDown k)) h.near.same;
        sized = h.near.sized;
        here = h.near.here;
        there = h.near.there;
      }))

  -- ---- a frame comes

  come-near : (b : NetworkNode) (m : Message) (rest : List Message) (x : Air) (s : NetworkState) → ShowsAt b x s → (left : Streams)
      → Sized (length (settings p).links) left (s.node p).following → Flies k left (s.node p).following rest x.near_follows
      → ((i : ℕ) → i ≢ k → Flies i left (s.node p).following (air p i).to (air p i).follows)
      → ShowsBut (settings p) (happened (FrameCame k m.octets) b) (air p) k (to_near (air_after (Comes m rest) x)) (deliver_frame (Some m.octets) k left (s.node p))
  come-near b m rest x s h left sized here others = record {
    settings = h.near.settings;
    same = ap (deliver_frame (Some m.octets) k (nothing_in_flight 0)) h.near.same;
    sized = sized;
    here = here;
    there = others;
  }

  module _ (b : NetworkNode) (m : Message) (rest : List Message) (x : Air) (s : NetworkState) (h : ShowsAt b x s) (is : x.to_near ≡ m ∷ rest) where
    abbrev y : NetworkNode
    y = s.node p

    abbrev n : ℕ
    n = length (settings p).links

    flies : Flies k y.incoming y.following (m ∷ rest) x.near_follows
    flies = subst (λ (ms : List Message). Flies k y.incoming y.following ms x.near_follows) is h.near.here

    through : (what : pairs.Doing) (o : Option (List ℕ)) (left : Streams) → networks.did what p s ≡ changed p (did_here what) s → did_here what y ≡ deliver_frame o k left y
        → o ≡ Some m.octets
        → ShowsBut (settings p) (happened (FrameCame k m.octets) b) (air p) k (to_near (air_after (Comes m rest) x)) (deliver_frame (Some m.octets) k left y)
        → Goes (happened (FrameCame k m.octets) b) (air_after (Comes m rest) x) s
    through what o left step does first z =
        by-step (happened (FrameCame k m.octets) b) (air_after (Comes m rest) x) s (changed p (did_here what) s) what step
        (near-changes b (happened (FrameCame k m.octets) b) x (air_after (Comes m rest) x) s (did_here what) h refl
        (subst (ShowsBut (settings p) (happened (FrameCame k m.octets) b) (air p) k (to_near (air_after (Comes m rest) x)))
        (sym (does ∙ ap (λ (t : Option (List ℕ)). deliver_frame t k left y) first)) z))

    comes-goes : (m.stream ≡ 0) ⊎ (m.stream ≡ 1) → Goes (happened (FrameCame k m.octets) b) (air_after (Comes m rest) x) s
    comes-goes (inl zero-is) =
        let left : List (List ℕ) = drop 1 (in_flight y.incoming.statuses k) in
        through (pairs.DeliversStatus k) (slice_get (in_flight y.incoming.statuses k) 0) (without_status k y.incoming) refl refl
        (ap (λ (xs : List (List ℕ)). slice_get xs 0) (status-first n k k-in y.incoming y.following h.near.sized m rest x.near_follows flies zero-is))
        (come-near b m rest x s h (without_status k y.incoming) (status-sized k y.incoming y.following left n h.near.sized)
        (status-less n k k-in y.incoming y.following h.near.sized m rest x.near_follows flies zero-is)
        (λ i d. status-others k y.incoming y.following left i (air p i).to (air p i).follows d (h.near.there i d)))
    comes-goes (inr one-is) =
        let left : List (List ℕ) = drop 1 (in_flight y.incoming.user_data k) in
        through (pairs.Delivers k) (slice_get (in_flight y.incoming.user_data k) 0) (without_data k y.incoming) refl refl
        (ap (λ (xs : List (List ℕ)). slice_get xs 0) (data-first n k k-in y.incoming y.following h.near.sized m rest x.near_follows flies one-is))
        (come-near b m rest x s h (without_data k y.incoming) (data-sized k y.incoming y.following left n h.near.sized)
        (data-less n k k-in y.incoming y.following h.near.sized m rest x.near_follows flies one-is)
        (λ i d. data-others k y.incoming y.following left i (air p i).to (air p i).follows d (h.near.there i d)))

  -- ---- a frame goes out

  reach-far : (m : Message) (x : Air) (s : NetworkState) (b : NetworkNode) → ShowsAt b x s → (left : Streams) → Sized (length (settings q).links) left (s.node q).following
      → Flies j left (s.node q).following (x.to_far ++ m ∷ []) x.far_follows
      → ((i : ℕ) → i ≢ j → Flies i left (s.node q).following (air q i).to (air q i).follows)
      → ShowsBut (settings q) (books q) (air q) j (to_far (record x { to_far = x.to_far ++ m ∷ [] })) (record (s.node q) { incoming = left })
  reach-far m x s b h left sized here others = record { settings = h.far.settings; same = h.far.same; sized = sized; here = here; there = others }

  module _ (x : Air) (s : NetworkState) (b : NetworkNode) (h : ShowsAt b x s) where
    abbrev z : NetworkNode
    z = s.node q

    abbrev links : ℕ
    links = length (settings q).links

    data-goes : (m : Message) → m.stream ≡ 1
        → ShowsBut (settings q) (books q) (air q) j (to_far (record x { to_far = x.to_far ++ m ∷ [] })) (record z { incoming = behind_data m.octets j z.incoming })
    data-goes m one-is =
        let more : List (List ℕ) = in_flight z.incoming.user_data j ++ m.octets ∷ [] in
        reach-far m x s b h (behind_data m.octets j z.incoming) (data-sized j z.incoming z.following more links h.far.sized)
        (data-more links j j-in z.incoming z.following h.far.sized m x.to_far x.far_follows h.far.here one-is)
        (λ i d. data-others j z.incoming z.following more i (air q i).to (air q i).follows d (h.far.there i d))

    status-goes : (m : Message) → m.stream ≡ 0
        → ShowsBut (settings q) (books q) (air q) j (to_far (record x { to_far = x.to_far ++ m ∷ [] })) (record z { incoming = behind_statuses m.octets j z.incoming })
    status-goes m zero-is =
        let more : List (List ℕ) = in_flight z.incoming.statuses j ++ m.octets ∷ [] in
        reach-far m x s b h (behind_statuses m.octets j z.incoming) (status-sized j z.incoming z.following more links h.far.sized)
        (status-more links j j-in z.incoming z.following h.far.sized m x.to_far x.far_follows h.far.here zero-is)
        (λ i d. status-others j z.incoming z.following more i (air q i).to (air q i).follows d (h.far.there i d))

    reaches-far : (f : FrameValue) → ShowsBut (settings q) (books q) (air q) j (to_far (air_given f x)) (reaches f j z)
    reaches-far (EmptyFrame bsn fsn) = data-goes (framed (EmptyFrame bsn fsn)) refl
    reaches-far (MessageFrame bsn fsn sio sif) = data-goes (framed (MessageFrame bsn fsn sio sif)) refl
    reaches-far (StatusFrame bsn fsn status) = status-goes (framed (StatusFrame bsn fsn status)) refl

  pub frame-goes : (frame : FrameValue) (b : NetworkNode) (x : Air) (s : NetworkState) → ShowsAt b x s → frame_to_take whole b.exchange k ≡ Some frame
      → Goes (networks.sends k b) (air_given frame x) s
  frame-goes frame b x s h next =
      let is : frame_to_take whole (s.node p).exchange k ≡ Some frame =
      ap (λ (a : Abstract). frame_to_take whole a k) (sym (exchange-is b (s.node p) h.near.same)) ∙ next in
      by-step (networks.sends k b) (air_given frame x) s (changed q (reaches frame j) (changed p (networks.sends k) s)) (pairs.Takes k)
      (ap (λ (o : Option FrameValue). take_frame o p k (other_end s p k) s) is ∙ ap (λ (o : Option Place). take_frame (Some frame) p k o s) (leads-there b x s h))
      (both-change b (networks.sends k b) x (air_given frame x) s (networks.sends k) (reaches frame j) h
      (record { settings = h.near.settings; same = ap (networks.sends k) h.near.same; sized = h.near.sized; here = h.near.here; there = h.near.there })
      (reaches-far x s b h frame))

  -- ---- act by act

  act-goes : (act : Act) (b : NetworkNode) (x : Air) (s : NetworkState) → ShowsAt b x s → MayAct k j act b.exchange (books q).exchange x
      → Goes (happened (event_of k act) b) (air_after act x) s
  act-goes Leads b x s h may = leads-goes b x s h may.0 may.1
  act-goes Follows b x s h may = follows-goes b x s h may.0 may.1
  act-goes (Comes m rest) b x s h may = comes-goes b m rest x s h may.1 may.0.stream
  act-goes Falls b x s h may = falls-goes b x s h

  pub acts-go : (acts : List Act) (b : NetworkNode) (x : Air) (s : NetworkState) → ShowsAt b x s → MayActAll k j acts b.exchange (books q).exchange x
      → Goes (happened_all (map (event_of k) acts) b) (air_after_all acts x) s
  acts-go [] b x s h may = record { list = []; shows = h }
  acts-go (act ∷ acts) b x s h may =
      let b' : NetworkNode = happened (event_of k act) b in
      let one : Goes b' (air_after act x) s = act-goes act b x s h may.0 in
      let more : Goes (happened_all (map (event_of k) acts) b') (air_after_all acts (air_after act x)) (after_steps one.list s) =
      acts-go acts b' (air_after act x) (after_steps one.list s) one.shows
      (subst (λ (a : Abstract). MayActAll k j acts a (books q).exchange (air_after act x)) (sym (event-exchange (event_of k act) b)) may.1) in
      record {
        list = one.list ++ more.list;
        shows = subst (ShowsAt (happened_all (map (event_of k) acts) b') (air_after_all acts (air_after act x))) (sym (steps-append one.list more.list s)) more.shows;
      }
