-- A step of a network is at most one step of each two of its nodes that share a set: one at either of them.
use Rattle.pair_rules.proofs.Basics.{◌≡◌, ◌≢◌, ℕ, Bool, true, false, List, [], ◌∷◌, Option, Some, None, refl, ap, sym, subst, ◌∙◌, map, slice_get, ⊎_elim, cases_eq}
use Rattle.pair_rules.proofs.Definitions.{Message, new_message, Configuration, LinkEntry, FrameValue, Open, Nothing, Close, whole, PairState, turned, in_flight, may_follow, wants_of, frame_to_take, link_with_code}
use Rattle.exchange_rules.specs.State.{WentDown, Ticked, Activated, Deactivated, Released, TitleAdded, TitleSet, TitleRemoved}
use Rattle.exchange_rules.specs.declared.wants.Wants.{Wants}
use Rattle.exchange_rules.specs.First.{Abstract}
use Rattle.pair_rules.specs.Pairs as pairs
use Rattle.pair_rules.specs.Pairs.{Doing, may_open_at, with_status_twice, without_data, without_status}
use Rattle.neighbour_rules.specs.Neighbours as neighbours
use Rattle.neighbour_rules.specs.Neighbours.{AtFar, AtNear, Does}
use Rattle.network_rules.specs.Networks.{NetworkNode, NetworkState, Place, changed, comes_up, did, did_here, end_of, is_led, may_open_there, opens_first, place_there, reaches, sends, take_frame}
use Rattle.network_rules.specs.Pairs.{ArePairsAlike, HearsNothingElsewhere, pair_between, pair_between_for, pair_of, pair_of_for}
use Rattle.network_rules.proofs.Alike.{away, data-away, statuses-away, twice-alike, without_data-alike, without_status-alike}
use Rattle.network_rules.proofs.Nodes.{AllHandBy, HandsIn, Next, TakesIn, Terms, turned_terms, away-changed, away-first, away-heard, away-second, changed-pair, first-pair, happens-pair, heard-pair, idle, led-away, reach-away, second-pair, sent-nowhere, sent-there, submit-pair}
use Rattle.network_rules.proofs.Places.{IsNamed, Leads, between, elsewhere, leads, named-away, node-other, node-same, not-equal, nowhere, place-named}

-- ---- the same from the other end

abbrev flipped : neighbours.Step → neighbours.Step
flipped (AtNear what) = AtFar what
flipped (AtFar what) = AtNear what

flips : (t : Terms) (steps : List neighbours.Step) (p : PairState) → neighbours.after_steps_for t.to_far t.to_near (map flipped steps) p ≡ turned (neighbours.after_steps_for t.to_near t.to_far steps (turned p))
flips t [] p = refl
flips t (AtNear what ∷ steps) p = flips t steps (neighbours.turn_for t.to_far t.to_near (AtFar what) p).left
flips t (AtFar what ∷ steps) p = flips t steps (neighbours.turn_for t.to_far t.to_near (AtNear what) p).left

flips-hand : (t : Terms) (steps : List neighbours.Step) (p : PairState) → AllHandBy (turned_terms t) steps (turned p) → AllHandBy t (map flipped steps) p
flips-hand t [] p h = tt
flips-hand t (AtNear what ∷ steps) p h = (h.0, flips-hand t steps (neighbours.turn_for t.to_far t.to_near (AtFar what) p).left h.1)
flips-hand t (AtFar what ∷ steps) p h = (h.0, flips-hand t steps (neighbours.turn_for t.to_far t.to_near (AtNear what) p).left h.1)

pub alike-turned_for : (t : Terms) (x y : NetworkNode) (p : PairState) → ArePairsAlike (pair_between_for t.to_far t.to_near x y) p → ArePairsAlike (pair_between_for t.to_near t.to_far y x) (turned p)
alike-turned_for t x y p h = record { near_alike = h.far_alike; far_alike = h.near_alike }

pub alike-turned : (x y : NetworkNode) (p : PairState) → ArePairsAlike (pair_between x y) p → ArePairsAlike (pair_between y x) (turned p)
alike-turned x y p h = record { near_alike = h.far_alike; far_alike = h.near_alike }

pub next-turned : (t : Terms) (x y : NetworkNode) (p : PairState) → Next (turned_terms t) y x (turned p) → Next t x y p
next-turned t x y p n = record {
  steps = map flipped n.steps;
  hand = flips-hand t n.steps p n.hand;
  pair =
      subst (ArePairsAlike (pair_between_for t.to_far t.to_near x y)) (sym (flips t n.steps p))
      (alike-turned_for (turned_terms t) y x (neighbours.after_steps_for t.to_near t.to_far n.steps (turned p)) n.pair);
}

-- ---- two nodes of a network

module _ (t : Terms) (near far : ℕ) (apart : near ≢ far) where
  abbrev pub NextOf : NetworkState → PairState → Type 0
  NextOf w p = Next t (w.node near) (w.node far) p

  back : far ≢ near
  back e = apart (sym e)

  -- whether a link of the near node leads elsewhere
  abbrev IsAway : NetworkState → (link : ℕ) → Type 0
  IsAway w link = away (w.node near).exchange.settings (w.node far).exchange.settings link ≡ true

  -- something is done at the near one
  pub here-next : (w : NetworkState) (change : NetworkNode → NetworkNode) (p : PairState) → Next t (change (w.node near)) (w.node far) p → NextOf (changed near change w) p
  here-next w change p n =
      subst (λ (x : NetworkNode). Next t x ((changed near change w).node far) p) (sym (node-same near change w))
      (subst (λ (y : NetworkNode). Next t (change (w.node near)) y p) (sym (node-other near far change w back)) n)

  -- and then at the far one
  both-next : (w : NetworkState) (change other : NetworkNode → NetworkNode) (p : PairState) → Next t (change (w.node near)) (other (w.node far)) p → NextOf (changed far other (changed near change w)) p
  both-next w change other p n =
      let v : NetworkState = changed near change w in
      subst (λ (x : NetworkNode). Next t x ((changed far other v).node far) p) (sym (node-other far near other v apart ∙ node-same near change w))
      (subst (λ (y : NetworkNode). Next t (change (w.node near)) y p) (sym (node-same far other v ∙ ap other (node-other near far change w back))) n)

  -- at neither
  pub still-next : (w : NetworkState) (point : ℕ) (change : NetworkNode → NetworkNode) (p : PairState) → near ≢ point → far ≢ point → NextOf w p → NextOf (changed point change w) p
  still-next w point change p d e n =
      subst (λ (x : NetworkNode). Next t x ((changed point change w).node far) p) (sym (node-other point near change w d))
      (subst (λ (y : NetworkNode). Next t (w.node near) y p) (sym (node-other point far change w e)) n)

  -- at one of the two something is done that the pair doesn't show
  pub past-near : (w : NetworkState) (change : NetworkNode → NetworkNode) (p : PairState)
      → ((q : PairState) → ArePairsAlike (pair_of_for t.to_far t.to_near w near far) q → ArePairsAlike (pair_between_for t.to_far t.to_near (change (w.node near)) (w.node far)) q) → NextOf w p → NextOf (changed near change w) p
  past-near w change p unseen n = here-next w change p (record { steps = n.steps; hand = n.hand; pair = unseen (neighbours.after_steps_for t.to_far t.to_near n.steps p) n.pair })

  pub past-far : (w : NetworkState) (change : NetworkNode → NetworkNode) (p : PairState)
      → ((q : PairState) → ArePairsAlike (pair_of_for t.to_far t.to_near w near far) q → ArePairsAlike (pair_between_for t.to_far t.to_near (w.node near) (change (w.node far))) q) → NextOf w p → NextOf (changed far change w) p
  past-far w change p unseen n =
      subst (λ (x : NetworkNode). Next t x ((changed far change w).node far) p) (sym (node-other far near change w apart))
      (subst (λ (y : NetworkNode). Next t (w.node near) y p) (sym (node-same far change w)) (record { steps = n.steps; hand = n.hand; pair = unseen (neighbours.after_steps_for t.to_far t.to_near n.steps p) n.pair }))

  -- ---- something is done at the near node

  module _ (w : NetworkState) (own : (point : ℕ) → (w.node point).exchange.settings.own ≡ point) (p : PairState) (h : ArePairsAlike (pair_of_for t.to_far t.to_near w near far) p) where
    abbrev x : NetworkNode
    x = w.node near

    abbrev y : NetworkNode
    y = w.node far

    abbrev c : Configuration
    c = x.exchange.settings

    abbrev z : Configuration
    z = y.exchange.settings

    abbrev entry : (link : ℕ) → Option LinkEntry
    entry link = slice_get c.links link

    abbrev IsLed : (link : ℕ) → Type 0
    IsLed link = Leads w c far (entry link)

    -- what it does reaches a node that isn't the far one
    module _ (change : NetworkNode → NetworkNode) (there : Place) (link : ℕ) (keeps : (n : NetworkNode) → (change n).exchange.settings ≡ n.exchange.settings)
        (e : place_there w c (entry link) ≡ Some there) where
      abbrev v : NetworkState
      v = changed near change w

      named : IsNamed w c there
      named = place-named w c (entry link) there e

      leads-away : there.point ≡ near → IsAway v there.link
      leads-away same =
          subst (λ (s : Configuration). away s (v.node far).exchange.settings there.link ≡ true) (sym (ap (λ (n : NetworkNode). n.exchange.settings) (node-same near change w) ∙ keeps x))
          (subst (λ (n : NetworkNode). away c n.exchange.settings there.link ≡ true) (sym (node-other near far change w back))
          (named-away c z c.own named.slc there.link
          (subst (λ (point : ℕ). link_with_code (w.node point).exchange.settings c.own named.slc ≡ Some there.link) same named.named)
          (not-equal c.own z.own (λ f. apart (sym (own near) ∙ f ∙ own far)))))

      reaching : (other : NetworkNode → NetworkNode) → there.point ≢ far
          → ((q : PairState) → IsAway v there.link → ArePairsAlike (pair_of_for t.to_far t.to_near v near far) q → ArePairsAlike (pair_between_for t.to_far t.to_near (other (v.node near)) (v.node far)) q)
          → NextOf v p → NextOf (changed there.point other v) p
      reaching other d unseen n =
          ⊎_elim
          (λ (same : there.point ≡ near).
          subst (λ (point : ℕ). NextOf (changed point other v) p) (sym same)
          (past-near v other p (λ q. unseen q (leads-away same)) n))
          (λ (other_point : there.point ≢ near). still-next v there.point other p (λ f. other_point (sym f)) (λ f. d (sym f)) n)
          (cases_eq there.point near)

    takes-next : (o : Option FrameValue) (link : ℕ) → frame_to_take whole x.exchange link ≡ o → IsLed link → NextOf (take_frame o near link (place_there w c (entry link)) w) p
    takes-next None link e l = idle t x y p h
    takes-next (Some frame) link e (nowhere f g) =
        subst (λ (o : Option Place). NextOf (take_frame (Some frame) near link o w) p) (sym f) (here-next w (sends link) p (sent-nowhere t x y p h frame link e g))
    takes-next (Some frame) link e (between other f g d) =
        subst (λ (o : Option Place). NextOf (take_frame (Some frame) near link o w) p) (sym f) (both-next w (sends link) (reaches frame other) p (sent-there t x y p h frame link other e g))
    takes-next (Some frame) link e (elsewhere there f d g a) =
        subst (λ (o : Option Place). NextOf (take_frame (Some frame) near link o w) p) (sym f)
        (reaching (sends link) there link (λ n. refl) f (reaches frame there.link) d
        (λ q is i. reach-away t ((changed near (sends link) w).node near) ((changed near (sends link) w).node far) q i frame there.link is)
        (here-next w (sends link) p (sent-nowhere t x y p h frame link e g)))

    opens-next : (wants : Wants) (may : Bool) (link : ℕ) → wants_of x.exchange link ≡ wants → may_open_there w (place_there w c (entry link)) ≡ may → IsLed link
        → NextOf (opens_first wants may near link (place_there w c (entry link)) w) p
    opens-next Nothing may link e m l = idle t x y p h
    opens-next Close may link e m l = idle t x y p h
    opens-next Open false link e m l = idle t x y p h
    opens-next Open true link e m (nowhere f g) = subst (λ (o : Option Place). NextOf (opens_first Open true near link o w) p) (sym f) (idle t x y p h)
    opens-next Open true link e m (between other f g d) =
        subst (λ (o : Option Place). NextOf (opens_first Open true near link o w) p) (sym f)
        (both-next w (comes_up link) (is_led other) p (first-pair t x y p h link other e g (sym (ap (may_open_there w) f) ∙ m)))
    opens-next Open true link e m (elsewhere there f d g a) =
        subst (λ (o : Option Place). NextOf (opens_first Open true near link o w) p) (sym f)
        (reaching (comes_up link) there link (λ n. refl) f (is_led there.link) d
        (λ q is i. led-away t ((changed near (comes_up link) w).node near) ((changed near (comes_up link) w).node far) q i there.link is)
        (here-next w (comes_up link) p (away-first t x y p h link a)))

    abbrev OfLink : (NetworkNode → NetworkNode) → (link : ℕ) → Bool → Type 0
    OfLink change link b = away c z link ≡ b → Next t (change x) y p

    module _ (silent : HearsNothingElsewhere (pair_of w near far)) where
      data-next : (b : Bool) (link : ℕ) → (away c z link ≡ false → (text : List ℕ) → slice_get (in_flight x.incoming.user_data link) 0 ≡ Some text → (m : Message) → new_message link text x.exchange ≡ Some m → t.near_is m) → OfLink (did_here (pairs.Delivers link)) link b
      data-next false link told e = record {
        steps = AtNear (Does (pairs.Delivers link)) ∷ [];
        hand = (
          (λ text f m g.
              told e text (sym (ap (λ (ts : List (List ℕ)). slice_get ts 0) (h.near_alike.incoming.user_data link e)) ∙ f) m
              (sym (ap (λ (a : Abstract). new_message link text a) h.near_alike.exchange) ∙ g)),
          tt,
        );
        pair =
            subst (λ (o : Option (List ℕ)). ArePairsAlike (pair_between_for t.to_far t.to_near (did_here (pairs.Delivers link) x) y) (neighbours.deliver_frame_for t.to_far t.to_near o link (without_data link p.near.incoming) p).left)
            (sym (ap (λ (ts : List (List ℕ)). slice_get ts 0) (h.near_alike.incoming.user_data link e)))
            (heard-pair t x y p h (slice_get (in_flight x.incoming.user_data link) 0) link (without_data link x.incoming) (without_data link p.near.incoming) e
            (without_data-alike c z x.incoming p.near.incoming link h.near_alike.incoming));
      }
      data-next true link told e =
          away-heard t x y p h (slice_get (in_flight x.incoming.user_data link) 0) link (without_data link x.incoming) e
          (data-away c z x.incoming p.near.incoming link _ e h.near_alike.incoming) (λ text f. silent.user_data link text e f)

      status-next : (b : Bool) (link : ℕ) → OfLink (did_here (pairs.DeliversStatus link)) link b
      status-next false link e = record {
        steps = AtNear (Does (pairs.DeliversStatus link)) ∷ [];
        hand = (tt, tt);
        pair =
            subst (λ (o : Option (List ℕ)). ArePairsAlike (pair_between_for t.to_far t.to_near (did_here (pairs.DeliversStatus link) x) y) (neighbours.deliver_frame_for t.to_far t.to_near o link (without_status link p.near.incoming) p).left)
            (sym (ap (λ (ts : List (List ℕ)). slice_get ts 0) (h.near_alike.incoming.statuses link e)))
            (heard-pair t x y p h (slice_get (in_flight x.incoming.statuses link) 0) link (without_status link x.incoming) (without_status link p.near.incoming) e
            (without_status-alike c z x.incoming p.near.incoming link h.near_alike.incoming));
      }
      status-next true link e =
          away-heard t x y p h (slice_get (in_flight x.incoming.statuses link) 0) link (without_status link x.incoming) e
          (statuses-away c z x.incoming p.near.incoming link _ e h.near_alike.incoming) (λ text f. silent.statuses link text e f)

      lost-next : (b : Bool) (link : ℕ) → OfLink (did_here (pairs.LosesStatus link)) link b
      lost-next false link e = record {
        steps = AtNear (Does (pairs.LosesStatus link)) ∷ [];
        hand = (tt, tt);
        pair =
            subst (λ (o : Option (List ℕ)). ArePairsAlike (pair_between_for t.to_far t.to_near (did_here (pairs.LosesStatus link) x) y) (pairs.change_statuses o (without_status link p.near.incoming) p).left)
            (sym (ap (λ (ts : List (List ℕ)). slice_get ts 0) (h.near_alike.incoming.statuses link e)))
            (changed-pair t x y p h (slice_get (in_flight x.incoming.statuses link) 0) (without_status link x.incoming) (without_status link p.near.incoming)
            (without_status-alike c z x.incoming p.near.incoming link h.near_alike.incoming));
      }
      lost-next true link e = record {
        steps = [];
        hand = tt;
        pair =
            away-changed t x y p h (slice_get (in_flight x.incoming.statuses link) 0) (without_status link x.incoming)
            (statuses-away c z x.incoming p.near.incoming link _ e h.near_alike.incoming);
      }

      twice-next : (b : Bool) (link : ℕ) → OfLink (did_here (pairs.DoublesStatus link)) link b
      twice-next false link e = record {
        steps = AtNear (Does (pairs.DoublesStatus link)) ∷ [];
        hand = (tt, tt);
        pair =
            subst (λ (o : Option (List ℕ)). ArePairsAlike (pair_between_for t.to_far t.to_near (did_here (pairs.DoublesStatus link) x) y) (pairs.change_statuses o (with_status_twice link p.near.incoming) p).left)
            (sym (ap (λ (ts : List (List ℕ)). slice_get ts 0) (h.near_alike.incoming.statuses link e)))
            (changed-pair t x y p h (slice_get (in_flight x.incoming.statuses link) 0) (with_status_twice link x.incoming) (with_status_twice link p.near.incoming)
            (twice-alike c z x.incoming p.near.incoming link h.near_alike.incoming));
      }
      twice-next true link e = record {
        steps = [];
        hand = tt;
        pair =
            away-changed t x y p h (slice_get (in_flight x.incoming.statuses link) 0) (with_status_twice link x.incoming)
            (statuses-away c z x.incoming p.near.incoming link _ e h.near_alike.incoming);
      }

      second-next : (b : Bool) (link : ℕ) → OfLink (did_here (pairs.OpensSecond link)) link b
      second-next false link e = record {
        steps = AtNear (Does (pairs.OpensSecond link)) ∷ [];
        hand = (tt, tt);
        pair =
            subst (λ (b : Bool). ArePairsAlike (pair_between_for t.to_far t.to_near (did_here (pairs.OpensSecond link) x) y) (pairs.opens_second (wants_of p.near.exchange link) b link p).left)
            (sym (h.near_alike.following link e))
            (subst
            (λ (a : Abstract). ArePairsAlike (pair_between_for t.to_far t.to_near (did_here (pairs.OpensSecond link) x) y) (pairs.opens_second (wants_of a link) (may_follow (end_of x) link) link p).left)
            (sym h.near_alike.exchange) (second-pair t x y p h (wants_of x.exchange link) (may_follow (end_of x) link) link));
      }
      second-next true link e = away-second t x y p h (wants_of x.exchange link) (may_follow (end_of x) link) link e

      abbrev alone : (what : Doing) → HandsIn t.near_is (Does what) p → ArePairsAlike (pair_between_for t.to_far t.to_near (did_here what x) y) (neighbours.did_for t.to_far t.to_near (Does what) p).left → NextOf (changed near (did_here what) w) p
      alone what hand i = here-next w (did_here what) p (record { steps = AtNear (Does what) ∷ []; hand = (hand, tt); pair = i })

      pub near-next : (what : Doing) → TakesIn t.near_is what x y → NextOf (did what near w) p
      near-next (pairs.Submits m) told = alone (pairs.Submits m) tt (submit-pair t x y p h m)
      near-next (pairs.Takes link) told = takes-next (frame_to_take whole x.exchange link) link refl (leads w c far (entry link) (own far))
      near-next (pairs.Delivers link) told = here-next w (did_here (pairs.Delivers link)) p (data-next (away c z link) link told refl)
      near-next (pairs.DeliversStatus link) told = here-next w (did_here (pairs.DeliversStatus link)) p (status-next (away c z link) link refl)
      near-next (pairs.LosesStatus link) told = here-next w (did_here (pairs.LosesStatus link)) p (lost-next (away c z link) link refl)
      near-next (pairs.DoublesStatus link) told = here-next w (did_here (pairs.DoublesStatus link)) p (twice-next (away c z link) link refl)
      near-next (pairs.Loses link) told = alone (pairs.Loses link) tt (happens-pair t x y p h (WentDown link))
      near-next pairs.Ticks told = alone pairs.Ticks tt (happens-pair t x y p h Ticked)
      near-next (pairs.Activates link emergency) told = alone (pairs.Activates link emergency) tt (happens-pair t x y p h (Activated link emergency))
      near-next (pairs.Deactivates link) told = alone (pairs.Deactivates link) tt (happens-pair t x y p h (Deactivated link))
      near-next (pairs.Releases link) told = alone (pairs.Releases link) tt (happens-pair t x y p h (Released link))
      near-next (pairs.AddsTitle row is_memory_refused) told = alone (pairs.AddsTitle row is_memory_refused) tt (happens-pair t x y p h (TitleAdded row is_memory_refused))
      near-next (pairs.SetsTitle row is_memory_refused) told = alone (pairs.SetsTitle row is_memory_refused) tt (happens-pair t x y p h (TitleSet row is_memory_refused))
      near-next (pairs.RemovesTitle key digits) told = alone (pairs.RemovesTitle key digits) tt (happens-pair t x y p h (TitleRemoved key digits))
      near-next (pairs.OpensFirst link) told =
          opens-next (wants_of x.exchange link) (may_open_there w (place_there w c (entry link))) link refl refl (leads w c far (entry link) (own far))
      near-next (pairs.OpensSecond link) told = here-next w (did_here (pairs.OpensSecond link)) p (second-next (away c z link) link refl)
