-- What is done at one node, as its pair with another shows it.
use Rattle.pair_rules.proofs.Basics.{◌≡◌, ℕ, Bool, true, false, not, List, [], ◌∷◌, ◌++◌, Option, Some, None, refl, ap, sym, subst, ◌∙◌, append-nil, map, filter, option_to_list, slice_get, slice_set, slice_index_or, length, length-set, if◌then◌else◌}
use Rattle.std.proofs.lemmas.List.Elements.{filter-append}
use Rattle.std.proofs.lemmas.List.{map-append}
use Rattle.pair_rules.proofs.Definitions.{Message, Configuration, FrameValue, Happening, CameUp, FrameCame, Submitted, whole, after, brought_in, new_message, PairState, Streams, happens, may_follow, wants_of, frame_to_take, Open, Nothing, Close, in_flight, turned}
use Rattle.pair_rules.specs.Pairs as pairs
use Rattle.pair_rules.specs.Pairs.{emptied, may_open_at}
use Rattle.exchange_rules.specs.declared.wants.Wants.{Wants}
use Rattle.exchange_rules.specs.First.{Abstract}
use Rattle.exchange_rules.specs.Exchange.{taken}
use Rattle.exchange_rules.specs.LoneRoutes.{is_user_to}
use Rattle.neighbour_rules.specs.Neighbours as neighbours
use Rattle.neighbour_rules.specs.Neighbours.{AtFar, AtNear, Does, HearsElsewhere, OpensElsewhere, after_steps_for, end_there, far_end, far_may_open, leads_elsewhere, leads_elsewhere_by, speaks_for_either, takes_elsewhere_for, takes_in_for, turn_for, users_to}
use Rattle.network_rules.specs.Networks.{Arrival, NetworkNode, change_statuses, comes_up, deliver_frame, is_led, opens_second, reaches, sends, submit}
use Rattle.network_rules.specs.Networks as network
use Rattle.network_rules.specs.Pairs.{AreAlike, ArePairsAlike, CarryAlike, came_from, end_between_for, pair_between_for}
use Rattle.network_rules.proofs.Alike.{away, emptied-alike, emptied-away, flags-alike, flags-away, launched-alike, launched-away, set-sizes}

-- ---- what came by a link

abbrev text_of : Arrival → Message
text_of a = a.message

abbrev pub by_link : (link : ℕ) → Message → Arrival
by_link link m = record { link = link; message = m }

module _ (c z : Configuration) where
  abbrev comes_from : Arrival → Bool
  comes_from a = not (leads_elsewhere_by c z (slice_get c.links a.link))

  pub came-more : (xs ys : List Arrival) → came_from c z (xs ++ ys) ≡ came_from c z xs ++ came_from c z ys
  came-more xs ys = ap (map text_of) (filter-append comes_from xs ys) ∙ map-append text_of (filter comes_from xs) (filter comes_from ys)

  pub came-here : (link : ℕ) (ms : List Message) → away c z link ≡ false → came_from c z (map (by_link link) ms) ≡ ms
  came-here link [] e = refl
  came-here link (m ∷ ms) e =
      let others : List Arrival = filter comes_from (map (by_link link) ms) in
      ap (λ (b : Bool). map text_of (if not b then by_link link m ∷ others else others)) e ∙ ap (λ (ks : List Message). m ∷ ks) (came-here link ms e)

  came-away : (link : ℕ) (ms : List Message) → away c z link ≡ true → came_from c z (map (by_link link) ms) ≡ []
  came-away link [] e = refl
  came-away link (m ∷ ms) e =
      let others : List Arrival = filter comes_from (map (by_link link) ms) in
      ap (λ (b : Bool). map text_of (if not b then by_link link m ∷ others else others)) e ∙ came-away link ms e

-- ---- two nodes, and a pair that is alike

-- the message that the next User Data newly carries satisfies this, if that is handed in
abbrev pub HandsIn : (Message → Type 0) → neighbours.Doing → PairState → Type 0
HandsIn T (Does (pairs.Delivers link)) p =
    (text : List ℕ) → slice_get (in_flight p.near.incoming.user_data link) 0 ≡ Some text → (m : Message) → new_message link text p.near.exchange ≡ Some m → T m
HandsIn T (Does (pairs.Submits message)) p = Unit {0}
HandsIn T (Does (pairs.Takes link)) p = Unit {0}
HandsIn T (Does (pairs.DeliversStatus link)) p = Unit {0}
HandsIn T (Does (pairs.LosesStatus link)) p = Unit {0}
HandsIn T (Does (pairs.DoublesStatus link)) p = Unit {0}
HandsIn T (Does (pairs.Loses link)) p = Unit {0}
HandsIn T (Does pairs.Ticks) p = Unit {0}
HandsIn T (Does (pairs.Activates link emergency)) p = Unit {0}
HandsIn T (Does (pairs.Deactivates link)) p = Unit {0}
HandsIn T (Does (pairs.Releases link)) p = Unit {0}
HandsIn T (Does (pairs.AddsTitle row is_memory_refused)) p = Unit {0}
HandsIn T (Does (pairs.SetsTitle row is_memory_refused)) p = Unit {0}
HandsIn T (Does (pairs.RemovesTitle key digits)) p = Unit {0}
HandsIn T (Does (pairs.OpensFirst link)) p = Unit {0}
HandsIn T (Does (pairs.OpensSecond link)) p = Unit {0}
HandsIn T (OpensElsewhere link) p = Unit {0}
HandsIn T (HearsElsewhere link text) p = Unit {0}

-- at either end, by links between the two
abbrev pub HandsBy : (near_is far_is : Message → Type 0) → neighbours.Step → PairState → Type 0
HandsBy near_is far_is (AtNear what) p = HandsIn near_is what p
HandsBy near_is far_is (AtFar what) p = HandsIn far_is what (turned p)

-- the message that the next User Data newly carries satisfies this, if a node hands that in by a link to the other
abbrev pub TakesIn : (Message → Type 0) → pairs.Doing → (near far : NetworkNode) → Type 0
TakesIn T (pairs.Delivers link) x y =
    away x.exchange.settings y.exchange.settings link ≡ false → (text : List ℕ) → slice_get (in_flight x.incoming.user_data link) 0 ≡ Some text
    → (m : Message) → new_message link text x.exchange ≡ Some m → T m
TakesIn T (pairs.Submits message) x y = Unit {0}
TakesIn T (pairs.Takes link) x y = Unit {0}
TakesIn T (pairs.DeliversStatus link) x y = Unit {0}
TakesIn T (pairs.LosesStatus link) x y = Unit {0}
TakesIn T (pairs.DoublesStatus link) x y = Unit {0}
TakesIn T (pairs.Loses link) x y = Unit {0}
TakesIn T pairs.Ticks x y = Unit {0}
TakesIn T (pairs.Activates link emergency) x y = Unit {0}
TakesIn T (pairs.Deactivates link) x y = Unit {0}
TakesIn T (pairs.Releases link) x y = Unit {0}
TakesIn T (pairs.AddsTitle row is_memory_refused) x y = Unit {0}
TakesIn T (pairs.SetsTitle row is_memory_refused) x y = Unit {0}
TakesIn T (pairs.RemovesTitle key digits) x y = Unit {0}
TakesIn T (pairs.OpensFirst link) x y = Unit {0}
TakesIn T (pairs.OpensSecond link) x y = Unit {0}

-- the points for which the messages are that go from the one to the other, and that come back; and what holds of the
-- messages that the User Data newly carries that each hands in
pub record Terms : Type 1 where
  pub to_far : ℕ
  pub to_near : ℕ
  pub near_is : Message → Type 0
  pub far_is : Message → Type 0

abbrev pub turned_terms : Terms → Terms
turned_terms t = record { to_far = t.to_near; to_near = t.to_far; near_is = t.far_is; far_is = t.near_is }

abbrev pub AllHandBy : Terms → List neighbours.Step → PairState → Type 0
AllHandBy t [] p = Unit {0}
AllHandBy t (step ∷ steps) p = HandsBy t.near_is t.far_is step p × AllHandBy t steps (turn_for t.to_far t.to_near step p).left

pub record Next (t : Terms) (x y : NetworkNode) (p : PairState) : Type 0 where
  pub steps : List neighbours.Step
  pub hand : AllHandBy t steps p
  pub pair : ArePairsAlike (pair_between_for t.to_far t.to_near x y) (after_steps_for t.to_far t.to_near steps p)

module _ (t : Terms) (x y : NetworkNode) (p : PairState) (h : ArePairsAlike (pair_between_for t.to_far t.to_near x y) p) where
  abbrev here : Configuration
  here = x.exchange.settings

  abbrev there : Configuration
  there = y.exchange.settings

  -- nothing is done that the pair shows
  pub idle : Next t x y p
  idle = record { steps = []; hand = tt; pair = h }

  -- ---- what the pair reads

  pub end-is : (link : ℕ) → far_end p link ≡ end_there here there (slice_get here.links link)
  end-is link =
      ap (λ (e : Abstract). end_there e.settings p.far.exchange.settings (slice_get e.settings.links link)) h.near_alike.exchange
      ∙ ap (λ (e : Abstract). end_there here e.settings (slice_get here.links link)) h.far_alike.exchange

  leads-is : (link : ℕ) → leads_elsewhere p link ≡ away here there link
  leads-is link =
      ap (λ (e : Abstract). leads_elsewhere_by e.settings p.far.exchange.settings (slice_get e.settings.links link)) h.near_alike.exchange
      ∙ ap (λ (e : Abstract). leads_elsewhere_by here e.settings (slice_get here.links link)) h.far_alike.exchange

  speaks-is : (text : List ℕ) → speaks_for_either p text ≡ speaks_for_either (pair_between_for t.to_far t.to_near x y) text
  speaks-is text =
      ap (λ (e : Abstract). speaks_for_either (record p { near = record p.near { exchange = e } }) text) h.near_alike.exchange
      ∙ ap (λ (e : Abstract). speaks_for_either (record { near = record p.near { exchange = x.exchange }; far = record p.far { exchange = e } }) text) h.far_alike.exchange

  more-accepted : (what : Happening)
      → p.near.accepted ++ users_to t.to_far (brought_in what p.near.exchange) ≡ users_to t.to_far (x.accepted ++ brought_in what x.exchange)
  more-accepted what =
      ap (λ (ms : List Message). ms ++ users_to t.to_far (brought_in what p.near.exchange)) h.near_alike.accepted
      ∙ ap (λ (e : Abstract). users_to t.to_far x.accepted ++ users_to t.to_far (brought_in what e)) h.near_alike.exchange
      ∙ sym (filter-append (is_user_to t.to_far) x.accepted (brought_in what x.exchange))

  -- ---- at the near node alone

  pub happens-pair : (what : Happening) → ArePairsAlike (pair_between_for t.to_far t.to_near (network.happens what x) y) (happens what p).left
  happens-pair what = record {
    near_alike = record {
      exchange = ap (after whole what) h.near_alike.exchange;
      accepted = h.near_alike.accepted;
      received = h.near_alike.received;
      incoming = h.near_alike.incoming;
      following = h.near_alike.following;
      following_links = h.near_alike.following_links;
    };
    far_alike = h.far_alike;
  }

  pub submit-pair : (m : Message) → ArePairsAlike (pair_between_for t.to_far t.to_near (submit m x) y) (takes_in_for t.to_far (Submitted m) p).left
  submit-pair m = record {
    near_alike = record {
      exchange = ap (after whole (Submitted m)) h.near_alike.exchange;
      accepted = more-accepted (Submitted m);
      received = h.near_alike.received;
      incoming = h.near_alike.incoming;
      following = h.near_alike.following;
      following_links = h.near_alike.following_links;
    };
    far_alike = h.far_alike;
  }

  -- a frame comes by a link between the two
  pub heard-pair : (o : Option (List ℕ)) (link : ℕ) (left other : Streams) → away here there link ≡ false → CarryAlike here there left other
      → ArePairsAlike (pair_between_for t.to_far t.to_near (deliver_frame o link left x) y) (neighbours.deliver_frame_for t.to_far t.to_near o link other p).left
  heard-pair None link left other e g = h
  heard-pair (Some text) link left other e g =
      let new : Abstract → List Message = λ a. option_to_list (new_message link text a) in
      record {
        near_alike = record {
          exchange = ap (after whole (FrameCame link text)) h.near_alike.exchange;
          accepted = more-accepted (FrameCame link text);
          received =
              ap (λ (ms : List Message). ms ++ users_to t.to_near (new p.near.exchange)) h.near_alike.received
              ∙ ap (λ (a : Abstract). users_to t.to_near (came_from here there x.arrived) ++ users_to t.to_near (new a)) h.near_alike.exchange
              ∙ ap (λ (ms : List Message). users_to t.to_near (came_from here there x.arrived) ++ users_to t.to_near ms) (sym (came-here here there link (new x.exchange) e))
              ∙ sym (filter-append (is_user_to t.to_near) (came_from here there x.arrived) (came_from here there (map (by_link link) (new x.exchange))))
              ∙ sym (ap (users_to t.to_near) (came-more here there x.arrived (map (by_link link) (new x.exchange))));
          incoming = g;
          following = h.near_alike.following;
          following_links = h.near_alike.following_links;
        };
        far_alike = h.far_alike;
      }

  -- a frame comes by a link that leads elsewhere
  elsewhere-is : (what : Happening) (link : ℕ) (speaks : Bool) → away here there link ≡ true → speaks ≡ false
      → (takes_elsewhere_for t.to_far (leads_elsewhere p link) speaks what p).left ≡ (takes_in_for t.to_far what p).left
  elsewhere-is what link speaks e f =
      ap (λ (b : Bool). (takes_elsewhere_for t.to_far b speaks what p).left) (leads-is link ∙ e) ∙ ap (λ (b : Bool). (takes_elsewhere_for t.to_far true b what p).left) f

  pub away-heard : (o : Option (List ℕ)) (link : ℕ) (left : Streams) → away here there link ≡ true → CarryAlike here there left p.near.incoming
      → ((text : List ℕ) → o ≡ Some text → speaks_for_either (pair_between_for t.to_far t.to_near x y) text ≡ false) → Next t (deliver_frame o link left x) y p
  away-heard None link left e g silent = record { steps = []; hand = tt; pair = h }
  away-heard (Some text) link left e g silent =
      let new : Abstract → List Message = λ a. option_to_list (new_message link text a) in
      record {
        steps = AtNear (HearsElsewhere link text) ∷ [];
        hand = (tt, tt);
        pair =
            subst (ArePairsAlike (pair_between_for t.to_far t.to_near (deliver_frame (Some text) link left x) y))
            (sym (elsewhere-is (FrameCame link text) link (speaks_for_either p text) e (speaks-is text ∙ silent text refl)))
            (record {
              near_alike = record {
                exchange = ap (after whole (FrameCame link text)) h.near_alike.exchange;
                accepted = more-accepted (FrameCame link text);
                received =
                    h.near_alike.received
                    ∙ sym (ap (users_to t.to_near)
                    (came-more here there x.arrived (map (by_link link) (new x.exchange))
                    ∙ ap (λ (ms : List Message). came_from here there x.arrived ++ ms) (came-away here there link (new x.exchange) e) ∙ append-nil (came_from here there x.arrived)));
                incoming = g;
                following = h.near_alike.following;
                following_links = h.near_alike.following_links;
              };
              far_alike = h.far_alike;
            });
      }

  -- what is in flight to it changes
  pub changed-pair : (o : Option (List ℕ)) (left other : Streams) → CarryAlike here there left other
      → ArePairsAlike (pair_between_for t.to_far t.to_near (change_statuses o left x) y) (pairs.change_statuses o other p).left
  changed-pair None left other g = h
  changed-pair (Some text) left other g = record {
    near_alike = record {
      exchange = h.near_alike.exchange;
      accepted = h.near_alike.accepted;
      received = h.near_alike.received;
      incoming = g;
      following = h.near_alike.following;
      following_links = h.near_alike.following_links;
    };
    far_alike = h.far_alike;
  }

  pub away-changed : (o : Option (List ℕ)) (left : Streams) → CarryAlike here there left p.near.incoming → ArePairsAlike (pair_between_for t.to_far t.to_near (change_statuses o left x) y) p
  away-changed None left g = h
  away-changed (Some text) left g = record {
    near_alike = record {
      exchange = h.near_alike.exchange;
      accepted = h.near_alike.accepted;
      received = h.near_alike.received;
      incoming = g;
      following = h.near_alike.following;
      following_links = h.near_alike.following_links;
    };
    far_alike = h.far_alike;
  }

  -- it follows the other end
  pub second-pair : (wants : Wants) (follows : Bool) (link : ℕ) → ArePairsAlike (pair_between_for t.to_far t.to_near (opens_second wants follows link x) y) (pairs.opens_second wants follows link p).left
  second-pair Open true link = record {
    near_alike = record {
      exchange = ap (after whole (CameUp link)) h.near_alike.exchange;
      accepted = h.near_alike.accepted;
      received = h.near_alike.received;
      incoming = h.near_alike.incoming;
      following = flags-alike here there x.following p.near.following link false h.near_alike.following h.near_alike.following_links;
      following_links = set-sizes x.following p.near.following link false false h.near_alike.following_links;
    };
    far_alike = h.far_alike;
  }
  second-pair Open false link = h
  second-pair Nothing follows link = h
  second-pair Close follows link = h

  -- ---- a link that leads elsewhere opens

  -- its association comes up, and its streams and flags change on that link alone
  pub opened-away : (link : ℕ) (left : Streams) (flags : List Bool) → away here there link ≡ true → CarryAlike here there left p.near.incoming
      → ((other : ℕ) → away here there other ≡ false → may_follow p.near other ≡ slice_index_or flags other false) → length p.near.following ≡ length flags
      → Next t (record x { exchange = after whole (CameUp link) x.exchange; incoming = left; following = flags }) y p
  opened-away link left flags e g f sizes = record {
    steps = AtNear (OpensElsewhere link) ∷ [];
    hand = (tt, tt);
    pair =
        subst (ArePairsAlike (pair_between_for t.to_far t.to_near (record x { exchange = after whole (CameUp link) x.exchange; incoming = left; following = flags }) y))
        (sym (elsewhere-is (CameUp link) link false e refl))
        (record {
          near_alike = record {
            exchange = ap (after whole (CameUp link)) h.near_alike.exchange;
            accepted = append-nil p.near.accepted ∙ h.near_alike.accepted;
            received = h.near_alike.received;
            incoming = g;
            following = f;
            following_links = sizes;
          };
          far_alike = h.far_alike;
        });
  }

  pub away-second : (wants : Wants) (follows : Bool) (link : ℕ) → away here there link ≡ true → Next t (opens_second wants follows link x) y p
  away-second Open true link e =
      opened-away link x.incoming (slice_set x.following link false) e h.near_alike.incoming
      (flags-away here there x.following p.near.following link false e h.near_alike.following) (h.near_alike.following_links ∙ sym (length-set x.following link false))
  away-second Open false link e = record { steps = []; hand = tt; pair = h }
  away-second Nothing follows link e = record { steps = []; hand = tt; pair = h }
  away-second Close follows link e = record { steps = []; hand = tt; pair = h }

  pub away-first : (link : ℕ) → away here there link ≡ true → Next t (comes_up link x) y p
  away-first link e =
      opened-away link (emptied link x.incoming) (slice_set x.following link false) e (emptied-away here there x.incoming p.near.incoming link e h.near_alike.incoming)
      (flags-away here there x.following p.near.following link false e h.near_alike.following) (h.near_alike.following_links ∙ sym (length-set x.following link false))

  -- ---- another node does something on a link that leads elsewhere

  pub reach-away : (frame : FrameValue) (link : ℕ) → away here there link ≡ true → ArePairsAlike (pair_between_for t.to_far t.to_near (reaches frame link x) y) p
  reach-away frame link e = record {
    near_alike = record {
      exchange = h.near_alike.exchange;
      accepted = h.near_alike.accepted;
      received = h.near_alike.received;
      incoming = launched-away here there x.incoming p.near.incoming frame link e h.near_alike.incoming;
      following = h.near_alike.following;
      following_links = h.near_alike.following_links;
    };
    far_alike = h.far_alike;
  }

  pub led-away : (link : ℕ) → away here there link ≡ true → ArePairsAlike (pair_between_for t.to_far t.to_near (is_led link x) y) p
  led-away link e = record {
    near_alike = record {
      exchange = h.near_alike.exchange;
      accepted = h.near_alike.accepted;
      received = h.near_alike.received;
      incoming = emptied-away here there x.incoming p.near.incoming link e h.near_alike.incoming;
      following = flags-away here there x.following p.near.following link true e h.near_alike.following;
      following_links = h.near_alike.following_links ∙ sym (length-set x.following link true);
    };
    far_alike = h.far_alike;
  }

  -- ---- frames go from one to the other, and a link between them opens

  sent-near : (link : ℕ) → AreAlike here there (end_between_for t.to_far t.to_near (sends link x) y) (record p.near { exchange = taken whole p.near.exchange link })
  sent-near link = record {
    exchange = ap (λ (a : Abstract). taken whole a link) h.near_alike.exchange;
    accepted = h.near_alike.accepted;
    received = h.near_alike.received;
    incoming = h.near_alike.incoming;
    following = h.near_alike.following;
    following_links = h.near_alike.following_links;
  }

  takes-is : (o : Option FrameValue) (link : ℕ) (other : Option ℕ) → frame_to_take whole x.exchange link ≡ o → end_there here there (slice_get here.links link) ≡ other
      → (turn_for t.to_far t.to_near (AtNear (Does (pairs.Takes link))) p).left ≡ (neighbours.take_frame o link other p).left
  takes-is o link other e f =
      ap (λ (v : Option FrameValue). (neighbours.take_frame v link (far_end p link) p).left) (ap (λ (a : Abstract). frame_to_take whole a link) h.near_alike.exchange ∙ e)
      ∙ ap (λ (n : Option ℕ). (neighbours.take_frame o link n p).left) (end-is link ∙ f)

  pub sent-nowhere : (frame : FrameValue) (link : ℕ) → frame_to_take whole x.exchange link ≡ Some frame → end_there here there (slice_get here.links link) ≡ None → Next t (sends link x) y p
  sent-nowhere frame link e f = record {
    steps = AtNear (Does (pairs.Takes link)) ∷ [];
    hand = (tt, tt);
    pair = subst (ArePairsAlike (pair_between_for t.to_far t.to_near (sends link x) y)) (sym (takes-is (Some frame) link None e f)) (record { near_alike = sent-near link; far_alike = h.far_alike });
  }

  pub sent-there : (frame : FrameValue) (link other : ℕ) → frame_to_take whole x.exchange link ≡ Some frame → end_there here there (slice_get here.links link) ≡ Some other
      → Next t (sends link x) (reaches frame other y) p
  sent-there frame link other e f = record {
    steps = AtNear (Does (pairs.Takes link)) ∷ [];
    hand = (tt, tt);
    pair =
        subst (ArePairsAlike (pair_between_for t.to_far t.to_near (sends link x) (reaches frame other y))) (sym (takes-is (Some frame) link (Some other) e f))
        (record {
          near_alike = sent-near link;
          far_alike = record {
            exchange = h.far_alike.exchange;
            accepted = h.far_alike.accepted;
            received = h.far_alike.received;
            incoming = launched-alike there here y.incoming p.far.incoming frame other h.far_alike.incoming;
            following = h.far_alike.following;
            following_links = h.far_alike.following_links;
          };
        });
  }

  opens-is : (wants : Wants) (other : ℕ) (may : Bool) (link : ℕ) → wants_of x.exchange link ≡ wants → end_there here there (slice_get here.links link) ≡ Some other
      → may_open_at (network.end_of y) other ≡ may → (turn_for t.to_far t.to_near (AtNear (Does (pairs.OpensFirst link))) p).left ≡ (neighbours.opens_first wants (Some other) may link p).left
  opens-is wants other may link e f g =
      ap (λ (v : Wants). (neighbours.opens_first v (far_end p link) (far_may_open p (far_end p link)) link p).left) (ap (λ (a : Abstract). wants_of a link) h.near_alike.exchange ∙ e)
      ∙ ap (λ (o : Option ℕ). (neighbours.opens_first wants o (far_may_open p o) link p).left) (end-is link ∙ f)
      ∙ ap (λ (b : Bool). (neighbours.opens_first wants (Some other) b link p).left)
      (ap (λ (a : Abstract). may_open_at (record p.far { exchange = a }) other) h.far_alike.exchange ∙ g)

  pub first-pair : (link other : ℕ) → wants_of x.exchange link ≡ Open → end_there here there (slice_get here.links link) ≡ Some other
      → may_open_at (network.end_of y) other ≡ true → Next t (comes_up link x) (is_led other y) p
  first-pair link other e f g = record {
    steps = AtNear (Does (pairs.OpensFirst link)) ∷ [];
    hand = (tt, tt);
    pair =
        subst (ArePairsAlike (pair_between_for t.to_far t.to_near (comes_up link x) (is_led other y))) (sym (opens-is Open other true link e f g))
        (record {
          near_alike = record {
            exchange = ap (after whole (CameUp link)) h.near_alike.exchange;
            accepted = h.near_alike.accepted;
            received = h.near_alike.received;
            incoming = emptied-alike here there x.incoming p.near.incoming link h.near_alike.incoming;
            following = flags-alike here there x.following p.near.following link false h.near_alike.following h.near_alike.following_links;
            following_links = set-sizes x.following p.near.following link false false h.near_alike.following_links;
          };
          far_alike = record {
            exchange = h.far_alike.exchange;
            accepted = h.far_alike.accepted;
            received = h.far_alike.received;
            incoming = emptied-alike there here y.incoming p.far.incoming other h.far_alike.incoming;
            following = flags-alike there here y.following p.far.following other true h.far_alike.following h.far_alike.following_links;
            following_links = set-sizes y.following p.far.following other true true h.far_alike.following_links;
          };
        });
  }
