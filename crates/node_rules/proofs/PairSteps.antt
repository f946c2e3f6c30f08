-- Steps of a pair, one for each event: what it leaves is the books after the event, and what is in the air then.
use Rattle.std.proofs.Common.{◌≡◌, ◌≢◌, ◌<◌, ℕ, Bool, true, false, ◌&&◌, not, List, [], ◌∷◌, ◌++◌, Option, Some, None, length, refl, ap, sym, ◌∙◌, subst, nat_eq, append-nil}
use Rattle.std.proofs.lemmas.List.{get_or-set_other, get_or-set_same, length-set}
use Rattle.std.proofs.lemmas.List.Elements.{filter-append}
use Rattle.std.specs.Prelude.{if◌then◌else◌, slice_index_or, slice_set, slice_get, option_to_list}
use Rattle.signalling_types.specs.Message as signalling
use Rattle.signalling_types.specs.Message.{dpc_of, is_management}
use Rattle.settings.specs.Configuration.{Configuration}
use Rattle.changeover.specs.Changeover.{may_restart, users_of}
use Rattle.exchange_rules.specs.State.{Happening, CameUp, FrameCame, Submitted, down}
use Rattle.exchange_rules.specs.ChangingOver.{changeover_of}
use Rattle.exchange_rules.specs.Exchange.{after, wants_of}
use Rattle.exchange_rules.specs.First.{Abstract}
use Rattle.exchange_rules.specs.Queues.{whole}
use Rattle.exchange_rules.specs.Conserving.{brought_in}
use Rattle.exchange_rules.specs.Receiving.{new_message}
use Rattle.exchange_rules.specs.declared.wants.Wants.{Wants}
use Rattle.exchange_rules.specs.declared.wants.Wants.TheVariants.{Open}
use Rattle.sctp_moves.specs.Ends.{Message}
use Rattle.pair_rules.specs.Pairs as pairs
use Rattle.pair_rules.specs.Pairs.{End, PairState, Streams, Turn, in_flight, may_follow, may_open_at, opens_second, launched, emptied, without_data, without_status, behind_data, behind_statuses}
use Rattle.pair_rules.specs.Promises.{AreJoined}
use Rattle.neighbour_rules.specs.Neighbours.{Does, OpensElsewhere, HearsElsewhere, did, deliver_frame, end_there, far_may_open, leads_elsewhere_by, opens_first, speaks_for, take_frame, takes_elsewhere, takes_in, users_to}
use Rattle.neighbour_rules.specs.Neighbours as neighbours
use Rattle.neighbour_rules.proofs.Sharing.{AreFacing}
use Rattle.node_rules.specs.Worlds.{Books, happened, happened_elsewhere, carried}
use Rattle.node_rules.specs.Promises.{IsOf}
use Rattle.node_rules.proofs.Staying.{MayOpen}
use Rattle.node_rules.proofs.Lines.{Ends, ends-apart, far-end}
use Rattle.node_rules.proofs.Whole.{AreBooked, IsWhole, booked-first, booked-second, whole-did}
use Rattle.node_rules.proofs.Flights.{Air, Flies, Sized, Shows, with_air, each-link, Reaches, by-one}

-- ---- an exchange

-- a message of the far end is one for this point, if it is a user message for it
users-twice : (point : ℕ) (o : Option signalling.Message) → users_to point (users_of (option_to_list o)) ≡ users_to point (option_to_list o)
users-twice point None = refl
users-twice point (Some m) = by (is_management m) refl where
  by : (b : Bool) → is_management m ≡ b → users_to point (if not b then m ∷ [] else []) ≡ (if not b && nat_eq (dpc_of m) point then m ∷ [] else [])
  by true e = refl
  by false e = ap (λ (b : Bool). if not b && nat_eq (dpc_of m) point then m ∷ [] else []) e

-- something happens to an exchange with these books
module _ (own other : ℕ) (b : Books) (e : End) (h : IsOf own other b e) where
  pub has-after : (what : Happening) → brought_in what b.exchange ≡ [] → carried what b.exchange ≡ []
      → (s : Streams) (f : List Bool) → IsOf own other (happened what b) (record e { exchange = after whole what e.exchange; incoming = s; following = f })
  has-after what n m s f = record {
    exchange = ap (after whole what) h.exchange;
    accepted = ap (λ (ms : List signalling.Message). users_to other (b.accepted ++ ms)) n ∙ ap (users_to other) (append-nil b.accepted) ∙ h.accepted;
    received = ap (λ (ms : List signalling.Message). users_to own (b.received ++ ms)) m ∙ ap (users_to own) (append-nil b.received) ∙ h.received;
  }

  -- what it accepts then, for the point that the pair names
  brought-more : (what : Happening) (to : ℕ) → to ≡ other
      → users_to other (b.accepted ++ brought_in what b.exchange) ≡ e.accepted ++ users_to to (brought_in what e.exchange)
  brought-more what to is =
      filter-append _ b.accepted (brought_in what b.exchange)
      ∙ ap (λ (x : Abstract). users_to other b.accepted ++ users_to other (brought_in what x)) h.exchange
      ∙ ap (λ (ms : List signalling.Message). ms ++ users_to other (brought_in what e.exchange)) h.accepted
      ∙ ap (λ (point : ℕ). e.accepted ++ users_to point (brought_in what e.exchange)) (sym is)

  pub has-taken : (what : Happening) (to : ℕ) → to ≡ other
      → IsOf own other (happened_elsewhere what b) (record e { exchange = after whole what e.exchange; accepted = e.accepted ++ users_to to (brought_in what e.exchange) })
  has-taken what to is = record { exchange = ap (after whole what) h.exchange; accepted = brought-more what to is; received = h.received }

  pub has-submitted : (m : signalling.Message) (to : ℕ) → to ≡ other
      → IsOf own other (happened (Submitted m) b) (record e { exchange = after whole (Submitted m) e.exchange; accepted = e.accepted ++ users_to to (brought_in (Submitted m) e.exchange) })
  has-submitted m to is = record {
    exchange = ap (after whole (Submitted m)) h.exchange;
    accepted = brought-more (Submitted m) to is;
    received = ap (users_to own) (append-nil b.received) ∙ h.received;
  }

  pub has-come : (k : ℕ) (text : List ℕ) (s : Streams) (to for : ℕ) → to ≡ other → for ≡ own
      → IsOf own other (happened (FrameCame k text) b)
      (record e {
        exchange = after whole (FrameCame k text) e.exchange;
        incoming = s;
        accepted = e.accepted ++ users_to to (brought_in (FrameCame k text) e.exchange);
        received = e.received ++ users_to for (option_to_list (new_message k text e.exchange));
      })
  has-come k text s to for is mine = record {
    exchange = ap (after whole (FrameCame k text)) h.exchange;
    accepted = brought-more (FrameCame k text) to is;
    received = filter-append _ b.received (users_of (option_to_list (new_message k text b.exchange)))
        ∙ ap (λ (ms : List signalling.Message). users_to own b.received ++ ms) (users-twice own (new_message k text b.exchange))
        ∙ ap (λ (x : Abstract). users_to own b.received ++ users_to own (option_to_list (new_message k text x))) h.exchange
        ∙ ap (λ (ms : List signalling.Message). ms ++ users_to own (option_to_list (new_message k text e.exchange))) h.received
        ∙ ap (λ (point : ℕ). e.received ++ users_to point (option_to_list (new_message k text e.exchange))) (sym mine);
  }

-- nothing is booked
pub nothing-booked : (near far : Books) (p : PairState) (what : Happening) → brought_in what near.exchange ≡ [] → carried what near.exchange ≡ [] → AreBooked near far p
    → AreBooked (happened what near) far p
nothing-booked near far p what n m b = record {
  near_accepted = ap (λ (ms : List signalling.Message). near.accepted ++ ms) n ∙ append-nil near.accepted ∙ b.near_accepted;
  near_received = ap (λ (ms : List signalling.Message). near.received ++ ms) m ∙ append-nil near.received ∙ b.near_received;
  far_accepted = b.far_accepted;
  far_received = b.far_received;
}

-- ---- lists by link

module _ (n k : ℕ) (k-in : k < n) where
  pub set-here : {A : Type 0} (xs : List A) (x d : A) → length xs ≡ n → slice_index_or (slice_set xs k x) k d ≡ x
  set-here xs x d e = get_or-set_same xs k x d (subst (λ (m : ℕ). k < m) (sym e) k-in)

pub set-there : {A : Type 0} (xs : List A) (k : ℕ) (x d : A) (j : ℕ) → j ≢ k → slice_index_or (slice_set xs k x) j d ≡ slice_index_or xs j d
set-there xs k x d j e = get_or-set_other xs k j x d e

-- ---- the frames of a link

-- an association comes up: nothing is in flight to the end of a link any more
module _ (n k : ℕ) (k-in : k < n) (s : Streams) (f : List Bool) (b : Bool) (z : Sized n s f) where
  pub sized-emptied : Sized n (emptied k s) (slice_set f k b)
  sized-emptied = record {
    statuses = length-set s.statuses k [] ∙ z.statuses;
    user_data = length-set s.user_data k [] ∙ z.user_data;
    may = length-set f k b ∙ z.may;
  }

  pub emptied-here : Flies k (emptied k s) (slice_set f k b) [] b
  emptied-here = record {
    statuses = set-here n k k-in s.statuses [] [] z.statuses;
    user_data = set-here n k k-in s.user_data [] [] z.user_data;
    may = set-here n k k-in f b false z.may;
  }

  pub emptied-there : (j : ℕ) (to : List Message) (follows : Bool) → j ≢ k → Flies j s f to follows → Flies j (emptied k s) (slice_set f k b) to follows
  emptied-there j to follows d y = record {
    statuses = set-there s.statuses k [] [] j d ∙ y.statuses;
    user_data = set-there s.user_data k [] [] j d ∙ y.user_data;
    may = set-there f k b false j d ∙ y.may;
  }

-- ---- one link

module _ (c z : Configuration) (a : AreFacing c z) (near far : Books) (air : ℕ → ℕ → Air) (p : PairState) (h : Shows c z a near far air p) where
  -- the settings of the pair
  near-is : p.near.exchange.settings ≡ c
  near-is = ap (λ (x : Abstract). x.settings) (sym h.near_has.exchange) ∙ h.near_settings

  far-is : p.far.exchange.settings ≡ z
  far-is = ap (λ (x : Abstract). x.settings) (sym h.far_has.exchange) ∙ h.far_settings

  pub own-is : p.near.exchange.settings.own ≡ c.own
  own-is = ap (λ (x : Configuration). x.own) near-is

  pub other-is : p.far.exchange.settings.own ≡ z.own
  other-is = ap (λ (x : Configuration). x.own) far-is

  pub far_end-is : (k : ℕ) (o : Option ℕ) → end_there c z (slice_get c.links k) ≡ o → neighbours.far_end p k ≡ o
  far_end-is k o e =
      ap (λ (x : Configuration). end_there x p.far.exchange.settings (slice_get x.links k)) near-is
      ∙ ap (λ (y : Configuration). end_there c y (slice_get c.links k)) far-is ∙ e

  pub away-is : (k : ℕ) → leads_elsewhere_by c z (slice_get c.links k) ≡ true → neighbours.leads_elsewhere p k ≡ true
  away-is k e =
      ap (λ (x : Configuration). leads_elsewhere_by x p.far.exchange.settings (slice_get x.links k)) near-is
      ∙ ap (λ (y : Configuration). leads_elsewhere_by c y (slice_get c.links k)) far-is ∙ e

  pub speaks-is : (text : List ℕ) → speaks_for c.own z.own text ≡ false → neighbours.speaks_for_either p text ≡ false
  speaks-is text e =
      ap (λ (point : ℕ). speaks_for point p.far.exchange.settings.own text) own-is ∙ ap (λ (point : ℕ). speaks_for c.own point text) other-is ∙ e

  module _ (k j : ℕ) (e : Ends c z a k j) where
    -- ---- an association comes up at the near end first

    abbrev first-left : PairState
    first-left = record {
      near = record p.near {
        exchange = after whole (CameUp k) p.near.exchange;
        incoming = emptied k p.near.incoming;
        following = slice_set p.near.following k false;
      };
      far = record p.far {
        incoming = emptied j p.far.incoming;
        following = slice_set p.far.following j true;
      };
    }

    abbrev first-air : Air
    first-air = record { to_near = []; to_far = []; near_follows = false; far_follows = true }

    first-shows : (AreJoined c z → IsWhole c z (happened (CameUp k) near) far first-left) → Shows c z a (happened (CameUp k) near) far (with_air k first-air air) first-left
    first-shows whole = record {
      near_settings = h.near_settings;
      far_settings = h.far_settings;
      near_has = has-after c.own z.own near p.near h.near_has (CameUp k) refl refl (emptied k p.near.incoming) (slice_set p.near.following k false);
      far_has = record { exchange = h.far_has.exchange; accepted = h.far_has.accepted; received = h.far_has.received };
      near_sized = sized-emptied (length c.links) k e.here p.near.incoming p.near.following false h.near_sized;
      far_sized = sized-emptied (length z.links) j e.there p.far.incoming p.far.following true h.far_sized;
      to_near = each-link c z a (λ (i o : ℕ) (x : Air). Flies i (emptied k p.near.incoming) (slice_set p.near.following k false) x.to_near x.near_follows) k j e first-air air
          (emptied-here (length c.links) k e.here p.near.incoming p.near.following false h.near_sized)
          (λ i o l d. emptied-there (length c.links) k e.here p.near.incoming p.near.following false h.near_sized i (air i o).to_near (air i o).near_follows d (h.to_near i o l));
      to_far = each-link c z a (λ (i o : ℕ) (x : Air). Flies o (emptied j p.far.incoming) (slice_set p.far.following j true) x.to_far x.far_follows) k j e first-air air
          (emptied-here (length z.links) j e.there p.far.incoming p.far.following true h.far_sized)
          (λ i o l d. emptied-there (length z.links) j e.there p.far.incoming p.far.following true h.far_sized o (air i o).to_far (air i o).far_follows (ends-apart c z a k j i o e l d) (h.to_far i o l));
      whole = whole;
    }

    opens-it : (w : Wants) (o : Option ℕ) → w ≡ Open → o ≡ Some j → may_open_at p.far j ≡ true → (opens_first w o (far_may_open p o) k p).left ≡ first-left
    opens-it w o f g m =
        ap (λ (v : Wants). (opens_first v o (far_may_open p o) k p).left) f
        ∙ ap (λ (q : Option ℕ). (opens_first Open q (far_may_open p q) k p).left) g
        ∙ ap (λ (b : Bool). (opens_first Open (Some j) b k p).left) m

    both : (x y : Bool) → x ≡ true → y ≡ true → (x && y) ≡ true
    both x y f g = ap (λ (b : Bool). b && y) f ∙ g

    pub up-first : wants_of near.exchange k ≡ Open → MayOpen j far.exchange.node.parts → Reaches c z a (happened (CameUp k) near) far (with_air k first-air air) p
    up-first f m =
        let wants : wants_of p.near.exchange k ≡ Open = ap (λ (x : Abstract). wants_of x k) (sym h.near_has.exchange) ∙ f in
        let may : may_open_at p.far j ≡ true =
        ap (λ (x : Abstract). down x.node.parts j && may_restart (changeover_of x.node.parts j)) (sym h.far_has.exchange)
        ∙ both (down far.exchange.node.parts j) (may_restart (changeover_of far.exchange.node.parts j)) m.down m.restarts in
        let is : (did (Does (pairs.OpensFirst k)) p).left ≡ first-left =
        opens-it (wants_of p.near.exchange k) (neighbours.far_end p k) wants (far_end-is k (Some j) (far-end c z a k j e)) may in
        by-one c z a (happened (CameUp k) near) far (with_air k first-air air) (Does (pairs.OpensFirst k)) p
        (subst (Shows c z a (happened (CameUp k) near) far (with_air k first-air air)) (sym is)
        (first-shows (λ g.
        whole-did c z g near far p (h.whole g) (pairs.OpensFirst k) (happened (CameUp k) near) first-left is
        (booked-first (happened (CameUp k) near) far (wants_of p.near.exchange k) (may_open_at p.far k) k p
        (nothing-booked near far p (CameUp k) refl refl (h.whole g).booked)))))

    -- ---- it follows the far end

    abbrev second-left : PairState
    second-left = record p {
      near = record p.near {
        exchange = after whole (CameUp k) p.near.exchange;
        following = slice_set p.near.following k false;
      };
    }

    abbrev second-air : Air
    second-air = record (air k j) { near_follows = false }

    second-shows : (AreJoined c z → IsWhole c z (happened (CameUp k) near) far second-left) → Shows c z a (happened (CameUp k) near) far (with_air k second-air air) second-left
    second-shows whole = record {
      near_settings = h.near_settings;
      far_settings = h.far_settings;
      near_has = has-after c.own z.own near p.near h.near_has (CameUp k) refl refl p.near.incoming (slice_set p.near.following k false);
      far_has = h.far_has;
      near_sized = record {
        statuses = h.near_sized.statuses;
        user_data = h.near_sized.user_data;
        may = length-set p.near.following k false ∙ h.near_sized.may;
      };
      far_sized = h.far_sized;
      to_near = each-link c z a (λ (i o : ℕ) (x : Air). Flies i p.near.incoming (slice_set p.near.following k false) x.to_near x.near_follows) k j e second-air air
          (record {
            statuses = (h.to_near k j e).statuses;
            user_data = (h.to_near k j e).user_data;
            may = set-here (length c.links) k e.here p.near.following false false h.near_sized.may;
          })
          (λ i o l d. record {
            statuses = (h.to_near i o l).statuses;
            user_data = (h.to_near i o l).user_data;
            may = set-there p.near.following k false false i d ∙ (h.to_near i o l).may;
          });
      to_far = each-link c z a (λ (i o : ℕ) (x : Air). Flies o p.far.incoming p.far.following x.to_far x.far_follows) k j e second-air air
          (h.to_far k j e) (λ i o l d. h.to_far i o l);
      whole = whole;
    }

    follows-it : (w : Wants) (b : Bool) → w ≡ Open → b ≡ true → (opens_second w b k p).left ≡ second-left
    follows-it w b f g = ap (λ (v : Wants). (opens_second v b k p).left) f ∙ ap (λ (y : Bool). (opens_second Open y k p).left) g

    pub up-second : wants_of near.exchange k ≡ Open → (air k j).near_follows ≡ true → Reaches c z a (happened (CameUp k) near) far (with_air k second-air air) p
    up-second f g =
        let wants : wants_of p.near.exchange k ≡ Open = ap (λ (x : Abstract). wants_of x k) (sym h.near_has.exchange) ∙ f in
        let is : (did (Does (pairs.OpensSecond k)) p).left ≡ second-left =
        follows-it (wants_of p.near.exchange k) (may_follow p.near k) wants ((h.to_near k j e).may ∙ g) in
        by-one c z a (happened (CameUp k) near) far (with_air k second-air air) (Does (pairs.OpensSecond k)) p
        (subst (Shows c z a (happened (CameUp k) near) far (with_air k second-air air)) (sym is)
        (second-shows (λ y.
        whole-did c z y near far p (h.whole y) (pairs.OpensSecond k) (happened (CameUp k) near) second-left is
        (booked-second (happened (CameUp k) near) far (wants_of p.near.exchange k) (may_follow p.near k) k p
        (nothing-booked near far p (CameUp k) refl refl (h.whole y).booked)))))
