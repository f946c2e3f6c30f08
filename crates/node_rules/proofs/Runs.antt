-- Runs of two nodes are runs of a pair.
use Rattle.std.proofs.Common.{◌≡◌, ◌≢◌, ℕ, Bool, true, false, List, [], ◌∷◌, ◌++◌, Option, Some, None, length, map, refl, ap, sym, ◌∙◌, subst, nat_eq, arith, replicate}
use Rattle.std.proofs.lemmas.Bool.Decides.{nat_tests}
use Rattle.std.proofs.lemmas.List.{length-replicate}
use Rattle.std.specs.Prelude.{if◌then◌else◌}
use Rattle.settings.specs.Configuration.{Configuration}
use Rattle.m2pa_codec.specs.Frames.{FrameValue, spelled}
use Rattle.exchange_rules.specs.State.{CameUp, WentDown, FrameCame, Happening, Ticked, Submitted, Activated, Deactivated, Released, TitleAdded, TitleSet, TitleRemoved}
use Rattle.exchange_rules.specs.Exchange.{frame_to_take, taken}
use Rattle.exchange_rules.specs.First.{Abstract}
use Rattle.exchange_rules.specs.Queues.{whole}
use Rattle.exchange_rules.proofs.Lists.{each-replicate}
use Rattle.exchange_rules.proofs.SteppingEvents.{IsOf}
use Rattle.sctp_rules.specs.State.{Told}
use Rattle.sctp_rules.specs.Endpoint as endpoint
use Rattle.sctp_rules.specs.Wishing.{Idle, Seeking}
use Rattle.sctp_rules.proofs.Passing.{none-right}
use Rattle.sctp_moves.specs.Ends.{new_end}
use Rattle.sctp_moves.specs.Openings.{Neither}
use Rattle.sctp_moves.proofs.Keeping.{sound-first}
use Rattle.sctp_ends.specs.Shown.{AreGood}
use Rattle.sctp_ends.specs.Worlds as ends
use Rattle.sctp_ends.proofs.World.{new-shown}
use Rattle.pair_rules.specs.Pairs.{PairState, first_pair, in_flight}
use Rattle.pair_rules.specs.Pairs as pairs
use Rattle.neighbour_rules.specs.Neighbours as neighbours
use Rattle.neighbour_rules.specs.Neighbours.{Step, AtNear, AtFar, did, turn, after_steps}
use Rattle.neighbour_rules.proofs.Sharing.{AreFacing, facing_back, are-facing}
use Rattle.node_rules.specs.Worlds as worlds
use Rattle.node_rules.specs.Worlds.{Books, handed, handed_all, happened, happened_elsewhere, left_by, is_frame, Port, Node, Make, with_port, associated, Doing, Happens, Associates, Sends, Brings, Leaves, IsOwn, MayBring, MayDo, World, turned, new_world, at_near, at_far, Steps, last_world, told_by, given, sent}
use Rattle.node_rules.specs.Promises.{AreNeighbours, runs_are_runs_of_pairs}
use Rattle.node_rules.proofs.Staying.{MayOpen, events-stay, takes-stay, own-of}
use Rattle.node_rules.proofs.Lines.{Ends, ends-of, not-away, turned-ends}
use Rattle.node_rules.proofs.Whole.{first-whole}
use Rattle.node_rules.proofs.Flights.{Air, turned_air, Flies, Sized, Shows, with_air, dids, each-link, Reaches, turned-shows}
use Rattle.node_rules.proofs.PairEvents.{own-happens, brings, goes-elsewhere}
use Rattle.node_rules.proofs.Linked.{Linked, turned-linked, linked-as}
use Rattle.node_rules.proofs.Telling.{after_events, events_told}
use Rattle.node_rules.proofs.Acts.{event_of, air_after_all, air_given, told-stays}
use Rattle.node_rules.proofs.Walk.{happened_all, handed-happened, happened-exchange, acts-reach, frame-reaches}
use Rattle.node_rules.proofs.Associating.{Went, goes, may-come}
use Rattle.node_rules.proofs.Sending.{sends}

-- ---- two nodes and a pair

pub record Meets (near far : Make) (f : AreFacing near.configuration far.configuration) (w : World) (p : PairState) : Type 0 where
  pub air : ℕ → ℕ → Air
  pub shows : Shows near.configuration far.configuration f w.near.books w.far.books air p
  pub linked : (k j : ℕ) → Ends near.configuration far.configuration f k j
      → Linked k j (near.endpoints k) (far.endpoints j) (w.near.ports k) (w.far.ports j) w.near.books.exchange w.far.books.exchange (air k j)

abbrev pub turned_pair : PairState → PairState
turned_pair p = record { near = p.far; far = p.near }

-- the two, seen from the far node
abbrev pub back : (near far : Make) → AreFacing near.configuration far.configuration → AreFacing far.configuration near.configuration
back near far f = facing_back near.configuration far.configuration f

pub turned-meets : (near far : Make) (f : AreFacing near.configuration far.configuration) (w : World) (p : PairState) → Meets near far f w p
    → Meets far near (back near far f) (turned w) (turned_pair p)
turned-meets near far f w p h = record {
  air = λ j k. turned_air (h.air k j);
  shows = turned-shows near.configuration far.configuration f w.near.books w.far.books h.air p h.shows;
  linked = λ j k e.
      turned-linked k j (near.endpoints k) (far.endpoints j) (w.near.ports k) (w.far.ports j) w.near.books.exchange w.far.books.exchange (h.air k j)
      (h.linked k j (turned-ends far.configuration near.configuration (back near far f) j k e));
}

-- with what is in the air of a link, nothing changes
shows-on : (c z : Configuration) (f : AreFacing c z) (near far : Books) (air : ℕ → ℕ → Air) (k j : ℕ) → Ends c z f k j → (p : PairState) → Shows c z f near far air p
    → Shows c z f near far (with_air k (air k j) air) p
shows-on c z f near far air k j e p h = record {
  near_settings = h.near_settings;
  far_settings = h.far_settings;
  near_has = h.near_has;
  far_has = h.far_has;
  near_sized = h.near_sized;
  far_sized = h.far_sized;
  to_near = each-link c z f (λ (i o : ℕ) (x : Air). Flies i p.near.incoming p.near.following x.to_near x.near_follows) k j e (air k j) air (h.to_near k j e) (λ i o l d. h.to_near i o l);
  to_far = each-link c z f (λ (i o : ℕ) (x : Air). Flies o p.far.incoming p.far.following x.to_far x.far_follows) k j e (air k j) air (h.to_far k j e) (λ i o l d. h.to_far i o l);
  whole = h.whole;
}

-- ---- one link goes on, and the others stay

abbrev port-at : ℕ → Port → (ℕ → Port) → ℕ → Port
port-at k port ports = λ j. if nat_eq j k then port else ports j

-- by steps of the near end
pub record Reached (near far : Make) (f : AreFacing near.configuration far.configuration) (w : World) (p : PairState) : Type 0 where
  pub list : List neighbours.Doing
  pub meets : Meets near far f w (dids list p)

module _ (near far : Make) (f : AreFacing near.configuration far.configuration) where
  abbrev c : Configuration
  c = near.configuration

  abbrev z : Configuration
  z = far.configuration

  -- the port of one link changes with what is in the air there
  each-port : (P : ℕ → ℕ → Port → Air → Type 0) (k j : ℕ) (e : Ends c z f k j) (port : Port) (ports : ℕ → Port) (x : Air) (air : ℕ → ℕ → Air) → P k j port x
      → ((i o : ℕ) → Ends c z f i o → i ≢ k → P i o (ports i) (air i o)) → (i o : ℕ) → Ends c z f i o → P i o (port-at k port ports i) (with_air k x air i o)
  each-port P k j e port ports x air h g =
      each-link c z f (λ (i o : ℕ) (y : Air). P i o (port-at k port ports i) y) k j e x air
      (subst (λ (q : Port). P k j q x) (sym (ap (λ (b : Bool). if b then port else ports k) (same k))) h)
      (λ i o l d. subst (λ (q : Port). P i o q (air i o)) (sym (ap (λ (b : Bool). if b then port else ports i) (unlike i k d))) (g i o l d)) where
        same : (n : ℕ) → nat_eq n n ≡ true
        same n = grind (arith, nat_tests)

        unlike : (m n : ℕ) → m ≢ n → nat_eq m n ≡ false
        unlike m n d = grind (arith, nat_tests, d)

  module _ (w : World) (p : PairState) (h : Meets near far f w p) where
    one-goes : (k j : ℕ) (e : Ends c z f k j) (port : Port) (books : Books) (x : Air)
        → Linked k j (near.endpoints k) (far.endpoints j) port (w.far.ports j) books.exchange w.far.books.exchange x
        → (Shows c z f w.near.books w.far.books (with_air k (h.air k j) h.air) p → Reaches c z f books w.far.books (with_air k x h.air) p)
        → ((i : ℕ) → k ≢ i → MayOpen i w.near.books.exchange.node.parts → MayOpen i books.exchange.node.parts)
        → Reached near far f (record w { near = record { books = books; ports = port-at k port w.near.ports } }) p
    one-goes k j e port books x linked reaches stay =
        let r : Reaches c z f books w.far.books (with_air k x h.air) p =
        reaches (shows-on c z f w.near.books w.far.books h.air k j e p h.shows) in
        record {
          list = r.list;
          meets = record {
            air = with_air k x h.air;
            shows = r.shows;
            linked = each-port (λ (i o : ℕ) (q : Port) (y : Air). Linked i o (near.endpoints i) (far.endpoints o) q (w.far.ports o) books.exchange w.far.books.exchange y) k j e port w.near.ports x h.air
                linked
                (λ i o l d. linked-as i o (near.endpoints i) (far.endpoints o) (w.near.ports i) (w.far.ports o) w.near.books.exchange books.exchange w.far.books.exchange (h.air i o) (stay i (λ q. d (sym q))) (h.linked i o l));
          };
        }

    -- what happens on no link between the two
    none-goes : (books : Books) → Reaches c z f books w.far.books h.air p
        → ((i o : ℕ) → Ends c z f i o → MayOpen i w.near.books.exchange.node.parts → MayOpen i books.exchange.node.parts)
        → Reached near far f (record w { near = record w.near { books = books } }) p
    none-goes books r stay = record {
      list = r.list;
      meets = record {
        air = h.air;
        shows = r.shows;
        linked = λ i o l. linked-as i o (near.endpoints i) (far.endpoints o) (w.near.ports i) (w.far.ports o) w.near.books.exchange books.exchange w.far.books.exchange (h.air i o) (stay i o l) (h.linked i o l);
      };
    }

    -- ---- a step of the near node

    module _ (good : (link : ℕ) → AreGood (near.endpoints link).secrets) where
      sends-if : (k j : ℕ) → Ends c z f k j → (o : Option FrameValue) → frame_to_take whole w.near.books.exchange k ≡ o → worlds.CanGo k w.near
          → Reached near far f (record w { near = sent near k o w.near }) p
      sends-if k j l None e can = record { list = []; meets = h }
      sends-if k j l (Some frame) e can =
          let b : Books = w.near.books in
          one-goes k j l (associated near k (endpoint.Sends (worlds.message_of (spelled frame))) w.near) (record b { exchange = taken whole b.exchange k }) (air_given frame (h.air k j))
          (sends k j (near.endpoints k) (far.endpoints j) (good k) (w.near.ports k) (w.far.ports j) b.exchange w.far.books.exchange (h.air k j) (h.linked k j l) frame e (can frame e)
          (λ m. (takes-stay b.exchange.settings k k b.exchange.node).stay m))
          (λ y. frame-reaches c z f k j l w.far.books h.air frame b (h.air k j) p e y)
          (λ i d m. (takes-stay b.exchange.settings i k b.exchange.node).stay m)

      -- what an endpoint told is handed in
      told-goes : (k j : ℕ) (l : Ends c z f k j) (port : Port) (ts : List Told)
          → Went k j (near.endpoints k) (far.endpoints j) port (w.far.ports j) w.near.books.exchange w.far.books.exchange ts (h.air k j)
          → Reached near far f (record w { near = record { books = handed_all k ts w.near.books; ports = port-at k port w.near.ports } }) p
      told-goes k j l port ts went =
          let b : Books = w.near.books in
          let x : Air = air_after_all went.acts (h.air k j) in
          let same : happened_all (map (event_of k) went.acts) b ≡ handed_all k ts b =
          ap (λ (es : List Happening). happened_all es b) went.told ∙ sym (handed-happened k ts b) in
          let exchange : after_events (events_told k ts) b.exchange ≡ (handed_all k ts b).exchange =
          sym (ap (λ (v : Books). v.exchange) (handed-happened k ts b) ∙ happened-exchange (events_told k ts) b) in
          one-goes k j l port (handed_all k ts b) x
          (subst (λ (v : Abstract). Linked k j (near.endpoints k) (far.endpoints j) port (w.far.ports j) v w.far.books.exchange x) exchange went.linked)
          (λ y. subst (λ (v : Books). Reaches c z f v w.far.books (with_air k x h.air) p) same (acts-reach c z f k j l w.far.books h.air went.acts b (h.air k j) p went.may y))
          (λ i d m. subst (λ (v : Abstract). MayOpen i v.node.parts) exchange (told-stays i k d ts b.exchange m))

      brings-it : (what : Happening) → MayBring c z what → Reached near far f (record w { near = record w.near { books = happened_elsewhere what w.near.books } }) p
      brings-it what may =
          none-goes (happened_elsewhere what w.near.books) (brings c z f w.near.books w.far.books h.air p h.shows what may)
          (λ i o l m. (events-stay w.near.books.exchange.settings i what w.near.books.exchange.node (λ link of q. elsewhere-of what may i o l link of q)).stay m)
        where
          elsewhere-of : (what : Happening) → MayBring c z what → (i o : ℕ) → Ends c z f i o → (link : ℕ) → IsOf what link → link ≢ i
          elsewhere-of (CameUp k) may i o l link of q = not-away c z f i o k l may (sym of ∙ q)
          elsewhere-of (FrameCame k text) may i o l link of q = not-away c z f i o k l may.0 (sym of ∙ q)
          elsewhere-of (WentDown k) may i o l link of q = of
          elsewhere-of Ticked may i o l link of q = may
          elsewhere-of (Submitted m) may i o l link of q = may
          elsewhere-of (Activated its emergency) may i o l link of q = may
          elsewhere-of (Deactivated its) may i o l link of q = may
          elsewhere-of (Released its) may i o l link of q = may
          elsewhere-of (TitleAdded row refused) may i o l link of q = may
          elsewhere-of (TitleSet row refused) may i o l link of q = may
          elsewhere-of (TitleRemoved key digits) may i o l link of q = may

      leaves-it : (k : ℕ) → worlds.LeadsElsewhere c z k
          → Reached near far f (record w { near = record w.near { books = left_by k (frame_to_take whole w.near.books.exchange k) w.near.books } }) p
      leaves-it k may =
          none-goes (left_by k (frame_to_take whole w.near.books.exchange k) w.near.books) (goes-elsewhere c z f w.near.books w.far.books h.air p h.shows k may)
          (λ i o l m. by i (frame_to_take whole w.near.books.exchange k) m)
        where
          by : (i : ℕ) (frame : Option FrameValue) → MayOpen i w.near.books.exchange.node.parts → MayOpen i (left_by k frame w.near.books).exchange.node.parts
          by i None m = m
          by i (Some frame) m = (takes-stay w.near.books.exchange.settings i k w.near.books.exchange.node).stay m

      pub near-step : (what : Doing) → MayDo c z w.far what w.near → Reached near far f (record w { near = worlds.did near what w.near }) p
      near-step (Happens what) may =
          let b : Books = w.near.books in
          none-goes (happened what b) (own-happens c z f b w.far.books h.air p h.shows what may)
          (λ i o l m. (events-stay b.exchange.settings i what b.exchange.node (own-of what i may)).stay m)
      near-step (Associates k what) may =
          let l : Ends c z f k may.0.there = ends-of c z f k may.0.there may.0.is in
          told-goes k may.0.there l (associated near k what w.near) (told_by near k what w.near)
          (goes k may.0.there (near.endpoints k) (far.endpoints may.0.there) (good k) (w.near.ports k) (w.far.ports may.0.there) w.near.books.exchange w.far.books.exchange (h.air k may.0.there) (h.linked k may.0.there l) what
          (may-come (w.far.ports may.0.there).site w.near k what may.1))
      near-step (Sends k) may =
          sends-if k may.0.there (ends-of c z f k may.0.there may.0.is) (frame_to_take whole w.near.books.exchange k) refl may.1
      near-step (Brings what) may = brings-it what may
      near-step (Leaves k) may = leaves-it k may

-- ---- steps of a pair

near-steps : (list : List neighbours.Doing) (p : PairState) → after_steps (map AtNear list) p ≡ dids list p
near-steps [] p = refl
near-steps (what ∷ list) p = near-steps list (did what p).left

far-steps : (list : List neighbours.Doing) (p : PairState) → after_steps (map AtFar list) p ≡ turned_pair (dids list (turned_pair p))
far-steps [] p = refl
far-steps (what ∷ list) p = far-steps list (turned_pair (did what (turned_pair p)).left)

steps-append : (list more : List Step) (p : PairState) → after_steps (list ++ more) p ≡ after_steps more (after_steps list p)
steps-append [] more p = refl
steps-append (step ∷ list) more p = steps-append list more (turn step p).left

-- from the first on
pub record IsRun (near far : Make) (f : AreFacing near.configuration far.configuration) (w : World) : Type 0 where
  pub steps : List Step
  pub meets : Meets near far f w (after_steps steps (first_pair near.configuration far.configuration))

module _ (near far : Make) (f : AreFacing near.configuration far.configuration) where
  abbrev first : PairState
  first = first_pair near.configuration far.configuration

  goes-on : (w v : World) (r : IsRun near far f w) → (more : List Step) → Meets near far f v (after_steps more (after_steps r.steps first)) → IsRun near far f v
  goes-on w v r more m = record { steps = r.steps ++ more; meets = subst (Meets near far f v) (sym (steps-append r.steps more first)) m }

  near-runs : (w v : World) (r : IsRun near far f w) → Reached near far f v (after_steps r.steps first) → IsRun near far f v
  near-runs w v r q =
      goes-on w v r (map AtNear q.list) (subst (Meets near far f v) (sym (near-steps q.list (after_steps r.steps first))) q.meets)

  far-runs : (w v : World) (r : IsRun near far f w) → Reached far near (back near far f) (turned v) (turned_pair (after_steps r.steps first)) → IsRun near far f v
  far-runs w v r q =
      goes-on w v r (map AtFar q.list)
      (subst (Meets near far f v) (sym (far-steps q.list (after_steps r.steps first)))
      (turned-meets far near (back near far f) (turned v) (dids q.list (turned_pair (after_steps r.steps first))) q.meets))

  module _ (near-good : (link : ℕ) → AreGood (near.endpoints link).secrets) (far-good : (link : ℕ) → AreGood (far.endpoints link).secrets) where
    pub one-step : (w v : World) → worlds.Step near far w v → IsRun near far f w → IsRun near far f v
    one-step w v (at_near what may is) r =
        near-runs w v r
        (subst (λ (u : World). Reached near far f u (after_steps r.steps first)) (sym is)
        (near-step near far f w (after_steps r.steps first) r.meets near-good what may))
    one-step w v (at_far what may is) r =
        far-runs w v r
        (subst (λ (u : World). Reached far near (back near far f) (turned u) (turned_pair (after_steps r.steps first))) (sym is)
        (near-step far near (back near far f) (turned w) (turned_pair (after_steps r.steps first))
        (turned-meets near far f w (after_steps r.steps first) r.meets) far-good what may))

    all-steps : (list : List World) (w : World) → Steps near far w list → IsRun near far f w → IsRun near far f (last_world w list)
    all-steps [] w m r = r
    all-steps (v ∷ list) w m r = all-steps list v m.1 (one-step w v m.0 r)

-- ---- the first

pub none-flies : (n k : ℕ) → Flies k (pairs.nothing_in_flight n) (replicate n false) [] false
none-flies n k = record {
  statuses = each-replicate (λ (xs : List (List ℕ)). xs ≡ []) n k [] refl;
  user_data = each-replicate (λ (xs : List (List ℕ)). xs ≡ []) n k [] refl;
  may = each-replicate (λ (b : Bool). b ≡ false) n k false refl;
}

pub sized : (n : ℕ) → Sized n (pairs.nothing_in_flight n) (replicate n false)
sized n = record { statuses = length-replicate n []; user_data = length-replicate n []; may = length-replicate n false }

abbrev no-air : Air
no-air = record { to_near = []; to_far = []; near_follows = false; far_follows = false }

-- no endpoint has done anything
pub first-linked : (k j : ℕ) (m o : ends.Make) (near far : Abstract) → Linked k j m o (worlds.new_port m) (worlds.new_port o) near far no-air
first-linked k j m o near far = record {
  x = new_end;
  y = new_end;
  sound = sound-first;
  near_shown = new-shown m.secrets o.secrets m.settings;
  far_shown = new-shown o.secrets m.secrets o.settings;
  standing = Neither;
  stands = record { none = refl; far_none = refl };
  near_right = none-right;
  far_right = none-right;
  near_fits = (refl, refl);
  far_fits = (refl, refl);
  air_is = refl;
  near_framed = tt;
  far_framed = tt;
  near_ready = λ r. absurd r.echoed;
  far_ready = λ r. absurd r.echoed;
  near_seeks = λ e. let no : Idle ≡ Seeking = e in absurd cc;
  far_seeks = λ e. let no : Idle ≡ Seeking = e in absurd cc;
}

first-runs : (near far : Make) (f : AreFacing near.configuration far.configuration) → IsRun near far f (new_world near far)
first-runs near far f = record {
  steps = [];
  meets = record {
    air = λ k j. no-air;
    shows = record {
      near_settings = refl;
      far_settings = refl;
      near_has = record { exchange = refl; accepted = refl; received = refl };
      far_has = record { exchange = refl; accepted = refl; received = refl };
      near_sized = sized (length near.configuration.links);
      far_sized = sized (length far.configuration.links);
      to_near = λ k j e. none-flies (length near.configuration.links) k;
      to_far = λ k j e. none-flies (length far.configuration.links) j;
      whole = λ g.
          first-whole near.configuration far.configuration (new_world near far).near.books (new_world near far).far.books
          (record { near_accepted = refl; near_received = refl; far_accepted = refl; far_received = refl });
    };
    linked = λ k j e. first-linked k j (near.endpoints k) (far.endpoints j) (new_world near far).near.books.exchange (new_world near far).far.books.exchange;
  };
}

-- ---- runs

abbrev pub facing : (near far : Make) → AreNeighbours near far → AreFacing near.configuration far.configuration
facing near far n = are-facing near.configuration far.configuration n.sharing

pub all-run : (near far : Make) (n : AreNeighbours near far) (list : List World) → Steps near far (new_world near far) list
    → IsRun near far (facing near far n) (last_world (new_world near far) list)
all-run near far n list m =
    all-steps near far (facing near far n) n.near_good n.far_good list (new_world near far) m (first-runs near far (facing near far n))

pub are-runs : runs_are_runs_of_pairs
are-runs near far n list m =
    let r : IsRun near far (facing near far n) (last_world (new_world near far) list) = all-run near far n list m in
    record { steps = r.steps; near_is = r.meets.shows.near_has; far_is = r.meets.shows.far_has }
