-- A link opens at one end, between the two nodes by one move, or elsewhere by none.
use Rattle.pair_rules.proofs.Basics.{◌≡◌, ◌≢◌, ◌<◌, arith, nat_tests, ◌&&◌, ℕ, Bool, true, false, List, [], length, map, Option, None, refl, ap, sym, subst, ◌∙◌, nat_eq, nat_lt, if◌then◌else◌, option_and_then, option_map, ⊎_elim, cases_eq}
use Rattle.pair_rules.proofs.Definitions.{period_of, SELECTIONS, Message, Flow, Configuration, FrameValue, Queue, first_queue, destination_place, set_of, Standing, no_changeover, may_restart, Link, down_link, is_down, opened_by, Facts, chosen_link, Node, link_at, WholeQueues, queue_at, whole, Handled, answer, refuse, is_link, may_open, association_up, changeover_of, open_link, Fits, fit-steps, each-set, LinkEnd, Line, MayOpen}
use Rattle.signalling_types.specs.declared.cause.Cause.TheVariants as causes
use Rattle.exchange_rules.specs.Opening.{begun}
use Rattle.pair_moves.specs.Ends as ends
use Rattle.pair_moves.specs.Moves as moves
use Rattle.pair_moves.specs.Returning.{opened_first, opened_second}
use Rattle.pair_moves.specs.Sayings.{Other}
use Rattle.pair_rules.proofs.World.{Flying, World, end_of, frame_of}
use Rattle.pair_rules.proofs.Good.{Each, IsSilent}
use Rattle.pair_rules.proofs.Going.{Goes, goes-one, goes-same}
use Rattle.pair_rules.proofs.Lines.{link-other, queue-here, queue-other}
use Rattle.pair_rules.proofs.Opening.{MayComeUp, listed, may_open-end, opened-here, opened-known, opened-other, opened_near}
use Rattle.neighbour_rules.proofs.World.{code_of, holds_of, line_of, link_at_code, reading, route_of, says_of, shown}
use Rattle.neighbour_rules.proofs.Good.{AreFlying, Good, IsSent, Joint, Passes, at, passes-both, passes-none, set}
use Rattle.neighbour_rules.proofs.Falling.{holds-by}
use Rattle.neighbour_rules.proofs.FarEnds.{IsLine, far-own, line-becomes, line_at, near-own}
use Rattle.neighbour_rules.proofs.Lines.{at-line, none-becomes}
use Rattle.neighbour_rules.proofs.Unseen.{IsUnseen, own, unseen-passes}

restarts-settled : (s : Standing) → may_restart s ≡ true → s ≡ no_changeover
restarts-settled s e = by s.incomplete s.awaited e
  where
    by : (a b : Bool) → may_restart (record { incomplete = a; awaited = b }) ≡ true → record { incomplete = a; awaited = b } ≡ no_changeover
    by true b f = absurd cc
    by false true f = absurd cc
    by false false f = refl

complete : (s : Standing) → may_restart s ≡ true → s.incomplete ≡ false
complete s e = by s.incomplete s.awaited e
  where
    by : (a b : Bool) → may_restart (record { incomplete = a; awaited = b }) ≡ true → a ≡ false
    by true b f = absurd cc
    by false b f = refl

module _ (c z : Configuration) (j : Joint c z) (w : World) (link : ℕ) (m : MayComeUp w.near.node.parts link) where
  abbrev n : Node WholeQueues
  n = w.near.node

  abbrev o : Node WholeQueues
  o = open_link whole c link n

  -- flows take the lines that they took
  abbrev route_by : Facts → Flow → Option ℕ
  route_by f flow =
      if nat_eq flow.point j.base.there && nat_lt flow.sls SELECTIONS
      then option_map (code_of c) (option_and_then (λ (d : ℕ). chosen_link f d flow.sls) (destination_place c flow.point))
      else None

  route-same : route_of c j.base.there (set c z j) o.parts ≡ route_of c j.base.there (set c z j) n.parts
  route-same = ap (λ (f : Facts). route_by f) (opened-known c z n link m)

  holds-same : (procedure : ends.Procedure) (flow : Flow) → holds_of c j.base.there (set c z j) o.parts procedure flow ≡ holds_of c j.base.there (set c z j) n.parts procedure flow
  holds-same procedure flow = holds-by c z j o.parts procedure flow ∙ sym (holds-by c z j n.parts procedure flow)

  elsewhere-still : Good c z j w → (other : ℕ) → set_of c other ≢ set c z j → Each (λ (x : Message). says_of c.own z.own j.base.there x ≡ Other) (queue_at o.queues other).all
  elsewhere-still h other apart =
      ⊎_elim
      (λ (same : other ≡ link).
      subst (λ (k : ℕ). Each (λ (x : Message). says_of c.own z.own j.base.there x ≡ Other) (queue_at o.queues k).all) (sym same)
      (subst (λ (q : Queue). Each (λ (x : Message). says_of c.own z.own j.base.there x ≡ Other) q.all) (sym (queue-here c z n link first_queue h.fits (listed c z n link m h.fits))) tt))
      (λ (d : other ≢ link).
      subst (λ (q : Queue). Each (λ (x : Message). says_of c.own z.own j.base.there x ≡ Other) q.all) (sym (queue-other c z n.queues link other first_queue d)) (h.elsewhere other apart))
      (cases_eq other link)

  -- the node is good in any world
  module _ (near_may far_may : ℕ → Bool) (g f : Flying) where
    abbrev pub after_opening : World
    after_opening = opened_near c w link near_may far_may g f

    pub opened-good : AreFlying z c j.base.back j.shares.far_set g → Good c z j w → Good c z j after_opening
    opened-good coming h = record {
      fits = ((fit-steps c).opened link n tt m.there m.opens m.restarts).stay h.fits;
      route = h.route;
      settled = λ other up.
          ⊎_elim
          (λ (same : other ≡ link). subst (λ (k : ℕ). changeover_of n.parts k ≡ no_changeover) (sym same) (restarts-settled (changeover_of n.parts link) m.restarts))
          (λ (d : other ≢ link).
          h.settled other (ap (λ (x : Link). is_down x.alignment) (sym (link-other c z n.parts link other (opened_by c (period_of c link n.parts) (link_at n.parts link)) d)) ∙ up))
          (cases_eq other link);
      silent = λ other. each-set (λ (x : Link). IsSilent x) n.parts.links link other (opened_by c (period_of c link n.parts) (link_at n.parts link)) down_link h.silent
          (λ gone. (let no : true ≡ false = sym gone in absurd cc));
      queued = λ other. each-set (λ (q : Queue). Each (IsSent c z j.base.there (set c z j)) q.all) n.queues.links link other first_queue first_queue h.queued tt;
      elsewhere = elsewhere-still h;
      held = h.held;
      loose = h.loose;
      arrived = h.arrived;
      coming = coming;
      counted = h.counted;
    }

    abbrev line_with : LinkEnd → LinkEnd → List FrameValue → List FrameValue → List FrameValue → List FrameValue → Bool → Bool → Line
    line_with x y to_far to_near told_far told_near near far = record {
      near = x;
      far = y;
      to_far = map frame_of to_far;
      to_near = map frame_of to_near;
      told_far = length told_far;
      told_near = length told_near;
      near_may_follow = near;
      far_may_follow = far;
    }

    seven : {x a y : LinkEnd} {s i t k h l c d : List FrameValue} {n o v b : Bool} → x ≡ a → s ≡ i → t ≡ k → h ≡ l → c ≡ d → n ≡ o → v ≡ b → line_with x y s t h c n v ≡ line_with a y i k l d o b
    seven {y = y} p r u h t q e = λ i. line_with (p i) y (r i) (u i) (h i) (t i) (q i) (e i)

    routed : shown c z (set c z j) j.shares.far_set j.base after_opening ≡ record (shown c z (set c z j) j.shares.far_set j.base w) { line = line_of c z (set c z j) j.shares.far_set after_opening }
    routed = λ i. record (shown c z (set c z j) j.shares.far_set j.base w) {
      line = line_of c z (set c z j) j.shares.far_set after_opening;
      near = record (shown c z (set c z j) j.shares.far_set j.base w).near { route = route-same i; holds = λ procedure flow. holds-same procedure flow i };
    }

    -- ---- a link between the two

    module _ (other : ℕ) (e : IsLine c z j link other) where
      near-may : MayOpen (end_of n (link_at_code c (set c z j) (code_of c link)))
      near-may = subst (λ (k : ℕ). MayOpen (end_of n k)) (sym (near-own c z j link other e)) (may_open-end c z n link m)

      -- it is the first to open: nothing is in flight then
      pub record IsFirst : Type 0 where
        pub near_here : g.user_data link ≡ []
        pub far_here : f.user_data other ≡ []
        pub near_told : g.statuses link ≡ []
        pub far_told : f.statuses other ≡ []
        pub near_follows : near_may link ≡ false
        pub far_follows : far_may other ≡ true

      -- all other links are as they were
      pub record AreOthers : Type 0 where
        pub to_near : (k : ℕ) → k ≢ link → g.user_data k ≡ w.to_near.user_data k
        pub to_far : (k : ℕ) → k ≢ other → f.user_data k ≡ w.to_far.user_data k
        pub told_near : (k : ℕ) → k ≢ link → g.statuses k ≡ w.to_near.statuses k
        pub told_far : (k : ℕ) → k ≢ other → f.statuses k ≡ w.to_far.statuses k
        pub near_follows : (k : ℕ) → k ≢ link → near_may k ≡ w.near_may k
        pub far_follows : (k : ℕ) → k ≢ other → far_may k ≡ w.far_may k

      others-still : AreOthers → (k i : ℕ) → k ≢ link → i ≢ other → line_at after_opening k i ≡ line_at w k i
      others-still s k i d t =
          seven (opened-other c z n link m k d) (s.to_far i t) (s.to_near k d) (s.told_far i t) (s.told_near k d) (s.near_follows k d) (s.far_follows i t)

      pub first-goes : IsFirst → AreOthers → MayOpen (end_of w.far.node other) → Good c z j w
          → Goes (reading c.own z.own j.base) (shown c z (set c z j) j.shares.far_set j.base w) (shown c z (set c z j) j.shares.far_set j.base after_opening)
      first-goes i s far h =
          goes-one (reading c.own z.own j.base) (shown c z (set c z j) j.shares.far_set j.base w) (shown c z (set c z j) j.shares.far_set j.base after_opening)
          (moves.opens_first (record {
            link = code_of c link;
            near_may = near-may;
            far_may = subst (λ (k : ℕ). MayOpen (end_of w.far.node k)) (sym (far-own c z j link other e)) far;
            lines = line_of c z (set c z j) j.shares.far_set after_opening;
            set = line-becomes c z j after_opening w (route_of c j.base.there (set c z j) n.parts) link other opened_first e
                (seven (opened-here c z n link m h.fits) i.far_here i.near_here i.far_told i.near_told i.near_follows i.far_follows) (others-still s);
            after = routed;
          }))

      -- it follows the other
      pub record IsSecond : Type 0 where
        pub followed : w.near_may link ≡ true
        pub near_here : g.user_data link ≡ w.to_near.user_data link
        pub far_here : f.user_data other ≡ w.to_far.user_data other
        pub near_told : g.statuses link ≡ w.to_near.statuses link
        pub far_told : f.statuses other ≡ w.to_far.statuses other
        pub near_follows : near_may link ≡ false
        pub far_follows : far_may other ≡ w.far_may other

      pub second-goes : IsSecond → AreOthers → Good c z j w
          → Goes (reading c.own z.own j.base) (shown c z (set c z j) j.shares.far_set j.base w) (shown c z (set c z j) j.shares.far_set j.base after_opening)
      second-goes i s h =
          goes-one (reading c.own z.own j.base) (shown c z (set c z j) j.shares.far_set j.base w) (shown c z (set c z j) j.shares.far_set j.base after_opening)
          (moves.opens_second (record {
            link = code_of c link;
            follows = ap w.near_may (near-own c z j link other e) ∙ i.followed;
            near_may = near-may;
            lines = line_of c z (set c z j) j.shares.far_set after_opening;
            set = line-becomes c z j after_opening w (route_of c j.base.there (set c z j) n.parts) link other opened_second e
                (seven (opened-here c z n link m h.fits) i.far_here i.near_here i.far_told i.near_told i.near_follows i.far_follows) (others-still s);
            after = routed;
          }))

-- ---- a link that leads elsewhere

module _ (c z : Configuration) (j : Joint c z) (w : World) (n : Node WholeQueues) (link : ℕ) (apart : set_of c link ≢ set c z j) where
  abbrev x : Link
  x = opened_by c (period_of c link n.parts) (link_at n.parts link)

  -- it begins to align, and then its queue is a new one
  abbrev aligning : Node WholeQueues
  aligning = record n { parts = begun c link n.parts }

  abbrev anew : Node WholeQueues
  anew = open_link whole c link n

  is-below : (a b : ℕ) → nat_lt a b ≡ true → a < b
  is-below a b h = grind (arith, nat_tests, h)

  its-place : Fits c n → is_link n.parts link ≡ true → link < length c.links
  its-place f there = subst (λ (k : ℕ). link < k) f.places.parts.links (is-below link (length n.parts.links) there)

  own-apart : (code : ℕ) → link < length c.links → own c z j code ≢ link
  own-apart code l e = apart (at-line c j.near_well (set c z j) link code l e).of_set

  module _ (there : is_link n.parts link ≡ true) (opens : may_open (link_at n.parts link) ≡ true) (restarts : may_restart (changeover_of n.parts link) ≡ true) where
    fits-anew : Fits c n → Fits c anew
    fits-anew f = ((fit-steps c).opened link n tt there opens restarts).stay f

    aligning-unseen : link < length c.links → IsUnseen c z j n aligning
    aligning-unseen l = record {
      fits = record {
        stay = λ f.
            let g : Fits c anew = fits-anew f in
            record { places = record { parts = g.places.parts; queues = f.places.queues; timers = g.places.timers }; queues = f.queues };
      };
      queues = refl;
      alignments = λ code. ap (λ (y : Link). y.alignment) (link-other c z n.parts link (own c z j code) x (own-apart code l));
      untested = λ code. ap (λ (y : Link). y.untested) (link-other c z n.parts link (own c z j code) x (own-apart code l));
      standings = λ code. refl;
      holds = λ procedure sls. refl;
      codes = λ code. refl;
      lost = refl;
      late = refl;
      route = λ e. e;
      settled = λ h other up.
          ⊎_elim
          (λ (same : other ≡ link). subst (λ (k : ℕ). changeover_of n.parts k ≡ no_changeover) (sym same) (restarts-settled (changeover_of n.parts link) restarts))
          (λ (d : other ≢ link). h other (ap (λ (y : Link). is_down y.alignment) (sym (link-other c z n.parts link other x d)) ∙ up))
          (cases_eq other link);
      silent = λ h other. each-set (λ (y : Link). IsSilent y) n.parts.links link other x down_link h (λ gone. (let no : true ≡ false = sym gone in absurd cc));
    }

    queue-anew : (P : Message → Type 0) → Fits c n → link < length c.links → (other : ℕ) → Each P (queue_at n.queues other).all → Each P (queue_at anew.queues other).all
    queue-anew P f l other e =
        ⊎_elim
        (λ (same : other ≡ link).
        subst (λ (k : ℕ). Each P (queue_at anew.queues k).all) (sym same) (subst (λ (q : Queue). Each P q.all) (sym (queue-here c z n link first_queue f l)) tt))
        (λ (d : other ≢ link). subst (λ (q : Queue). Each P q.all) (sym (queue-other c z n.queues link other first_queue d)) e)
        (cases_eq other link)

    queue-begins : link < length c.links → Fits c n → Passes c z j (at c z j w aligning [] []) (at c z j w anew [] [])
    queue-begins l f = record {
      goes = λ g.
          goes-same (reading c.own z.own j.base) _ _
          (sym (ap (λ (lines : ℕ → Line). record (shown c z (set c z j) j.shares.far_set j.base (at c z j w aligning [] [])) { line = lines })
          (none-becomes c z j (at c z j w aligning [] []) anew [] [] link l apart
          (λ other d. ap (λ (q : Queue). record (end_of aligning other) { queue = q }) (queue-other c z n.queues link other first_queue d)))));
      good = λ g. record {
        fits = fits-anew f;
        route = g.route;
        settled = g.settled;
        silent = g.silent;
        queued = λ other. queue-anew (IsSent c z j.base.there (set c z j)) f l other (g.queued other);
        elsewhere = λ other d. queue-anew (λ (y : Message). says_of c.own z.own j.base.there y ≡ Other) f l other (g.elsewhere other d);
        held = g.held;
        loose = tt;
        arrived = tt;
        coming = g.coming;
        counted = g.counted;
      };
    }

    away-opens : Passes c z j (at c z j w n [] []) (at c z j w anew [] [])
    away-opens = record { goes = λ g. (whole-passes g.fits).goes g; good = λ g. (whole-passes g.fits).good g }
      where
        whole-passes : Fits c n → Passes c z j (at c z j w n [] []) (at c z j w anew [] [])
        whole-passes f =
            passes-both c z j _ _ _ (unseen-passes c z j n aligning (aligning-unseen (its-place f there)) w [] []) (queue-begins (its-place f there) f)

  pub away-up : Passes c z j (at c z j w n [] []) (at c z j w (association_up whole c link n).left [] [])
  away-up = by (is_link n.parts link) (may_open (link_at n.parts link)) (may_restart (changeover_of n.parts link)) refl refl refl
    where
      by : (there opens restarts : Bool) → is_link n.parts link ≡ there → may_open (link_at n.parts link) ≡ opens → may_restart (changeover_of n.parts link) ≡ restarts
          → Passes c z j (at c z j w n [] [])
          (at c z j w
          (if there then (if opens then (if restarts then answer Handled (open_link whole c link n) else refuse causes.ChangeoverPending n) else refuse causes.LinkNotReady n) else refuse causes.NoSuchName n).left [] [])
      by true true true e f g = away-opens e f g
      by true true false e f g = passes-none c z j (at c z j w n [] [])
      by true false restarts e f g = passes-none c z j (at c z j w n [] [])
      by false opens restarts e f g = passes-none c z j (at c z j w n [] [])
