-- A link fails, between the two nodes or elsewhere, and an order goes out if another link of its set is left: by moves.
use Rattle.pair_rules.proofs.Basics.{◌≡◌, ◌≢◌, ◌<◌, ◌||◌, ℕ, Bool, true, false, not, List, [], length, Some, refl, ap, sym, subst, ◌∙◌, if◌then◌else◌, ⊎_elim, cases_eq}
use Rattle.pair_rules.proofs.Definitions.{is_down, Message, FailureReason, Flow, Configuration, failed, begun_by_peer, Standing, no_changeover, Link, after_failure, down_link, each-set, Node, Parts, with_parts, down, in_service, link_at, WholeQueues, queue_at, whole, begin, begin_by_peer, change_over, changeover_of, changeover_order, changing, fail, fail_by_peer, fail_link, has_other, is_ordered, make_unavailable, without_tests, peer_of, set_of, set_place, made-management, Fits, StaysFit, fit-steps, failing_by_peer-steps, fell-steps, timed_changeover-timed, with_failure}
use Rattle.signalling_types.specs.declared.notice.FailureReason.TheVariants as reasons
use Rattle.exchange_rules.specs.ChangingOver.{suspended}
use Rattle.exchange_rules.proofs.NamedLinks.{set-named}
use Rattle.exchange_rules.proofs.Onward.{link-set}
use Rattle.pair_moves.specs.Ends as ends
use Rattle.pair_moves.specs.Moves as moves
use Rattle.pair_rules.proofs.World.{World, end_of}
use Rattle.pair_rules.proofs.Good.{IsSilent}
use Rattle.pair_rules.proofs.Going.{goes-one}
use Rattle.pair_rules.proofs.Lines.{end_by, end-by, link-here, link-other, up-listed}
use Rattle.pair_rules.proofs.Routes.{failed-facts}
use Rattle.neighbour_rules.proofs.World.{code_of, holds_of, line_of, reading, route_of, shown}
use Rattle.neighbour_rules.proofs.Good.{Joint, Passes, at, passes-both, passes-good, set}
use Rattle.neighbour_rules.proofs.Lines.{becomes, own-line}
use Rattle.neighbour_rules.proofs.Made.{made-brief, adjacent-fits, past-other}
use Rattle.neighbour_rules.proofs.Messages.{making, send_routed-passes}
use Rattle.neighbour_rules.proofs.Routes.{route-stays}
use Rattle.neighbour_rules.proofs.Falling.{apart-elsewhere, falling, falling-elsewhere, falling_ordered, holds-alike, order_fits, order_word}
use Rattle.neighbour_rules.proofs.Unseen.{own, unseen-passes}

module _ (c z : Configuration) (j : Joint c z) where
  -- a link of another set leads to another point
  pub other-peer : (link : ℕ) → set_of c link ≢ set c z j → peer_of c link ≢ z.own
  other-peer link d e =
      let same : Some (set_of c link) ≡ Some (set c z j) =
      sym (set-named c j.near_well (set_of c link) (link-set c j.near_well link)) ∙ ap (set_place c) e ∙ j.shares.near_leads.adjacent in
      d (let it : set_of c link ≡ set c z j = cc in it)

  -- ---- the rules

  abbrev gone : (last : Bool) → (link : ℕ) → FailureReason → Node WholeQueues → Node WholeQueues
  gone last link why n =
      let failed : Parts = fail_link link why (suspended c link (whole.unconfirmed n.queues link) n.parts) in
      with_parts n (if last then failed else without_tests (set_of c link) failed)

  module _ (w : World) (n : Node WholeQueues) (arrived : List Message) (link : ℕ) (why : FailureReason) (serves : in_service n.parts link ≡ true) (up : down n.parts link ≡ false) where
    -- ---- between the two

    beginning : (last ordered : Bool) → set_of c link ≡ set c z j → StaysFit c n (with_parts (gone last link why n) (changing c ordered link (gone last link why n).parts))
        → Passes c z j (at c z j w n arrived []) (at c z j w (begin whole c ordered link (gone last link why n)) arrived [])
    beginning true false its stay =
        falling c z j w n arrived [] link why (failed false (changeover_of n.parts link)) _ its serves up refl (λ u g. sym (ap (λ (x : Standing). x.awaited) (g.settled link u))) stay
    beginning false false its stay =
        falling c z j w n arrived [] link why (failed false (changeover_of n.parts link)) _ its serves up refl (λ u g. sym (ap (λ (x : Standing). x.awaited) (g.settled link u))) stay
    beginning true true its stay =
        let m : Message = changeover_order c link (whole.last_accepted n.queues link) in
        passes-both c z j _ _ _
        (falling_ordered c z j w n arrived link why (failed true (changeover_of n.parts link)) _ its serves up refl refl stay m refl)
        (send_routed-passes c z j w _ arrived m [] (made-management c (peer_of c link) (order_word c z j link n)))
    beginning false true its stay =
        let m : Message = changeover_order c link (whole.last_accepted n.queues link) in
        passes-both c z j _ _ _
        (falling_ordered c z j w n arrived link why (failed true (changeover_of n.parts link)) _ its serves up refl refl stay m refl)
        (send_routed-passes c z j w _ arrived m [] (made-management c (peer_of c link) (order_word c z j link n)))

    by_peer : (last : Bool) → set_of c link ≡ set c z j → StaysFit c n (begin_by_peer whole c true link (gone last link why n))
        → Passes c z j (at c z j w n arrived []) (at c z j w (begin_by_peer whole c true link (gone last link why n)) arrived [])
    by_peer true its stay = falling c z j w n arrived [] link why (begun_by_peer (changeover_of n.parts link)) _ its serves up refl (λ u g. refl) stay
    by_peer false its stay = falling c z j w n arrived [] link why (begun_by_peer (changeover_of n.parts link)) _ its serves up refl (λ u g. refl) stay

    -- ---- elsewhere

    abbrev left : (last ordered : Bool) → Node WholeQueues
    left last ordered = with_parts (gone last link why n) (changing c ordered link (gone last link why n).parts)

    falls-past : (last ordered : Bool) → set_of c link ≢ set c z j → StaysFit c n (left last ordered)
        → Passes c z j (at c z j w n arrived []) (at c z j w (left last ordered) arrived [])
    falls-past true ordered d stay = passes-good c z j _ _ (λ g. falling-elsewhere c z j w n arrived [] link why (failed ordered (changeover_of n.parts link)) _ (up-listed c z n link g.fits up) d g.fits stay)
    falls-past false ordered d stay = passes-good c z j _ _ (λ g. falling-elsewhere c z j w n arrived [] link why (failed ordered (changeover_of n.parts link)) _ (up-listed c z n link g.fits up) d g.fits stay)

    beginning-elsewhere : (last ordered : Bool) → set_of c link ≢ set c z j → StaysFit c n (left last ordered)
        → Passes c z j (at c z j w n arrived []) (at c z j w (begin whole c ordered link (gone last link why n)) arrived [])
    beginning-elsewhere last false d stay = falls-past last false d stay
    beginning-elsewhere last true d stay =
        let m : Message = changeover_order c link (whole.last_accepted n.queues link) in
        passes-both c z j _ _ _ (falls-past last true d stay)
        (passes-both c z j _ _ _
        (making c z j w (left last true) arrived m [] (past-other c z j (peer_of c link) (order_word c z j link n) (adjacent-fits c j.near_well (set_of c link)) (order_fits c z j link n) (other-peer link d)) (made-brief c z j (peer_of c link) (order_word c z j link n)))
        (send_routed-passes c z j w (left last true) arrived m [] (made-management c (peer_of c link) (order_word c z j link n))))

    by_peer-elsewhere : (last : Bool) → set_of c link ≢ set c z j → StaysFit c n (begin_by_peer whole c true link (gone last link why n))
        → Passes c z j (at c z j w n arrived []) (at c z j w (begin_by_peer whole c true link (gone last link why n)) arrived [])
    by_peer-elsewhere true d stay = passes-good c z j _ _ (λ g. falling-elsewhere c z j w n arrived [] link why (begun_by_peer (changeover_of n.parts link)) _ (up-listed c z n link g.fits up) d g.fits stay)
    by_peer-elsewhere false d stay = passes-good c z j _ _ (λ g. falling-elsewhere c z j w n arrived [] link why (begun_by_peer (changeover_of n.parts link)) _ (up-listed c z n link g.fits up) d g.fits stay)

  -- ---- a link that wasn't in service yet

  abbrev dropped_node : Node WholeQueues → (link : ℕ) → FailureReason → Node WholeQueues
  dropped_node n link why = with_parts n (fail_link link why n.parts)

  module _ (w : World) (n : Node WholeQueues) (arrived : List Message) (link : ℕ) (why : FailureReason) (out : in_service n.parts link ≡ false) (up : down n.parts link ≡ false) where
    abbrev lost : Node WholeQueues
    lost = dropped_node n link why

    dropped-link : Fits c n → link < length c.links → link_at lost.parts link ≡ after_failure (link_at n.parts link)
    dropped-link f l = link-here c z n.parts link (after_failure (link_at n.parts link)) (subst (λ (k : ℕ). link < k) (sym f.places.parts.links) l)

    dropped-here : Fits c n → link < length c.links → set_of c link ≡ set c z j
        → end_of lost link ≡ (with_failure (line_of c z (set c z j) j.shares.far_set (at c z j w n arrived []) (code_of c link)) (changeover_of n.parts link).awaited).near
    dropped-here f l its =
        end-by c z n lost link (queue_at n.queues link) (after_failure (link_at n.parts link)) (changeover_of n.parts link) refl (dropped-link f l) refl
        ∙ ap (λ (b : Bool). end_by c z (queue_at n.queues link) (after_failure (link_at n.parts link)) (record (changeover_of n.parts link) { incomplete = b }))
        (ap (λ (b : Bool). b || (changeover_of n.parts link).incomplete) (sym out))
        ∙ ap (λ (k : ℕ). record (end_of n k) {
          up = false;
          serving = false;
          incomplete = in_service n.parts k || (changeover_of n.parts k).incomplete;
          awaited = (changeover_of n.parts link).awaited;
          heard = false;
        }) (sym (own-line c j.near_well (set c z j) link l its))

    dropped-other : (other : ℕ) → other ≢ link → end_of lost other ≡ end_of n other
    dropped-other other d =
        end-by c z n lost other (queue_at n.queues other) (link_at n.parts other) (changeover_of n.parts other) refl
        (link-other c z n.parts link other (after_failure (link_at n.parts link)) d) refl

    dropped-settled : Fits c n → link < length c.links → ((k : ℕ) → down n.parts k ≡ false → changeover_of n.parts k ≡ no_changeover)
        → (other : ℕ) → down lost.parts other ≡ false → changeover_of lost.parts other ≡ no_changeover
    dropped-settled f l h other u =
        ⊎_elim
        (λ (same : other ≡ link).
        let is : down lost.parts link ≡ true = ap (λ (x : Link). is_down x.alignment) (dropped-link f l) in
        let no : true ≡ false = sym (subst (λ (k : ℕ). down lost.parts k ≡ true) (sym same) is) ∙ u in
        absurd cc)
        (λ (d : other ≢ link). h other (ap (λ (x : Link). is_down x.alignment) (sym (link-other c z n.parts link other (after_failure (link_at n.parts link)) d)) ∙ u))
        (cases_eq other link)

    dropped-silent : ((other : ℕ) → IsSilent (link_at n.parts other)) → (other : ℕ) → IsSilent (link_at lost.parts other)
    dropped-silent h other = each-set (λ (x : Link). IsSilent x) n.parts.links link other (after_failure (link_at n.parts link)) down_link h (λ d. (refl, refl))

    same-holds : (procedure : ends.Procedure) (flow : Flow) → holds_of c j.base.there (set c z j) lost.parts procedure flow ≡ holds_of c j.base.there (set c z j) n.parts procedure flow
    same-holds procedure flow = ap (λ (h : ends.Procedure → Flow → Bool). h procedure flow) (holds-alike c z j n.parts lost.parts refl)

    dropped : set_of c link ≡ set c z j → Passes c z j (at c z j w n arrived []) (at c z j w lost arrived [])
    dropped its = record {
      goes = λ g.
          let l : link < length c.links = up-listed c z n link g.fits up in
          let mine : own c z j (code_of c link) ≡ link = own-line c j.near_well (set c z j) link l its in
          goes-one (reading c.own z.own j.base) (shown c z (set c z j) j.shares.far_set j.base (at c z j w n arrived [])) (shown c z (set c z j) j.shares.far_set j.base (at c z j w lost arrived []))
          (moves.falls (record {
            link = code_of c link;
            up = ap (λ (k : ℕ). not (down n.parts k)) mine ∙ ap not up;
            route = route_of c j.base.there (set c z j) lost.parts;
            holds = holds_of c j.base.there (set c z j) lost.parts;
            suspends = record {
              others = λ flow other d f. route-stays c z j n.parts lost.parts link other flow (failed-facts c link n.parts lost.parts.links refl) d f;
              kept = λ procedure flow f. same-holds procedure flow ∙ f;
              same = λ procedure flow d. same-holds procedure flow;
              held = λ flow serving f. (let no : true ≡ false = sym serving ∙ ap (λ (k : ℕ). in_service n.parts k) mine ∙ out in absurd cc);
            };
            lines = line_of c z (set c z j) j.shares.far_set (at c z j w lost arrived []);
            set = becomes c z j (at c z j w n arrived []) lost arrived [] (route_of c j.base.there (set c z j) n.parts) link
                (with_failure (line_of c z (set c z j) j.shares.far_set (at c z j w n arrived []) (code_of c link)) (changeover_of n.parts (own c z j (code_of c link))).awaited).near l its
                (dropped-here g.fits l its
                ∙ ap (λ (k : ℕ). (with_failure (line_of c z (set c z j) j.shares.far_set (at c z j w n arrived []) (code_of c link)) (changeover_of n.parts k).awaited).near) (sym mine))
                dropped-other;
            after = refl;
          }));
      good = λ g. record {
        fits = ((fit-steps c).dropped link why n out).stay g.fits;
        route = g.route;
        settled = dropped-settled g.fits (up-listed c z n link g.fits up) g.settled;
        silent = dropped-silent g.silent;
        queued = g.queued;
        elsewhere = g.elsewhere;
        held = g.held;
        loose = tt;
        arrived = g.arrived;
        coming = g.coming;
        counted = g.counted;
      };
    }

    past : (l : link < length c.links) → set_of c link ≢ set c z j → Fits c n → Passes c z j (at c z j w n arrived []) (at c z j w lost arrived [])
    past l d f = unseen-passes c z j n lost (record {
      fits = (fit-steps c).dropped link why n out;
      queues = refl;
      alignments = λ code. ap (λ (x : Link). x.alignment) (link-other c z n.parts link (own c z j code) (after_failure (link_at n.parts link)) (apart-elsewhere c z j w n arrived [] link why code l d));
      untested = λ code. ap (λ (x : Link). x.untested) (link-other c z n.parts link (own c z j code) (after_failure (link_at n.parts link)) (apart-elsewhere c z j w n arrived [] link why code l d));
      standings = λ code. refl;
      holds = λ procedure sls. refl;
      codes = λ code. refl;
      lost = refl;
      late = refl;
      route = λ e. e;
      settled = dropped-settled f l;
      silent = dropped-silent;
    }) w arrived []

    pub dropped-passes : Passes c z j (at c z j w n arrived []) (at c z j w lost arrived [])
    dropped-passes =
        ⊎_elim (λ (its : set_of c link ≡ set c z j). dropped its)
        (λ (d : set_of c link ≢ set c z j). passes-good c z j _ _ (λ g. past (up-listed c z n link g.fits up) d g.fits))
        (cases_eq (set_of c link) (set c z j))

  -- ---- a link that isn't down fails

  failing : (served : Bool) (w : World) (n : Node WholeQueues) (arrived : List Message) (link : ℕ) (why : FailureReason) → in_service n.parts link ≡ served → down n.parts link ≡ false
      → Passes c z j (at c z j w n arrived []) (at c z j w (change_over whole c served link (make_unavailable whole c served link why n)) arrived [])
  failing true w n arrived link why e up =
      let left : Node WholeQueues = make_unavailable whole c true link why n in
      let ordered : Bool = is_ordered c link left.parts in
      let last : Bool = has_other c link (fail_link link why (suspended c link (whole.unconfirmed n.queues link) n.parts)) in
      let stay : StaysFit c n (with_parts left (changing c ordered link left.parts)) =
      (fit-steps c).both _ _ _ (fell-steps (fit-steps c) link why (failed ordered (changeover_of left.parts link)) n e refl)
      ((fit-steps c).timed _ _ (timed_changeover-timed c ordered link left.parts.timers)) in
      ⊎_elim (λ (its : set_of c link ≡ set c z j). beginning w n arrived link why e up last ordered its stay)
      (λ (d : set_of c link ≢ set c z j). beginning-elsewhere w n arrived link why e up last ordered d stay)
      (cases_eq (set_of c link) (set c z j))
  failing false w n arrived link why e up = dropped-passes w n arrived link why e up

  pub fail-passes : (w : World) (n : Node WholeQueues) (arrived : List Message) (link : ℕ) (why : FailureReason) → down n.parts link ≡ false
      → Passes c z j (at c z j w n arrived []) (at c z j w (fail whole c link why n) arrived [])
  fail-passes w n arrived link why up = failing (in_service n.parts link) w n arrived link why refl up

  failing_by_peer : (served : Bool) (w : World) (n : Node WholeQueues) (arrived : List Message) (link : ℕ) → in_service n.parts link ≡ served → down n.parts link ≡ false
      → Passes c z j (at c z j w n arrived []) (at c z j w (begin_by_peer whole c served link (make_unavailable whole c served link reasons.Changeover n)) arrived [])
  failing_by_peer true w n arrived link e up =
      let last : Bool = has_other c link (fail_link link reasons.Changeover (suspended c link (whole.unconfirmed n.queues link) n.parts)) in
      ⊎_elim (λ (its : set_of c link ≡ set c z j). by_peer w n arrived link reasons.Changeover e up last its (failing_by_peer-steps (fit-steps c) true link n e))
      (λ (d : set_of c link ≢ set c z j). by_peer-elsewhere w n arrived link reasons.Changeover e up last d (failing_by_peer-steps (fit-steps c) true link n e))
      (cases_eq (set_of c link) (set c z j))
  failing_by_peer false w n arrived link e up = dropped-passes w n arrived link reasons.Changeover e up

  pub fail_by_peer-passes : (w : World) (n : Node WholeQueues) (arrived : List Message) (link : ℕ) → down n.parts link ≡ false
      → Passes c z j (at c z j w n arrived []) (at c z j w (fail_by_peer whole c link n) arrived [])
  fail_by_peer-passes w n arrived link up = failing_by_peer (in_service n.parts link) w n arrived link refl up
