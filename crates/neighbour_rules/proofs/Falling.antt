-- A link in service fails, between the two nodes with an order or without one, or elsewhere: by moves.
use Rattle.pair_rules.proofs.Basics.{◌≡◌, ◌≢◌, ◌<◌, ◌&&◌, ◌||◌, ℕ, Bool, true, false, not, List, [], ◌∷◌, length, Option, Some, refl, ap, sym, subst, ◌∙◌, nat_eq, nat_lt, ⊎_elim, cases_eq}
use Rattle.pair_rules.proofs.Definitions.{SELECTIONS, goes_by, is_down, Management, Order, Message, Flow, FailureReason, Configuration, ExtendedChangeoverOrder, Running, HoldSet, with_flows, flows_add, flows_leave, Standing, with_standing, no_changeover, Link, after_failure, down_link, each-set, chosen_link, Node, Parts, with_parts, down, in_service, link_at, WholeQueues, queue_at, whole, changeover_of, changeover_order, fail_link, facts, set_of, management_to, Fits, StaysFit, Suspends, with_failure, IsManagement, code-fits, last_accepted}
use Rattle.flow_hold.specs.Holds as hold
use Rattle.flow_hold.specs.declared.procedure.Procedure.TheVariants as held_by
use Rattle.exchange_rules.specs.ChangingOver.{suspended, is_failed}
use Rattle.pair_moves.specs.Ends as ends
use Rattle.pair_moves.specs.Moves as moves
use Rattle.pair_rules.proofs.World.{World, end_of}
use Rattle.pair_rules.proofs.Good.{Each, IsSilent, previous-fits}
use Rattle.pair_rules.proofs.Going.{goes-one}
use Rattle.pair_rules.proofs.Lines.{end_by, end-by, link-here, link-other, standing-here, standing-other, up-listed}
use Rattle.pair_rules.proofs.Routes.{and-more, and-true, eq-self, failed-facts, lt-true, or-first, or-true}
use Rattle.exchange_rules.proofs.SharingNodes.{shared-peer}
use Rattle.neighbour_rules.proofs.World.{code_of, holds_at, holds_of, line_of, procedure_of, reading, route_of, says_of, shown}
use Rattle.neighbour_rules.proofs.Good.{Good, IsMade, IsSent, Joint, Passes, at, made, orders, set}
use Rattle.neighbour_rules.proofs.Lines.{at-line, becomes, own-line}
use Rattle.neighbour_rules.proofs.Made.{word-made, word-says}
use Rattle.neighbour_rules.proofs.Routes.{IsRouted, is-routed, its-own, route-stays}
use Rattle.neighbour_rules.proofs.Unseen.{own, unseen-passes}

module _ (c z : Configuration) (j : Joint c z) where
  -- the holds of a shown procedure for the other's destination
  abbrev pub hold_by : HoldSet → ends.Procedure → (sls : ℕ) → Bool
  hold_by h procedure sls = hold.holds h (procedure_of c j.base.there (set c z j) procedure) j.destination sls

  -- what is shown of holds
  pub holds-by : (p : Parts) (procedure : ends.Procedure) (flow : Flow) → holds_of c j.base.there (set c z j) p procedure flow ≡ (nat_eq flow.point j.base.there && hold_by p.holds procedure flow.sls)
  holds-by p procedure flow = ap (λ (d : Option ℕ). nat_eq flow.point j.base.there && holds_at c j.base.there (set c z j) d p procedure flow.sls) j.place

  -- the same is shown of the same holds
  pub holds-alike : (p q : Parts) → q.holds ≡ p.holds → holds_of c j.base.there (set c z j) q ≡ holds_of c j.base.there (set c z j) p
  holds-alike p q e = λ i. λ procedure flow.
      (holds-by q procedure flow
      ∙ ap (λ (h : HoldSet). nat_eq flow.point j.base.there && hold_by h procedure flow.sls) e
      ∙ sym (holds-by p procedure flow)) i

  -- a line whose link isn't this one
  apart-own : (link code : ℕ) → link < length c.links → code ≢ code_of c link → own c z j code ≢ link
  apart-own link code l d e = d (sym (at-line c j.near_well (set c z j) link code l e).its_code)

  -- ---- what the changeover of the link holds

  -- other procedures hold what they held
  pub hold-others : (h : HoldSet) (link : ℕ) (test : (destination sls : ℕ) → Bool) (procedure : ends.Procedure) (sls : ℕ) → ((code : ℕ) → procedure ≡ ends.Changeover code → own c z j code ≢ link)
      → hold_by (with_flows h (held_by.Changeover link) test) procedure sls ≡ hold_by h procedure sls
  hold-others h link test (ends.Changeover code) sls d =
      flows_leave h (held_by.Changeover link) (held_by.Changeover (own c z j code)) test j.destination sls (λ e. d code refl (let same : own c z j code ≡ link = cc in same))
  hold-others h link test (ends.Code code) sls d = flows_leave h (held_by.Changeover link) (held_by.Code (set c z j) code) test j.destination sls (λ e. absurd cc)
  hold-others h link test (ends.Time code) sls d = flows_leave h (held_by.Changeover link) (held_by.Time (own c z j code)) test j.destination sls (λ e. absurd cc)

  -- no hold ends
  pair-kept : (h : HoldSet) (link : ℕ) (test : (destination sls : ℕ) → Bool) (procedure : ends.Procedure) (sls : ℕ) → hold_by h procedure sls ≡ true → hold_by (with_flows h (held_by.Changeover link) test) procedure sls ≡ true
  pair-kept h link test (ends.Changeover code) sls e =
      ⊎_elim
      (λ (same : own c z j code ≡ link).
      subst (λ (k : ℕ). hold.holds (with_flows h (held_by.Changeover link) test) (held_by.Changeover k) j.destination sls ≡ true) (sym same)
      (flows_add h (held_by.Changeover link) test j.destination sls
      ∙ or-true (hold.may_hold h (held_by.Changeover link) j.destination sls && test j.destination sls) (hold.holds h (held_by.Changeover link) j.destination sls)
      (subst (λ (k : ℕ). hold.holds h (held_by.Changeover k) j.destination sls ≡ true) same e)))
      (λ (d : own c z j code ≢ link).
      flows_leave h (held_by.Changeover link) (held_by.Changeover (own c z j code)) test j.destination sls (λ f. d (let same : own c z j code ≡ link = cc in same)) ∙ e)
      (cases_eq (own c z j code) link)
  pair-kept h link test (ends.Code code) sls e = hold-others h link test (ends.Code code) sls (λ k f. absurd cc) ∙ e
  pair-kept h link test (ends.Time code) sls e = hold-others h link test (ends.Time code) sls (λ k f. absurd cc) ∙ e

  -- ---- a link in service fails: holds begin, the link goes down, its changeover isn't complete

  -- the parts then
  abbrev pub fallen : (link : ℕ) → FailureReason → HoldSet → Standing → Running → Parts → Parts
  fallen link why h s t p = record (fail_link link why p) { holds = h; changeovers = with_standing p.changeovers link s; timers = t }

  module _ (w : World) (n : Node WholeQueues) (arrived loose : List Message) (link : ℕ) (why : FailureReason) where
    abbrev pub unconfirmed : List Message
    unconfirmed = whole.unconfirmed n.queues link

    abbrev pub begun : HoldSet
    begun = (suspended c link unconfirmed n.parts).holds

    abbrev pub test : (destination sls : ℕ) → Bool
    test = is_failed c (facts c n.parts) link unconfirmed

    abbrev pub fell : Standing → Running → Node WholeQueues
    fell s t = with_parts n (fallen link why begun s t n.parts)

    fell-link : (s : Standing) (t : Running) → Fits c n → link < length c.links → link_at (fell s t).parts link ≡ after_failure (link_at n.parts link)
    fell-link s t f l = link-here c z n.parts link (after_failure (link_at n.parts link)) (subst (λ (k : ℕ). link < k) (sym f.places.parts.links) l)

    fell-here : (s : Standing) (t : Running) → Fits c n → link < length c.links → end_of (fell s t) link ≡ end_by c z (queue_at n.queues link) (after_failure (link_at n.parts link)) s
    fell-here s t f l =
        end-by c z n (fell s t) link (queue_at n.queues link) (after_failure (link_at n.parts link)) s refl (fell-link s t f l)
        (standing-here c z n.parts link s (subst (λ (k : ℕ). link < k) (sym f.places.parts.changeovers) l))

    fell-other : (s : Standing) (t : Running) (other : ℕ) → other ≢ link → end_of (fell s t) other ≡ end_of n other
    fell-other s t other d =
        end-by c z n (fell s t) other (queue_at n.queues other) (link_at n.parts other) (changeover_of n.parts other) refl
        (link-other c z n.parts link other (after_failure (link_at n.parts link)) d) (standing-other c z n.parts link other s d)

    fell-down : (s : Standing) (t : Running) → Fits c n → link < length c.links → down (fell s t).parts link ≡ true
    fell-down s t f l = ap (λ (x : Link). is_down x.alignment) (fell-link s t f l)

    fell-settled : (s : Standing) (t : Running) → Fits c n → link < length c.links → ((other : ℕ) → down n.parts other ≡ false → changeover_of n.parts other ≡ no_changeover)
        → (other : ℕ) → down (fell s t).parts other ≡ false → changeover_of (fell s t).parts other ≡ no_changeover
    fell-settled s t f l h other up =
        ⊎_elim
        (λ (same : other ≡ link).
        let no : true ≡ false = sym (subst (λ (k : ℕ). down (fell s t).parts k ≡ true) (sym same) (fell-down s t f l)) ∙ up in
        absurd cc)
        (λ (d : other ≢ link).
        standing-other c z n.parts link other s d
        ∙ h other (ap (λ (x : Link). is_down x.alignment) (sym (link-other c z n.parts link other (after_failure (link_at n.parts link)) d)) ∙ up))
        (cases_eq other link)

    fell-silent : (s : Standing) (t : Running) → ((other : ℕ) → IsSilent (link_at n.parts other)) → (other : ℕ) → IsSilent (link_at (fell s t).parts other)
    fell-silent s t h other = each-set (λ (x : Link). IsSilent x) n.parts.links link other (after_failure (link_at n.parts link)) down_link h (λ d. (refl, refl))

    -- ---- a link between the two

    -- the flows of the link are held from now on
    held-now : (s : Standing) (t : Running) (flow : Flow) → Good c z j (at c z j w n arrived loose) → link < length c.links → set_of c link ≡ set c z j
        → route_of c j.base.there (set c z j) n.parts flow ≡ Some (code_of c link) → holds_of c j.base.there (set c z j) (fell s t).parts (ends.Changeover (code_of c link)) flow ≡ true
    held-now s t flow g l its e =
        let r : IsRouted c z j n.parts flow (code_of c link) = is-routed c z j n.parts flow (code_of c link) e in
        let mine : own c z j (code_of c link) ≡ link = own-line c j.near_well (set c z j) link l its in
        let same : r.link ≡ link = sym (its-own c z j n.parts flow (code_of c link) g.route.beyond r) ∙ mine in
        let chosen : chosen_link (facts c n.parts) j.destination flow.sls ≡ Some link = r.chosen ∙ ap (λ (k : ℕ). Some k) same in
        let places : hold.may_hold n.parts.holds (held_by.Changeover link) j.destination flow.sls ≡ true =
        and-true (nat_lt link n.parts.holds.links) (nat_lt j.destination n.parts.holds.destinations && nat_lt flow.sls SELECTIONS)
        (lt-true link n.parts.holds.links (subst (λ (k : ℕ). link < k) (sym g.fits.places.parts.holds.links) l))
        (and-true (nat_lt j.destination n.parts.holds.destinations) (nat_lt flow.sls SELECTIONS)
        (lt-true j.destination n.parts.holds.destinations (subst (λ (k : ℕ). j.destination < k) (sym g.fits.places.parts.holds.destinations) j.there)) r.selection) in
        let fails : test j.destination flow.sls ≡ true = or-first (goes_by (chosen_link (facts c n.parts) j.destination flow.sls) link) _ (ap (λ (o : Option ℕ). goes_by o link) chosen ∙ eq-self link) in
        holds-by (fell s t).parts (ends.Changeover (code_of c link)) flow
        ∙ and-true (nat_eq flow.point j.base.there) (hold_by begun (ends.Changeover (code_of c link)) flow.sls)
        (ap (λ (k : ℕ). nat_eq k j.base.there) r.point ∙ eq-self j.base.there)
        (ap (λ (k : ℕ). hold.holds begun (held_by.Changeover k) j.destination flow.sls) mine
        ∙ flows_add n.parts.holds (held_by.Changeover link) test j.destination flow.sls
        ∙ or-first (hold.may_hold n.parts.holds (held_by.Changeover link) j.destination flow.sls && test j.destination flow.sls) (hold.holds n.parts.holds (held_by.Changeover link) j.destination flow.sls)
        (and-true (hold.may_hold n.parts.holds (held_by.Changeover link) j.destination flow.sls) (test j.destination flow.sls) places fails))

    suspending : (s : Standing) (t : Running) → Good c z j (at c z j w n arrived loose) → link < length c.links → set_of c link ≡ set c z j
        → Suspends (shown c z (set c z j) j.shares.far_set j.base (at c z j w n arrived loose)) (code_of c link) (route_of c j.base.there (set c z j) (fell s t).parts) (holds_of c j.base.there (set c z j) (fell s t).parts)
    suspending s t g l its = record {
      others = λ flow other d e. route-stays c z j n.parts (fell s t).parts link other flow (failed-facts c link n.parts (fell s t).parts.links refl) d e;
      kept = λ procedure flow e.
          holds-by (fell s t).parts procedure flow
          ∙ and-more (nat_eq flow.point j.base.there) (hold_by n.parts.holds procedure flow.sls) (hold_by begun procedure flow.sls) (pair-kept n.parts.holds link test procedure flow.sls)
          (sym (holds-by n.parts procedure flow) ∙ e);
      same = λ procedure flow d.
          holds-by (fell s t).parts procedure flow
          ∙ ap (λ (b : Bool). nat_eq flow.point j.base.there && b)
          (hold-others n.parts.holds link test procedure flow.sls (λ code e. apart-own link code l (λ same. d (e ∙ ap ends.Changeover same))))
          ∙ sym (holds-by n.parts procedure flow);
      held = λ flow serving e. held-now s t flow g l its e;
    }

    -- as the move says it
    failed-end : (s : Standing) → in_service n.parts link ≡ true → s.incomplete ≡ true → link < length c.links → set_of c link ≡ set c z j
        → end_by c z (queue_at n.queues link) (after_failure (link_at n.parts link)) s ≡ (with_failure (line_of c z (set c z j) j.shares.far_set (at c z j w n arrived loose) (code_of c link)) s.awaited).near
    failed-end s e i l its =
        ap (λ (b : Bool). end_by c z (queue_at n.queues link) (after_failure (link_at n.parts link)) (record s { incomplete = b }))
        (i ∙ sym (or-first (in_service n.parts link) (changeover_of n.parts link).incomplete e))
        ∙ ap (λ (k : ℕ). record (end_of n k) {
          up = false;
          serving = false;
          incomplete = in_service n.parts k || (changeover_of n.parts k).incomplete;
          awaited = s.awaited;
          heard = false;
        }) (sym (own-line c j.near_well (set c z j) link l its))

    fell-good : (s : Standing) (t : Running) (next : List Message) → link < length c.links → StaysFit c n (fell s t) → Each (IsSent c z j.base.there (set c z j)) next
        → Good c z j (at c z j w n arrived loose) → Good c z j (at c z j w (fell s t) arrived next)
    fell-good s t next l stay m g = record {
      fits = stay.stay g.fits;
      route = g.route;
      settled = fell-settled s t g.fits l g.settled;
      silent = fell-silent s t g.silent;
      queued = g.queued;
      elsewhere = g.elsewhere;
      held = g.held;
      loose = m;
      arrived = g.arrived;
      coming = g.coming;
      counted = g.counted;
    }

    -- no order goes out
    pub falling : (s : Standing) (t : Running) → set_of c link ≡ set c z j → in_service n.parts link ≡ true → down n.parts link ≡ false → s.incomplete ≡ true
        → (down n.parts link ≡ false → Good c z j (at c z j w n arrived loose) → s.awaited ≡ (changeover_of n.parts link).awaited)
        → StaysFit c n (fell s t) → Passes c z j (at c z j w n arrived loose) (at c z j w (fell s t) arrived loose)
    falling s t its e up i awaits stay = record {
      goes = λ g.
          let l : link < length c.links = up-listed c z n link g.fits up in
          let mine : own c z j (code_of c link) ≡ link = own-line c j.near_well (set c z j) link l its in
          goes-one (reading c.own z.own j.base) _ _
          (moves.falls (record {
            link = code_of c link;
            up = ap (λ (k : ℕ). not (down n.parts k)) mine ∙ ap not up;
            route = route_of c j.base.there (set c z j) (fell s t).parts;
            holds = holds_of c j.base.there (set c z j) (fell s t).parts;
            suspends = suspending s t g l its;
            lines = line_of c z (set c z j) j.shares.far_set (at c z j w (fell s t) arrived loose);
            set = becomes c z j (at c z j w n arrived loose) (fell s t) arrived loose (route_of c j.base.there (set c z j) n.parts) link
                (with_failure (line_of c z (set c z j) j.shares.far_set (at c z j w n arrived loose) (code_of c link)) (changeover_of n.parts (own c z j (code_of c link))).awaited).near l its
                (fell-here s t g.fits l ∙ failed-end s e i l its
                ∙ ap (λ (b : Bool). (with_failure (line_of c z (set c z j) j.shares.far_set (at c z j w n arrived loose) (code_of c link)) b).near)
                (awaits up g ∙ ap (λ (k : ℕ). (changeover_of n.parts k).awaited) (sym mine)))
                (fell-other s t);
            after = refl;
          }));
      good = λ g. fell-good s t loose (up-listed c z n link g.fits up) stay g.loose g;
    }

    -- ---- a link that leads elsewhere

    pub apart-elsewhere : (code : ℕ) → link < length c.links → set_of c link ≢ set c z j → own c z j code ≢ link
    apart-elsewhere code l d e = d (at-line c j.near_well (set c z j) link code l e).of_set

    pub falling-elsewhere : (s : Standing) (t : Running) → link < length c.links → set_of c link ≢ set c z j → (Fits c n) → StaysFit c n (fell s t)
        → Passes c z j (at c z j w n arrived loose) (at c z j w (fell s t) arrived loose)
    falling-elsewhere s t l d f stay = unseen-passes c z j n (fell s t) (record {
      fits = stay;
      queues = refl;
      alignments = λ code. ap (λ (x : Link). x.alignment) (link-other c z n.parts link (own c z j code) (after_failure (link_at n.parts link)) (apart-elsewhere code l d));
      untested = λ code. ap (λ (x : Link). x.untested) (link-other c z n.parts link (own c z j code) (after_failure (link_at n.parts link)) (apart-elsewhere code l d));
      standings = λ code. standing-other c z n.parts link (own c z j code) s (apart-elsewhere code l d);
      holds = λ procedure sls. hold-others n.parts.holds link test procedure sls (λ code e. apart-elsewhere code l d);
      codes = λ code. refl;
      lost = refl;
      late = refl;
      route = λ e. e;
      settled = fell-settled s t f l;
      silent = fell-silent s t;
    }) w arrived loose

  -- ---- the order that goes out

  abbrev pub order_word : ℕ → Node WholeQueues → Management
  order_word link n = ExtendedChangeoverOrder (code_of c link) (whole.last_accepted n.queues link)

  pub to_far : (link number : ℕ) → set_of c link ≡ set c z j → changeover_order c link number ≡ management_to c z.own (ExtendedChangeoverOrder (code_of c link) number)
  to_far link number its = ap (λ (point : ℕ). management_to c point (ExtendedChangeoverOrder (code_of c link) number)) (shared-peer c z j.shares j.near_well link its)

  pub order_fits : (link : ℕ) (n : Node WholeQueues) → IsManagement (order_word link n)
  order_fits link n = (code-fits c j.near_well link, previous-fits (queue_at n.queues link).received)

  -- an order goes out
  pub falling_ordered : (w : World) (n : Node WholeQueues) (arrived : List Message) (link : ℕ) (why : FailureReason) (s : Standing) (t : Running) → set_of c link ≡ set c z j → in_service n.parts link ≡ true
      → down n.parts link ≡ false → s.incomplete ≡ true → s.awaited ≡ true → StaysFit c n (fell w n arrived [] link why s t) → (order : Message)
      → order ≡ changeover_order c link (whole.last_accepted n.queues link)
      → Passes c z j (at c z j w n arrived []) (at c z j w (fell w n arrived [] link why s t) arrived (order ∷ []))
  falling_ordered w n arrived link why s t its e up i awaits stay order is = record {
    goes = λ g.
        let l : link < length c.links = up-listed c z n link g.fits up in
        let mine : own c z j (code_of c link) ≡ link = own-line c j.near_well (set c z j) link l its in
        goes-one (reading c.own z.own j.base) _ _
        (moves.falls_with_order (record {
          link = code_of c link;
          serving = ap (λ (k : ℕ). in_service n.parts k) mine ∙ e;
          order = order;
          says = ap (says_of c.own z.own j.base.there) (is ∙ to_far link (whole.last_accepted n.queues link) its) ∙ word-says c z j (order_word link n) (order_fits link n)
              ∙ ap (λ (k : ℕ). Order (code_of c link) (last_accepted (queue_at n.queues k))) (sym mine);
          route = route_of c j.base.there (set c z j) (fell w n arrived [] link why s t).parts;
          holds = holds_of c j.base.there (set c z j) (fell w n arrived [] link why s t).parts;
          suspends = suspending w n arrived [] link why s t g l its;
          lines = line_of c z (set c z j) j.shares.far_set (at c z j w (fell w n arrived [] link why s t) arrived (order ∷ []));
          set = becomes c z j (at c z j w n arrived []) (fell w n arrived [] link why s t) arrived (order ∷ []) (route_of c j.base.there (set c z j) n.parts) link
              (with_failure (line_of c z (set c z j) j.shares.far_set (at c z j w n arrived []) (code_of c link)) true).near l its
              (fell-here w n arrived [] link why s t g.fits l ∙ failed-end w n arrived [] link why s e i l its
              ∙ ap (λ (b : Bool). (with_failure (line_of c z (set c z j) j.shares.far_set (at c z j w n arrived []) (code_of c link)) b).near) awaits)
              (fell-other w n arrived [] link why s t);
          after = refl;
        }));
    good = λ g.
        let l : link < length c.links = up-listed c z n link g.fits up in
        fell-good w n arrived [] link why s t (order ∷ []) l stay
        (made (subst (IsMade c z (set c z j)) (sym (is ∙ to_far link (whole.last_accepted n.queues link) its)) (word-made c z j (order_word link n) (order_fits link n) (orders link (whole.last_accepted n.queues link) l its))), tt) g;
  }
