-- What isn't shown changes: timers, notices, what points are told, routes to third points, and the links that lead
-- elsewhere. The same pair is shown.
use Rattle.pair_rules.proofs.Basics.{◌≡◌, ◌≢◌, ◌<◌, ◌≤◌, ℕ, Bool, true, false, not, ◌&&◌, List, length, Option, Some, None, refl, ap, sym, subst, ◌∙◌, nat_eq, nat_lt, if◌then◌else◌, option_and_then, option_map, ⊎_elim, cases_lt, get_or_past}
use Rattle.pair_rules.proofs.Definitions.{SELECTIONS, Message, Flow, Configuration, destination_place, is_outstanding, Alignment, Link, down_link, is_down, is_in_service, carries_traffic, in_traffic, chosen_link, Node, Parts, down, in_service, link_at, link_of, WholeQueues, queue_at, changeover_of, Standing, no_changeover, standing_at, HoldSet, Codes, link_in, facts, set_of, Fits, StaysFit, Pair}
use Rattle.exchange_rules.proofs.Basics.{eqb-true}
use Rattle.exchange_rules.proofs.LoneRoutes.{set-decides}
use Rattle.flow_hold.specs.Holds as hold
use Rattle.pair_moves.specs.Ends as ends
use Rattle.pair_moves.specs.Sayings.{Other}
use Rattle.pair_rules.proofs.World.{World, end_of, is_heard}
use Rattle.pair_rules.proofs.Good.{Each, IsSilent}
use Rattle.pair_rules.proofs.Going.{goes-same}
use Rattle.neighbour_rules.proofs.Counted.{base-alike, counts_of}
use Rattle.neighbour_rules.proofs.World.{code_of, holds_at, holds_of, link_at_code, procedure_of, reading, route_of, says_of, shown}
use Rattle.neighbour_rules.proofs.Good.{Good, IsOpen, IsSent, Joint, Passes, at, set}
use Rattle.neighbour_rules.proofs.Lines.{own-line}

module _ (c z : Configuration) (j : Joint c z) where
  -- the link of the set with a code
  abbrev pub own : ℕ → ℕ
  own code = link_at_code c (set c z j) code

  -- from one node to another nothing changes that is shown
  pub record IsUnseen (n o : Node WholeQueues) : Type 0 where
    pub fits : StaysFit c n o
    pub queues : o.queues ≡ n.queues
    pub alignments : (code : ℕ) → (link_at o.parts (own code)).alignment ≡ (link_at n.parts (own code)).alignment
    pub untested : (code : ℕ) → (link_at o.parts (own code)).untested ≡ (link_at n.parts (own code)).untested
    pub standings : (code : ℕ) → changeover_of o.parts (own code) ≡ changeover_of n.parts (own code)
    pub holds : (procedure : ends.Procedure) (sls : ℕ) → holds_at c j.base.there (set c z j) (Some j.destination) o.parts procedure sls ≡ holds_at c j.base.there (set c z j) (Some j.destination) n.parts procedure sls
    pub codes : (code : ℕ) → is_outstanding o.parts.codes (set c z j) code ≡ is_outstanding n.parts.codes (set c z j) code
    pub lost : o.parts.times_lost ≡ n.parts.times_lost
    pub late : o.parts.times_late ≡ n.parts.times_late
    pub route : IsOpen c z j n → IsOpen c z j o
    pub settled : ((link : ℕ) → down n.parts link ≡ false → changeover_of n.parts link ≡ no_changeover) → (link : ℕ) → down o.parts link ≡ false → changeover_of o.parts link ≡ no_changeover
    pub silent : ((link : ℕ) → IsSilent (link_at n.parts link)) → (link : ℕ) → IsSilent (link_at o.parts link)

  module _ (n o : Node WholeQueues) (u : IsUnseen n o) where
    end-same : (code : ℕ) → end_of o (own code) ≡ end_of n (own code)
    end-same code =
        ap (λ (qs : WholeQueues). record (end_of o (own code)) { queue = queue_at qs (own code) }) u.queues
        ∙ ap (λ (a : Alignment). record {
          queue = queue_at n.queues (own code);
          up = not (is_down a);
          serving = is_in_service a;
          incomplete = (changeover_of o.parts (own code)).incomplete;
          awaited = (changeover_of o.parts (own code)).awaited;
          heard = is_heard a;
        }) (u.alignments code)
        ∙ ap (λ (s : Standing). record (end_of n (own code)) { incomplete = s.incomplete; awaited = s.awaited }) (u.standings code)

    -- a link that isn't there carries no traffic
    past-carries : (p : Parts) (link : ℕ) → length p.links ≤ link → in_traffic p link ≡ false
    past-carries p link l = ap carries_traffic (get_or_past p.links link down_link l)

    carries-same : Fits c n → (link : ℕ) → set_of c link ≡ set c z j → in_traffic o.parts link ≡ in_traffic n.parts link
    carries-same f link its =
        ⊎_elim
        (λ (l : link < length c.links).
        let e : own (code_of c link) ≡ link = own-line c j.near_well (set c z j) link l its in
        subst (λ (k : ℕ). in_traffic o.parts k ≡ in_traffic n.parts k) e
        (ap (λ (a : Alignment). is_in_service a && not (link_at o.parts (own (code_of c link))).untested) (u.alignments (code_of c link))
        ∙ ap (λ (b : Bool). in_service n.parts (own (code_of c link)) && not b) (u.untested (code_of c link))))
        (λ (l : length c.links ≤ link).
        past-carries o.parts link (subst (λ (k : ℕ). k ≤ link) (sym (u.fits.stay f).places.parts.links) l)
        ∙ sym (past-carries n.parts link (subst (λ (k : ℕ). k ≤ link) (sym f.places.parts.links) l)))
        (cases_lt link (length c.links))

    chosen-same : Fits c n → IsOpen c z j n → (sls : ℕ) → chosen_link (facts c o.parts) j.destination sls ≡ chosen_link (facts c n.parts) j.destination sls
    chosen-same f e sls = set-decides c o.parts n.parts (set c z j) j.destination sls (u.route e).beyond e.beyond (carries-same f)

    route-same : Fits c n → IsOpen c z j n → (flow : Flow) → route_of c j.base.there (set c z j) o.parts flow ≡ route_of c j.base.there (set c z j) n.parts flow
    route-same f e flow = by (nat_eq flow.point j.base.there) refl
      where
        to : flow.point ≡ j.base.there → link_of c o.parts flow ≡ link_of c n.parts flow
        to same =
            let place : destination_place c flow.point ≡ Some j.destination = ap (destination_place c) same ∙ j.place in
            ap (option_and_then (λ (d : ℕ). chosen_link (facts c o.parts) d flow.sls)) place
            ∙ chosen-same f e flow.sls
            ∙ sym (ap (option_and_then (λ (d : ℕ). chosen_link (facts c n.parts) d flow.sls)) place)

        by : (b : Bool) → nat_eq flow.point j.base.there ≡ b
            → (if b && nat_lt flow.sls SELECTIONS then option_map (code_of c) (link_of c o.parts flow) else None) ≡ (if b && nat_lt flow.sls SELECTIONS then option_map (code_of c) (link_of c n.parts flow) else None)
        by true h = ap (λ (x : Option ℕ). if nat_lt flow.sls SELECTIONS then option_map (code_of c) x else None) (to (eqb-true flow.point j.base.there h))
        by false h = refl

    holds-same : (procedure : ends.Procedure) (flow : Flow) → holds_of c j.base.there (set c z j) o.parts procedure flow ≡ holds_of c j.base.there (set c z j) n.parts procedure flow
    holds-same procedure flow =
        ap (λ (d : Option ℕ). nat_eq flow.point j.base.there && holds_at c j.base.there (set c z j) d o.parts procedure flow.sls) j.place
        ∙ ap (λ (b : Bool). nat_eq flow.point j.base.there && b) (u.holds procedure flow.sls)
        ∙ sym (ap (λ (d : Option ℕ). nat_eq flow.point j.base.there && holds_at c j.base.there (set c z j) d n.parts procedure flow.sls) j.place)

    module _ (w : World) (arrived loose : List Message) where
      abbrev before : Pair
      before = shown c z (set c z j) j.shares.far_set j.base (at c z j w n arrived loose)

      shown-same : Good c z j (at c z j w n arrived loose) → shown c z (set c z j) j.shares.far_set j.base (at c z j w o arrived loose) ≡ before
      shown-same g = λ i. record before {
        line = λ code. record (before.line code) { near = end-same code i };
        near = record before.near {
          held = ap (λ (qs : WholeQueues). qs.held) u.queues i;
          route = λ flow. route-same g.fits g.route flow i;
          holds = λ procedure flow. holds-same procedure flow i;
          outstanding = λ code. u.codes code i;
          lost = ap (nat_lt j.base.near.lost) u.lost i;
          late = ap (nat_lt j.base.near.late) u.late i;
        };
      }

      pub unseen-passes : Passes c z j (at c z j w n arrived loose) (at c z j w o arrived loose)
      unseen-passes = record {
        goes = λ g. goes-same (reading c.own z.own j.base) _ _ (sym (shown-same g));
        good = λ g. record {
          fits = u.fits.stay g.fits;
          route = u.route g.route;
          settled = u.settled g.settled;
          silent = u.silent g.silent;
          queued = subst (λ (qs : WholeQueues). (link : ℕ) → Each (IsSent c z j.base.there (set c z j)) (queue_at qs link).all) (sym u.queues) g.queued;
          elsewhere = subst (λ (qs : WholeQueues). (link : ℕ) → set_of c link ≢ set c z j → Each (λ (x : Message). says_of c.own z.own j.base.there x ≡ Other) (queue_at qs link).all) (sym u.queues) g.elsewhere;
          held = subst (λ (qs : WholeQueues). Each (IsSent c z j.base.there (set c z j)) qs.held) (sym u.queues) g.held;
          loose = g.loose;
          arrived = g.arrived;
          coming = g.coming;
          counted = base-alike j.base.near (counts_of n.parts) (counts_of o.parts) u.lost u.late g.counted;
        };
      }

  -- ---- parts that concern no link, no flow to the other, and no count

  module _ (w : World) (n : Node WholeQueues) (arrived loose : List Message) (p : Parts) where
    abbrev left : Node WholeQueues
    left = record n { parts = p }

    pub aside-passes : StaysFit c n left → p.links ≡ n.parts.links → p.changeovers ≡ n.parts.changeovers → p.holds ≡ n.parts.holds → p.codes ≡ n.parts.codes
        → p.times_lost ≡ n.parts.times_lost → p.times_late ≡ n.parts.times_late → (IsOpen c z j n → IsOpen c z j left) → Passes c z j (at c z j w n arrived loose) (at c z j w left arrived loose)
    aside-passes stay links changeovers holds codes lost late route = unseen-passes n left (record {
      fits = stay;
      queues = refl;
      alignments = λ code. ap (λ (xs : List Link). (link_in xs (own code)).alignment) links;
      untested = λ code. ap (λ (xs : List Link). (link_in xs (own code)).untested) links;
      standings = λ code. ap (λ (xs : List Standing). standing_at xs (own code)) changeovers;
      holds = λ procedure sls. ap (λ (h : HoldSet). hold.holds h (procedure_of c j.base.there (set c z j) procedure) j.destination sls) holds;
      codes = λ code. ap (λ (x : Codes). is_outstanding x (set c z j) code) codes;
      lost = lost;
      late = late;
      route = route;
      settled = λ h link up.
          ap (λ (xs : List Standing). standing_at xs link) changeovers
          ∙ h link (ap (λ (xs : List Link). is_down (link_in xs link).alignment) (sym links) ∙ up);
      silent = λ h link. subst (λ (xs : List Link). IsSilent (link_in xs link)) (sym links) (h link);
    }) w arrived loose
