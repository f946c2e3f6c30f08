-- What adjacent points tell of routes, and ask about them: by moves. The route to the other node stays allowed, and no
-- hold of a rerouting is shown.
use Rattle.pair_rules.proofs.Basics.{◌≡◌, ◌≢◌, ℕ, Bool, true, false, List, [], ◌∷◌, map, Option, Some, None, Result, Ok, Err, refl, ap, sym, subst, ◌∙◌, nat_eq, if◌then◌else◌, slice_index_or, slice_set, ⊎_elim, cases_eq, get_or-set_other, true≢false, set-get_or}
use Rattle.pair_rules.proofs.Definitions.{destination_place, Message, Outcome, Ignored, Handled, Configuration, RouteStatus, Route, first_route, HoldSet, is_own_point, Node, Parts, Standing, standing_at, Link, link_in, is_down, Codes, is_outstanding, WholeQueues, whole, answer, with_parts, facts, StaysFit, fit-steps}
use Rattle.changeback.specs.Rerouting.{held_for, rerouted}
use Rattle.flow_hold.specs.Holds.{with_hold}
use Rattle.flow_hold.specs.Pairs.{pair}
use Rattle.flow_hold.specs.declared.procedure.Procedure.{Procedure}
use Rattle.flow_hold.specs.declared.procedure.Procedure.TheVariants as held_by
use Rattle.flow_hold.proofs.Holding.{hold-leaves_others}
use Rattle.routes.specs.Routes.{with_status_over, status_of}
use Rattle.routes.specs.declared.route.RouteStatus.TheVariants.{Allowed, Restricted, Prohibited}
use Rattle.route_management.specs.Told as told
use Rattle.route_management.specs.declared.heard.Heard.{Heard}
use Rattle.route_management.specs.declared.heard.Heard.TheVariants as hears
use Rattle.route_management.specs.declared.heard.RouteTest.{RouteTest}
use Rattle.exchange_rules.specs.Rerouting.{apply_route_status, controlled, forced, held_by_rerouting, on_route_status, timed_status, with_status_heard}
use Rattle.exchange_rules.specs.Telling.{answered_parts, is_led, on_route_test, route_message, send_route_status, send_routed}
use Rattle.exchange_rules.proofs.Definitions.{told_shape}
use Rattle.exchange_rules.proofs.Rules.{rules-of}
use Rattle.exchange_rules.proofs.SteppingMessages.{on_route_status-steps}
use Rattle.pair_moves.specs.Ends as ends
use Rattle.pair_rules.proofs.World.{World}
use Rattle.pair_rules.proofs.Good.{IsSilent}
use Rattle.neighbour_rules.proofs.World.{procedure_of}
use Rattle.neighbour_rules.proofs.Good.{IsOpen, Joint, Passes, at, passes-both, passes-none, set}
use Rattle.neighbour_rules.proofs.Adjacents.{KnowsPoints, own-point}
use Rattle.neighbour_rules.proofs.Falling.{hold_by}
use Rattle.neighbour_rules.proofs.Made.{not-same}
use Rattle.neighbour_rules.proofs.Telling.{telling-route}
use Rattle.neighbour_rules.proofs.Unseen.{aside-passes, own, unseen-passes}

-- what is heard of a point itself changes nothing
heard-away : (is_own : Bool) (x : Heard) → (if is_own then hears.Ignored else x) ≡ hears.Changed → is_own ≡ false
heard-away true x e = absurd cc
heard-away false x e = refl

-- parts of which routes and holds may have changed, beside timers
record AreAlike (p q : Parts) : Type 0 where
  links : q.links ≡ p.links
  changeovers : q.changeovers ≡ p.changeovers
  codes : q.codes ≡ p.codes
  lost : q.times_lost ≡ p.times_lost
  late : q.times_late ≡ p.times_late

held-alike : (c : Configuration) (destination : ℕ) (selections : List ℕ) (p : Parts) → AreAlike p (held_by_rerouting c destination selections p)
held-alike c destination [] p = record { links = refl; changeovers = refl; codes = refl; lost = refl; late = refl }
held-alike c destination (sls ∷ others) p = record { links = refl; changeovers = refl; codes = refl; lost = refl; late = refl }

held-routes : (c : Configuration) (destination : ℕ) (selections : List ℕ) (p : Parts) → (held_by_rerouting c destination selections p).routes ≡ p.routes
held-routes c destination [] p = refl
held-routes c destination (sls ∷ others) p = refl

held-holds : (c : Configuration) (destination : ℕ) (selections : List ℕ) (p : Parts) → (held_by_rerouting c destination selections p).holds ≡ held_for destination selections p.holds
held-holds c destination [] p = refl
held-holds c destination (sls ∷ others) p = refl

module _ (c z : Configuration) (j : Joint c z) where
  -- ---- no hold of a rerouting is one of those that are shown

  apart-reroute : (its destination sls other_destination other_sls : ℕ) (procedure : ends.Procedure)
      → pair (procedure_of c j.base.there (set c z j) procedure) other_destination other_sls ≢ pair (held_by.Reroute its) destination sls
  apart-reroute its destination sls other_destination other_sls (ends.Changeover code) e =
      (let no : held_by.Changeover (own c z j code) ≡ held_by.Reroute its = ap (λ (x : Procedure × ℕ × ℕ). x.0) e in absurd cc)
  apart-reroute its destination sls other_destination other_sls (ends.Code code) e =
      (let no : held_by.Code (set c z j) code ≡ held_by.Reroute its = ap (λ (x : Procedure × ℕ × ℕ). x.0) e in absurd cc)
  apart-reroute its destination sls other_destination other_sls (ends.Time code) e =
      (let no : held_by.Time (own c z j code) ≡ held_by.Reroute its = ap (λ (x : Procedure × ℕ × ℕ). x.0) e in absurd cc)

  reroute-leaves : (destination : ℕ) (selections : List ℕ) (h : HoldSet) (procedure : ends.Procedure) (sls : ℕ) → hold_by c z j (held_for destination selections h) procedure sls ≡ hold_by c z j h procedure sls
  reroute-leaves destination [] h procedure sls = refl
  reroute-leaves destination (x ∷ xs) h procedure sls =
      reroute-leaves destination xs (with_hold h (held_by.Reroute destination) destination x) procedure sls
      ∙ hold-leaves_others h (held_by.Reroute destination) (procedure_of c j.base.there (set c z j) procedure) destination x j.destination sls (apart-reroute destination destination x j.destination sls procedure)

  -- ---- the route to the other stays

  one-route : (its : ℕ) (status : RouteStatus) (b : Bool) → nat_eq (set c z j) its ≡ b → b ≡ false → with_status_over its status (first_route (set c z j)) ≡ first_route (set c z j)
  one-route its status b e f = ap (λ (x : Bool). if x then record (first_route (set c z j)) { status = status } else first_route (set c z j)) (e ∙ f)

  one-open : (place its destination : ℕ) (status : RouteStatus) (routes : List (List Route)) → (destination ≡ place → nat_eq (set c z j) its ≡ false)
      → slice_index_or routes place [] ≡ first_route (set c z j) ∷ []
      → slice_index_or (slice_set routes destination (map (with_status_over its status) (slice_index_or routes destination []))) place [] ≡ first_route (set c z j) ∷ []
  one-open place its destination status routes away e =
      ⊎_elim
      (λ (same : place ≡ destination).
      let old : slice_index_or routes destination [] ≡ first_route (set c z j) ∷ [] = ap (λ (k : ℕ). slice_index_or routes k []) (sym same) ∙ e in
      let row : map (with_status_over its status) (slice_index_or routes destination []) ≡ slice_index_or routes destination [] =
      ap (map (with_status_over its status)) old
      ∙ ap (λ (r : Route). r ∷ []) (one-route its status (nat_eq (set c z j) its) refl (away (sym same)))
      ∙ sym old in
      ap (λ (rs : List Route). slice_index_or (slice_set routes destination rs) place []) row
      ∙ ap (λ (all : List (List Route)). slice_index_or all place []) (set-get_or routes destination [])
      ∙ e)
      (λ (d : place ≢ destination). get_or-set_other routes destination place (map (with_status_over its status) (slice_index_or routes destination [])) [] d ∙ e)
      (cases_eq place destination)

  -- what is said of a set and a destination isn't about the route to the point, nor about that to the other
  record IsAside (its destination : ℕ) : Type 0 where
    beyond : destination ≡ j.destination → nat_eq (set c z j) its ≡ false
    between : destination ≡ j.adjacent → nat_eq (set c z j) its ≡ false

  still-open : (its destination : ℕ) (status : RouteStatus) (n : Node WholeQueues) (p : Parts) → p.routes ≡ slice_set n.parts.routes destination (map (with_status_over its status) (slice_index_or n.parts.routes destination []))
      → IsAside its destination → IsOpen c z j n → IsOpen c z j (with_parts n p)
  still-open its destination status n p routes aside o = record {
    beyond = ap (λ (rs : List (List Route)). slice_index_or rs j.destination []) routes ∙ one-open j.destination its destination status n.parts.routes aside.beyond o.beyond;
    between = ap (λ (rs : List (List Route)). slice_index_or rs j.adjacent []) routes ∙ one-open j.adjacent its destination status n.parts.routes aside.between o.between;
  }

  -- a route that is told of isn't that to the point over the set, unless the point is the other
  abbrev pub IsUntold : Result (ℕ × ℕ) Outcome → Type 0
  IsUntold route = (its destination : ℕ) → route ≡ Ok (its, destination) → its ≡ set c z j → destination ≡ j.destination → j.base.there ≡ z.own

  module _ (w : World) (arrived loose : List Message) where
    abbrev Pass : Node WholeQueues → Node WholeQueues → Type 0
    Pass n o = Passes c z j (at c z j w n arrived loose) (at c z j w o arrived loose)

    -- such parts aren't shown
    alike-passes : (n : Node WholeQueues) (p : Parts) → StaysFit c n (with_parts n p) → AreAlike n.parts p → ((procedure : ends.Procedure) (sls : ℕ) → hold_by c z j p.holds procedure sls ≡ hold_by c z j n.parts.holds procedure sls)
        → (IsOpen c z j n → IsOpen c z j (with_parts n p)) → Pass n (with_parts n p)
    alike-passes n p stay a holds stays = unseen-passes c z j n (with_parts n p) (record {
      fits = stay;
      queues = refl;
      alignments = λ code. ap (λ (xs : List Link). (link_in xs (own c z j code)).alignment) a.links;
      untested = λ code. ap (λ (xs : List Link). (link_in xs (own c z j code)).untested) a.links;
      standings = λ code. ap (λ (xs : List Standing). standing_at xs (own c z j code)) a.changeovers;
      holds = holds;
      codes = λ code. ap (λ (x : Codes). is_outstanding x (set c z j) code) a.codes;
      lost = a.lost;
      late = a.late;
      route = stays;
      settled = λ h link up.
          ap (λ (xs : List Standing). standing_at xs link) a.changeovers
          ∙ h link (ap (λ (xs : List Link). is_down (link_in xs link).alignment) (sym a.links) ∙ up);
      silent = λ h link. subst (λ (xs : List Link). IsSilent (link_in xs link)) (sym a.links) (h link);
    }) w arrived loose

    -- ---- a status that is told

    -- flows that are rerouted are held by that
    controlled-passes : (status : RouteStatus) (its destination : ℕ) (n : Node WholeQueues)
        → StaysFit c n (with_parts n (controlled c its destination status (record n.parts { timers = timed_status c its destination status n.parts.timers })))
        → IsAside its destination
        → Pass n (with_parts n (controlled c its destination status (record n.parts { timers = timed_status c its destination status n.parts.timers })))
    controlled-passes status its destination n stay away =
        let p : Parts = record n.parts { timers = timed_status c its destination status n.parts.timers } in
        let next : Parts = forced c its destination status p in
        let selections : List ℕ = rerouted (facts c p) (facts c next) destination in
        let a : AreAlike next (held_by_rerouting c destination selections next) = held-alike c destination selections next in
        alike-passes n (controlled c its destination status p) stay (record { links = a.links; changeovers = a.changeovers; codes = a.codes; lost = a.lost; late = a.late })
        (λ procedure sls. ap (λ (h : HoldSet). hold_by c z j h procedure sls) (held-holds c destination selections next) ∙ reroute-leaves destination selections next.holds procedure sls)
        (still-open its destination status n (controlled c its destination status p) (held-routes c destination selections next) away)

    -- where what is said isn't about the point that says it
    heard-passes : (status : RouteStatus) (its destination : ℕ) (n : Node WholeQueues) → StaysFit c n (with_parts n (with_status_heard c its destination status n.parts))
        → IsAside its destination → Pass n (with_parts n (with_status_heard c its destination status n.parts))
    heard-passes Prohibited its destination n stay away =
        alike-passes n (with_status_heard c its destination Prohibited n.parts) stay (record { links = refl; changeovers = refl; codes = refl; lost = refl; late = refl }) (λ procedure sls. refl)
        (still-open its destination Prohibited n (with_status_heard c its destination Prohibited n.parts) refl away)
    heard-passes Restricted its destination n stay away = controlled-passes Restricted its destination n stay away
    heard-passes Allowed its destination n stay away = controlled-passes Allowed its destination n stay away

    apply-passes : (x : Heard) (status : RouteStatus) (its destination : ℕ) (n : Node WholeQueues) → StaysFit c n (apply_route_status whole c x its destination status n).left
        → (x ≡ hears.Changed → IsAside its destination) → Pass n (apply_route_status whole c x its destination status n).left
    apply-passes hears.Ignored status its destination n stay away = passes-none c z j (at c z j w n arrived loose)
    apply-passes hears.Unchanged status its destination n stay away = passes-none c z j (at c z j w n arrived loose)
    apply-passes hears.Changed status its destination n stay away = heard-passes status its destination n stay (away refl)

    pub on_route_status-passes : (status : RouteStatus) (route : Result (ℕ × ℕ) Outcome) (n : Node WholeQueues) → KnowsPoints c n → IsUntold route → Pass n (on_route_status whole c status route n).left
    on_route_status-passes status (Ok (its, destination)) n knows untold =
        apply-passes (told.heard (facts c n.parts) n.parts.told its destination status) status its destination n (on_route_status-steps (rules-of (fit-steps c)) status (Ok (its, destination)) n)
        (λ e. record {
          beyond = λ same. other-set (set c z j) its (λ i. its-own e i (same ∙ its-place (untold its destination refl (sym i) same)));
          between = λ same. other-set (set c z j) its (λ i. its-own e i same);
        })
      where
        other-set : (a b : ℕ) → a ≢ b → nat_eq a b ≡ false
        other-set a b d = not-same a b d

        -- where the point is the other, their places are one
        its-place : j.base.there ≡ z.own → j.destination ≡ j.adjacent
        its-place same =
            let places : Some j.destination ≡ Some j.adjacent = sym j.place ∙ ap (destination_place c) same ∙ j.adjacent_place in
            cc

        its-own : told.heard (facts c n.parts) n.parts.told its destination status ≡ hears.Changed → set c z j ≡ its → destination ≡ j.adjacent → ⊥
        its-own e i same =
            (let no : true ≡ false =
            sym (own-point c z.own (set c z j) j.adjacent n.parts.told j.shares.near_leads j.adjacent_place knows.adjacents)
            ∙ ap (λ (k : ℕ). is_own_point n.parts.told k j.adjacent) i
            ∙ ap (is_own_point n.parts.told its) (sym same)
            ∙ heard-away (is_own_point n.parts.told its destination) (told.heard_of (status_of (facts c n.parts) destination its) status) e in
            true≢false no)
    on_route_status-passes status (Err outcome) n knows untold = passes-none c z j (at c z j w n arrived loose)

    -- ---- a test

    tested-passes : (status : Option RouteStatus) (its destination : ℕ) (n : Node WholeQueues) → Pass n (send_route_status whole c status its destination n)
    tested-passes (Some status) its destination n = sent (is_led c (route_message c its destination status) n.parts)
      where
        next : Node WholeQueues
        next = with_parts n (answered_parts its destination status n.parts)

        sent : (b : Bool) → Pass n (if b then send_routed whole c (route_message c its destination status) next else n)
        sent true =
            passes-both c z j _ _ _
            (aside-passes c z j w n arrived loose (answered_parts its destination status n.parts)
            ((fit-steps c).told (told.with_told its destination status n.parts.told) n (record { shape = told_shape n.parts.told its destination status; adjacents = refl })) refl refl refl refl refl refl (λ e. e))
            (telling-route c z j w arrived loose next its destination status)
        sent false = passes-none c z j (at c z j w n arrived loose)
    tested-passes None its destination n = passes-none c z j (at c z j w n arrived loose)

    pub on_route_test-passes : (test : RouteTest) (route : Result (ℕ × ℕ) Outcome) (n : Node WholeQueues) → Pass n (on_route_test whole c test route n).left
    on_route_test-passes test (Ok (its, destination)) n = by (is_own_point n.parts.told its destination)
      where
        status : Option RouteStatus
        status = told.answer_to_test (facts c n.parts) n.parts.told its destination test

        by : (b : Bool) → Pass n (if b then answer Ignored n else answer Handled (send_route_status whole c status its destination n)).left
        by true = passes-none c z j (at c z j w n arrived loose)
        by false = tested-passes status its destination n
    on_route_test-passes test (Err outcome) n = passes-none c z j (at c z j w n arrived loose)
