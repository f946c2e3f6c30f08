-- A link of the two enters service, and the links lose their flows to it in their order: which line each flow to the
-- other node takes meanwhile, and what holds it.
use Rattle.pair_rules.proofs.Basics.{◌≡◌, ◌≢◌, ◌<◌, ◌≤◌, ◌&&◌, ◌⊎◌, inl, inr, ℕ, suc, Bool, true, false, length, Option, Some, None, refl, ap, sym, subst, ◌∙◌, nat_eq, nat_lt, arith, option_map, if◌then◌else◌, ⊎_elim, cases_order, le-ltb, lt-ltb, List}
use Rattle.pair_rules.proofs.Definitions.{SELECTIONS, Flow, Configuration, HoldSet, with_flows, Procedure, flows_leave, Link, is_in_service, link_in, chosen_link, Node, Parts, down, in_service, in_traffic, link_at, link_of, WholeQueues, whole, facts, hold_flows, is_taken_back, loses_flows, Fits, StaysFit, fit-steps, IsAlike, AddsOnly, StaysOrIsHeld}
use Rattle.flow_hold.specs.Holds as hold
use Rattle.flow_hold.specs.declared.procedure.Procedure.TheVariants as held_by
use Rattle.flow_hold.proofs.FlowPairs.{flows_has, flows_keep}
use Rattle.exchange_rules.proofs.Basics.{eqb-true}
use Rattle.exchange_rules.proofs.Belonging.{chosen_listed}
use Rattle.exchange_rules.proofs.Settling.{left-true, right-true}
use Rattle.exchange_rules.proofs.SteppingReturns.{Went, all-went, hold_flows-steps}
use Rattle.exchange_rules.proofs.TakenBack.{taken-so}
use Rattle.pair_moves.specs.Ends as ends
use Rattle.pair_rules.proofs.World.{heard, World}
use Rattle.pair_rules.proofs.Going.{Goes, goes-both}
use Rattle.pair_rules.proofs.Routes.{and-more, and-true, eq-self, lt-true}
use Rattle.pair_rules.proofs.Turns.{turned_route}
use Rattle.neighbour_rules.proofs.World.{code_of, holds_of, procedure_of, reading, route_of, shown_by}
use Rattle.neighbour_rules.proofs.Good.{Good, Joint, set}
use Rattle.neighbour_rules.proofs.Lines.{at-line}
use Rattle.neighbour_rules.proofs.Entries.{IsKnown, keeps-or-takes, link-there}
use Rattle.neighbour_rules.proofs.Falling.{hold_by, holds-by}
use Rattle.neighbour_rules.proofs.Routes.{IsRouted, is-routed}
use Rattle.neighbour_rules.proofs.Unseen.{own}

-- ---- the link of a flow meanwhile

turned-past : (former many : ℕ) (after : Option ℕ) → former < many → turned_route (Some former) after many ≡ after
turned-past former many after l = ap (λ (b : Bool). if b then after else Some former) (lt-ltb former many l)

turned-yet : (former many : ℕ) (after : Option ℕ) → many ≤ former → turned_route (Some former) after many ≡ Some former
turned-yet former many after l = ap (λ (b : Bool). if b then after else Some former) (le-ltb former many l)

-- ---- a link that began to carry traffic

pub record IsEntry (c : Configuration) (link : ℕ) (p q : Parts) : Type 0 where
  pub known : IsKnown c link p q
  pub there : link < length c.links
  pub up : down p link ≡ false
  pub still_up : down q link ≡ false
  pub unserved : in_traffic p link ≡ false
  pub serves : in_service q link ≡ true
  pub before : heard p link ≡ true
  pub still : heard q link ≡ true
  pub others : (other : ℕ) → other ≢ link → link_at q other ≡ link_at p other

module _ (c : Configuration) (link : ℕ) (p : Parts) (first : Node WholeQueues) (i : IsEntry c link p first.parts) where
  -- the flows of a link that loses some are held
  abbrev pub given : Option ℕ → (other : ℕ) → Node WholeQueues → Node WholeQueues
  given code other n = hold_flows whole c (facts c p) (facts c first.parts) code link other n

  abbrev pub test : (other : ℕ) → (destination sls : ℕ) → Bool
  test other = is_taken_back (facts c p) (facts c first.parts) other link

  -- a link that loses flows serves
  pub serves-still : (n : Node WholeQueues) (k : ℕ) → IsAlike whole c n first → in_service n.parts k ≡ in_service first.parts k
  serves-still n k a = ap (λ (links : List Link). is_in_service (link_in links k).alignment) a.links

  pub loser-serves : (n : Node WholeQueues) (other : ℕ) → IsAlike whole c n first → loses_flows c (facts c p) (facts c first.parts) other link ≡ true → in_service n.parts other ≡ true
  loser-serves n other a e =
      let h : Went link p other = all-went c link p (facts c first.parts) other e in
      serves-still n other a ∙ ap (λ (l : Link). is_in_service l.alignment) (i.others other h.apart) ∙ h.served

  pub given-fit : (code : Option ℕ) (other : ℕ) (n : Node WholeQueues) → IsAlike whole c n first → loses_flows c (facts c p) (facts c first.parts) other link ≡ true → StaysFit c n (given code other n)
  given-fit code other n a e =
      hold_flows-steps (fit-steps c) (facts c p) (facts c first.parts) code link other n (serves-still n link a ∙ i.serves) (loser-serves n other a e)

module _ (c z : Configuration) (j : Joint c z) where
  -- no other procedure that is shown is the time of a link of the two
  pub apart-time : (link : ℕ) (one : ends.Procedure) → link < length c.links → one ≢ ends.Time (code_of c link) → procedure_of c j.base.there (set c z j) one ≢ held_by.Time link
  apart-time link (ends.Changeover k) l apart e = absurd cc
  apart-time link (ends.Code code) l apart e = absurd cc
  apart-time link (ends.Time k) l apart e =
      let same : own c z j k ≡ link = cc in
      apart (ap ends.Time (sym (at-line c j.near_well (set c z j) link k l same).its_code))

  -- a flow leaves a link for the one that entered
  pub record Leaves (p q : Parts) (link other : ℕ) (flow : Flow) : Type 0 where
    pub selection : nat_lt flow.sls SELECTIONS ≡ true
    pub point : flow.point ≡ j.base.there
    pub was : chosen_link (facts c p) j.destination flow.sls ≡ Some other
    pub takes : chosen_link (facts c q) j.destination flow.sls ≡ Some link

  -- the line that a flow to the other takes when n links have given their flows back
  abbrev pub route_at : (p q : Parts) → (many : ℕ) → Flow → Option ℕ
  route_at p q many flow =
      if nat_eq flow.point j.base.there && nat_lt flow.sls SELECTIONS then option_map (code_of c) (turned_route (link_of c p flow) (link_of c q flow) many) else None

  abbrev line_if : (test : Bool) → Option ℕ → Option ℕ
  line_if test link = if test then option_map (code_of c) link else None

  module _ (p q : Parts) (flow : Flow) where
    abbrev former_link : Option ℕ
    former_link = chosen_link (facts c p) j.destination flow.sls

    abbrev later_link : Option ℕ
    later_link = chosen_link (facts c q) j.destination flow.sls

    -- for flows to the other
    module _ (few : nat_lt flow.sls SELECTIONS ≡ true) (to : flow.point ≡ j.base.there) where
      passes-test : (nat_eq flow.point j.base.there && nat_lt flow.sls SELECTIONS) ≡ true
      passes-test = and-true (nat_eq flow.point j.base.there) (nat_lt flow.sls SELECTIONS) (ap (λ (k : ℕ). nat_eq k j.base.there) to ∙ eq-self j.base.there) few

      at-turn : (many : ℕ) (o : Option ℕ) → former_link ≡ o → route_at p q many flow ≡ option_map (code_of c) (turned_route o later_link many)
      at-turn many o e =
          ap (λ (b : Bool). line_if b (turned_route (link_of c p flow) (link_of c q flow) many)) passes-test
          ∙ ap (λ (x : Option ℕ). option_map (code_of c) (turned_route x (link_of c q flow) many)) (link-there c z j p flow to ∙ e)
          ∙ ap (λ (x : Option ℕ). option_map (code_of c) (turned_route o x many)) (link-there c z j q flow to)

      same-turn : (one two : ℕ) (o : Option ℕ) → former_link ≡ o → turned_route o later_link one ≡ turned_route o later_link two → route_at p q one flow ≡ route_at p q two flow
      same-turn one two o e f = at-turn one o e ∙ ap (option_map (code_of c)) f ∙ sym (at-turn two o e)

  -- a link's turn comes: of each flow the line stays, or it leaves that link
  pub turn-of : (p q : Parts) (link other : ℕ) (flow : Flow) → IsKnown c link p q → (route_at p q (suc other) flow ≡ route_at p q other flow) ⊎ Leaves p q link other flow
  turn-of p q link other flow i = by (nat_eq flow.point j.base.there && nat_lt flow.sls SELECTIONS) refl
    where
      at : (few : nat_lt flow.sls SELECTIONS ≡ true) (to : flow.point ≡ j.base.there) (o : Option ℕ) → former_link p q flow ≡ o → (route_at p q (suc other) flow ≡ route_at p q other flow) ⊎ Leaves p q link other flow
      at few to None e = inl (same-turn p q flow few to (suc other) other None e refl)
      at few to (Some former) e =
          ⊎_elim
          (λ (its : former ≡ other).
          let was : former_link p q flow ≡ Some other = e ∙ ap (λ (k : ℕ). Some k) its in
          ⊎_elim
          (λ (stays : later_link p q flow ≡ Some other).
          inl (same-turn p q flow few to (suc other) other (Some other) was (turned-past other (suc other) (later_link p q flow) (omega arith) ∙ stays ∙ sym (turned-yet other other (later_link p q flow) (omega arith)))))
          (λ (takes : later_link p q flow ≡ Some link). inr (record { selection = few; point = to; was = was; takes = takes }))
          (keeps-or-takes c p q link j.destination flow.sls other i was))
          (λ (apart : (former < other) ⊎ (other < former)).
          inl (same-turn p q flow few to (suc other) other (Some former) e
          (⊎_elim
          (λ (l : former < other). turned-past former (suc other) (later_link p q flow) (omega (arith, l)) ∙ sym (turned-past former other (later_link p q flow) l))
          (λ (l : other < former). turned-yet former (suc other) (later_link p q flow) (omega (arith, l)) ∙ sym (turned-yet former other (later_link p q flow) (omega (arith, l))))
          apart)))
          (cases_order former other)

      by : (b : Bool) → (nat_eq flow.point j.base.there && nat_lt flow.sls SELECTIONS) ≡ b → (route_at p q (suc other) flow ≡ route_at p q other flow) ⊎ Leaves p q link other flow
      by true e =
          at (right-true (nat_eq flow.point j.base.there) (nat_lt flow.sls SELECTIONS) e)
          (eqb-true flow.point j.base.there (left-true (nat_eq flow.point j.base.there) (nat_lt flow.sls SELECTIONS) e)) (former_link p q flow) refl
      by false e =
          inl (ap (λ (b : Bool). line_if b (turned_route (link_of c p flow) (link_of c q flow) (suc other))) e
          ∙ sym (ap (λ (b : Bool). line_if b (turned_route (link_of c p flow) (link_of c q flow) other)) e))

  -- at first each flow has its line still
  pub first-route : (p q : Parts) (flow : Flow) (former : ℕ) → route_of c j.base.there (set c z j) p flow ≡ Some former → route_at p q 0 flow ≡ Some former
  first-route p q flow former e =
      let r : IsRouted c z j p flow former = is-routed c z j p flow former e in
      at-turn p q flow r.selection r.point 0 (Some r.link) r.chosen
      ∙ ap (option_map (code_of c)) (turned-yet r.link 0 (later_link p q flow) (omega arith))
      ∙ ap (λ (k : ℕ). Some k) r.coded

  -- in the end each has the one that it takes now
  pub last-route : (p q : Parts) (flow : Flow) → route_at p q (length c.links) flow ≡ route_of c j.base.there (set c z j) q flow
  last-route p q flow = by (nat_eq flow.point j.base.there && nat_lt flow.sls SELECTIONS) refl
    where
      turned : (o : Option ℕ) → former_link p q flow ≡ o → turned_route o (later_link p q flow) (length c.links) ≡ later_link p q flow
      turned None e = refl
      turned (Some former) e = turned-past former (length c.links) (later_link p q flow) (chosen_listed c p j.destination flow.sls former e).there

      by : (b : Bool) → (nat_eq flow.point j.base.there && nat_lt flow.sls SELECTIONS) ≡ b → route_at p q (length c.links) flow ≡ route_of c j.base.there (set c z j) q flow
      by true e =
          let few : nat_lt flow.sls SELECTIONS ≡ true = right-true (nat_eq flow.point j.base.there) (nat_lt flow.sls SELECTIONS) e in
          let to : flow.point ≡ j.base.there = eqb-true flow.point j.base.there (left-true (nat_eq flow.point j.base.there) (nat_lt flow.sls SELECTIONS) e) in
          at-turn p q flow few to (length c.links) (former_link p q flow) refl
          ∙ ap (option_map (code_of c)) (turned (former_link p q flow) refl ∙ sym (link-there c z j q flow to))
          ∙ sym (ap (λ (b : Bool). line_if b (link_of c q flow)) e)
      by false e =
          ap (λ (b : Bool). line_if b (turned_route (link_of c p flow) (link_of c q flow) (length c.links))) e
          ∙ sym (ap (λ (b : Bool). line_if b (link_of c q flow)) e)

  -- ---- by moves, as flows change their lines

  pub record PassesBy (one two : Flow → Option ℕ) (v u : World) : Type 0 where
    pub goes : Good c z j v → Goes (reading c.own z.own j.base) (shown_by c z (set c z j) j.shares.far_set j.base one v) (shown_by c z (set c z j) j.shares.far_set j.base two u)
    pub good : Good c z j v → Good c z j u

  pub by-both : (one two three : Flow → Option ℕ) (u v w : World) → PassesBy one two u v → PassesBy two three v w → PassesBy one three u w
  by-both one two three u v w p q = record {
    goes = λ g.
        goes-both (reading c.own z.own j.base) (shown_by c z (set c z j) j.shares.far_set j.base one u) (shown_by c z (set c z j) j.shares.far_set j.base two v) (shown_by c z (set c z j) j.shares.far_set j.base three w)
        (p.goes g) (q.goes (p.good g));
    good = λ g. q.good (p.good g);
  }

  module _ (link : ℕ) (p : Parts) (first : Node WholeQueues) (i : IsEntry c link p first.parts) where
    abbrev pub route : (many : ℕ) → Flow → Option ℕ
    route many = route_at p first.parts many

    -- a hold begins
    pub adds : (old new : Parts) (procedure : Procedure) (its : ends.Procedure) (other : ℕ) → new.holds ≡ with_flows old.holds procedure (test c link p first i other)
        → ((one : ends.Procedure) → one ≢ its → procedure_of c j.base.there (set c z j) one ≢ procedure) → AddsOnly (holds_of c j.base.there (set c z j) old) its (holds_of c j.base.there (set c z j) new)
    adds old new procedure its other e apart = record {
      kept = λ one flow f.
          holds-by c z j new one flow
          ∙ ap (λ (h : HoldSet). nat_eq flow.point j.base.there && hold_by c z j h one flow.sls) e
          ∙ and-more (nat_eq flow.point j.base.there) (hold_by c z j old.holds one flow.sls) (hold_by c z j (with_flows old.holds procedure (test c link p first i other)) one flow.sls)
          (flows_keep old.holds procedure (procedure_of c j.base.there (set c z j) one) (test c link p first i other) j.destination flow.sls)
          (sym (holds-by c z j old one flow) ∙ f);
      same = λ one flow d.
          holds-by c z j new one flow
          ∙ ap (λ (h : HoldSet). nat_eq flow.point j.base.there && hold_by c z j h one flow.sls) e
          ∙ ap (λ (b : Bool). nat_eq flow.point j.base.there && b)
          (flows_leave old.holds procedure (procedure_of c j.base.there (set c z j) one) (test c link p first i other) j.destination flow.sls (apart one d))
          ∙ sym (holds-by c z j old one flow);
    }

    -- of each flow that leaves
    pub leaver-held : (old new : Parts) (procedure : Procedure) (its : ends.Procedure) (other : ℕ) (flow : Flow) → new.holds ≡ with_flows old.holds procedure (test c link p first i other)
        → procedure_of c j.base.there (set c z j) its ≡ procedure → Leaves p first.parts link other flow → hold.may_hold_to old.holds procedure j.destination ≡ true → nat_lt j.destination old.holds.destinations ≡ true
        → holds_of c j.base.there (set c z j) new its flow ≡ true
    leaver-held old new procedure its other flow e named l to there =
        holds-by c z j new its flow
        ∙ ap (λ (h : HoldSet). nat_eq flow.point j.base.there && hold_by c z j h its flow.sls) e
        ∙ ap (λ (one : Procedure). nat_eq flow.point j.base.there && hold.holds (with_flows old.holds procedure (test c link p first i other)) one j.destination flow.sls) named
        ∙ and-true (nat_eq flow.point j.base.there) (hold.holds (with_flows old.holds procedure (test c link p first i other)) procedure j.destination flow.sls)
        (ap (λ (k : ℕ). nat_eq k j.base.there) l.point ∙ eq-self j.base.there)
        (flows_has old.holds procedure (test c link p first i other) j.destination flow.sls
        (and-true (hold.may_hold_to old.holds procedure j.destination) (nat_lt j.destination old.holds.destinations && nat_lt flow.sls SELECTIONS) to
        (and-true (nat_lt j.destination old.holds.destinations) (nat_lt flow.sls SELECTIONS) there l.selection))
        (taken-so (facts c p) (facts c first.parts) other link j.destination flow.sls l.was l.takes))

    -- each flow stays, or is held
    pub stays-or-held : (other : ℕ) (v : World) (its : ends.Procedure) (holds : ends.Procedure → Flow → Bool) → ((flow : Flow) → Leaves p first.parts link other flow → holds its flow ≡ true)
        → (flow : Flow) → StaysOrIsHeld (shown_by c z (set c z j) j.shares.far_set j.base (route other) v) (code_of c other) its (route (suc other)) holds flow
    stays-or-held other v its holds held flow =
        ⊎_elim
        (λ (same : route (suc other) flow ≡ route other flow). inl same)
        (λ (l : Leaves p first.parts link other flow).
        inr (at-turn p first.parts flow l.selection l.point other (Some other) l.was ∙ ap (option_map (code_of c)) (turned-yet other other (later_link p first.parts flow) (omega arith)), held flow l))
        (turn-of p first.parts link other flow i.known)

    -- ---- what there is

    pub destination-there : (n : Node WholeQueues) → Fits c n → nat_lt j.destination n.parts.holds.destinations ≡ true
    destination-there n f = lt-true j.destination n.parts.holds.destinations (subst (λ (k : ℕ). j.destination < k) (sym f.places.parts.holds.destinations) j.there)

    pub time-there : (n : Node WholeQueues) → Fits c n → nat_lt link n.parts.holds.links ≡ true
    time-there n f = lt-true link n.parts.holds.links (subst (λ (k : ℕ). link < k) (sym f.places.parts.holds.links) i.there)
