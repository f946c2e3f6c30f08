-- The lines that flows to the other node take, and those that they take once a link is down.
use Rattle.pair_rules.proofs.Basics.{◌≡◌, ◌≢◌, ◌&&◌, ℕ, Bool, true, false, [], ◌∷◌, Option, Some, None, refl, ap, sym, ◌∙◌, nat_eq, nat_lt, if◌then◌else◌, option_and_then, option_map, slice_index_or, ⊎_elim, eq-eqb}
use Rattle.pair_rules.proofs.Definitions.{SELECTIONS, Flow, Configuration, Facts, with_link, chosen_link, destination_place, first_route, Parts, facts, link_of}
use Rattle.routes.proofs.Leaving.{goes_or_stays}
use Rattle.exchange_rules.proofs.Basics.{eqb-true}
use Rattle.exchange_rules.proofs.Belonging.{chosen_listed}
use Rattle.exchange_rules.proofs.LoneRoutes.{lone-chosen}
use Rattle.exchange_rules.proofs.Settling.{left-true, right-true}
use Rattle.neighbour_rules.proofs.World.{code_of, route_of}
use Rattle.neighbour_rules.proofs.Good.{Joint, set}
use Rattle.neighbour_rules.proofs.Lines.{own-line}
use Rattle.neighbour_rules.proofs.Unseen.{own}

if-test : (b : Bool) (x : Option ℕ) (k : ℕ) → (if b then x else None) ≡ Some k → b ≡ true
if-test true x k e = refl
if-test false x k e = absurd cc

if-value : (b : Bool) (x : Option ℕ) (k : ℕ) → (if b then x else None) ≡ Some k → x ≡ Some k
if-value true x k e = e
if-value false x k e = absurd cc

-- the link whose code it is
record HasCode (f : ℕ → ℕ) (o : Option ℕ) (code : ℕ) : Type 0 where
  link : ℕ
  is : o ≡ Some link
  coded : f link ≡ code

has-code : (f : ℕ → ℕ) (o : Option ℕ) (code : ℕ) → option_map f o ≡ Some code → HasCode f o code
has-code f (Some link) code e = record { link = link; is = refl; coded = (let same : f link ≡ code = cc in same) }
has-code f None code e = absurd cc

module _ (c z : Configuration) (j : Joint c z) where
  -- a flow that takes a line is one to the other, by the link of that line
  pub record IsRouted (p : Parts) (flow : Flow) (code : ℕ) : Type 0 where
    pub selection : nat_lt flow.sls SELECTIONS ≡ true
    pub point : flow.point ≡ j.base.there
    pub link : ℕ
    pub chosen : chosen_link (facts c p) j.destination flow.sls ≡ Some link
    pub coded : code_of c link ≡ code

  pub is-routed : (p : Parts) (flow : Flow) (code : ℕ) → route_of c j.base.there (set c z j) p flow ≡ Some code → IsRouted p flow code
  is-routed p flow code e =
      let test : (nat_eq flow.point j.base.there && nat_lt flow.sls SELECTIONS) ≡ true = if-test (nat_eq flow.point j.base.there && nat_lt flow.sls SELECTIONS) (option_map (code_of c) (link_of c p flow)) code e in
      let its : HasCode (code_of c) (link_of c p flow) code =
      has-code (code_of c) (link_of c p flow) code (if-value (nat_eq flow.point j.base.there && nat_lt flow.sls SELECTIONS) (option_map (code_of c) (link_of c p flow)) code e) in
      let to : flow.point ≡ j.base.there = eqb-true flow.point j.base.there (left-true (nat_eq flow.point j.base.there) (nat_lt flow.sls SELECTIONS) test) in
      record {
        selection = right-true (nat_eq flow.point j.base.there) (nat_lt flow.sls SELECTIONS) test;
        point = to;
        link = its.link;
        chosen = sym (ap (option_and_then (λ (d : ℕ). chosen_link (facts c p) d flow.sls)) (ap (destination_place c) to ∙ j.place)) ∙ its.is;
        coded = its.coded;
      }

  -- and the other way round
  pub routed-by : (p : Parts) (flow : Flow) (link : ℕ) → flow.point ≡ j.base.there → nat_lt flow.sls SELECTIONS ≡ true → chosen_link (facts c p) j.destination flow.sls ≡ Some link
      → route_of c j.base.there (set c z j) p flow ≡ Some (code_of c link)
  routed-by p flow link to selection e =
      ap (λ (k : ℕ). if nat_eq k j.base.there && nat_lt flow.sls SELECTIONS then option_map (code_of c) (link_of c p flow) else None) to
      ∙ ap (λ (b : Bool). if b && nat_lt flow.sls SELECTIONS then option_map (code_of c) (link_of c p flow) else None) (self j.base.there)
      ∙ ap (λ (b : Bool). if b then option_map (code_of c) (link_of c p flow) else None) selection
      ∙ ap (option_map (code_of c)) (ap (option_and_then (λ (d : ℕ). chosen_link (facts c p) d flow.sls)) (ap (destination_place c) to ∙ j.place) ∙ e)
    where
      self : (k : ℕ) → nat_eq k k ≡ true
      self k = eq-eqb k k refl

  -- it is of the set, and so the one with that code
  pub its-own : (p : Parts) (flow : Flow) (code : ℕ) → slice_index_or p.routes j.destination [] ≡ first_route (set c z j) ∷ [] → (r : IsRouted p flow code) → own c z j code ≡ r.link
  its-own p flow code route r =
      sym (ap (own c z j) r.coded)
      ∙ own-line c j.near_well (set c z j) r.link (chosen_listed c p j.destination flow.sls r.link r.chosen).there
      (lone-chosen c p (set c z j) j.destination flow.sls r.link route r.chosen)

  -- once a link is down, a flow on another line stays there
  pub route-stays : (p q : Parts) (link other : ℕ) (flow : Flow) → facts c q ≡ with_link link false (facts c p) → other ≢ code_of c link → route_of c j.base.there (set c z j) p flow ≡ Some other
      → route_of c j.base.there (set c z j) q flow ≡ Some other
  route-stays p q link other flow e d h =
      let r : IsRouted p flow other = is-routed p flow other h in
      ⊎_elim
      (λ (same : r.link ≡ link). absurd (d (sym r.coded ∙ ap (code_of c) same)))
      (λ (stays : chosen_link (with_link link false (facts c p)) j.destination flow.sls ≡ Some r.link).
      routed-by q flow r.link r.point r.selection (ap (λ (f : Facts). chosen_link f j.destination flow.sls) e ∙ stays) ∙ ap (λ (k : ℕ). Some k) r.coded)
      (goes_or_stays (facts c p) link j.destination flow.sls r.link r.chosen)
