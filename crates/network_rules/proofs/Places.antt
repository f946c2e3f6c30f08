-- Where the other end of a link is: between the two, or elsewhere.
use Rattle.pair_rules.proofs.Basics.{◌≡◌, ◌≢◌, ◌<◌, ℕ, Bool, true, false, not, ◌&&◌, [], Option, Some, None, length, nat_eq, refl, ap, sym, subst, ◌∙◌, arith, if◌then◌else◌, slice_get, slice_index_or, option_map, option_and_then, eq-eqb, nat_tests}
use Rattle.std.proofs.lemmas.List.Quantifiers.{position-Some}
use Rattle.std.proofs.lemmas.Option.{slice_get-get_or}
use Rattle.exchange_rules.proofs.Basics.{eqb-true}
use Rattle.exchange_rules.proofs.Settling.{left-true}
use Rattle.exchange_rules.specs.Messages.{link_in_set}
use Rattle.exchange_rules.specs.Routing.{adjacent_of}
use Rattle.pair_rules.proofs.Definitions.{Configuration, LinkEntry, SetEntry, set_place, link_with_code}
use Rattle.neighbour_rules.specs.Neighbours.{end_there, leads_elsewhere_by}
use Rattle.network_rules.specs.Networks.{NetworkState, Place, changed, NetworkNode, place_there}

-- ---- the nodes after something was done at one

pub node-same : (point : ℕ) (change : NetworkNode → NetworkNode) (w : NetworkState) → (changed point change w).node point ≡ change (w.node point)
node-same point change w = ap (λ (b : Bool). if b then change (w.node point) else w.node point) (eq-eqb point point refl)

pub not-equal : (m n : ℕ) → m ≢ n → nat_eq m n ≡ false
not-equal m n d = grind (arith, nat_tests, d)

pub node-other : (point other : ℕ) (change : NetworkNode → NetworkNode) (w : NetworkState) → other ≢ point → (changed point change w).node other ≡ w.node other
node-other point other change w d = ap (λ (b : Bool). if b then change (w.node other) else w.node other) (not-equal other point d)

-- ---- the link of a code leads to the point by which it was found

same-some : {A : Type 0} (x y : A) → Some x ≡ Some y → x ≡ y
same-some x y e = cc

module _ (c z : Configuration) (point slc link : ℕ) where
  abbrev no_link : LinkEntry
  no_link = record { name = []; set = 0; slc = 0; share = None }

  abbrev no_set : SetEntry
  no_set = record { name = []; adjacent = 0 }

  of-set : (set : ℕ) → set_place c point ≡ Some set → link_in_set c slc set ≡ Some link → leads_elsewhere_by c z (slice_get c.links link) ≡ not (nat_eq point z.own)
  of-set set e f =
      let found : (link < length c.links) × ((nat_eq (slice_index_or c.links link no_link).set set && nat_eq (slice_index_or c.links link no_link).slc slc) ≡ true)
      × ((k : ℕ) → k < link → (nat_eq (slice_index_or c.links k no_link).set set && nat_eq (slice_index_or c.links k no_link).slc slc) ≡ false) = position-Some _ c.links link no_link f in
      let its : (set < length c.sets) × (nat_eq point (slice_index_or c.sets set no_set).adjacent ≡ true)
      × ((k : ℕ) → k < set → nat_eq point (slice_index_or c.sets k no_set).adjacent ≡ false) = position-Some _ c.sets set no_set e in
      let same : (slice_index_or c.links link no_link).set ≡ set = eqb-true _ _ (left-true _ _ found.1) in
      ap (leads_elsewhere_by c z) (slice_get-get_or c.links link no_link found.0)
      ∙ ap (λ (s : ℕ). not (nat_eq (adjacent_of c s) z.own)) same
      ∙ ap (λ (n : ℕ). not (nat_eq n z.own)) (sym (eqb-true _ _ its.1))

  -- and there is a link so named
  in-set : (set : ℕ) → link_in_set c slc set ≡ Some link → link < length c.links
  in-set set f =
      (let found : (link < length c.links) × ((nat_eq (slice_index_or c.links link no_link).set set && nat_eq (slice_index_or c.links link no_link).slc slc) ≡ true)
      × ((k : ℕ) → k < link → (nat_eq (slice_index_or c.links k no_link).set set && nat_eq (slice_index_or c.links k no_link).slc slc) ≡ false) = position-Some _ c.links link no_link f in
      found.0)

  pub named-inside : link_with_code c point slc ≡ Some link → link < length c.links
  named-inside e = by (set_place c point) e
    where
      by : (set : Option ℕ) → option_and_then (link_in_set c slc) set ≡ Some link → link < length c.links
      by (Some set) f = in-set set f
      by None f = absurd cc

  pub named-leads : link_with_code c point slc ≡ Some link → leads_elsewhere_by c z (slice_get c.links link) ≡ not (nat_eq point z.own)
  named-leads e = by (set_place c point) refl
    where
      by : (set : Option ℕ) → set_place c point ≡ set → leads_elsewhere_by c z (slice_get c.links link) ≡ not (nat_eq point z.own)
      by (Some set) f = of-set set f (sym (ap (option_and_then (link_in_set c slc)) f) ∙ e)
      by None f = absurd (let no : None ≡ Some link = sym (ap (option_and_then (link_in_set c slc)) f) ∙ e in cc)

  pub named-away : link_with_code c point slc ≡ Some link → nat_eq point z.own ≡ false → leads_elsewhere_by c z (slice_get c.links link) ≡ true
  named-away e d = named-leads e ∙ ap not d

-- ---- the other end of a link

module _ (w : NetworkState) (c : Configuration) where
  -- it was found by this point, and a code
  pub record IsNamed (there : Place) : Type 0 where
    pub slc : ℕ
    pub named : link_with_code (w.node there.point).exchange.settings c.own slc ≡ Some there.link

  pub place-named : (entry : Option LinkEntry) (there : Place) → place_there w c entry ≡ Some there → IsNamed there
  place-named (Some l) there e = by (link_with_code (w.node (adjacent_of c l.set)).exchange.settings c.own l.slc) refl e
    where
      by : (o : Option ℕ) → link_with_code (w.node (adjacent_of c l.set)).exchange.settings c.own l.slc ≡ o
          → option_map (λ (other : ℕ). record { point = adjacent_of c l.set; link = other }) o ≡ Some there → IsNamed there
      by (Some other) f g = subst IsNamed (same-some (record { point = adjacent_of c l.set; link = other }) there g) (record { slc = l.slc; named = f })
      by None f g = absurd cc
  place-named None there e = absurd cc

  -- of a link of the node with these settings, and the node at another point
  pub data Leads (far : ℕ) (entry : Option LinkEntry) : Type 0 where
    nowhere : place_there w c entry ≡ None → end_there c (w.node far).exchange.settings entry ≡ None → Leads far entry
    between : (other : ℕ) → place_there w c entry ≡ Some (record { point = far; link = other }) → end_there c (w.node far).exchange.settings entry ≡ Some other
        → leads_elsewhere_by c (w.node far).exchange.settings entry ≡ false → Leads far entry
    elsewhere : (there : Place) → place_there w c entry ≡ Some there → there.point ≢ far → end_there c (w.node far).exchange.settings entry ≡ None
        → leads_elsewhere_by c (w.node far).exchange.settings entry ≡ true → Leads far entry

  abbrev placed : (point : ℕ) → Option ℕ → Option Place
  placed point o = option_map (λ (other : ℕ). record { point = point; link = other }) o

  abbrev found_at : LinkEntry → (point : ℕ) → Option ℕ
  found_at l point = link_with_code (w.node point).exchange.settings c.own l.slc

  module _ (far : ℕ) (l : LinkEntry) where
    abbrev z : Configuration
    z = (w.node far).exchange.settings

    end-there : (b : Bool) (o : Option ℕ) → nat_eq (adjacent_of c l.set) z.own ≡ b → found_at l far ≡ o → end_there c z (Some l) ≡ (if b then o else None)
    end-there b o e f = ap (λ (d : Bool). if d then found_at l far else None) e ∙ ap (λ (n : Option ℕ). if b then n else None) f

    leads-far : (o : Option ℕ) → nat_eq (adjacent_of c l.set) z.own ≡ true → adjacent_of c l.set ≡ far → found_at l far ≡ o → Leads far (Some l)
    leads-far (Some other) e f g =
        between other (ap (λ (point : ℕ). placed point (found_at l point)) f ∙ ap (placed far) g) (end-there true (Some other) e g) (ap not e)
    leads-far None e f g = nowhere (ap (λ (point : ℕ). placed point (found_at l point)) f ∙ ap (placed far) g) (end-there true None e g)

    leads-on : (o : Option ℕ) → nat_eq (adjacent_of c l.set) z.own ≡ false → z.own ≡ far → found_at l (adjacent_of c l.set) ≡ o → Leads far (Some l)
    leads-on (Some other) e own g =
        elsewhere (record { point = adjacent_of c l.set; link = other }) (ap (placed (adjacent_of c l.set)) g)
        (λ same. (let no : true ≡ false = sym (eq-eqb (adjacent_of c l.set) z.own (same ∙ sym own)) ∙ e in absurd cc))
        (end-there false (found_at l far) e refl) (ap not e)
    leads-on None e own g = nowhere (ap (placed (adjacent_of c l.set)) g) (end-there false (found_at l far) e refl)

    leads-by : (b : Bool) → nat_eq (adjacent_of c l.set) z.own ≡ b → z.own ≡ far → Leads far (Some l)
    leads-by true e own = leads-far (found_at l far) e (eqb-true (adjacent_of c l.set) z.own e ∙ own) refl
    leads-by false e own = leads-on (found_at l (adjacent_of c l.set)) e own refl

  pub leads : (far : ℕ) (entry : Option LinkEntry) → (w.node far).exchange.settings.own ≡ far → Leads far entry
  leads far None own = nowhere refl refl
  leads far (Some l) own = leads-by far l (nat_eq (adjacent_of c l.set) (w.node far).exchange.settings.own) refl own
