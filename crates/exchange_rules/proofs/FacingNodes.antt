-- Two nodes that face each other: the near end's links and codes mean the same at the far end.
use Rattle.exchange_rules.proofs.Basics.{◌≡◌, ◌<◌, ℕ, zero, suc, List, [], ◌∷◌, None, Some, length, map, get_or, false, sym, ap, ◌∙◌, arith, length-map}
use Rattle.exchange_rules.proofs.Definitions.{Configuration, LinkEntry, set_place, destination_place, IsWell, entry_of, set_of, adjacent_of, peer_of, point_of, link_with_code}
use Rattle.std.proofs.lemmas.List.{get_or-map}
use Rattle.settings.specs.Facing.{IsFacing, LeadsOnlyTo}
use Rattle.exchange_rules.proofs.Onward.{link-set}
use Rattle.exchange_rules.proofs.NamedLinks.{set-named, destination-named, link-named}

-- a list of one element
sole-at : {X : Type 0} (g : X → ℕ) (xs : List X) (n i : ℕ) (d : X) → map g xs ≡ n ∷ [] → i < length xs → g (get_or xs i d) ≡ n
sole-at g [] n i d e l = absurd (omega (arith, l))
sole-at g (x ∷ []) n zero d e l = cc
sole-at g (x ∷ []) n (suc i) d e l = absurd (omega (arith, l))
sole-at g (x ∷ y ∷ xs) n i d e l = absurd cc

pub facing-turned : (near far : Configuration) → IsFacing near far → IsFacing far near
facing-turned near far f = record { near_leads = f.far_leads; far_leads = f.near_leads; network = sym f.network; codes = sym f.codes }

-- ---- a node that leads to one point alone

module _ (c : Configuration) (point : ℕ) (leads : LeadsOnlyTo c point) where
  pub sets-one : length c.sets ≡ 1
  sets-one = sym (length-map c.sets (λ s. s.adjacent)) ∙ ap length leads.adjacent

  pub destinations-one : length c.destinations ≡ 1
  destinations-one = sym (length-map c.destinations (λ d. d.point)) ∙ ap length leads.destination

  pub adjacent-sole : adjacent_of c 0 ≡ point
  adjacent-sole = sole-at (λ s. s.adjacent) c.sets point 0 (record { name = []; adjacent = 0 }) leads.adjacent (omega (arith, sets-one))

  pub destination-sole : point_of c 0 ≡ point
  destination-sole = sole-at (λ d. d.point) c.destinations point 0 (record { point = 0; sets = []; joined = false }) leads.destination (omega (arith, destinations-one))

  module _ (well : IsWell c) where
    -- it is its first destination
    pub destination-found : destination_place c point ≡ Some 0
    destination-found = ap (destination_place c) (sym destination-sole) ∙ destination-named c well 0 (omega (arith, destinations-one))

    pub set-sole : (link : ℕ) → set_of c link ≡ 0
    set-sole link = omega (arith, link-set c well link, sets-one)

    -- each of its links leads there
    pub peer-sole : (link : ℕ) → peer_of c link ≡ point
    peer-sole link = ap (adjacent_of c) (set-sole link) ∙ adjacent-sole

    -- so does its one set
    pub set-found : set_place c point ≡ Some 0
    set-found = ap (set_place c) (sym adjacent-sole) ∙ set-named c well 0 (omega (arith, sets-one))

-- ---- two nodes

module _ (near far : Configuration) (f : IsFacing near far) where
  pub links-alike : length near.links ≡ length far.links
  links-alike = sym (length-map near.links (λ l. l.slc)) ∙ ap length f.codes ∙ length-map far.links (λ l. l.slc)

  pub codes-alike : (link : ℕ) → link < length near.links → (entry_of near link).slc ≡ (entry_of far link).slc
  codes-alike link there =
      let none : LinkEntry = record { name = []; set = 0; slc = 0; share = None } in
      sym (get_or-map (λ l. l.slc) near.links link none 0 there)
      ∙ ap (λ codes. get_or codes link 0) f.codes
      ∙ get_or-map (λ l. l.slc) far.links link none 0 (omega (arith, there, links-alike))

  -- the code of a link of the near end names the same link at the far end
  pub code-means : IsWell far → (link : ℕ) → link < length near.links → link_with_code far near.own (entry_of near link).slc ≡ Some link
  code-means well link there =
      ap (link_with_code far near.own) (codes-alike link there)
      ∙ ap (λ point. link_with_code far point (entry_of far link).slc) (sym (peer-sole far near.own f.far_leads well link))
      ∙ link-named far well link (omega (arith, there, links-alike))
