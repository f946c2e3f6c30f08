-- The other end of each link of a network, by the settings of its nodes.
use Rattle.pair_rules.proofs.Basics.{◌≡◌, ◌≢◌, ◌⊎◌, inl, inr, ◌<◌, ℕ, Bool, true, false, List, [], length, nat_eq, Option, Some, None, refl, ap, sym, ◌∙◌, arith, if◌then◌else◌, option_map, slice_get}
use Rattle.exchange_rules.proofs.Basics.{eqb-true}
use Rattle.exchange_rules.proofs.NamedLinks.{set-named}
use Rattle.exchange_rules.proofs.Onward.{link-set}
use Rattle.exchange_rules.specs.Routing.{adjacent_of, peer_of}
use Rattle.pair_rules.proofs.Definitions.{Configuration, LinkEntry, link_with_code, set_of, set_place}
use Rattle.pair_rules.specs.Sharing.{AreSharing}
use Rattle.neighbour_rules.specs.Neighbours.{end_there}
use Rattle.neighbour_rules.proofs.FarEnds.{AreEnds, HasEnd, ends-turned, has-end, is-line, its-far}
use Rattle.neighbour_rules.proofs.Sharing.{AreFacing, are-facing, far_joint, near_joint}
use Rattle.network_rules.specs.Networks.{NetworkState, Place, other_end}
use Rattle.settings.specs.Well.{IsWell}
use Rattle.network_rules.specs.Pairs.{AreWellOrAlone}
use Rattle.network_rules.specs.Totals.{IsJoined, IsPlaced, is_listed}
use Rattle.network_rules.proofs.Texts.{same-some}

-- the other end of a link
abbrev pub place_of : ((point : ℕ) → Configuration) → Configuration → Option LinkEntry → Option Place
place_of settings c (Some l) = option_map (λ other. record { point = adjacent_of c l.set; link = other }) (link_with_code (settings (adjacent_of c l.set)) c.own l.slc)
place_of settings c None = None

abbrev pub end_at : ((point : ℕ) → Configuration) → (point link : ℕ) → Option Place
end_at settings point link = place_of settings (settings point) (slice_get (settings point).links link)

-- as the state of a network says it
pub ends-are : (settings : (point : ℕ) → Configuration) (w : NetworkState) → ((point : ℕ) → (w.node point).exchange.settings ≡ settings point) → (point link : ℕ)
    → other_end w point link ≡ end_at settings point link
ends-are settings w same point link =
    ap (λ (c : Configuration). place_of (λ k. (w.node k).exchange.settings) c (slice_get c.links link)) (same point) ∙ by (slice_get (settings point).links link)
  where
    by : (entry : Option LinkEntry) → place_of (λ k. (w.node k).exchange.settings) (settings point) entry ≡ place_of settings (settings point) entry
    by (Some l) =
        ap (λ (c : Configuration). option_map (λ (other : ℕ). record { point = adjacent_of (settings point) l.set; link = other }) (link_with_code c (settings point).own l.slc))
        (same (adjacent_of (settings point) l.set))
    by None = refl

no-link : (k n : ℕ) → k < n → n ≡ 0 → ⊥
no-link k n e f = omega (arith, e, f)

-- a point with a link is listed
pub placed-listed : (settings : (point : ℕ) → Configuration) (points : List ℕ) → IsPlaced settings points → (point link : ℕ) → link < length (settings point).links → is_listed points point ≡ true
placed-listed settings points h point link less = by (is_listed points point) refl
  where
    by : (b : Bool) → is_listed points point ≡ b → b ≡ true
    by true e = refl
    by false e = absurd (no-link link (length (settings point).links) less (ap length (h.others point e)))

-- each node keeps every limit, or has no link
pub placed-well : (settings : (point : ℕ) → Configuration) (points : List ℕ) → IsPlaced settings points → AreWellOrAlone settings
placed-well settings points h point = by (is_listed points point) refl
  where
    by : (b : Bool) → is_listed points point ≡ b → IsWell (settings point) ⊎ ((settings point).links ≡ [])
    by true e = inl (h.well point e)
    by false e = inr (h.others point e)

module _ (settings : (point : ℕ) → Configuration) (points : List ℕ) (h : IsJoined settings points) where
  -- as the two nodes say it
  pub from-end : (point link far k : ℕ) → end_there (settings point) (settings far) (slice_get (settings point).links link) ≡ Some k
      → end_at settings point link ≡ Some (record { point = far; link = k })
  from-end point link far k = by (slice_get (settings point).links link)
    where
      found : (l : LinkEntry) (b : Bool) → nat_eq (adjacent_of (settings point) l.set) (settings far).own ≡ b
          → (if b then link_with_code (settings far) (settings point).own l.slc else None) ≡ Some k → place_of settings (settings point) (Some l) ≡ Some (record { point = far; link = k })
      found l false f e = absurd cc
      found l true f e =
          let same : adjacent_of (settings point) l.set ≡ far = eqb-true (adjacent_of (settings point) l.set) (settings far).own f ∙ h.placed.own far in
          ap (λ (n : ℕ). option_map (λ (other : ℕ). record { point = n; link = other }) (link_with_code (settings n) (settings point).own l.slc)) same
          ∙ ap (option_map (λ (other : ℕ). record { point = far; link = other })) e

      by : (entry : Option LinkEntry) → end_there (settings point) (settings far) entry ≡ Some k → place_of settings (settings point) entry ≡ Some (record { point = far; link = k })
      by (Some l) e = found l (nat_eq (adjacent_of (settings point) l.set) (settings far).own) refl e
      by None e = absurd cc

  pub record HasOther (point link : ℕ) : Type 0 where
    pub other : Place
    pub is : end_at settings point link ≡ Some other
    pub sharing : AreSharing (settings point) (settings other.point)
    pub there : end_there (settings point) (settings other.point) (slice_get (settings point).links link) ≡ Some other.link

  pub has-other : (point link : ℕ) → link < length (settings point).links → HasOther point link
  has-other point link less =
      let c : Configuration = settings point in
      let peer : ℕ = peer_of c link in
      let z : Configuration = settings peer in
      let sharing : AreSharing c z = h.shared point link less in
      let facing : AreFacing c z = are-facing c z sharing in
      let own : z.own ≡ peer = h.placed.own peer in
      let mine : set_of c link ≡ facing.near_set =
      same-some (set_of c link) facing.near_set
      (sym (set-named c facing.near_well (set_of c link) (link-set c facing.near_well link)) ∙ ap (set_place c) (sym own) ∙ facing.near_leads.adjacent) in
      let its : HasEnd c z (near_joint c z facing) link = has-end c z (near_joint c z facing) link less mine in
      record {
        other = record { point = peer; link = its.other };
        is =
            from-end point link peer its.other its.is;
        sharing = sharing;
        there = its.is;
      }

  -- the other end of that is the link itself
  pub other-back : (point link : ℕ) (o : HasOther point link) → end_at settings o.other.point o.other.link ≡ Some (record { point = point; link = link })
  other-back point link o =
      let c : Configuration = settings point in
      let z : Configuration = settings o.other.point in
      let facing : AreFacing c z = are-facing c z o.sharing in
      let line : AreEnds z c facing.far_set facing.near_set o.other.link link =
      ends-turned c z facing.near_set facing.far_set link o.other.link (is-line c z (near_joint c z facing) link o.other.link o.there) in
      from-end o.other.point o.other.link point link (its-far z c (far_joint c z facing) o.other.link link line)

  -- it is a link, of a node that is listed
  pub other-inside : (point link : ℕ) (o : HasOther point link) → o.other.link < length (settings o.other.point).links
  other-inside point link o =
      let facing : AreFacing (settings point) (settings o.other.point) = are-facing (settings point) (settings o.other.point) o.sharing in
      let line : AreEnds (settings point) (settings o.other.point) facing.near_set facing.far_set link o.other.link =
      is-line (settings point) (settings o.other.point) (near_joint (settings point) (settings o.other.point) facing) link o.other.link o.there in
      line.there

  pub linked-listed : (point link : ℕ) → link < length (settings point).links → is_listed points point ≡ true
  linked-listed = placed-listed settings points h.placed

  pub other-apart : (point link : ℕ) (o : HasOther point link) → o.other.point ≢ point
  other-apart point link o same =
      (are-facing (settings point) (settings o.other.point) o.sharing).apart (ap (λ (k : ℕ). (settings k).own) (sym same))

  pub well-or-alone : AreWellOrAlone settings
  well-or-alone = placed-well settings points h.placed
