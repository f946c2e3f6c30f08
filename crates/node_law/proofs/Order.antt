-- The nodes of a hop share a set, so what neighbours promise each other holds between them: order, too.
use Rattle.std.proofs.Common.{◌≡◌, ◌<◌, ◌&&◌, ◌||◌, ℕ, suc, Bool, true, false, List, [], ◌∷◌, length, Option, Some, None, nat_eq, refl, ap, sym, subst, ◌∙◌, arith}
use Rattle.std.proofs.lemmas.Bool.{eqb-true}
use Rattle.std.proofs.lemmas.List.Folds.{list_any_at}
use Rattle.std.specs.List.{list_any}
use Rattle.std.specs.Prelude.{is_some, slice_index_or}
use Rattle.std.specs.Option.{option_and_then, option_map}
use Rattle.settings.specs.Configuration.{Configuration, LinkEntry, SetEntry}
use Rattle.settings.specs.Readings.{set_place}
use Rattle.settings.specs.Sharing.{LeadsAlone, SharesSet, has_link_of, is_link_of}
use Rattle.exchange_rules.specs.Messages.{link_in_set, link_with_code}
use Rattle.exchange_rules.specs.Routing.{adjacent_of, entry_of, peer_of, set_of}
use Rattle.std.proofs.lemmas.List.Quantifiers.{position-Some}
use Rattle.node_moves.specs.Hops.{IsHop}
use Rattle.node_moves.specs.Laws.{AreTheirs}
use Rattle.node_moves.specs.Networks.{IsNode}
use Rattle.pair_rules.specs.Sharing.{AreSharing}
use Rattle.network_rules.specs.Networks.{NetworkState, first_network}
use Rattle.network_rules.specs.Totals.{IsPlaced}
use Rattle.network_rules.proofs.Joined.{placed-well}
use Rattle.network_rules.proofs.Paths.{last-hop}
use Rattle.node_law.specs.Alike.{AreLinked}
use Rattle.node_law.specs.Hops.{AreHop, AreOfOneNetwork, flows_come_in_order_over_a_hop, hops_share_a_set}
use Rattle.node_law.proofs.Ending.{kept, w}
use Rattle.node_law.proofs.Hops.{hop-kept}
use Rattle.node_law.proofs.Places.{are-theirs, listed-node}
use Rattle.node_law.proofs.Steps.{AreKept}

-- ---- lists

-- an element that passes a test
record HasOne {X : Type 0} (p : X → Bool) (xs : List X) (d : X) : Type 0 where
  at : ℕ
  inside : at < length xs
  passes : p (slice_index_or xs at d) ≡ true

any-place : {X : Type 0} (p : X → Bool) (xs : List X) (d : X) → list_any p xs ≡ true → HasOne p xs d
any-place p [] d e = absurd cc
any-place p (x ∷ xs) d e = by (p x) refl (any-place p xs d) e
  where
    by : (b : Bool) → p x ≡ b → (list_any p xs ≡ true → HasOne p xs d) → (b || list_any p xs) ≡ true → HasOne p (x ∷ xs) d
    by true f more g = record { at = 0; inside = omega arith; passes = f }
    by false f more g = (let rest : HasOne p xs d = more g in record { at = suc rest.at; inside = omega (arith, rest.inside); passes = rest.passes })

both-true : (a b : Bool) → (a && b) ≡ true → (a ≡ true) × (b ≡ true)
both-true true b e = (refl, e)
both-true false b e = absurd cc

both-ways : (a b : Bool) → (a ≡ true → b ≡ true) → (b ≡ true → a ≡ true) → a ≡ b
both-ways true b e f = sym (e refl)
both-ways false true e f = f refl
both-ways false false e f = refl

-- ---- the two have the same codes

module _ (settings : (point : ℕ) → Configuration) (theirs : AreTheirs settings) where
  abbrev no_link : LinkEntry
  no_link = record { name = []; set = 0; slc = 0; share = None }

  abbrev no_set : SetEntry
  no_set = record { name = []; adjacent = 0 }

  -- the links of a set lead to its point
  leads-there : (c : Configuration) (point set : ℕ) → set_place c point ≡ Some set → adjacent_of c set ≡ point
  leads-there c point set e =
      let found : (set < length c.sets) × (nat_eq point (slice_index_or c.sets set no_set).adjacent ≡ true) × ((k : ℕ) → k < set → nat_eq point (slice_index_or c.sets k no_set).adjacent ≡ false) =
      position-Some (λ s. nat_eq point s.adjacent) c.sets set no_set e in
      sym (eqb-true point (slice_index_or c.sets set no_set).adjacent found.1)

  is-some : {A : Type 0} (f : ℕ → A) (o : Option ℕ) → is_some (option_map f o) ≡ true → (k : ℕ) × (o ≡ Some k)
  is-some f (Some k) e = (k, refl)
  is-some f None e = absurd cc

  module _ (near far : ℕ) (fn : IsNode settings near) (near_set far_set : ℕ) (near_leads : set_place (settings near) far ≡ Some near_set) (far_leads : set_place (settings far) near ≡ Some far_set) where
    code-there : (slc : ℕ) → has_link_of near_set slc (settings near).links ≡ true → has_link_of far_set slc (settings far).links ≡ true
    code-there slc e =
        let c : Configuration = settings near in
        let d : Configuration = settings far in
        let one : HasOne (is_link_of near_set slc) c.links no_link = any-place (is_link_of near_set slc) c.links no_link e in
        let its : (nat_eq (set_of c one.at) near_set ≡ true) × (nat_eq (entry_of c one.at).slc slc ≡ true) = both-true (nat_eq (set_of c one.at) near_set) (nat_eq (entry_of c one.at).slc slc) one.passes in
        let there : peer_of c one.at ≡ far = ap (adjacent_of c) (eqb-true (set_of c one.at) near_set its.0) ∙ leads-there c far near_set near_leads in
        let other : (k : ℕ) × (link_with_code (settings (peer_of c one.at)) near (entry_of c one.at).slc ≡ Some k) =
        is-some (λ k. record { point = peer_of c one.at; link = k }) (link_with_code (settings (peer_of c one.at)) near (entry_of c one.at).slc) (theirs.joined near one.at fn one.inside) in
        let named : link_with_code d near slc ≡ Some other.0 =
        ap (λ (p : ℕ). link_with_code (settings p) near slc) (sym there) ∙ ap (link_with_code (settings (peer_of c one.at)) near) (sym (eqb-true (entry_of c one.at).slc slc its.1)) ∙ other.1 in
        let found : (other.0 < length d.links) × (is_link_of far_set slc (slice_index_or d.links other.0 no_link) ≡ true) × ((k : ℕ) → k < other.0 → is_link_of far_set slc (slice_index_or d.links k no_link) ≡ false) =
        position-Some (is_link_of far_set slc) d.links other.0 no_link (sym (ap (option_and_then (link_in_set d slc)) far_leads) ∙ named) in
        list_any_at (is_link_of far_set slc) d.links other.0 no_link found.0 found.1

-- ---- they share a set

module _ (settings : (point : ℕ) → Configuration) (numbers : List ℕ) (placed : IsPlaced settings numbers) (linked : AreLinked (first_network settings)) (near far : ℕ) (fn : IsNode settings near) (ff : IsNode settings far)
    (hop : IsHop settings near far) (network : (settings near).network ≡ (settings far).network) where
  abbrev theirs : AreTheirs settings
  theirs = are-theirs settings numbers placed linked

  shares : SharesSet (settings near) (settings far)
  shares = record {
    near_set = hop.near_set;
    far_set = hop.far_set;
    near_leads = subst (λ (p : ℕ). LeadsAlone (settings near) p hop.near_set) (sym (placed.own far)) hop.near_leads;
    far_leads = subst (λ (p : ℕ). LeadsAlone (settings far) p hop.far_set) (sym (placed.own near)) hop.far_leads;
    network = network;
    codes = λ slc.
        both-ways (has_link_of hop.near_set slc (settings near).links) (has_link_of hop.far_set slc (settings far).links)
        (code-there settings theirs near far fn hop.near_set hop.far_set hop.near_leads.adjacent hop.far_leads.adjacent slc)
        (code-there settings theirs far near ff hop.far_set hop.near_set hop.far_leads.adjacent hop.near_leads.adjacent slc);
  }

  pub sharing : AreSharing (settings near) (settings far)
  sharing = record { near_well = theirs.well near fn; far_well = theirs.well far ff; shares = shares }

-- where the settings of a network are these
pub sharing-kept : (settings : (point : ℕ) → Configuration) (numbers : List ℕ) (placed : IsPlaced settings numbers) → AreLinked (first_network settings) → (z : NetworkState) (stay : AreKept settings z) (near far : ℕ)
    → AreHop numbers z near far → AreOfOneNetwork z near far → AreSharing (settings near) (settings far)
sharing-kept settings numbers placed linked z stay near far h e =
    sharing settings numbers placed linked near far (listed-node settings numbers placed near h.near_there) (listed-node settings numbers placed far h.far_there) (hop-kept settings numbers z stay near far h)
    (ap (λ (c : Configuration). c.network) (sym (stay near)) ∙ e ∙ ap (λ (c : Configuration). c.network) (stay far))

pub all-share : hops_share_a_set
all-share settings numbers moves placed linked near far h e =
    let stay : AreKept settings (w settings numbers moves placed linked) = kept settings numbers moves placed linked in
    subst (λ (c : Configuration). SharesSet c ((w settings numbers moves placed linked).node far).exchange.settings) (sym (stay near))
    (subst (SharesSet (settings near)) (sym (stay far)) (sharing-kept settings numbers placed linked (w settings numbers moves placed linked) stay near far h e).shares)

pub all-in-order : flows_come_in_order_over_a_hop
all-in-order settings numbers moves placed linked near far h t sls =
    last-hop settings moves near far sls placed.own (placed-well settings numbers placed)
    (sharing-kept settings numbers placed linked (w settings numbers moves placed linked) (kept settings numbers moves placed linked) near far h t.network) t.lossless t.punctual
