-- Two points between which one set alone leads: what concerns the two is put on the links between them alone.
use Rattle.node_moves.proofs.Basics.{◌≡◌, ◌⊎◌, inl, inr, ℕ, Bool, true, false, not, ◌^◌, ◌<◌, ◌&&◌, ◌||◌, List, [], ◌∷◌, length, Option, Some, None, Result, Ok, Err, nat_eq, nat_lt, slice_index_or, refl, ap, sym, subst, ◌∙◌, arith, ⊎_elim, eqb-true, true≢false}
use Rattle.node_moves.proofs.Machine.{Side, Near, Far, opposite, Saying, UserMessage, Order, Answer, Other, Shape, point_at}
use Rattle.node_moves.proofs.Definitions.{Message, flow_of, is_management, dpc_of, opc_of, service_indicator, testing, Management, MgmtFault, read_management, Configuration, IsWell, Parts, entry_of, peer_of, adjacent_of, set_of, link_of}
use Rattle.node_moves.proofs.Reading.{IsShape, KnowsOutside, place_by, place_of, across, other-place, read_says, says_by, says_of, is_long}
use Rattle.node_moves.proofs.Shown.{HasWays, place, at-own}
use Rattle.node_moves.proofs.Heard.{never-odd, own-apart}
use Rattle.node_moves.proofs.Codes.{HasCode, read-fits}
use Rattle.node_moves.proofs.Routed.{no-element, contains-or, no_entry, goes-by-its-sets}
use Rattle.node_moves.proofs.Running.{all_points, point_by, are-all}
use Rattle.node_moves.specs.Networks.{IsNode, is_node}
use Rattle.exchange_rules.proofs.MadeManagement.{code-fits, adjacent-fits}
use Rattle.exchange_rules.specs.Routing.{facts}
use Rattle.mtp3_codec.specs.Management.{link_code_of}
use Rattle.mtp3_codec.specs.declared.management.Management.TheVariants as says
use Rattle.network_moves.specs.Groups.{KeepsToItself, is_within, says_of_group, concerns}
use Rattle.network_moves.specs.Lasting.{is_odd}
use Rattle.routes.specs.Routes.{chosen_link}
use Rattle.settings.specs.Configuration.{DestinationEntry, SetEntry}
use Rattle.settings.specs.Readings.{destination_place}
use Rattle.settings.specs.Sharing.{LeadsAlone, sets_to}
use Rattle.settings.specs.Well.{IsDestination}
use Rattle.std.proofs.lemmas.List.Quantifiers.{position-Some}
use Rattle.std.specs.Option.{option_and_then}
use Rattle.std.specs.Prelude.{Contains}

-- ---- tests

pub either-true : (a b : Bool) → (a || b) ≡ true → (a ≡ true) ⊎ (b ≡ true)
either-true true b e = inl refl
either-true false b e = inr e

pub both-true : (a b : Bool) → a ≡ true → b ≡ true → (a && b) ≡ true
both-true true b e f = f
both-true false b e f = absurd cc

pub each-true : (a b : Bool) → (a && b) ≡ true → (a ≡ true) × (b ≡ true)
each-true true b e = (refl, e)
each-true false b e = absurd cc

pub led-by : (g b w : Bool) → (g ≡ true → b ≡ true → w ≡ true) → (not (g && b) || w) ≡ true
led-by true true w h = h refl refl
led-by true false w h = refl
led-by false b w h = refl

within-by : (g b w : Bool) → g ≡ true → (not (g && b) || w) ≡ true → b ≡ true → w ≡ true
within-by true true w e f i = f
within-by true false w e f i = absurd cc
within-by false b w e f i = absurd cc

-- ---- the two points

abbrev pub is_one_of : (near far point : ℕ) → Bool
is_one_of near far point = nat_eq point near || nat_eq point far

abbrev pub for_one_of : (near far : ℕ) → Message → Bool
for_one_of near far m = is_one_of near far (dpc_of m)

abbrev pub concerning : (near far : ℕ) → Message → Bool
concerning near far = concerns all_points says_of (is_one_of near far) (for_one_of near far)

abbrev pub is_between : (near far link : ℕ) → Bool
is_between near far link = is_within all_points says_of (is_one_of near far) (for_one_of near far) link

-- all points, where the two put what concerns them on links between them alone
abbrev pub hop_points : (near far : ℕ) → Shape
hop_points near far = record all_points { leads = λ link side m. not (is_one_of near far (all_points.point link side) && concerning near far m) || is_between near far link; outside = λ point. not (is_one_of near far point) }

pub are-hop : (near far : ℕ) → IsShape (hop_points near far)
are-hop near far = record { nodes = are-all.nodes; links = are-all.links; points = are-all.points }

-- what concerns the two doesn't depend on where messages may go
pub says-same : (near far : ℕ) (for_it : Bool) (s : Saying) → says_of_group (hop_points near far) says_of (is_one_of near far) (for_one_of near far) for_it s ≡ says_of_group all_points says_of (is_one_of near far) (for_one_of near far) for_it s
says-same near far for_it UserMessage = refl
says-same near far for_it (Order link maker number) = refl
says-same near far for_it (Answer link maker number) = refl
says-same near far for_it Other = refl

pub stays-between : (near far : ℕ) → KeepsToItself (hop_points near far) says_of (is_one_of near far) (for_one_of near far)
stays-between near far = record {
  inside = λ point e. ap not e;
  stays = λ place m here leads of. within-by (is_one_of near far (point_at all_points place)) (concerning near far m) (is_between near far place.link) here leads
      (sym (says-same near far (for_one_of near far m) (says_of m)) ∙ of);
}

-- to them all others are outside, and so is who has no node
pub hop-outside : (settings : (point : ℕ) → Configuration) (near far : ℕ) → IsNode settings near → IsNode settings far → KnowsOutside settings (hop_points near far)
hop-outside settings near far fn ff = record { each = λ point none. by point none (is_one_of near far point) refl }
  where
    at : (point one : ℕ) → is_node settings point ≡ false → IsNode settings one → nat_eq point one ≡ true → ⊥
    at point one none fx same = true≢false (sym fx ∙ ap (is_node settings) (sym (eqb-true point one same)) ∙ none)

    by : (point : ℕ) → is_node settings point ≡ false → (b : Bool) → is_one_of near far point ≡ b → not (is_one_of near far point) ≡ true
    by point none false e = ap not e
    by point none true e = absurd (⊎_elim (at point near none fn) (at point far none ff) (either-true (nat_eq point near) (nat_eq point far) e))

module _ (near far : ℕ) where
  abbrev group : ℕ → Bool
  group = is_one_of near far

  -- ---- what concerns the two is for one of them

  line-between : (first : Bool) (opc dpc slc : ℕ) → opc < 2 ^ 14 → dpc < 2 ^ 14 → slc < 2 ^ 4 → (group (point_by Near (place_by first opc dpc slc).link) && group (point_by Far (place_by first opc dpc slc).link)) ≡ true → group dpc ≡ true
  line-between true opc dpc slc a b d e =
      let is : point_by Far (place_by true opc dpc slc).link ≡ dpc = omega (arith, a, b, d) in
      subst (λ (k : ℕ). group k ≡ true) is (each-true (group (point_by Near (place_by true opc dpc slc).link)) (group (point_by Far (place_by true opc dpc slc).link)) e).1
  line-between false opc dpc slc a b d e =
      let is : point_by Near (place_by false opc dpc slc).link ≡ dpc = omega (arith, a, b, d) in
      subst (λ (k : ℕ). group k ≡ true) is (each-true (group (point_by Near (place_by false opc dpc slc).link)) (group (point_by Far (place_by false opc dpc slc).link)) e).0

  word-between : (opc dpc slc : ℕ) → opc < 2 ^ 14 → dpc < 2 ^ 14 → slc < 2 ^ 4 → is_between near far (place_of opc dpc slc).link ≡ true → group dpc ≡ true
  unfolding all_points
  word-between opc dpc slc a b d e = line-between (nat_lt opc dpc) opc dpc slc a b d e

  read-concerns : (m : Message) (r : Result Management MgmtFault) → read_management m.sif ≡ r → is_odd (read_says (opc_of m) (dpc_of m) r) ≡ false
      → says_of_group all_points says_of group (for_one_of near far) (for_one_of near far m) (read_says (opc_of m) (dpc_of m) r) ≡ true → group (dpc_of m) ≡ true
  read-concerns m r is plain e = by r is plain e
    where
      opc-low : opc_of m < 2 ^ 14
      opc-low = omega arith

      dpc-low : dpc_of m < 2 ^ 14
      dpc-low = omega arith

      code-low : (word : Management) → read_management m.sif ≡ Ok word → link_code_of word < 2 ^ 4
      code-low word f = (subst HasCode f (read-fits m.sif)).fits

      by : (x : Result Management MgmtFault) → read_management m.sif ≡ x → is_odd (read_says (opc_of m) (dpc_of m) x) ≡ false
          → says_of_group all_points says_of group (for_one_of near far) (for_one_of near far m) (read_says (opc_of m) (dpc_of m) x) ≡ true → group (dpc_of m) ≡ true
      by (Err fault) f p g = absurd cc
      by (Ok (says.ExtendedChangeoverOrder slc number)) f p g = word-between (opc_of m) (dpc_of m) slc opc-low dpc-low (code-low (says.ExtendedChangeoverOrder slc number) f) g
      by (Ok (says.ExtendedChangeoverAcknowledgement slc number)) f p g = word-between (opc_of m) (dpc_of m) slc opc-low dpc-low (code-low (says.ExtendedChangeoverAcknowledgement slc number) f) g
      by (Ok (says.EmergencyChangeoverOrder slc)) f p g = absurd (true≢false (sym never-odd ∙ p))
      by (Ok (says.EmergencyChangeoverAcknowledgement slc)) f p g = absurd (true≢false (sym never-odd ∙ p))
      by (Ok (says.ChangebackDeclaration slc code)) f p g = absurd cc
      by (Ok (says.ChangebackAcknowledgement slc code)) f p g = absurd cc
      by (Ok (says.TransferProhibited point)) f p g = absurd cc
      by (Ok (says.TransferRestricted point)) f p g = absurd cc
      by (Ok (says.TransferAllowed point)) f p g = absurd cc
      by (Ok (says.RouteSetTestProhibited point)) f p g = absurd cc
      by (Ok (says.RouteSetTestRestricted point)) f p g = absurd cc
      by (Ok says.TrafficRestartAllowed) f p g = absurd cc
      by (Ok (says.UserPartUnavailable point user_part cause)) f p g = absurd cc

  pub concerned : (m : Message) → is_odd (says_of m) ≡ false → concerning near far m ≡ true → group (dpc_of m) ≡ true
  unfolding says_of
  concerned m plain e = by (is_long m) (is_management m) (nat_eq (service_indicator m) testing) plain e
    where
      by : (a b d : Bool) → is_odd (says_by a b d m) ≡ false → says_of_group all_points says_of group (for_one_of near far) (for_one_of near far m) (says_by a b d m) ≡ true → group (dpc_of m) ≡ true
      by true b d p g = absurd (true≢false (sym never-odd ∙ p))
      by false false d p g = g
      by false true true p g = absurd cc
      by false true false p g = read-concerns m (read_management m.sif) refl p g

  -- ---- a link to the other is between them

  sides-between : (side : Side) (link : ℕ) → group (all_points.point link side) ≡ true → group (all_points.point link (opposite side)) ≡ true → is_between near far link ≡ true
  sides-between Near link e f = both-true (group (all_points.point link Near)) (group (all_points.point link Far)) e f
  sides-between Far link e f = both-true (group (all_points.point link Near)) (group (all_points.point link Far)) f e

  module _ (c : Configuration) (well : IsWell c) (link : ℕ) where
    pub point-near : all_points.point (place c link).link (place c link).side ≡ c.own
    point-near = at-own all_points are-all c well link

    pub point-far : all_points.point (place c link).link (opposite (place c link).side) ≡ peer_of c link
    point-far =
        let there : place_of (peer_of c link) c.own (entry_of c link).slc ≡ across (place c link) = other-place c.own (peer_of c link) (entry_of c link).slc (own-apart c well link) in
        ap (point_at all_points) (sym there) ∙ are-all.points (peer_of c link) c.own (entry_of c link).slc (adjacent-fits c well (set_of c link)) well.own (code-fits c well link)

    pub link-between : group c.own ≡ true → group (peer_of c link) ≡ true → is_between near far (place c link).link ≡ true
    link-between e f =
        sides-between (place c link).side (place c link).link (ap group point-near ∙ e) (ap group point-far ∙ f)

-- ---- where one set alone leads, a message goes by a link of it

-- the settings of a node list no route to itself
pub not-own : (c : Configuration) → IsWell c → (place : ℕ) → destination_place c c.own ≡ Some place → ⊥
not-own c well place e =
    let found : _ = position-Some (λ (d : DestinationEntry). nat_eq c.own d.point) c.destinations place no_entry e in
    let known : IsDestination c.own (length c.sets) (slice_index_or c.destinations place no_entry) = well.destinations place no_entry found.0 in
    known.point.far (sym (eqb-true c.own (slice_index_or c.destinations place no_entry).point found.1))

module _ (c : Configuration) (p : Parts) (m : Message) (link : ℕ) (ways : HasWays c p) where
  routed-by : (o : Option ℕ) → destination_place c (dpc_of m) ≡ o → option_and_then (λ place. chosen_link (facts c p) place (flow_of m).sls) o ≡ Some link
      → (place : ℕ) × (destination_place c (dpc_of m) ≡ Some place) × Contains (slice_index_or c.destinations place no_entry).sets (set_of c link)
  routed-by None e f = absurd cc
  routed-by (Some place) e f = (place, e, goes-by-its-sets c p place (flow_of m).sls link ways f)

  routed-to : link_of c p (flow_of m) ≡ Some link → (place : ℕ) × (destination_place c (dpc_of m) ≡ Some place) × Contains (slice_index_or c.destinations place no_entry).sets (set_of c link)
  routed-to e = routed-by (destination_place c (dpc_of m)) refl e

  -- to another point to which a set alone leads
  pub goes-there : (point set : ℕ) → LeadsAlone c point set → dpc_of m ≡ point → link_of c p (flow_of m) ≡ Some link → peer_of c link ≡ point
  goes-there point set leads same e =
      let r : (place : ℕ) × (destination_place c (dpc_of m) ≡ Some place) × Contains (slice_index_or c.destinations place no_entry).sets (set_of c link) = routed-to e in
      let its : (slice_index_or c.destinations r.0 no_entry).sets ≡ set ∷ [] = sym (ap (sets_to c) r.1) ∙ ap (λ (k : ℕ). sets_to c (destination_place c k)) same ∙ leads.only in
      let is : set_of c link ≡ set = only-one (subst (λ (sets : List ℕ). Contains sets (set_of c link)) its r.2) in
      let none : SetEntry = record { name = []; adjacent = 0 } in
      let found : _ = position-Some (λ (s : SetEntry). nat_eq point s.adjacent) c.sets set none leads.adjacent in
      ap (adjacent_of c) is ∙ sym (eqb-true point (slice_index_or c.sets set none).adjacent found.1)
    where
      only-one : {s set : ℕ} → Contains (set ∷ []) s → s ≡ set
      only-one {s} {set} h = ⊎_elim (λ (e : set ≡ s). sym e) (λ (no : Contains [] s). no-element s no) (contains-or set [] s h)

  pub goes-elsewhere : IsWell c → dpc_of m ≡ c.own → link_of c p (flow_of m) ≡ Some link → ⊥
  goes-elsewhere well same e =
      let r : (place : ℕ) × (destination_place c (dpc_of m) ≡ Some place) × Contains (slice_index_or c.destinations place no_entry).sets (set_of c link) = routed-to e in
      not-own c well r.0 (ap (destination_place c) (sym same) ∙ r.1)
