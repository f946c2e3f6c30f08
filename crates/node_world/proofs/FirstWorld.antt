-- New nodes in code stand for the new world of what they are made of.
use Rattle.std.proofs.Common.{◌≡◌, ◌<◌, ◌+◌, ℕ, zero, suc, Bool, true, false, List, [], ◌∷◌, Option, Some, None, is_some, nat_eq, length, refl, ap, sym, subst, ◌∙◌, arith}
use Rattle.std.proofs.lemmas.Grind.{common_steps}
use Rattle.std.proofs.lemmas.List.Elements.{All-head, All-nil, All-tail}
use Rattle.std.proofs.lemmas.Option.{slice_get-get_or}
use Rattle.std.specs.Option.{option_map}
use Rattle.std.specs.Prelude.{All, find, if◌then◌else◌, map, slice_get}
use Rattle.settings.specs.Configuration.{Configuration, LinkEntry}
use Rattle.settings.specs.Sharing.{SharesSet}
use Rattle.settings.specs.Well.{IsWell}
use Rattle.sctp_moves.proofs.Members.{in-from, some-same}
use Rattle.exchange.specs.Calls.{kept_of}
use Rattle.exchange.proofs.Standing.{stands-first}
use Rattle.exchange_rules.specs.First.{first_state}
use Rattle.exchange_rules.specs.Routing.{adjacent_of, entry_of, peer_of}
use Rattle.pair_rules.specs.Sharing.{AreSharing}
use Rattle.network_rules.specs.Totals.{IsJoined, IsPlaced}
use Rattle.gate_rules.specs.Worlds.{GateMake, Make, new_port}
use Rattle.gate_rules.specs.Octets.{HavePorts}
use Rattle.network_gates.specs.GateWorlds.{new_node, new_world}
use Rattle.network_gates.specs.GatePromises.{settings_of}
use Rattle.node_world.specs.declared.making.GateMaking.{GateMaking}
use Rattle.node_world.specs.declared.node_making.NodeMaking.{NodeMaking}
use Rattle.node_world.specs.Joined.{AreJoined, AreWell, are_apart}
use Rattle.node_world.specs.Kept.{KeptNode, KeptPort, is_at, node_at, points_of}
use Rattle.node_world.specs.Making.{HavePortsAll, Suits, SuitsAll, first_node, first_nodes, first_port, first_ports, gate_make, gate_make_of, its_make, make_at, make_of, make_or, making_for, node_first}
use Rattle.node_world.specs.Stands.{IsNodeAt, IsSentBy, NodeStands, PortStands, StandsFor}
use Rattle.node_world.proofs.FirstPoints.{for-listed, once-there, own}
use Rattle.node_world.proofs.OneByOne.{none-there, same-making}
use Rattle.node_world.proofs.Places.{equal, node-found}

-- ---- a gate

first-port-stands : (link : ℕ) (m : GateMake) → PortStands (first_port link m) (new_port link m)
first-port-stands link m = record {
  gate = refl;
  sent = All-nil (IsSentBy (new_port link m));
  all = λ w one i. absurd (in-from [] one i);
  few = omega arith;
  fewer = λ f. absurd cc;
}

ports-from : (from : ℕ) (gates : List GateMaking) (link : ℕ) (port : KeptPort) → slice_get (first_ports from gates) link ≡ Some port
    → port ≡ first_port (link + from) (gate_make_of (slice_get gates link))
ports-from from [] link port e = grind (arith, common_steps)
ports-from from (g ∷ gates) zero port e =
    let n : from ≡ 0 + from = omega arith in
    sym (some-same e) ∙ ap (λ (i : ℕ). first_port i (gate_make g)) n
ports-from from (g ∷ gates) (suc link) port e =
    let n : link + (from + 1) ≡ suc link + from = omega arith in
    ports-from (from + 1) gates link port e ∙ ap (λ (i : ℕ). first_port i (gate_make_of (slice_get gates link))) n

first-stands : (c : Configuration) (gates : List GateMaking) → IsWell c → NodeStands (first_node c gates) (new_node (make_of c gates))
first-stands c gates well = record {
  exchange = stands-first c (kept_of (first_state c)) well.window.below refl;
  ports = λ link port there.
      let m = gate_make_of (slice_get gates link) in
      let n : link + 0 ≡ link = omega arith in
      subst (λ (k : KeptPort). PortStands k (new_port link m))
      (sym (ports-from 0 gates link port there ∙ ap (λ (i : ℕ). first_port i m) n)) (first-port-stands link m);
}

many-from : (from : ℕ) (gates : List GateMaking) → length (first_ports from gates) ≡ length gates
many-from from [] = refl
many-from from (g ∷ gates) = ap suc (many-from (from + 1) gates)

-- ---- what a node at a point is made of

all-at : (P : NodeMaking → Type 0) (nodes : List NodeMaking) → All P nodes → (place : ℕ) (m : NodeMaking) → slice_get nodes place ≡ Some m → P m
all-at P [] h place m e = absurd cc
all-at P (x ∷ nodes) h zero m e = subst P (same-making x m e) (All-head P x nodes h)
all-at P (x ∷ nodes) h (suc place) m e = all-at P nodes (All-tail P x nodes h) place m e

-- it is among the others, and for that point
record IsFound (nodes : List NodeMaking) (point : ℕ) (m : NodeMaking) : Type 0 where
  pub place : ℕ
  pub at : slice_get nodes place ≡ Some m
  pub own : m.settings.own ≡ point

found : (nodes : List NodeMaking) (point : ℕ) (m : NodeMaking) → making_for nodes point ≡ Some m → IsFound nodes point m
found [] point m e = absurd cc
found (first ∷ nodes) point m e = by (nat_eq first.settings.own point) refl (found nodes point m) e
  where
    by : (b : Bool) → nat_eq first.settings.own point ≡ b → (making_for nodes point ≡ Some m → IsFound nodes point m) → (if b then Some first else making_for nodes point) ≡ Some m
        → IsFound (first ∷ nodes) point m
    by true f rest g =
        let same : first ≡ m = same-making first m g in
        record { place = 0; at = g; own = ap (λ (d : NodeMaking). d.settings.own) (sym same) ∙ equal first.settings.own point f }
    by false f rest g = let its : IsFound nodes point m = rest g in record { place = suc its.place; at = its.at; own = its.own }

-- ---- their points

pub points-are : (ms : List NodeMaking) → points_of (first_nodes ms) ≡ map own ms
points-are [] = refl
points-are (m ∷ ms) = ap (λ (rest : List ℕ). m.settings.own ∷ rest) (points-are ms)

module _ (nodes : List NodeMaking) (apart : are_apart nodes ≡ true) (well : AreWell nodes) (joined : AreJoined nodes) (ports : HavePortsAll nodes) (suit : SuitsAll nodes) where
  abbrev make : (point : ℕ) → Make
  make point = make_at nodes point

  abbrev its : (point : ℕ) → Configuration
  its point = (make_at nodes point).configuration

  own-by : (point : ℕ) (o : Option NodeMaking) → making_for nodes point ≡ o → (make_or point o).configuration.own ≡ point
  own-by point None e = refl
  own-by point (Some m) e = (found nodes point m e).own

  -- ---- the points

  abbrev points : List ℕ
  points = map own nodes

  well-by : (point : ℕ) (o : Option NodeMaking) → making_for nodes point ≡ o → is_some o ≡ true → IsWell (make_or point o).configuration
  well-by point (Some m) e is = let f : IsFound nodes point m = found nodes point m e in well f.place m f.at
  well-by point None e is = absurd cc

  others-by : (point : ℕ) (o : Option NodeMaking) → is_some o ≡ false → (make_or point o).configuration.links ≡ []
  others-by point None is = refl
  others-by point (Some m) is = absurd cc

  is-placed : IsPlaced its points
  is-placed = record {
    own = λ point. own-by point (making_for nodes point) refl;
    once = once-there nodes apart;
    well = λ point e.
        well-by point (making_for nodes point) refl (sym (for-listed nodes point (making_for nodes point) refl) ∙ e);
    others = λ point e.
        others-by point (making_for nodes point) (sym (for-listed nodes point (making_for nodes point) refl) ∙ e);
  }

  -- ---- the links

  -- where a link leads to, a node is made
  far-by : (c : Configuration) (point : ℕ) (o : Option NodeMaking) → making_for nodes point ≡ o → SharesSet c (its point) → is_some o ≡ true
  far-by c point (Some m) e shares = refl
  far-by c point None e shares = absurd (none-there nodes c point e shares)

  shares-by : (point link : ℕ) (l : LinkEntry) (o : Option NodeMaking) → making_for nodes point ≡ o → slice_get (make_or point o).configuration.links link ≡ Some l
      → SharesSet (make_or point o).configuration (its (adjacent_of (make_or point o).configuration l.set)) × IsWell (make_or point o).configuration
  shares-by point link l None e is = absurd cc
  shares-by point link l (Some m) e is =
      let f : IsFound nodes point m = found nodes point m e in (joined f.place m f.at link l is, well f.place m f.at)

  are-sharing : (point link : ℕ) → link < length (its point).links → AreSharing (its point) (its (peer_of (its point) link))
  are-sharing point link less =
      let at = shares-by point link (entry_of (its point) link) (making_for nodes point) refl
      (slice_get-get_or (its point).links link (record { name = []; set = 0; slc = 0; share = None }) less) in
      let peer : ℕ = peer_of (its point) link in
      record {
        near_well = at.1;
        far_well = well-by peer (making_for nodes peer) refl (far-by (its point) peer (making_for nodes peer) refl at.0);
        shares = at.0;
      }

  is-joined : IsJoined (settings_of make) points
  is-joined = record { placed = is-placed; shared = are-sharing }

  -- ---- the nodes

  ports-by : (point : ℕ) (o : Option NodeMaking) → making_for nodes point ≡ o → HavePorts (make_or point o)
  ports-by point None e = λ link. record { own = omega arith; far = omega arith }
  ports-by point (Some m) e = let f : IsFound nodes point m = found nodes point m e in all-at (λ x. HavePorts (its_make x)) nodes ports f.place m f.at

  kept-same : (ms : List NodeMaking) (point : ℕ) → find (is_at point) (first_nodes ms) ≡ option_map node_first (making_for ms point)
  kept-same [] point = refl
  kept-same (m ∷ ms) point = by (nat_eq m.settings.own point) (kept-same ms point)
    where
      by : (b : Bool) → find (is_at point) (first_nodes ms) ≡ option_map node_first (making_for ms point)
          → (if b then Some (node_first m) else find (is_at point) (first_nodes ms)) ≡ option_map node_first (if b then Some m else making_for ms point)
      by true rest = refl
      by false rest = rest

  node-is : (point : ℕ) → node_at point (first_nodes nodes) ≡ option_map node_first (making_for nodes point)
  node-is point = node-found (first_nodes nodes) point ∙ kept-same nodes point

  node-by : (point : ℕ) (o : Option NodeMaking) → making_for nodes point ≡ o → IsNodeAt point (option_map node_first o) (new_node (make_or point o))
  node-by point None e = refl
  node-by point (Some m) e =
      let f : IsFound nodes point m = found nodes point m e in first-stands m.settings m.gates.items (well f.place m f.at)

  many-by : (point : ℕ) (n : KeptNode) (o : Option NodeMaking) → making_for nodes point ≡ o → option_map node_first o ≡ Some n
      → length n.ports ≡ length (make_or point o).configuration.links
  many-by point n None e is = absurd cc
  many-by point n (Some m) e is =
      let f : IsFound nodes point m = found nodes point m e in
      let suits : Suits m.settings m.gates.items = all-at (λ x. Suits x.settings x.gates.items) nodes suit f.place m f.at in
      sym (ap (λ (x : KeptNode). length x.ports) (some-same is)) ∙ many-from 0 m.gates.items ∙ suits.many

  pub first-world : StandsFor (first_nodes nodes) (new_world make)
  first-world = record {
    reached = record {
      make = make;
      joined = subst (IsJoined (settings_of make)) (sym (points-are nodes)) is-joined;
      ports = λ point. ports-by point (making_for nodes point) refl;
      list = [];
      steps = tt;
      last = refl;
    };
    nodes = λ point.
        subst (λ (o : Option KeptNode). IsNodeAt point o (new_node (make point))) (sym (node-is point))
        (node-by point (making_for nodes point) refl);
    gates = λ point n there. many-by point n (making_for nodes point) refl (sym (node-is point) ∙ there);
  }
