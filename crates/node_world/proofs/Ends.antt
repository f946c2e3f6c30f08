-- The other end of a link, by what is kept of the nodes, is that of the abstract world.
use Rattle.std.proofs.Common.{◌≡◌, ◌≢◌, ℕ, Bool, true, false, List, Option, Some, None, nat_eq, refl, ap, sym, subst, ◌∙◌}
use Rattle.std.specs.Option.{option_and_then, option_map}
use Rattle.std.specs.Prelude.{slice_get, slice_index_or}
use Rattle.settings.specs.Configuration.{Configuration, LinkEntry}
use Rattle.exchange.specs.Calls.{Kept}
use Rattle.exchange_rules.specs.Messages.{link_with_code}
use Rattle.exchange_rules.specs.Routing.{adjacent_of}
use Rattle.network_rules.specs.Networks.{Place, place_there}
use Rattle.network_datagrams.specs.NetworkWorlds.{HasEnd}
use Rattle.network_gates.specs.GateWorlds.{GateWorld, Node, last_world, new_world, shown}
use Rattle.network_gates.proofs.Running.{all-reach, ends-there}
use Rattle.node_world.specs.Kept.{KeptNode, end_at, end_by, node_at, place_at, points_of}
use Rattle.node_world.specs.Making.{no_node}
use Rattle.node_world.specs.Stands.{IsNodeAt, IsReached, StandsFor}
use Rattle.node_world.proofs.Places.{equal, gets, has-point, node-there}
use Rattle.node_world.proofs.Worlds.{stands-there}

-- it is at another point
end-apart : (points : List ℕ) (w : GateWorld) (r : IsReached points w) (o link : ℕ) (e : HasEnd (shown w) o link) → e.there.point ≢ o
end-apart points w r o link =
    subst (λ (x : GateWorld). (e : HasEnd (shown x) o link) → e.there.point ≢ o) r.last
    (λ e. (ends-there r.make points r.joined (last_world (new_world r.make) r.list) (all-reach r.make points r.joined r.list r.steps) o link e).apart)

same-place : (a b : Place) → Some a ≡ Some b → a ≡ b
same-place a b e = cc

differ : (m n : ℕ) → m ≢ n → nat_eq m n ≡ false
differ m n d = by (nat_eq m n) refl
  where
    by : (b : Bool) → nat_eq m n ≡ b → b ≡ false
    by true e = absurd (d (equal m n e))
    by false e = refl

-- where it is kept
pub record IsEnd (k : List KeptNode) (c : Configuration) (entry : Option LinkEntry) (there : Place) : Type 0 where
  pub far : ℕ
  pub at : place_at there.point k ≡ Some far
  pub is : end_by k c entry ≡ Some (record { place = far; link = there.link })

module _ (k : List KeptNode) (w : GateWorld) (s : StandsFor k w) where
  settings-kept : (point : ℕ) (n : KeptNode) → node_at point k ≡ Some n → n.exchange.settings ≡ (w.node point).books.exchange.settings
  settings-kept point n e = ap (λ (x : Kept). x.settings) (stands-there k w s point n e).exchange.kept

  none-there : (point slc from link : ℕ) → place_at point k ≡ None → link_with_code (w.node point).books.exchange.settings from slc ≡ Some link → ⊥
  none-there point slc from link e f =
      let at : IsNodeAt point None (w.node point) = subst (λ (o : Option KeptNode). IsNodeAt point o (w.node point)) (ap (option_and_then (slice_get k)) e) (s.nodes point) in
      let no : link_with_code (no_node point) from slc ≡ Some link = ap (λ (n : Node). link_with_code n.books.exchange.settings from slc) (sym at) ∙ f in cc

  module _ (near : KeptNode) (c : Configuration) where
    found : (l : LinkEntry) (j : ℕ) → link_with_code (w.node (adjacent_of c l.set)).books.exchange.settings c.own l.slc ≡ Some j → (p : Option ℕ) → place_at (adjacent_of c l.set) k ≡ p
        → IsEnd k c (Some l) (record { point = adjacent_of c l.set; link = j })
    found l j f None e = absurd (none-there (adjacent_of c l.set) l.slc c.own j e f)
    found l j f (Some far) e =
        let q : ℕ = adjacent_of c l.set in
        let n : KeptNode = slice_index_or k far near in
        let got : slice_get k far ≡ Some n = gets k q far near e in
        record {
          far = far;
          at = e;
          is =
              ap (option_and_then (λ (place : ℕ). end_at c l place (slice_get k place))) e
              ∙ ap (end_at c l far) got
              ∙ ap (λ (z : Configuration). option_map (λ (other : ℕ). record { place = far; link = other }) (link_with_code z c.own l.slc)) (settings-kept q n (node-there k q far e ∙ got))
              ∙ ap (option_map (λ (other : ℕ). record { place = far; link = other })) f;
        }

    by-code : (l : LinkEntry) (there : Place) (o : Option ℕ) → link_with_code (w.node (adjacent_of c l.set)).books.exchange.settings c.own l.slc ≡ o
        → option_map (λ (other : ℕ). record { point = adjacent_of c l.set; link = other }) o ≡ Some there → IsEnd k c (Some l) there
    by-code l there None f e = absurd (no-place there e)
      where
        no-place : (there : Place) → None ≡ Some there → ⊥
        no-place there e = cc
    by-code l there (Some j) f e =
        subst (IsEnd k c (Some l)) (same-place (record { point = adjacent_of c l.set; link = j }) there e) (found l j f (place_at (adjacent_of c l.set) k) refl)

    by-entry : (entry : Option LinkEntry) (there : Place) → place_there (shown w) c entry ≡ Some there → IsEnd k c entry there
    by-entry None there e = absurd (no-place there e)
      where
        no-place : (there : Place) → None ≡ Some there → ⊥
        no-place there e = cc
    by-entry (Some l) there e = by-code l there (link_with_code (w.node (adjacent_of c l.set)).books.exchange.settings c.own l.slc) refl e

  module _ (point link place : ℕ) (near : KeptNode) (p : place_at point k ≡ Some place) (near_is : slice_get k place ≡ Some near) (e : HasEnd (shown w) point link) where
    there : node_at point k ≡ Some near
    there = node-there k point place p ∙ near_is

    pub end-kept : IsEnd k near.exchange.settings (slice_get near.exchange.settings.links link) e.there
    end-kept =
        subst (λ (c : Configuration). IsEnd k c (slice_get c.links link) e.there) (sym (settings-kept point near there))
        (by-entry near (w.node point).books.exchange.settings (slice_get (w.node point).books.exchange.settings.links link) e.there e.is)

    -- at another place
    pub elsewhere : nat_eq place end-kept.far ≡ false
    elsewhere =
        differ place end-kept.far
        (λ same.
        end-apart (points_of k) w s.reached point link e
        (sym (has-point k e.there.point end-kept.far near end-kept.at)
        ∙ ap (λ (i : ℕ). (slice_index_or k i near).exchange.settings.own) (sym same)
        ∙ has-point k point place near p))
