-- Nodes that are looked at one by one, and the node to which a link leads.
use Rattle.std.proofs.Common.{◌≡◌, ◌<◌, ◌+◌, ℕ, Bool, true, false, List, Some, None, nat_eq, refl, ap, sym, subst, ◌∙◌, arith}
use Rattle.std.specs.Prelude.{position, slice_index_or}
use Rattle.std.proofs.lemmas.Bool.Decides.{nat_tests}
use Rattle.settings.specs.Configuration.{Configuration}
use Rattle.settings.specs.Readings.{set_place}
use Rattle.settings.specs.Sharing.{SharesSet}
use Rattle.node_world.specs.declared.node_making.NodeMaking.{NodeMaking}
use Rattle.node_world.specs.Making.{make_at, make_or, making_for, no_node}
use Rattle.node_world.proofs.Places.{equal, found-at, found-none}

pub same-making : (x y : NodeMaking) → Some x ≡ Some y → x ≡ y
same-making x y e = cc

-- ---- what holds of each up to a place

module _ (P : ℕ → Type 0) (i : ℕ) (before : (j : ℕ) → j < i → P j) (here : P i) where
  by-place : (j : ℕ) (b : Bool) → nat_eq j i ≡ b → j < i + 1 → P j
  by-place j true e l = subst P (sym (equal j i e)) here
  by-place j false e l = before j (below j i e l)
    where
      below : (j i : ℕ) → nat_eq j i ≡ false → j < i + 1 → j < i
      below j i e l = grind (arith, nat_tests, e, l)

  pub one-further : (j : ℕ) → j < i + 1 → P j
  one-further j l = by-place j (nat_eq j i) refl l

-- ---- the node at a point

module _ (xs : List NodeMaking) (c : Configuration) (point : ℕ) where
  pub shares-there : (i : ℕ) (d : NodeMaking) → position (λ (m : NodeMaking). nat_eq m.settings.own point) xs ≡ Some i
      → (make_at xs point).configuration ≡ (slice_index_or xs i d).settings
  shares-there i d e = ap (λ o. (make_or point o).configuration) (found-at (λ (m : NodeMaking). nat_eq m.settings.own point) xs i d e)

  pub none-there : making_for xs point ≡ None → SharesSet c (make_at xs point).configuration → ⊥
  none-there e shares =
      let at : (make_at xs point).configuration ≡ no_node point = ap (λ o. (make_or point o).configuration) e in
      let no : set_place (no_node point) c.own ≡ Some shares.far_set = ap (λ (o : Configuration). set_place o c.own) (sym at) ∙ shares.far_leads.adjacent in cc

  pub shares-none : position (λ (m : NodeMaking). nat_eq m.settings.own point) xs ≡ None → SharesSet c (make_at xs point).configuration → ⊥
  shares-none e = none-there (found-none (λ (m : NodeMaking). nat_eq m.settings.own point) xs e)
