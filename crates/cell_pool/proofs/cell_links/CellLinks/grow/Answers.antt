-- A cell that was never used is in no list: each list stays as it was.
use Rattle.cell_pool.proofs.Basics.{◌≡◌, ℕ, ◌∷◌, [], ◌++◌, List, length, arith, ap, ◌∙◌, length_push, Chained, walk, rings_of, Linked}
use Rattle.cell_pool.proofs.Taking.{new-unused, rings-grown, shared-grown}
use Rattle.cell_pool.proofs.cell_links.CellLinks.grow.Goals as goal

pub invariant_of-self : goal.invariant_of-self
invariant_of-self c =
    let next : List ℕ = c.self.inside.next.items in
    let chains : List Chained = c.self.inside.chains.items in
    let cell : c.new-cell.result ≡ length next = c.new-cell.ensures ∙ c.len.ensures ∙ c.self.inside.next.ok.0 in
    let none : walk next c.self.inside.spare c.self.inside.free ≡ [] = ap (λ (w : Linked). w.free) c.self.view_is ∙ c.requires.none in
    let rings : rings_of (next ++ length next ∷ []) chains ≡ rings_of next chains = rings-grown next chains (length next) (new-unused _ _ (length next) c.self.invariant.shared) in
    record {
      shared = rw (c.push_reserved.ensures.items, cell, rings, length_push next (length next)) (shared-grown _ (rings_of next chains) (length next) none c.self.invariant.shared);
      marked = rw (c.push_reserved.ensures.items, cell, rings) c.self.invariant.marked;
      few = omega (arith, c.requires.room, ap (λ (w : Linked). w.used) c.self.view_is, ap (λ (w : Linked). w.total) c.self.view_is, ap (length {A = ℕ}) c.push_reserved.ensures.items, length_push next c.new-cell.result);
      room = omega (arith, c.self.invariant.room, c.push_reserved.ensures.capacity);
      small = c.self.invariant.small;
    }

pub returns : goal.returns
returns c =
    let next : List ℕ = c.self.inside.next.items in
    let chains : List Chained = c.self.inside.chains.items in
    let cell : c.new-cell.result ≡ length next = c.new-cell.ensures ∙ c.len.ensures ∙ c.self.inside.next.ok.0 in
    let rings : rings_of (next ++ length next ∷ []) chains ≡ rings_of next chains = rings-grown next chains (length next) (new-unused _ _ (length next) c.self.invariant.shared) in
    rw (← c.self.view_is, c.push_reserved.ensures.items, cell) (λ i. record {
      free = length next ∷ [];
      rings = rings i;
      used = length_push next (length next) i;
      total = c.self.inside.total;
    })
