-- The first cell of a list is free: what each list and the free cells are then.
use Rattle.cell_pool.proofs.Basics.{◌≡◌, ℕ, ◌-◌, ◌<◌, ◌≤◌, List, ◌∷◌, length, get_or, arith, ap, ◌∙◌, length-set, length-map, ring_at, Chained, no_cells, walk, cells_of, rings_of, chain_at}
use Rattle.cell_pool.proofs.Walks.{read-is, length-walk}
use Rattle.cell_pool.proofs.Chaining.{ring-cells}
use Rattle.cell_pool.proofs.Taking.{IsFirst, first-freed, rings-freed, free-freed, shared-freed, marked-freed}
use Rattle.cell_pool.proofs.Linking.{within_chains, some_cells}
use Rattle.cell_pool.proofs.cell_links.CellLinks.free_first.Goals as goal

pub index-requires-3 : goal.index-requires-3
index-requires-3 c =
    let inside : c.args.ring < length c.self.inside.chains.items = within_chains c.self.inside _ c.args.ring c.self.view_is c.requires.ring in
    let chain : c.index.result.now ≡ chain_at c.self.inside.chains.items c.args.ring = read-is _ _ _ no_cells inside c.index.ensures in
    let some : 1 ≤ (chain_at c.self.inside.chains.items c.args.ring).count = some_cells c.self.inside _ c.args.ring c.self.view_is inside c.requires.some in
    omega (arith, c.self.inside.next.ok.0, c.index-2.ensures, c.first-cell.ensures, ap (λ (x : Chained). x.first) chain, (first-freed _ _ _ _ c.self.invariant.shared inside some).within)

pub index_mut-requires-2 : goal.index_mut-requires-2
index_mut-requires-2 c =
    let inside : c.args.ring < length c.self.inside.chains.items = within_chains c.self.inside _ c.args.ring c.self.view_is c.requires.ring in
    let chain : c.index.result.now ≡ chain_at c.self.inside.chains.items c.args.ring = read-is _ _ _ no_cells inside c.index.ensures in
    let some : 1 ≤ (chain_at c.self.inside.chains.items c.args.ring).count = some_cells c.self.inside _ c.args.ring c.self.view_is inside c.requires.some in
    omega (arith, c.self.inside.next.ok.0, c.index-4.ensures, c.first-cell.ensures, ap (λ (x : Chained). x.first) chain, (first-freed _ _ _ _ c.self.invariant.shared inside some).within)

pub overflow_add-self : goal.overflow_add-self
overflow_add-self c = omega (arith, c.self.invariant.shared.all, length-walk c.self.inside.next.items c.self.inside.spare c.self.inside.free, c.self.invariant.few, c.self.invariant.small)

pub invariant_of-self : goal.invariant_of-self
invariant_of-self c =
    let next : List ℕ = c.self.inside.next.items in
    let chains : List Chained = c.self.inside.chains.items in
    let free : ℕ = c.self.inside.free in
    let spare : ℕ = c.self.inside.spare in
    let inside : c.args.ring < length chains = within_chains c.self.inside _ c.args.ring c.self.view_is c.requires.ring in
    let chain : c.index.result.now ≡ chain_at chains c.args.ring = read-is _ _ _ no_cells inside c.index.ensures in
    let some : 1 ≤ (chain_at chains c.args.ring).count = some_cells c.self.inside _ c.args.ring c.self.view_is inside c.requires.some in
    let first : IsFirst next (walk next spare free) (rings_of next chains) (chain_at chains c.args.ring) = first-freed _ _ _ _ c.self.invariant.shared inside some in
    let is : c.first-cell.result ≡ (chain_at chains c.args.ring).first = c.first-cell.ensures ∙ ap (λ (x : Chained). x.first) chain in
    let second : c.index-3.result.now ≡ get_or next (chain_at chains c.args.ring).first 0 = read-is _ _ _ 0 first.within (rw (← is, ← c.index-2.ensures) c.index-3.ensures) in
    let rest : List ℕ = walk next ((chain_at chains c.args.ring).count - 1) (get_or next (chain_at chains c.args.ring).first 0) in
    let ring : ring_at (rings_of next chains) c.args.ring ≡ (chain_at chains c.args.ring).first ∷ rest = ring-cells next chains c.args.ring inside ∙ first.cells in
    rw (c.without_first.ensures, c.index-4.ensures, is, second, chain) (record {
      shared = rw (free-freed next chains spare free c.args.ring inside first, rings-freed next chains _ c.args.ring free inside first, length-set next (chain_at chains c.args.ring).first free, ring) (shared-freed _ rest (rings_of next chains) (length next) c.args.ring (chain_at chains c.args.ring).first c.self.invariant.shared ring (omega (arith, inside, length-map chains (cells_of next))));
      marked = rw (rings-freed next chains _ c.args.ring free inside first) (marked-freed next chains c.args.ring c.self.invariant.marked inside some);
      few = omega (arith, c.self.invariant.few, length-set next (chain_at chains c.args.ring).first free);
      room = c.self.invariant.room;
      small = c.self.invariant.small;
    })

pub returns : goal.returns
returns c =
    let next : List ℕ = c.self.inside.next.items in
    let chains : List Chained = c.self.inside.chains.items in
    let free : ℕ = c.self.inside.free in
    let spare : ℕ = c.self.inside.spare in
    let inside : c.args.ring < length chains = within_chains c.self.inside _ c.args.ring c.self.view_is c.requires.ring in
    let chain : c.index.result.now ≡ chain_at chains c.args.ring = read-is _ _ _ no_cells inside c.index.ensures in
    let some : 1 ≤ (chain_at chains c.args.ring).count = some_cells c.self.inside _ c.args.ring c.self.view_is inside c.requires.some in
    let first : IsFirst next (walk next spare free) (rings_of next chains) (chain_at chains c.args.ring) = first-freed _ _ _ _ c.self.invariant.shared inside some in
    let is : c.first-cell.result ≡ (chain_at chains c.args.ring).first = c.first-cell.ensures ∙ ap (λ (x : Chained). x.first) chain in
    let second : c.index-3.result.now ≡ get_or next (chain_at chains c.args.ring).first 0 = read-is _ _ _ 0 first.within (rw (← is, ← c.index-2.ensures) c.index-3.ensures) in
    rw (← c.self.view_is, c.without_first.ensures, c.index-4.ensures, is, second, chain) (λ i. record {
      free = free-freed next chains spare free c.args.ring inside first i;
      rings = rings-freed next chains (walk next spare free) c.args.ring free inside first i;
      used = length-set next (chain_at chains c.args.ring).first free i;
      total = c.self.inside.total;
    })
