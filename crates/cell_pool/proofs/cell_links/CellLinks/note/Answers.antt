-- A noted cell changes no list.
use Rattle.cell_pool.proofs.Basics.{◌≡◌, ℕ, ◌<◌, List, length, get_or, arith, ap, sym, ◌∙◌, refl, set, Chained, no_cells, walk, cells_of, rings_of, chain_at}
use Rattle.cell_pool.proofs.Walks.{read-is}
use Rattle.cell_pool.proofs.Splicing.{rings-noted, marked-noted}
use Rattle.cell_pool.proofs.Linking.{within_chains, value-cells, value-count}
use Rattle.cell_pool.proofs.cell_links.CellLinks.note.Goals as goal

pub cell_at-cell-requires-clause-index : goal.cell_at-cell-requires-clause-index
cell_at-cell-requires-clause-index c =
    let inside : c.args.ring < length c.self.inside.chains.items = within_chains c.self.inside _ c.args.ring c.self.view_is c.requires in
    let chain : c.index.result.now ≡ chain_at c.self.inside.chains.items c.args.ring = read-is _ _ _ no_cells inside c.index.ensures in
    omega (arith, c.if-index-count.true, c.count.ensures, ap (λ (x : Chained). x.count) chain, value-count c.self.inside _ c.args.ring c.self.view_is inside)

pub invariant_of-self : goal.invariant_of-self
invariant_of-self c =
    let next : List ℕ = c.self.inside.next.items in
    let chains : List Chained = c.self.inside.chains.items in
    let inside : c.args.ring < length chains = within_chains c.self.inside _ c.args.ring c.self.view_is c.requires in
    let chain : c.index.result.now ≡ chain_at chains c.args.ring = read-is _ _ _ no_cells inside c.index.ensures in
    let less : c.args.index < (chain_at chains c.args.ring).count = omega (arith, c.if-index-count.true, c.count.ensures, ap (λ (x : Chained). x.count) chain) in
    let cell : get_or (cells_of next (chain_at chains c.args.ring)) c.args.index 0 ≡ c.cell_at-cell.result = ap (λ (xs : List ℕ). get_or xs c.args.index 0) (sym (value-cells c.self.inside _ c.args.ring c.self.view_is inside)) ∙ sym c.cell_at-cell.ensures.cell in
    let rings : rings_of next (set chains c.args.ring (record (chain_at chains c.args.ring) { place = c.args.index; noted = c.cell_at-cell.result })) ≡ rings_of next chains = rings-noted next chains c.args.ring _ inside refl in
    rw (c.noting.ensures, chain) (record {
      shared = rw rings c.self.invariant.shared;
      marked = rw rings (marked-noted next chains c.args.ring c.args.index c.cell_at-cell.result c.self.invariant.marked inside less cell);
      few = c.self.invariant.few;
      room = c.self.invariant.room;
      small = c.self.invariant.small;
    })

pub returns-then-index-place : goal.returns-then-index-place
returns-then-index-place c =
    let next : List ℕ = c.self.inside.next.items in
    let chains : List Chained = c.self.inside.chains.items in
    let inside : c.args.ring < length chains = within_chains c.self.inside _ c.args.ring c.self.view_is c.requires in
    let chain : c.index.result.now ≡ chain_at chains c.args.ring = read-is _ _ _ no_cells inside c.index.ensures in
    rw (← c.self.view_is, c.noting.ensures, chain) (λ i. record {
      free = walk next c.self.inside.spare c.self.inside.free;
      rings = rings-noted next chains c.args.ring (record (chain_at chains c.args.ring) { place = c.args.index; noted = c.cell_at-cell.result }) inside refl i;
      used = length next;
      total = c.self.inside.total;
    })
