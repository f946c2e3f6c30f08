-- The first free cell goes to the end of a list: what each list and the free cells are then.
use Rattle.cell_pool.proofs.Basics.{◌≡◌, ℕ, ◌-◌, ◌<◌, ◌≤◌, List, [], ◌∷◌, ◌++◌, length, get_or, take, drop, arith, ap, ◌∙◌, set, length-set, length-map, ring_at, Chained, no_cells, one_cell, walk, cells_of, rings_of, chain_at, end_of, joined}
use Rattle.cell_pool.proofs.Walks.{read-is, walk-first}
use Rattle.cell_pool.proofs.Taking.{IsEnd, end-taken, free-taken, rings-taken, shared-taken, marked-taken, free-within}
use Rattle.cell_pool.proofs.Linking.{within_chains, some_free, few_cells}
use Rattle.cell_pool.proofs.cell_links.CellLinks.take_free.Goals as goal

pub index-requires-3 : goal.index-requires-3
index-requires-3 c =
    let some : 1 ≤ c.self.inside.spare = some_free c.self.inside _ c.self.view_is c.requires.some in
    omega (arith, c.self.inside.next.ok.0, c.index-2.ensures, free-within _ _ _ _ c.self.invariant.shared some)

pub index_mut-requires : goal.index_mut-requires
index_mut-requires c =
    let some : 1 ≤ c.self.inside.spare = some_free c.self.inside _ c.self.view_is c.requires.some in
    let inside : c.args.ring < length c.self.inside.chains.items = within_chains c.self.inside _ c.args.ring c.self.view_is c.requires.ring in
    let chain : c.index.result.now ≡ chain_at c.self.inside.chains.items c.args.ring = read-is _ _ _ no_cells inside c.index.ensures in
    let end : c.end.result ≡ end_of (chain_at c.self.inside.chains.items c.args.ring) (one_cell c.self.inside.free) = c.end.ensures ∙ ap (λ (x : Chained). end_of x c.of-cell.result) chain ∙ ap (end_of (chain_at c.self.inside.chains.items c.args.ring)) c.of-cell.ensures in
    omega (arith, c.self.inside.next.ok.0, c.index-4.ensures, end, (end-taken _ _ _ _ _ c.self.invariant.shared c.self.invariant.marked inside some).within)

pub joined-requires : goal.joined-requires
joined-requires c =
    let inside : c.args.ring < length c.self.inside.chains.items = within_chains c.self.inside _ c.args.ring c.self.view_is c.requires.ring in
    let chain : c.index.result.now ≡ chain_at c.self.inside.chains.items c.args.ring = read-is _ _ _ no_cells inside c.index.ensures in
    omega (arith, ap (λ (x : Chained). x.count) c.of-cell.ensures, ap (λ (x : Chained). x.count) chain, few_cells _ _ _ c.args.ring c.self.invariant.shared inside, c.self.invariant.few, c.self.invariant.small)

pub invariant_of-self : goal.invariant_of-self
invariant_of-self c =
    let next : List ℕ = c.self.inside.next.items in
    let chains : List Chained = c.self.inside.chains.items in
    let free : ℕ = c.self.inside.free in
    let some : 1 ≤ c.self.inside.spare = some_free c.self.inside _ c.self.view_is c.requires.some in
    let inside : c.args.ring < length chains = within_chains c.self.inside _ c.args.ring c.self.view_is c.requires.ring in
    let chain : c.index.result.now ≡ chain_at chains c.args.ring = read-is _ _ _ no_cells inside c.index.ensures in
    let end : IsEnd next (walk next (c.self.inside.spare - 1) (get_or next free 0)) (rings_of next chains) (chain_at chains c.args.ring) (one_cell free) = end-taken _ _ _ _ _ c.self.invariant.shared c.self.invariant.marked inside some in
    let link : c.index-3.result.now ≡ get_or next free 0 = read-is _ _ _ 0 (free-within _ _ _ _ c.self.invariant.shared some) (rw (← c.index-2.ensures) c.index-3.ensures) in
    let rings : rings_of (set next (end_of (chain_at chains c.args.ring) (one_cell free)) free) (set chains c.args.ring (joined (chain_at chains c.args.ring) (one_cell free))) ≡ set (rings_of next chains) c.args.ring (ring_at (rings_of next chains) c.args.ring ++ free ∷ []) =
    rings-taken next chains c.self.inside.spare free c.args.ring c.self.invariant.marked inside some end
    ∙ ap (λ (xs : List ℕ). set (rings_of next chains) c.args.ring (ring_at (rings_of next chains) c.args.ring ++ take 1 xs)) (walk-first next c.self.inside.spare free some) in
    let left : walk (set next (end_of (chain_at chains c.args.ring) (one_cell free)) free) (c.self.inside.spare - 1) (get_or next free 0) ≡ walk next (c.self.inside.spare - 1) (get_or next free 0) =
    free-taken next _ _ _ c.self.inside.spare free some end ∙ ap (λ (xs : List ℕ). drop 1 xs) (walk-first next c.self.inside.spare free some) in
    rw (c.joined.ensures, c.index-4.ensures, c.end.ensures, c.first.ensures, chain, c.of-cell.ensures, link) (record {
      shared = rw (left, rings, length-set next (end_of (chain_at chains c.args.ring) (one_cell free)) free) (shared-taken _ _ (rings_of next chains) (length next) c.args.ring free c.self.invariant.shared (walk-first next c.self.inside.spare free some) (omega (arith, inside, length-map chains (cells_of next))));
      marked = rw rings (marked-taken next chains free c.args.ring c.self.invariant.marked inside);
      few = omega (arith, c.self.invariant.few, length-set next (end_of (chain_at chains c.args.ring) (one_cell free)) free);
      room = c.self.invariant.room;
      small = c.self.invariant.small;
    })

pub returns : goal.returns
returns c =
    let next : List ℕ = c.self.inside.next.items in
    let chains : List Chained = c.self.inside.chains.items in
    let free : ℕ = c.self.inside.free in
    let some : 1 ≤ c.self.inside.spare = some_free c.self.inside _ c.self.view_is c.requires.some in
    let inside : c.args.ring < length chains = within_chains c.self.inside _ c.args.ring c.self.view_is c.requires.ring in
    let chain : c.index.result.now ≡ chain_at chains c.args.ring = read-is _ _ _ no_cells inside c.index.ensures in
    let end : IsEnd next (walk next (c.self.inside.spare - 1) (get_or next free 0)) (rings_of next chains) (chain_at chains c.args.ring) (one_cell free) = end-taken _ _ _ _ _ c.self.invariant.shared c.self.invariant.marked inside some in
    let link : c.index-3.result.now ≡ get_or next free 0 = read-is _ _ _ 0 (free-within _ _ _ _ c.self.invariant.shared some) (rw (← c.index-2.ensures) c.index-3.ensures) in
    rw (← c.self.view_is, c.joined.ensures, c.index-4.ensures, c.end.ensures, c.first.ensures, chain, c.of-cell.ensures, link) (λ i. record {
      free = free-taken next _ _ _ c.self.inside.spare free some end i;
      rings = rings-taken next chains c.self.inside.spare free c.args.ring c.self.invariant.marked inside some end i;
      used = length-set next (end_of (chain_at chains c.args.ring) (one_cell free)) free i;
      total = c.self.inside.total;
    })
