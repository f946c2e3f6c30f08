-- All cells of a list come after those of another.
use Rattle.cell_pool.proofs.Basics.{◌≡◌, ℕ, ◌<◌, ◌≤◌, List, [], length, arith, ap, sym, ◌∙◌, set, length-set, length-map, ring_at, Chained, no_cells, walk, cells_of, rings_of, chain_at, end_of}
use Rattle.cell_pool.proofs.Walks.{read-is, walk-set}
use Rattle.cell_pool.proofs.Chaining.{ring-cells}
use Rattle.cell_pool.proofs.Splicing.{IsSeam, seam, rings-joined, shared-joined, marked-joined, none-joined}
use Rattle.cell_pool.proofs.Linking.{within_chains, few_cells}
use Rattle.cell_pool.proofs.cell_links.CellLinks.append.Goals as goal

pub index_mut-requires : goal.index_mut-requires
index_mut-requires c =
    let chains : List Chained = c.self.inside.chains.items in
    let source : c.args.from < length chains = within_chains c.self.inside _ c.args.from c.self.view_is c.requires.from in
    let target : c.args.to < length chains = within_chains c.self.inside _ c.args.to c.self.view_is c.requires.to in
    let back : c.index.result.now ≡ chain_at chains c.args.from = read-is _ _ _ no_cells source c.index.ensures in
    let front : c.index-then-count-gt0.result.now ≡ chain_at chains c.args.to = read-is _ _ _ no_cells target c.index-then-count-gt0.ensures in
    let some : 1 ≤ (chain_at chains c.args.from).count = omega (arith, c.if-count-gt0.true, c.count.ensures, ap (λ (x : Chained). x.count) back) in
    let end : c.end.result ≡ end_of (chain_at chains c.args.to) (chain_at chains c.args.from) = c.end.ensures ∙ ap (λ (x : Chained). end_of x c.index.result.now) front ∙ ap (end_of (chain_at chains c.args.to)) back in
    omega (arith, c.self.inside.next.ok.0, c.index-then-count-gt0-2.ensures, end, (seam _ _ _ _ _ c.self.invariant.shared c.self.invariant.marked source target c.requires.apart some).within)

pub joined-requires : goal.joined-requires
joined-requires c =
    let chains : List Chained = c.self.inside.chains.items in
    let source : c.args.from < length chains = within_chains c.self.inside _ c.args.from c.self.view_is c.requires.from in
    let target : c.args.to < length chains = within_chains c.self.inside _ c.args.to c.self.view_is c.requires.to in
    let back : c.index.result.now ≡ chain_at chains c.args.from = read-is _ _ _ no_cells source c.index.ensures in
    let front : c.index-then-count-gt0.result.now ≡ chain_at chains c.args.to = read-is _ _ _ no_cells target c.index-then-count-gt0.ensures in
    omega (arith, ap (λ (x : Chained). x.count) back, ap (λ (x : Chained). x.count) front, few_cells _ _ _ c.args.from c.self.invariant.shared source, few_cells _ _ _ c.args.to c.self.invariant.shared target, c.self.invariant.few, c.self.invariant.small)

pub invariant_of-self : goal.invariant_of-self
invariant_of-self c =
    let next : List ℕ = c.self.inside.next.items in
    let chains : List Chained = c.self.inside.chains.items in
    let free : List ℕ = walk next c.self.inside.spare c.self.inside.free in
    let source : c.args.from < length chains = within_chains c.self.inside _ c.args.from c.self.view_is c.requires.from in
    let target : c.args.to < length chains = within_chains c.self.inside _ c.args.to c.self.view_is c.requires.to in
    let back : c.index.result.now ≡ chain_at chains c.args.from = read-is _ _ _ no_cells source c.index.ensures in
    let front : c.index-then-count-gt0.result.now ≡ chain_at chains c.args.to = read-is _ _ _ no_cells target c.index-then-count-gt0.ensures in
    let some : 1 ≤ (chain_at chains c.args.from).count = omega (arith, c.if-count-gt0.true, c.count.ensures, ap (λ (x : Chained). x.count) back) in
    let end : IsSeam next free (set (rings_of next chains) c.args.from []) (chain_at chains c.args.to) (chain_at chains c.args.from) = seam _ _ _ _ _ c.self.invariant.shared c.self.invariant.marked source target c.requires.apart some in
    let long : length (rings_of next chains) ≡ length chains = length-map chains (cells_of next) in
    let as_long : length (set next (end_of (chain_at chains c.args.to) (chain_at chains c.args.from)) (chain_at chains c.args.from).first) ≡ length next = length-set next (end_of (chain_at chains c.args.to) (chain_at chains c.args.from)) (chain_at chains c.args.from).first in
    rw (c.joined.ensures, c.empty.ensures, c.index-then-count-gt0-2.ensures, c.end.ensures, c.first.ensures, front, back) (record {
      shared = rw (walk-set next _ (chain_at chains c.args.from).first c.self.inside.spare c.self.inside.free end.free, rings-joined next chains free c.args.from c.args.to c.self.invariant.marked source target c.requires.apart some end, as_long) (shared-joined free (rings_of next chains) (length next) c.args.from c.args.to c.self.invariant.shared (omega (arith, source, long)) (omega (arith, target, long)));
      marked = rw (rings-joined next chains free c.args.from c.args.to c.self.invariant.marked source target c.requires.apart some end) (marked-joined next chains c.args.from c.args.to c.self.invariant.marked source target c.requires.apart some);
      few = omega (arith, c.self.invariant.few, as_long);
      room = c.self.invariant.room;
      small = c.self.invariant.small;
    })

pub returns-then-count-gt0 : goal.returns-then-count-gt0
returns-then-count-gt0 c =
    let next : List ℕ = c.self.inside.next.items in
    let chains : List Chained = c.self.inside.chains.items in
    let free : List ℕ = walk next c.self.inside.spare c.self.inside.free in
    let source : c.args.from < length chains = within_chains c.self.inside _ c.args.from c.self.view_is c.requires.from in
    let target : c.args.to < length chains = within_chains c.self.inside _ c.args.to c.self.view_is c.requires.to in
    let back : c.index.result.now ≡ chain_at chains c.args.from = read-is _ _ _ no_cells source c.index.ensures in
    let front : c.index-then-count-gt0.result.now ≡ chain_at chains c.args.to = read-is _ _ _ no_cells target c.index-then-count-gt0.ensures in
    let some : 1 ≤ (chain_at chains c.args.from).count = omega (arith, c.if-count-gt0.true, c.count.ensures, ap (λ (x : Chained). x.count) back) in
    let end : IsSeam next free (set (rings_of next chains) c.args.from []) (chain_at chains c.args.to) (chain_at chains c.args.from) = seam _ _ _ _ _ c.self.invariant.shared c.self.invariant.marked source target c.requires.apart some in
    rw (← c.self.view_is, c.joined.ensures, c.empty.ensures, c.index-then-count-gt0-2.ensures, c.end.ensures, c.first.ensures, front, back) (λ i. record {
      free = walk-set next (end_of (chain_at chains c.args.to) (chain_at chains c.args.from)) (chain_at chains c.args.from).first c.self.inside.spare c.self.inside.free end.free i;
      rings = rings-joined next chains free c.args.from c.args.to c.self.invariant.marked source target c.requires.apart some end i;
      used = length-set next (end_of (chain_at chains c.args.to) (chain_at chains c.args.from)) (chain_at chains c.args.from).first i;
      total = c.self.inside.total;
    })

pub returns-else-count-gt0 : goal.returns-else-count-gt0
returns-else-count-gt0 c =
    let next : List ℕ = c.self.inside.next.items in
    let chains : List Chained = c.self.inside.chains.items in
    let source : c.args.from < length chains = within_chains c.self.inside _ c.args.from c.self.view_is c.requires.from in
    let back : c.index.result.now ≡ chain_at chains c.args.from = read-is _ _ _ no_cells source c.index.ensures in
    let count : (chain_at chains c.args.from).count ≡ 0 = omega (arith, c.if-count-gt0.false, c.count.ensures, ap (λ (x : Chained). x.count) back) in
    let none : ring_at (rings_of next chains) c.args.from ≡ [] = ring-cells next chains c.args.from source ∙ ap (λ (n : ℕ). walk next n (chain_at chains c.args.from).first) count in
    rw (← c.self.view_is) (λ i. record {
      free = walk next c.self.inside.spare c.self.inside.free;
      rings = sym (none-joined (rings_of next chains) c.args.from c.args.to none) i;
      used = length next;
      total = c.self.inside.total;
    })
