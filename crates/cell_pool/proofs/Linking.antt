-- What the fields of linked cells say of their value.
use Rattle.cell_pool.proofs.Basics.{◌≡◌, ℕ, suc, ◌+◌, ◌<◌, ◌≤◌, List, [], length, get_or, arith, ap, sym, ◌∙◌, length-map, get_or-le-sum_by, SharesOut, ring_at, Chained, walk, cells_of, rings_of, chain_at, Linked}
use Rattle.cell_pool.specs.Linked.{linked_in}
use Rattle.cell_pool.specs.declared.cell_links.CellLinks.TheInside.{Inside}
use Rattle.cell_pool.proofs.Sharing.{in_ring-within}
use Rattle.cell_pool.proofs.Walks.{length-walk, walk-next}
use Rattle.cell_pool.proofs.Chaining.{ring-cells}

-- there is a chain for each list
pub within_chains : (s : Inside) (v : Linked) (i : ℕ) → linked_in s ≡ v → i < length v.rings → i < length s.chains.items
within_chains s v i e h = omega (arith, ap (λ (w : Linked). length w.rings) e, length-map s.chains.items (cells_of s.next.items))

-- there is a free cell
pub some_free : (s : Inside) (v : Linked) → linked_in s ≡ v → 1 ≤ length v.free → 1 ≤ s.spare
some_free s v e h = omega (arith, ap (λ (w : Linked). length w.free) e, length-walk s.next.items s.spare s.free)

-- no list has more cells than were ever used
pub few_cells : (free : List ℕ) (next : List ℕ) (chains : List Chained) (i : ℕ) → SharesOut free (rings_of next chains) (length next) → i < length chains → (chain_at chains i).count ≤ length next
few_cells free next chains i s h =
    omega (arith, s.all, length-walk next (chain_at chains i).count (chain_at chains i).first, ap (length {A = ℕ}) (ring-cells next chains i h), get_or-le-sum_by (length {A = ℕ}) (rings_of next chains) i [] (omega (arith, h, length-map chains (cells_of next))))

-- a list has a cell
pub some_cells : (s : Inside) (v : Linked) (i : ℕ) → linked_in s ≡ v → i < length s.chains.items → 1 ≤ length (ring_at v.rings i) → 1 ≤ (chain_at s.chains.items i).count
some_cells s v i e h some =
    omega (arith, some, ap (λ (w : Linked). length (ring_at w.rings i)) e, ap (length {A = ℕ}) (ring-cells s.next.items s.chains.items i h), length-walk s.next.items (chain_at s.chains.items i).count (chain_at s.chains.items i).first)

-- the cells of a list are those of its chain
pub value-cells : (s : Inside) (v : Linked) (i : ℕ) → linked_in s ≡ v → i < length s.chains.items → ring_at v.rings i ≡ cells_of s.next.items (chain_at s.chains.items i)
value-cells s v i e h = ap (λ (w : Linked). ring_at w.rings i) (sym e) ∙ ring-cells s.next.items s.chains.items i h

pub value-count : (s : Inside) (v : Linked) (i : ℕ) → linked_in s ≡ v → i < length s.chains.items → (chain_at s.chains.items i).count ≡ length (ring_at v.rings i)
value-count s v i e h = omega (arith, ap (length {A = ℕ}) (value-cells s v i e h), length-walk s.next.items (chain_at s.chains.items i).count (chain_at s.chains.items i).first)

-- a cell of a list was used
pub value-within : (s : Inside) (v : Linked) (i place : ℕ) → linked_in s ≡ v → SharesOut (walk s.next.items s.spare s.free) (rings_of s.next.items s.chains.items) (length s.next.items) → i < length s.chains.items → place < length (ring_at v.rings i) → get_or (ring_at v.rings i) place 0 < length s.next.items
value-within s v i place e shared h j =
    let same : ring_at (rings_of s.next.items s.chains.items) i ≡ ring_at v.rings i = ap (λ (w : Linked). ring_at w.rings i) e in
    rw (← same) (in_ring-within _ (rings_of s.next.items s.chains.items) (length s.next.items) i place shared (omega (arith, h, length-map s.chains.items (cells_of s.next.items))) (omega (arith, j, ap (length {A = ℕ}) same)))

-- the one after a cell of a list is the one that it names
pub value-next : (s : Inside) (v : Linked) (i place : ℕ) → linked_in s ≡ v → i < length s.chains.items → place + 1 < length (ring_at v.rings i) → get_or (ring_at v.rings i) (place + 1) 0 ≡ get_or s.next.items (get_or (ring_at v.rings i) place 0) 0
value-next s v i place e h j =
    let on : place + 1 ≡ suc place = omega arith in
    let is : ring_at v.rings i ≡ cells_of s.next.items (chain_at s.chains.items i) = value-cells s v i e h in
    let more : suc place < (chain_at s.chains.items i).count = omega (arith, j, value-count s v i e h) in
    rw (is, on) (walk-next s.next.items (chain_at s.chains.items i).count place (chain_at s.chains.items i).first more)
