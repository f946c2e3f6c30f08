-- The noted cell and the last one are known.
use Rattle.cell_pool.proofs.Basics.{◌≡◌, ℕ, ◌-◌, ◌<◌, ◌≤◌, List, length, get_or, arith, ap, sym, ◌∙◌, Chained, no_cells, cells_of, chain_at, IsMarked, Linked}
use Rattle.cell_pool.proofs.Walks.{read-is, walk-first}
use Rattle.cell_pool.proofs.Chaining.{mark-of}
use Rattle.cell_pool.proofs.Linking.{within_chains, value-cells, value-count, value-within}
use Rattle.cell_pool.proofs.cell_links.CellLinks.cell_at.Goals as goal

pub onward-requires-clause-cell : goal.onward-requires-clause-cell
onward-requires-clause-cell c =
    let chains : List Chained = c.self.inside.chains.items in
    let inside : c.args.ring < length chains = within_chains c.self.inside _ c.args.ring c.self.view_is c.requires.ring in
    let chain : c.index-chain.result.now ≡ chain_at chains c.args.ring = read-is _ _ _ no_cells inside c.index-chain.ensures in
    let mark : IsMarked (cells_of c.self.inside.next.items (chain_at chains c.args.ring)) (chain_at chains c.args.ring) = mark-of _ _ c.args.ring inside c.self.invariant.marked in
    let some : 1 ≤ (chain_at chains c.args.ring).count = omega (arith, c.requires.index, value-count c.self.inside _ c.args.ring c.self.view_is inside) in
    let place : c.place-then-place-index.result ≡ (chain_at chains c.args.ring).place = c.place-then-place-index.ensures ∙ ap (λ (x : Chained). x.place) chain in
    c.noted-then-place-index.ensures ∙ ap (λ (x : Chained). x.noted) chain
    ∙ sym (mark.noted some)
    ∙ ap (λ (i : ℕ). get_or (cells_of c.self.inside.next.items (chain_at chains c.args.ring)) i 0) (sym place)
    ∙ ap (λ (xs : List ℕ). get_or xs c.place-then-place-index.result 0) (sym (value-cells c.self.inside _ c.args.ring c.self.view_is inside))

pub walked-requires-clause-cell : goal.walked-requires-clause-cell
walked-requires-clause-cell c =
    let chains : List Chained = c.self.inside.chains.items in
    let inside : c.args.ring < length chains = within_chains c.self.inside _ c.args.ring c.self.view_is c.requires.ring in
    let chain : c.index-chain.result.now ≡ chain_at chains c.args.ring = read-is _ _ _ no_cells inside c.index-chain.ensures in
    let some : 1 ≤ (chain_at chains c.args.ring).count = omega (arith, c.requires.index, value-count c.self.inside _ c.args.ring c.self.view_is inside) in
    c.first.ensures ∙ ap (λ (x : Chained). x.first) chain
    ∙ ap (λ (xs : List ℕ). get_or xs 0 0) (sym (walk-first _ _ _ some))
    ∙ ap (λ (xs : List ℕ). get_or xs 0 0) (sym (value-cells c.self.inside _ c.args.ring c.self.view_is inside))

pub returns-then-index-place-clause-cell : goal.returns-then-index-place-clause-cell
returns-then-index-place-clause-cell c =
    let chains : List Chained = c.self.inside.chains.items in
    let inside : c.args.ring < length chains = within_chains c.self.inside _ c.args.ring c.self.view_is c.requires.ring in
    let chain : c.index-chain.result.now ≡ chain_at chains c.args.ring = read-is _ _ _ no_cells inside c.index-chain.ensures in
    let mark : IsMarked (cells_of c.self.inside.next.items (chain_at chains c.args.ring)) (chain_at chains c.args.ring) = mark-of _ _ c.args.ring inside c.self.invariant.marked in
    let some : 1 ≤ (chain_at chains c.args.ring).count = omega (arith, c.requires.index, value-count c.self.inside _ c.args.ring c.self.view_is inside) in
    let place : (chain_at chains c.args.ring).place ≡ c.args.index = omega (arith, c.if-index-place.true, c.place.ensures, ap (λ (x : Chained). x.place) chain) in
    c.noted.ensures ∙ ap (λ (x : Chained). x.noted) chain
    ∙ sym (mark.noted some)
    ∙ ap (λ (i : ℕ). get_or (cells_of c.self.inside.next.items (chain_at chains c.args.ring)) i 0) place
    ∙ ap (λ (xs : List ℕ). get_or xs c.args.index 0) (sym (value-cells c.self.inside _ c.args.ring c.self.view_is inside))

pub returns-then-index-place-clause-within : goal.returns-then-index-place-clause-within
returns-then-index-place-clause-within c =
    let inside : c.args.ring < length c.self.inside.chains.items = within_chains c.self.inside _ c.args.ring c.self.view_is c.requires.ring in
    omega (arith, ap (λ (w : Linked). w.used) c.self.view_is, returns-then-index-place-clause-cell c, value-within c.self.inside _ c.args.ring c.args.index c.self.view_is c.self.invariant.shared inside c.requires.index)

pub returns-then-index-count-clause-cell : goal.returns-then-index-count-clause-cell
returns-then-index-count-clause-cell c =
    let chains : List Chained = c.self.inside.chains.items in
    let inside : c.args.ring < length chains = within_chains c.self.inside _ c.args.ring c.self.view_is c.requires.ring in
    let chain : c.index-chain.result.now ≡ chain_at chains c.args.ring = read-is _ _ _ no_cells inside c.index-chain.ensures in
    let mark : IsMarked (cells_of c.self.inside.next.items (chain_at chains c.args.ring)) (chain_at chains c.args.ring) = mark-of _ _ c.args.ring inside c.self.invariant.marked in
    let some : 1 ≤ (chain_at chains c.args.ring).count = omega (arith, c.requires.index, value-count c.self.inside _ c.args.ring c.self.view_is inside) in
    let place : (chain_at chains c.args.ring).count - 1 ≡ c.args.index = omega (arith, c.if-index-count.true, c.count.ensures, ap (λ (x : Chained). x.count) chain) in
    c.last.ensures ∙ ap (λ (x : Chained). x.last) chain
    ∙ sym (mark.last some)
    ∙ ap (λ (i : ℕ). get_or (cells_of c.self.inside.next.items (chain_at chains c.args.ring)) i 0) place
    ∙ ap (λ (xs : List ℕ). get_or xs c.args.index 0) (sym (value-cells c.self.inside _ c.args.ring c.self.view_is inside))

pub returns-then-index-count-clause-within : goal.returns-then-index-count-clause-within
returns-then-index-count-clause-within c =
    let inside : c.args.ring < length c.self.inside.chains.items = within_chains c.self.inside _ c.args.ring c.self.view_is c.requires.ring in
    omega (arith, ap (λ (w : Linked). w.used) c.self.view_is, returns-then-index-count-clause-cell c, value-within c.self.inside _ c.args.ring c.args.index c.self.view_is c.self.invariant.shared inside c.requires.index)
