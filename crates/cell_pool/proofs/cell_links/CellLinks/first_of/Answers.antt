-- The first cell of a list is stored with its chain.
use Rattle.cell_pool.proofs.Basics.{◌≡◌, ℕ, ◌<◌, ◌≤◌, List, length, get_or, arith, ap, sym, ◌∙◌, Chained, no_cells, chain_at, Linked}
use Rattle.cell_pool.proofs.Walks.{read-is, walk-first}
use Rattle.cell_pool.proofs.Linking.{within_chains, value-cells, value-count, value-within}
use Rattle.cell_pool.proofs.cell_links.CellLinks.first_of.Goals as goal

pub returns-clause-cell : goal.returns-clause-cell
returns-clause-cell c =
    let chains : List Chained = c.self.inside.chains.items in
    let inside : c.args.ring < length chains = within_chains c.self.inside _ c.args.ring c.self.view_is c.requires.ring in
    let chain : c.index.result.now ≡ chain_at chains c.args.ring = read-is _ _ _ no_cells inside c.index.ensures in
    let some : 1 ≤ (chain_at chains c.args.ring).count = omega (arith, c.requires.some, value-count c.self.inside _ c.args.ring c.self.view_is inside) in
    c.first.ensures ∙ ap (λ (x : Chained). x.first) chain
    ∙ ap (λ (xs : List ℕ). get_or xs 0 0) (sym (walk-first _ _ _ some))
    ∙ ap (λ (xs : List ℕ). get_or xs 0 0) (sym (value-cells c.self.inside _ c.args.ring c.self.view_is inside))

pub returns-clause-within : goal.returns-clause-within
returns-clause-within c =
    let inside : c.args.ring < length c.self.inside.chains.items = within_chains c.self.inside _ c.args.ring c.self.view_is c.requires.ring in
    omega (arith, ap (λ (w : Linked). w.used) c.self.view_is, returns-clause-cell c, value-within c.self.inside _ c.args.ring 0 c.self.view_is c.self.invariant.shared inside c.requires.some)
