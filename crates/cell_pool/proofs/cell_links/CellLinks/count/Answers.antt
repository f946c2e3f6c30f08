-- A list has as many cells as its chain says.
use Rattle.cell_pool.proofs.Basics.{◌<◌, length, ap, ◌∙◌, Chained, no_cells}
use Rattle.cell_pool.proofs.Walks.{read-is}
use Rattle.cell_pool.proofs.Linking.{within_chains, value-count}
use Rattle.cell_pool.proofs.cell_links.CellLinks.count.Goals as goal

pub returns : goal.returns
returns c =
    let inside : c.args.ring < length c.self.inside.chains.items = within_chains c.self.inside _ c.args.ring c.self.view_is c.requires in
    c.count.ensures ∙ ap (λ (x : Chained). x.count) (read-is _ _ _ no_cells inside c.index.ensures) ∙ value-count c.self.inside _ c.args.ring c.self.view_is inside
