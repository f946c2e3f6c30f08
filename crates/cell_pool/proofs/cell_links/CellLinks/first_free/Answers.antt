-- A free cell is in no list.
use Rattle.cell_pool.proofs.Basics.{arith, ap, sym, ◌∙◌, sum_by, uses, Linked}
use Rattle.cell_pool.proofs.Taking.{free-within, free-fresh}
use Rattle.cell_pool.proofs.Linking.{some_free}
use Rattle.cell_pool.proofs.cell_links.CellLinks.first_free.Goals as goal

pub returns-clause-within : goal.returns-clause-within
returns-clause-within c =
    omega (arith, ap (λ (w : Linked). w.used) c.self.view_is, free-within _ _ _ _ c.self.invariant.shared (some_free c.self.inside _ c.self.view_is c.requires))

pub returns-clause-fresh : goal.returns-clause-fresh
returns-clause-fresh c =
    ap (λ (w : Linked). sum_by (uses c.self.inside.free) w.rings) (sym c.self.view_is)
    ∙ free-fresh _ _ _ _ c.self.invariant.shared (some_free c.self.inside _ c.self.view_is c.requires)
