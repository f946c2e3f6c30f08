-- Each cell names the next one of its list.
use Rattle.cell_pool.proofs.Basics.{◌≡◌, ◌+◌, ◌<◌, length, get_or, arith, ap, sym, ◌∙◌, ring_at, Linked}
use Rattle.cell_pool.proofs.Walks.{read-is}
use Rattle.cell_pool.proofs.Linking.{within_chains, value-within, value-next}
use Rattle.cell_pool.proofs.cell_links.CellLinks.behind.Goals as goal

pub index-requires-2 : goal.index-requires-2
index-requires-2 c =
    let inside : c.args.ring < length c.self.inside.chains.items = within_chains c.self.inside _ c.args.ring c.self.view_is c.requires.ring in
    omega (arith, c.self.inside.next.ok.0, c.index.ensures, c.requires.cell, value-within c.self.inside _ c.args.ring c.args.place c.self.view_is c.self.invariant.shared inside (omega (arith, c.requires.place)))

pub returns-clause-cell : goal.returns-clause-cell
returns-clause-cell c =
    let inside : c.args.ring < length c.self.inside.chains.items = within_chains c.self.inside _ c.args.ring c.self.view_is c.requires.ring in
    let within : get_or (ring_at c.args.self.now.rings c.args.ring) c.args.place 0 < length c.self.inside.next.items = value-within c.self.inside _ c.args.ring c.args.place c.self.view_is c.self.invariant.shared inside (omega (arith, c.requires.place)) in
    let at : c.index.result ≡ get_or (ring_at c.args.self.now.rings c.args.ring) c.args.place 0 = c.index.ensures ∙ c.requires.cell in
    let named : c.index-2.result.now ≡ get_or c.self.inside.next.items (get_or (ring_at c.args.self.now.rings c.args.ring) c.args.place 0) 0 = read-is _ _ _ 0 within (rw (← at) c.index-2.ensures) in
    named ∙ sym (value-next c.self.inside _ c.args.ring c.args.place c.self.view_is inside c.requires.place)

pub returns-clause-within : goal.returns-clause-within
returns-clause-within c =
    let inside : c.args.ring < length c.self.inside.chains.items = within_chains c.self.inside _ c.args.ring c.self.view_is c.requires.ring in
    omega (arith, ap (λ (w : Linked). w.used) c.self.view_is, returns-clause-cell c, value-within c.self.inside _ c.args.ring (c.args.place + 1) c.self.view_is c.self.invariant.shared inside c.requires.place)
