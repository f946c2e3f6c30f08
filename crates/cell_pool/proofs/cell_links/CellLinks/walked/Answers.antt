-- Each cell names the next one of its list.
use Rattle.cell_pool.proofs.Basics.{◌≡◌, ◌<◌, length, get_or, arith, ap, sym, ◌∙◌, ring_at, Linked}
use Rattle.cell_pool.proofs.Walks.{read-is}
use Rattle.cell_pool.proofs.Linking.{within_chains, value-within, value-next}
use Rattle.cell_pool.proofs.cell_links.CellLinks.walked.Goals as goal

pub index-cell-requires : goal.index-cell-requires
index-cell-requires c =
    let inside : c.args.ring < length c.self.inside.chains.items = within_chains c.self.inside _ c.args.ring c.self.view_is c.requires.ring in
    omega (arith, c.self.inside.next.ok.0, c.index.ensures, c.loop.invariant, value-within c.self.inside _ c.args.ring c.loop.counter c.self.view_is c.self.invariant.shared inside (omega (arith, c.loop-test.true, c.requires.index)))

pub loop-preserved : goal.loop-preserved
loop-preserved c =
    let inside : c.args.ring < length c.self.inside.chains.items = within_chains c.self.inside _ c.args.ring c.self.view_is c.requires.ring in
    let within : get_or (ring_at c.args.self.now.rings c.args.ring) c.loop.counter 0 < length c.self.inside.next.items = value-within c.self.inside _ c.args.ring c.loop.counter c.self.view_is c.self.invariant.shared inside (omega (arith, c.loop-test.true, c.requires.index)) in
    let at : c.index.result ≡ get_or (ring_at c.args.self.now.rings c.args.ring) c.loop.counter 0 = c.index.ensures ∙ c.loop.invariant in
    let named : c.index-cell.result.now ≡ get_or c.self.inside.next.items (get_or (ring_at c.args.self.now.rings c.args.ring) c.loop.counter 0) 0 = read-is _ _ _ 0 within (rw (← at) c.index-cell.ensures) in
    named ∙ sym (value-next c.self.inside _ c.args.ring c.loop.counter c.self.view_is inside (omega (arith, c.loop-test.true, c.requires.index)))

pub returns-clause-within : goal.returns-clause-within
returns-clause-within c =
    let inside : c.args.ring < length c.self.inside.chains.items = within_chains c.self.inside _ c.args.ring c.self.view_is c.requires.ring in
    let there : c.loop.counter ≡ c.args.index = omega (arith, c.loop-test.false, c.loop.auto.counter-end, c.requires.place) in
    omega (arith, ap (λ (w : Linked). w.used) c.self.view_is, c.loop.invariant, value-within c.self.inside _ c.args.ring c.loop.counter c.self.view_is c.self.invariant.shared inside (omega (arith, there, c.requires.index)))
