-- One more cell is looked at.
use Rattle.std.proofs.Common.{◌≡◌, ◌∙◌, ℕ, Bool, List, ◌+◌, [], get_or, refl, ap, sym, arith}
use Rattle.std.specs.Prelude.{if◌then◌else◌}
use Rattle.std.proofs.lemmas.List.{get_or_read}
use Rattle.std.proofs.lemmas.Option.{get_or_from_slice_get}
use Rattle.signalling_types.specs.Message.{Message}
use Rattle.cell_pool.specs.Lanes.{is_user_picked}
use Rattle.cell_pool.specs.Cells.{message_at}
use Rattle.cell_pool.specs.Numbering.{ring_at}
use Rattle.cell_pool.proofs.Picking.{counted_next, few_by, within_used}
use Rattle.cell_pool.proofs.linked_lists.count_users.Goals as goal

pub bounds-cells-index : goal.bounds-cells-index
bounds-cells-index g c =
    omega (arith, c.index.ensures, c.requires.cells, within_used _ c.in-Some.cell c.args.links.now.used c.in-Some.is c.loop-place.invariant.within)

pub next-next-requires-clause-cell : goal.next-next-requires-clause-cell
next-next-requires-clause-cell g c =
    sym (get_or_from_slice_get (ring_at c.args.links.now.rings c.args.list) c.loop-place.place c.in-Some.cell 0 (sym c.loop-place.invariant.next ∙ c.in-Some.is))

pub loop-place-preserved : goal.loop-place-preserved
loop-place-preserved g c =
    let picks : Message → Bool = is_user_picked (g.P.Pick.picks c.args.pick.now) in
    let ring : List ℕ = ring_at c.args.links.now.rings c.args.list in
    let place : c.in-Some.cell ≡ get_or ring c.loop-place.place 0 =
    sym (get_or_from_slice_get ring c.loop-place.place c.in-Some.cell 0 (sym c.loop-place.invariant.next ∙ c.in-Some.is)) in
    let read : c.index-cells-index.result ≡ message_at c.args.cells.now c.in-Some.cell =
    get_or_read c.args.cells.now c.index.result c.index-cells-index.result
    (omega (arith, c.index.ensures, c.requires.cells, within_used _ c.in-Some.cell c.args.links.now.used c.in-Some.is c.loop-place.invariant.within)) c.index-cells-index.is (record { sio = 0; sif = [] })
    ∙ ap (message_at c.args.cells.now) c.index.ensures in
    let one : c.one_if_picked-count.result ≡ (if picks (message_at c.args.cells.now c.in-Some.cell) then 1 else 0) =
    c.one_if_picked-count.ensures ∙ ap (λ (m : Message). if picks m then 1 else 0) read in
    record {
      next = c.next-next.ensures.number;
      sum = counted_next picks c.args.cells.now ring c.loop-place.place c.in-Some.cell c.loop-place.count (c.loop-place.count + c.one_if_picked-count.result) c.one_if_picked-count.result
          (omega (arith, c.loop-place-test.true, c.count-place-end.ensures, c.loop-place.auto.place-end)) place one refl
          ∙ c.loop-place.invariant.sum;
      within = c.next-next.ensures.within;
      few = few_by picks (message_at c.args.cells.now c.in-Some.cell) c.loop-place.count c.loop-place.place c.one_if_picked-count.result one c.loop-place.invariant.few;
    }
