-- The next row goes after the others.
use Rattle.flow_hold.proofs.Basics.{◌+◌, ◌*◌, ◌≤◌, List, [], ◌∷◌, ◌++◌, length, map, arith, ap, sym, ◌∙◌, range_with_len, length-map-range_with_len, map-range_with_len_more, Marks, first_row, SELECTIONS}
use Rattle.std.proofs.lemmas.List.Elements.{All-push}
use Rattle.flow_hold.proofs.Counting.{mark_of, unmarked, unmarked-more, fits-first}
use Rattle.flow_hold.proofs.table.first_rows.Goals as goal

pub push_reserved-requires : goal.push_reserved-requires
push_reserved-requires c =
    omega (arith, c.loop-place.rows.ok.0, c.loop-place.invariant.room, c.loop-place-test.true, ap (length {A = Marks}) c.loop-place.invariant.rows, length-map-range_with_len (first_row c.args.shared c.args.destinations) 0 c.loop-place.place)

pub loop-place-preserved : goal.loop-place-preserved
loop-place-preserved c =
    let rows : List Marks = c.loop-place.rows.items in
    let row : Marks = c.in_ok-first_row.field-0 in
    record {
      rows = c.push_reserved.ensures.items
          ∙ ap (λ (ms : List Marks). ms ++ row ∷ []) c.loop-place.invariant.rows
          ∙ ap (λ (m : Marks). map (first_row c.args.shared c.args.destinations) (range_with_len 0 c.loop-place.place) ++ m ∷ []) c.in_ok-first_row.ensures
          ∙ sym (map-range_with_len_more (first_row c.args.shared c.args.destinations) 0 c.loop-place.place c.loop-place.place (omega arith));
      none = λ flow. rw c.push_reserved.ensures.items (unmarked-more rows row flow (c.loop-place.invariant.none flow) (ap (mark_of flow) c.in_ok-first_row.ensures ∙ unmarked c.args.shared c.args.destinations c.loop-place.place flow));
      fits = rw c.push_reserved.ensures.items (All-push (λ (m : Marks). m.first + length m.marks ≤ SELECTIONS * c.args.destinations) rows row c.loop-place.invariant.fits (fits-first row c.args.shared c.args.destinations c.loop-place.place c.in_ok-first_row.ensures c.loop-place-test.true));
      room = omega (arith, c.push_reserved.ensures.capacity, c.loop-place.invariant.room);
    }
