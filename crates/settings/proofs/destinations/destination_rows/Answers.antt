use Rattle.settings.proofs.Basics.{inl, ap, ◌+◌, inr, refl, ◌∙◌, ◌<◌, ◌≤◌, length, arith, err_from_is_err_and, natural, destination_of, destination_fault, DestinationEntry, DestinationDraft}
use Rattle.settings.proofs.Entries.{past_entry, at_entry, past_all, next_row, all_rows, pushed_map}
use Rattle.settings.proofs.destinations.destination_rows.Goals as goal

pub returns-in_err-row-clause-fault : goal.returns-in_err-row-clause-fault
returns-in_err-row-clause-fault c =
    let p = err_from_is_err_and c.from_residual-in_err-row.result c.from_residual-in_err-row.ensures.1 in
    let l : c.loop-i.i < length c.args.destinations.now = omega (arith, c.loop-i-test.true) in
    rw (p.1, p.2) (elim c.in_err-row.ensures.fault [ inl e ↦ inl e | inr e ↦ inr (rw (← c.loop-i.invariant.fault) (at_entry (destination_fault c.args.own c.args.sets.now) c.args.destinations.now c.loop-i.i c.index-destinations-i.result _ _ l c.index-destinations-i.is e)) ])

pub loop-i-preserved : goal.loop-i-preserved
loop-i-preserved c =
    let l : c.loop-i.i < length c.args.destinations.now = omega (arith, c.loop-i-test.true) in
    record {
      len = c.push_reserved.ensures.len ∙ ap (λ n. n + 1) c.loop-i.invariant.len;
      room = rw c.push_reserved.ensures.capacity c.loop-i.invariant.room;
      rows = rw c.push_reserved.ensures.items (next_row (destination_of c.args.sets.now) c.args.destinations.now c.loop-i.i c.index-destinations-i.result _ _ _ l c.index-destinations-i.is c.loop-i.invariant.rows c.in_ok-row.ensures.value);
      points = c.in_ok-row.ensures.points ∙ next_row (λ (d : DestinationDraft). natural d.point) c.args.destinations.now c.loop-i.i c.index-destinations-i.result _ _ _ l c.index-destinations-i.is c.loop-i.invariant.points refl;
      indexed = rw c.push_reserved.ensures.items (c.in_ok-row.ensures.points ∙ pushed_map (λ (d : DestinationEntry). d.point) c.loop-i.rows.items c.in_ok-row.row c.loop-i.points _ c.loop-i.invariant.indexed (rw c.in_ok-row.ensures.value refl));
      fault = past_entry (destination_fault c.args.own c.args.sets.now) c.args.destinations.now c.loop-i.i c.index-destinations-i.result _ l c.index-destinations-i.is c.in_ok-row.ensures.well ∙ c.loop-i.invariant.fault;
    }

pub returns-clause-well : goal.returns-clause-well
returns-clause-well c =
    let l : length c.args.destinations.now ≤ c.loop-i.i = omega (arith, c.loop-i-test.false) in
    rw (← c.loop-i.invariant.fault) (past_all (destination_fault c.args.own c.args.sets.now) c.args.destinations.now c.loop-i.i l)

pub push_reserved-requires : goal.push_reserved-requires
push_reserved-requires c = omega (arith, c.loop-i-test.true, c.loop-i.invariant.len, c.loop-i.invariant.room)

pub returns-clause-value : goal.returns-clause-value
returns-clause-value c =
    let l : length c.args.destinations.now ≤ c.loop-i.i = omega (arith, c.loop-i-test.false) in
    all_rows (destination_of c.args.sets.now) c.args.destinations.now c.loop-i.i c.loop-i.rows.items l c.loop-i.invariant.rows
