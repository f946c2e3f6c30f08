use Rattle.settings.proofs.Basics.{inr, ap, ◌+◌, ◌∙◌, ◌<◌, ◌≤◌, length, arith, err_from_is_err_and, link_of, link_fault}
use Rattle.settings.proofs.Entries.{past_entry, at_entry, past_all, next_row, all_rows}
use Rattle.settings.proofs.links.link_rows.Goals as goal

pub returns-in_err-row-clause-fault : goal.returns-in_err-row-clause-fault
returns-in_err-row-clause-fault c =
    let p = err_from_is_err_and c.from_residual-in_err-row.result c.from_residual-in_err-row.ensures.1 in
    let l : c.loop-i.i < length c.args.links.now = omega (arith, c.loop-i-test.true) in
    rw (p.1, p.2) (inr (rw (← c.loop-i.invariant.fault) (at_entry (link_fault c.args.sets.now) c.args.links.now c.loop-i.i c.index-links-i.result _ _ l c.index-links-i.is c.in_err-row.ensures.fault)))

pub loop-i-preserved : goal.loop-i-preserved
loop-i-preserved c =
    let l : c.loop-i.i < length c.args.links.now = omega (arith, c.loop-i-test.true) in
    record {
      len = c.push_reserved.ensures.len ∙ ap (λ n. n + 1) c.loop-i.invariant.len;
      room = rw c.push_reserved.ensures.capacity c.loop-i.invariant.room;
      rows = rw c.push_reserved.ensures.items (next_row (link_of c.args.sets.now) c.args.links.now c.loop-i.i c.index-links-i.result _ _ _ l c.index-links-i.is c.loop-i.invariant.rows c.in_ok-row.ensures.value);
      fault = past_entry (link_fault c.args.sets.now) c.args.links.now c.loop-i.i c.index-links-i.result _ l c.index-links-i.is c.in_ok-row.ensures.well ∙ c.loop-i.invariant.fault;
    }

pub returns-clause-well : goal.returns-clause-well
returns-clause-well c =
    let l : length c.args.links.now ≤ c.loop-i.i = omega (arith, c.loop-i-test.false) in
    rw (← c.loop-i.invariant.fault) (past_all (link_fault c.args.sets.now) c.args.links.now c.loop-i.i l)

pub push_reserved-requires : goal.push_reserved-requires
push_reserved-requires c = omega (arith, c.loop-i-test.true, c.loop-i.invariant.len, c.loop-i.invariant.room)

pub returns-clause-value : goal.returns-clause-value
returns-clause-value c =
    let l : length c.args.links.now ≤ c.loop-i.i = omega (arith, c.loop-i-test.false) in
    all_rows (link_of c.args.sets.now) c.args.links.now c.loop-i.i c.loop-i.rows.items l c.loop-i.invariant.rows
