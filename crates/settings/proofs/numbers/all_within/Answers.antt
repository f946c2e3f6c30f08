use Rattle.settings.proofs.Basics.{inr, ap, ◌+◌, refl, sym, ◌∙◌, ◌<◌, ◌≤◌, length, arith, list_all, err_from_is_err_and, natural, is_within, Range}
use Rattle.settings.proofs.Entries.{next_row, all_rows, past_passing, at_failing, past_last, fails_too, passes_too}
use Rattle.settings.proofs.Rows.{passes}
use Rattle.settings.proofs.numbers.all_within.Goals as goal

pub returns-in_err-number-clause-fault : goal.returns-in_err-number-clause-fault
returns-in_err-number-clause-fault c =
    let p = err_from_is_err_and c.from_residual-in_err-number.result c.from_residual-in_err-number.ensures.1 in
    let l : c.loop-i.i < length c.args.values.now = omega (arith, c.loop-i-test.true) in
    rw (p.1, p.2) (inr (fails_too (is_within c.args.low c.args.high _) (list_all (is_within c.args.low c.args.high) c.args.values.now) Range c.args.key _
    (λ e. sym c.loop-i.invariant.within ∙ at_failing (is_within c.args.low c.args.high) c.args.values.now c.loop-i.i _ _ l refl e) c.in_err-number.ensures.fault))

pub loop-i-preserved : goal.loop-i-preserved
loop-i-preserved c =
    let l : c.loop-i.i < length c.args.values.now = omega (arith, c.loop-i-test.true) in
    record {
      len = c.push_reserved.ensures.len ∙ ap (λ n. n + 1) c.loop-i.invariant.len;
      room = rw c.push_reserved.ensures.capacity c.loop-i.invariant.room;
      numbers = rw c.push_reserved.ensures.items (next_row natural c.args.values.now c.loop-i.i _ _ _ _ l refl c.loop-i.invariant.numbers c.in_ok-number.ensures.value);
      within = past_passing (is_within c.args.low c.args.high) c.args.values.now c.loop-i.i _ _ l refl (passes _ Range c.args.key c.in_ok-number.ensures.well) ∙ c.loop-i.invariant.within;
    }

pub returns-clause-well : goal.returns-clause-well
returns-clause-well c =
    let l : length c.args.values.now ≤ c.loop-i.i = omega (arith, c.loop-i-test.false) in
    passes_too (list_all (is_within c.args.low c.args.high) c.args.values.now) Range c.args.key (sym c.loop-i.invariant.within ∙ past_last (is_within c.args.low c.args.high) c.args.values.now c.loop-i.i l)

pub push_reserved-requires : goal.push_reserved-requires
push_reserved-requires c = omega (arith, c.loop-i-test.true, c.loop-i.invariant.len, c.loop-i.invariant.room)

pub returns-clause-value : goal.returns-clause-value
returns-clause-value c =
    let l : length c.args.values.now ≤ c.loop-i.i = omega (arith, c.loop-i-test.false) in
    all_rows natural c.args.values.now c.loop-i.i c.loop-i.numbers.items l c.loop-i.invariant.numbers
