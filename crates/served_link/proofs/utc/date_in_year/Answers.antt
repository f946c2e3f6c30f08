use Rattle.std.proofs.Common.{◌≡◌, ◌∙◌, ◌<◌, ◌≤◌, arith, sym}
use Rattle.served_link.specs.Utc.{month_days}
use Rattle.served_link.proofs.Dates.{in_month, last_month, past_month}
use Rattle.served_link.proofs.utc.date_in_year.Goals as goal

pub returns-then-left-length : goal.returns-then-left-length
returns-then-left-length c =
    let here : c.loop-month.left < month_days c.args.year c.loop-month.month = rw (← c.month_days-length.ensures.days) c.if-left-length.true in
    sym (in_month 12 c.args.year c.loop-month.month c.loop-month.left c.loop-month-test.true here) ∙ c.loop-month.invariant.same

pub loop-month-preserved : goal.loop-month-preserved
loop-month-preserved c = record {
  some_left = omega (arith, c.loop-month.invariant.some_left);
  same =
      let past : month_days c.args.year c.loop-month.month ≤ c.loop-month.left = rw (← c.month_days-length.ensures.days) c.if-left-length.false in
      rw c.month_days-length.ensures.days
      (past_month 12 c.args.year c.loop-month.month c.loop-month.left c.loop-month-test.true past ∙ c.loop-month.invariant.same);
}

pub returns : goal.returns
returns c =
    let last : c.loop-month.month ≡ 12 = omega (arith, c.loop-month-test.false, c.loop-month.auto.month-end) in
    last_month 12 c.args.year c.loop-month.month c.loop-month.left last ∙ c.loop-month.invariant.same
