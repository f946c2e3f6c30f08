use Rattle.std.proofs.Common.{◌≡◌, ◌∙◌, ◌<◌, ◌≤◌, arith, sym}
use Rattle.served_link.specs.Utc.{year_days}
use Rattle.served_link.proofs.Dates.{in_year, last_year, past_year}
use Rattle.served_link.proofs.utc.date_of.Goals as goal

pub returns-then-left-length : goal.returns-then-left-length
returns-then-left-length c =
    let here : c.loop-year.left < year_days c.loop-year.year = rw (← c.year_days-length.ensures) c.if-left-length.true in
    c.date_in_year.ensures
    ∙ sym (in_year 9999 c.loop-year.year c.loop-year.left c.loop-year-test.true here) ∙ c.loop-year.invariant.same

pub loop-year-preserved : goal.loop-year-preserved
loop-year-preserved c = record {
  some_left = omega (arith, c.loop-year.invariant.some_left);
  same =
      let past : year_days c.loop-year.year ≤ c.loop-year.left = rw (← c.year_days-length.ensures) c.if-left-length.false in
      rw c.year_days-length.ensures
      (past_year 9999 c.loop-year.year c.loop-year.left c.loop-year-test.true past ∙ c.loop-year.invariant.same);
}

pub returns : goal.returns
returns c =
    let last : c.loop-year.year ≡ 9999 = omega (arith, c.loop-year-test.false, c.loop-year.auto.year-end) in
    c.date_in_year-2.ensures ∙ last_year 9999 c.loop-year.year c.loop-year.left last ∙ c.loop-year.invariant.same
