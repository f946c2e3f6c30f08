use Rattle.settings.proofs.Basics.{refl, ◌≤◌, ◌<◌, length, ◌∙◌, arith, length-set, err_from_is_err_and, natural, ticks_fault}
use Rattle.settings.specs.declared.timers.Written.{Written}
use Rattle.settings.proofs.Entries.{past_entry, at_entry, next_place, last_place}
use Rattle.settings.proofs.timers.all_ticks.Goals as goal

pub returns-in_err-all-clause-fault : goal.returns-in_err-all-clause-fault
returns-in_err-all-clause-fault c =
    let p = err_from_is_err_and c.from_residual.result c.from_residual.ensures.1 in
    let l : c.loop-i.i < length c.args.timers.now = omega arith in
    rw (p.1, p.2) (rw (← c.loop-i.invariant.fault) (at_entry ticks_fault c.args.timers.now c.loop-i.i _ _ _ l refl c.in_err-all.ensures.fault))

pub loop-i-preserved : goal.loop-i-preserved
loop-i-preserved c =
    let l : c.loop-i.i < length c.args.timers.now = omega arith in
    let m : c.loop-i.i < length c.loop-i.all = omega (arith, c.loop-i.invariant.len) in
    record {
      len = length-set c.loop-i.all c.loop-i.i c.in_ok-all.field-0 ∙ c.loop-i.invariant.len;
      ticks = next_place (λ (w : Written). natural w.ticks) c.args.timers.now c.loop-i.i _ _ c.loop-i.all c.in_ok-all.field-0 l m refl c.loop-i.invariant.ticks c.in_ok-all.ensures.value;
      fault = past_entry ticks_fault c.args.timers.now c.loop-i.i _ _ l refl c.in_ok-all.ensures.well ∙ c.loop-i.invariant.fault;
    }

pub returns-clause-value : goal.returns-clause-value
returns-clause-value c =
    let l : length c.args.timers.now ≤ c.loop-i.i = omega arith in
    let m : length c.loop-i.all ≤ c.loop-i.i = omega (arith, c.loop-i.invariant.len) in
    last_place (λ (w : Written). natural w.ticks) c.args.timers.now c.loop-i.i c.loop-i.all l m c.loop-i.invariant.ticks
