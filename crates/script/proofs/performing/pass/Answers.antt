-- One tick passes, and one fewer is left.
use Rattle.script.proofs.Basics.{◌∙◌, ◌≡◌, ◌<◌, ◌+◌, ◌-◌, ℕ, suc, arith, kept, Kept, after_tick, after_ticks}
use Rattle.script.proofs.performing.pass.Goals as goal

one_tick_fewer : (s : Kept) (end at : ℕ) → at < end → after_ticks kept (end - (at + 1)) (after_tick kept s) ≡ after_ticks kept (end - at) s
one_tick_fewer s end at h =
    let left : end - at ≡ suc (end - (at + 1)) = omega (arith, h) in
    rw left

pub loop-preserved : goal.loop-preserved
loop-preserved c = rw (c.test_subsystems.ensures.kept_state, c.step.ensures.kept_state) (one_tick_fewer c.loop.exchange _ _ c.loop-test.true ∙ c.loop.invariant)
