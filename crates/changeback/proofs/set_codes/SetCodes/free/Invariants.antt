-- No code before this one is free.
use Rattle.std.proofs.Common.{◌≡◌, ◌<◌, ℕ, false, not, slice_index_or}
use Rattle.changeback.proofs.set_codes.SetCodes.free.Given as goal

abbrev pub invariant-loop-code : goal.invariant-loop-code
invariant-loop-code l = (k : ℕ) → k < l.code → not (slice_index_or l.self-inside.outstanding k false) ≡ false
