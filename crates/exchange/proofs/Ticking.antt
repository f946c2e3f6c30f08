-- One timer has run, and one fewer is left to run.
use Rattle.exchange.proofs.Basics.{◌≡◌, ◌<◌, ◌+◌, ◌-◌, ℕ, suc, arith, State, with_node, KeptQueues, kept, run_next, run_times}

-- the state after so many more timers ran
abbrev pub run_on : ℕ → State KeptQueues → State KeptQueues
run_on many s = with_node s (run_times kept s.settings many s.node)

pub one_fewer : (s : State KeptQueues) (end at : ℕ) → at < end → run_on (end - (at + 1)) (with_node s (run_next kept s.settings s.node)) ≡ run_on (end - at) s
one_fewer s end at h =
    let left : end - at ≡ suc (end - (at + 1)) = omega (arith, h) in
    rw left
