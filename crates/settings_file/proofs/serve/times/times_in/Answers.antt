use Rattle.settings_file.proofs.Within.{ordered-within}
use Rattle.settings_file.proofs.serve.times.times_in.Goals as goal

pub returns-clause-within : goal.returns-clause-within
returns-clause-within c =
    ordered-within c.ordered.result _ c.ordered.ensures.same c.ordered.ensures.above c.ordered.ensures.below
    c.in_ok-rto_min_ms.ensures.above c.in_ok-rto_max_ms.ensures.below
    c.in_ok-init_tries.ensures.above c.in_ok-init_tries.ensures.below
    c.in_ok-retransmissions.ensures.above c.in_ok-retransmissions.ensures.below
    c.in_ok-heartbeat_ms.ensures.above c.in_ok-heartbeat_ms.ensures.below
