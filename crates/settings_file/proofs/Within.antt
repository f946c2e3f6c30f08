-- Times and tries that were read are within their limits.
use Rattle.settings_file.proofs.Basics.{◌≡◌, ◌≤◌, Result, Ok, Err}
use Rattle.std.specs.Prelude.{IfOk}
use Rattle.settings_file.specs.Times.{AreWithin}
use Rattle.settings_file.specs.declared.serve.sctp.SctpTimes.{SctpTimes}

pub ordered-within : {E : Type 0} (r : Result SctpTimes E) (t : SctpTimes) → IfOk r (λ o. o ≡ t)
    → IfOk r (λ o. o.rto_min_ms ≤ o.rto_initial_ms) → IfOk r (λ o. o.rto_initial_ms ≤ o.rto_max_ms)
    → 10 ≤ t.rto_min_ms → t.rto_max_ms ≤ 60000 → 1 ≤ t.init_tries → t.init_tries ≤ 100
    → 1 ≤ t.retransmissions → t.retransmissions ≤ 100 → 100 ≤ t.heartbeat_ms → t.heartbeat_ms ≤ 600000
    → IfOk r AreWithin
ordered-within (Ok o) t same above below least most ia ib ra rb ha hb = record {
  least = rw same least;
  initial_above = above;
  initial_below = below;
  most = rw same most;
  init_tries_above = rw same ia;
  init_tries_below = rw same ib;
  retransmissions_above = rw same ra;
  retransmissions_below = rw same rb;
  heartbeat_above = rw same ha;
  heartbeat_below = rw same hb;
}
ordered-within (Err e) t same above below least most ia ib ra rb ha hb = tt
