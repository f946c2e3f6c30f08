-- The times and tries of associations: the keys of the table `serve.sctp`.
use Rattle.std.specs.Prelude.{◌≤◌, ℕ, Bool, Option, Some, None, option_and_then, Result, Ok, Err}
use Rattle.std.specs.Prelude.{if◌then◌else◌, ◌&&◌, nat_le}
use Rattle.toml.specs.Data.{Data, Members}
use Rattle.settings_file.specs.declared.serve.key.ServeKey.{ServeKey}
use Rattle.settings_file.specs.declared.serve.key.ServeKey.TheVariants as key
use Rattle.settings_file.specs.declared.serve.fault.ServeFault.{ServeFault}
use Rattle.settings_file.specs.declared.serve.fault.ServeFault.TheVariants.{Kind, Range}
use Rattle.settings_file.specs.declared.serve.sctp.SctpTimes.{SctpTimes}
use Rattle.settings_file.specs.ServeKeys.{found_at}
use Rattle.settings_file.specs.Shapes.{and_then, table_in}
use Rattle.settings_file.specs.Keyed.{number_or}

-- the times and tries if a file says nothing of them. From version 4 on no timeout is shorter than the 200 ms for which
-- others usually delay their SACK
abbrev pub usual_times : (is_fourth : Bool) → SctpTimes
usual_times is_fourth = record {
  rto_initial_ms = if is_fourth then 400 else 300;
  rto_min_ms = if is_fourth then 400 else 100;
  rto_max_ms = 1000;
  init_tries = 8;
  retransmissions = 10;
  heartbeat_ms = 5000;
}

-- times and tries within their limits, with the initial timeout from the shortest to the longest
pub record AreWithin (t : SctpTimes) : Type 0 where
  pub least : 10 ≤ t.rto_min_ms
  pub initial_above : t.rto_min_ms ≤ t.rto_initial_ms
  pub initial_below : t.rto_initial_ms ≤ t.rto_max_ms
  pub most : t.rto_max_ms ≤ 60000
  pub init_tries_above : 1 ≤ t.init_tries
  pub init_tries_below : t.init_tries ≤ 100
  pub retransmissions_above : 1 ≤ t.retransmissions
  pub retransmissions_below : t.retransmissions ≤ 100
  pub heartbeat_above : 100 ≤ t.heartbeat_ms
  pub heartbeat_below : t.heartbeat_ms ≤ 600000

-- the number of a key of a table, which may be left out as a whole
abbrev pub number_at : ServeKey → (least most usual : ℕ) → Option Members → Result ℕ ServeFault
number_at key least most usual t = number_or key least most usual (option_and_then (found_at key) t)

-- a timeout: 10 to 60,000 ms
abbrev pub timeout_at : ServeKey → (usual : ℕ) → Option Members → Result ℕ ServeFault
timeout_at key usual t = number_at key 10 60000 usual t

-- how often something is tried: 1 to 100 times
abbrev pub tries_at : ServeKey → (usual : ℕ) → Option Members → Result ℕ ServeFault
tries_at key usual t = number_at key 1 100 usual t

-- the time between heartbeats: 100 to 600,000 ms
abbrev pub heartbeat_at : (usual : ℕ) → Option Members → Result ℕ ServeFault
heartbeat_at usual t = number_at key.HeartbeatMs 100 600000 usual t

-- the initial timeout is from the shortest to the longest
abbrev pub ordered : SctpTimes → Result SctpTimes ServeFault
ordered t =
    if nat_le t.rto_min_ms t.rto_initial_ms && nat_le t.rto_initial_ms t.rto_max_ms
    then Ok t
    else Err (Range key.RtoInitialMs)

-- the keys of the table in their order; then how the timeouts are ordered
unfoldable pub times_in : (usual : SctpTimes) → Option Members → Result SctpTimes ServeFault
times_in usual t =
    and_then (timeout_at key.RtoInitialMs usual.rto_initial_ms t) (λ initial.
    and_then (timeout_at key.RtoMinMs usual.rto_min_ms t) (λ least.
    and_then (timeout_at key.RtoMaxMs usual.rto_max_ms t) (λ most.
    and_then (tries_at key.InitTries usual.init_tries t) (λ init_tries.
    and_then (tries_at key.Retransmissions usual.retransmissions t) (λ retransmissions.
    and_then (heartbeat_at usual.heartbeat_ms t) (λ heartbeat.
    ordered (record {
      rto_initial_ms = initial;
      rto_min_ms = least;
      rto_max_ms = most;
      init_tries = init_tries;
      retransmissions = retransmissions;
      heartbeat_ms = heartbeat;
    })))))))

-- the table `sctp` of `serve`, if there is one
abbrev pub sctp_in : Option Data → Result (Option Members) ServeFault
sctp_in None = Ok None
sctp_in (Some d) = and_then (table_in (Kind key.Sctp) d) (λ t. Ok (Some t))

unfoldable pub sctp_at : Members → Result (Option Members) ServeFault
sctp_at serve = sctp_in (found_at key.Sctp serve)

unfoldable pub times_at : (is_fourth : Bool) → Members → Result SctpTimes ServeFault
times_at is_fourth serve = and_then (sctp_at serve) (times_in (usual_times is_fourth))
