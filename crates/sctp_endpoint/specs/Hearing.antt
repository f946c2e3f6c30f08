-- A cookie that comes, step by step.
use Rattle.std.specs.Prelude.{ℕ, ◌-◌, nat_eq, nat_lt, if◌then◌else◌}
use Rattle.sctp_cookie.specs.declared.cookie.Cookie.{Cookie}
use Rattle.sctp_rules.specs.Settings.{Settings, Secrets, Address}
use Rattle.sctp_rules.specs.State.{State}
use Rattle.sctp_rules.specs.Opening.{Echo, stops, stale, staleness, good_echo_in}

-- within its life a cookie is good only in its generation
abbrev pub heard_in_time : Settings → Secrets → (now : ℕ) → Address → Cookie → State → Echo
heard_in_time c k now source cookie s =
    if nat_eq cookie.generation s.generation
    then good_echo_in s.association.phase c k now source cookie s
    else stops (stale c source 1 cookie s)

-- one that isn't that of the association is good within its life
abbrev pub heard_another : Settings → Secrets → (now : ℕ) → Address → Cookie → State → Echo
heard_another c k now source cookie s =
    if nat_lt cookie.life (now - cookie.made)
    then stops (stale c source (staleness now cookie) cookie s)
    else heard_in_time c k now source cookie s
