-- How late a packet may come: a law.
use Rattle.std.specs.Prelude.{◌<◌, ◌+◌, ◌^◌, ℕ, Some}
use Rattle.std.specs.List.{Contains}
use Rattle.settings.specs.Configuration.{Configuration}
use Rattle.sctp_rules.specs.Settings.{Address}
use Rattle.sctp_ends.specs.Worlds.{Emitted}
use Rattle.sctp_gate.specs.Calling.{Hears}
use Rattle.node_rules.specs.Worlds.{IsBetween}
use Rattle.gate_rules.specs.Worlds.{Node, MayDo, Calls}

-- a packet may come while fewer than 2^32 messages passed the gate that put it out since it was made, but 512
abbrev pub packets_may_come_late : Type 0
packets_may_come_late =
    (own other : Configuration) (there : Node) (link now : ℕ) (source : Address) (one : Emitted)
    (b : IsBetween own other link) → Contains (there.ports b.there).packets one →
    (there.ports b.there).messages + 512 < one.made + 2 ^ 32 →
    MayDo own other there (Calls link (Hears now (Some one.packet) source))
