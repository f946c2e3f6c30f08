-- Running counts of the messages that went out.
use Rattle.std.specs.Prelude.{ℕ, ◌+◌, ◌-◌, Bool, List, sum_by, if◌then◌else◌}
use Rattle.sctp_sending.specs.declared.tally.Tally.{Tally}
use Rattle.sctp_sending.specs.Outgoing.{Outgoing, under_way_of}

-- one for each that is marked
abbrev pub one_if : Bool → ℕ
one_if mark = if mark then 1 else 0

abbrev pub lost_of : Outgoing → ℕ
lost_of o = one_if o.lost

abbrev pub named_of : Outgoing → ℕ
named_of o = one_if o.named

-- the octets under way, how many are lost, and how many are named
abbrev pub tally_of : List Outgoing → Tally
tally_of out = record { under_way = sum_by under_way_of out; lost = sum_by lost_of out; named = sum_by named_of out }

-- with one more, and without one
abbrev pub tally_with : Tally → Outgoing → Tally
tally_with t o =
    record { under_way = t.under_way + under_way_of o; lost = t.lost + lost_of o; named = t.named + named_of o }

abbrev pub tally_without : Tally → Outgoing → Tally
tally_without t o =
    record { under_way = t.under_way - under_way_of o; lost = t.lost - lost_of o; named = t.named - named_of o }
