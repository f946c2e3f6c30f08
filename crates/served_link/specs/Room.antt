-- What an association keeps of the octets that go out.
use Rattle.std.specs.Prelude.{ℕ, ◌-◌, List, slice_range}
use Rattle.served_link.specs.declared.outgoing.Outgoing.{Outgoing}
use Rattle.served_link.specs.declared.outgoing.TheConstants.{OUTPUT_OCTETS}

abbrev pub pending_in : Outgoing → List ℕ
pending_in o = slice_range o.buffer o.start o.end

-- how much room there is after them
abbrev pub room_behind : Outgoing → ℕ
room_behind o = OUTPUT_OCTETS - o.end
