-- What a window holds.
use Rattle.std.specs.Prelude.{ℕ, ◌-◌, List, slice_range}
use Rattle.signalling_types.specs.declared.limits.TheConstants.Limits.{FRAME_OCTETS}
use Rattle.m2pa_codec.specs.declared.window.Window.{Window}

abbrev pub items : Window → List ℕ
items w = slice_range w.octets w.start w.end

-- how much room there is after it
abbrev pub room : Window → ℕ
room w = FRAME_OCTETS - w.end
