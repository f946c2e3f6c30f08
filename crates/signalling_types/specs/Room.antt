-- How a message lies in place: its octets at the front of a row of fixed length, and zeros after them.
use Rattle.std.specs.Prelude.{◌≡◌, ◌-◌, ◌≤◌, ◌++◌, length, take, drop, replicate}
use Rattle.signalling_types.specs.Message.{Message}
use Rattle.signalling_types.specs.declared.limits.TheConstants.Limits.{SIF_OCTETS}
use Rattle.signalling_types.specs.declared.message.Msu.TheInside.{Inside}

abbrev pub message_in : Inside → Message
message_in m = record { sio = m.sio; sif = take m.len m.octets }

pub record IsInPlace (m : Inside) : Type 0 where
  pub row : length m.octets ≡ SIF_OCTETS
  pub fits : m.len ≤ SIF_OCTETS
  pub padded : drop m.len m.octets ≡ replicate (SIF_OCTETS - m.len) 0

abbrev pub put_in_place : Message → Inside
put_in_place m = record { octets = m.sif ++ replicate (SIF_OCTETS - length m.sif) 0; len = length m.sif; sio = m.sio }
