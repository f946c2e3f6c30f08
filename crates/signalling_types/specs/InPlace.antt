-- A message in place is what its service information octet and its field make.
use Rattle.std.specs.Prelude.{◌≡◌, ◌-◌, length, take, ◌++◌, replicate}
use Rattle.std.proofs.Common.{arith}
use Rattle.std.proofs.lemmas.List.{length-take-le, take-append-drop}
use Rattle.signalling_types.specs.Room.{message_in, IsInPlace, put_in_place}
use Rattle.signalling_types.specs.declared.limits.TheConstants.Limits.{SIF_OCTETS}
use Rattle.signalling_types.specs.declared.message.Msu.TheInside.{Inside}

pub put_in_place-message_in : (m : Inside) → IsInPlace m → put_in_place (message_in m) ≡ m
put_in_place-message_in m h =
    let len : length (take m.len m.octets) ≡ m.len = length-take-le m.len m.octets (omega (arith, h.row, h.fits)) in
    let row : take m.len m.octets ++ replicate (SIF_OCTETS - m.len) 0 ≡ m.octets =
    rw (← h.padded) (take-append-drop m.len m.octets) in
    rw (len, row)
