-- Messages that a node sends to another for a point beyond it, and what may be told of the route to that point.
use Rattle.std.specs.Prelude.{◌&&◌, ℕ, Bool, false, nat_eq, Result, Ok, Err}
use Rattle.signalling_types.specs.Message.{Message, is_management}
use Rattle.mtp3_codec.specs.Management.{read_management}
use Rattle.mtp3_codec.specs.declared.fault.MgmtFault.{MgmtFault}
use Rattle.mtp3_codec.specs.declared.management.Management.{Management}
use Rattle.mtp3_codec.specs.declared.management.Management.TheVariants as says

-- ---- what is told of the route to a point

-- by a TFP, TFR or TFA (Q.704 §13.2 to §13.4)
abbrev pub tells_route : (point : ℕ) → Management → Bool
tells_route point (says.TransferProhibited about) = nat_eq about point
tells_route point (says.TransferRestricted about) = nat_eq about point
tells_route point (says.TransferAllowed about) = nat_eq about point
tells_route point (says.ExtendedChangeoverOrder slc number) = false
tells_route point (says.ExtendedChangeoverAcknowledgement slc number) = false
tells_route point (says.EmergencyChangeoverOrder slc) = false
tells_route point (says.EmergencyChangeoverAcknowledgement slc) = false
tells_route point (says.ChangebackDeclaration slc code) = false
tells_route point (says.ChangebackAcknowledgement slc code) = false
tells_route point (says.RouteSetTestProhibited about) = false
tells_route point (says.RouteSetTestRestricted about) = false
tells_route point says.TrafficRestartAllowed = false
tells_route point (says.UserPartUnavailable about user_part cause) = false

abbrev pub tells_word : (point : ℕ) → Result Management MgmtFault → Bool
tells_word point (Ok word) = tells_route point word
tells_word point (Err fault) = false

abbrev pub tells_of : (point : ℕ) → Message → Bool
tells_of point m = is_management m && tells_word point (read_management m.sif)
