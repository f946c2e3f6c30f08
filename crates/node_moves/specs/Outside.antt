-- Links that lead out of a network, to points without a node; and what comes by them.
use Rattle.std.specs.Prelude.{◌≡◌, ◌<◌, ◌^◌, ◌&&◌, ◌||◌, ℕ, Bool, true, false, not, List, [], ◌∷◌, ◌++◌, length, nat_eq}
use Rattle.std.specs.Prelude.{nat_lt, is_some, Result, Ok, Err, if◌then◌else◌}
use Rattle.signalling_types.specs.Message.{Message, dpc_of, opc_of, service_indicator}
use Rattle.signalling_types.specs.declared.limits.TheConstants.Limits.{SIF_OCTETS}
use Rattle.settings.specs.Configuration.{Configuration}
use Rattle.settings.specs.Well.{IsWell}
use Rattle.exchange_rules.specs.Routing.{peer_of}
use Rattle.exchange_rules.specs.State.{FrameCame}
use Rattle.m2pa_codec.specs.Frames.{FrameValue, EmptyFrame, MessageFrame, StatusFrame}
use Rattle.signalling_types.specs.declared.notice.FrameFault.{FrameFault}
use Rattle.mtp3_codec.specs.Management.{read_management}
use Rattle.mtp3_codec.specs.declared.fault.MgmtFault.{MgmtFault}
use Rattle.mtp3_codec.specs.declared.management.Management.{Management}
use Rattle.mtp3_codec.specs.declared.management.Management.TheVariants as says
use Rattle.node_moves.specs.Networks.{NetworkNode, IsNode, happens, is_node, other_end, updated}

-- each node is at its point, and its settings are checked; and each of its links that leads to a node has its other end
-- there. The others lead out
pub record ArePlaced (settings : (point : ℕ) → Configuration) : Type 0 where
  pub own : (point : ℕ) → IsNode settings point → (settings point).own ≡ point
  pub well : (point : ℕ) → IsNode settings point → IsWell (settings point)
  pub joined : (point link : ℕ) → IsNode settings point → link < length (settings point).links →
      IsNode settings (peer_of (settings point) link) → is_some (other_end settings point link) ≡ true

-- whether a link of a node leads out
abbrev pub leads_out : ((point : ℕ) → Configuration) → (point link : ℕ) → Bool
leads_out settings point link =
    is_node settings point
    && (nat_lt link (length (settings point).links) && not (is_node settings (peer_of (settings point) link)))

module _ (settings : (point : ℕ) → Configuration) where
  -- an order or an answer that comes from outside isn't from a node to a node, and its number has 24 bits. By which link
  -- it comes doesn't matter: one about a link goes by another link of its set, or by any route (Q.704 §5.4)
  abbrev pub is_from_outside : Message → (number : ℕ) → Bool
  is_from_outside m number =
      not (is_node settings (opc_of m) && is_node settings (dpc_of m)) && nat_lt number (2 ^ 24)

  -- so nobody outside spoofs a node to another. Nor does anybody there make an emergency changeover order, or answer one
  abbrev pub spoofs_nobody : Message → Result Management MgmtFault → Bool
  spoofs_nobody m (Ok (says.ExtendedChangeoverOrder slc number)) = is_from_outside m number
  spoofs_nobody m (Ok (says.ExtendedChangeoverAcknowledgement slc number)) = is_from_outside m number
  spoofs_nobody m (Ok (says.EmergencyChangeoverOrder slc)) = false
  spoofs_nobody m (Ok (says.EmergencyChangeoverAcknowledgement slc)) = false
  spoofs_nobody m (Ok (says.ChangebackDeclaration slc code)) = true
  spoofs_nobody m (Ok (says.ChangebackAcknowledgement slc code)) = true
  spoofs_nobody m (Ok (says.TransferProhibited point)) = true
  spoofs_nobody m (Ok (says.TransferRestricted point)) = true
  spoofs_nobody m (Ok (says.TransferAllowed point)) = true
  spoofs_nobody m (Ok (says.RouteSetTestProhibited point)) = true
  spoofs_nobody m (Ok (says.RouteSetTestRestricted point)) = true
  spoofs_nobody m (Ok says.TrafficRestartAllowed) = true
  spoofs_nobody m (Ok (says.UserPartUnavailable point user_part cause)) = true
  spoofs_nobody m (Err fault) = true

  -- whether a message may come from outside: it is no longer than a signalling information field, and spoofs no node to
  -- another
  abbrev pub may_come : Message → Bool
  may_come m =
      not (nat_lt SIF_OCTETS (length m.sif))
      && (not (nat_eq (service_indicator m) 0) || spoofs_nobody m (read_management m.sif))

  -- such a frame is in flight to the node at a point on a link, whatever its numbers. A text that is no frame is handed
  -- in at once
  abbrev pub put_in : (point link : ℕ) → List ℕ → Result FrameValue FrameFault → NetworkNode → NetworkNode
  put_in point link text (Ok (StatusFrame bsn fsn status)) x =
      record x { statuses = updated x.statuses link (x.statuses link ++ text ∷ []) }
  put_in point link text (Ok (EmptyFrame bsn fsn)) x =
      record x { user_data = updated x.user_data link (x.user_data link ++ text ∷ []) }
  put_in point link text (Ok (MessageFrame bsn fsn sio sif)) x =
      if may_come (record { sio = sio; sif = sif })
      then record x { user_data = updated x.user_data link (x.user_data link ++ text ∷ []) }
      else x
  put_in point link text (Err fault) x = happens (settings point) (FrameCame link text) x
