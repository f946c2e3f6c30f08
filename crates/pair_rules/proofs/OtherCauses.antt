-- The causes for which SCCP, and a message for another point, are refused aren't that of user parts.
use Rattle.pair_rules.proofs.Basics.{◌≡◌, ◌≢◌, ℕ, Bool, true, false, List, Option, Some, None, refl, ap, sym, ◌∙◌, ◌&&◌, ◌||◌, not, option_or, if◌then◌else◌}
use Rattle.pair_rules.proofs.Definitions.{Message, dpc_of, flow_of, is_management, Cause, Outcome, Refused, Queued, Held, Configuration, Node, Done, refuse, WholeQueues, whole, link_of, is_share_full, no_room_on, no_room_for, waits}
use Rattle.signalling_types.specs.declared.cause.Cause.TheVariants as causes
use Rattle.sccp_relay.specs.Relay as relays
use Rattle.sccp_relay.specs.Points.{OwnValue}
use Rattle.sccp_relay.specs.Statuses.{TitlesValue}
use Rattle.sccp_relay.proofs.RefusedCauses.{is_relay_cause, is_refused_so, refused-so}
use Rattle.exchange_rules.specs.Messages.{is_destination, offer, transfer}

abbrev pub is_other : Cause → Bool
is_other causes.NoUserPart = false
is_other cause = true

pub other-cause : (cause : Cause) → is_other cause ≡ true → cause ≢ causes.NoUserPart
other-cause cause e = λ f. let no : is_other causes.NoUserPart ≡ true = ap is_other (sym f) ∙ e in absurd cc

abbrev pub is_relay_other : relays.RelayedValue → Bool
is_relay_other relays.Delivered = true
is_relay_other (relays.Onward sif) = true
is_relay_other (relays.Heard news) = true
is_relay_other (relays.Refused cause) = is_other cause

-- the causes for which SCCP refuses
relay-cause : (cause : Cause) → is_relay_cause cause ≡ true → is_other cause ≡ true
relay-cause causes.NoUserPart e = absurd cc
relay-cause cause e = refl

relayed-other : (v : relays.RelayedValue) → is_refused_so v ≡ true → is_relay_other v ≡ true
relayed-other relays.Delivered e = refl
relayed-other (relays.Onward sif) e = refl
relayed-other (relays.Heard news) e = refl
relayed-other (relays.Refused cause) e = relay-cause cause e

pub relay-other : (own : OwnValue) (rows : TitlesValue) (sif : List ℕ) → is_relay_other (relays.relay own rows sif) ≡ true
relay-other own rows sif = relayed-other (relays.relay own rows sif) (refused-so own rows sif)

-- nor are those of a message for another point, which is queued, held or refused
abbrev pub is_way_on : Outcome → Bool
is_way_on (Queued link) = true
is_way_on Held = true
is_way_on (Refused cause) = is_other cause
is_way_on outcome = false

abbrev is_room_other : Option Cause → Bool
is_room_other (Some cause) = is_other cause
is_room_other None = true

module _ (c : Configuration) (m : Message) (n : Node WholeQueues) where
  offer-other : (room : Option Cause) (waiting : Bool) (link : Option ℕ) → is_room_other room ≡ true → is_way_on (offer whole c room waiting link None m n).outcome ≡ true
  offer-other (Some cause) waiting link e = e
  offer-other None true link e = refl
  offer-other None false (Some link) e = refl
  offer-other None false None e = refl

  full-other : (full : Bool) → is_room_other (if full then Some causes.ShareFull else None) ≡ true
  full-other true = refl
  full-other false = refl

  share-other : (link : Option ℕ) (waiting : Bool) → is_room_other (no_room_on whole c link waiting m n.queues) ≡ true
  share-other None waiting = refl
  share-other (Some link) waiting = full-other (is_share_full whole c link n.queues && not (waiting || is_management m))

  room-other : (managing few many : Bool) (share : Option Cause) → is_room_other share ≡ true
      → is_room_other (option_or (if managing then (if few then Some causes.ManagementFull else None) else (if many then Some causes.PoolFull else None)) share) ≡ true
  room-other true true many share e = refl
  room-other true false many share e = e
  room-other false few true share e = refl
  room-other false few false share e = e

  known-other : (b : Bool) (d : Done WholeQueues) → is_way_on d.outcome ≡ true → is_way_on (if b then d else refuse causes.UnknownDestination n).outcome ≡ true
  known-other true d e = e
  known-other false d e = refl

  pub transfer-other : is_way_on (transfer whole c None m n).outcome ≡ true
  transfer-other =
      let waiting : Bool = waits c n.parts.holds m in
      let link : Option ℕ = link_of c n.parts (flow_of m) in
      known-other (is_destination c (dpc_of m)) (offer whole c (no_room_for whole c m n) waiting link None m n)
      (offer-other (no_room_for whole c m n) waiting link (room-other (is_management m) _ _ (no_room_on whole c link waiting m n.queues) (share-other link waiting)))
