-- What a node that leads to one point alone accepts is for that point, and is a user message.
use Rattle.exchange_rules.specs.Reroutings.{first_reroutings}
use Rattle.signalling_types.specs.Message.{opc_of}
use Rattle.exchange_rules.specs.Telling.{answer_no_user_part}
use Rattle.pair_rules.proofs.Basics.{◌≡◌, ◌≢◌, ◌⊎◌, inl, inr, ◌<◌, ◌&&◌, suc, ℕ, Bool, true, false, not, List, [], ◌∷◌, length, Option, Some, None, is_some, nat_eq, refl, ap, sym, subst, ◌∙◌, arith, All, if◌then◌else◌, slice_index_or, eq-eqb}
use Rattle.std.proofs.lemmas.List.Elements.{All-append, All-cons, All-nil}
use Rattle.std.proofs.lemmas.List.Quantifiers.{position-Some}
use Rattle.pair_rules.proofs.Definitions.{DestinationEntry, Message, dpc_of, flow_of, is_management, service_indicator, Outcome, Handled, Held, Ignored, Local, Queued, Refused, Configuration, destination_place, read_frame, Discrimination, Node, Done, answer, refuse, WholeQueues, whole, no_room_for, waits, link_of, accept_text, answered_in, brought_by, brought_here, brought_in, brought_to, taken_in, unitdata_in, is_user, local, manage, sccp, on_unitdata, deliver_to, submit_to, whither_goes, new_message, FrameCame, Submitted, outcome_of}
use Rattle.signalling_types.specs.declared.cause.Cause.TheVariants as causes
use Rattle.mtp3_codec.specs.declared.discrimination.Discrimination.TheVariants as whither
use Rattle.sccp_relay.specs.Relay.{RelayedValue, relay}
use Rattle.sccp_relay.specs.Returning.{returned}
use Rattle.sccp_relay.specs.Relay as relays
use Rattle.settings.specs.Facing.{LeadsOnlyTo}
use Rattle.exchange_rules.specs.Messages.{is_destination, offer, transfer, in_place_of, own_of, relay_by}
use Rattle.exchange_rules.specs.First.{Abstract}
use Rattle.exchange_rules.specs.Conserving.{relayed_in, returned_in}
use Rattle.exchange_rules.specs.LastingMessages.{is_onward}
use Rattle.exchange_rules.proofs.Basics.{eqb-true}
use Rattle.exchange_rules.proofs.FacingNodes.{destination-sole, destinations-one}
use Rattle.neighbour_rules.specs.Neighbours.{users_to}
use Rattle.pair_rules.specs.Accepting.{IsUserMessageTo}
use Rattle.pair_rules.proofs.Bringing.{is-no-sccp}
use Rattle.pair_rules.proofs.Arrivals.{received-as}
use Rattle.pair_rules.proofs.Steps.{outcome-same}

-- ---- the messages of a list that are for a point, where all are

pub all-to : (point : ℕ) (ms : List Message) → All (IsUserMessageTo point) ms → users_to point ms ≡ ms
all-to point [] h = refl
all-to point (m ∷ ms) h =
    let is : IsUserMessageTo point m = h 0 m (omega arith) in
    let rest : users_to point ms ≡ ms = all-to point ms (λ k d l. h (suc k) d (omega (arith, l))) in
    ap (λ (b : Bool). if not b && nat_eq (dpc_of m) point then m ∷ users_to point ms else users_to point ms) is.user
    ∙ ap (λ (b : Bool). if b then m ∷ users_to point ms else users_to point ms) (eq-eqb (dpc_of m) point is.destination)
    ∙ ap (λ (xs : List Message). m ∷ xs) rest

-- ---- a node with one destination

-- the only destination of a node is this point
abbrev pub HasOnly : Configuration → (point : ℕ) → Type 0
HasOnly c far = (point place : ℕ) → destination_place c point ≡ Some place → point ≡ far

pub has-only : (c : Configuration) (far : ℕ) → LeadsOnlyTo c far → HasOnly c far
has-only c far leads point place e =
    let none : DestinationEntry = record { point = 0; sets = []; joined = false } in
    let found : (place < length c.destinations) × (nat_eq point (slice_index_or c.destinations place none).point ≡ true)
    × ((k : ℕ) → k < place → nat_eq point (slice_index_or c.destinations k none).point ≡ false) =
    position-Some (λ (d : DestinationEntry). nat_eq point d.point) c.destinations place none e in
    let first : place ≡ 0 = omega (arith, found.0, destinations-one c far leads) in
    eqb-true point (slice_index_or c.destinations place none).point found.1
    ∙ ap (λ (k : ℕ). (slice_index_or c.destinations k none).point) first ∙ destination-sole c far leads

module _ (c : Configuration) (far : ℕ) (only : HasOnly c far) where
  abbrev Are : List Message → Type 0
  Are ms = All (IsUserMessageTo far) ms

  none : Are []
  none = All-nil (IsUserMessageTo far)

  -- ---- what is accepted of a message

  taken-in : (outcome : Outcome) (m : Message) → IsUserMessageTo far m → Are (taken_in outcome m)
  taken-in (Queued link) m is = All-cons (IsUserMessageTo far) m [] is none
  taken-in Held m is = All-cons (IsUserMessageTo far) m [] is none
  taken-in Local m is = none
  taken-in Handled m is = none
  taken-in Ignored m is = none
  taken-in (Refused cause) m is = none

  only-far : (place : Option ℕ) (point : ℕ) → destination_place c point ≡ place → is_some place ≡ true → point ≡ far
  only-far (Some place) point e f = only point place e
  only-far None point e f = absurd cc

  -- one for another point, by whatever link it came
  transferred : (from : Option ℕ) (m : Message) (n : Node WholeQueues) → is_management m ≡ false → Are (taken_in (transfer whole c from m n).outcome m)
  transferred from m n user = by (is_destination c (dpc_of m)) refl
    where
      into : Done WholeQueues
      into = offer whole c (no_room_for whole c m n) (waits c n.parts.holds m) (link_of c n.parts (flow_of m)) from m n

      by : (b : Bool) → is_destination c (dpc_of m) ≡ b → Are (taken_in (if b then into else refuse causes.UnknownDestination n).outcome m)
      by true e = taken-in into.outcome m (record { destination = only-far (destination_place c (dpc_of m)) (dpc_of m) refl e; user = user })
      by false e = none

  module _ (m : Message) (user : is_management m ≡ false) (n : Node WholeQueues) where
    -- what SCCP makes of it
    returned-in : (udts : Option (List ℕ)) → Are (returned_in udts c m n)
    returned-in (Some sif) = transferred None (in_place_of m sif) n user
    returned-in None = none

    answered-in : (o : Outcome) → Are (answered_in o c m n)
    answered-in (Refused cause) = returned-in (returned (own_of c n.parts) n.parts.titles m.sif cause)
    answered-in (Queued link) = none
    answered-in Held = none
    answered-in Local = none
    answered-in Handled = none
    answered-in Ignored = none

    relayed-in : (v : RelayedValue) → Are (relayed_in v (relay_by whole c v m n).outcome m)
    relayed-in relays.Delivered = none
    relayed-in (relays.Onward sif) = transferred None (in_place_of m sif) n user
    relayed-in (relays.Heard news) = none
    relayed-in (relays.Refused cause) = none

    unitdata-in : Are (unitdata_in (on_unitdata whole c m n).outcome c m n)
    unitdata-in =
        let v : RelayedValue = relay (own_of c n.parts) n.parts.titles m.sif in
        All-append (IsUserMessageTo far) (relayed_in v (relay_by whole c v m n).outcome m) (answered_in (relay_by whole c v m n).outcome c m n)
        (relayed-in v) (answered-in (relay_by whole c v m n).outcome)

    local-in : (from : Option ℕ) → Are (brought_here (local whole c from m n).outcome c m n)
    local-in from = by (nat_eq (service_indicator m) sccp) (is_user c (service_indicator m))
      where
        by : (is_sccp listed : Bool) → Are
            (if is_sccp then unitdata_in (if is_sccp then on_unitdata whole c m n else (if listed then answer Local n else refuse causes.NoUserPart (answer_no_user_part whole c from (destination_place c (opc_of m)) m n))).outcome c m n else [])
        by true listed = unitdata-in
        by false listed = none

  -- of management nothing is
  no-management : (o : Outcome) (m : Message) (n : Node WholeQueues) → is_management m ≡ true → Are (brought_here o c m n)
  no-management o m n e = subst (λ (s : Bool). Are (if s then unitdata_in o c m n else [])) (sym (is-no-sccp m e)) none

  -- ---- a submission

  here : (m : Message) (n : Node WholeQueues) (b : Bool) → is_management m ≡ b → Are (brought_here (if b then refuse causes.NotInProfile n else local whole c None m n).outcome c m n)
  here m n true e = no-management (Refused causes.NotInProfile) m n e
  here m n false e = local-in m e n None

  there : (m : Message) (n : Node WholeQueues) (b : Bool) → is_management m ≡ b → Are (taken_in (if b then refuse causes.NotInProfile n else transfer whole c None m n).outcome m)
  there m n true e = none
  there m n false e = transferred None m n e

  submitted-to : (d : Discrimination) (m : Message) (n : Node WholeQueues) → Are (brought_to d (submit_to whole c d m n).outcome c m n)
  submitted-to (whither.Refused cause) m n = none
  submitted-to (whither.Here label) m n = here m n (is_management m) refl
  submitted-to (whither.Transfer label) m n = there m n (is_management m) refl

  -- ---- a frame

  distributed : (link : ℕ) (m : Message) (n : Node WholeQueues) (b : Bool) → is_management m ≡ b → Are (brought_here (if b then manage whole c link m n else local whole c (Some link) m n).outcome c m n)
  distributed link m n true e = no-management (manage whole c link m n).outcome m n e
  distributed link m n false e = local-in m e n (Some link)

  -- one that came from the other end isn't for that
  turned-away : (link : ℕ) (m : Message) (n : Node WholeQueues) → dpc_of m ≢ far → Are (taken_in (transfer whole c (Some link) m n).outcome m)
  turned-away link m n d = by (is_destination c (dpc_of m)) refl
    where
      into : Done WholeQueues
      into = offer whole c (no_room_for whole c m n) (waits c n.parts.holds m) (link_of c n.parts (flow_of m)) (Some link) m n

      by : (b : Bool) → is_destination c (dpc_of m) ≡ b → Are (taken_in (if b then into else refuse causes.UnknownDestination n).outcome m)
      by true e = absurd (d (only-far (destination_place c (dpc_of m)) (dpc_of m) refl e))
      by false e = none

  delivered-to : (d : Discrimination) (link : ℕ) (m : Message) (n : Node WholeQueues) → dpc_of m ≢ far → Are (brought_to d (deliver_to whole c d link m n).outcome c m n)
  delivered-to (whither.Refused cause) link m n apart = none
  delivered-to (whither.Here label) link m n apart = distributed link m n (is_management m) refl
  delivered-to (whither.Transfer label) link m n apart = turned-away link m n apart

-- ---- events

module _ (c : Configuration) (far : ℕ) (only : HasOnly c far) (n : Node WholeQueues) where
  abbrev a : Abstract
  a = record { settings = c; node = n; reroutings = first_reroutings c }

  pub submitted : (m : Message) → All (IsUserMessageTo far) (brought_in (Submitted m) a)
  submitted m =
      subst (λ (o : Outcome). All (IsUserMessageTo far) (brought_to (whither_goes c m) o c m n)) (sym (outcome-same c (Submitted m) n))
      (submitted-to c far only (whither_goes c m) m n)

  pub heard : (link : ℕ) (text : List ℕ) → ((m : Message) → new_message link text a ≡ Some m → dpc_of m ≢ far) → All (IsUserMessageTo far) (brought_in (FrameCame link text) a)
  heard link text apart = by (new_message link text a) refl
    where
      by : (o : Option Message) → new_message link text a ≡ o → All (IsUserMessageTo far) (brought_by o (outcome_of whole (FrameCame link text) a) c (accept_text link (read_frame text) a))
      by None e = All-nil (IsUserMessageTo far)
      by (Some m) e =
          subst (λ (o : Outcome). All (IsUserMessageTo far) (brought_to (whither_goes c m) o c m (accept_text link (read_frame text) a))) (sym (outcome-same c (FrameCame link text) n))
          (received-as c link m (λ d x. All (IsUserMessageTo far) (brought_to (whither_goes c m) d.outcome c m x)) (λ x. delivered-to c far only (whither_goes c m) link m x (apart m e)) text n e)

-- ---- a message that the other end has for this one

-- it isn't for the other end itself
pub not-own : (z : Configuration) (m : Message) → is_onward z m ≡ true → dpc_of m ≢ z.own
not-own z m e same = (let no : false ≡ true = sym (ap not (eq-eqb (dpc_of m) z.own same)) ∙ e in absurd cc)

-- a user message is for this one
pub its-point : (z : Configuration) (point : ℕ) (only : HasOnly z point) (m : Message) → (is_management m ≡ true) ⊎ (is_destination z (dpc_of m) ≡ true) → is_management m ≡ false → dpc_of m ≡ point
its-point z point only m (inl e) user = (let no : true ≡ false = sym e ∙ user in absurd cc)
its-point z point only m (inr e) user = by (destination_place z (dpc_of m)) refl e
  where
    by : (place : Option ℕ) → destination_place z (dpc_of m) ≡ place → is_some place ≡ true → dpc_of m ≡ point
    by (Some place) f there = only (dpc_of m) place f
    by None f there = absurd cc
