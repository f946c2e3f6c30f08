-- Each user message that comes is queued, held, delivered or refused; or handled, if it says something of a subsystem.
use Rattle.exchange_rules.proofs.Basics.{Bool, Err, None, Ok, Option, Result, Some, ap, false, nat_eq, not, refl, true, ℕ, ◌&&◌, ◌∙◌, ◌≡◌, if◌then◌else◌, subst}
use Rattle.exchange_rules.proofs.Definitions.{acts_on, Action, UserData, SeqFault, EmptyFrame, FrameValue, MessageFrame, StatusFrame, read_frame, Discrimination, RelayedValue, relay, Configuration, Message, dpc_of, opc_of, flow_of, is_management, service_indicator, Cause, FrameFault, Ignored, Local, destination_place, answer_no_user_part, is_destination, offer, transfer, carried_messages_have_a_fate, has_fate, submissions_have_a_fate, apply, Carrying, accept, act_by_data, carry, empty_data, handle_by, message_data, numbers, read, waits, down, is_link, link_at, distribute, is_user, local, manage, sccp, deliver_to, submit_to, whither_goes, no_room_for, WholeQueues, whole, new_at, new_by, new_of, in_place_of, on_unitdata, own_of, relay_by, link_of, Done, Node, answer, refuse, advance}
use Rattle.link.specs.declared.action.Action.TheVariants as act
use Rattle.signalling_types.specs.declared.cause.Cause.TheVariants as causes
use Rattle.sccp_relay.specs.Relay as relays
use Rattle.mtp3_codec.specs.declared.discrimination.Discrimination.TheVariants as whither
use Rattle.std.specs.Prelude.{drop, is_some}
use Rattle.mtp3_codec.specs.Headings.{label_at}
use Rattle.sccp_relay.specs.Sccp.{read_sccp}
use Rattle.exchange_rules.specs.LawsOfMessages.{goes_here, is_heard, is_heard_here, says_status}
use Rattle.exchange_rules.proofs.Saying.{heard-said, is_said}

module _ (c : Configuration) (n : Node WholeQueues) where
  offer-fate : (h : Bool) (room : Option Cause) (waiting : Bool) (link from : Option ℕ) (m : Message) → has_fate h (offer whole c room waiting link from m n).outcome ≡ true
  offer-fate h (Some cause) waiting link from m = refl
  offer-fate h None true link from m = refl
  offer-fate h None false None from m = refl
  offer-fate h None false (Some link) from m = refl

  either-fate : (h b : Bool) (d e : Done WholeQueues) → has_fate h d.outcome ≡ true → has_fate h e.outcome ≡ true → has_fate h (if b then d else e).outcome ≡ true
  either-fate h true d e f g = f
  either-fate h false d e f g = g

  transfer-fate : (h : Bool) (from : Option ℕ) (m : Message) → has_fate h (transfer whole c from m n).outcome ≡ true
  transfer-fate h from m =
      let link : Option ℕ = link_of c n.parts (flow_of m) in
      let offered : Done WholeQueues = offer whole c (no_room_for whole c m n) (waits c n.parts.holds m) link from m n in
      either-fate h (is_destination c (dpc_of m)) offered (refuse causes.UnknownDestination n)
      (offer-fate h (no_room_for whole c m n) (waits c n.parts.holds m) link from m) refl

  relay-fate : (h : Bool) (v : RelayedValue) (m : Message) → is_said h v ≡ true → has_fate h (relay_by whole c v m n).outcome ≡ true
  relay-fate h relays.Delivered m e = refl
  relay-fate h (relays.Onward sif) m e = transfer-fate h None (in_place_of m sif)
  relay-fate h (relays.Heard news) m e = e
  relay-fate h (relays.Refused cause) m e = refl

  -- whether a message of SCCP is heard
  abbrev is_status : Message → Bool
  is_status m = is_some c.timers.sst && says_status c (label_at m.sif).opc (read_sccp c.extended_unitdata (drop 4 m.sif))

  own-fate : (from : Option ℕ) (m : Message) (b : Bool)
      → has_fate (b && is_status m)
      (if b then on_unitdata whole c m n
      else if is_user c (service_indicator m) then answer Local n
      else refuse causes.NoUserPart (answer_no_user_part whole c from (destination_place c (opc_of m)) m n)).outcome ≡ true
  own-fate from m true = relay-fate (is_status m) (relay (own_of c n.parts) n.parts.titles m.sif) m (heard-said c n.parts n.parts.titles m)
  own-fate from m false =
      either-fate false (is_user c (service_indicator m)) (answer Local n)
      (refuse causes.NoUserPart (answer_no_user_part whole c from (destination_place c (opc_of m)) m n)) refl refl

  local-fate : (from : Option ℕ) (m : Message) → has_fate (nat_eq (service_indicator m) sccp && is_status m) (local whole c from m n).outcome ≡ true
  local-fate from m = own-fate from m (nat_eq (service_indicator m) sccp)

  here-fate : (link : ℕ) (m : Message) → is_management m ≡ false → has_fate (is_heard_here c m) (distribute whole c link m n).outcome ≡ true
  here-fate link m e = ap (λ (b : Bool). has_fate (is_heard_here c m) (if b then manage whole c link m n else local whole c (Some link) m n).outcome) e ∙ local-fate (Some link) m

  deliver_to-fate : (d : Discrimination) (link : ℕ) (m : Message) → is_management m ≡ false → has_fate (goes_here d && is_heard_here c m) (deliver_to whole c d link m n).outcome ≡ true
  deliver_to-fate (whither.Refused cause) link m e = refl
  deliver_to-fate (whither.Here label) link m e = here-fate link m e
  deliver_to-fate (whither.Transfer label) link m e = transfer-fate false (Some link) m

  carry-fate : (o : Option Message) (link : ℕ) (m : Message) → o ≡ Some m → is_management m ≡ false → has_fate (is_heard c m) (carry whole c link o n).outcome ≡ true
  carry-fate None link m e f = absurd cc
  carry-fate (Some x) link m e f =
      let same : x ≡ m = some-of x m e in
      subst (λ (y : Message). has_fate (is_heard c y) (carry whole c link (Some x) n).outcome ≡ true) same
      (deliver_to-fate (whither_goes c x) link x (ap is_management same ∙ f))
    where
      as_message : Message → Option Message → Message
      as_message other (Some its) = its
      as_message other None = other

      some-of : (x m : Message) → Some x ≡ Some m → x ≡ m
      some-of x m g = ap (as_message x) g

  submit_to-fate : (d : Discrimination) (m : Message) → has_fate (goes_here d && is_heard_here c m) (submit_to whole c d m n).outcome ≡ true
  submit_to-fate (whither.Refused cause) m = refl
  submit_to-fate (whither.Here label) m = either-fate (is_heard_here c m) (is_management m) (refuse causes.NotInProfile n) (local whole c None m n) refl (local-fate None m)
  submit_to-fate (whither.Transfer label) m = either-fate false (is_management m) (refuse causes.NotInProfile n) (transfer whole c None m n) refl (transfer-fate false None m)

-- ---- frames

module _ (c : Configuration) (link : ℕ) (m : Message) (user : is_management m ≡ false) where
  handle-fate : (r : Result ℕ SeqFault) (d : Carrying) (n : Node WholeQueues) → new_by r d ≡ Some m → has_fate (is_heard c m) (handle_by whole c r link d n).outcome ≡ true
  handle-fate (Ok count) d n e = carry-fate c (accept whole c link d count n) d.message link m e user
  handle-fate (Err fault) d n e = absurd cc

  act-fate : (a : Action) (d : Carrying) (n : Node WholeQueues) → new_at a link d c n ≡ Some m → has_fate (is_heard c m) (act_by_data whole c a link d n).outcome ≡ true
  act-fate act.Ignored d n e = absurd cc
  act-fate act.Fail d n e = absurd cc
  act-fate (act.Go step) d n e = (let next : Node WholeQueues = advance whole c link step n in handle-fate (numbers whole c link d next) d next e)

  frame-fate : (r : Result FrameValue FrameFault) (n : Node WholeQueues) → new_of r link c n ≡ Some m → has_fate (is_heard c m) (read whole c link r n).outcome ≡ true
  frame-fate (Ok (EmptyFrame bsn fsn)) n e = act-fate (acts_on (link_at n.parts link) UserData) (empty_data bsn fsn) n e
  frame-fate (Ok (MessageFrame bsn fsn sio sif)) n e = act-fate (acts_on (link_at n.parts link) UserData) (message_data bsn fsn sio sif) n e
  frame-fate (Ok (StatusFrame bsn fsn status)) n e = absurd cc
  frame-fate (Err fault) n e = absurd cc

  receive-fate : (is_there is_down : Bool) (r : Result FrameValue FrameFault) (n : Node WholeQueues) → (if is_there && not is_down then new_of r link c n else None) ≡ Some m
      → has_fate (is_heard c m) (if is_there then (if is_down then answer Ignored n else read whole c link r n) else refuse causes.NoSuchName n).outcome ≡ true
  receive-fate false is_down r n e = absurd cc
  receive-fate true true r n e = absurd cc
  receive-fate true false r n e = frame-fate r n e

pub carried-fate : carried_messages_have_a_fate
unfolding apply
carried-fate a link text m e user = receive-fate a.settings link m user (is_link a.node.parts link) (down a.node.parts link) (read_frame text) a.node e

pub submitted-fate : submissions_have_a_fate
unfolding apply
submitted-fate a m = submit_to-fate a.settings a.node (whither_goes a.settings m) m
