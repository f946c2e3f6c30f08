-- Where links lead isn't changed by a message for this point that isn't management, nor by what ends an event.
use Rattle.exchange_rules.proofs.Basics.{◌≡◌, ℕ, Bool, true, false, List, [], ◌∷◌, Option, Some, None, refl, ap, sym, subst, ◌∙◌, if◌then◌else◌, is_some, nat_eq}
use Rattle.exchange_rules.proofs.Definitions.{Message, dpc_of, opc_of, flow_of, service_indicator, is_management, Configuration, Cause, Outcome, Queued, Held, Local, Handled, Ignored, Refused, RelayedValue, relay, returned, destination_place, Facts, Discrimination, Node, Done, Happening, WholeQueues, whole, facts, link_of, waits, no_room, no_room_for, offer, transfer, is_destination, refuse, answer, is_user, with_parts, answer_no_user_part, is_unequipped_told, send_if, tell_unavailable, unavailable, unequipped_counted, sccp, in_place_of, own_of, send_udts, return_outcome, relay_by, on_unitdata, local, manage, deliver, deliver_to, submit, submit_to, whither_goes, note_outcome, go, go_by, go_on, go_each, release, owed, tell_owed, apply, handle_event}
use Rattle.std.specs.Option.{option_and_then}
use Rattle.signalling_types.specs.declared.cause.Cause.TheVariants as causes
use Rattle.mtp3_codec.specs.declared.label.Label.{Label}
use Rattle.mtp3_codec.specs.declared.discrimination.Discrimination.TheVariants as whither
use Rattle.routes.specs.Routes.{chosen_link}
use Rattle.sccp_relay.specs.Points.{OwnValue}
use Rattle.sccp_relay.specs.Relay as relays
use Rattle.exchange_rules.proofs.Telling.{send-routes, tell_each-facts}

module _ (c : Configuration) where
  -- what a node relays by
  by-facts : Facts → OwnValue
  by-facts f = record {
    point = c.own;
    subsystems = c.subsystems;
    extended = c.extended_unitdata;
    answers_tests = c.subsystem_tests;
    hears_statuses = is_some c.timers.sst;
    leads = λ point sls. is_some (option_and_then (λ place. chosen_link f place sls) (destination_place c point));
  }

  pub own-same : (n m : Node WholeQueues) → facts c n.parts ≡ facts c m.parts → own_of c n.parts ≡ own_of c m.parts
  unfolding by-facts
  own-same n m e = ap by-facts e

  abbrev Same : Node WholeQueues → Node WholeQueues → Type 0
  Same n m = facts c m.parts ≡ facts c n.parts

  -- ---- a message for this point

  offer-facts : (room : Option Cause) (waiting : Bool) (link : Option ℕ) (m : Message) (n : Node WholeQueues) → Same n (offer whole c room waiting link None m n).left
  offer-facts (Some cause) waiting link m n = refl
  offer-facts None true link m n = refl
  offer-facts None false None m n = refl
  offer-facts None false (Some link) m n = refl

  either-facts : (b : Bool) (n : Node WholeQueues) (d e : Done WholeQueues) → Same n d.left → Same n e.left → Same n (if b then d else e).left
  either-facts true n d e h k = h
  either-facts false n d e h k = k

  transfer-facts : (m : Message) (n : Node WholeQueues) → Same n (transfer whole c None m n).left
  transfer-facts m n =
      let room : Option Cause = no_room_for whole c m n in
      let waiting : Bool = waits c n.parts.holds m in
      let link : Option ℕ = link_of c n.parts (flow_of m) in
      either-facts (is_destination c (dpc_of m)) n (offer whole c room waiting link None m n) (refuse causes.UnknownDestination n)
      (offer-facts room waiting link m n) refl

  udts-facts : (udts : Option (List ℕ)) (m : Message) (n : Node WholeQueues) → Same n (send_udts whole c udts m n)
  udts-facts (Some sif) m n = transfer-facts (in_place_of m sif) n
  udts-facts None m n = refl

  return-facts : (o : Outcome) (m : Message) (n : Node WholeQueues) → Same n (return_outcome whole c o m n)
  return-facts (Refused cause) m n = udts-facts (returned (own_of c n.parts) n.parts.titles m.sif cause) m n
  return-facts (Queued link) m n = refl
  return-facts Held m n = refl
  return-facts Local m n = refl
  return-facts Handled m n = refl
  return-facts Ignored m n = refl

  relay-facts : (v : RelayedValue) (m : Message) (n : Node WholeQueues) → Same n (relay_by whole c v m n).left
  relay-facts relays.Delivered m n = refl
  relay-facts (relays.Onward sif) m n = transfer-facts (in_place_of m sif) n
  relay-facts (relays.Heard news) m n = refl
  relay-facts (relays.Refused cause) m n = refl

  unitdata-facts : (m : Message) (n : Node WholeQueues) → Same n (on_unitdata whole c m n).left
  unitdata-facts m n =
      let v : RelayedValue = relay (own_of c n.parts) n.parts.titles m.sif in
      let d : Done WholeQueues = relay_by whole c v m n in
      return-facts d.outcome m d.left ∙ relay-facts v m n

  -- the sender of a message for a user part that isn't here may be told so
  told-facts : (is_told : Bool) (m : Message) (n : Node WholeQueues) → Same n (send_if whole c is_told m n)
  told-facts true m n = (send-routes whole c (no_room whole c m n.queues) (link_of c n.parts (flow_of m)) m n).facts c
  told-facts false m n = refl

  absent-facts : (from origin : Option ℕ) (m : Message) (n : Node WholeQueues) → Same n (answer_no_user_part whole c from origin m n)
  absent-facts (Some link) (Some origin) m n = says c.user_part_unavailable
    where
      says : (b : Bool) → Same n (if b then tell_unavailable whole c origin m n else n)
      says true = told-facts (is_unequipped_told whole c origin m n) (unavailable c m) (with_parts n (unequipped_counted origin n.parts))
      says false = refl
  absent-facts (Some link) None m n = refl
  absent-facts None origin m n = refl

  pub local-facts : (from : Option ℕ) (m : Message) (n : Node WholeQueues) → Same n (local whole c from m n).left
  local-facts from m n =
      let absent : Done WholeQueues = refuse causes.NoUserPart (answer_no_user_part whole c from (destination_place c (opc_of m)) m n) in
      let user : Done WholeQueues = if is_user c (service_indicator m) then answer Local n else absent in
      either-facts (nat_eq (service_indicator m) sccp) n (on_unitdata whole c m n) user
      (unitdata-facts m n) (either-facts (is_user c (service_indicator m)) n (answer Local n) absent refl (absent-facts from (destination_place c (opc_of m)) m n))

  -- a refusal is noted
  noted-facts : (o : Outcome) (link : ℕ) (n : Node WholeQueues) → facts c (note_outcome link o n.parts) ≡ facts c n.parts
  noted-facts (Refused cause) link n = refl
  noted-facts (Queued other) link n = refl
  noted-facts Held link n = refl
  noted-facts Local link n = refl
  noted-facts Handled link n = refl
  noted-facts Ignored link n = refl

  distributed-facts : (managed : Bool) (link : ℕ) (m : Message) (n : Node WholeQueues) → managed ≡ false → Same n (if managed then manage whole c link m n else local whole c (Some link) m n).left
  distributed-facts true link m n e = absurd cc
  distributed-facts false link m n e = local-facts (Some link) m n

  pub deliver-facts : (link : ℕ) (m : Message) (label : Label) (n : Node WholeQueues) → is_management m ≡ false → whither_goes c m ≡ whither.Here label → Same n (deliver whole c link m n).left
  deliver-facts link m label n user here =
      let d : Done WholeQueues = deliver_to whole c (whither_goes c m) link m n in
      noted-facts d.outcome link d.left
      ∙ subst (λ (w : Discrimination). Same n (deliver_to whole c w link m n).left) (sym here) (distributed-facts (is_management m) link m n user)

  pub submit-facts : (m : Message) (label : Label) (n : Node WholeQueues) → whither_goes c m ≡ whither.Here label → Same n (submit whole c m n).left
  submit-facts m label n here =
      subst (λ (w : Discrimination). Same n (submit_to whole c w m n).left) (sym here)
      (either-facts (is_management m) n (refuse causes.NotInProfile n) (local whole c None m n) refl (local-facts None m n))

  -- ---- what ends an event

  go_on-facts : (link : Option ℕ) (m : Message) (n : Node WholeQueues) → Same n (go_on whole c link m n)
  go_on-facts (Some link) m n = refl
  go_on-facts None m n = refl

  go_by-facts : (waiting : Bool) (m : Message) (n : Node WholeQueues) → Same n (go_by whole c waiting m n)
  go_by-facts true m n = refl
  go_by-facts false m n = go_on-facts (link_of c n.parts (flow_of m)) m n

  go_each-facts : (ms : List Message) (n : Node WholeQueues) → Same n (go_each whole c ms n)
  go_each-facts [] n = refl
  go_each-facts (m ∷ ms) n = go_each-facts ms (go whole c m n) ∙ go_by-facts (waits c n.parts.holds m) m n

  pub settled-facts : (n : Node WholeQueues) → Same n (tell_owed whole c (release whole c n))
  unfolding tell_owed
  settled-facts n =
      let released : Node WholeQueues = release whole c n in
      tell_each-facts whole c (owed (facts c released.parts) released.parts.told) released
      ∙ go_each-facts (whole.held n.queues) (record n { queues = whole.without_held n.queues })

  -- after an event
  pub after-facts : (what : Happening) (n : Node WholeQueues) → Same (handle_event whole c what n).left (apply whole c what n).left
  unfolding apply
  after-facts what n = settled-facts (handle_event whole c what n).left
