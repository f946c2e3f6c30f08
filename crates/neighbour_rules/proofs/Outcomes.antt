-- What a frame that is handed in leads to tells what it brought, and what was accepted of that.
use Rattle.exchange_rules.specs.Reroutings.{first_reroutings}
use Rattle.pair_rules.proofs.Basics.{◌&&◌, ◌≡◌, ◌≢◌, inl, inr, ℕ, Bool, true, false, List, [], ◌∷◌, ◌++◌, length, Option, Some, None, Ok, refl, ap, sym, subst, ◌∙◌, nat_eq, not, ◌⊎◌, if◌then◌else◌, drop, option_to_list, slice_get, eq-eqb, is_some, nat_lt, Result, Err}
use Rattle.pair_rules.proofs.Definitions.{Message, dpc_of, opc_of, flow_of, SIF_OCTETS, network_indicator, read_management, is_management, service_indicator, Cause, Outcome, Handled, Ignored, Local, Refused, Queued, Held, Configuration, FrameValue, read_frame, Discrimination, Management, is_outstanding, set_place, Node, Done, answer, refuse, FrameCame, WholeQueues, whole, changeover_of, on_changeback_acknowledgement, accept_text, answered_in, brought_by, brought_here, brought_in, brought_to, taken_in, unitdata_in, distribute, do_order, do_acknowledgement, is_user, local, manage, on_management, sccp, deliver, deliver_to, whither_goes, on_unitdata, is_idle, new_message, outcome_of, receive, users_of, PairState, Streams, Delivers, DeliversStatus, after_steps, deliver_frame, first_pair, in_flight, turned, without_data, without_status}
use Rattle.signalling_types.specs.declared.cause.Cause.TheVariants as causes
use Rattle.sccp_relay.specs.Relay as relays
use Rattle.sccp_relay.specs.Points.{OwnValue}
use Rattle.sccp_relay.specs.Statuses.{TitlesValue}
use Rattle.sccp_relay.specs.Returning.{returned}
use Rattle.exchange_rules.specs.Messages.{transfer, in_place_of, own_of, relay_by}
use Rattle.exchange_rules.specs.Conserving.{relayed_in, returned_in}
use Rattle.exchange_rules.specs.Exchange.{after}
use Rattle.exchange_rules.specs.First.{Abstract}
use Rattle.exchange_rules.proofs.Received.{nothing-delivered}
use Rattle.exchange_rules.proofs.KeptFacts.{own-same, deliver-facts, after-facts}
use Rattle.neighbour_rules.proofs.LateOrders.{late_by-facts}
use Rattle.exchange_rules.specs.Laws.{carried_message}
use Rattle.exchange_rules.proofs.CarriedMessages.{new-carried}
use Rattle.pair_rules.specs.Deliveries.{ComesOf, ComesTo, GoesOn, IsQuiet, IsRefused, IsRelayed, IsReturnedAtMost, Tells, deliveries_tell}
use Rattle.mtp3_codec.specs.Headings.{label_at}
use Rattle.mtp3_codec.specs.declared.management.Management.TheVariants as says
use Rattle.mtp3_codec.specs.declared.link_test.TestKind.{TestKind}
use Rattle.mtp3_codec.specs.declared.link_test.TestKind.TheVariants as kinds
use Rattle.mtp3_codec.specs.Management.{LinkTestValue, read_link_test}
use Rattle.route_management.specs.declared.heard.Heard.{Heard}
use Rattle.route_management.specs.declared.heard.Heard.TheVariants as heards
use Rattle.route_management.specs.declared.heard.RouteTest.{RouteTest}
use Rattle.route_management.specs.declared.heard.RouteTest.TheVariants as tests
use Rattle.route_management.specs.Told.{heard, is_own_point}
use Rattle.routes.specs.declared.route.RouteStatus.{RouteStatus}
use Rattle.exchange_rules.specs.Routing.{facts, link_of, route_about, waits}
use Rattle.exchange_rules.specs.Rerouting.{apply_route_status, on_route_status}
use Rattle.exchange_rules.specs.Telling.{on_route_test, answer_no_user_part}
use Rattle.exchange_rules.specs.Messages.{cause_of, do_kind, do_management, do_test, is_adjacent, is_destination, no_room_for, offer, from_afar, says_unavailable}
use Rattle.exchange_rules.specs.LinkTests.{pass_test, passes_test, testing}
use Rattle.settings.specs.Readings.{destination_place}
use Rattle.mtp3_codec.specs.declared.discrimination.Discrimination.TheVariants as whither
use Rattle.mtp3_codec.specs.declared.fault.MgmtFault.{MgmtFault}
use Rattle.mtp3_codec.specs.declared.fault.MgmtFault.TheVariants as faults
use Rattle.pair_moves.specs.Sayings.{Other, UserMessage}
use Rattle.pair_rules.proofs.OtherCauses.{is_other, is_relay_other, is_way_on, other-cause, relay-other, transfer-other}
use Rattle.pair_rules.proofs.Good.{Each, IsTelling}
use Rattle.pair_rules.proofs.Bringing.{decided, is-no-sccp}
use Rattle.pair_rules.proofs.Arrivals.{accepted-titles, received-as}
use Rattle.pair_rules.proofs.Flights.{IsFirst, first-frame, tells-back}
use Rattle.pair_rules.proofs.CarriedTexts.{tells-none}
use Rattle.pair_rules.proofs.Steps.{outcome-same}
use Rattle.pair_rules.specs.Promises.{AreJoined}
use Rattle.neighbour_rules.proofs.World.{is_between, says_by}
use Rattle.neighbour_rules.proofs.Bound.{IsBound}
use Rattle.neighbour_rules.proofs.Good as good
use Rattle.neighbour_rules.proofs.Good.{ComesHere, IsFlying, IsSent}
use Rattle.neighbour_rules.proofs.Lone.{HasOnly, has-only, its-point, not-own}
use Rattle.neighbour_rules.proofs.Sharing.{AreFacing, facing_back, AreOwn}
use Rattle.neighbour_rules.proofs.Special.{facing, joined-back, stands-alone, sharing-own}
use Rattle.neighbour_rules.proofs.Standing.{Stands}
use Rattle.neighbour_rules.proofs.Steps.{flies-back}
use Rattle.neighbour_rules.proofs.AllSteps.{stands-turned}

-- what tells of no message
record Quiet (outcome : Outcome) : Type 0 where
  pub local : outcome ≢ Local
  pub no_user_part : outcome ≢ Refused causes.NoUserPart
  pub queued : (link : ℕ) → outcome ≢ Queued link
  pub held : outcome ≢ Held

handled : Quiet Handled
handled = record { local = λ e. absurd cc; no_user_part = λ e. absurd cc; queued = λ link e. absurd cc; held = λ e. absurd cc }

ignored : Quiet Ignored
ignored = record { local = λ e. absurd cc; no_user_part = λ e. absurd cc; queued = λ link e. absurd cc; held = λ e. absurd cc }

refused-management : Quiet (Refused causes.BadManagement)
refused-management = record { local = λ e. absurd cc; no_user_part = λ e. absurd cc; queued = λ link e. absurd cc; held = λ e. absurd cc }

idle-quiet : (o : Outcome) → is_idle o ≡ true → Quiet o
idle-quiet Handled e = handled
idle-quiet Ignored e = ignored
idle-quiet Local e = absurd cc
idle-quiet Held e = absurd cc
idle-quiet (Queued link) e = absurd cc
idle-quiet (Refused cause) e = record {
  local = λ f. absurd cc;
  no_user_part = λ f. let no : is_idle (Refused causes.NoUserPart) ≡ true = ap is_idle (sym f) ∙ e in absurd cc;
  queued = λ link f. absurd cc;
  held = λ f. absurd cc;
}

refused-other : (cause : Cause) → is_other cause ≡ true → Quiet (Refused cause)
refused-other cause e = record {
  local = λ f. absurd cc;
  no_user_part = λ f. let same : cause ≡ causes.NoUserPart = cc in other-cause cause e same;
  queued = λ link f. absurd cc;
  held = λ f. absurd cc;
}

refused-destination : Quiet (Refused causes.UnknownDestination)
refused-destination = refused-other causes.UnknownDestination refl

accepts-nothing : (o : Outcome) (ms : List Message) → Quiet o → ms ≡ [] → IsQuiet o ms
accepts-nothing o ms q e = record { local = q.local; no_user_part = q.no_user_part; queued = q.queued; held = q.held; nothing = e }

-- ---- a message

module _ (c : Configuration) (link : ℕ) where
  -- management of whatever kind
  order-quiet : (o number : Option ℕ) (n : Node WholeQueues) → Quiet (do_order whole c o number n).outcome
  order-quiet (Some about) number n = handled
  order-quiet None number n = refused-management

  awaited-quiet : (b : Bool) (n o : Node WholeQueues) → Quiet (if b then answer Handled o else answer Ignored n).outcome
  awaited-quiet true n o = handled
  awaited-quiet false n o = ignored

  answer-quiet : (o number : Option ℕ) (n : Node WholeQueues) → Quiet (do_acknowledgement whole c o number n).outcome
  answer-quiet (Some about) number n = awaited-quiet (changeover_of n.parts about).awaited n _
  answer-quiet None number n = refused-management

  freed-quiet : (o : Option ℕ) (code : ℕ) (n : Node WholeQueues) → Quiet (on_changeback_acknowledgement whole c o code n).outcome
  freed-quiet (Some set) code n = awaited-quiet (is_outstanding n.parts.codes set code) n _
  freed-quiet None code n = ignored

  heard-quiet : (h : Heard) (set destination : ℕ) (status : RouteStatus) (n : Node WholeQueues) → Quiet (apply_route_status whole c h set destination status n).outcome
  heard-quiet heards.Ignored set destination status n = ignored
  heard-quiet heards.Unchanged set destination status n = handled
  heard-quiet heards.Changed set destination status n = handled

  status-quiet : (set destination : Option ℕ) (status : RouteStatus) (n : Node WholeQueues) → Quiet (on_route_status whole c status (route_about set destination) n).outcome
  status-quiet (Some set) (Some destination) status n = heard-quiet (heard (facts c n.parts) n.parts.told set destination status) set destination status n
  status-quiet None (Some destination) status n = ignored
  status-quiet (Some set) None status n = refused-destination
  status-quiet None None status n = refused-destination

  tested-quiet : (b : Bool) (n o : Node WholeQueues) → Quiet (if b then answer Ignored n else answer Handled o).outcome
  tested-quiet true n o = ignored
  tested-quiet false n o = handled

  test-quiet : (set destination : Option ℕ) (test : RouteTest) (n : Node WholeQueues) → Quiet (on_route_test whole c test (route_about set destination) n).outcome
  test-quiet (Some set) (Some destination) test n = tested-quiet (is_own_point n.parts.told set destination) n _
  test-quiet None (Some destination) test n = ignored
  test-quiet (Some set) None test n = refused-destination
  test-quiet None None test n = refused-destination

  handled-or-refused : (b : Bool) (cause : Cause) → is_other cause ≡ true → Quiet (if b then Handled else Refused cause)
  handled-or-refused true cause e = handled
  handled-or-refused false cause e = refused-other cause e

  word-quiet : (word : Management) (point : ℕ) (n : Node WholeQueues) → Quiet (on_management whole c word point n).outcome
  word-quiet says.TrafficRestartAllowed point n = ignored
  word-quiet (says.UserPartUnavailable about user_part cause) point n = handled-or-refused c.user_part_unavailable causes.NotInProfile refl
  word-quiet (says.ExtendedChangeoverOrder slc number) point n = order-quiet _ (Some number) n
  word-quiet (says.EmergencyChangeoverOrder slc) point n = order-quiet _ None n
  word-quiet (says.ExtendedChangeoverAcknowledgement slc number) point n = answer-quiet _ (Some number) n
  word-quiet (says.EmergencyChangeoverAcknowledgement slc) point n = answer-quiet _ None n
  word-quiet (says.ChangebackDeclaration slc code) point n = handled
  word-quiet (says.ChangebackAcknowledgement slc code) point n = freed-quiet (set_place c point) code n
  word-quiet (says.TransferProhibited about) point n = status-quiet (set_place c point) (destination_place c about) _ n
  word-quiet (says.TransferRestricted about) point n = status-quiet (set_place c point) (destination_place c about) _ n
  word-quiet (says.TransferAllowed about) point n = status-quiet (set_place c point) (destination_place c about) _ n
  word-quiet (says.RouteSetTestProhibited about) point n = test-quiet (set_place c point) (destination_place c about) tests.Prohibited n
  word-quiet (says.RouteSetTestRestricted about) point n = test-quiet (set_place c point) (destination_place c about) tests.Restricted n

  fault-quiet : (fault : MgmtFault) → Quiet (Refused (cause_of fault))
  fault-quiet faults.Short = refused-management
  fault-quiet faults.NotInProfile = refused-other causes.NotInProfile refl

  management-quiet : (r : Result Management MgmtFault) (point : ℕ) (n : Node WholeQueues) → Quiet (do_management whole c r point n).outcome
  management-quiet (Ok word) point n = word-quiet word point n
  management-quiet (Err fault) point n = fault-quiet fault

  kind-quiet : (kind : TestKind) (point : ℕ) (test : LinkTestValue) (n : Node WholeQueues) → Quiet (do_kind whole c kind link point test n).outcome
  kind-quiet kinds.Test point test n = handled
  kind-quiet kinds.Acknowledgement point test n = by (passes_test c link point test n.parts)
    where
      by : (passes : Bool) → Quiet (if passes then answer Handled (pass_test whole c link n) else answer Ignored n).outcome
      by true = handled
      by false = ignored

  link_test-quiet : (r : Result LinkTestValue MgmtFault) (point : ℕ) (n : Node WholeQueues) → Quiet (do_test whole c r link point n).outcome
  link_test-quiet (Ok test) point n = kind-quiet test.kind point test n
  link_test-quiet (Err fault) point n = fault-quiet fault

  manage-quiet : (m : Message) (n : Node WholeQueues) → Quiet (manage whole c link m n).outcome
  manage-quiet m n = by (is_adjacent c (opc_of m)) (nat_eq (service_indicator m) testing)
    where
      by : (adjacent test : Bool)
          → Quiet (if adjacent then (if test then do_test whole c (read_link_test m.sif) link (opc_of m) n else do_management whole c (read_management m.sif) (opc_of m) n) else answer (from_afar c m) n).outcome
      by true true = link_test-quiet (read_link_test m.sif) (opc_of m) n
      by true false = management-quiet (read_management m.sif) (opc_of m) n
      by false test = handled-or-refused (c.user_part_unavailable && says_unavailable m) causes.NotFromAdjacent refl

  -- a message by its user part
  parted : (b : Bool) (n o : Node WholeQueues) → (if b then answer Local n else refuse causes.NoUserPart o).outcome ≡ (if b then Local else Refused causes.NoUserPart)
  parted true n o = refl
  parted false n o = refl

  -- one whose user part isn't here
  abbrev absent : Message → Node WholeQueues → Node WholeQueues
  absent m n = answer_no_user_part whole c (Some link) (destination_place c (opc_of m)) m n

  module _ (m : Message) (n : Node WholeQueues) where
    abbrev rows : TitlesValue
    rows = n.parts.titles

    taken-at-most : (o : Outcome) (m : Message) → (taken_in o m ≡ []) ⊎ (taken_in o m ≡ m ∷ [])
    taken-at-most (Queued link) m = inr refl
    taken-at-most Held m = inr refl
    taken-at-most Local m = inl refl
    taken-at-most Handled m = inl refl
    taken-at-most Ignored m = inl refl
    taken-at-most (Refused cause) m = inl refl

    returned-at-most : (udts : Option (List ℕ)) → IsReturnedAtMost udts m (returned_in udts c m n)
    returned-at-most (Some sif) = taken-at-most (transfer whole c None (in_place_of m sif) n).outcome (in_place_of m sif)
    returned-at-most None = refl

    abbrev own : OwnValue
    own = own_of c n.parts

    refused-for : (cause : Cause) → is_other cause ≡ true → IsRefused own rows cause m (answered_in (Refused cause) c m n)
    refused-for cause e = record { other = other-cause cause e; returned = returned-at-most (returned own rows m.sif cause) }

    goes-on : (sif : List ℕ) (o : Outcome) → is_way_on o ≡ true → GoesOn sif own rows m o (taken_in o (in_place_of m sif) ++ answered_in o c m n)
    goes-on sif (Queued link) e = refl
    goes-on sif Held e = refl
    goes-on sif (Refused cause) e = refused-for cause e
    goes-on sif Local e = absurd cc
    goes-on sif Handled e = absurd cc
    goes-on sif Ignored e = absurd cc

    is-relayed : (v : relays.RelayedValue) → is_relay_other v ≡ true
        → IsRelayed v own rows m (relay_by whole c v m n).outcome (relayed_in v (relay_by whole c v m n).outcome m ++ answered_in (relay_by whole c v m n).outcome c m n)
    is-relayed relays.Delivered e = (refl, refl)
    is-relayed (relays.Onward sif) e = goes-on sif (transfer whole c None (in_place_of m sif) n).outcome (transfer-other c (in_place_of m sif) n)
    is-relayed (relays.Heard news) e = (refl, refl)
    is-relayed (relays.Refused cause) e = (refl, refused-for cause e)

    comes-of : (is_sccp : Bool)
        → ComesOf is_sccp own c rows m (if is_sccp then on_unitdata whole c m n else if is_user c (service_indicator m) then answer Local n else refuse causes.NoUserPart (absent m n)).outcome
        (if is_sccp then unitdata_in (if is_sccp then on_unitdata whole c m n else if is_user c (service_indicator m) then answer Local n else refuse causes.NoUserPart (absent m n)).outcome c m n else [])
    comes-of true = is-relayed (relays.relay own rows m.sif) (relay-other own rows m.sif)
    comes-of false = (parted (is_user c (service_indicator m)) n (absent m n), refl)

    user-tells : (b : Bool) → is_management m ≡ b → b ≡ false
        → ComesTo own c rows (if not b then m ∷ [] else []) (brought_here (if b then manage whole c link m n else local whole c (Some link) m n).outcome c m n) (if b then manage whole c link m n else local whole c (Some link) m n).outcome
    user-tells true e f = absurd cc
    user-tells false e f = comes-of (nat_eq (service_indicator m) sccp)

    none-tells-of : (x : OwnValue) → is_management m ≡ true → (o : Outcome) (ms : List Message) → Quiet o → ms ≡ [] → ComesTo x c rows (users_of (m ∷ [])) ms o
    none-tells-of x e o ms q k = subst (λ (xs : List Message). ComesTo x c rows xs ms o) (sym (ap (λ (b : Bool). if not b then m ∷ [] else []) e)) (accepts-nothing o ms q k)

    -- management here is quiet, and brings nothing
    here-tells : (x : OwnValue) → is_management m ≡ true → ComesTo x c rows (users_of (m ∷ [])) (brought_here (distribute whole c link m n).outcome c m n) (distribute whole c link m n).outcome
    here-tells x e =
        let ks : brought_here (distribute whole c link m n).outcome c m n ≡ [] =
        ap (λ (b : Bool). if b then unitdata_in (distribute whole c link m n).outcome c m n else []) (is-no-sccp m e) in
        let here : (distribute whole c link m n).outcome ≡ (manage whole c link m n).outcome =
        ap (λ (b : Bool). (if b then manage whole c link m n else local whole c (Some link) m n).outcome) e in
        none-tells-of x e (distribute whole c link m n).outcome (brought_here (distribute whole c link m n).outcome c m n) (subst Quiet (sym here) (manage-quiet m n)) ks

  -- where it goes
  whither-other : (m : Message) (cause : Cause) → whither_goes c m ≡ whither.Refused cause → is_other cause ≡ true
  whither-other m cause = by (nat_lt SIF_OCTETS (length m.sif)) (nat_lt (length m.sif) 4) (nat_eq (network_indicator m) c.network) (nat_eq (dpc_of m) c.own)
    where
      by : (long short ours own : Bool) → decided long short ours own (label_at m.sif) ≡ whither.Refused cause → is_other cause ≡ true
      by true short ours own e = (let same : causes.TooLong ≡ cause = cc in subst (λ (x : Cause). is_other x ≡ true) same refl)
      by false true ours own e = (let same : causes.NoLabel ≡ cause = cc in subst (λ (x : Cause). is_other x ≡ true) same refl)
      by false false false own e = (let same : causes.WrongNetwork ≡ cause = cc in subst (λ (x : Cause). is_other x ≡ true) same refl)
      by false false true true e = absurd cc
      by false false true false e = absurd cc

  transfer-tells : (x : OwnValue) (m : Message) (n : Node WholeQueues) → is_management m ≡ true → is_destination c (dpc_of m) ≡ false
      → ComesTo x c n.parts.titles (users_of (m ∷ [])) (taken_in (transfer whole c (Some link) m n).outcome m) (transfer whole c (Some link) m n).outcome
  transfer-tells x m n e away =
      let into : Done WholeQueues = offer whole c (no_room_for whole c m n) (waits c n.parts.holds m) (link_of c n.parts (flow_of m)) (Some link) m n in
      let gone : (transfer whole c (Some link) m n).outcome ≡ Refused causes.UnknownDestination =
      ap (λ (b : Bool). (if b then into else refuse causes.UnknownDestination n).outcome) away in
      subst (λ (o : Outcome). ComesTo x c n.parts.titles (users_of (m ∷ [])) (taken_in o m) o) (sym gone)
      (none-tells-of m n x e (Refused causes.UnknownDestination) [] refused-destination refl)

  managed-tells : (x : OwnValue) (d : Discrimination) (m : Message) (n : Node WholeQueues) → whither_goes c m ≡ d → is_management m ≡ true → is_destination c (dpc_of m) ≡ false
      → ComesTo x c n.parts.titles (users_of (m ∷ [])) (brought_to d (deliver_to whole c d link m n).outcome c m n) (deliver_to whole c d link m n).outcome
  managed-tells x (whither.Refused cause) m n f e away = none-tells-of m n x e (Refused cause) [] (refused-other cause (whither-other m cause f)) refl
  managed-tells x (whither.Here label) m n f e away = here-tells m n x e
  managed-tells x (whither.Transfer label) m n f e away = transfer-tells x m n e away

module _ (c z : Configuration) (g : AreJoined c z) (f : AreFacing c z) (own : f.base.back ≡ c.own) (link : ℕ) where
  only : HasOnly c z.own
  only = has-only c z.own g.facing.near_leads

  far-only : HasOnly z c.own
  far-only = has-only z c.own g.facing.far_leads

  -- a user message of the far end is for this one, and comes here
  pub record Has (m : Message) : Type 0 where
    pub sent : IsSent z c f.base.back f.far_set m
    pub bound : IsBound z m

  user-here : (m : Message) → is_management m ≡ false → dpc_of m ≡ c.own → IsSent z c f.base.back f.far_set m → ComesHere c m
  user-here m user to (good.made is) = (let no : true ≡ false = sym is.management ∙ user in absurd cc)
  user-here m user to (good.accepted is) = is.here own
  user-here m user to (good.passes_by says short) =
      (let no : UserMessage ≡ Other =
      sym (ap (λ (b : Bool). says_by b (is_between z.own c.own m) (nat_eq (dpc_of m) f.base.back) m) user
      ∙ ap (λ (b : Bool). says_by false (is_between z.own c.own m) b m) (eq-eqb (dpc_of m) f.base.back (to ∙ sym own))) ∙ says in
      absurd cc)

  apart : (m : Message) → IsBound z m → is_destination c (dpc_of m) ≡ false
  apart m b = by (destination_place c (dpc_of m)) refl
    where
      by : (place : Option ℕ) → destination_place c (dpc_of m) ≡ place → is_destination c (dpc_of m) ≡ false
      by (Some place) e = absurd (not-own z m b.onward (only (dpc_of m) place e))
      by None e = ap is_some e

  -- by where the links lead after it
  deliver-tells : (m : Message) → Has m → (n : Node WholeQueues)
      → ComesTo (own_of c (deliver whole c link m n).left.parts) c n.parts.titles (users_of (m ∷ [])) (brought_to (whither_goes c m) (deliver whole c link m n).outcome c m n)
      (deliver whole c link m n).outcome
  deliver-tells m b n = by (is_management m) refl
    where
      left : Node WholeQueues
      left = (deliver whole c link m n).left

      by : (managed : Bool) → is_management m ≡ managed
          → ComesTo (own_of c left.parts) c n.parts.titles (users_of (m ∷ [])) (brought_to (whither_goes c m) (deliver whole c link m n).outcome c m n) (deliver whole c link m n).outcome
      by true e = managed-tells c link (own_of c left.parts) (whither_goes c m) m n refl e (apart m b.bound)
      by false e =
          let here : ComesHere c m = user-here m e (its-point z c.own far-only m b.bound.known e) b.sent in
          let same : own_of c left.parts ≡ own_of c n.parts = own-same c left n (deliver-facts c link m here.label n e here.here) in
          subst (λ (x : OwnValue).
          ComesTo x c n.parts.titles (users_of (m ∷ [])) (brought_to (whither_goes c m) (deliver whole c link m n).outcome c m n) (deliver whole c link m n).outcome)
          (sym same)
          (subst (λ (x : Discrimination).
          ComesTo (own_of c n.parts) c n.parts.titles (users_of (m ∷ [])) (brought_to x (deliver_to whole c x link m n).outcome c m n) (deliver_to whole c x link m n).outcome)
          (sym here.here)
          (subst (λ (xs : List Message). ComesTo (own_of c n.parts) c n.parts.titles xs (brought_here (distribute whole c link m n).outcome c m n) (distribute whole c link m n).outcome)
          (ap (λ (x : Bool). if not x then m ∷ [] else []) refl) (user-tells c link m n (is_management m) refl e)))

  -- it is the message in the frame
  same-carried : (frame : FrameValue) (m : Message) → IsFlying z c f.base.back f.far_set frame → carried_message (Ok frame) ≡ Some m → Has m
  same-carried _ m (good.empty bsn fsn s) e = absurd cc
  same-carried _ m (good.carrying bsn fsn sio sif s b bound) e =
      subst Has (let same : record { sio = sio; sif = sif } ≡ m = cc in same) (record { sent = b; bound = bound })

  -- ---- a frame

  module _ (n : Node WholeQueues) (text : List ℕ) where
    abbrev there : Abstract
    there = record { settings = c; node = n; reroutings = first_reroutings c }

    pub came-between : (frame : FrameValue) (m : Message) → read_frame text ≡ Ok frame → IsFlying z c f.base.back f.far_set frame → new_message link text there ≡ Some m → Has m
    came-between frame m reads flying e = same-carried frame m flying (ap carried_message (sym reads) ∙ new-carried link text there m e)

    -- a link status brings none
    pub status-none : {A : Type 0} (frame : FrameValue) (m : Message) → read_frame text ≡ Ok frame → IsTelling frame → new_message link text there ≡ Some m → A
    status-none frame m reads says e =
        (let no : None ≡ Some m = sym (tells-none frame says) ∙ ap carried_message (sym reads) ∙ new-carried link text there m e in absurd cc)

    -- what it newly carries, and what that came to
    abbrev Came : Option Message → Type 0
    Came o =
        ComesTo (own_of c (after whole (FrameCame link text) there).node.parts) c n.parts.titles (users_of (option_to_list o)) (brought_by o (outcome_of whole (FrameCame link text) there) c (accept_text link (read_frame text) there))
        (outcome_of whole (FrameCame link text) there)

    none-came : new_message link text there ≡ None → Came None
    none-came e = accepts-nothing (outcome_of whole (FrameCame link text) there) [] (idle-quiet (outcome_of whole (FrameCame link text) there) (nothing-delivered there link text e)) refl

    data-came : (frame : FrameValue) → read_frame text ≡ Ok frame → IsFlying z c f.base.back f.far_set frame → (o : Option Message) → new_message link text there ≡ o → Came o
    data-came frame reads flying None e = none-came e
    data-came frame reads flying (Some m) e =
        let left : Node WholeQueues = accept_text link (read_frame text) there in
        let d : Done WholeQueues = receive whole c link text n in
        let out : Node WholeQueues = (after whole (FrameCame link text) there).node in
        subst (λ (x : OwnValue). ComesTo x c n.parts.titles (users_of (m ∷ [])) (brought_by (Some m) (outcome_of whole (FrameCame link text) there) c left) (outcome_of whole (FrameCame link text) there))
        (sym (own-same c out d.left (after-facts c (FrameCame link text) n ∙ late_by-facts c d.outcome d.left)))
        (subst (λ (o : Outcome). ComesTo (own_of c d.left.parts) c n.parts.titles (users_of (m ∷ [])) (brought_by (Some m) o c left) o) (sym (outcome-same c (FrameCame link text) n))
        (subst (λ (rows : TitlesValue). ComesTo (own_of c d.left.parts) c rows (users_of (m ∷ [])) (brought_by (Some m) d.outcome c left) d.outcome)
        (accepted-titles c link (read_frame text) n)
        (received-as c link m (λ d x. ComesTo (own_of c d.left.parts) c x.parts.titles (users_of (m ∷ [])) (brought_to (whither_goes c m) d.outcome c m x) d.outcome)
        (deliver-tells m (came-between frame m reads flying e)) text n e)))

    status-came : (frame : FrameValue) → read_frame text ≡ Ok frame → IsTelling frame → (o : Option Message) → new_message link text there ≡ o → Came o
    status-came frame reads says None e = none-came e
    status-came frame reads says (Some m) e = status-none frame m reads says e

-- ---- what was there before is dropped

drop-before : (xs ys : List Message) → drop (length xs) (xs ++ ys) ≡ ys
drop-before [] ys = refl
drop-before (x ∷ xs) ys = drop-before xs ys

drop-all : (xs : List Message) → drop (length xs) xs ≡ []
drop-all [] = refl
drop-all (x ∷ xs) = drop-all xs

module _ (c z : Configuration) (g : AreJoined c z) (f : AreFacing c z) (its_own : f.base.back ≡ c.own) (p : PairState) (s : Stands c z f p) (link : ℕ) where
  abbrev a : Abstract
  a = p.near.exchange

  -- what was received and accepted by something that came to this
  abbrev TellsAt : OwnValue → Configuration → (received accepted : List Message) → Outcome → Type 0
  TellsAt own x received accepted outcome = ComesTo own x a.node.parts.titles (drop (length p.near.received) received) (drop (length p.near.accepted) accepted) outcome

  -- whichever frame comes, and what it leaves in flight
  came-tells : (text : List ℕ) → Came c z g f its_own link a.node text (new_message link text (record { settings = c; node = a.node; reroutings = first_reroutings c }))
      → TellsAt (own_of a.settings (after whole (FrameCame link text) a).node.parts) a.settings (p.near.received ++ users_of (option_to_list (new_message link text a))) (p.near.accepted ++ brought_in (FrameCame link text) a) (outcome_of whole (FrameCame link text) a)
  came-tells text h =
      subst (λ (x : Configuration).
      let b : Abstract = record { settings = x; node = a.node; reroutings = first_reroutings x } in
      TellsAt (own_of x (after whole (FrameCame link text) b).node.parts) x (p.near.received ++ users_of (option_to_list (new_message link text b))) (p.near.accepted ++ brought_in (FrameCame link text) b) (outcome_of whole (FrameCame link text) b))
      (sym s.near_settings)
      (let b : Abstract = record { settings = c; node = a.node; reroutings = first_reroutings c } in
      let ms : List Message = users_of (option_to_list (new_message link text b)) in
      let own : OwnValue = own_of c (after whole (FrameCame link text) b).node.parts in
      let ks : List Message = brought_in (FrameCame link text) b in
      subst (λ (xs : List Message). ComesTo own c a.node.parts.titles xs (drop (length p.near.accepted) (p.near.accepted ++ ks)) (outcome_of whole (FrameCame link text) b)) (sym (drop-before p.near.received ms))
      (subst (λ (xs : List Message). ComesTo own c a.node.parts.titles ms xs (outcome_of whole (FrameCame link text) b)) (sym (drop-before p.near.accepted ks)) h))

  none-tells : (own : OwnValue) → TellsAt own a.settings p.near.received p.near.accepted Ignored
  none-tells own =
      subst (λ (xs : List Message). ComesTo own a.settings a.node.parts.titles xs (drop (length p.near.accepted) p.near.accepted) Ignored) (sym (drop-all p.near.received))
      (accepts-nothing Ignored (drop (length p.near.accepted) p.near.accepted) ignored (drop-all p.near.accepted))

  pub delivery-tells : Tells (Delivers link) p
  delivery-tells = by (slice_get (in_flight p.near.incoming.user_data link) 0) refl
    where
      left : Streams
      left = without_data link p.near.incoming

      by : (o : Option (List ℕ)) → slice_get (in_flight p.near.incoming.user_data link) 0 ≡ o
          → TellsAt (own_of a.settings (deliver_frame o link left p).left.near.exchange.node.parts) a.settings (deliver_frame o link left p).left.near.received (deliver_frame o link left p).left.near.accepted (deliver_frame o link left p).outcome
      by None e = none-tells (own_of a.settings a.node.parts)
      by (Some text) e =
          let frames : List FrameValue = s.to_near.user_data link in
          let first : IsFirst frames (in_flight p.near.incoming.user_data link) text = first-frame frames (in_flight p.near.incoming.user_data link) text (s.near_texts.user_data.each link) e in
          let flying : IsFlying z c f.base.back f.far_set first.frame = (subst (Each (IsFlying z c f.base.back f.far_set)) first.first (s.near_good.coming.user_data link)).0 in
          came-tells text (data-came c z g f its_own link a.node text first.frame (ap read_frame first.spells ∙ flies-back z c f.base.back f.far_set first.frame flying) flying (new_message link text (record { settings = c; node = a.node; reroutings = first_reroutings c })) refl)

  pub status_delivery-tells : Tells (DeliversStatus link) p
  status_delivery-tells = by (slice_get (in_flight p.near.incoming.statuses link) 0) refl
    where
      left : Streams
      left = without_status link p.near.incoming

      by : (o : Option (List ℕ)) → slice_get (in_flight p.near.incoming.statuses link) 0 ≡ o
          → TellsAt (own_of a.settings (deliver_frame o link left p).left.near.exchange.node.parts) a.settings (deliver_frame o link left p).left.near.received (deliver_frame o link left p).left.near.accepted (deliver_frame o link left p).outcome
      by None e = none-tells (own_of a.settings a.node.parts)
      by (Some text) e =
          let frames : List FrameValue = s.to_near.statuses link in
          let first : IsFirst frames (in_flight p.near.incoming.statuses link) text = first-frame frames (in_flight p.near.incoming.statuses link) text (s.near_texts.statuses.each link) e in
          let telling : IsTelling first.frame = (subst (Each IsTelling) first.first (s.near_good.coming.statuses link)).0 in
          came-tells text (status-came c z g f its_own link a.node text first.frame (ap read_frame first.spells ∙ tells-back first.frame telling) telling (new_message link text (record { settings = c; node = a.node; reroutings = first_reroutings c })) refl)

pub tells : deliveries_tell
tells near far steps g =
    let f : AreFacing near far = facing near far g in
    let p : PairState = after_steps steps (first_pair near far) in
    let s : Stands near far f p = stands-alone near far g steps in
    let b : Stands far near (facing_back near far f) (turned p) = stands-turned near far f p s in
    let h : AreJoined far near = joined-back near far g in
    let own : AreOwn near far f = sharing-own near far g in
    record {
      there = record { user_data = λ link. delivery-tells near far g f own.back p s link; status = λ link. status_delivery-tells near far g f own.back p s link };
      back = record {
        user_data = λ link. delivery-tells far near h (facing_back near far f) own.there (turned p) b link;
        status = λ link. status_delivery-tells far near h (facing_back near far f) own.there (turned p) b link;
      };
    }
