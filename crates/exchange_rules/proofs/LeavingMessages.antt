-- A message or a command that is refused leaves what its cause is to leave, and a message is queued on a link in
-- service.
use Rattle.exchange_rules.proofs.Basics.{◌≡◌, ℕ, Bool, true, false, List, Option, Some, None, Result, Ok, Err, refl, ap, sym, ◌∙◌, ◌&&◌, arith, if◌then◌else◌, nat_tests, option_and_then}
use Rattle.exchange_rules.proofs.Definitions.{Message, dpc_of, opc_of, flow_of, is_management, service_indicator, Configuration, TitleEntry, Cause, Outcome, Local, Handled, Ignored, destination_place, set_place, RouteStatus, Allowed, Restricted, Prohibited, Heard, RouteTest, chosen_link, facts, MgmtFault, TestKind, Test, Acknowledgement, Management, TrafficRestartAllowed, TransferProhibited, TransferRestricted, TransferAllowed, RouteSetTestProhibited, RouteSetTestRestricted, ChangebackDeclaration, ChangebackAcknowledgement, ExtendedChangeoverOrder, ExtendedChangeoverAcknowledgement, EmergencyChangeoverOrder, EmergencyChangeoverAcknowledgement, LinkTestValue, read_link_test, read_management, label_at, Discrimination, Parts, Node, Done, with_parts, answer, refuse, is_link, link_at, in_service, in_traffic, network_of, link_of, no_room_for, is_destination, offer, transfer, send_on, send_routed, route_about, apply_route_status, on_route_status, answer_no_route, send_route_status, answer_route_test, on_route_test, changeback_acknowledgement, freed, on_changeback_acknowledgement, is_outstanding, sccp, is_user, is_adjacent, cause_of, test_answer, link_with_code, local, do_order, do_acknowledgement, do_management, do_kind, do_test, manage, distribute, deliver_to, submit_to, TitleKey, place_of, has_row, without_row, RelayedValue, relay, own_of, in_place_of, return_unitdata, return_outcome, relay_by, on_unitdata, with_rows, title_refusal, title_set_refusal, add_title_unless, add_title, set_title, remove_title, answered_by, may_open, open_link, association_up, fail_if_up, end_association, association_down, set_active, activate, deactivate, WholeQueues, whole, waits, on_changeover_acknowledgement, complete_if, with_changeover_acknowledged, fail_by_order, complete_by_order, acknowledge_changeover, changeover_of, may_restart, answer_no_user_part, no_part_answered, UserPartUnavailable, Refused, from_afar, says_unavailable, passes_test, pass_test, bar, release_bar, is_barred, unbarred}
use Rattle.std.specs.Prelude.{nat_eq, nat_lt}
use Rattle.signalling_types.specs.declared.point.Flow.{Flow}
use Rattle.signalling_types.specs.declared.cause.Cause.TheVariants as causes
use Rattle.route_management.specs.declared.heard.Heard.TheVariants as hears
use Rattle.route_management.specs.declared.heard.RouteTest.TheVariants as tests
use Rattle.route_management.specs.Told as hearing
use Rattle.node_links.proofs.Chosen.{chosen_carrying, carrying-serves}
use Rattle.mtp3_codec.specs.declared.discrimination.Discrimination.TheVariants as whither
use Rattle.signalling_types.specs.declared.notice.FailureReason.TheVariants as reasons
use Rattle.sccp_relay.specs.Relay as relays
use Rattle.exchange_rules.proofs.Leaves.{Leaves, queued_on, is_other, refuses_other, room_for_so, fault_so, Stays, left_by, left_as, stayed, waited, handled, ignored, either, either_by}

-- ---- links

chosen_at : (c : Configuration) (p : Parts) (place : Option ℕ) (selection l : ℕ)
    → option_and_then (λ d. chosen_link (facts c p) d selection) place ≡ Some l → in_traffic p l ≡ true
chosen_at c p None selection l e = absurd cc
chosen_at c p (Some d) selection l e = chosen_carrying (network_of c p) d selection l e

pub chosen_carries : (c : Configuration) (p : Parts) (f : Flow) (l : ℕ) → link_of c p f ≡ Some l → in_traffic p l ≡ true
chosen_carries c p f l e = chosen_at c p (destination_place c f.point) f.sls l e

pub chosen_serves : (c : Configuration) (p : Parts) (f : Flow) (l : ℕ) → link_of c p f ≡ Some l → in_service p l ≡ true
chosen_serves c p f l e = carrying-serves (link_at p l) (chosen_carries c p f l e)

-- ---- messages and commands

module _ (c : Configuration) (n : Node WholeQueues) (by : Cause → Node WholeQueues) (s : Stays by n) where
  refused : (cause : Cause) → is_other cause ≡ true → Leaves (refuse cause n) by
  refused cause e = left_by cause n by (s.others cause e)

  offer-leaves : (room : Option Cause) (is_waiting : Bool) (link from : Option ℕ) (m : Message) → refuses_other room ≡ true
      → ((l : ℕ) → link ≡ Some l → in_traffic n.parts l ≡ true) → answer_no_route whole c from (destination_place c (dpc_of m)) n ≡ by causes.NoRoute
      → Leaves (offer whole c room is_waiting link from m n) by
  offer-leaves (Some cause) w link from m o f away = refused cause o
  offer-leaves None true link from m o f away = waited _ by
  offer-leaves None false None from m o f away = left_by _ (answer_no_route whole c from (destination_place c (dpc_of m)) n) by away
  offer-leaves None false (Some link) from m o f away = record { left = λ cause e. cc; served = λ l e. f l (ap queued_on e) }

  transfer-leaves : (from : Option ℕ) (m : Message) → answer_no_route whole c from (destination_place c (dpc_of m)) n ≡ by causes.NoRoute → Leaves (transfer whole c from m n) by
  transfer-leaves from m away =
      let held : Bool = waits c n.parts.holds m in
      let link : Option ℕ = link_of c n.parts (flow_of m) in
      either (is_destination c (dpc_of m)) (offer whole c (no_room_for whole c m n) held link from m n) (refuse causes.UnknownDestination n) by
      (offer-leaves (no_room_for whole c m n) held link from m (room_for_so c m n) (λ l e. chosen_carries c n.parts (flow_of m) l e) away) (refused _ refl)

  do_kind-leaves : (t : TestKind) (link z : ℕ) (v : LinkTestValue) → Leaves (do_kind whole c t link z v n) by
  do_kind-leaves Test link z v = handled (send_on whole c link (test_answer c z v) n) by
  do_kind-leaves Acknowledgement link z v =
      either (passes_test c link z v n.parts) (answer Handled (pass_test whole c link n)) (answer Ignored n) by
      (handled (pass_test whole c link n) by) (ignored n by)

  do_test-leaves : (r : Result LinkTestValue MgmtFault) (link z : ℕ) → Leaves (do_test whole c r link z n) by
  do_test-leaves (Err fault) link z = refused (cause_of fault) (fault_so fault)
  do_test-leaves (Ok v) link z = do_kind-leaves v.kind link z v

  do_order-leaves : (link : Option ℕ) (number : Option ℕ) → Leaves (do_order whole c link number n) by
  do_order-leaves (Some link) number = handled (acknowledge_changeover whole c link (complete_by_order whole c link number (bar whole c link (fail_by_order whole c link n)))) by
  do_order-leaves None number = refused causes.BadManagement refl

  on_changeover_acknowledgement-leaves : (link : ℕ) (number : Option ℕ) → Leaves (on_changeover_acknowledgement whole c link number n) by
  on_changeover_acknowledgement-leaves link number =
      let done : Node WholeQueues = complete_if whole c (changeover_of n.parts link).incomplete link number (with_parts n (with_changeover_acknowledged link n.parts)) in
      either (changeover_of n.parts link).awaited (answer Handled done) (answer Ignored n) by (handled done by) (ignored n by)

  do_acknowledgement-leaves : (link : Option ℕ) (number : Option ℕ) → Leaves (do_acknowledgement whole c link number n) by
  do_acknowledgement-leaves (Some link) number = on_changeover_acknowledgement-leaves link number
  do_acknowledgement-leaves None number = refused causes.BadManagement refl

  on_changeback_acknowledgement-leaves : (set : Option ℕ) (code : ℕ) → Leaves (on_changeback_acknowledgement whole c set code n) by
  on_changeback_acknowledgement-leaves (Some set) code =
      either (is_outstanding n.parts.codes set code) (answer Handled (with_parts n (freed set code n.parts))) (answer Ignored n) by
      (handled (with_parts n (freed set code n.parts)) by) (ignored n by)
  on_changeback_acknowledgement-leaves None code = ignored n by

  apply_route_status-leaves : (x : Heard) (set destination : ℕ) (status : RouteStatus) → Leaves (apply_route_status whole c x set destination status n) by
  apply_route_status-leaves hears.Ignored set destination status = ignored n by
  apply_route_status-leaves hears.Unchanged set destination status = handled n by
  apply_route_status-leaves hears.Changed set destination status = handled _ by

  on_route_status-leaves : (status : RouteStatus) (set place : Option ℕ) → Leaves (on_route_status whole c status (route_about set place) n) by
  on_route_status-leaves status (Some set) (Some place) = apply_route_status-leaves (hearing.heard (facts c n.parts) n.parts.told set place status) set place status
  on_route_status-leaves status None (Some place) = ignored n by
  on_route_status-leaves status set None = refused causes.UnknownDestination refl

  answer_route_test-leaves : (test : RouteTest) (set place : ℕ) → Leaves (answer_route_test whole c test set place n) by
  answer_route_test-leaves test set place =
      let answered : Node WholeQueues = send_route_status whole c (hearing.answer_to_test (facts c n.parts) n.parts.told set place test) set place n in
      either (hearing.is_own_point n.parts.told set place) (answer Ignored n) (answer Handled answered) by (ignored n by) (handled answered by)

  on_route_test-leaves : (test : RouteTest) (set place : Option ℕ) → Leaves (on_route_test whole c test (route_about set place) n) by
  on_route_test-leaves test (Some set) (Some place) = answer_route_test-leaves test set place
  on_route_test-leaves test None (Some place) = ignored n by
  on_route_test-leaves test set None = refused causes.UnknownDestination refl

  handled_or-leaves : (b : Bool) (cause : Cause) → is_other cause ≡ true → Leaves (answer (if b then Handled else Refused cause) n) by
  handled_or-leaves true cause e = handled n by
  handled_or-leaves false cause e = refused cause e

  do_management-leaves : (r : Result Management MgmtFault) (z : ℕ) → Leaves (do_management whole c r z n) by
  do_management-leaves (Err fault) z = refused (cause_of fault) (fault_so fault)
  do_management-leaves (Ok TrafficRestartAllowed) z = ignored n by
  do_management-leaves (Ok (ExtendedChangeoverOrder slc number)) z = do_order-leaves (link_with_code c z slc) (Some number)
  do_management-leaves (Ok (ExtendedChangeoverAcknowledgement slc number)) z = do_acknowledgement-leaves (link_with_code c z slc) (Some number)
  do_management-leaves (Ok (EmergencyChangeoverOrder slc)) z = do_order-leaves (link_with_code c z slc) None
  do_management-leaves (Ok (EmergencyChangeoverAcknowledgement slc)) z = do_acknowledgement-leaves (link_with_code c z slc) None
  do_management-leaves (Ok (ChangebackDeclaration slc code)) z = handled (send_routed whole c (changeback_acknowledgement c z slc code) n) by
  do_management-leaves (Ok (ChangebackAcknowledgement slc code)) z = on_changeback_acknowledgement-leaves (set_place c z) code
  do_management-leaves (Ok (TransferProhibited about)) z = on_route_status-leaves Prohibited (set_place c z) (destination_place c about)
  do_management-leaves (Ok (TransferRestricted about)) z = on_route_status-leaves Restricted (set_place c z) (destination_place c about)
  do_management-leaves (Ok (TransferAllowed about)) z = on_route_status-leaves Allowed (set_place c z) (destination_place c about)
  do_management-leaves (Ok (RouteSetTestProhibited about)) z = on_route_test-leaves tests.Prohibited (set_place c z) (destination_place c about)
  do_management-leaves (Ok (RouteSetTestRestricted about)) z = on_route_test-leaves tests.Restricted (set_place c z) (destination_place c about)
  do_management-leaves (Ok (UserPartUnavailable about user_part cause)) z = handled_or-leaves c.user_part_unavailable causes.NotInProfile refl

  manage-leaves : (link : ℕ) (m : Message) → Leaves (manage whole c link m n) by
  manage-leaves link m =
      let t : Done WholeQueues = do_test whole c (read_link_test m.sif) link (opc_of m) n in
      let r : Done WholeQueues = do_management whole c (read_management m.sif) (opc_of m) n in
      either (is_adjacent c (opc_of m)) (if nat_eq (service_indicator m) 1 then t else r) (answer (from_afar c m) n) by
      (either (nat_eq (service_indicator m) 1) t r by (do_test-leaves (read_link_test m.sif) link (opc_of m)) (do_management-leaves (read_management m.sif) (opc_of m)))
      (handled_or-leaves (c.user_part_unavailable && says_unavailable m) causes.NotFromAdjacent refl)

  pub association_up-leaves : (link : ℕ) → Leaves (association_up whole c link n) by
  association_up-leaves link =
      let opened : Done WholeQueues = answer Handled (open_link whole c link n) in
      let restarted : Done WholeQueues = if may_restart (changeover_of n.parts link) then opened else refuse causes.ChangeoverPending n in
      either (is_link n.parts link) (if may_open (link_at n.parts link) then restarted else refuse causes.LinkNotReady n) (refuse causes.NoSuchName n) by
      (either (may_open (link_at n.parts link)) restarted (refuse causes.LinkNotReady n) by
      (either (may_restart (changeover_of n.parts link)) opened (refuse causes.ChangeoverPending n) by (handled _ by) (refused _ refl)) (refused _ refl))
      (refused _ refl)

  pub association_down-leaves : (link : ℕ) → Leaves (association_down whole c link n) by
  association_down-leaves link =
      let gone : Done WholeQueues = answer Handled (end_association whole c link (fail_if_up whole c link reasons.Association n)) in
      either (is_link n.parts link) (if (link_at n.parts link).association then gone else answer Ignored n) (refuse causes.NoSuchName n) by
      (either (link_at n.parts link).association gone (answer Ignored n) by (handled _ by) (ignored n by)) (refused _ refl)

  pub activate-leaves : (emergency : Bool) (link : ℕ) → Leaves (activate whole c emergency link n) by
  activate-leaves emergency link =
      either (is_link n.parts link) (answer Handled (set_active whole c true emergency link n)) (refuse causes.NoSuchName n) by (handled _ by) (refused _ refl)

  pub release_bar-leaves : (link : ℕ) → Leaves (release_bar whole c link n) by
  release_bar-leaves link =
      let freed : Done WholeQueues = answer Handled (with_parts n (unbarred link n.parts)) in
      either (is_link n.parts link) (if is_barred (changeover_of n.parts link) then freed else answer Ignored n) (refuse causes.NoSuchName n) by
      (either (is_barred (changeover_of n.parts link)) freed (answer Ignored n) by (handled _ by) (ignored n by)) (refused _ refl)

  pub deactivate-leaves : (link : ℕ) → Leaves (deactivate whole c link n) by
  deactivate-leaves link =
      either (is_link n.parts link) (answer Handled (set_active whole c false false link (fail_if_up whole c link reasons.Operator n))) (refuse causes.NoSuchName n) by (handled _ by) (refused _ refl)

-- ---- messages by where they go

-- a refusal that leaves nothing
abbrev as_it_was : Node WholeQueues → Cause → Node WholeQueues
as_it_was n cause = n

untouched : (n : Node WholeQueues) → Stays (as_it_was n) n
untouched n = record { others = λ cause e. refl }

-- a test of service indicators that can't both be
apart : (indicator : ℕ) → nat_lt indicator 2 ≡ true → nat_eq indicator sccp ≡ false
apart indicator e = grind (arith, nat_tests, e)

module _ (c : Configuration) (n : Node WholeQueues) where
  pub relay_by-leaves : (v : RelayedValue) (m : Message) → Leaves (relay_by whole c v m n) (as_it_was n)
  relay_by-leaves relays.Delivered m = stayed n (as_it_was n)
  relay_by-leaves (relays.Onward sif) m = transfer-leaves c n (as_it_was n) (untouched n) None (in_place_of m sif) refl
  relay_by-leaves (relays.Heard news) m = handled _ (as_it_was n)
  relay_by-leaves (relays.Refused cause) m = left_by cause n (as_it_was n) refl

  -- a refused one is returned
  on_unitdata-leaves : (m : Message) → Leaves (on_unitdata whole c m n) (λ cause. return_unitdata whole c cause m n)
  on_unitdata-leaves m =
      let d : Done WholeQueues = relay_by whole c (relay (own_of c n.parts) n.parts.titles m.sif) m n in
      let f : Leaves d (as_it_was n) = relay_by-leaves (relay (own_of c n.parts) n.parts.titles m.sif) m in
      record {
        left = λ cause e.
            ap (λ (o : Outcome). return_outcome whole c o m d.left) e
            ∙ ap (λ (x : Node WholeQueues). return_unitdata whole c cause m x) (f.left cause e);
        served = λ l e. ap (λ (o : Outcome). in_traffic (return_outcome whole c o m d.left).parts l) e ∙ f.served l e;
      }

  -- what answers a message for this point
  abbrev here : Message → (from : Option ℕ) → Cause → Node WholeQueues
  here m from cause = answered_by (whither.Here (label_at m.sif)) cause from m c n

  -- what answers one that isn't for SCCP
  abbrev parted : Message → (from : Option ℕ) → Cause → Node WholeQueues
  parted m from cause = no_part_answered cause from m c n

  stays_parted : (m : Message) (from : Option ℕ) (cause : Cause) → is_other cause ≡ true → n ≡ parted m from cause
  stays_parted m from causes.NoUserPart e = absurd cc
  stays_parted m from cause e = refl

  as_here : (m : Message) (from : Option ℕ) (cause : Cause) → nat_eq (service_indicator m) sccp ≡ false → parted m from cause ≡ here m from cause
  as_here m from cause e = ap (λ (b : Bool). if b then return_unitdata whole c cause m n else parted m from cause) (sym e)

  local-leaves : (m : Message) (from : Option ℕ) → Leaves (local whole c from m n) (here m from)
  local-leaves m from =
      let told : Node WholeQueues = answer_no_user_part whole c from (destination_place c (opc_of m)) m n in
      let user : Done WholeQueues = if is_user c (service_indicator m) then answer Local n else refuse causes.NoUserPart told in
      either_by (nat_eq (service_indicator m) sccp) (on_unitdata whole c m n) user (here m from)
      (λ e. left_as (on_unitdata whole c m n) (here m from) (λ cause. return_unitdata whole c cause m n)
      (λ cause. ap (λ (b : Bool). if b then return_unitdata whole c cause m n else parted m from cause) (sym e)) (on_unitdata-leaves m))
      (λ e. left_as user (here m from) (parted m from) (λ cause. as_here m from cause e)
      (either (is_user c (service_indicator m)) (answer Local n) (refuse causes.NoUserPart told) (parted m from) (stayed n (parted m from)) (left_by _ told (parted m from) refl)))

  distribute-leaves : (link : ℕ) (m : Message) → Leaves (distribute whole c link m n) (here m (Some link))
  distribute-leaves link m =
      either_by (is_management m) (manage whole c link m n) (local whole c (Some link) m n) (here m (Some link))
      (λ e. left_as (manage whole c link m n) (here m (Some link)) (parted m (Some link)) (λ cause. as_here m (Some link) cause (apart (service_indicator m) e))
      (manage-leaves c n (parted m (Some link)) (record { others = stays_parted m (Some link) }) link m))
      (λ e. local-leaves m (Some link))

  -- a message for another point
  abbrev away : Message → (from : Option ℕ) → Cause → Node WholeQueues
  away m from cause = answered_by (whither.Transfer (label_at m.sif)) cause from m c n

  still : (m : Message) (from : Option ℕ) (cause : Cause) → is_other cause ≡ true → n ≡ away m from cause
  still m from causes.NoRoute e = absurd cc
  still m from cause e = refl

  pub deliver_to-leaves : (d : Discrimination) (link : ℕ) (m : Message) → Leaves (deliver_to whole c d link m n) (λ cause. answered_by d cause (Some link) m c n)
  deliver_to-leaves (whither.Refused cause) link m = left_by cause n _ refl
  deliver_to-leaves (whither.Here label) link m = distribute-leaves link m
  deliver_to-leaves (whither.Transfer label) link m = transfer-leaves c n (away m (Some link)) (record { others = still m (Some link) }) (Some link) m refl

  pub submit_to-leaves : (d : Discrimination) (m : Message) → Leaves (submit_to whole c d m n) (λ cause. answered_by d cause None m c n)
  submit_to-leaves (whither.Refused cause) m = left_by cause n _ refl
  submit_to-leaves (whither.Here label) m =
      either_by (is_management m) (refuse causes.NotInProfile n) (local whole c None m n) (here m None)
      (λ e. left_by _ n (here m None) (as_here m None causes.NotInProfile (apart (service_indicator m) e))) (λ e. local-leaves m None)
  submit_to-leaves (whither.Transfer label) m =
      either (is_management m) (refuse causes.NotInProfile n) (transfer whole c None m n) (away m None) (left_by _ n (away m None) refl)
      (transfer-leaves c n (away m None) (record { others = still m None }) None m refl)

-- ---- translation rows

add_unless-leaves : (refusal : Option Cause) (row : TitleEntry) (n : Node WholeQueues) → Leaves (add_title_unless refusal row n) (as_it_was n)
add_unless-leaves (Some cause) row n = left_by cause n (as_it_was n) refl
add_unless-leaves None row n = handled _ (as_it_was n)

pub add_title-leaves : (row : TitleEntry) (lacking : Bool) (n : Node WholeQueues) → Leaves (add_title row lacking n) (as_it_was n)
add_title-leaves row lacking n = add_unless-leaves (title_refusal n.parts.titles.rows row lacking) row n

pub set_title-leaves : (row : TitleEntry) (lacking : Bool) (n : Node WholeQueues) → Leaves (set_title row lacking n) (as_it_was n)
set_title-leaves row lacking n = add_unless-leaves (title_set_refusal n.parts.titles.rows row lacking) row n

pub remove_title-leaves : (key : TitleKey) (digits : List ℕ) (n : Node WholeQueues) → Leaves (remove_title key digits n) (as_it_was n)
remove_title-leaves key digits n =
    either (has_row n.parts.titles.rows (place_of key digits)) (answer Handled (with_parts n (with_rows (without_row (place_of key digits) n.parts.titles.rows) n.parts)))
    (refuse causes.NoSuchName n) (as_it_was n) (handled _ (as_it_was n)) (left_by _ n (as_it_was n) refl)
