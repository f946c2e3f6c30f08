-- Messages for this point, and those that are delivered or submitted: what is kept of the node that a rule leaves is
-- what the rule leaves of what was kept, and it stays sound. Over any two kinds of queues P and Q of which h keeps one
-- as the other.
use Rattle.exchange_rules.proofs.Basics.{ℕ, Option, Some, None, Result, Ok, Err, ap, if◌then◌else◌}
use Rattle.exchange_rules.proofs.Definitions.{Message, opc_of, is_management, service_indicator, Configuration, Local, MgmtFault, TestKind, Test, Acknowledgement, Management, TrafficRestartAllowed, TransferProhibited, TransferRestricted, TransferAllowed, RouteSetTestProhibited, RouteSetTestRestricted, ChangebackDeclaration, ChangebackAcknowledgement, ExtendedChangeoverOrder, ExtendedChangeoverAcknowledgement, EmergencyChangeoverOrder, EmergencyChangeoverAcknowledgement, LinkTestValue, read_link_test, read_management, Discrimination, set_place, destination_place, Allowed, Restricted, Prohibited, Node, Done, QueueKind, keep, answer, refuse, note_refusal, route_about, transfer, sccp, is_user, is_adjacent, link_with_code, test_answer, local, do_order, do_acknowledgement, do_management, do_kind, do_test, manage, distribute, on_unitdata, whither_goes, deliver_to, deliver, submit_to, changeback_acknowledgement, answer_no_user_part, from_afar, UserPartUnavailable}
use Rattle.std.specs.Prelude.{nat_eq}
use Rattle.signalling_types.specs.declared.cause.Cause.TheVariants as causes
use Rattle.mtp3_codec.specs.declared.discrimination.Discrimination.TheVariants as whither
use Rattle.route_management.specs.declared.heard.RouteTest.TheVariants as tests
use Rattle.exchange_rules.proofs.Combining.{IsKeeping, Keeps, answered, parted, either}
use Rattle.exchange_rules.proofs.KeepingMessages.{answer_no_user_part-kept, send_on-kept, send_routed-kept, on_route_test-kept, on_route_status-kept, transfer-kept}
use Rattle.exchange_rules.proofs.KeepingRelaying.{on_unitdata-kept}
use Rattle.exchange_rules.proofs.KeepingLinkTests.{on_test_answer-kept}
use Rattle.exchange_rules.proofs.KeepingChangeover.{on_changeover_order-kept, on_changeover_acknowledgement-kept, on_changeback_acknowledgement-kept}

module _ {P Q : Type 0} (p : QueueKind P) (q : QueueKind Q) (h : P → Q) (IsFit : P → Type 0) (c : Configuration) (k : IsKeeping p q h IsFit c.window) where
  do_kind-kept : (t : TestKind) (l z : ℕ) (v : LinkTestValue) (n : Node P) → IsFit n.queues → Keeps h IsFit (do_kind q c t l z v (keep h n)) (do_kind p c t l z v n)
  do_kind-kept Test l z v n f = answered _ _ _ (send_on-kept p q h IsFit c k l (test_answer c z v) n f)
  do_kind-kept Acknowledgement l z v n f = on_test_answer-kept p q h IsFit c k l z v n f

  do_test-kept : (r : Result LinkTestValue MgmtFault) (l z : ℕ) (n : Node P) → IsFit n.queues → Keeps h IsFit (do_test q c r l z (keep h n)) (do_test p c r l z n)
  do_test-kept (Err fault) l z n f = parted _ n.parts n.queues f
  do_test-kept (Ok v) l z n f = do_kind-kept v.kind l z v n f

  do_order-kept : (link : Option ℕ) (number : Option ℕ) (n : Node P) → IsFit n.queues → Keeps h IsFit (do_order q c link number (keep h n)) (do_order p c link number n)
  do_order-kept (Some l) number n f = on_changeover_order-kept p q h IsFit c k l number n f
  do_order-kept None number n f = parted _ n.parts n.queues f

  do_acknowledgement-kept : (link : Option ℕ) (number : Option ℕ) (n : Node P) → IsFit n.queues
      → Keeps h IsFit (do_acknowledgement q c link number (keep h n)) (do_acknowledgement p c link number n)
  do_acknowledgement-kept (Some l) number n f = on_changeover_acknowledgement-kept p q h IsFit c k l number n f
  do_acknowledgement-kept None number n f = parted _ n.parts n.queues f

  do_management-kept : (r : Result Management MgmtFault) (z : ℕ) (n : Node P) → IsFit n.queues → Keeps h IsFit (do_management q c r z (keep h n)) (do_management p c r z n)
  do_management-kept (Err fault) z n f = parted _ n.parts n.queues f
  do_management-kept (Ok TrafficRestartAllowed) z n f = parted _ n.parts n.queues f
  do_management-kept (Ok (ExtendedChangeoverOrder slc number)) z n f = do_order-kept (link_with_code c z slc) (Some number) n f
  do_management-kept (Ok (ExtendedChangeoverAcknowledgement slc number)) z n f = do_acknowledgement-kept (link_with_code c z slc) (Some number) n f
  do_management-kept (Ok (EmergencyChangeoverOrder slc)) z n f = do_order-kept (link_with_code c z slc) None n f
  do_management-kept (Ok (EmergencyChangeoverAcknowledgement slc)) z n f = do_acknowledgement-kept (link_with_code c z slc) None n f
  do_management-kept (Ok (ChangebackDeclaration slc code)) z n f = answered _ _ _ (send_routed-kept p q h IsFit c k (changeback_acknowledgement c z slc code) n f)
  do_management-kept (Ok (ChangebackAcknowledgement slc code)) z n f = on_changeback_acknowledgement-kept p q h IsFit c k (set_place c z) code n f
  do_management-kept (Ok (TransferProhibited about)) z n f = on_route_status-kept p q h IsFit c k Prohibited (route_about (set_place c z) (destination_place c about)) n f
  do_management-kept (Ok (TransferRestricted about)) z n f = on_route_status-kept p q h IsFit c k Restricted (route_about (set_place c z) (destination_place c about)) n f
  do_management-kept (Ok (TransferAllowed about)) z n f = on_route_status-kept p q h IsFit c k Allowed (route_about (set_place c z) (destination_place c about)) n f
  do_management-kept (Ok (RouteSetTestProhibited about)) z n f = on_route_test-kept p q h IsFit c k tests.Prohibited (route_about (set_place c z) (destination_place c about)) n f
  do_management-kept (Ok (RouteSetTestRestricted about)) z n f = on_route_test-kept p q h IsFit c k tests.Restricted (route_about (set_place c z) (destination_place c about)) n f
  do_management-kept (Ok (UserPartUnavailable about user_part cause)) z n f = parted _ n.parts n.queues f

  manage-kept : (l : ℕ) (m : Message) (n : Node P) → IsFit n.queues → Keeps h IsFit (manage q c l m (keep h n)) (manage p c l m n)
  manage-kept l m n f =
      let t : Done P = do_test p c (read_link_test m.sif) l (opc_of m) n in
      let r : Done P = do_management p c (read_management m.sif) (opc_of m) n in
      either (is_adjacent c (opc_of m)) _ _ (if nat_eq (service_indicator m) 1 then t else r) (answer (from_afar c m) n)
      (either (nat_eq (service_indicator m) 1) _ _ t r (do_test-kept (read_link_test m.sif) l (opc_of m) n f) (do_management-kept (read_management m.sif) (opc_of m) n f))
      (parted _ n.parts n.queues f)

  local-kept : (from : Option ℕ) (m : Message) (n : Node P) → IsFit n.queues → Keeps h IsFit (local q c from m (keep h n)) (local p c from m n)
  local-kept from m n f =
      let origin : Option ℕ = destination_place c (opc_of m) in
      let absent : Done P = refuse causes.NoUserPart (answer_no_user_part p c from origin m n) in
      let user : Done P = if is_user c (service_indicator m) then answer Local n else absent in
      either (nat_eq (service_indicator m) sccp) _ _ (on_unitdata p c m n) user (on_unitdata-kept p q h IsFit c k m n f)
      (either (is_user c (service_indicator m)) _ _ (answer Local n) absent (parted _ n.parts n.queues f)
      (answered _ _ _ (answer_no_user_part-kept p q h IsFit c k from origin m n f)))

  distribute-kept : (l : ℕ) (m : Message) (n : Node P) → IsFit n.queues → Keeps h IsFit (distribute q c l m (keep h n)) (distribute p c l m n)
  distribute-kept l m n f =
      either (is_management m) _ _ (manage p c l m n) (local p c (Some l) m n) (manage-kept l m n f) (local-kept (Some l) m n f)

  deliver_to-kept : (d : Discrimination) (l : ℕ) (m : Message) (n : Node P) → IsFit n.queues → Keeps h IsFit (deliver_to q c d l m (keep h n)) (deliver_to p c d l m n)
  deliver_to-kept (whither.Refused cause) l m n f = parted _ n.parts n.queues f
  deliver_to-kept (whither.Here label) l m n f = distribute-kept l m n f
  deliver_to-kept (whither.Transfer label) l m n f = transfer-kept p q h IsFit c k (Some l) m n f

  noted-kept : (l : ℕ) (t : Done Q) (s : Done P) → Keeps h IsFit t s → Keeps h IsFit (note_refusal l t) (note_refusal l s)
  noted-kept l t s e = record { same = ap (λ (d : Done Q). note_refusal l d) e.same; fit = e.fit }

  pub deliver-kept : (l : ℕ) (m : Message) (n : Node P) → IsFit n.queues → Keeps h IsFit (deliver q c l m (keep h n)) (deliver p c l m n)
  deliver-kept l m n f = noted-kept l _ (deliver_to p c (whither_goes c m) l m n) (deliver_to-kept (whither_goes c m) l m n f)

  pub submit_to-kept : (d : Discrimination) (m : Message) (n : Node P) → IsFit n.queues → Keeps h IsFit (submit_to q c d m (keep h n)) (submit_to p c d m n)
  submit_to-kept (whither.Refused cause) m n f = parted _ n.parts n.queues f
  submit_to-kept (whither.Here label) m n f =
      either (is_management m) _ _ (refuse causes.NotInProfile n) (local p c None m n) (parted _ n.parts n.queues f) (local-kept None m n f)
  submit_to-kept (whither.Transfer label) m n f =
      either (is_management m) _ _ (refuse causes.NotInProfile n) (transfer p c None m n) (parted _ n.parts n.queues f) (transfer-kept p q h IsFit c k None m n f)
