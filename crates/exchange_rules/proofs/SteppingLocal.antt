-- Messages for this point, and those that frames carry and user parts hand over: each rule is made of steps.
use Rattle.exchange_rules.proofs.Basics.{◌≡◌, ℕ, Bool, true, false, Option, Some, None, Result, Ok, Err, refl, if◌then◌else◌, ◌&&◌, not}
use Rattle.exchange_rules.proofs.Definitions.{Message, dpc_of, opc_of, service_indicator, is_management, Configuration, Cause, Outcome, Queued, Held, Local, Handled, Ignored, Refused, set_place, destination_place, MgmtFault, TestKind, Test, Acknowledgement, Management, TrafficRestartAllowed, ExtendedChangeoverOrder, ExtendedChangeoverAcknowledgement, EmergencyChangeoverOrder, EmergencyChangeoverAcknowledgement, ChangebackDeclaration, ChangebackAcknowledgement, TransferProhibited, TransferRestricted, TransferAllowed, RouteSetTestProhibited, RouteSetTestRestricted, UserPartUnavailable, LinkTestValue, read_link_test, read_management, Allowed, Restricted, Prohibited, is_outstanding, Discrimination, Node, Done, with_parts, answer, refuse, in_service, note_outcome, route_about, no_room, send, changeback_acknowledgement, freed, on_changeback_acknowledgement, sccp, is_user, is_adjacent, answer_no_user_part, from_afar, test_answer, link_with_code, local, do_order, do_acknowledgement, do_management, do_kind, do_test, distribute, transfer, on_unitdata, whither_goes, deliver_to, deliver, submit_to, submit, WholeQueues, whole, Procedure, Changeover, Code, set_of}
use Rattle.std.specs.Prelude.{nat_eq, ◌||◌, is_some}
use Rattle.signalling_types.specs.declared.cause.Cause.TheVariants as causes
use Rattle.signalling_types.specs.declared.notice.Notice.TheVariants as notices
use Rattle.signalling_types.specs.declared.notice.FailureReason.TheVariants as reasons
use Rattle.route_management.specs.declared.heard.RouteTest.TheVariants as tests
use Rattle.mtp3_codec.specs.declared.discrimination.Discrimination.TheVariants as whither
use Rattle.std.specs.Option.{option_map, option_map_or}
use Rattle.exchange_rules.specs.Conserving.{is_word}
use Rattle.exchange_rules.specs.LawsOfCauses.{Word, word_read, word_to, word_of, ended_by, ordered_by}
use Rattle.exchange_rules.specs.LawsOfMessages.{goes_here, is_heard, is_heard_here}
use Rattle.exchange_rules.specs.LawsOfUserParts.{is_lacking, lacks_part}
use Rattle.exchange_rules.proofs.Steps.{either_done-steps, Deed, LinkFails, HoldsEnd, Lacking, IsOfDeeds, TitlesChange, brings_back, SetReturns, WaitEnds}
use Rattle.exchange_rules.proofs.SteppingMessages.{answer_no_user_part-steps, send_routed-steps, on_route_test-steps, on_route_status-steps, transfer-steps}
use Rattle.exchange_rules.proofs.SteppingRelaying.{on_unitdata-steps, says_here}
use Rattle.exchange_rules.proofs.SteppingTests.{on_test_answer-steps}
use Rattle.exchange_rules.specs.LawsOfWaits.{answered_by}

-- what a word may do
pub record Allows (c : Configuration) (May : Deed → Type 0) (word : Word) : Type 0 where
  pub ends : (procedure : Procedure) → ended_by c word.point word.says ≡ Some procedure → May (HoldsEnd procedure)
  pub fails : (link : ℕ) → ordered_by c word.point word.says ≡ Some link → May (LinkFails link reasons.Changeover)
  pub answers : (link : ℕ) → answered_by c word.point word.says ≡ Some link → May (WaitEnds link)

-- what a message may do, if one came
pub record AllowsMessage (c : Configuration) (May : Deed → Type 0) (m : Option Message) : Type 0 where
  pub words : (word : Word) → word_of c m ≡ Some word → Allows c May word
  pub lacking : is_lacking c m ≡ true → May Lacking
  pub hears : option_map_or (is_heard c) m false ≡ true → May TitlesChange

module _ {c : Configuration} {Own Counts : ℕ → Type 0} {May : Deed → Type 0} {R : Node WholeQueues → Node WholeQueues → Type 0} (s : IsOfDeeds c Own Counts May R) where
  -- by whether it is for SCCP, and for a user part here
  part-steps : (is_sccp user : Bool) (from : Option ℕ) (m : Message) (n : Node WholeQueues)
      → (is_some from ≡ true → not (is_sccp || user) ≡ true → May Lacking) → ((is_sccp && says_here c m) ≡ true → May TitlesChange)
      → R n (if is_sccp then on_unitdata whole c m n else if user then answer Local n else refuse causes.NoUserPart (answer_no_user_part whole c from (destination_place c (opc_of m)) m n)).left
  part-steps true user from m n may hears = on_unitdata-steps s m n hears
  part-steps false true from m n may hears = s.sends.none n
  part-steps false false from m n may hears = answer_no_user_part-steps s from (destination_place c (opc_of m)) m n (λ e. may e refl)

  local-steps : (from : Option ℕ) (m : Message) (n : Node WholeQueues)
      → (is_some from ≡ true → not (nat_eq (service_indicator m) sccp || is_user c (service_indicator m)) ≡ true → May Lacking)
      → (is_heard_here c m ≡ true → May TitlesChange) → R n (local whole c from m n).left
  local-steps from m n may hears = part-steps (nat_eq (service_indicator m) sccp) (is_user c (service_indicator m)) from m n may hears

  -- ---- tests of a link

  send_answer-steps : (room : Option Cause) (link point : ℕ) (test : LinkTestValue) (n : Node WholeQueues) → in_service n.parts link ≡ true → is_adjacent c point ≡ true
      → R n (send whole c room (Some link) (test_answer c point test) n)
  send_answer-steps (Some cause) link point test n e f = s.sends.lost (notices.Unsent cause (dpc_of (test_answer c point test))) n refl
  send_answer-steps None link point test n e f = s.tested link point test n e f

  do_kind-steps : (kind : TestKind) (link point : ℕ) (test : LinkTestValue) (n : Node WholeQueues) → (brings_back c link n.parts ≡ true → May (SetReturns (set_of c link))) → in_service n.parts link ≡ true → is_adjacent c point ≡ true
      → R n (do_kind whole c kind link point test n).left
  do_kind-steps Test link point test n back e f = send_answer-steps (no_room whole c (test_answer c point test) n.queues) link point test n e f
  do_kind-steps Acknowledgement link point test n back e f = on_test_answer-steps s link point test n back e

  do_test-steps : (r : Result LinkTestValue MgmtFault) (link point : ℕ) (n : Node WholeQueues) → (brings_back c link n.parts ≡ true → May (SetReturns (set_of c link))) → in_service n.parts link ≡ true → is_adjacent c point ≡ true
      → R n (do_test whole c r link point n).left
  do_test-steps (Err fault) link point n back e f = s.sends.none n
  do_test-steps (Ok test) link point n back e f = do_kind-steps test.kind link point test n back e f

  -- ---- management

  do_order-steps : (link number : Option ℕ) (n : Node WholeQueues) → ((its : ℕ) → link ≡ Some its → May (LinkFails its reasons.Changeover))
      → ((procedure : Procedure) → option_map Changeover link ≡ Some procedure → May (HoldsEnd procedure)) → R n (do_order whole c link number n).left
  do_order-steps (Some link) number n fails ends = s.orders link number n (fails link refl) (ends (Changeover link) refl)
  do_order-steps None number n fails ends = s.sends.none n

  do_acknowledgement-steps : (link number : Option ℕ) (n : Node WholeQueues) → ((procedure : Procedure) → option_map Changeover link ≡ Some procedure → May (HoldsEnd procedure))
      → ((its : ℕ) → link ≡ Some its → May (WaitEnds its)) → R n (do_acknowledgement whole c link number n).left
  do_acknowledgement-steps (Some link) number n ends waits = s.acknowledges link number n (ends (Changeover link) refl) (waits link refl)
  do_acknowledgement-steps None number n ends waits = s.sends.none n

  on_changeback_acknowledgement-steps : (set : Option ℕ) (code : ℕ) (n : Node WholeQueues)
      → ((procedure : Procedure) → option_map (λ (its : ℕ). Code its code) set ≡ Some procedure → May (HoldsEnd procedure)) → R n (on_changeback_acknowledgement whole c set code n).left
  on_changeback_acknowledgement-steps (Some set) code n ends =
      either_done-steps s.sends (is_outstanding n.parts.codes set code) n (answer Handled (with_parts n (freed set code n.parts))) (answer Ignored n)
      (s.frees set code n (ends (Code set code) refl)) (s.sends.none n)
  on_changeback_acknowledgement-steps None code n ends = s.sends.none n

  do_management-steps : (r : Result Management MgmtFault) (point : ℕ) (n : Node WholeQueues) → ((word : Word) → word_read point r ≡ Some word → Allows c May word)
      → R n (do_management whole c r point n).left
  do_management-steps (Err fault) point n may = s.sends.none n
  do_management-steps (Ok TrafficRestartAllowed) point n may = s.sends.none n
  do_management-steps (Ok (ExtendedChangeoverOrder slc number)) point n may =
      let may_it : Allows c May (record { point = point; says = ExtendedChangeoverOrder slc number }) = may _ refl in
      do_order-steps (link_with_code c point slc) (Some number) n may_it.fails may_it.ends
  do_management-steps (Ok (ExtendedChangeoverAcknowledgement slc number)) point n may =
      let may_it : Allows c May (record { point = point; says = ExtendedChangeoverAcknowledgement slc number }) = may _ refl in
      do_acknowledgement-steps (link_with_code c point slc) (Some number) n may_it.ends may_it.answers
  do_management-steps (Ok (EmergencyChangeoverOrder slc)) point n may =
      let may_it : Allows c May (record { point = point; says = EmergencyChangeoverOrder slc }) = may _ refl in
      do_order-steps (link_with_code c point slc) None n may_it.fails may_it.ends
  do_management-steps (Ok (EmergencyChangeoverAcknowledgement slc)) point n may =
      let may_it : Allows c May (record { point = point; says = EmergencyChangeoverAcknowledgement slc }) = may _ refl in
      do_acknowledgement-steps (link_with_code c point slc) None n may_it.ends may_it.answers
  do_management-steps (Ok (ChangebackDeclaration slc code)) point n may = send_routed-steps s.sends (changeback_acknowledgement c point slc code) n
  do_management-steps (Ok (ChangebackAcknowledgement slc code)) point n may =
      on_changeback_acknowledgement-steps (set_place c point) code n (may (record { point = point; says = ChangebackAcknowledgement slc code }) refl).ends
  do_management-steps (Ok (TransferProhibited about)) point n may = on_route_status-steps s Prohibited (route_about (set_place c point) (destination_place c about)) n
  do_management-steps (Ok (TransferRestricted about)) point n may = on_route_status-steps s Restricted (route_about (set_place c point) (destination_place c about)) n
  do_management-steps (Ok (TransferAllowed about)) point n may = on_route_status-steps s Allowed (route_about (set_place c point) (destination_place c about)) n
  do_management-steps (Ok (RouteSetTestProhibited about)) point n may = on_route_test-steps s tests.Prohibited (route_about (set_place c point) (destination_place c about)) n
  do_management-steps (Ok (RouteSetTestRestricted about)) point n may = on_route_test-steps s tests.Restricted (route_about (set_place c point) (destination_place c about)) n
  do_management-steps (Ok (UserPartUnavailable about user_part cause)) point n may = s.sends.none n

  -- by whether it is management, whether it is from an adjacent point, and whether it is a test
  here-steps : (managed adjacent test : Bool) (link : ℕ) (m : Message) (n : Node WholeQueues) → (brings_back c link n.parts ≡ true → May (SetReturns (set_of c link))) → in_service n.parts link ≡ true → is_adjacent c (opc_of m) ≡ adjacent
      → ((word : Word) → (if managed && (adjacent && not test) then word_read (opc_of m) (read_management m.sif) else None) ≡ Some word → Allows c May word)
      → (not managed && not (nat_eq (service_indicator m) sccp || is_user c (service_indicator m)) ≡ true → May Lacking) → (is_heard_here c m ≡ true → May TitlesChange)
      → R n (if managed then (if adjacent then (if test then do_test whole c (read_link_test m.sif) link (opc_of m) n
      else do_management whole c (read_management m.sif) (opc_of m) n) else answer (from_afar c m) n) else local whole c (Some link) m n).left
  here-steps true true true link m n back e f may lacking hears = do_test-steps (read_link_test m.sif) link (opc_of m) n back e f
  here-steps true true false link m n back e f may lacking hears = do_management-steps (read_management m.sif) (opc_of m) n may
  here-steps true false test link m n back e f may lacking hears = s.sends.none n
  here-steps false adjacent test link m n back e f may lacking hears = local-steps (Some link) m n (λ from g. lacking g) hears

  distribute-steps : (link : ℕ) (m : Message) (n : Node WholeQueues) → (brings_back c link n.parts ≡ true → May (SetReturns (set_of c link))) → in_service n.parts link ≡ true
      → ((word : Word) → (if is_word c m then word_read (opc_of m) (read_management m.sif) else None) ≡ Some word → Allows c May word)
      → (lacks_part c m ≡ true → May Lacking) → (is_heard_here c m ≡ true → May TitlesChange)
      → R n (distribute whole c link m n).left
  distribute-steps link m n back e may lacking hears = here-steps (is_management m) (is_adjacent c (opc_of m)) (nat_eq (service_indicator m) 1) link m n back e refl may lacking hears

  -- ---- messages in frames, and those that are handed over

  deliver_to-steps : (d : Discrimination) (link : ℕ) (m : Message) (n : Node WholeQueues) → (brings_back c link n.parts ≡ true → May (SetReturns (set_of c link))) → in_service n.parts link ≡ true → ((word : Word) → word_to d c m ≡ Some word → Allows c May word)
      → (goes_here d && lacks_part c m ≡ true → May Lacking) → ((goes_here d && is_heard_here c m) ≡ true → May TitlesChange) → R n (deliver_to whole c d link m n).left
  deliver_to-steps (whither.Refused cause) link m n back e may lacking hears = s.sends.none n
  deliver_to-steps (whither.Here label) link m n back e may lacking hears = distribute-steps link m n back e may lacking hears
  deliver_to-steps (whither.Transfer label) link m n back e may lacking hears = transfer-steps s (Some link) m n

  note_outcome-steps : (link : ℕ) (outcome : Outcome) (n : Node WholeQueues) → R n (with_parts n (note_outcome link outcome n.parts))
  note_outcome-steps link (Refused cause) n = s.sends.noted (notices.Refused cause link) n (record { other = refl; lost = λ f. absurd cc; late = λ f. absurd cc })
  note_outcome-steps link (Queued other) n = s.sends.none n
  note_outcome-steps link Held n = s.sends.none n
  note_outcome-steps link Local n = s.sends.none n
  note_outcome-steps link Handled n = s.sends.none n
  note_outcome-steps link Ignored n = s.sends.none n

  pub deliver-steps : (link : ℕ) (m : Message) (n : Node WholeQueues) → (brings_back c link n.parts ≡ true → May (SetReturns (set_of c link))) → in_service n.parts link ≡ true → AllowsMessage c May (Some m)
      → R n (deliver whole c link m n).left
  deliver-steps link m n back e may =
      let d : Done WholeQueues = deliver_to whole c (whither_goes c m) link m n in
      s.sends.both _ _ _ (deliver_to-steps (whither_goes c m) link m n back e may.words may.lacking may.hears) (note_outcome-steps link d.outcome d.left)

  submit_to-steps : (d : Discrimination) (m : Message) (n : Node WholeQueues) → ((goes_here d && is_heard_here c m) ≡ true → May TitlesChange) → R n (submit_to whole c d m n).left
  submit_to-steps (whither.Refused cause) m n hears = s.sends.none n
  submit_to-steps (whither.Here label) m n hears =
      either_done-steps s.sends (is_management m) n (refuse causes.NotInProfile n) (local whole c None m n) (s.sends.none n) (local-steps None m n (λ from f. absurd cc) hears)
  submit_to-steps (whither.Transfer label) m n hears =
      either_done-steps s.sends (is_management m) n (refuse causes.NotInProfile n) (transfer whole c None m n) (s.sends.none n) (transfer-steps s None m n)

  pub submit-steps : (m : Message) (n : Node WholeQueues) → (is_heard c m ≡ true → May TitlesChange) → R n (submit whole c m n).left
  submit-steps m n hears = submit_to-steps (whither_goes c m) m n hears
