-- So it is with tests, submissions, links that fail, the operator's word, and what goes on at the end of an event.
use Rattle.exchange_rules.proofs.Basics.{◌≡◌, ℕ, zero, suc, length, Bool, true, false, List, [], ◌∷◌, Option, Some, None, Result, Ok, Err, refl, sym, subst, if◌then◌else◌, list_all}
use Rattle.exchange_rules.proofs.Definitions.{Message, is_management, flow_of, Configuration, TitleEntry, Cause, NoSuchName, MgmtFault, LinkTestValue, TestKind, Test, Acknowledgement, TitleKey, Discrimination, FailureReason, Node, Done, with_parts, answer, refuse, WholeQueues, whole, test_answer, link_of, no_room, waits, is_link, link_at, down}
use Rattle.exchange_rules.proofs.Definitions.{send_on, transfer, tell_owed, add_title_unless, remove_title, place_of, has_row, without_row, with_rows}
use Rattle.exchange_rules.proofs.Definitions.{local, do_kind, do_test, submit_to, fail, freed, is_outstanding, on_changeback_acknowledgement}
use Rattle.exchange_rules.proofs.Definitions.{leave_aside, fail_if_up, end_association, association_down, set_active, activate, deactivate}
use Rattle.exchange_rules.proofs.Definitions.{go_on, go_by, go, go_each, release}
use Rattle.exchange_rules.proofs.Definitions.{passes_test, pass_test}
use Rattle.exchange_rules.proofs.Settling.{left-true, right-true}
use Rattle.mtp3_codec.specs.declared.discrimination.Discrimination.TheVariants as whither
use Rattle.signalling_types.specs.declared.cause.Cause.TheVariants as causes
use Rattle.signalling_types.specs.declared.notice.FailureReason.TheVariants as reasons
use Rattle.signalling_types.specs.declared.notice.FrameFault.{FrameFault}
use Rattle.signalling_types.specs.declared.notice.FrameFault.TheVariants as faults
use Rattle.signalling_types.specs.declared.outcome.Outcome.{Outcome}
use Rattle.signalling_types.specs.declared.outcome.Outcome.TheVariants.{Queued, Held, Local, Handled, Ignored, Refused}
use Rattle.changeover.specs.Changeover.{is_barred}
use Rattle.mtp3_codec.specs.declared.management.Management.TheVariants.{ExtendedChangeoverOrder}
use Rattle.exchange_rules.specs.ChangingOver.{asking, changeover_of, changeover_order, is_late, order_all, order_late, unbarred}
unfoldable use Rattle.exchange_rules.specs.ChangingOver.{order_each}
use Rattle.exchange_rules.specs.Exchange.{late_by}
use Rattle.exchange_rules.specs.Opening.{release_bar}
use Rattle.exchange_rules.specs.Routing.{entry_of, peer_of, set_of}
use Rattle.network_rules.proofs.Passing.{IsFine, IsPassing, AllFine, either, either_done, stays, routed, send-keeps, tell_owed-keeps, transfer-keeps, local-keeps, fail-keeps, pass_test-keeps}

module _ (c : Configuration) (fine : Message → Bool) (f : IsFine c fine) {R : Node WholeQueues → Node WholeQueues → Type 0} (r : IsPassing c fine R) where
  send_on-keeps : (link : ℕ) (m : Message) (n : Node WholeQueues) → fine m ≡ true → R n (send_on whole c link m n)
  send_on-keeps link m n e = send-keeps c fine f r (no_room whole c m n.queues) (Some link) m n e

  kind-keeps : (kind : TestKind) (link point : ℕ) (test : LinkTestValue) (n : Node WholeQueues) → R n (do_kind whole c kind link point test n).left
  kind-keeps Test link point test n = send_on-keeps link (test_answer c point test) n (f.tested point test)
  kind-keeps Acknowledgement link point test n =
      either_done c fine f r (passes_test c link point test n.parts) n (answer Handled (pass_test whole c link n)) (answer Ignored n) (pass_test-keeps c fine f r link n) (stays c fine f r n)

  pub do_test-keeps : (test : Result LinkTestValue MgmtFault) (link point : ℕ) (n : Node WholeQueues) → R n (do_test whole c test link point n).left
  do_test-keeps (Err fault) link point n = stays c fine f r n
  do_test-keeps (Ok test) link point n = kind-keeps test.kind link point test n

  pub confirmed-keeps : (set : Option ℕ) (code : ℕ) (n : Node WholeQueues) → R n (on_changeback_acknowledgement whole c set code n).left
  confirmed-keeps (Some set) code n =
      either_done c fine f r (is_outstanding n.parts.codes set code) n (answer Handled (with_parts n (freed set code n.parts))) (answer Ignored n) (r.same n _ refl) (stays c fine f r n)
  confirmed-keeps None code n = stays c fine f r n

  -- ---- a message that is handed over is no management

  submitted-keeps : (b : Bool) (d e : Done WholeQueues) (m : Message) (n : Node WholeQueues) → is_management m ≡ b → R n d.left → (is_management m ≡ false → R n e.left) → R n (if b then d else e).left
  submitted-keeps true d e m n i g k = g
  submitted-keeps false d e m n i g k = k i

  pub submit_to-keeps : (d : Discrimination) (m : Message) (n : Node WholeQueues) → R n (submit_to whole c d m n).left
  submit_to-keeps (whither.Refused cause) m n = stays c fine f r n
  submit_to-keeps (whither.Here label) m n = submitted-keeps (is_management m) (refuse causes.NotInProfile n) (local whole c None m n) m n refl (stays c fine f r n) (local-keeps c fine f r None m n)
  submit_to-keeps (whither.Transfer label) m n =
      submitted-keeps (is_management m) (refuse causes.NotInProfile n) (transfer whole c None m n) m n refl (stays c fine f r n) (λ e. transfer-keeps c fine f r None m n (f.users m e))

  pub aside-keeps : (link : ℕ) (fault : FrameFault) (n : Node WholeQueues) → R n (leave_aside whole c link fault n).left
  aside-keeps link faults.Length n = fail-keeps c fine f r link reasons.Length n
  aside-keeps link faults.Short n = r.same n _ refl
  aside-keeps link faults.Version n = r.same n _ refl
  aside-keeps link faults.Unknown n = r.same n _ refl

  if_up-keeps : (link : ℕ) (why : FailureReason) (n : Node WholeQueues) → R n (fail_if_up whole c link why n)
  if_up-keeps link why n = either c fine f r (down n.parts link) n n (fail whole c link why n) (stays c fine f r n) (fail-keeps c fine f r link why n)

  pub down-keeps : (link : ℕ) (n : Node WholeQueues) → R n (association_down whole c link n).left
  down-keeps link n =
      let fell : Node WholeQueues = fail_if_up whole c link reasons.Association n in
      let gone : Done WholeQueues = answer Handled (end_association whole c link fell) in
      either_done c fine f r (is_link n.parts link) n (if (link_at n.parts link).association then gone else answer Ignored n) (refuse causes.NoSuchName n)
      (either_done c fine f r (link_at n.parts link).association n gone (answer Ignored n)
      (r.both n fell _ (if_up-keeps link reasons.Association n) (r.same fell _ refl)) (stays c fine f r n))
      (stays c fine f r n)

  pub activate-keeps : (emergency : Bool) (link : ℕ) (n : Node WholeQueues) → R n (activate whole c emergency link n).left
  activate-keeps emergency link n = either_done c fine f r (is_link n.parts link) n (answer Handled (set_active whole c true emergency link n)) (refuse causes.NoSuchName n) (r.same n _ refl) (stays c fine f r n)

  pub deactivate-keeps : (link : ℕ) (n : Node WholeQueues) → R n (deactivate whole c link n).left
  deactivate-keeps link n =
      let fell : Node WholeQueues = fail_if_up whole c link reasons.Operator n in
      either_done c fine f r (is_link n.parts link) n (answer Handled (set_active whole c false false link fell)) (refuse causes.NoSuchName n)
      (r.both n fell _ (if_up-keeps link reasons.Operator n) (r.same fell _ refl)) (stays c fine f r n)

  pub release_bar-keeps : (link : ℕ) (n : Node WholeQueues) → R n (release_bar whole c link n).left
  release_bar-keeps link n =
      let freed : Done WholeQueues = answer Handled (with_parts n (unbarred link n.parts)) in
      either_done c fine f r (is_link n.parts link) n (if is_barred (changeover_of n.parts link) then freed else answer Ignored n) (refuse causes.NoSuchName n)
      (either_done c fine f r (is_barred (changeover_of n.parts link)) n freed (answer Ignored n) (r.same n _ refl) (stays c fine f r n)) (stays c fine f r n)

  -- ---- orders that go out late

  order_late-keeps : (link : ℕ) (n : Node WholeQueues) → R n (order_late whole c link n)
  order_late-keeps link n =
      let asked : Node WholeQueues = with_parts n (asking c link n.parts) in
      let number : ℕ = whole.last_accepted n.queues link in
      r.both n asked _ (r.same n asked refl)
      (routed c fine f r (changeover_order c link number) asked (f.made (peer_of c link) (ExtendedChangeoverOrder (entry_of c link).slc number) (f.adjacent (set_of c link))))

  order_each-keeps : (count : ℕ) (n : Node WholeQueues) → R n (order_each whole c count n)
  unfolding order_each
  order_each-keeps zero n = stays c fine f r n
  order_each-keeps (suc link) n =
      let former : Node WholeQueues = order_each whole c link n in
      r.both n former _ (order_each-keeps link n)
      (either c fine f r (is_late c link former.parts) former (order_late whole c link former) former (order_late-keeps link former) (stays c fine f r former))

  order_all-keeps : (n : Node WholeQueues) → R n (order_all whole c n)
  order_all-keeps n = either c fine f r c.changeover_by_any_route n (order_each whole c (length c.links) n) n (order_each-keeps (length c.links) n) (stays c fine f r n)

  pub late_by-keeps : (o : Outcome) (n : Node WholeQueues) → R n (late_by whole c o n)
  late_by-keeps (Refused cause) n = stays c fine f r n
  late_by-keeps (Queued link) n = order_all-keeps n
  late_by-keeps Held n = order_all-keeps n
  late_by-keeps Local n = order_all-keeps n
  late_by-keeps Handled n = order_all-keeps n
  late_by-keeps Ignored n = order_all-keeps n

  pub added-keeps : (refusal : Option Cause) (row : TitleEntry) (n : Node WholeQueues) → R n (add_title_unless refusal row n).left
  added-keeps (Some cause) row n = stays c fine f r n
  added-keeps None row n = r.same n _ refl

  pub removed-keeps : (key : TitleKey) (digits : List ℕ) (n : Node WholeQueues) → R n (remove_title key digits n).left
  removed-keeps key digits n =
      either_done c fine f r (has_row n.parts.titles.rows (place_of key digits)) n
      (answer Handled (with_parts n (with_rows (without_row (place_of key digits) n.parts.titles.rows) n.parts))) (refuse causes.NoSuchName n) (r.same n _ refl) (stays c fine f r n)

  go-keeps : (waiting : Bool) (link : Option ℕ) (m : Message) (n : Node WholeQueues) → link_of c n.parts (flow_of m) ≡ link → fine m ≡ true → R n (go_by whole c waiting m n)
  go-keeps true link m n e g = r.held m n g
  go-keeps false (Some link) m n e g = subst (λ (o : Option ℕ). R n (go_on whole c o m n)) (sym e) (r.queued link m n g)
  go-keeps false None m n e g = subst (λ (o : Option ℕ). R n (go_on whole c o m n)) (sym e) (r.same n _ refl)

  pub go_each-keeps : (ms : List Message) (n : Node WholeQueues) → AllFine fine ms → R n (go_each whole c ms n)
  go_each-keeps [] n e = stays c fine f r n
  go_each-keeps (m ∷ ms) n e =
      r.both n (go whole c m n) _ (go-keeps (waits c n.parts.holds m) (link_of c n.parts (flow_of m)) m n refl (left-true (fine m) (list_all fine ms) e))
      (go_each-keeps ms (go whole c m n) (right-true (fine m) (list_all fine ms) e))

  pub settles : (n : Node WholeQueues) → R n (release whole c n) → R n (tell_owed whole c (release whole c n))
  settles n e = r.both n (release whole c n) _ e (tell_owed-keeps c fine f r (release whole c n))
