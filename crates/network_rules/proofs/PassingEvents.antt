-- So it is with every event, and with every frame that goes out.
use Rattle.exchange_rules.proofs.Basics.{◌<◌, ◌^◌, ◌≡◌, ℕ, zero, suc, Bool, true, false, List, Option, Some, None, Result, Ok, Err, refl, ap, ◌∙◌, if◌then◌else◌, nat_eq, list_all}
use Rattle.exchange_rules.proofs.Definitions.{Message, is_management, opc_of, service_indicator, Configuration, NoSuchName, Management, TrafficRestartAllowed, ExtendedChangeoverOrder, ExtendedChangeoverAcknowledgement, EmergencyChangeoverOrder, EmergencyChangeoverAcknowledgement, ChangebackDeclaration, ChangebackAcknowledgement, TransferProhibited, TransferRestricted, TransferAllowed, RouteSetTestProhibited, RouteSetTestRestricted, MgmtFault, Discrimination, UserData, Allowed, Restricted, Prohibited, Node, Done, answer, refuse, WholeQueues, queue_at, whole, Queue, first_queue, accept_answer, to_send, SeqFault, carries, destination_place, set_place, is_link, link_at, down, route_about, from_afar, UserPartUnavailable}
use Rattle.exchange_rules.proofs.Definitions.{tell_owed, title_refusal, title_set_refusal}
use Rattle.exchange_rules.proofs.Definitions.{is_adjacent, local, do_test, do_order, do_acknowledgement, do_management, link_with_code, manage, deliver_to, deliver, whither_goes, changeback_acknowledgement, changeover_of}
use Rattle.exchange_rules.proofs.Definitions.{advance, acts_on, Carrying, empty_data, message_data, numbers, accept, carry, handle_by, act_by_data, receive_frame, read, receive, FrameValue, EmptyFrame, MessageFrame, StatusFrame, read_frame, carried_message, may_open, open_link, may_restart, association_up}
use Rattle.exchange_rules.proofs.Definitions.{release, with_timers, run_timer, run_due, run_times, tick, handle_event, apply, Happening, CameUp, WentDown, FrameCame, Ticked, Submitted, Activated, Deactivated, Released, TitleAdded, TitleSet, TitleRemoved, after_sending, after_take, Outgoing, SendsStatus, SendsMessage, Acknowledges, SendsNothing, goes_out}
use Rattle.exchange_rules.proofs.LastingMessages.{accepted-all, sent-all}
use Rattle.link.specs.Queue as queue
use Rattle.link.specs.declared.action.Action.{Action}
use Rattle.link.specs.declared.action.Action.TheVariants as act
use Rattle.mtp3_codec.specs.declared.discrimination.Discrimination.TheVariants as whither
use Rattle.signalling_types.specs.declared.cause.Cause.TheVariants as causes
use Rattle.signalling_types.specs.declared.notice.FailureReason.TheVariants as reasons
use Rattle.signalling_types.specs.declared.notice.FrameFault.{FrameFault}
use Rattle.signalling_types.specs.declared.outcome.Outcome.TheVariants.{Handled, Ignored}
use Rattle.timers.specs.declared.name.TimerName.{TimerName}
use Rattle.timers.specs.declared.name.TimerName.TheVariants as name
use Rattle.timers.specs.Timers.{ticked, due_name, due_count, after_due}
use Rattle.mtp3_codec.specs.Management.{read_link_test, read_management}
use Rattle.route_management.specs.declared.heard.RouteTest.TheVariants as tests
use Rattle.link.specs.declared.action.LinkTimer.TheVariants as its
use Rattle.signalling_types.specs.declared.notice.ChangeoverTimer.TheVariants as changeover
use Rattle.network_rules.proofs.Passing.{begin_test-keeps, test_unanswered-keeps, IsFine, IsPassing, opc-fits, either_done, stays, routed, test-keeps, status-keeps, ask-keeps, transfer-keeps, local-keeps, fail-keeps, advance-keeps, run_out-keeps, link_status-keeps}
use Rattle.network_rules.proofs.PassingLinks.{do_test-keeps, confirmed-keeps, submit_to-keeps, aside-keeps, down-keeps, activate-keeps, deactivate-keeps, release_bar-keeps, late_by-keeps, added-keeps, removed-keeps, go_each-keeps, settles}
use Rattle.network_rules.proofs.Fine.{Keeps, keeping, same, and-then, queue-keeps, order-keeps, acknowledged-keeps, expired-keeps}

module _ (c : Configuration) (fine : Message → Bool) (f : IsFine c fine) where
  abbrev K : (n m : Node WholeQueues) → Type 0
  K n m = Keeps c fine f n m

  r : IsPassing c fine K
  r = keeping c fine f

  stay : (n : Node WholeQueues) → K n n
  stay n = stays c fine f r n

  to : (n m : Node WholeQueues) → m.queues ≡ n.queues → K n m
  to n m e = same c fine f n m e

  -- ---- messages for this point

  do_order-keeps : (link number : Option ℕ) (n : Node WholeQueues) → K n (do_order whole c link number n).left
  do_order-keeps (Some link) number n = order-keeps c fine f link number n
  do_order-keeps None number n = stay n

  do_answer-keeps : (link number : Option ℕ) (n : Node WholeQueues) → K n (do_acknowledgement whole c link number n).left
  do_answer-keeps (Some link) number n = acknowledged-keeps c fine f link number n
  do_answer-keeps None number n = stay n

  management-keeps : (r : Result Management MgmtFault) (point : ℕ) (n : Node WholeQueues) → point < 2 ^ 14 → K n (do_management whole c r point n).left
  management-keeps (Err fault) point n fits = stay n
  management-keeps (Ok TrafficRestartAllowed) point n fits = stay n
  management-keeps (Ok (ExtendedChangeoverOrder slc number)) point n fits = do_order-keeps (link_with_code c point slc) (Some number) n
  management-keeps (Ok (ExtendedChangeoverAcknowledgement slc number)) point n fits = do_answer-keeps (link_with_code c point slc) (Some number) n
  management-keeps (Ok (EmergencyChangeoverOrder slc)) point n fits = do_order-keeps (link_with_code c point slc) None n
  management-keeps (Ok (EmergencyChangeoverAcknowledgement slc)) point n fits = do_answer-keeps (link_with_code c point slc) None n
  management-keeps (Ok (ChangebackDeclaration slc code)) point n fits = routed c fine f r (changeback_acknowledgement c point slc code) n (f.made point (ChangebackAcknowledgement slc code) fits)
  management-keeps (Ok (ChangebackAcknowledgement slc code)) point n fits = confirmed-keeps c fine f r (set_place c point) code n
  management-keeps (Ok (TransferProhibited about)) point n fits = status-keeps c fine f r Prohibited (route_about (set_place c point) (destination_place c about)) n
  management-keeps (Ok (TransferRestricted about)) point n fits = status-keeps c fine f r Restricted (route_about (set_place c point) (destination_place c about)) n
  management-keeps (Ok (TransferAllowed about)) point n fits = status-keeps c fine f r Allowed (route_about (set_place c point) (destination_place c about)) n
  management-keeps (Ok (RouteSetTestProhibited about)) point n fits = test-keeps c fine f r tests.Prohibited (route_about (set_place c point) (destination_place c about)) n
  management-keeps (Ok (RouteSetTestRestricted about)) point n fits = test-keeps c fine f r tests.Restricted (route_about (set_place c point) (destination_place c about)) n
  management-keeps (Ok (UserPartUnavailable about user_part cause)) point n fits = stay n

  manage-keeps : (link : ℕ) (m : Message) (n : Node WholeQueues) → K n (manage whole c link m n).left
  manage-keeps link m n =
      either_done c fine f r (is_adjacent c (opc_of m)) n
      (if nat_eq (service_indicator m) 1 then do_test whole c (read_link_test m.sif) link (opc_of m) n else do_management whole c (read_management m.sif) (opc_of m) n) (answer (from_afar c m) n)
      (either_done c fine f r (nat_eq (service_indicator m) 1) n (do_test whole c (read_link_test m.sif) link (opc_of m) n) (do_management whole c (read_management m.sif) (opc_of m) n)
      (do_test-keeps c fine f r (read_link_test m.sif) link (opc_of m) n) (management-keeps (read_management m.sif) (opc_of m) n (opc-fits m)))
      (stay n)

  distribute-keeps : (b : Bool) (link : ℕ) (m : Message) (n : Node WholeQueues) → is_management m ≡ b → K n (if b then manage whole c link m n else local whole c (Some link) m n).left
  distribute-keeps true link m n e = manage-keeps link m n
  distribute-keeps false link m n e = local-keeps c fine f r (Some link) m n e

  deliver_to-keeps : (d : Discrimination) (link : ℕ) (m : Message) (n : Node WholeQueues) → fine m ≡ true → K n (deliver_to whole c d link m n).left
  deliver_to-keeps (whither.Refused cause) link m n e = stay n
  deliver_to-keeps (whither.Here label) link m n e = distribute-keeps (is_management m) link m n refl
  deliver_to-keeps (whither.Transfer label) link m n e = transfer-keeps c fine f r (Some link) m n e

  deliver-keeps : (link : ℕ) (m : Message) (n : Node WholeQueues) → fine m ≡ true → K n (deliver whole c link m n).left
  deliver-keeps link m n e =
      let d : Done WholeQueues = deliver_to whole c (whither_goes c m) link m n in
      and-then c fine f n d.left _ (deliver_to-keeps (whither_goes c m) link m n e) (to d.left _ refl)

  -- ---- a frame

  abbrev pub IsFineOf : Option Message → Type 0
  IsFineOf o = (m : Message) → o ≡ Some m → fine m ≡ true

  carry-keeps : (link : ℕ) (o : Option Message) (n : Node WholeQueues) → IsFineOf o → K n (carry whole c link o n).left
  carry-keeps link None n e = stay n
  carry-keeps link (Some m) n e = deliver-keeps link m n (e m refl)

  handle-keeps : (answer : Result ℕ SeqFault) (link : ℕ) (d : Carrying) (n : Node WholeQueues) → IsFineOf d.message → K n (handle_by whole c answer link d n).left
  handle-keeps (Ok confirmed) link d n e =
      let q : Queue = queue_at n.queues link in
      let next : Node WholeQueues = accept whole c link d confirmed n in
      and-then c fine f n next _
      (queue-keeps c fine f n next n.queues.held link (queue.accepted q d.fsn d.bsn (carries d)) refl (λ h. h.held)
      (λ h. ap (list_all fine) (accepted-all q (carries d) (accept_answer q d.fsn d.bsn (carries d))) ∙ h.links link))
      (carry-keeps link d.message next e)
  handle-keeps (Err fault) link d n e = fail-keeps c fine f r link reasons.Sequence n

  by_data-keeps : (a : Action) (link : ℕ) (d : Carrying) (n : Node WholeQueues) → IsFineOf d.message → K n (act_by_data whole c a link d n).left
  by_data-keeps act.Ignored link d n e = stay n
  by_data-keeps act.Fail link d n e = fail-keeps c fine f r link reasons.Sequence n
  by_data-keeps (act.Go step) link d n e =
      let next : Node WholeQueues = advance whole c link step n in
      and-then c fine f n next _ (advance-keeps c fine f r link step n) (handle-keeps (numbers whole c link d next) link d next e)

  frame-keeps : (link : ℕ) (frame : FrameValue) (n : Node WholeQueues) → IsFineOf (carried_message (Ok frame)) → K n (receive_frame whole c link frame n).left
  frame-keeps link (EmptyFrame bsn fsn) n e = by_data-keeps (acts_on (link_at n.parts link) UserData) link (empty_data bsn fsn) n e
  frame-keeps link (MessageFrame bsn fsn sio sif) n e = by_data-keeps (acts_on (link_at n.parts link) UserData) link (message_data bsn fsn sio sif) n e
  frame-keeps link (StatusFrame bsn fsn status) n e = link_status-keeps c fine f r link status n

  read-keeps : (link : ℕ) (r : Result FrameValue FrameFault) (n : Node WholeQueues) → IsFineOf (carried_message r) → K n (read whole c link r n).left
  read-keeps link (Ok frame) n e = frame-keeps link frame n e
  read-keeps link (Err fault) n e = aside-keeps c fine f r link fault n

  receive-keeps : (link : ℕ) (text : List ℕ) (n : Node WholeQueues) → IsFineOf (carried_message (read_frame text)) → K n (receive whole c link text n).left
  receive-keeps link text n e =
      either_done c fine f r (is_link n.parts link) n (if down n.parts link then answer Ignored n else read whole c link (read_frame text) n) (refuse causes.NoSuchName n)
      (either_done c fine f r (down n.parts link) n (answer Ignored n) (read whole c link (read_frame text) n) (stay n) (read-keeps link (read_frame text) n e))
      (stay n)

  -- ---- associations, and the operator's word

  up-keeps : (link : ℕ) (n : Node WholeQueues) → K n (association_up whole c link n).left
  up-keeps link n =
      let opened : Done WholeQueues = answer Handled (open_link whole c link n) in
      let restarted : Done WholeQueues = if may_restart (changeover_of n.parts link) then opened else refuse causes.ChangeoverPending n in
      either_done c fine f r (is_link n.parts link) n (if may_open (link_at n.parts link) then restarted else refuse causes.LinkNotReady n) (refuse causes.NoSuchName n)
      (either_done c fine f r (may_open (link_at n.parts link)) n restarted (refuse causes.LinkNotReady n)
      (either_done c fine f r (may_restart (changeover_of n.parts link)) n opened (refuse causes.ChangeoverPending n)
      (queue-keeps c fine f n _ n.queues.held link first_queue refl (λ h. h.held) (λ h. refl)) (stay n))
      (stay n))
      (stay n)

  -- ---- release

  release-keeps : (n : Node WholeQueues) → K n (release whole c n)
  release-keeps n = record {
    stay = λ h.
        let out : Node WholeQueues = record n { queues = whole.without_held n.queues } in
        (go_each-keeps c fine f r n.queues.held out h.held).stay (record { held = refl; links = h.links });
  }

  settled-keeps : (n : Node WholeQueues) → K n (tell_owed whole c (release whole c n))
  settled-keeps n = settles c fine f r n (release-keeps n)

  -- ---- a tick

  timer-keeps : (timer : TimerName) (n : Node WholeQueues) → K n (run_timer whole c timer n)
  timer-keeps (name.L1 link) n = run_out-keeps c fine f r link its.L1 n
  timer-keeps (name.L2 link) n = run_out-keeps c fine f r link its.L2 n
  timer-keeps (name.L3 link) n = run_out-keeps c fine f r link its.L3 n
  timer-keeps (name.L4 link) n = run_out-keeps c fine f r link its.L4 n
  timer-keeps (name.L6 link) n = run_out-keeps c fine f r link its.L6 n
  timer-keeps (name.L7 link) n = run_out-keeps c fine f r link its.L7 n
  timer-keeps (name.T1 link) n = expired-keeps c fine f changeover.T1 link n
  timer-keeps (name.T2 link) n = expired-keeps c fine f changeover.T2 link n
  timer-keeps (name.T3 link) n = to n _ refl
  timer-keeps (name.T4 set code) n = to n _ refl
  timer-keeps (name.T6 destination) n = to n _ refl
  timer-keeps (name.T8 set destination) n = stay n
  timer-keeps (name.T10 set destination) n = ask-keeps c fine f r set destination n
  timer-keeps (name.Slt1 link) n = test_unanswered-keeps c fine f r link n
  timer-keeps (name.Slt2 link) n = begin_test-keeps c fine f r link n

  due-keeps : (timer : Option TimerName) (n : Node WholeQueues) → K n (run_due whole c timer n)
  due-keeps (Some timer) n = timer-keeps timer n
  due-keeps None n = stay n

  times-keep : (many : ℕ) (n : Node WholeQueues) → K n (run_times whole c many n)
  times-keep zero n = stay n
  times-keep (suc more) n =
      let handed : Node WholeQueues = with_timers n (after_due n.parts.timers) in
      let next : Node WholeQueues = run_due whole c (due_name n.parts.timers) handed in
      and-then c fine f n next _ (and-then c fine f n handed next (to n handed refl) (due-keeps (due_name n.parts.timers) handed)) (times-keep more next)

  tick-keeps : (n : Node WholeQueues) → K n (tick whole c n).left
  tick-keeps n =
      let ticks : Node WholeQueues = with_timers n (ticked n.parts.timers) in
      let ran : Node WholeQueues = run_times whole c (due_count (ticked n.parts.timers)) ticks in
      and-then c fine f n ticks _ (to n ticks refl) (and-then c fine f ticks ran _ (times-keep (due_count (ticked n.parts.timers)) ticks) (to ran _ refl))

  -- ---- events, and frames that go out

  -- the message that an event's frame carries is fine
  abbrev pub IsFineAt : Happening → Type 0
  IsFineAt (FrameCame link text) = IsFineOf (carried_message (read_frame text))
  IsFineAt (CameUp link) = Unit {0}
  IsFineAt (WentDown link) = Unit {0}
  IsFineAt Ticked = Unit {0}
  IsFineAt (Submitted message) = Unit {0}
  IsFineAt (Activated link emergency) = Unit {0}
  IsFineAt (Deactivated link) = Unit {0}
  IsFineAt (Released link) = Unit {0}
  IsFineAt (TitleAdded row is_memory_refused) = Unit {0}
  IsFineAt (TitleSet row is_memory_refused) = Unit {0}
  IsFineAt (TitleRemoved key digits) = Unit {0}

  handled-keeps : (what : Happening) (n : Node WholeQueues) → IsFineAt what → K n (handle_event whole c what n).left
  handled-keeps (CameUp link) n e = up-keeps link n
  handled-keeps (WentDown link) n e = down-keeps c fine f r link n
  handled-keeps (FrameCame link text) n e =
      let came : Done WholeQueues = receive whole c link text n in
      and-then c fine f n came.left _ (receive-keeps link text n e) (late_by-keeps c fine f r came.outcome came.left)
  handled-keeps Ticked n e =
      let ran : Node WholeQueues = (tick whole c n).left in
      and-then c fine f n ran _ (tick-keeps n) (late_by-keeps c fine f r Handled ran)
  handled-keeps (Submitted message) n e = submit_to-keeps c fine f r (whither_goes c message) message n
  handled-keeps (Activated link emergency) n e = activate-keeps c fine f r emergency link n
  handled-keeps (Deactivated link) n e = deactivate-keeps c fine f r link n
  handled-keeps (Released link) n e = release_bar-keeps c fine f r link n
  handled-keeps (TitleAdded row is_memory_refused) n e = added-keeps c fine f r (title_refusal n.parts.titles.rows row is_memory_refused) row n
  handled-keeps (TitleSet row is_memory_refused) n e = added-keeps c fine f r (title_set_refusal n.parts.titles.rows row is_memory_refused) row n
  handled-keeps (TitleRemoved key digits) n e = removed-keeps c fine f r key digits n

  pub event-keeps : (what : Happening) (n : Node WholeQueues) → IsFineAt what → K n (apply whole c what n).left
  unfolding apply
  event-keeps what n e =
      let d : Node WholeQueues = (handle_event whole c what n).left in
      and-then c fine f n d _ (handled-keeps what n e) (settled-keeps d)

  sending-keeps : (link : ℕ) (n : Node WholeQueues) (next : Outgoing) → K n (after_sending whole c link n next)
  sending-keeps link n (SendsStatus status) = to n _ refl
  sending-keeps link n (SendsMessage next) =
      let q : Queue = queue_at n.queues link in
      queue-keeps c fine f n _ n.queues.held link (queue.sent_one q c.window) refl (λ h. h.held) (λ h. ap (list_all fine) (sent-all q (to_send q c.window)) ∙ h.links link)
  sending-keeps link n Acknowledges = to n _ refl
  sending-keeps link n SendsNothing = stay n

  pub take-keeps : (link : ℕ) (n : Node WholeQueues) → K n (after_take whole c link n)
  take-keeps link n = sending-keeps link n (goes_out whole c link n)
