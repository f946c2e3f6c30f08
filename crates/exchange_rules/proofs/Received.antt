-- A frame on a link raises what was received there by one exactly when it newly carries a message; no other event does.
use Rattle.exchange_rules.proofs.Basics.{◌≡◌, ◌≢◌, ◌<◌, ◌+◌, ℕ, Bool, true, false, ◌&&◌, not, List, length, nat_eq, Option, Some, None, Result, Ok, Err, refl, ap, sym, subst, ◌∙◌, arith, if◌then◌else◌, is_some, nat_tests, get_or-set_same}
use Rattle.exchange_rules.proofs.Definitions.{Message, Ignored, FrameFault, Configuration, FrameValue, EmptyFrame, MessageFrame, StatusFrame, read_frame, LinkStatus, Action, Status, UserData, acts_on, Queue, first_queue, after_answer, SeqFault, Node, answer, refuse, is_link, link_at, down, in_service, advance, act_by_status, Carrying, carries, empty_data, message_data, timed_parts, numbers, accept, carry, handle_by, act_by_data, receive_data, leave_aside, read, receive, Happening, CameUp, WentDown, FrameCame, Ticked, Submitted, Activated, Deactivated, TitleAdded, TitleSet, TitleRemoved, apply, WholeQueues, queue_at, whole, Abstract, HasAllPlaces, new_by, new_at, new_in, new_of, new_message, received, received_is_counted, takes_receive_nothing, is_idle, nothing_new_is_delivered, Handled, tells_outage, tells_recovery, hear_outage, end_outage, Released, Done, late_by}
use Rattle.signalling_types.specs.declared.cause.Cause.TheVariants as causes
use Rattle.signalling_types.specs.declared.notice.FrameFault.TheVariants as faults
use Rattle.signalling_types.specs.declared.notice.FailureReason.TheVariants as reasons
use Rattle.link.specs.declared.action.Action.TheVariants as act
use Rattle.link.specs.Queue as queue
use Rattle.exchange_rules.proofs.Serving.{data-serves}
use Rattle.exchange_rules.proofs.Receiving.{same-queues, same-steps}
use Rattle.exchange_rules.proofs.LastingPlaces.{places-steps}
use Rattle.exchange_rules.proofs.Steps.{confirming}
use Rattle.exchange_rules.proofs.SteppingFailures.{fail-steps}
use Rattle.exchange_rules.proofs.SteppingLinks.{advance-serves, advance-steps, on_link_status-steps}
use Rattle.exchange_rules.proofs.SteppingEvents.{IsOf, owing-serves, owing-steps, carry-steps, leave_aside-steps, settled-steps, tick-steps, run_next-steps, take-steps, apply-steps}
use Rattle.exchange_rules.proofs.Rules.{rules-of}
use Rattle.exchange_rules.proofs.SteppingLate.{late_by-steps}

-- as many as there are
abbrev one_if : Bool → ℕ
one_if b = if b then 1 else 0

none-more : (n : ℕ) → n ≡ n + 0
none-more n = omega arith

module _ (c : Configuration) (link : ℕ) where
  -- ---- a frame on the link

  accepted-count : (carries : Bool) (count : ℕ) (q : Queue) → (after_answer q carries (Ok count)).received ≡ q.received + one_if carries
  accepted-count true count q = refl
  accepted-count false count q = none-more q.received

  confirming-count : (d : Carrying) (count : ℕ) (n : Node WholeQueues) → link < length n.queues.links → numbers whole c link d n ≡ Ok count
      → received (confirming c link d count n) link ≡ received n link + one_if (is_some d.message)
  confirming-count d count n there e =
      let q : Queue = queue_at n.queues link in
      ap (λ (x : Queue). x.received) (get_or-set_same n.queues.links link (queue.accepted q d.fsn d.bsn (carries d)) first_queue there)
      ∙ ap (λ (r : Result ℕ SeqFault). (after_answer q (carries d) r).received) e ∙ accepted-count (carries d) count q

  handle-count : (r : Result ℕ SeqFault) (d : Carrying) (n : Node WholeQueues) → link < length n.queues.links → in_service n.parts link ≡ true → numbers whole c link d n ≡ r
      → received (handle_by whole c r link d n).left link ≡ received n link + one_if (is_some (new_by r d))
  handle-count (Ok count) d n there serves e =
      let taken : Node WholeQueues = confirming c link d count n in
      let next : Node WholeQueues = accept whole c link d count n in
      (carry-steps (rules-of (same-steps link c)) link d.message next
      (owing-serves link d.message (timed_parts c link count (whole.outstanding next.queues link) n.parts) ∙ serves)).same
      ∙ (owing-steps (rules-of (same-steps link c)) link d.message taken).same
      ∙ confirming-count d count n there e
  handle-count (Err fault) d n there serves e = (fail-steps (same-steps link c) link reasons.Sequence n).same ∙ none-more (received n link)

  act-count : (a : Action) (d : Carrying) (n : Node WholeQueues) → HasAllPlaces c n → link < length c.links → acts_on (link_at n.parts link) UserData ≡ a
      → received (act_by_data whole c a link d n).left link ≡ received n link + one_if (is_some (new_at a link d c n))
  act-count act.Ignored d n h there e = none-more (received n link)
  act-count act.Fail d n h there e = (fail-steps (same-steps link c) link reasons.Sequence n).same ∙ none-more (received n link)
  act-count (act.Go step) d n h there e =
      let next : Node WholeQueues = advance whole c link step n in
      let places : HasAllPlaces c next = (advance-steps (rules-of (places-steps c)) link UserData step n tt e).stay h in
      let more : ℕ = one_if (is_some (new_by (numbers whole c link d next) d)) in
      handle-count (numbers whole c link d next) d next (omega (arith, there, places.queues))
      (advance-serves c link UserData step n e ∙ data-serves (link_at n.parts link).period (link_at n.parts link).alignment step e) refl
      ∙ ap (λ (k : ℕ). k + more) (advance-steps (rules-of (same-steps link c)) link UserData step n tt e).same

  data-count : (d : Carrying) (n : Node WholeQueues) → HasAllPlaces c n → link < length c.links
      → received (receive_data whole c link d n).left link ≡ received n link + one_if (is_some (new_in (Some d) link c n))
  data-count d n h there = act-count (acts_on (link_at n.parts link) UserData) d n h there refl

  frame-count : (r : Result FrameValue FrameFault) (n : Node WholeQueues) → HasAllPlaces c n → link < length c.links → down n.parts link ≡ false
      → received (read whole c link r n).left link ≡ received n link + one_if (is_some (new_of r link c n))
  frame-count (Ok (EmptyFrame bsn fsn)) n h there up = data-count (empty_data bsn fsn) n h there
  frame-count (Ok (MessageFrame bsn fsn sio sif)) n h there up = data-count (message_data bsn fsn sio sif) n h there
  frame-count (Ok (StatusFrame bsn fsn status)) n h there up = (on_link_status-steps (rules-of (same-steps link c)) link status n tt (record { fails = λ e f. tt; recovers = λ e. tt })).same ∙ none-more (received n link)
  frame-count (Err fault) n h there up = (leave_aside-steps (rules-of (same-steps link c)) link fault n up).same ∙ none-more (received n link)

  -- where the link is there, and isn't down
  receive-count : (there is_down : Bool) (r : Result FrameValue FrameFault) (n : Node WholeQueues) → HasAllPlaces c n → (there ≡ true → link < length c.links) → down n.parts link ≡ is_down
      → received (if there then (if is_down then answer Ignored n else read whole c link r n) else refuse causes.NoSuchName n).left link
      ≡ received n link + one_if (is_some (if there && not is_down then new_of r link c n else None))
  receive-count false is_down r n h l e = none-more (received n link)
  receive-count true true r n h l e = none-more (received n link)
  receive-count true false r n h l e = frame-count r n h (l refl) e

  own-frame : (text : List ℕ) (n : Node WholeQueues) → HasAllPlaces c n
      → received (apply whole c (FrameCame link text) n).left link
      ≡ received n link + one_if (is_some (if is_link n.parts link && not (down n.parts link) then new_of (read_frame text) link c n else None))
  unfolding apply
  own-frame text n h =
      let d : Done WholeQueues = receive whole c link text n in
      (settled-steps (rules-of (same-steps link c)) (late_by whole c d.outcome d.left)).same
      ∙ (late_by-steps (rules-of (same-steps link c)) d.outcome d.left).same
      ∙ receive-count (is_link n.parts link) (down n.parts link) (read_frame text) n h
      (λ e. let known : link < length n.parts.links = grind (arith, nat_tests, e) in omega (arith, known, h.parts.links)) refl

-- ---- any event

other-event : (c : Configuration) (what : Happening) (n : Node WholeQueues) (l : ℕ) → ((link : ℕ) → IsOf what link → link ≢ l)
    → received (apply whole c what n).left l ≡ received n l + 0
other-event c what n l other =
    (apply-steps (rules-of (same-steps l c)) what n (λ link of. tt) other
    (λ e. tick-steps (rules-of (same-steps l c)) n (same-queues l n _ refl) (λ m. run_next-steps (rules-of (same-steps l c)) m (same-queues l m _ refl) (λ link. tt)))).same
    ∙ none-more (received n l)

apart : (its l : ℕ) → nat_eq its l ≡ false → (link : ℕ) → link ≡ its → link ≢ l
apart its l e link of same = (let far : its ≢ l = λ k. grind (arith, nat_tests, e, k) in far (sym of ∙ same))

frame-event : (a : Abstract) (its l : ℕ) (text : List ℕ) → HasAllPlaces a.settings a.node → (is : Bool) → nat_eq its l ≡ is
    → received (apply whole a.settings (FrameCame its text) a.node).left l ≡ received a.node l + one_if (is && is_some (new_message its text a))
frame-event a its l text h true e =
    let same : its ≡ l = grind (arith, nat_tests, e) in
    subst (λ (k : ℕ). received (apply whole a.settings (FrameCame its text) a.node).left k ≡ received a.node k + one_if (is_some (new_message its text a))) same
    (own-frame a.settings its text a.node h)
frame-event a its l text h false e = other-event a.settings (FrameCame its text) a.node l (apart its l e)

pub received-counted : received_is_counted
received-counted (CameUp its) a l h e = other-event a.settings (CameUp its) a.node l (apart its l e)
received-counted (WentDown its) a l h e = other-event a.settings (WentDown its) a.node l (λ link of same. of)
received-counted (FrameCame its text) a l h e = frame-event a its l text h (nat_eq its l) refl
received-counted Ticked a l h e = other-event a.settings Ticked a.node l (λ link of same. of)
received-counted (Submitted message) a l h e = other-event a.settings (Submitted message) a.node l (λ link of same. of)
received-counted (Activated its emergency) a l h e = other-event a.settings (Activated its emergency) a.node l (λ link of same. of)
received-counted (Deactivated its) a l h e = other-event a.settings (Deactivated its) a.node l (λ link of same. of)
received-counted (Released its) a l h e = other-event a.settings (Released its) a.node l (λ link of same. of)
received-counted (TitleAdded row refused) a l h e = other-event a.settings (TitleAdded row refused) a.node l (λ link of same. of)
received-counted (TitleSet row refused) a l h e = other-event a.settings (TitleSet row refused) a.node l (λ link of same. of)
received-counted (TitleRemoved key digits) a l h e = other-event a.settings (TitleRemoved key digits) a.node l (λ link of same. of)

pub takes-receive : takes_receive_nothing
takes-receive a link other = (take-steps (rules-of (same-steps other a.settings)) link a.node tt).same

-- ---- what comes of a frame that newly carries nothing

module _ (c : Configuration) (link : ℕ) where
  idle-carry : (m : Option Message) (n : Node WholeQueues) → m ≡ None → is_idle (carry whole c link m n).outcome ≡ true
  idle-carry None n e = refl
  idle-carry (Some m) n e = absurd cc

  idle-handle : (r : Result ℕ SeqFault) (d : Carrying) (n : Node WholeQueues) → new_by r d ≡ None → is_idle (handle_by whole c r link d n).outcome ≡ true
  idle-handle (Ok count) d n e = idle-carry d.message (accept whole c link d count n) e
  idle-handle (Err fault) d n e = refl

  idle-act : (a : Action) (d : Carrying) (n : Node WholeQueues) → new_at a link d c n ≡ None → is_idle (act_by_data whole c a link d n).outcome ≡ true
  idle-act act.Ignored d n e = refl
  idle-act act.Fail d n e = refl
  idle-act (act.Go step) d n e = (let next : Node WholeQueues = advance whole c link step n in idle-handle (numbers whole c link d next) d next e)

  idle-status : (a : Action) (status : LinkStatus) (n : Node WholeQueues) → is_idle (act_by_status whole c a link status n).outcome ≡ true
  idle-status act.Ignored status n = refl
  idle-status act.Fail status n = refl
  idle-status (act.Go step) status n = refl

  idle-told : (out back : Bool) (status : LinkStatus) (n : Node WholeQueues)
      → is_idle (if out then answer Handled (hear_outage whole c link n) else if back then answer Handled (end_outage whole c link n)
      else act_by_status whole c (acts_on (link_at n.parts link) (Status status)) link status n).outcome ≡ true
  idle-told true back status n = refl
  idle-told false true status n = refl
  idle-told false false status n = idle-status (acts_on (link_at n.parts link) (Status status)) status n

  idle-aside : (fault : FrameFault) (n : Node WholeQueues) → is_idle (leave_aside whole c link fault n).outcome ≡ true
  idle-aside faults.Length n = refl
  idle-aside faults.Short n = refl
  idle-aside faults.Version n = refl
  idle-aside faults.Unknown n = refl

  idle-frame : (r : Result FrameValue FrameFault) (n : Node WholeQueues) → new_of r link c n ≡ None → is_idle (read whole c link r n).outcome ≡ true
  idle-frame (Ok (EmptyFrame bsn fsn)) n e = idle-act (acts_on (link_at n.parts link) UserData) (empty_data bsn fsn) n e
  idle-frame (Ok (MessageFrame bsn fsn sio sif)) n e = idle-act (acts_on (link_at n.parts link) UserData) (message_data bsn fsn sio sif) n e
  idle-frame (Ok (StatusFrame bsn fsn status)) n e = idle-told (tells_outage c link status n.parts) (tells_recovery link status n.parts) status n
  idle-frame (Err fault) n e = idle-aside fault n

  idle-receive : (there is_down : Bool) (r : Result FrameValue FrameFault) (n : Node WholeQueues) → (if there && not is_down then new_of r link c n else None) ≡ None
      → is_idle (if there then (if is_down then answer Ignored n else read whole c link r n) else refuse causes.NoSuchName n).outcome ≡ true
  idle-receive false is_down r n e = refl
  idle-receive true true r n e = refl
  idle-receive true false r n e = idle-frame r n e

pub nothing-delivered : nothing_new_is_delivered
unfolding apply
nothing-delivered a link text e = idle-receive a.settings link (is_link a.node.parts link) (down a.node.parts link) (read_frame text) a.node e
