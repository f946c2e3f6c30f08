-- Each loss of an event is among its notices, and counted.
use Rattle.exchange_rules.proofs.Basics.{Bool, Err, List, None, Ok, Option, Result, Some, [], append-nil, arith, false, length, map, not, refl, true, ℕ, ◌&&◌, ◌*◌, ◌+◌, ◌++◌, ◌∙◌, ◌∷◌, ◌≡◌, ◌≤◌, if◌then◌else◌, subst, ap}
use Rattle.exchange_rules.proofs.Definitions.{AreAccounted, FailureReason, fail, takes_flag_nothing, Acknowledges, Outgoing, SendsMessage, SendsNothing, SendsStatus, after_sending, goes_out, events_account_for_losses, others_of, rules_run, naming, changeover_of, Configuration, TitleEntry, Message, Cause, FrameFault, Outcome, Handled, Held, Ignored, Local, Queued, Refused, Gone, gone_by, gone_by_message, gone_by_new, gone_by_release, nothing_gone, is_link, whither_goes, deliver_to, note_outcome, WholeQueues, whole, release, tell_owed, owed, facts, Node, Done, answer, refuse, with_parts, acts_on, Action, UserData, count_confirmed, SeqFault, EmptyFrame, FrameValue, MessageFrame, StatusFrame, read_frame, accept_data, accept_frame, accept_text, new_at, new_by, new_in, new_of, Carrying, accept, act_by_data, advance, carry, empty_data, handle_by, message_data, numbers, owing, timed_parts, read, receive_data, Happening, Activated, CameUp, Deactivated, FrameCame, Submitted, Ticked, TitleAdded, TitleSet, TitleRemoved, WentDown, apply, handle_event, may_open, may_restart, open_link, add_title_unless, title_refusal, title_set_refusal, has_row, place_of, without_row, down, link_at, Abstract, send, no_room, link_of, flow_of, queue_on, with_rows, Released, bars, unbarred, is_barred, receive, new_message, tick, ticked, due_count, with_timers}
use Rattle.exchange_rules.specs.Conserving.{confirmed}
use Rattle.exchange_rules.specs.LawsOfLosses.{IsGivenUp, IsPlaced, Reasons, lateness_of, management_is_named, reasons_of, late_orders}
use Rattle.exchange_rules.specs.GivingUp.{unsent_by_message, unsent_by_new, unsent_failing}
use Rattle.exchange_rules.specs.GivingUpEvents.{expired_of, unsent_by_data, unsent_by_frame, unsent_by_numbers, unsent_by_rule, unsent_telling, unsent_late_by, unsent_by_text, unsent_by_timers}
use Rattle.link.specs.declared.action.Action.TheVariants as act
use Rattle.signalling_types.specs.declared.cause.Cause.TheVariants as causes
use Rattle.signalling_types.specs.declared.notice.Notice.{Notice}
use Rattle.signalling_types.specs.declared.notice.Notice.TheVariants as notices
use Rattle.signalling_types.specs.declared.notice.Unbarring.TheVariants as unbarring
use Rattle.signalling_types.specs.declared.notice.FailureReason.TheVariants as reasons
use Rattle.exchange_rules.proofs.Naming.{Quiet, Sends, accounted-as, any-quiet, both, both-accounted, either_done-quiet, more-does, none, one-does, same-quiet, sending}
use Rattle.exchange_rules.proofs.QuietMessages.{submit-quiet, tell_owed-sends}
use Rattle.exchange_rules.proofs.QuietLinks.{activate-quiet, advance-quiet, association_down-sends, deactivate-sends, fail-sends, leave_aside-sends, on_link_status-sends, late_by-sends}
use Rattle.exchange_rules.proofs.NamedLosses.{Names, accepted-names, deliver_to-names, first-names, go_each-accounted, losing, more-names, reasons_by, sends-names, tick-names, expired_alone, then-names}

module _ (c : Configuration) where
  -- ---- a frame

  refusal-quiet : (link : ℕ) (o : Outcome) (n : Node WholeQueues) → Quiet 1 n (with_parts n (note_outcome link o n.parts))
  refusal-quiet link (Refused cause) n = one-does none (notices.Refused cause link) n _ refl refl refl refl refl refl refl refl refl
  refusal-quiet link (Queued other) n = any-quiet 1 n
  refusal-quiet link Held n = any-quiet 1 n
  refusal-quiet link Local n = any-quiet 1 n
  refusal-quiet link Handled n = any-quiet 1 n
  refusal-quiet link Ignored n = any-quiet 1 n

  -- a link that fails by a frame
  failing-names : (link : ℕ) (why : FailureReason) (n : Node WholeQueues) → Names (bars c) nothing_gone (unsent_failing c link why n) [] [] 3 n (fail whole c link why n)
  failing-names link why n =
      let us : List Notice = unsent_failing c link why n in
      sends-names us 3 n _ (more-does (sending us) 2 3 n _ (omega arith) (fail-sends c link why n))

  carry-names : (link : ℕ) (m : Option Message) (n : Node WholeQueues) → Names (bars c) (gone_by_new m c n) (unsent_by_new c link m n) [] [] 3 n (carry whole c link m n).left
  carry-names link None n = sends-names [] 3 n n (any-quiet 3 n)
  carry-names link (Some m) n =
      let d : Done WholeQueues = deliver_to whole c (whither_goes c m) link m n in
      let g : Gone = gone_by_message (whither_goes c m) c m n in
      let us : List Notice = unsent_by_message c (whither_goes c m) link m n in
      let last : Node WholeQueues = (carry whole c link (Some m) n).left in
      record {
        is = accounted-as (both (reasons_by (bars c) g us [] []) none) (reasons_by (bars c) g us [] []) (length g.queued_anew + 2 + 1) (length g.queued_anew + 3) n.parts last.parts
            (append-nil (reasons_by (bars c) g us [] []).lost) (append-nil us) refl refl (omega arith) (omega arith) (omega arith)
            (both-accounted (reasons_by (bars c) g us [] []) none (length g.queued_anew + 2) 1 n.parts d.left.parts last.parts (deliver_to-names c (whither_goes c m) link m n).is (refusal-quiet link d.outcome d.left).is);
      }

  owing-quiet : (link : ℕ) (d : Carrying) (count : ℕ) (n : Node WholeQueues) → Quiet 0 n (accept whole c link d count n)
  owing-quiet link d count n = by d.message
    where
      took : Node WholeQueues
      took = accept whole c link d count n

      by : (m : Option Message) → Quiet 0 n (with_parts took (owing link m (timed_parts c link count (whole.outstanding took.queues link) n.parts)))
      by None = same-quiet n _ refl refl refl refl refl
      by (Some m) = same-quiet n _ refl refl refl refl refl

  handle-names : (r : Result ℕ SeqFault) (link : ℕ) (d : Carrying) (n : Node WholeQueues)
      → Names (bars c) (gone_by_new (new_by r d) c (accept whole c link d (count_confirmed r) n)) (unsent_by_numbers c r link d n) [] [] 3 n (handle_by whole c r link d n).left
  handle-names (Ok count) link d n =
      let took : Node WholeQueues = accept whole c link d count n in
      let g : Gone = gone_by_new d.message c took in
      let us : List Notice = unsent_by_new c link d.message took in
      more-names g us [] [] (0 + 3) 3 n _ (omega arith) (first-names g us [] [] [] 0 3 n took _ (owing-quiet link d count n) (carry-names link d.message took))
  handle-names (Err fault) link d n = failing-names link reasons.Sequence n

  act-names : (a : Action) (link : ℕ) (d : Carrying) (n : Node WholeQueues)
      → Names (bars c) (gone_by_new (new_at a link d c n) c (accept_data a link d c n)) (unsent_by_data c a link d n) [] [] 3 n (act_by_data whole c a link d n).left
  act-names act.Ignored link d n = sends-names [] 3 n n (any-quiet 3 n)
  act-names act.Fail link d n = failing-names link reasons.Sequence n
  act-names (act.Go step) link d n =
      let next : Node WholeQueues = advance whole c link step n in
      let r : Result ℕ SeqFault = numbers whole c link d next in
      let g : Gone = gone_by_new (new_by r d) c (accept whole c link d (count_confirmed r) next) in
      let us : List Notice = unsent_by_numbers c r link d next in
      more-names g us [] [] (0 + 3) 3 n _ (omega arith) (first-names g us [] [] [] 0 3 n next _ (advance-quiet c link step n) (handle-names r link d next))

  data-names : (link : ℕ) (d : Carrying) (n : Node WholeQueues)
      → Names (bars c) (gone_by_new (new_in (Some d) link c n) c (accept_frame (Some d) link c n)) (unsent_by_data c (acts_on (link_at n.parts link) UserData) link d n) [] [] 3 n (receive_data whole c link d n).left
  data-names link d n = act-names (acts_on (link_at n.parts link) UserData) link d n

-- ---- events

module _ (a : Abstract) where
  abbrev was : Node WholeQueues
  was = a.node

  abbrev set : Configuration
  set = a.settings

  some : (us : List Notice) (k : ℕ) (m : Node WholeQueues) → k ≤ 3 → Sends us k was m → Names (bars set) nothing_gone us [] [] 3 was m
  some us k m l q = sends-names us 3 was m (more-does (sending us) k 3 was m (omega (arith, l)) q)

  frame-names : (link : ℕ) (r : Result FrameValue FrameFault)
      → Names (bars set) (gone_by_new (new_of r link set was) set (accept_text link r a)) (unsent_by_frame set link r was) [] [] 3 was (read whole set link r was).left
  frame-names link (Ok (EmptyFrame bsn fsn)) = data-names set link (empty_data bsn fsn) was
  frame-names link (Ok (MessageFrame bsn fsn sio sif)) = data-names set link (message_data bsn fsn sio sif) was
  frame-names link (Ok (StatusFrame bsn fsn status)) = some _ 2 _ (omega arith) (on_link_status-sends set link status was)
  frame-names link (Err fault) = some _ 2 _ (omega arith) (leave_aside-sends set link fault was)

  receive-names : (is_there is_down : Bool) (link : ℕ) (r : Result FrameValue FrameFault)
      → Names (bars set) (gone_by_new (if is_there && not is_down then new_of r link set was else None) set (accept_text link r a)) (if is_there && not is_down then unsent_by_frame set link r was else []) [] [] 3 was
      (if is_there then (if is_down then answer Ignored was else read whole set link r was) else refuse causes.NoSuchName was).left
  receive-names false is_down link r = some [] 0 was (omega arith) (any-quiet 0 was)
  receive-names true true link r = some [] 0 was (omega arith) (any-quiet 0 was)
  receive-names true false link r = frame-names link r

  up-quiet : (is_there opens restarts : Bool) (link : ℕ)
      → Quiet 0 was (if is_there then (if opens then (if restarts then answer Handled (open_link whole set link was) else refuse causes.ChangeoverPending was) else refuse causes.LinkNotReady was)
      else refuse causes.NoSuchName was).left
  up-quiet true true true link = same-quiet was _ refl refl refl refl refl
  up-quiet true true false link = any-quiet 0 was
  up-quiet true false restarts link = any-quiet 0 was
  up-quiet false opens restarts link = any-quiet 0 was

  titled-quiet : (refusal : Option Cause) (row : TitleEntry) → Quiet 0 was (add_title_unless refusal row was).left
  titled-quiet (Some cause) row = any-quiet 0 was
  titled-quiet None row = same-quiet was _ refl refl refl refl refl

  -- a rule that runs once
  once : (g : Gone) (us : List Notice) (m : Node WholeQueues) → Names (bars set) g us [] [] 3 was m → Names (bars set) g us [] [] (3 * 1) was m
  once g us m n = more-names g us [] [] 3 (3 * 1) was m (omega arith) n

  -- the operator lets a link open
  released-names : (there barred : Bool) (link : ℕ)
      → Names (bars set) nothing_gone [] (if there && barred then notices.Unbarred unbarring.Operator link ∷ [] else []) [] 3 was
      (if there then (if barred then answer Handled (with_parts was (unbarred link was.parts)) else answer Ignored was) else refuse causes.NoSuchName was).left
  released-names false barred link = some [] 0 was (omega arith) (any-quiet 0 was)
  released-names true false link = some [] 0 was (omega arith) (any-quiet 0 was)
  released-names true true link =
      let notice : Notice = notices.Unbarred unbarring.Operator link in
      let its : Reasons = expired_alone (bars set) (notice ∷ []) in
      let freed : Node WholeQueues = with_parts was (unbarred link was.parts) in
      record {
        is = accounted-as its (reasons_by (bars set) nothing_gone [] (notice ∷ []) []) 1 (length {A = Message} [] + 3) was.parts freed.parts refl refl refl refl refl (omega arith) (omega arith)
            (one-does its notice was freed refl refl refl refl refl refl refl refl refl).is;
      }

  rule-names : (what : Happening)
      → Names (bars set) (gone_by what a) (unsent_by_rule what a) (expired_of what a) (lateness_of what a) (late_orders what set + 3 * rules_run what was.parts) was (handle_event whole set what was).left
  unfolding apply
  rule-names (CameUp link) = once _ _ _ (some [] 0 _ (omega arith) (up-quiet (is_link was.parts link) (may_open (link_at was.parts link)) (may_restart (changeover_of was.parts link)) link))
  rule-names (WentDown link) = once _ _ _ (some _ 2 _ (omega arith) (association_down-sends set link was))
  rule-names (FrameCame link text) =
      let d : Done WholeQueues = receive whole set link text was in
      let late : ℕ = if set.changeover_by_any_route then length set.links else 0 in
      let g : Gone = gone_by_new (new_message link text a) set (accept_text link (read_frame text) a) in
      let us : List Notice = unsent_by_text set link text was in
      let vs : List Notice = unsent_late_by set d.outcome d.left in
      accepted-names g (us ++ vs) [] [] (confirmed link text a) (late + 3 * 1) was _
      (more-names g (us ++ vs) [] [] (3 * 1 + late) (late + 3 * 1) was _ (omega arith)
      (then-names g us [] [] vs (3 * 1) late was d.left _ (once g us d.left (receive-names (is_link was.parts link) (down was.parts link) link (read_frame text))) (late_by-sends set d.outcome d.left)))
  rule-names Ticked =
      let ran : ℕ = 3 * rules_run Ticked was.parts in
      let late : ℕ = late_orders Ticked set in
      let timed : Node WholeQueues = (tick whole set was).left in
      let g : Gone = gone_by Ticked a in
      let us : List Notice = unsent_by_timers set (due_count (ticked was.parts.timers)) (with_timers was (ticked was.parts.timers)) in
      let vs : List Notice = unsent_late_by set Handled timed in
      more-names g (us ++ vs) (expired_of Ticked a) (lateness_of Ticked a) (ran + late) (late + ran) was _ (omega arith)
      (then-names g us (expired_of Ticked a) (lateness_of Ticked a) vs ran late was timed _ (tick-names set was) (late_by-sends set Handled timed))
  rule-names (Submitted m) = once _ _ _ (some [] 2 _ (omega arith) (submit-quiet set m was))
  rule-names (Activated link emergency) = once _ _ _ (some [] 0 _ (omega arith) (activate-quiet set emergency link was))
  rule-names (Deactivated link) = once _ _ _ (some _ 2 _ (omega arith) (deactivate-sends set link was))
  rule-names (Released link) = more-names nothing_gone [] _ [] 3 (3 * 1) was _ (omega arith) (released-names (is_link was.parts link) (is_barred (changeover_of was.parts link)) link)
  rule-names (TitleAdded row refused) = once _ _ _ (some [] 0 _ (omega arith) (titled-quiet (title_refusal was.parts.titles.rows row refused) row))
  rule-names (TitleSet row refused) = once _ _ _ (some [] 0 _ (omega arith) (titled-quiet (title_set_refusal was.parts.titles.rows row refused) row))
  rule-names (TitleRemoved key digits) =
      once _ _ _ (some [] 0 _ (omega arith)
      (either_done-quiet 0 (has_row was.parts.titles.rows (place_of key digits)) was (answer Handled (with_parts was (with_rows (without_row (place_of key digits) was.parts.titles.rows) was.parts)))
      (refuse causes.NoSuchName was) (same-quiet was _ refl refl refl refl refl) (any-quiet 0 was)))

  event-accounts : (what : Happening) → AreAccounted (reasons_of what a) (others_of what a) was.parts (apply whole set what was).left.parts
  unfolding apply
  event-accounts what =
      let ruled : Node WholeQueues = (handle_event whole set what was).left in
      let g : Gone = gone_by what a in
      let r : Gone = gone_by_release set ruled in
      let freed : Node WholeQueues = release whole set ruled in
      let told : Node WholeQueues = tell_owed whole set freed in
      let stranded : Reasons = losing (map (naming causes.NoRoute) r.lost) in
      let telling : List Notice = unsent_telling set (owed (facts set freed.parts) freed.parts.told) freed in
      let rule : Reasons = reasons_by (bars set) g (unsent_by_rule what a) (expired_of what a) (lateness_of what a) in
      let most : ℕ = length g.queued_anew + (late_orders what set + 3 * rules_run what was.parts) in
      let owes : ℕ = length (owed (facts set freed.parts) freed.parts.told) in
      accounted-as (both (both rule stranded) (sending telling)) (reasons_of what a) (most + 0 + owes) (most + owes) was.parts told.parts
      (append-nil (rule.lost ++ stranded.lost)) (ap (λ (ns : List Notice). ns ++ telling) (append-nil rule.unsent)) (append-nil (rule.expired ++ []) ∙ append-nil rule.expired)
      (append-nil (rule.late ++ []) ∙ append-nil rule.late) (omega arith) (omega arith) (omega arith)
      (both-accounted (both rule stranded) (sending telling) (most + 0) owes was.parts freed.parts told.parts
      (both-accounted rule stranded most 0 was.parts ruled.parts freed.parts (rule-names what).is
      (go_each-accounted set ruled.queues.held (record ruled { queues = whole.without_held ruled.queues })))
      (tell_owed-sends set freed).is)

pub events-account : events_account_for_losses
events-account what a = event-accounts a what

-- ---- takes

pub takes-flag : takes_flag_nothing
takes-flag a link = by (goes_out whole a.settings link a.node)
  where
    by : (out : Outgoing) → ((after_sending whole a.settings link a.node out).parts.times_lost ≡ a.node.parts.times_lost)
        × ((after_sending whole a.settings link a.node out).parts.times_late ≡ a.node.parts.times_late)
        × ((after_sending whole a.settings link a.node out).parts.messages_lost ≡ a.node.parts.messages_lost)
        × ((after_sending whole a.settings link a.node out).parts.times_broken ≡ a.node.parts.times_broken)
    by (SendsStatus status) = (refl, refl, refl, refl)
    by (SendsMessage next) = (refl, refl, refl, refl)
    by Acknowledges = (refl, refl, refl, refl)
    by SendsNothing = (refl, refl, refl, refl)

-- ---- management

module _ (c : Configuration) (m : Message) (n : Node WholeQueues) where
  send-placed : (room : Option Cause) (link : Option ℕ) → IsPlaced room link m n (send whole c room link m n)
  send-placed (Some cause) link = record {
    queued = λ its e f. absurd cc;
    full = λ other e. (let same : cause ≡ other = cc in subst (λ (x : Cause). IsGivenUp x m n (send whole c (Some cause) link m n)) same (record { queues = refl; parts = refl }));
    stranded = λ e f. absurd cc;
  }
  send-placed None None = record { queued = λ its e f. absurd cc; full = λ other e. absurd cc; stranded = λ e f. record { queues = refl; parts = refl } }
  send-placed None (Some link) = record {
    queued = λ its e f. (let same : link ≡ its = cc in ap (λ (l : ℕ). queue_on whole c l m n) same);
    full = λ other e. absurd cc;
    stranded = λ e f. absurd cc;
  }

pub management-named : management_is_named
management-named c link m n = record {
  routed = send-placed c m n (no_room whole c m n.queues) (link_of c n.parts (flow_of m));
  answered = send-placed c m n (no_room whole c m n.queues) (Some link);
  anew = send-placed c m n None (link_of c n.parts (flow_of m));
}
