-- Every event conserves user messages, and every take leaves them.
use Rattle.exchange_rules.proofs.Basics.{Bool, Err, List, None, Ok, Option, Result, Some, [], ap, arith, false, nat_eq, not, refl, suc, sym, true, zero, ℕ, ◌&&◌, ◌+◌, ◌∙◌, ◌≡◌, take-append-drop, if◌then◌else◌, take}
use Rattle.exchange_rules.proofs.Definitions.{Standing, may_restart, has_row, place_of, without_row, acts_on, Action, UserData, Alignment, unconfirmed-accepted, unconfirmed-sent_one, Queue, count_confirmed, first_queue, unconfirmed, SeqFault, EmptyFrame, FrameValue, MessageFrame, StatusFrame, read_frame, read_management, Link, is_down, is_in_service, Discrimination, Configuration, TitleEntry, Message, is_management, opc_of, service_indicator, Cause, FrameFault, Handled, Ignored, transfer, Gone, both_gone, brought_by, brought_here, brought_in, brought_to, confirmed_at, confirmed_by, confirmed_in, confirmed_of, gone, gone_by, only_accepted, gone_by_message, gone_by_new, gone_by_release, gone_by_tick, gone_by_word, gone_that, nothing_gone, taken_in, users_that, takes_leave_user_messages, user_messages_are_conserved, apply, handle_event, changeover_of, Carrying, accept, act_by_data, carries, carry, empty_data, handle_by, message_data, numbers, read, receive_data, Activated, CameUp, Deactivated, FrameCame, Happening, Submitted, Ticked, TitleAdded, TitleSet, TitleRemoved, WentDown, AreLinksSteady, IsSteady, is_l7_running, accept_data, accept_frame, accept_text, down, in_service, is_link, link_at, is_adjacent, local, manage, testing, deliver_to, submit, whither_goes, may_open, open_link, WholeQueues, queue_at, whole, new_at, new_by, new_in, new_of, add_title_unless, title_refusal, title_set_refusal, release, Acknowledges, Outgoing, SendsMessage, SendsNothing, SendsStatus, after_sending, goes_out, Abstract, Done, Node, answer, refuse, with_parts, advance, tell_owed, tick, with_rows, Released, receive}
use Rattle.std.proofs.Common.{drop}
use Rattle.exchange_rules.proofs.Changes.{activate-stand, advance-stand, association_down-stand, deactivate-stand, either_done-stand, fail-stand, leave_aside-stand, on_link_status-stand, stands, tell_owed-stand, release_bar-stand, late_by-stand}
use Rattle.exchange_rules.proofs.Departing.{both-that, manage-lets, release-lets, tick-lets}
use Rattle.exchange_rules.proofs.Fitting.{Fits, event-fit, fit-steps}
use Rattle.exchange_rules.proofs.Moves.{local-brings, nothing-here, submit-brings, transfer-brings}
use Rattle.exchange_rules.proofs.Serving.{data-serves}
use Rattle.exchange_rules.proofs.SteppingEvents.{owing-steps}
use Rattle.exchange_rules.proofs.SteppingLinks.{advance-serves, advance-steps}
use Rattle.exchange_rules.proofs.Steps.{confirming}
use Rattle.exchange_rules.proofs.Tallies.{append, none-more, queue-less, queue-same}
use Rattle.exchange_rules.proofs.Rules.{rules-of}
use Rattle.link.specs.declared.action.Action.TheVariants as act
use Rattle.signalling_types.specs.declared.cause.Cause.TheVariants as causes
use Rattle.signalling_types.specs.declared.notice.FailureReason.TheVariants as reasons
use Rattle.mtp3_codec.specs.declared.discrimination.Discrimination.TheVariants as whither
use Rattle.link.specs.declared.alignment.Alignment.TheVariants as stage
use Rattle.link.specs.Queue as queue

module _ (of : Message → Bool) (c : Configuration) where
  -- ---- a message of a frame

  came-alone : (n m k : ℕ) → m ≡ n + k → n + k ≡ m + 0
  came-alone n m k e = omega (arith, e)

  went-alone : (n m k a : ℕ) → n ≡ m + k → a ≡ 0 → n + a ≡ m + k
  went-alone n m k a e f = omega (arith, e, f)

  -- the test by which a message is a word, once it is known to be management
  here-by : (b : Bool) (link : ℕ) (m : Message) (n : Node WholeQueues) → Fits c n → is_management m ≡ b
      → stands of n + users_that of (brought_here (if b then manage whole c link m n else local whole c (Some link) m n).outcome c m n)
      ≡ stands of (if b then manage whole c link m n else local whole c (Some link) m n).left
      + gone_that of (if b && (is_adjacent c (opc_of m) && not (nat_eq (service_indicator m) testing)) then gone_by_word (read_management m.sif) (opc_of m) c n else nothing_gone)
  here-by true link m n f e =
      went-alone (stands of n) (stands of (manage whole c link m n).left)
      (gone_that of (if is_adjacent c (opc_of m) && not (nat_eq (service_indicator m) testing) then gone_by_word (read_management m.sif) (opc_of m) c n else nothing_gone))
      (users_that of (brought_here (manage whole c link m n).outcome c m n))
      (manage-lets of c link m n f) (nothing-here of c (manage whole c link m n).outcome m n e)
  here-by false link m n f e =
      came-alone (stands of n) (stands of (local whole c (Some link) m n).left) (users_that of (brought_here (local whole c (Some link) m n).outcome c m n)) (local-brings of c (Some link) m n f)

  deliver_to-moves : (d : Discrimination) (link : ℕ) (m : Message) (n : Node WholeQueues) → Fits c n
      → stands of n + users_that of (brought_to d (deliver_to whole c d link m n).outcome c m n) ≡ stands of (deliver_to whole c d link m n).left + gone_that of (gone_by_message d c m n)
  deliver_to-moves (whither.Refused cause) link m n f = refl
  deliver_to-moves (whither.Here label) link m n f = here-by (is_management m) link m n f refl
  deliver_to-moves (whither.Transfer label) link m n f =
      let d : Done WholeQueues = transfer whole c (Some link) m n in
      came-alone (stands of n) (stands of d.left) (users_that of (taken_in d.outcome m)) (transfer-brings of c (Some link) m n f)

  carry-moves : (link : ℕ) (m : Option Message) (n : Node WholeQueues) → Fits c n
      → stands of n + users_that of (brought_by m (carry whole c link m n).outcome c n) ≡ stands of (carry whole c link m n).left + gone_that of (gone_by_new m c n)
  carry-moves link None n f = refl
  carry-moves link (Some m) n f = deliver_to-moves (whither_goes c m) link m n f

  -- ---- a frame

  -- what is confirmed leaves the queue
  accepted-lets : (link : ℕ) (d : Carrying) (r : Result ℕ SeqFault) (n : Node WholeQueues) → numbers whole c link d n ≡ r
      → stands of n ≡ stands of (accept whole c link d (count_confirmed r) n) + users_that of (confirmed_by r (queue_at n.queues link))
  accepted-lets link d r n e =
      let q : Queue = queue_at n.queues link in
      let count : ℕ = count_confirmed r in
      let left : users_that of (unconfirmed (queue.accepted q d.fsn d.bsn (carries d))) ≡ users_that of (drop count (unconfirmed q)) =
      ap (users_that of) (unconfirmed-accepted q d.fsn d.bsn (carries d)) ∙ ap (λ (x : Result ℕ SeqFault). users_that of (drop (count_confirmed x) (unconfirmed q))) e in
      let all : users_that of (unconfirmed q) ≡ users_that of (take count (unconfirmed q)) + users_that of (drop count (unconfirmed q)) =
      ap (users_that of) (sym (take-append-drop count (unconfirmed q))) ∙ append of (take count (unconfirmed q)) (drop count (unconfirmed q)) in
      sym (queue-less of n.queues link (queue.accepted q d.fsn d.bsn (carries d)) (users_that of (take count (unconfirmed q)))
      (parts-of _ _ _ _ left all))
    where
      parts-of : (a b k all : ℕ) → a ≡ b → all ≡ k + b → a + k ≡ all
      parts-of a b k all e f = omega (arith, e, f)

  data-that : (ms : List Message) (g : Gone) → gone_that of (both_gone (only_accepted ms) g) ≡ users_that of ms + gone_that of g
  data-that ms g = both-that of (only_accepted ms) g ∙ ap (λ (k : ℕ). k + gone_that of g) (sym (none-more (users_that of ms)))

  then-sum : (n m o a k l u : ℕ) → n ≡ m + k → m + a ≡ o + l → u ≡ k + l → n + a ≡ o + u
  then-sum n m o a k l u e f g = omega (arith, e, f, g)

  accept-fits : (link : ℕ) (d : Carrying) (count : ℕ) (n : Node WholeQueues) → in_service n.parts link ≡ true → numbers whole c link d n ≡ Ok count → Fits c n → Fits c (accept whole c link d count n)
  accept-fits link d count n serves e f =
      (owing-steps (rules-of (fit-steps c)) link d.message (confirming c link d count n)).stay (((fit-steps c).accepted link d count n tt serves e).stay f)

  handle-moves : (r : Result ℕ SeqFault) (link : ℕ) (d : Carrying) (n : Node WholeQueues) → Fits c n → in_service n.parts link ≡ true → numbers whole c link d n ≡ r
      → stands of n + users_that of (brought_by (new_by r d) (handle_by whole c r link d n).outcome c (accept whole c link d (count_confirmed r) n))
      ≡ stands of (handle_by whole c r link d n).left
      + gone_that of (both_gone (only_accepted (confirmed_by r (queue_at n.queues link))) (gone_by_new (new_by r d) c (accept whole c link d (count_confirmed r) n)))
  handle-moves (Ok count) link d n f serves e =
      let took : Node WholeQueues = accept whole c link d count n in
      let ms : List Message = confirmed_by (Ok count) (queue_at n.queues link) in
      then-sum (stands of n) (stands of took) (stands of (carry whole c link d.message took).left) (users_that of (brought_by d.message (carry whole c link d.message took).outcome c took))
      (users_that of ms) (gone_that of (gone_by_new d.message c took)) _
      (accepted-lets link d (Ok count) n e) (carry-moves link d.message took (accept-fits link d count n serves e f)) (data-that ms (gone_by_new d.message c took))
  handle-moves (Err fault) link d n f serves e = ap (λ (k : ℕ). k + 0) (sym (fail-stand of c link reasons.Sequence n))

  act-moves : (a : Action) (link : ℕ) (d : Carrying) (n : Node WholeQueues) → Fits c n → acts_on (link_at n.parts link) UserData ≡ a
      → stands of n + users_that of (brought_by (new_at a link d c n) (act_by_data whole c a link d n).outcome c (accept_data a link d c n))
      ≡ stands of (act_by_data whole c a link d n).left
      + gone_that of (both_gone (only_accepted (confirmed_at a link d c n)) (gone_by_new (new_at a link d c n) c (accept_data a link d c n)))
  act-moves act.Ignored link d n f e = refl
  act-moves act.Fail link d n f e = ap (λ (k : ℕ). k + 0) (sym (fail-stand of c link reasons.Sequence n))
  act-moves (act.Go step) link d n f e =
      let next : Node WholeQueues = advance whole c link step n in
      let r : Result ℕ SeqFault = numbers whole c link d next in
      let took : Node WholeQueues = accept whole c link d (count_confirmed r) next in
      ap (λ (k : ℕ). k + users_that of (brought_by (new_by r d) (handle_by whole c r link d next).outcome c took)) (sym (advance-stand of c link step n))
      ∙ handle-moves r link d next ((advance-steps (rules-of (fit-steps c)) link UserData step n tt e).stay f)
      (advance-serves c link UserData step n e ∙ data-serves (link_at n.parts link).period (link_at n.parts link).alignment step e) refl

  data-moves : (link : ℕ) (d : Carrying) (n : Node WholeQueues) → Fits c n
      → stands of n + users_that of (brought_by (new_in (Some d) link c n) (receive_data whole c link d n).outcome c (accept_frame (Some d) link c n))
      ≡ stands of (receive_data whole c link d n).left
      + gone_that of (both_gone (only_accepted (confirmed_in (Some d) link c n)) (gone_by_new (new_in (Some d) link c n) c (accept_frame (Some d) link c n)))
  data-moves link d n f = act-moves (acts_on (link_at n.parts link) UserData) link d n f refl

-- what a frame brings and lets go, by what it reads as
module _ (of : Message → Bool) (a : Abstract) where
  abbrev was : Node WholeQueues
  was = a.node

  abbrev set : Configuration
  set = a.settings

  frame-moves : (link : ℕ) (r : Result FrameValue FrameFault) → Fits set was
      → stands of was + users_that of (brought_by (new_of r link set was) (read whole set link r was).outcome set (accept_text link r a))
      ≡ stands of (read whole set link r was).left
      + gone_that of (both_gone (only_accepted (confirmed_of r link set was)) (gone_by_new (new_of r link set was) set (accept_text link r a)))
  frame-moves link (Ok (EmptyFrame bsn fsn)) f = data-moves of set link (empty_data bsn fsn) was f
  frame-moves link (Ok (MessageFrame bsn fsn sio sif)) f = data-moves of set link (message_data bsn fsn sio sif) was f
  frame-moves link (Ok (StatusFrame bsn fsn status)) f = ap (λ (k : ℕ). k + 0) (sym (on_link_status-stand of set link status was))
  frame-moves link (Err fault) f = ap (λ (k : ℕ). k + 0) (sym (leave_aside-stand of set link fault was))

  -- where the link is there, and isn't down
  receive-moves : (is_there is_down : Bool) (link : ℕ) (r : Result FrameValue FrameFault) → Fits set was
      → stands of was
      + users_that of (brought_by (if is_there && not is_down then new_of r link set was else None)
      (if is_there then (if is_down then answer Ignored was else read whole set link r was) else refuse causes.NoSuchName was).outcome set (accept_text link r a))
      ≡ stands of (if is_there then (if is_down then answer Ignored was else read whole set link r was) else refuse causes.NoSuchName was).left
      + gone_that of (both_gone (only_accepted (if is_there && not is_down then confirmed_of r link set was else []))
      (gone_by_new (if is_there && not is_down then new_of r link set was else None) set (accept_text link r a)))
  receive-moves false is_down link r f = refl
  receive-moves true true link r f = refl
  receive-moves true false link r f = frame-moves link r f

  -- ---- a link opens

  -- it is down without an association, so nothing is in its queue
  not-serving : (state : Alignment) → is_down state ≡ true → is_in_service state ≡ false
  not-serving stage.Down e = refl
  not-serving state e = absurd cc

  no-association : (l : Link) → may_open l ≡ true → l.association ≡ false
  no-association l e = by l.association e
    where
      by : (association : Bool) → (not association && l.active) ≡ true → association ≡ false
      by true h = absurd cc
      by false h = refl

  complete : (s : Standing) → may_restart s ≡ true → s.incomplete ≡ false
  complete s e = by s.incomplete e
    where
      by : (incomplete : Bool) → (not incomplete && not s.awaited) ≡ true → incomplete ≡ false
      by true h = absurd cc
      by false h = refl

  opened-stand : (link : ℕ) → AreLinksSteady set.window was → may_open (link_at was.parts link) ≡ true → may_restart (changeover_of was.parts link) ≡ true
      → stands of (open_link whole set link was) ≡ stands of was
  opened-stand link h e f =
      let steady : IsSteady set.window (link_at was.parts link) (changeover_of was.parts link) (queue_at was.queues link) (is_l7_running was link) = h.each link in
      let q : Queue = queue_at was.queues link in
      let empty : q.all ≡ [] =
      steady.moved (not-serving (link_at was.parts link).alignment (steady.associated (no-association (link_at was.parts link) e))) (complete (changeover_of was.parts link) f) in
      queue-same of was.queues link first_queue (sym (ap (λ (ms : List Message). users_that of (drop q.confirmed ms)) empty ∙ none-dropped q.confirmed))
    where
      none-dropped : (k : ℕ) → users_that of (drop k []) ≡ 0
      none-dropped zero = refl
      none-dropped (suc k) = refl

  up-by : (is_there opens restarts : Bool) (link : ℕ) → AreLinksSteady set.window was → may_open (link_at was.parts link) ≡ opens → may_restart (changeover_of was.parts link) ≡ restarts
      → stands of (if is_there then (if opens then (if restarts then answer Handled (open_link whole set link was) else refuse causes.ChangeoverPending was) else refuse causes.LinkNotReady was)
      else refuse causes.NoSuchName was).left ≡ stands of was
  up-by true true true link h e f = opened-stand link h e f
  up-by true true false link h e f = refl
  up-by true false restarts link h e f = refl
  up-by false opens restarts link h e f = refl

  -- ---- events

  quiet : {k l : ℕ} → l ≡ k → k + 0 ≡ l + 0
  quiet e = ap (λ (k : ℕ). k + 0) (sym e)

  went : (n m k : ℕ) → n ≡ m + k → n + 0 ≡ m + k
  went n m k e = omega (arith, e)

  titled-stand : (refusal : Option Cause) (row : TitleEntry) → stands of (add_title_unless refusal row was).left ≡ stands of was
  titled-stand (Some cause) row = refl
  titled-stand None row = refl

  rule-moves : (what : Happening) → Fits set was → AreLinksSteady set.window was
      → stands of was + users_that of (brought_in what a) ≡ stands of (handle_event whole set what was).left + gone_that of (gone_by what a)
  unfolding apply
  rule-moves (CameUp link) f h = quiet (up-by (is_link was.parts link) (may_open (link_at was.parts link)) (may_restart (changeover_of was.parts link)) link h refl refl)
  rule-moves (WentDown link) f h = quiet (association_down-stand of set link was)
  rule-moves (FrameCame link text) f h =
      let d : Done WholeQueues = receive whole set link text was in
      receive-moves (is_link was.parts link) (down was.parts link) link (read_frame text) f
      ∙ ap (λ (k : ℕ). k + gone_that of (gone_by (FrameCame link text) a)) (sym (late_by-stand of set d.outcome d.left))
  rule-moves Ticked f h =
      let ran : Node WholeQueues = (tick whole set was).left in
      went (stands of was) (stands of ran) (gone_that of (gone_by_tick set was)) (tick-lets of set was f)
      ∙ ap (λ (k : ℕ). k + gone_that of (gone_by_tick set was)) (sym (late_by-stand of set Handled ran))
  rule-moves (Submitted m) f h =
      let d : Done WholeQueues = submit whole set m was in
      came-alone of set (stands of was) (stands of d.left) (users_that of (brought_to (whither_goes set m) d.outcome set m was)) (submit-brings of set m was f)
  rule-moves (Activated link emergency) f h = quiet (activate-stand of set emergency link was)
  rule-moves (Deactivated link) f h = quiet (deactivate-stand of set link was)
  rule-moves (Released link) f h = quiet (release_bar-stand of set link was)
  rule-moves (TitleAdded row refused) f h = quiet (titled-stand (title_refusal was.parts.titles.rows row refused) row)
  rule-moves (TitleSet row refused) f h = quiet (titled-stand (title_set_refusal was.parts.titles.rows row refused) row)
  rule-moves (TitleRemoved key digits) f h =
      quiet (either_done-stand of set (has_row was.parts.titles.rows (place_of key digits)) (answer Handled (with_parts was (with_rows (without_row (place_of key digits) was.parts.titles.rows) was.parts)))
      (refuse causes.NoSuchName was) (stands of was) refl refl)

  whole-sum : (n a m g o h u : ℕ) → n + a ≡ m + g → m ≡ o + h → u ≡ g + h → n + a ≡ o + u
  whole-sum n a m g o h u e f i = omega (arith, e, f, i)

  event-moves : (what : Happening) → Fits set was → AreLinksSteady set.window was
      → stands of was + users_that of (brought_in what a) ≡ stands of (apply whole set what was).left + gone_that of (gone what a)
  unfolding apply
  event-moves what f h =
      let ruled : Node WholeQueues = (handle_event whole set what was).left in
      let g : Gone = gone_by what a in
      let r : Gone = gone_by_release set ruled in
      whole-sum (stands of was) (users_that of (brought_in what a)) (stands of ruled) (gone_that of g) (stands of (tell_owed whole set (release whole set ruled))) (gone_that of r) (gone_that of (both_gone g r))
      (rule-moves what f h)
      (release-lets of set ruled ((event-fit set what was).stay f) ∙ ap (λ (k : ℕ). k + gone_that of r) (sym (tell_owed-stand of set (release whole set ruled))))
      (both-that of g r)

pub conserved : user_messages_are_conserved
conserved what a of places h = event-moves of a what (record { places = places; queues = record { each = λ link. (h.each link).queue } }) h

-- ---- takes

sending-stands : (of : Message → Bool) (c : Configuration) (link : ℕ) (out : Outgoing) (n : Node WholeQueues) → stands of (after_sending whole c link n out) ≡ stands of n
sending-stands of c link (SendsStatus status) n = refl
sending-stands of c link (SendsMessage next) n =
    let q : Queue = queue_at n.queues link in
    queue-same of n.queues link (queue.sent_one q c.window) (ap (users_that of) (unconfirmed-sent_one q c.window))
sending-stands of c link Acknowledges n = refl
sending-stands of c link SendsNothing n = refl

pub take-leaves : takes_leave_user_messages
take-leaves a link of = sending-stands of a.settings link (goes_out whole a.settings link a.node) a.node
