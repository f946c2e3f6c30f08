-- So it is with whole events: with frames, with ticks, with a link that opens, and with all others.
use Rattle.exchange_rules.specs.Reroutings.{first_reroutings}
use Rattle.exchange_rules.proofs.Basics.{◌≡◌, ◌<◌, ◌&&◌, ◌+◌, ℕ, zero, suc, Bool, true, false, not, List, [], ◌++◌, Option, Some, None, Result, Ok, Err, refl, ap, ◌∙◌, arith, if◌then◌else◌, take}
use Rattle.exchange_rules.proofs.Definitions.{Message, Configuration, FrameFault, FrameValue, EmptyFrame, MessageFrame, StatusFrame, read_frame, SeqFault, Action, UserData, Alignment, Standing, Link, is_down, is_in_service, may_restart, acts_on, accept_answer, unconfirmed, count_confirmed, Node, with_parts, answer, refuse, WholeQueues, queue_at, whole, Carrying, carries, empty_data, message_data, numbers, accept, handle_by, act_by_data, receive_data, read, advance, is_link, link_at, down, may_open, open_link, association_up, changeover_of, title_refusal, title_set_refusal, with_timers, run_due, run_next, run_times, tick, with_expiry, complete_if, ChangeoverTimer, release, tell_owed, handle_event, apply, Happening, CameUp, WentDown, FrameCame, Ticked, Submitted, Activated, Deactivated, Released, TitleAdded, TitleSet, TitleRemoved, whither_goes, AreLinksSteady, IsSteady, is_l7_running}
use Rattle.exchange_rules.proofs.Definitions.{Gone, nothing_gone, both_gone, gone_by_completion, gone_by_new, confirmed_by, confirmed_at, confirmed_in, confirmed_of, gone_by_timer, gone_by_timers, gone_by_tick, new_at, new_by, new_in, new_of, new_message, accept_data, accept_frame, accept_text}
use Rattle.exchange_rules.specs.ChangingOver.{barred}
use Rattle.exchange_rules.specs.Conserving.{confirmed}
use Rattle.exchange_rules.specs.Frames.{receive}
use Rattle.exchange_rules.specs.State.{Done}
use Rattle.link.specs.declared.action.Action.TheVariants as act
use Rattle.link.specs.declared.action.LinkTimer.TheVariants as its
use Rattle.link.specs.declared.alignment.Alignment.TheVariants as stage
use Rattle.signalling_types.specs.declared.cause.Cause.TheVariants as causes
use Rattle.signalling_types.specs.declared.notice.ChangeoverTimer.TheVariants as which
use Rattle.signalling_types.specs.declared.notice.FailureReason.TheVariants as reasons
use Rattle.signalling_types.specs.declared.outcome.Outcome.TheVariants.{Handled, Ignored}
use Rattle.timers.specs.declared.name.TimerName.{TimerName}
use Rattle.timers.specs.declared.name.TimerName.TheVariants as name
use Rattle.timers.specs.Timers.{ticked, due_name, due_count, after_due}
use Rattle.network_rules.proofs.Passing.{begin_test-keeps, test_unanswered-keeps, IsFine, IsPassing, fail-keeps, advance-keeps, run_out-keeps, ask-keeps, link_status-keeps}
use Rattle.network_rules.proofs.PassingLinks.{submit_to-keeps, aside-keeps, down-keeps, activate-keeps, deactivate-keeps, release_bar-keeps, late_by-keeps, added-keeps, removed-keeps, settles}
use Rattle.network_rules.proofs.Growing.{AreGrown, Grows, MayMake, any_message, any-fine, grown-same, grown-then, growing, release-grows}
use Rattle.network_rules.proofs.Parting.{Does, SaysWord, carry-does, does-then, doubted}

-- what a frame confirms goes from the queue of its link, and then what its message lets go; or it does neither
pub data Comes (c : Configuration) (link : ℕ) (o : Option Message) (qs : WholeQueues) (m : Node WholeQueues) (ms : List Message) (g : Gone) : Type 0 where
  quiet : AreGrown qs m.queues → ms ≡ [] → g.accepted ≡ [] → g.lost ≡ [] → Comes c link o qs m ms g
  takes : (d : Carrying) (count : ℕ) (next : WholeQueues) → AreGrown qs next → accept_answer (queue_at next link) d.fsn d.bsn (carries d) ≡ Ok count
      → ms ≡ take count (unconfirmed (queue_at next link)) → Does (SaysWord c o) (whole.accepted next link d.fsn d.bsn (carries d)) m g → Comes c link o qs m ms g

-- the link may open, and nothing stands in its queue
pub data Opens (link : ℕ) (qs rs : WholeQueues) : Type 0 where
  stays : AreGrown qs rs → Opens link qs rs
  opens : (queue_at qs link).all ≡ [] → AreGrown (whole.started qs link) rs → Opens link qs rs

-- ---- a link that is down

pub not-serving : (state : Alignment) → is_down state ≡ true → is_in_service state ≡ false
not-serving stage.Down e = refl
not-serving state e = absurd cc

pub complete : (s : Standing) → may_restart s ≡ true → s.incomplete ≡ false
complete s e = by s.incomplete e
  where
    by : (incomplete : Bool) → (not incomplete && not s.awaited) ≡ true → incomplete ≡ false
    by true h = absurd cc
    by false h = refl

module _ (c : Configuration) (fits : MayMake c) where
  f : IsFine c any_message
  f = any-fine c fits

  r : IsPassing c any_message Grows
  r = growing c

  -- the end of an event
  settled-grows : (n : Node WholeQueues) → Grows n (tell_owed whole c (release whole c n))
  settled-grows n = settles c any_message f r n (release-grows c fits n)

  -- ---- a frame

  handle-comes : (x : Result ℕ SeqFault) (link : ℕ) (d : Carrying) (n : Node WholeQueues) → numbers whole c link d n ≡ x
      → Comes c link (new_by x d) n.queues (handle_by whole c x link d n).left (confirmed_by x (queue_at n.queues link)) (gone_by_new (new_by x d) c (accept whole c link d (count_confirmed x) n))
  handle-comes (Ok count) link d n e = takes d count n.queues (grown-same n.queues n.queues refl) e refl (carry-does c fits link d.message (accept whole c link d count n))
  handle-comes (Err fault) link d n e = quiet (fail-keeps c any_message f r link reasons.Sequence n).queues refl refl refl

  comes-after : (link : ℕ) (o : Option Message) (qs rs : WholeQueues) (m : Node WholeQueues) (ms : List Message) (g : Gone) → AreGrown qs rs → Comes c link o rs m ms g → Comes c link o qs m ms g
  comes-after link o qs rs m ms g e (quiet h i k v) = quiet (grown-then qs rs m.queues e h) i k v
  comes-after link o qs rs m ms g e (takes d count next h i k l) = takes d count next (grown-then qs rs next e h) i k l

  act-comes : (a : Action) (link : ℕ) (d : Carrying) (n : Node WholeQueues)
      → Comes c link (new_at a link d c n) n.queues (act_by_data whole c a link d n).left (confirmed_at a link d c n) (gone_by_new (new_at a link d c n) c (accept_data a link d c n))
  act-comes act.Ignored link d n = quiet (grown-same n.queues n.queues refl) refl refl refl
  act-comes act.Fail link d n = quiet (fail-keeps c any_message f r link reasons.Sequence n).queues refl refl refl
  act-comes (act.Go step) link d n =
      let next : Node WholeQueues = advance whole c link step n in
      let x : Result ℕ SeqFault = numbers whole c link d next in
      comes-after link (new_by x d) n.queues next.queues (handle_by whole c x link d next).left (confirmed_by x (queue_at next.queues link)) (gone_by_new (new_by x d) c (accept whole c link d (count_confirmed x) next))
      (advance-keeps c any_message f r link step n).queues (handle-comes x link d next refl)

  data-comes : (link : ℕ) (d : Carrying) (n : Node WholeQueues)
      → Comes c link (new_in (Some d) link c n) n.queues (receive_data whole c link d n).left (confirmed_in (Some d) link c n) (gone_by_new (new_in (Some d) link c n) c (accept_frame (Some d) link c n))
  data-comes link d n = act-comes (acts_on (link_at n.parts link) UserData) link d n

  frame-comes : (link : ℕ) (x : Result FrameValue FrameFault) (n : Node WholeQueues)
      → Comes c link (new_of x link c n) n.queues (read whole c link x n).left (confirmed_of x link c n) (gone_by_new (new_of x link c n) c (accept_text link x (record { settings = c; node = n; reroutings = first_reroutings c })))
  frame-comes link (Ok (EmptyFrame bsn fsn)) n = data-comes link (empty_data bsn fsn) n
  frame-comes link (Ok (MessageFrame bsn fsn sio sif)) n = data-comes link (message_data bsn fsn sio sif) n
  frame-comes link (Ok (StatusFrame bsn fsn status)) n = quiet (link_status-keeps c any_message f r link status n).queues refl refl refl
  frame-comes link (Err fault) n = quiet (aside-keeps c any_message f r link fault n).queues refl refl refl

  receive-comes : (is_there is_down : Bool) (link : ℕ) (x : Result FrameValue FrameFault) (n : Node WholeQueues)
      → Comes c link (if is_there && not is_down then new_of x link c n else None) n.queues
      (if is_there then (if is_down then answer Ignored n else read whole c link x n) else refuse causes.NoSuchName n).left
      (if is_there && not is_down then confirmed_of x link c n else [])
      (gone_by_new (if is_there && not is_down then new_of x link c n else None) c (accept_text link x (record { settings = c; node = n; reroutings = first_reroutings c })))
  receive-comes false is_down link x n = quiet (grown-same n.queues n.queues refl) refl refl refl
  receive-comes true true link x n = quiet (grown-same n.queues n.queues refl) refl refl refl
  receive-comes true false link x n = frame-comes link x n

  comes-then : (link : ℕ) (o : Option Message) (qs : WholeQueues) (m s : Node WholeQueues) (ms : List Message) (g : Gone) → Grows m s → Comes c link o qs m ms g → Comes c link o qs s ms g
  comes-then link o qs m s ms g e (quiet h i l v) = quiet (grown-then qs m.queues s.queues h e.queues) i l v
  comes-then link o qs m s ms g e (takes d count next h i l t) = takes d count next h i l (does-then m s e.queues t)

  pub frame-event : (link : ℕ) (text : List ℕ) (n : Node WholeQueues)
      → Comes c link (new_message link text (record { settings = c; node = n; reroutings = first_reroutings c })) n.queues (apply whole c (FrameCame link text) n).left (confirmed link text (record { settings = c; node = n; reroutings = first_reroutings c }))
      (gone_by_new (new_message link text (record { settings = c; node = n; reroutings = first_reroutings c })) c (accept_text link (read_frame text) (record { settings = c; node = n; reroutings = first_reroutings c })))
  unfolding apply
  frame-event link text n =
      let came : Done WholeQueues = receive whole c link text n in
      let d : Node WholeQueues = (handle_event whole c (FrameCame link text) n).left in
      let o : Option Message = new_message link text (record { settings = c; node = n; reroutings = first_reroutings c }) in
      let ms : List Message = confirmed link text (record { settings = c; node = n; reroutings = first_reroutings c }) in
      comes-then link o n.queues d (tell_owed whole c (release whole c d)) ms _ (settled-grows d)
      (comes-then link o n.queues came.left d ms _ (late_by-keeps c any_message f r came.outcome came.left) (receive-comes (is_link n.parts link) (down n.parts link) link (read_frame text) n))

  -- ---- a tick: it lets nothing go, or a changeover ends with no number

  pub data Ticks (qs : WholeQueues) (m : Node WholeQueues) (g : Gone) : Type 0 where
    runs : AreGrown qs m.queues → g.accepted ≡ [] → g.lost ≡ [] → Ticks qs m g
    runs_out : 0 < g.doubts → Ticks qs m g

  idle : (n : Node WholeQueues) → Ticks n.queues n nothing_gone
  idle n = runs (grown-same n.queues n.queues refl) refl refl

  ending-ticks : (incomplete : Bool) (link : ℕ) (n : Node WholeQueues) → Ticks n.queues (complete_if whole c incomplete link None n) (gone_by_completion incomplete link None n.queues)
  ending-ticks true link n = runs_out (doubted (whole.found n.queues link None).is_reasonable refl)
  ending-ticks false link n = idle n

  expiry-ticks : (is_there : Bool) (expired : ChangeoverTimer) (link : ℕ) (n : Node WholeQueues)
      → Ticks n.queues (if is_there then complete_if whole c (changeover_of n.parts link).incomplete link None (with_parts n (with_expiry c expired link (barred c link n.parts))) else n)
      (if is_there then gone_by_completion (changeover_of n.parts link).incomplete link None n.queues else nothing_gone)
  expiry-ticks true expired link n = ending-ticks (changeover_of n.parts link).incomplete link (with_parts n (with_expiry c expired link (barred c link n.parts)))
  expiry-ticks false expired link n = idle n

  passing : (n m : Node WholeQueues) → Grows n m → Ticks n.queues m nothing_gone
  passing n m h = runs h.queues refl refl

  timer-ticks : (due : Option TimerName) (n : Node WholeQueues) → Ticks n.queues (run_due whole c due n) (gone_by_timer due n)
  timer-ticks None n = idle n
  timer-ticks (Some (name.L1 link)) n = passing n _ (run_out-keeps c any_message f r link its.L1 n)
  timer-ticks (Some (name.L2 link)) n = passing n _ (run_out-keeps c any_message f r link its.L2 n)
  timer-ticks (Some (name.L3 link)) n = passing n _ (run_out-keeps c any_message f r link its.L3 n)
  timer-ticks (Some (name.L4 link)) n = passing n _ (run_out-keeps c any_message f r link its.L4 n)
  timer-ticks (Some (name.L6 link)) n = passing n _ (run_out-keeps c any_message f r link its.L6 n)
  timer-ticks (Some (name.L7 link)) n = passing n _ (run_out-keeps c any_message f r link its.L7 n)
  timer-ticks (Some (name.T1 link)) n = expiry-ticks (is_link n.parts link) which.T1 link n
  timer-ticks (Some (name.T2 link)) n = expiry-ticks (is_link n.parts link) which.T2 link n
  timer-ticks (Some (name.T3 link)) n = runs (grown-same n.queues n.queues refl) refl refl
  timer-ticks (Some (name.T4 set code)) n = runs (grown-same n.queues n.queues refl) refl refl
  timer-ticks (Some (name.T6 destination)) n = runs (grown-same n.queues n.queues refl) refl refl
  timer-ticks (Some (name.T8 set destination)) n = idle n
  timer-ticks (Some (name.T10 set destination)) n = passing n _ (ask-keeps c any_message f r set destination n)
  timer-ticks (Some (name.Slt1 link)) n = passing n _ (test_unanswered-keeps c any_message f r link n)
  timer-ticks (Some (name.Slt2 link)) n = passing n _ (begin_test-keeps c any_message f r link n)

  first-doubts : (k l : ℕ) → 0 < k → 0 < k + l
  first-doubts k l e = omega (arith, e)

  later-doubts : (k l : ℕ) → 0 < l → 0 < k + l
  later-doubts k l e = omega (arith, e)

  both-tick : (qs : WholeQueues) (m s : Node WholeQueues) (g h : Gone) → Ticks qs m g → Ticks m.queues s h → Ticks qs s (both_gone g h)
  both-tick qs m s g h (runs e i o) (runs t u v) = runs (grown-then qs m.queues s.queues e t) (ap (λ (ms : List Message). ms ++ h.accepted) i ∙ u) (ap (λ (ms : List Message). ms ++ h.lost) o ∙ v)
  both-tick qs m s g h (runs e i o) (runs_out l) = runs_out (later-doubts g.doubts h.doubts l)
  both-tick qs m s g h (runs_out l) t = runs_out (first-doubts g.doubts h.doubts l)

  times-tick : (many : ℕ) (n : Node WholeQueues) → Ticks n.queues (run_times whole c many n) (gone_by_timers many c n)
  times-tick zero n = idle n
  times-tick (suc more) n =
      let handed : Node WholeQueues = with_timers n (after_due n.parts.timers) in
      let ran : Node WholeQueues = run_next whole c n in
      both-tick n.queues ran (run_times whole c more ran) (gone_by_timer (due_name n.parts.timers) handed) (gone_by_timers more c ran)
      (timer-ticks (due_name n.parts.timers) handed) (times-tick more ran)

  ticks-then : (qs : WholeQueues) (m s : Node WholeQueues) (g : Gone) → Grows m s → Ticks qs m g → Ticks qs s g
  ticks-then qs m s g e (runs h i o) = runs (grown-then qs m.queues s.queues h e.queues) i o
  ticks-then qs m s g e (runs_out l) = runs_out l

  pub tick-event : (n : Node WholeQueues) → Ticks n.queues (apply whole c Ticked n).left (gone_by_tick c n)
  unfolding apply
  tick-event n =
      let ran : Node WholeQueues = run_times whole c (due_count (ticked n.parts.timers)) (with_timers n (ticked n.parts.timers)) in
      let d : Node WholeQueues = (handle_event whole c Ticked n).left in
      let last : Node WholeQueues = tell_owed whole c (release whole c d) in
      ticks-then n.queues ran last (gone_by_tick c n)
      (record { queues = grown-then ran.queues d.queues last.queues (late_by-keeps c any_message f r Handled (tick whole c n).left).queues (settled-grows d).queues })
      (times-tick (due_count (ticked n.parts.timers)) (with_timers n (ticked n.parts.timers)))

  -- ---- a link opens: it is down without an association, so nothing stands in its queue

  no-association : (l : Link) → may_open l ≡ true → l.association ≡ false
  no-association l e = by l.association e
    where
      by : (association : Bool) → (not association && l.active) ≡ true → association ≡ false
      by true h = absurd cc
      by false h = refl

  opened-empty : (link : ℕ) (n : Node WholeQueues) → AreLinksSteady c.window n → may_open (link_at n.parts link) ≡ true → may_restart (changeover_of n.parts link) ≡ true → (queue_at n.queues link).all ≡ []
  opened-empty link n h e g =
      let steady : IsSteady c.window (link_at n.parts link) (changeover_of n.parts link) (queue_at n.queues link) (is_l7_running n link) = h.each link in
      steady.moved (not-serving (link_at n.parts link).alignment (steady.associated (no-association (link_at n.parts link) e))) (complete (changeover_of n.parts link) g)

  up-by : (is_there may restarts : Bool) (link : ℕ) (n : Node WholeQueues) → AreLinksSteady c.window n → may_open (link_at n.parts link) ≡ may → may_restart (changeover_of n.parts link) ≡ restarts
      → Opens link n.queues
      (if is_there then (if may then (if restarts then answer Handled (open_link whole c link n) else refuse causes.ChangeoverPending n) else refuse causes.LinkNotReady n) else refuse causes.NoSuchName n).left.queues
  up-by true true true link n h e g = opens (opened-empty link n h e g) (grown-same (whole.started n.queues link) (whole.started n.queues link) refl)
  up-by true true false link n h e g = stays (grown-same n.queues n.queues refl)
  up-by true false restarts link n h e g = stays (grown-same n.queues n.queues refl)
  up-by false may restarts link n h e g = stays (grown-same n.queues n.queues refl)

  opens-then : (link : ℕ) (qs rs ss : WholeQueues) → AreGrown rs ss → Opens link qs rs → Opens link qs ss
  opens-then link qs rs ss e (stays h) = stays (grown-then qs rs ss h e)
  opens-then link qs rs ss e (opens i h) = opens i (grown-then (whole.started qs link) rs ss h e)

  pub up-event : (link : ℕ) (n : Node WholeQueues) → AreLinksSteady c.window n → Opens link n.queues (apply whole c (CameUp link) n).left.queues
  unfolding apply
  up-event link n h =
      let d : Node WholeQueues = (association_up whole c link n).left in
      opens-then link n.queues d.queues (tell_owed whole c (release whole c d)).queues (settled-grows d).queues
      (up-by (is_link n.parts link) (may_open (link_at n.parts link)) (may_restart (changeover_of n.parts link)) link n h refl refl)

  -- ---- any other event

  abbrev pub IsOther : Happening → Type 0
  IsOther (CameUp link) = ⊥
  IsOther (FrameCame link text) = ⊥
  IsOther Ticked = ⊥
  IsOther (WentDown link) = Unit {0}
  IsOther (Submitted message) = Unit {0}
  IsOther (Activated link emergency) = Unit {0}
  IsOther (Deactivated link) = Unit {0}
  IsOther (Released link) = Unit {0}
  IsOther (TitleAdded row is_memory_refused) = Unit {0}
  IsOther (TitleSet row is_memory_refused) = Unit {0}
  IsOther (TitleRemoved key digits) = Unit {0}

  handled-grows : (what : Happening) (n : Node WholeQueues) → IsOther what → Grows n (handle_event whole c what n).left
  handled-grows (CameUp link) n e = absurd e
  handled-grows (FrameCame link text) n e = absurd e
  handled-grows Ticked n e = absurd e
  handled-grows (WentDown link) n e = down-keeps c any_message f r link n
  handled-grows (Submitted message) n e = submit_to-keeps c any_message f r (whither_goes c message) message n
  handled-grows (Activated link emergency) n e = activate-keeps c any_message f r emergency link n
  handled-grows (Deactivated link) n e = deactivate-keeps c any_message f r link n
  handled-grows (Released link) n e = release_bar-keeps c any_message f r link n
  handled-grows (TitleAdded row is_memory_refused) n e = added-keeps c any_message f r (title_refusal n.parts.titles.rows row is_memory_refused) row n
  handled-grows (TitleSet row is_memory_refused) n e = added-keeps c any_message f r (title_set_refusal n.parts.titles.rows row is_memory_refused) row n
  handled-grows (TitleRemoved key digits) n e = removed-keeps c any_message f r key digits n

  pub other-event : (what : Happening) (n : Node WholeQueues) → IsOther what → AreGrown n.queues (apply whole c what n).left.queues
  unfolding apply
  other-event what n e =
      let d : Node WholeQueues = (handle_event whole c what n).left in
      grown-then n.queues d.queues (tell_owed whole c (release whole c d)).queues (handled-grows what n e).queues (settled-grows d).queues
