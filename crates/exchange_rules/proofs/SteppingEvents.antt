-- Frames, ticks, releases, whole events, and what goes out: each is made of steps.
use Rattle.exchange_rules.proofs.Basics.{◌≡◌, inl, inr, ℕ, zero, suc, Bool, true, false, List, [], ◌∷◌, Option, Some, None, Result, Ok, Err, refl, ap, ◌∙◌, if◌then◌else◌, slice_get, drop, ◌&&◌, not, sym}
use Rattle.exchange_rules.specs.State.{Reroutings}
use Rattle.exchange_rules.specs.Reroutings.{first_reroutings}
use Rattle.exchange_rules.proofs.Definitions.{Message, flow_of, Configuration, Ignored, FrameFault, FrameValue, EmptyFrame, MessageFrame, StatusFrame, read_frame, LinkStatus, Action, UserData, LinkTimer, timer_name, acts_on, Sending, SeqFault, TimerName, ticked, due_name, after_due, due_count, Link, down_link, is_in_service, Time, Code, Reroute, Parts, Node, with_parts, answer, refuse, is_link, link_at, down, in_service, link_of, waits, late_time, late_code, tell_owed, advance, Carrying, empty_data, message_data, owing, timed_parts, numbers, accept, carry, handle_by, act_by_data, receive_data, leave_aside, read, with_timers, run_timer, run_due, run_next, run_times, tick, go_on, go_by, go, go_each, release, Outgoing, if_owed, message_first, status_first, without_owed, next_message, after_sending, after_take, Happening, CameUp, WentDown, FrameCame, Ticked, Submitted, Activated, Deactivated, TitleAdded, TitleSet, TitleRemoved, handle_event, apply, WholeQueues, whole, new_by, new_at, new_in, new_of, Procedure, Changeover, run_all, subsystems_ticked, Facts, is_first_test, has_other, set_of, network_of, once_more, Released, Done, receive}
use Rattle.signalling_types.specs.declared.cause.Cause.TheVariants as causes
use Rattle.signalling_types.specs.declared.notice.Notice.TheVariants as notices
use Rattle.signalling_types.specs.declared.notice.LateTimer.TheVariants as late_timer
use Rattle.signalling_types.specs.declared.notice.FailureReason.TheVariants as reasons
use Rattle.signalling_types.specs.declared.notice.FrameFault.TheVariants as faults
use Rattle.signalling_types.specs.declared.notice.ChangeoverTimer.TheVariants as changeover
use Rattle.link.specs.declared.action.Action.TheVariants as act
use Rattle.link.specs.declared.action.LinkTimer.TheVariants as timer
use Rattle.timers.specs.declared.name.TimerName.TheVariants as name
use Rattle.routes.specs.Routes.{has_link, set_at}
use Rattle.node_links.proofs.Serving.{facts_alike}
use Rattle.exchange_rules.proofs.Lists.{alike-at}
use Rattle.exchange_rules.proofs.Serving.{data-serves, fails-up, serves-up}
use Rattle.exchange_rules.proofs.SteppingTests.{begin_test-steps, test_unanswered-steps}
use Rattle.exchange_rules.proofs.Steps.{confirming, Deed, IsOfDeeds, LinkFails, HoldsEnd, Lacking, anything, IsOfRules, LinkOpens, TitlesChange, brings_back, SetReturns, WaitEnds}
use Rattle.exchange_rules.proofs.SteppingMessages.{ask_again-steps, tell_owed-steps}
use Rattle.exchange_rules.proofs.SteppingRelaying.{add_title-steps, set_title-steps, remove_title-steps}
use Rattle.exchange_rules.proofs.SteppingLinks.{AllowsStatus, advance-serves, advance-steps, on_link_status-steps, run_out-steps, association_up-steps, association_down-steps, activate-steps, deactivate-steps, release_bar-steps}
use Rattle.exchange_rules.proofs.SteppingLocal.{Allows, AllowsMessage, deliver-steps, submit-steps}
use Rattle.exchange_rules.proofs.SteppingLate.{late_by-steps, order_all-steps}
use Rattle.exchange_rules.specs.LawsOfUserParts.{brings_lacking}
use Rattle.exchange_rules.specs.LawsOfCauses.{Word, ended_by_timer, fails_by, is_misplaced, is_misplaced_at, is_misplaced_in, is_wrong, word_heard}
use Rattle.exchange_rules.specs.LawsOfSubsystems.{changes_titles}

-- a message that came is to be acknowledged on a link that carries messages as before
pub owing-serves : (link : ℕ) (m : Option Message) (p : Parts) → in_service (owing link m p) link ≡ in_service p link
owing-serves link None p = refl
owing-serves link (Some m) p = alike-at (λ (l : Link). is_in_service l.alignment) p.links link link (record (link_at p link) { acknowledgement_owed = true }) down_link refl

-- nor does it bring back a set
owing-brings : (c : Configuration) (link : ℕ) (m : Option Message) (p : Parts) → brings_back c link p ≡ brings_back c link (owing link m p)
owing-brings c link None p = refl
owing-brings c link (Some m) p =
    let owed : Link = record (link_at p link) { acknowledgement_owed = true } in
    sym (ap (λ (f : Facts). is_first_test link (owing link (Some m) p) && not (has_link f.in_service (set_at f (set_of c link)))) (facts_alike (network_of c p) link owed refl)
    ∙ ap (λ (b : Bool). b && not (has_other c link p)) (alike-at (λ (l : Link). is_in_service l.alignment && l.untested) p.links link link owed down_link refl))

-- the link of which an event is a frame, or which begins an epoch by it; what a tick does to links is said by itself
abbrev pub IsOf : Happening → ℕ → Type 0
IsOf (CameUp link) l = l ≡ link
IsOf (WentDown link) l = ⊥
IsOf (FrameCame link text) l = l ≡ link
IsOf Ticked l = ⊥
IsOf (Submitted message) l = ⊥
IsOf (Activated link emergency) l = ⊥
IsOf (Deactivated link) l = ⊥
IsOf (Released link) l = ⊥
IsOf (TitleAdded row is_memory_refused) l = ⊥
IsOf (TitleSet row is_memory_refused) l = ⊥
IsOf (TitleRemoved key digits) l = ⊥

-- what a frame may do that came by a link, but for what it says to the node
pub record AllowsFrame (c : Configuration) (May : Deed → Type 0) (link : ℕ) (r : Result FrameValue FrameFault) (n : Node WholeQueues) : Type 0 where
  pub wrong : is_misplaced r link c n ≡ true → May (LinkFails link reasons.Sequence)
  pub length : r ≡ Err faults.Length → May (LinkFails link reasons.Length)
  pub status : (bsn fsn : ℕ) (status : LinkStatus) → r ≡ Ok (StatusFrame bsn fsn status) → AllowsStatus c May link status n
  pub returns : May (SetReturns (set_of c link))

-- what a timer may do
pub record AllowsTimer (May : Deed → Type 0) (timer : TimerName) : Type 0 where
  pub ends : (procedure : Procedure) → ended_by_timer timer ≡ Some procedure → May (HoldsEnd procedure)
  pub fails : (link : ℕ) (its : LinkTimer) → timer ≡ timer_name link its → fails_by its ≡ true → May (LinkFails link reasons.Timer)
  pub tests : (link : ℕ) → timer ≡ name.Slt1 link → May (LinkFails link reasons.Test)
  pub waits : (link : ℕ) → timer ≡ name.T2 link → May (WaitEnds link)

-- what an event may do, but for a tick
pub record AllowsEvent (c : Configuration) (May : Deed → Type 0) (what : Happening) (n : Node WholeQueues) (r : Reroutings) : Type 0 where
  pub opens : (link : ℕ) → what ≡ CameUp link → May (LinkOpens link)
  pub lost : (link : ℕ) → what ≡ WentDown link → May (LinkFails link reasons.Association)
  pub ordered : (link : ℕ) → what ≡ Deactivated link → May (LinkFails link reasons.Operator)
  pub released : (link : ℕ) → what ≡ Released link → May (WaitEnds link)
  pub frame : (link : ℕ) (text : List ℕ) → what ≡ FrameCame link text → AllowsFrame c May link (read_frame text) n
  pub words : (word : Word) → word_heard what (record { settings = c; node = n; reroutings = r }) ≡ Some word → Allows c May word
  pub lacking : brings_lacking what (record { settings = c; node = n; reroutings = r }) ≡ true → May Lacking
  pub titles : changes_titles what (record { settings = c; node = n; reroutings = r }) ≡ true → May TitlesChange

module _ {c : Configuration} {Own Counts : ℕ → Type 0} {May : Deed → Type 0} {R : Node WholeQueues → Node WholeQueues → Type 0} (s : IsOfDeeds c Own Counts May R) where
  -- ---- a frame

  pub carry-deeds : (link : ℕ) (m : Option Message) (n : Node WholeQueues) → (brings_back c link n.parts ≡ true → May (SetReturns (set_of c link))) → in_service n.parts link ≡ true → AllowsMessage c May m
      → R n (carry whole c link m n).left
  carry-deeds link None n back e may = s.sends.none n
  carry-deeds link (Some m) n back e may = deliver-steps s link m n back e may

  pub owing-steps : (link : ℕ) (m : Option Message) (n : Node WholeQueues) → R n (with_parts n (owing link m n.parts))
  owing-steps link None n = s.sends.none n
  owing-steps link (Some m) n = s.linked link (record (link_at n.parts link) { acknowledgement_owed = true }) n (record { alignment = refl; period = refl; association = refl; busy = refl; waits = inl refl; untested = refl }) refl

  pub handle_by-deeds : (answer : Result ℕ SeqFault) (link : ℕ) (d : Carrying) (n : Node WholeQueues) → (brings_back c link n.parts ≡ true → May (SetReturns (set_of c link))) → Counts link → in_service n.parts link ≡ true → numbers whole c link d n ≡ answer
      → (is_wrong answer ≡ true → May (LinkFails link reasons.Sequence)) → AllowsMessage c May (new_by answer d) → R n (handle_by whole c answer link d n).left
  handle_by-deeds (Ok confirmed) link d n back counts e f wrong may =
      let next : Node WholeQueues = accept whole c link d confirmed n in
      s.sends.both _ _ _ (s.sends.both _ _ _ (s.accepted link d confirmed n counts e f) (owing-steps link d.message (confirming c link d confirmed n)))
      (carry-deeds link d.message next (λ first. back (owing-brings c link d.message (timed_parts c link confirmed (whole.outstanding next.queues link) n.parts) ∙ first)) (owing-serves link d.message (timed_parts c link confirmed (whole.outstanding next.queues link) n.parts) ∙ e) may)
  handle_by-deeds (Err fault) link d n back counts e f wrong may = s.fails link reasons.Sequence n (wrong refl) (serves-up (link_at n.parts link).alignment e)

  act_by_data-deeds : (a : Action) (link : ℕ) (d : Carrying) (n : Node WholeQueues) → Own link → May (SetReturns (set_of c link)) → Counts link → acts_on (link_at n.parts link) UserData ≡ a
      → (is_misplaced_at a link d c n ≡ true → May (LinkFails link reasons.Sequence)) → AllowsMessage c May (new_at a link d c n)
      → R n (act_by_data whole c a link d n).left
  act_by_data-deeds act.Ignored link d n own back counts e wrong may = s.sends.none n
  act_by_data-deeds act.Fail link d n own back counts e wrong may = s.fails link reasons.Sequence n (wrong refl) (fails-up (link_at n.parts link).period (link_at n.parts link).alignment UserData e)
  act_by_data-deeds (act.Go step) link d n own back counts e wrong may =
      let next : Node WholeQueues = advance whole c link step n in
      s.sends.both _ _ _ (advance-steps s link UserData step n own e)
      (handle_by-deeds (numbers whole c link d next) link d next (λ first. back) counts
      (advance-serves c link UserData step n e ∙ data-serves (link_at n.parts link).period (link_at n.parts link).alignment step e) refl wrong may)

  receive_data-deeds : (link : ℕ) (d : Carrying) (n : Node WholeQueues) → Own link → May (SetReturns (set_of c link)) → Counts link → (is_misplaced_in (Some d) link c n ≡ true → May (LinkFails link reasons.Sequence))
      → AllowsMessage c May (new_in (Some d) link c n) → R n (receive_data whole c link d n).left
  receive_data-deeds link d n own back counts wrong may = act_by_data-deeds (acts_on (link_at n.parts link) UserData) link d n own back counts refl wrong may

  pub leave_aside-deeds : (link : ℕ) (fault : FrameFault) (n : Node WholeQueues) → down n.parts link ≡ false → (fault ≡ faults.Length → May (LinkFails link reasons.Length)) → R n (leave_aside whole c link fault n).left
  leave_aside-deeds link faults.Length n up may = s.fails link reasons.Length n (may refl) up
  leave_aside-deeds link faults.Short n up may = s.sends.noted (notices.Frame faults.Short link) n (record { other = refl; lost = λ f. absurd cc; late = λ f. absurd cc })
  leave_aside-deeds link faults.Version n up may = s.sends.noted (notices.Frame faults.Version link) n (record { other = refl; lost = λ f. absurd cc; late = λ f. absurd cc })
  leave_aside-deeds link faults.Unknown n up may = s.sends.noted (notices.Frame faults.Unknown link) n (record { other = refl; lost = λ f. absurd cc; late = λ f. absurd cc })

  read-deeds : (link : ℕ) (r : Result FrameValue FrameFault) (n : Node WholeQueues) → Own link → Counts link → down n.parts link ≡ false → AllowsFrame c May link r n
      → AllowsMessage c May (new_of r link c n) → R n (read whole c link r n).left
  read-deeds link (Ok (EmptyFrame bsn fsn)) n own counts up allows may = receive_data-deeds link (empty_data bsn fsn) n own allows.returns counts allows.wrong may
  read-deeds link (Ok (MessageFrame bsn fsn sio sif)) n own counts up allows may = receive_data-deeds link (message_data bsn fsn sio sif) n own allows.returns counts allows.wrong may
  read-deeds link (Ok (StatusFrame bsn fsn status)) n own counts up allows may = on_link_status-steps s link status n own (allows.status bsn fsn status refl)
  read-deeds link (Err fault) n own counts up allows may = leave_aside-deeds link fault n up (λ e. allows.length (ap (λ (x : FrameFault). Err x) e))

  receive-deeds : (there gone : Bool) (link : ℕ) (r : Result FrameValue FrameFault) (n : Node WholeQueues) → Own link → Counts link → down n.parts link ≡ gone → AllowsFrame c May link r n
      → AllowsMessage c May (if there && not gone then new_of r link c n else None)
      → R n (if there then (if gone then answer Ignored n else read whole c link r n) else refuse causes.NoSuchName n).left
  receive-deeds false gone link r n own counts e allows may = s.sends.none n
  receive-deeds true true link r n own counts e allows may = s.sends.none n
  receive-deeds true false link r n own counts e allows may = read-deeds link r n own counts e allows may

  -- ---- timers that are due

  late_time-steps : (link : ℕ) (n : Node WholeQueues) → May (HoldsEnd (Time link)) → R n (with_parts n (late_time link n.parts))
  late_time-steps link n may =
      s.sends.both _ _ _ (s.late (notices.Late late_timer.T3 link) n refl) (s.lifts (Time link) _ may)

  late_code-steps : (set code : ℕ) (n : Node WholeQueues) → May (HoldsEnd (Code set code)) → R n (with_parts n (late_code set code n.parts))
  late_code-steps set code n may =
      s.sends.both _ _ _ (s.late (notices.Late late_timer.T4 code) n refl) (s.lifts (Code set code) _ may)

  pub run_timer-deeds : (timer : TimerName) (n : Node WholeQueues) → ((link : ℕ) (its : LinkTimer) → timer ≡ timer_name link its → Own link) → AllowsTimer May timer → R n (run_timer whole c timer n)
  run_timer-deeds (name.L1 link) n own may = run_out-steps s link timer.L1 n (own link timer.L1 refl) (may.fails link timer.L1 refl)
  run_timer-deeds (name.L2 link) n own may = run_out-steps s link timer.L2 n (own link timer.L2 refl) (may.fails link timer.L2 refl)
  run_timer-deeds (name.L3 link) n own may = run_out-steps s link timer.L3 n (own link timer.L3 refl) (may.fails link timer.L3 refl)
  run_timer-deeds (name.L4 link) n own may = run_out-steps s link timer.L4 n (own link timer.L4 refl) (may.fails link timer.L4 refl)
  run_timer-deeds (name.L6 link) n own may = run_out-steps s link timer.L6 n (own link timer.L6 refl) (may.fails link timer.L6 refl)
  run_timer-deeds (name.L7 link) n own may = run_out-steps s link timer.L7 n (own link timer.L7 refl) (may.fails link timer.L7 refl)
  run_timer-deeds (name.T1 link) n own may = s.expires changeover.T1 link n (may.ends (Changeover link) refl) (λ e. absurd cc)
  run_timer-deeds (name.T2 link) n own may = s.expires changeover.T2 link n (may.ends (Changeover link) refl) (λ e. may.waits link refl)
  run_timer-deeds (name.T3 link) n own may = late_time-steps link n (may.ends (Time link) refl)
  run_timer-deeds (name.T4 set code) n own may = late_code-steps set code n (may.ends (Code set code) refl)
  run_timer-deeds (name.T6 destination) n own may = s.lifts (Reroute destination) n (may.ends (Reroute destination) refl)
  run_timer-deeds (name.T8 set destination) n own may = s.sends.none n
  run_timer-deeds (name.T10 set destination) n own may = ask_again-steps s set destination n
  run_timer-deeds (name.Slt1 link) n own may = test_unanswered-steps s link n (may.tests link refl)
  run_timer-deeds (name.Slt2 link) n own may = begin_test-steps s link n

  pub run_due-deeds : (timer : Option TimerName) (n : Node WholeQueues) → ((link : ℕ) (its : LinkTimer) → timer ≡ Some (timer_name link its) → Own link)
      → ((its : TimerName) → timer ≡ Some its → AllowsTimer May its) → R n (run_due whole c timer n)
  run_due-deeds None n own may = s.sends.none n
  run_due-deeds (Some timer) n own may = run_timer-deeds timer n (λ link its e. own link its (ap (λ (x : TimerName). Some x) e)) (may timer refl)

  -- ---- release

  go_on-steps : (link : Option ℕ) (m : Message) (n : Node WholeQueues) → link_of c n.parts (flow_of m) ≡ link → R n (go_on whole c link m n)
  go_on-steps (Some link) m n e = s.sends.routed link m n e
  go_on-steps None m n e =
      s.sends.both _ _ _ (s.sends.lost (notices.Lost causes.NoRoute (flow_of m).point (flow_of m).sls) n refl)
      (s.sends.counted (once_more n.parts.messages_lost) n.parts.times_broken _)

  pub go_by-steps : (waiting : Bool) (m : Message) (n : Node WholeQueues) → waits c n.parts.holds m ≡ waiting → R n (go_by whole c waiting m n)
  go_by-steps true m n e = s.held m n e
  go_by-steps false m n e = go_on-steps (link_of c n.parts (flow_of m)) m n refl

  go_each-steps : (ms : List Message) (n : Node WholeQueues) → R n (go_each whole c ms n)
  go_each-steps [] n = s.sends.none n
  go_each-steps (m ∷ ms) n = s.sends.both _ _ _ (go_by-steps (waits c n.parts.holds m) m n refl) (go_each-steps ms (go whole c m n))

  pub release-steps : (n : Node WholeQueues) → R n (release whole c n)
  release-steps n = s.sends.both _ _ _ (s.taken_out n) (go_each-steps n.queues.held (record n { queues = whole.without_held n.queues }))

  -- ---- what goes out

  status-steps : (link : ℕ) (status : Option LinkStatus) (next : Outgoing) (n : Node WholeQueues) → Own link
      → R n (after_sending whole c link n next) → R n (after_sending whole c link n (status_first status next))
  status-steps link (Some status) next n own e =
      s.linked link (record (link_at n.parts link) { waiting = drop 1 (link_at n.parts link).waiting }) n (record { alignment = refl; period = refl; association = refl; busy = refl; waits = inr (inl refl); untested = refl }) refl
  status-steps link None next n own e = e

  owed-steps : (link : ℕ) (owed : Bool) (n : Node WholeQueues) → R n (after_sending whole c link n (if_owed owed))
  owed-steps link true n = s.linked link (without_owed (link_at n.parts link)) n (record { alignment = refl; period = refl; association = refl; busy = refl; waits = inl refl; untested = refl }) refl
  owed-steps link false n = s.sends.none n

  message-steps : (link : ℕ) (next : Option Sending) (owed : Bool) (n : Node WholeQueues) → Own link → next_message whole c link n ≡ next
      → R n (after_sending whole c link n (message_first next owed))
  message-steps link (Some next) owed n own e = s.sent link next n own e
  message-steps link None owed n own e = owed-steps link owed n

  pub take-steps : (link : ℕ) (n : Node WholeQueues) → Own link → R n (after_take whole c link n)
  take-steps link n own =
      let owed : Bool = (link_at n.parts link).acknowledgement_owed in
      status-steps link (slice_get (link_at n.parts link).waiting 0) (message_first (next_message whole c link n) owed) n own
      (message-steps link (next_message whole c link n) owed n own refl)

  -- ---- events

  -- timers that are due are handed out and run, one after the other
  run_times-steps : (many : ℕ) (n : Node WholeQueues) → ((m : Node WholeQueues) → R m (run_next whole c m)) → R n (run_times whole c many n)
  run_times-steps zero n each = s.sends.none n
  run_times-steps (suc more) n each = s.sends.both _ _ _ (each n) (run_times-steps more (run_next whole c n) each)

  handle_event-deeds : {r : Reroutings} (what : Happening) (n : Node WholeQueues) → ((link : ℕ) → IsOf what link → Own link) → ((link : ℕ) → IsOf what link → Counts link)
      → AllowsEvent c May what n r → (what ≡ Ticked → R n (tick whole c n).left) → R n (handle_event whole c what n).left
  handle_event-deeds (CameUp link) n own counts may ticks = association_up-steps s link n (counts link refl) (may.opens link refl)
  handle_event-deeds (WentDown link) n own counts may ticks = association_down-steps s link n (may.lost link refl)
  handle_event-deeds (FrameCame link text) n own counts may ticks =
      let d : Done WholeQueues = receive whole c link text n in
      s.sends.both _ _ _
      (receive-deeds (is_link n.parts link) (down n.parts link) link (read_frame text) n (own link refl) (counts link refl) refl (may.frame link text refl) (record { words = may.words; lacking = may.lacking; hears = may.titles }))
      (late_by-steps s d.outcome d.left)
  handle_event-deeds Ticked n own counts may ticks = s.sends.both _ _ _ (ticks refl) (order_all-steps s (tick whole c n).left)
  handle_event-deeds (Submitted message) n own counts may ticks = submit-steps s message n may.titles
  handle_event-deeds (Activated link emergency) n own counts may ticks = activate-steps s emergency link n
  handle_event-deeds (Deactivated link) n own counts may ticks = deactivate-steps s link n (may.ordered link refl)
  handle_event-deeds (Released link) n own counts may ticks = release_bar-steps s link n (may.released link refl)
  handle_event-deeds (TitleAdded row is_memory_refused) n own counts may ticks = add_title-steps s row is_memory_refused n (may.titles refl)
  handle_event-deeds (TitleSet row is_memory_refused) n own counts may ticks = set_title-steps s row is_memory_refused n (may.titles refl)
  handle_event-deeds (TitleRemoved key digits) n own counts may ticks = remove_title-steps s key digits n (may.titles refl)

  pub settled-steps : (n : Node WholeQueues) → R n (tell_owed whole c (release whole c n))
  settled-steps n = s.sends.both _ _ _ (release-steps n) (tell_owed-steps s (release whole c n))

  pub apply-deeds : {r : Reroutings} (what : Happening) (n : Node WholeQueues) → ((link : ℕ) → IsOf what link → Own link) → ((link : ℕ) → IsOf what link → Counts link)
      → AllowsEvent c May what n r → (what ≡ Ticked → R n (tick whole c n).left) → R n (apply whole c what n).left
  unfolding apply
  apply-deeds what n own counts may ticks = s.sends.both _ _ _ (handle_event-deeds what n own counts may ticks) (settled-steps (handle_event whole c what n).left)

-- ---- where anything may be done

module _ {c : Configuration} {Own Counts : ℕ → Type 0} {R : Node WholeQueues → Node WholeQueues → Type 0} (s : IsOfRules c Own Counts R) where
  any_word : (word : Word) → Allows c anything word
  any_word word = record { ends = λ procedure e. tt; fails = λ link e. tt; answers = λ link e. tt }

  any_timer : (timer : TimerName) → AllowsTimer anything timer
  any_timer timer = record { ends = λ procedure e. tt; fails = λ link its e f. tt; tests = λ link e. tt; waits = λ link e. tt }

  any_event : (what : Happening) (n : Node WholeQueues) → AllowsEvent c anything what n (first_reroutings c)
  any_event what n = record {
    opens = λ link e. tt;
    lost = λ link e. tt;
    ordered = λ link e. tt;
    released = λ link e. tt;
    frame = λ link text e. record { wrong = λ f. tt; length = λ f. tt; status = λ bsn fsn status f. record { fails = λ e g. tt; recovers = λ e. tt }; returns = tt };
    words = λ word e. any_word word;
    lacking = λ e. tt;
    titles = λ e. tt;
  }

  any_message : (m : Option Message) → AllowsMessage c anything m
  any_message m = record { words = λ word e. any_word word; lacking = λ e. tt; hears = λ e. tt }

  pub carry-steps : (link : ℕ) (m : Option Message) (n : Node WholeQueues) → in_service n.parts link ≡ true → R n (carry whole c link m n).left
  carry-steps link m n e = carry-deeds s link m n (λ f. tt) e (any_message m)

  pub handle_by-steps : (answer : Result ℕ SeqFault) (link : ℕ) (d : Carrying) (n : Node WholeQueues) → Counts link → in_service n.parts link ≡ true → numbers whole c link d n ≡ answer
      → R n (handle_by whole c answer link d n).left
  handle_by-steps answer link d n counts e f = handle_by-deeds s answer link d n (λ g. tt) counts e f (λ g. tt) (any_message (new_by answer d))

  pub leave_aside-steps : (link : ℕ) (fault : FrameFault) (n : Node WholeQueues) → down n.parts link ≡ false → R n (leave_aside whole c link fault n).left
  leave_aside-steps link fault n up = leave_aside-deeds s link fault n up (λ e. tt)

  pub run_timer-steps : (timer : TimerName) (n : Node WholeQueues) → ((link : ℕ) (its : LinkTimer) → timer ≡ timer_name link its → Own link) → R n (run_timer whole c timer n)
  run_timer-steps timer n own = run_timer-deeds s timer n own (any_timer timer)

  pub run_due-steps : (timer : Option TimerName) (n : Node WholeQueues) → ((link : ℕ) (its : LinkTimer) → timer ≡ Some (timer_name link its) → Own link)
      → R n (run_due whole c timer n)
  run_due-steps timer n own = run_due-deeds s timer n own (λ its e. any_timer its)

  pub run_next-steps : (n : Node WholeQueues) → R n (with_timers n (after_due n.parts.timers)) → ((link : ℕ) → Own link) → R n (run_next whole c n)
  run_next-steps n e own = s.sends.both _ _ _ e (run_due-steps (due_name n.parts.timers) (with_timers n (after_due n.parts.timers)) (λ link its e. own link))

  -- a tick, where each timer that is due may be handed out and run
  pub tick-steps : (n : Node WholeQueues) → R n (with_timers n (ticked n.parts.timers)) → ((m : Node WholeQueues) → R m (run_next whole c m)) → R n (tick whole c n).left
  tick-steps n e each =
      let ran : Node WholeQueues = run_all whole c (with_timers n (ticked n.parts.timers)) in
      s.sends.both _ _ _ (s.sends.both _ _ _ e (run_times-steps s (due_count (ticked n.parts.timers)) (with_timers n (ticked n.parts.timers)) each))
      (s.titled (subsystems_ticked c ran.parts).titles ran tt)

  pub handle_event-steps : (what : Happening) (n : Node WholeQueues) → ((link : ℕ) → IsOf what link → Own link) → ((link : ℕ) → IsOf what link → Counts link)
      → (what ≡ Ticked → R n (tick whole c n).left) → R n (handle_event whole c what n).left
  handle_event-steps what n own counts ticks = handle_event-deeds s what n own counts (any_event what n) ticks

  pub apply-steps : (what : Happening) (n : Node WholeQueues) → ((link : ℕ) → IsOf what link → Own link) → ((link : ℕ) → IsOf what link → Counts link)
      → (what ≡ Ticked → R n (tick whole c n).left) → R n (apply whole c what n).left
  apply-steps what n own counts ticks = apply-deeds s what n own counts (any_event what n) ticks
