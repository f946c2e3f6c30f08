-- Release, of TCOC and TCBC (Q.704 §5.4, §6.3): at the end of each event, those messages of Held go on whose flows are
-- no longer held.
use Rattle.std.specs.Prelude.{ℕ, Bool, true, false, List, [], ◌∷◌, Option, Some, None, zero, suc, ◌≡◌}
use Rattle.signalling_types.specs.Message.{Message, flow_of}
use Rattle.settings.specs.Configuration.{Configuration}
use Rattle.signalling_types.specs.declared.cause.Cause.TheVariants.{NoRoute}
use Rattle.exchange_rules.specs.State.{◌▷◌, QueueKind, Node, with_parts, Done, answer, State, with_node, Happening, CameUp, WentDown, FrameCame, Ticked, Submitted, Activated, Deactivated, Released, TitleAdded, TitleSet, TitleRemoved}
use Rattle.exchange_rules.specs.Routing.{facts, link_of, queue_on, waits, hold}
use Rattle.exchange_rules.specs.Reroutings.{counted}
use Rattle.exchange_rules.specs.ChangingOver.{lose, order_all, on_changeover_timer}
use Rattle.signalling_types.specs.declared.outcome.Outcome.TheVariants.{Refused, Queued, Held, Local, Handled, Ignored}
use Rattle.link.specs.declared.action.LinkTimer.TheVariants as timer
use Rattle.timers.specs.declared.name.TimerName.{TimerName}
use Rattle.timers.specs.declared.name.TimerName.TheVariants.{L1, L2, L3, L4, L6, L7, T1, T2, T3, T4, T6, T8, T10}
use Rattle.timers.specs.declared.name.TimerName.TheVariants.{Slt1, Slt2}
use Rattle.timers.specs.Timers.{Running, ticked, due_name, due_count, after_due}
use Rattle.signalling_types.specs.declared.notice.ChangeoverTimer.TheVariants as changeover
use Rattle.exchange_rules.specs.Frames.{run_out, receive}
use Rattle.exchange_rules.specs.ChangingBack.{late_time, late_code}
use Rattle.exchange_rules.specs.LinkTests.{begin_test, test_unanswered}
use Rattle.exchange_rules.specs.Rerouting.{rerouting_ended, ask_again}
use Rattle.signalling_types.specs.declared.outcome.Outcome.{Outcome}
use Rattle.m2pa_codec.specs.Frames.{FrameValue}
use Rattle.exchange_rules.specs.declared.wants.Wants.{Wants}
use Rattle.exchange_rules.specs.Opening.{association_up, association_down, activate, deactivate, release_bar, wanted}
use Rattle.exchange_rules.specs.Messages.{submit, add_title, set_title, remove_title, subsystems_ticked, tests_due}
use Rattle.exchange_rules.specs.Telling.{tell_owed}
use Rattle.exchange_rules.specs.Sending.{frame_taken, after_take}

module _ {Q : Type 0} (q : QueueKind Q) (c : Configuration) where
  -- a message goes to the end of its link's queue, or is lost if its flow has no link
  abbrev pub go_on : Option ℕ → Message → Node Q → Node Q
  go_on (Some link) m node = queue_on q c link m node
  go_on None m node = with_parts node (lose NoRoute m node.parts)

  -- a message that still waits goes back to Held
  abbrev pub go_by : (is_waiting : Bool) → Message → Node Q → Node Q
  go_by true m node = hold q m node
  go_by false m node = go_on (link_of c node.parts (flow_of m)) m node

  abbrev pub go : Message → Node Q → Node Q
  go m node = go_by (waits c node.parts.holds m) m node

  abbrev pub go_each : List Message → Node Q → Node Q
  go_each [] node = node
  go_each (m ∷ ms) node = node ▷ go m ▷ go_each ms

  -- all messages are taken out of Held in order, and each goes where it should
  abbrev pub release : Node Q → Node Q
  release node =
      record node { queues = q.without_held node.queues } ▷ go_each (q.held node.queues)

-- ---- A tick: all timers have one tick less, and those that are due run, in name order; then prohibited subsystems have one
-- less until their next tests.

-- prohibited subsystems have one tick less until their next tests, and those that don't stay prohibited are allowed
abbrev pub count_subsystems : {Q : Type 0} → Configuration → Node Q → Node Q
count_subsystems c node = with_parts node (subsystems_ticked c node.parts)

-- the same node with other timers
abbrev pub with_timers : {Q : Type 0} → Node Q → Running → Node Q
with_timers node timers = with_parts node (record node.parts { timers = timers })

module _ {Q : Type 0} (q : QueueKind Q) (c : Configuration) where
  -- a timer that ran out takes effect; T8 has no other effect than that it stopped
  abbrev pub run_timer : TimerName → Node Q → Node Q
  run_timer (L1 link) node = run_out q c link timer.L1 node
  run_timer (L2 link) node = run_out q c link timer.L2 node
  run_timer (L3 link) node = run_out q c link timer.L3 node
  run_timer (L4 link) node = run_out q c link timer.L4 node
  run_timer (L6 link) node = run_out q c link timer.L6 node
  run_timer (L7 link) node = run_out q c link timer.L7 node
  run_timer (T1 link) node = on_changeover_timer q c changeover.T1 link node
  run_timer (T2 link) node = on_changeover_timer q c changeover.T2 link node
  run_timer (T3 link) node = with_parts node (late_time link node.parts)
  run_timer (T4 set code) node = with_parts node (late_code set code node.parts)
  run_timer (T6 destination) node = with_parts node (rerouting_ended destination node.parts)
  run_timer (T8 set destination) node = node
  run_timer (T10 set destination) node = ask_again q c set destination node
  run_timer (Slt1 link) node = test_unanswered q c link node
  run_timer (Slt2 link) node = begin_test q c link node

  abbrev pub run_due : Option TimerName → Node Q → Node Q
  run_due None node = node
  run_due (Some name) node = run_timer name node

  -- the first timer that is due stops, and takes effect
  abbrev pub run_next : Node Q → Node Q
  run_next node =
      run_due (due_name node.parts.timers) (with_timers node (after_due node.parts.timers))

  -- n times; once nothing is due, nothing happens
  abbrev pub run_times : ℕ → Node Q → Node Q
  run_times zero node = node
  run_times (suc more) node = node ▷ run_next ▷ run_times more

  -- as many run as are due when the tick begins, except those that an earlier one stopped or set
  abbrev pub run_all : Node Q → Node Q
  run_all node = run_times (due_count node.parts.timers) node

  abbrev pub tick : Node Q → Done Q
  tick node =
      answer Handled (with_timers node (ticked node.parts.timers) ▷ run_all ▷ count_subsystems c)

-- ---- The step of an exchange: what becomes of everything that can happen, and the state after it.

-- a frame or a tick may bring a way: then orders go out late, unless the frame's message was refused
abbrev pub late_by : {Q : Type 0} → QueueKind Q → Configuration → Outcome → Node Q → Node Q
late_by q c (Refused cause) node = node
late_by q c (Queued link) node = order_all q c node
late_by q c Held node = order_all q c node
late_by q c Local node = order_all q c node
late_by q c Handled node = order_all q c node
late_by q c Ignored node = order_all q c node

abbrev pub ordered_late : {Q : Type 0} → QueueKind Q → Configuration → Done Q → Done Q
ordered_late q c d = record d { left = late_by q c d.outcome d.left }

-- each event has its rule
abbrev pub handle_event : {Q : Type 0} → QueueKind Q → Configuration → Happening → Node Q → Done Q
handle_event q c (CameUp link) node = association_up q c link node
handle_event q c (WentDown link) node = association_down q c link node
handle_event q c (FrameCame link text) node = node ▷ receive q c link text ▷ ordered_late q c
handle_event q c Ticked node = node ▷ tick q c ▷ ordered_late q c
handle_event q c (Submitted message) node = submit q c message node
handle_event q c (Activated link emergency) node = activate q c emergency link node
handle_event q c (Deactivated link) node = deactivate q c link node
handle_event q c (Released link) node = release_bar q c link node
handle_event q c (TitleAdded row is_memory_refused) node = add_title row is_memory_refused node
handle_event q c (TitleSet row is_memory_refused) node = set_title row is_memory_refused node
handle_event q c (TitleRemoved key digits) node = remove_title key digits node

-- then messages that are no longer held go on, and adjacent points are told what they are owed
abbrev pub settled : {Q : Type 0} → QueueKind Q → Configuration → Done Q → Done Q
settled q c d = record d { left = d.left ▷ release q c ▷ tell_owed q c }

unfoldable pub apply : {Q : Type 0} → QueueKind Q → Configuration → Happening → Node Q → Done Q
apply q c what node = node ▷ handle_event q c what ▷ settled q c

-- what becomes of an event
abbrev pub outcome_of : {Q : Type 0} → QueueKind Q → Happening → State Q → Outcome
outcome_of q what s = (apply q s.settings what s.node).outcome

-- the state with the node that an event leaves: at its end the flows that were rerouted are counted
abbrev pub leaving : {Q : Type 0} → State Q → Node Q → State Q
leaving s node =
    record s { node = node; reroutings = counted s.settings (facts s.settings node.parts) s.reroutings }

-- and the state after it
abbrev pub after : {Q : Type 0} → QueueKind Q → Happening → State Q → State Q
after q what s = leaving s (apply q s.settings what s.node).left

-- what becomes of messages that are submitted one after the other
abbrev pub after_submitting : {Q : Type 0} → QueueKind Q → List Message → State Q → State Q
after_submitting q [] s = s
after_submitting q (m ∷ ms) s = after_submitting q ms (after q (Submitted m) s)

-- the state after the tests of subsystems that are due were submitted (Q.714 §5.3.4)
abbrev pub after_tests : {Q : Type 0} → QueueKind Q → State Q → State Q
after_tests q s = after_submitting q (tests_due s.settings s.node.parts) s

-- the frame that goes out next on a link
abbrev pub frame_to_take : {Q : Type 0} → QueueKind Q → State Q → ℕ → Option FrameValue
frame_to_take q s link = frame_taken q s.settings link s.node

-- and the state after it went out
abbrev pub taken : {Q : Type 0} → QueueKind Q → State Q → ℕ → State Q
taken q s link = with_node s (after_take q s.settings link s.node)

-- what a link asks of its caller
abbrev pub wants_of : {Q : Type 0} → State Q → ℕ → Wants
wants_of s link = wanted s.node.parts link

-- an exchange that did what a rule says: its answer, and the state that it is in
abbrev pub Ends : {Q : Type 0} → State Q → Outcome → State Q → Done Q → Type 0
Ends old outcome new d = (outcome ≡ d.outcome) × (new ≡ with_node old d.left)
