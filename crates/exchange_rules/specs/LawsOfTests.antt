-- The tests that a node makes of its links: laws (Q.707 §2.2).
use Rattle.std.specs.Prelude.{◌≡◌, ℕ, true, false, List, Some, None, Ok}
use Rattle.signalling_types.specs.Message.{Message, dpc_of, opc_of, service_indicator}
use Rattle.signalling_types.specs.declared.cause.Cause.{Cause}
use Rattle.signalling_types.specs.declared.notice.FailureReason.TheVariants as reasons
use Rattle.signalling_types.specs.declared.outcome.Outcome.TheVariants.{Handled, Ignored}
use Rattle.settings.specs.Configuration.{Configuration}
use Rattle.settings.specs.Well.{IsWell}
use Rattle.mtp3_codec.specs.Management.{LinkTestValue, read_link_test}
use Rattle.mtp3_codec.specs.declared.link_test.TestKind.TheVariants.{Test}
use Rattle.link.specs.declared.action.Transition.{Transition}
use Rattle.timers.specs.declared.name.TimerName.TheVariants.{Slt1, Slt2}
use Rattle.timers.specs.Timers.{set_timer, clear_timer, is_running}
use Rattle.exchange_rules.specs.State.{Asking, Parts, Node, Done, answer, with_parts, link_at, links_with, in_service}
use Rattle.exchange_rules.specs.Routing.{entry_of, peer_of, no_room, queue_on}
use Rattle.exchange_rules.specs.ChangingOver.{fail}
use Rattle.exchange_rules.specs.Entering.{begin_traffic}
use Rattle.exchange_rules.specs.LinkTests.{own_pattern, link_test, tests_links, answer_ticks, pause_ticks, is_test_awaited, is_first_test, begin_test, on_test_answer}
use Rattle.exchange_rules.specs.Frames.{enters, take_step, advance}
use Rattle.exchange_rules.specs.Exchange.{run_timer}
use Rattle.exchange_rules.specs.Queues.{WholeQueues, whole}
use Rattle.exchange_rules.specs.First.{first_state}
use Rattle.exchange_rules.specs.Lasting.{after_each}

-- ---- when a test goes out

-- a node whose settings have no link tests runs neither timer of a test, whatever happens
abbrev pub no_tests_without_settings : Type 0
no_tests_without_settings =
    (c : Configuration) (asked : List Asking) (link : ℕ) → c.timers.link_tests ≡ None →
    (is_running (Slt1 link) (after_each asked (first_state c)).node.parts.timers ≡ false)
    × (is_running (Slt2 link) (after_each asked (first_state c)).node.parts.timers ≡ false)

-- a test begins: Slt1 starts, and one SLTM stands at the end of the link's queue if it finds room; nothing else changes
pub record Begins (c : Configuration) (link : ℕ) (old new : Node WholeQueues) : Type 0 where
  pub sent : no_room whole c (link_test c link) old.queues ≡ None →
      new ≡ queue_on whole c link (link_test c link)
      (with_parts old (record old.parts { timers = set_timer (Slt1 link) (answer_ticks c) old.parts.timers }))
  pub full : (cause : Cause) → no_room whole c (link_test c link) old.queues ≡ Some cause →
      new ≡ with_parts old (record old.parts { timers = set_timer (Slt1 link) (answer_ticks c) old.parts.timers })

-- as a link enters service, and as Slt2 runs out on a link in service, where the settings have link tests; a link out
-- of service isn't tested
pub record AreTested (c : Configuration) (link : ℕ) (step : Transition) (node : Node WholeQueues) : Type 0 where
  pub entered : enters link step node.parts ≡ true → in_service (take_step whole c link step node).parts link ≡ true →
      Begins c link (take_step whole c link step node) (advance whole c link step node)
  pub stayed : enters link step node.parts ≡ false →
      advance whole c link step node ≡ take_step whole c link step node
  pub repeated : in_service node.parts link ≡ true → Begins c link node (run_timer whole c (Slt2 link) node)
  pub idle : in_service node.parts link ≡ false → run_timer whole c (Slt2 link) node ≡ node

abbrev pub links_in_service_are_tested : Type 0
links_in_service_are_tested =
    (c : Configuration) (link : ℕ) (step : Transition) (node : Node WholeQueues) → tests_links c ≡ true →
    AreTested c link step node

-- ---- what it says

-- it is a test message from this point to the one that the link leads to, with the link's code and the pattern
pub record SaysTest (c : Configuration) (link : ℕ) (m : Message) : Type 0 where
  pub indicator : service_indicator m ≡ 1
  pub from : opc_of m ≡ c.own
  pub to : dpc_of m ≡ peer_of c link
  pub says : read_link_test m.sif
      ≡ Ok (record { kind = Test; slc = (entry_of c link).slc; pattern = own_pattern })

abbrev pub tests_read_back : Type 0
tests_read_back = (c : Configuration) (link : ℕ) → IsWell c → SaysTest c link (link_test c link)

-- ---- what passes it

-- an answer is that to a test if it came by the link of the test, from its point, with its code and the same pattern
pub record IsItsAnswer (c : Configuration) (link point : ℕ) (test : LinkTestValue) : Type 0 where
  pub from : point ≡ peer_of c link
  pub code : test.slc ≡ (entry_of c link).slc
  pub pattern : test.pattern ≡ own_pattern

-- as a test passes, Slt1 stops, Slt2 starts, and the link has failed no test, nor has it one to pass
abbrev pub after_test : Configuration → (link : ℕ) → Parts → Parts
after_test c link p = record p {
  links = links_with p link (record (link_at p link) { test_failed = false; untested = false });
  timers = set_timer (Slt2 link) (pause_ticks c) (clear_timer (Slt1 link) p.timers);
}

-- while it is awaited, that answer passes the test. Nothing more changes if it isn't the first since the link came up;
-- the first lets a link in service begin to carry traffic, exactly as one without tests does as it enters service
pub record Passes (c : Configuration) (link : ℕ) (node : Node WholeQueues) (done : Done WholeQueues) : Type 0 where
  pub first : is_first_test link node.parts ≡ true →
      done ≡ answer Handled (begin_traffic whole c true link (after_test c link node.parts) node)
  pub later : is_first_test link node.parts ≡ false →
      done ≡ answer Handled (with_parts node (after_test c link node.parts))

abbrev pub answers_pass : Type 0
answers_pass =
    (c : Configuration) (link point : ℕ) (test : LinkTestValue) (node : Node WholeQueues) → tests_links c ≡ true →
    is_test_awaited link node.parts ≡ true → IsItsAnswer c link point test →
    Passes c link node (on_test_answer whole c link point test node)

-- every other answer is ignored
abbrev pub other_answers_are_ignored : Type 0
other_answers_are_ignored =
    (c : Configuration) (link point : ℕ) (test : LinkTestValue) (node : Node WholeQueues) →
    (tests_links c ≡ true → is_test_awaited link node.parts ≡ true → IsItsAnswer c link point test → ⊥) →
    on_test_answer whole c link point test node ≡ answer Ignored node

-- ---- what fails a link

-- as Slt1 runs out on a link in service, the test is repeated at once if none failed before it, else the link fails; on
-- a link out of service nothing happens
pub record Judges (c : Configuration) (link : ℕ) (node : Node WholeQueues) : Type 0 where
  pub first : in_service node.parts link ≡ true → (link_at node.parts link).test_failed ≡ false →
      run_timer whole c (Slt1 link) node
      ≡ begin_test whole c link (with_parts node (record node.parts {
        links = links_with node.parts link (record (link_at node.parts link) { test_failed = true });
      }))
  pub second : in_service node.parts link ≡ true → (link_at node.parts link).test_failed ≡ true →
      run_timer whole c (Slt1 link) node ≡ fail whole c link reasons.Test node
  pub idle : in_service node.parts link ≡ false → run_timer whole c (Slt1 link) node ≡ node

abbrev pub two_failures_fail_a_link : Type 0
two_failures_fail_a_link = (c : Configuration) (link : ℕ) (node : Node WholeQueues) → Judges c link node
