-- SLTC, signalling link test control (Q.707 §2.2, §5.5): the tests that a node makes of its links, where the settings
-- say how often.
use Rattle.std.specs.Prelude.{ℕ, Bool, true, false, ◌&&◌, nat_eq, List, [], ◌∷◌, Option, Some, None, is_some, if◌then◌else◌}
use Rattle.std.specs.Option.{option_map_or}
use Rattle.signalling_types.specs.Message.{Message}
use Rattle.signalling_types.specs.declared.cause.Cause.{Cause}
use Rattle.signalling_types.specs.declared.notice.FailureReason.TheVariants as reasons
use Rattle.signalling_types.specs.declared.outcome.Outcome.TheVariants.{Handled, Ignored}
use Rattle.settings.specs.Configuration.{Configuration}
use Rattle.mtp3_codec.specs.declared.link_test.TestKind.TheVariants.{Test}
use Rattle.mtp3_codec.specs.Management.{LinkTestValue, spelled}
use Rattle.timers.specs.declared.name.TimerName.TheVariants.{Slt1, Slt2}
use Rattle.timers.specs.Timers.{set_timer, clear_timer, is_running}
use Rattle.exchange_rules.specs.State.{unless◌then◌else◌, ◌▷◌, QueueKind, Parts, Node, Done, with_parts, answer, link_at, with_link, in_service}
use Rattle.exchange_rules.specs.Routing.{entry_of, peer_of, no_room, queue_on}
use Rattle.exchange_rules.specs.Telling.{own_sio}
use Rattle.exchange_rules.specs.ChangingOver.{fail}
use Rattle.exchange_rules.specs.Entering.{begin_traffic}

-- the service indicator of tests (Q.704 §14.2.1)
abbrev pub testing : ℕ
testing = 1

-- a message of tests from this point to another
abbrev pub test_message : Configuration → (point : ℕ) → LinkTestValue → Message
test_message c point test = record { sio = own_sio c testing; sif = spelled point c.own test }

-- the pattern of own tests: SLTM in ASCII
abbrev pub own_pattern : List ℕ
own_pattern = 83 ∷ 76 ∷ 84 ∷ 77 ∷ []

-- the test of a link: with its code, from this point to the one that it leads to
abbrev pub own_test : Configuration → (link : ℕ) → LinkTestValue
own_test c link = record { kind = Test; slc = (entry_of c link).slc; pattern = own_pattern }

abbrev pub link_test : Configuration → (link : ℕ) → Message
link_test c link = test_message c (peer_of c link) (own_test c link)

-- whether the settings have the node test its links
abbrev pub tests_links : Configuration → Bool
tests_links c = is_some c.timers.link_tests

-- how many ticks the answer to a test is awaited, and how many lie between a test that passed and the next
abbrev pub answer_ticks : Configuration → ℕ
answer_ticks c = option_map_or (λ tests. tests.slt1) c.timers.link_tests 0

abbrev pub pause_ticks : Configuration → ℕ
pause_ticks c = option_map_or (λ tests. tests.slt2) c.timers.link_tests 0

-- whether two patterns are the same, octet by octet
abbrev pub is_same_pattern : (one other : List ℕ) → Bool
is_same_pattern [] [] = true
is_same_pattern [] (octet ∷ octets) = false
is_same_pattern (octet ∷ octets) [] = false
is_same_pattern (one ∷ ones) (other ∷ others) = nat_eq one other && is_same_pattern ones others

-- whether an answer from a point is that to the test of the link that it came by: from the point that the link leads
-- to, with the link's code and the pattern
abbrev pub answers_test : Configuration → (link point : ℕ) → LinkTestValue → Bool
answers_test c link point test =
    nat_eq point (peer_of c link)
    && (nat_eq test.slc (entry_of c link).slc && is_same_pattern test.pattern own_pattern)

-- whether the answer to the test of a link is awaited
abbrev pub is_test_awaited : (link : ℕ) → Parts → Bool
is_test_awaited link p = is_running (Slt1 link) p.timers

-- whether an answer counts: the node tests its links, the answer to the test of that link is awaited, and this is it
abbrev pub passes_test : Configuration → (link point : ℕ) → LinkTestValue → Parts → Bool
passes_test c link point test p = tests_links c && (is_test_awaited link p && answers_test c link point test)

-- the answer to a test is awaited from now on
abbrev pub awaiting_test : Configuration → (link : ℕ) → Parts → Parts
awaiting_test c link p = record p { timers = set_timer (Slt1 link) (answer_ticks c) p.timers }

-- whether the last test of a link failed
abbrev pub with_test_failed : Bool → (link : ℕ) → Parts → Parts
with_test_failed failed link p = with_link p link (record (link_at p link) { test_failed = failed })

-- a link that passed a test
abbrev pub with_test_passed : (link : ℕ) → Parts → Parts
with_test_passed link p = with_link p link (record (link_at p link) { test_failed = false; untested = false })

-- the test passed: the next comes when Slt2 runs out
abbrev pub test_passed : Configuration → (link : ℕ) → Parts → Parts
test_passed c link p = record (with_test_passed link p) {
  timers = p.timers ▷ clear_timer (Slt1 link) ▷ set_timer (Slt2 link) (pause_ticks c);
}

-- whether it is the first test since the link came up: the link is in service, and carried no traffic yet
abbrev pub is_first_test : (link : ℕ) → Parts → Bool
is_first_test link p = in_service p link && (link_at p link).untested

module _ {Q : Type 0} (q : QueueKind Q) (c : Configuration) where
  -- a message goes to the end of a link's queue if it has room, and nothing is noted if it has none
  abbrev pub queue_if : Option Cause → (link : ℕ) → Message → Node Q → Node Q
  queue_if (Some cause) link m node = node
  queue_if None link m node = queue_on q c link m node

  -- a test of a link goes out; if it finds no room it isn't sent, and fails for want of an answer
  abbrev pub send_test : (link : ℕ) → Node Q → Node Q
  send_test link node =
      queue_if (no_room q c (link_test c link) node.queues) link (link_test c link)
      (with_parts node (awaiting_test c link node.parts))

  -- a link in service is tested, if the settings say so
  abbrev pub begin_test : (link : ℕ) → Node Q → Node Q
  begin_test link node = if tests_links c && in_service node.parts link then send_test link node else node

  -- the first test that isn't answered is repeated at once, and the second in a row fails the link
  abbrev pub repeat_test : (again : Bool) → (link : ℕ) → Node Q → Node Q
  repeat_test true link node = fail q c link reasons.Test node
  repeat_test false link node = with_parts node (with_test_failed true link node.parts) ▷ begin_test link

  -- the answer to a test didn't come in time
  abbrev pub test_unanswered : (link : ℕ) → Node Q → Node Q
  test_unanswered link node =
      unless in_service node.parts link then node
      else repeat_test (link_at node.parts link).test_failed link node

  -- a link passes a test; by its first it begins to carry traffic
  abbrev pub pass_test : (link : ℕ) → Node Q → Node Q
  pass_test link node = begin_traffic q c (is_first_test link node.parts) link (test_passed c link node.parts) node

  -- an answer to a test, by a link from a point: only the one that is awaited counts
  abbrev pub on_test_answer : (link point : ℕ) → LinkTestValue → Node Q → Done Q
  on_test_answer link point test node =
      unless passes_test c link point test node.parts then answer Ignored node
      else answer Handled (pass_test link node)
