-- A link carries traffic only after its first test passed, where links are tested: laws (Q.707 §2.2).
use Rattle.std.specs.Prelude.{◌≡◌, ◌≢◌, ◌<◌, ℕ, true, false, length, List, Some, None}
use Rattle.std.specs.List.{list_all}
use Rattle.signalling_types.specs.Message.{is_management}
use Rattle.signalling_types.specs.declared.notice.FailureReason.{FailureReason}
use Rattle.settings.specs.Configuration.{Configuration}
use Rattle.link.specs.declared.action.Transition.{Transition}
use Rattle.routes.specs.Routes.{chosen_link}
use Rattle.node_links.specs.NodeLinks.{Link}
use Rattle.exchange_rules.specs.State.{Asking, Parts, Node, link_at, in_service, in_traffic}
use Rattle.exchange_rules.specs.Routing.{facts}
use Rattle.exchange_rules.specs.ChangingOver.{fail}
use Rattle.exchange_rules.specs.LinkTests.{tests_links, pass_test}
use Rattle.exchange_rules.specs.Opening.{open_link}
use Rattle.exchange_rules.specs.Frames.{take_step, advance}
use Rattle.exchange_rules.specs.Queues.{WholeQueues, queue_at, whole}
use Rattle.exchange_rules.specs.First.{first_state}
use Rattle.exchange_rules.specs.Lasting.{after_each}

-- a link that opens has a test to pass, just where links are tested, and has failed none. A step of its alignment
-- leaves both as they are, so as it enters service it carries no traffic; in service it does as its first test passes.
-- As a test passes it has none to pass and has failed none, so a failure after that is the first one; and every other
-- link stays as it is
pub record WaitsForTest (c : Configuration) (link : ℕ) (step : Transition) (node : Node WholeQueues) : Type 0 where
  pub opens : (link_at (open_link whole c link node).parts link).untested ≡ tests_links c
  pub fresh : (link_at (open_link whole c link node).parts link).test_failed ≡ false
  pub steps : (link_at (advance whole c link step node).parts link).untested ≡ (link_at node.parts link).untested
  pub failed : (link_at (advance whole c link step node).parts link).test_failed ≡ (link_at node.parts link).test_failed
  pub waits : (link_at node.parts link).untested ≡ true →
      in_traffic (advance whole c link step node).parts link ≡ false
  pub begins : in_service node.parts link ≡ true → in_traffic (pass_test whole c link node).parts link ≡ true
  pub passes : link_at (pass_test whole c link node).parts link
      ≡ record (link_at node.parts link) { test_failed = false; untested = false }
  pub others : (other : ℕ) → other ≢ link → link_at (pass_test whole c link node).parts other ≡ link_at node.parts other

abbrev pub links_wait_for_their_test : Type 0
links_wait_for_their_test =
    (c : Configuration) (link : ℕ) (step : Transition) (node : Node WholeQueues) → link < length node.parts.links →
    WaitsForTest c link step node

-- a flow never takes a link that has a test to pass
abbrev pub flows_keep_off_untested_links : Type 0
flows_keep_off_untested_links =
    (c : Configuration) (p : Parts) (link destination sls : ℕ) → (link_at p link).untested ≡ true →
    chosen_link (facts c p) destination sls ≢ Some link

-- and no user message is in the queue of such a link, in each state reached from the first
abbrev pub untested_links_have_no_user_message : Type 0
untested_links_have_no_user_message =
    (c : Configuration) (asked : List Asking) (link : ℕ) →
    (link_at (after_each asked (first_state c)).node.parts link).untested ≡ true →
    list_all is_management (queue_at (after_each asked (first_state c)).node.queues link).all ≡ true

-- a link that fails forgets what its tests said: it has failed none, and has none to pass
pub record Forgets (l : Link) : Type 0 where
  pub failed : l.test_failed ≡ false
  pub untested : l.untested ≡ false

abbrev pub failures_forget_tests : Type 0
failures_forget_tests =
    (c : Configuration) (link : ℕ) (why : FailureReason) (node : Node WholeQueues) →
    Forgets (link_at (fail whole c link why node).parts link)

-- where links aren't tested, none ever has a test to pass, and one that takes a step does no more than that
abbrev pub none_waits_without_settings : Type 0
none_waits_without_settings =
    (c : Configuration) (asked : List Asking) (link : ℕ) → c.timers.link_tests ≡ None →
    (link_at (after_each asked (first_state c)).node.parts link).untested ≡ false

abbrev pub none_is_tested_without_settings : Type 0
none_is_tested_without_settings =
    (c : Configuration) (link : ℕ) (step : Transition) (node : Node WholeQueues) → c.timers.link_tests ≡ None →
    advance whole c link step node ≡ take_step whole c link step node
