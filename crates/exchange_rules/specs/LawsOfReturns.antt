-- What a return to service holds, and by what: laws.
use Rattle.std.specs.Prelude.{◌≡◌, ◌≢◌, ◌<◌, ◌≤◌, ◌⊎◌, ◌++◌, ℕ, true, false, [], ◌∷◌, Some, None}
use Rattle.settings.specs.Configuration.{Configuration}
use Rattle.signalling_types.specs.declared.limits.TheConstants.Limits.{MANAGEMENT_MESSAGES, SELECTIONS}
use Rattle.link.specs.declared.action.Transition.{Transition}
use Rattle.routes.specs.Routes.{Facts, chosen_link}
use Rattle.flow_hold.specs.declared.procedure.Procedure.{Procedure}
use Rattle.flow_hold.specs.declared.procedure.Procedure.TheVariants.{Code, Time}
use Rattle.flow_hold.specs.Holds.{holds, is_held}
use Rattle.changeback.specs.Codes.{free_code, is_outstanding}
use Rattle.exchange_rules.specs.State.{Parts, Node, with_parts, link_at}
use Rattle.exchange_rules.specs.Routing.{set_of, facts}
use Rattle.exchange_rules.specs.Queues.{WholeQueues, queue_at, whole}
use Rattle.exchange_rules.specs.ChangingBack.{declaration, take_back_each, change_back}
use Rattle.exchange_rules.specs.Entering.{begun_anew}
use Rattle.exchange_rules.specs.LinkTests.{is_first_test, test_passed, pass_test}
use Rattle.exchange_rules.specs.Frames.{enters, enters_traffic, step_on, moved_on, take_step, advance}
use Rattle.exchange_rules.specs.Places.{HasPlacesFor}
use Rattle.exchange_rules.specs.Lasting.{HasAllPlaces}

-- ---- which flows are held

-- when a link enters service, a flow whose link changed from one link to another is held
abbrev pub entries_hold_changed_flows : Type 0
entries_hold_changed_flows =
    (c : Configuration) (link : ℕ) (step : Transition) (node : Node WholeQueues) (destination sls from to : ℕ) →
    HasPlacesFor c node.parts → sls < SELECTIONS → enters link step node.parts ≡ true →
    chosen_link (facts c node.parts) destination sls ≡ Some from →
    chosen_link (facts c (advance whole c link step node).parts) destination sls ≡ Some to → from ≢ to →
    is_held (advance whole c link step node).parts.holds destination sls ≡ true

-- and as a link passes a test
abbrev pub tests_hold_changed_flows : Type 0
tests_hold_changed_flows =
    (c : Configuration) (link : ℕ) (node : Node WholeQueues) (destination sls from to : ℕ) →
    HasPlacesFor c node.parts → sls < SELECTIONS →
    chosen_link (facts c node.parts) destination sls ≡ Some from →
    chosen_link (facts c (pass_test whole c link node).parts) destination sls ≡ Some to → from ≢ to →
    is_held (pass_test whole c link node).parts.holds destination sls ≡ true

-- for any two states: a flow that went by another link before, and goes by the link that returned now, is held
abbrev pub changed_flows_are_held : Type 0
changed_flows_are_held =
    (c : Configuration) (link : ℕ) (before : Parts) (node : Node WholeQueues) (destination sls from : ℕ) →
    HasPlacesFor c node.parts → sls < SELECTIONS → from ≢ link →
    chosen_link (facts c before) destination sls ≡ Some from →
    chosen_link (facts c node.parts) destination sls ≡ Some link →
    is_held (change_back whole c link (facts c before) node).parts.holds destination sls ≡ true

-- and what was held stays held
abbrev pub returns_keep_holds : Type 0
returns_keep_holds =
    (c : Configuration) (link : ℕ) (before : Facts) (node : Node WholeQueues) (destination sls : ℕ) →
    is_held node.parts.holds destination sls ≡ true →
    is_held (change_back whole c link before node).parts.holds destination sls ≡ true

-- ---- by what

-- a flow went by another link before, and goes by the link now that returned
pub record HasReturned (before after : Facts) (other link destination sls : ℕ) : Type 0 where
  pub selection : sls < SELECTIONS
  pub was : chosen_link before destination sls ≡ Some other
  pub is : chosen_link after destination sls ≡ Some link
  pub apart : other ≢ link

-- a link lost some flow in this way
pub record HasLost (before after : Facts) (other link : ℕ) : Type 0 where
  pub destination : ℕ
  pub sls : ℕ
  pub returned : HasReturned before after other link destination sls

-- the node when the turn of a link comes: those before it, in the order of links, have lost their flows
abbrev pub at_turn : Configuration → (link : ℕ) → (known : Facts) → Node WholeQueues → (other : ℕ) → Node WholeQueues
at_turn c link known before other = take_back_each whole c known (facts c before.parts) link other before

-- a code holds what comes from another link of the set. A declaration with it is at the end of the queue of that link;
-- it was the least free code when the turn of that link came; and its acknowledgement is awaited now
pub record IsByCode (c : Configuration) (link other code : ℕ) (turn before after : Node WholeQueues) : Type 0 where
  pub set : set_of c other ≡ set_of c link
  pub declared : (queue_at after.queues other).all ≡ (queue_at before.queues other).all ++ declaration c link code ∷ []
  pub free : is_outstanding before.parts.codes (set_of c link) code ≡ false
  pub least : free_code turn.parts.codes (set_of c link) ≡ Some code
  pub awaited : is_outstanding after.parts.codes (set_of c link) code ≡ true

-- it is held by time. No declaration went to the queue of that link, since it is of another set, or since no code was
-- free or management had no room when its turn came
pub record IsByTime (c : Configuration) (link other : ℕ) (turn before after : Node WholeQueues) : Type 0 where
  pub left : (queue_at after.queues other).all ≡ (queue_at before.queues other).all
  pub why : (set_of c other ≢ set_of c link)
      ⊎ ((free_code turn.parts.codes (set_of c link) ≡ None) ⊎ (MANAGEMENT_MESSAGES ≤ whole.managements turn.queues))

-- which procedure holds what comes from another link
abbrev pub IsChosen : Configuration → (link other : ℕ) → (turn before after : Node WholeQueues) → Procedure → Type 0
IsChosen c link other turn before after procedure =
    ((code : ℕ) × (procedure ≡ Code (set_of c link) code) × IsByCode c link other code turn before after)
    ⊎ ((procedure ≡ Time link) × IsByTime c link other turn before after)

-- A return, given the link that each flow took before, by the procedure of each other link:
pub record IsReturn (c : Configuration) (link : ℕ) (known : Facts) (before after : Node WholeQueues)
    (by : ℕ → Procedure) : Type 0 where
  -- it is a code exactly when a declaration with it is at the end of the queue, else time
  pub chosen : (other : ℕ) → HasLost known (facts c before.parts) other link →
      IsChosen c link other (at_turn c link known before other) before after (by other)
  -- the codes of two links differ
  pub differ : (one other set code : ℕ) → HasLost known (facts c before.parts) one link →
      HasLost known (facts c before.parts) other link → by one ≡ Code set code → by other ≡ Code set code → one ≡ other
  -- it holds each flow that came from its link
  pub held : (other destination sls : ℕ) → HasReturned known (facts c before.parts) other link destination sls →
      holds after.parts.holds (by other) destination sls ≡ true
  -- every other pair stays
  pub pairs : (procedure : Procedure) (destination sls : ℕ) →
      ((other : ℕ) → HasReturned known (facts c before.parts) other link destination sls → by other ≢ procedure) →
      holds after.parts.holds procedure destination sls ≡ holds before.parts.holds procedure destination sls
  -- every other code stays as it was
  pub codes : (set code : ℕ) →
      ((other : ℕ) → HasLost known (facts c before.parts) other link → by other ≢ Code set code) →
      is_outstanding after.parts.codes set code ≡ is_outstanding before.parts.codes set code
  -- and so does the queue of each link that lost nothing
  pub queues : (other : ℕ) → (HasLost known (facts c before.parts) other link → ⊥) →
      queue_at after.queues other ≡ queue_at before.queues other

-- this holds for any two states
abbrev pub flows_return_by_their_procedures : Type 0
flows_return_by_their_procedures =
    (c : Configuration) (link : ℕ) (before : Parts) (node : Node WholeQueues) → HasAllPlaces c node →
    (by : ℕ → Procedure) × IsReturn c link (facts c before) node (change_back whole c link (facts c before) node) by

-- and when a link that has no test to pass enters service, before it is tested
abbrev pub entries_are_returns : Type 0
entries_are_returns =
    (c : Configuration) (link : ℕ) (step : Transition) (node : Node WholeQueues) → HasAllPlaces c node →
    enters_traffic link step node.parts ≡ true →
    (by : ℕ → Procedure) × IsReturn c link (facts c node.parts) (with_parts node (moved_on c link step node.parts))
    (take_step whole c link step node) by

-- one that has a test to pass takes its step alone
abbrev pub untested_entries_take_nothing : Type 0
untested_entries_take_nothing =
    (c : Configuration) (link : ℕ) (step : Transition) (node : Node WholeQueues) →
    (link_at node.parts link).untested ≡ true →
    take_step whole c link step node ≡ with_parts node (step_on c link step node.parts)

-- and its flows as it passes it, once what is known over its set is reset, if it is the first of that
abbrev pub first_tests_are_returns : Type 0
first_tests_are_returns =
    (c : Configuration) (link : ℕ) (node : Node WholeQueues) → HasAllPlaces c node →
    is_first_test link node.parts ≡ true →
    (by : ℕ → Procedure) × IsReturn c link (facts c node.parts)
    (with_parts node (begun_anew (is_first_test link node.parts) c link node.parts (test_passed c link node.parts)))
    (pass_test whole c link node) by
