-- What becomes of each user message at a node to which it comes, or at which it is submitted. So the node laws of
-- neighbours are joined: a node accepts what comes by its links and what its user parts hand over, but for what ends
-- there.
use Rattle.std.specs.Prelude.{◌≡◌, ◌≤◌, ◌+◌, ◌&&◌, ◌||◌, ℕ, Bool, true, false, not, nat_eq, List, length}
use Rattle.signalling_types.specs.Message.{Message, service_indicator}
use Rattle.signalling_types.specs.declared.outcome.Outcome.{Outcome}
use Rattle.signalling_types.specs.declared.outcome.Outcome.TheVariants.{Handled, Held, Local, Queued, Refused}
use Rattle.settings.specs.Configuration.{Configuration}
use Rattle.exchange_rules.specs.Messages.{is_user, sccp}
use Rattle.network_moves.specs.Networks.{sum_to}
use Rattle.node_moves.specs.Laws.{users_that, fates_that, any_fate, accepted_at}
use Rattle.node_moves.specs.Networks.{Fate, NetworkState, is_here}

-- ---- kinds of fates

-- the message is queued or held
abbrev pub is_taken_on : Outcome → Bool
is_taken_on (Queued link) = true
is_taken_on Held = true
is_taken_on outcome = false

abbrev pub is_refusal : Outcome → Bool
is_refusal (Refused cause) = true
is_refusal outcome = false

abbrev pub is_local : Outcome → Bool
is_local Local = true
is_local outcome = false

abbrev pub is_handled : Outcome → Bool
is_handled Handled = true
is_handled outcome = false

abbrev pub is_sccp : Message → Bool
is_sccp m = nat_eq (service_indicator m) sccp

-- the user part of a message is here: one that the settings name, or SCCP
abbrev pub has_part : Configuration → Message → Bool
has_part c m = is_sccp m || is_user c (service_indicator m)

-- it is refused, by the cause that its outcome names
abbrev pub is_refused : Fate → Bool
is_refused f = is_refusal f.outcome

module _ (c : Configuration) where
  -- a message for another point goes on
  abbrev pub goes_on : Fate → Bool
  goes_on f = not (is_here c f.message) && is_taken_on f.outcome

  -- one for this point is delivered: to its user part, which the settings name, or by SCCP
  abbrev pub is_delivered : Fate → Bool
  is_delivered f = is_here c f.message && (is_local f.outcome && has_part c f.message)

  -- SCCP here takes one for this point, and it isn't delivered: it is queued or held, as one is that goes on by its
  -- title, or a subsystem test that is answered by SSA; or handled, as one is that says something of a subsystem
  abbrev pub sccp_takes : Fate → Bool
  sccp_takes f = is_here c f.message && (is_sccp f.message && (is_taken_on f.outcome || is_handled f.outcome))

  -- of a list, by any test: each user message goes on, is refused, is delivered or is taken by SCCP, and one of these
  -- alone
  abbrev pub HaveFates : List Fate → Type 0
  HaveFates fs =
      (test : Message → Bool) →
      fates_that any_fate test fs
      ≡ fates_that goes_on test fs
      + fates_that is_refused test fs
      + fates_that is_delivered test fs
      + fates_that sccp_takes test fs

  -- a message of SCCP for this point
  abbrev pub is_for_sccp : Fate → Bool
  is_for_sccp f = is_here c f.message && is_sccp f.message

-- ---- at a node

module _ (settings : (point : ℕ) → Configuration) (w : NetworkState) where
  module _ (kind : Fate → Bool) (test : Message → Bool) (point : ℕ) where
    -- handed over by its user parts
    abbrev pub submitted_at : ℕ
    submitted_at = fates_that kind test (w.node point).submitted

    -- come from its neighbours, by any of its links
    abbrev pub came_to : ℕ
    came_to = sum_to (λ link. fates_that kind test ((w.node point).came link)) (length (settings point).links)

    -- both
    abbrev pub met_at : ℕ
    met_at = submitted_at + came_to

  abbrev pub made_at : (Message → Bool) → (point : ℕ) → ℕ
  made_at test point = users_that test (w.node point).made

  pub record TakesEachIn (point : ℕ) : Type 0 where
    -- each user message that its user parts handed over, and each that came by a link, has one fate
    pub submitted : HaveFates (settings point) (w.node point).submitted
    pub came : (link : ℕ) → HaveFates (settings point) ((w.node point).came link)
    -- it accepted, by any test, those that go on, and what its SCCP made
    pub accepted : (test : Message → Bool) →
        accepted_at settings w test point ≡ met_at (goes_on (settings point)) test point + made_at test point
    -- SCCP makes messages of SCCP, in all no more than came here or were handed over that are for SCCP here
    pub made : (test : Message → Bool) → made_at (λ m. not (is_sccp m) && test m) point ≡ 0
    pub made_once : made_at (λ m. true) point ≤ met_at (is_for_sccp (settings point)) (λ m. true) point
