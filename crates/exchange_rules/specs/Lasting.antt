-- What lasts over every event and every take: laws.
use Rattle.std.specs.Prelude.{◌≡◌, ◌≤◌, ◌<◌, ℕ, ◌+◌, ◌%◌, ◌^◌, min, Bool, true, false, length, List, [], ◌∷◌, ◌++◌, Option}
use Rattle.std.specs.List.{list_any}
use Rattle.circular_buffer.specs.Buffer.{keep_last}
use Rattle.settings.specs.Configuration.{Configuration}
use Rattle.signalling_types.specs.declared.notice.Notice.{Notice}
use Rattle.signalling_types.specs.declared.notice.Notice.TheVariants as notices
use Rattle.signalling_types.specs.declared.notice.ChangeoverTimer.TheVariants as timer
use Rattle.signalling_types.specs.declared.limits.TheConstants.Limits.{LINKS, NOTICES}
use Rattle.timers.specs.Timers.{Running}
use Rattle.exchange_rules.specs.State.{Asking, Happens, Takes, AsksWants, made_since, Noted, Parts, Node, lost_any, late_any}
use Rattle.exchange_rules.specs.ChangingOver.{complete_if}
use Rattle.exchange_rules.specs.Queues.{WholeQueues, whole}
use Rattle.exchange_rules.specs.Exchange.{after, taken}
use Rattle.exchange_rules.specs.Places.{HasPlacesFor}
use Rattle.exchange_rules.specs.First.{Abstract, first_state}

-- the state after an exchange was asked this
abbrev pub after_asking : Asking → Abstract → Abstract
after_asking (Happens what) a = after whole what a
after_asking (Takes link) a = taken whole a link
after_asking (AsksWants link) a = a

-- and after it was asked all of this, in order
abbrev pub after_each : List Asking → Abstract → Abstract
after_each [] a = a
after_each (asking ∷ others) a = after_each others (after_asking asking a)

-- ---- flags

-- neither is raised, and no message and no break is counted
pub record IsUnflagged (p : Parts) : Type 0 where
  pub lost : lost_any p ≡ false
  pub late : late_any p ≡ false
  pub messages : p.messages_lost ≡ 0
  pub broken : p.times_broken ≡ 0

-- so it is at first
abbrev pub no_flag_at_first : Type 0
no_flag_at_first = (c : Configuration) → IsUnflagged (first_state c).node.parts

-- once a message may have been lost, that stays so, whatever happens and whatever is taken
abbrev pub losses_stay : Type 0
losses_stay =
    (asked : List Asking) (a : Abstract) → lost_any a.node.parts ≡ true →
    lost_any (after_each asked a).node.parts ≡ true

-- the same once messages may have gone out of order
abbrev pub lateness_stays : Type 0
lateness_stays =
    (asked : List Asking) (a : Abstract) → late_any a.node.parts ≡ true →
    late_any (after_each asked a).node.parts ≡ true

-- whether a notice says that a message may have been lost
abbrev pub tells_of_loss : Notice → Bool
tells_of_loss (notices.Lost cause point sls) = true
tells_of_loss (notices.Unsent cause point) = true
tells_of_loss (notices.Expired timer.T2 link) = true
tells_of_loss (notices.Expired timer.T1 link) = false
tells_of_loss (notices.Unbarred by link) = true
tells_of_loss (notices.Refused cause link) = false
tells_of_loss (notices.Frame fault link) = false
tells_of_loss (notices.Failed link why) = false
tells_of_loss (notices.Late timer number) = false

-- or that messages may have gone out of order
abbrev pub tells_of_lateness : Notice → Bool
tells_of_lateness (notices.Late timer number) = true
tells_of_lateness (notices.Lost cause point sls) = false
tells_of_lateness (notices.Unsent cause point) = false
tells_of_lateness (notices.Expired timer link) = false
tells_of_lateness (notices.Unbarred by link) = false
tells_of_lateness (notices.Refused cause link) = false
tells_of_lateness (notices.Frame fault link) = false
tells_of_lateness (notices.Failed link why) = false

-- while a notice says so, the flag is raised
pub record AreFlagsRaised (p : Parts) : Type 0 where
  pub lost : list_any tells_of_loss p.notices.last ≡ true → lost_any p ≡ true
  pub late : list_any tells_of_lateness p.notices.last ≡ true → late_any p ≡ true

-- in each state reached from the first
abbrev pub notices_raise_flags : Type 0
notices_raise_flags =
    (c : Configuration) (asked : List Asking) → AreFlagsRaised (after_each asked (first_state c)).node.parts

-- and once a changeover was completed without a reasonable number, a message may have been lost
abbrev pub unreasonable_numbers_raise_it : Type 0
unreasonable_numbers_raise_it =
    (c : Configuration) (link : ℕ) (number : Option ℕ) (node : Node WholeQueues) →
    (whole.found node.queues link number).is_reasonable ≡ false →
    lost_any (complete_if whole c true link number node).parts ≡ true

-- ---- notices

-- some notices were made, one after the other: the count grew by as many, and the last 64 of all are kept
pub record AreNoted (made : List Notice) (old new : Noted) : Type 0 where
  pub counted : new.count ≡ (old.count + length made) % 2 ^ 64
  pub kept : new.last ≡ keep_last NOTICES (old.last ++ made)

-- what is kept keeps its limits
pub record IsWithinLimits (n : Noted) : Type 0 where
  pub count : n.count < 2 ^ 64
  pub last : length n.last ≤ NOTICES

-- this holds at first, and stays so, whatever is asked; what is asked only makes some notices
abbrev pub notices_keep_their_limits : Type 0
notices_keep_their_limits =
    (c : Configuration) (asked : List Asking) →
    IsWithinLimits (after_each asked (first_state c)).node.parts.notices

abbrev pub notices_made_are_counted : Type 0
notices_made_are_counted =
    (asked : List Asking) (a : Abstract) → IsWithinLimits a.node.parts.notices →
    (made : List Notice) × AreNoted made a.node.parts.notices (after_each asked a).node.parts.notices

-- So a reader that kept an earlier count knows how many notices are new, and which: the last ones, as far as they are
-- kept.
abbrev pub new_notices_are_the_last : Type 0
new_notices_are_the_last =
    (made : List Notice) (old new : Noted) → IsWithinLimits old → AreNoted made old new → length made < 2 ^ 64 →
    (made_since old.count new ≡ length made)
    × (keep_last (min (length made) NOTICES) new.last ≡ keep_last NOTICES made)

-- ---- places

-- the timers are those of the links, sets and destinations of the settings
pub record HasTimersFor (c : Configuration) (r : Running) : Type 0 where
  pub links : r.counts.links ≡ length c.links
  pub sets : r.counts.sets ≡ length c.sets
  pub destinations : r.counts.destinations ≡ length c.destinations

-- a node has a place for everything that its settings name: each link, set and destination has its parts and its
-- timers, and each link its queue
pub record HasAllPlaces (c : Configuration) (node : Node WholeQueues) : Type 0 where
  pub parts : HasPlacesFor c node.parts
  pub queues : length node.queues.links ≡ length c.links
  pub timers : HasTimersFor c node.parts.timers

-- this holds at first, if there are no more links than there may be
abbrev pub places_at_first : Type 0
places_at_first =
    (c : Configuration) → length c.links ≤ LINKS → HasAllPlaces c (first_state c).node

-- and stays so, whatever is asked
abbrev pub places_stay : Type 0
places_stay =
    (asked : List Asking) (a : Abstract) → HasAllPlaces a.settings a.node →
    HasAllPlaces a.settings (after_each asked a).node
