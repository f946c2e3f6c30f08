-- What the outage of a peer's processor does, where the settings keep the link in service (Q.703 §8, RFC 4165 §4.1.4):
-- laws.
use Rattle.std.specs.Prelude.{◌≡◌, ◌≢◌, ◌⊎◌, ◌≤◌, ℕ, Bool, true, false, nat_eq, max, length, Some, None, List, [], ◌∷◌, ◌++◌, if◌then◌else◌}
use Rattle.signalling_types.specs.declared.limits.TheConstants.Limits.{LINKS}
use Rattle.settings.specs.Configuration.{Configuration}
use Rattle.signalling_types.specs.declared.notice.FailureReason.TheVariants as reasons
use Rattle.signalling_types.specs.declared.outcome.Outcome.TheVariants.{Handled, Ignored}
use Rattle.m2pa_codec.specs.declared.status.LinkStatus.{LinkStatus}
use Rattle.m2pa_codec.specs.declared.status.LinkStatus.TheVariants.{ProcessorOutage, ProcessorRecovered, Ready, Busy, BusyEnded}
use Rattle.link.specs.declared.alignment.Alignment.{Alignment}
use Rattle.link.specs.declared.alignment.Alignment.TheVariants.{Proving, AlignedReady}
use Rattle.link.specs.declared.action.LinkTimer.TheVariants as timer
use Rattle.timers.specs.declared.name.TimerName.{TimerName}
use Rattle.timers.specs.declared.name.TimerName.TheVariants.{L6, L7}
use Rattle.timers.specs.Timers.{is_running}
use Rattle.flow_hold.specs.declared.procedure.Procedure.{Procedure}
use Rattle.flow_hold.specs.declared.procedure.Procedure.TheVariants.{Changeover}
use Rattle.flow_hold.specs.Holds.{holds}
use Rattle.exchange_rules.specs.State.{Asking, Node, answer, in_service, link_at}
use Rattle.exchange_rules.specs.ChangingOver.{fail}
use Rattle.exchange_rules.specs.Frames.{in_outage, on_link_status, run_out}
use Rattle.exchange_rules.specs.Sending.{next_message}
use Rattle.exchange_rules.specs.Queues.{WholeQueues, whole}
use Rattle.exchange_rules.specs.First.{first_state}
use Rattle.exchange_rules.specs.Lasting.{HasAllPlaces, after_each}
use Rattle.exchange_rules.specs.LawsOfFailures.{IsFailure}

-- of a node only one link changes, and what its changeover holds, and L6 and L7 of it
pub record IsOnlyAbout (link : ℕ) (before after : Node WholeQueues) : Type 0 where
  pub links : (other : ℕ) → other ≢ link → link_at after.parts other ≡ link_at before.parts other
  pub holds : (procedure : Procedure) (destination sls : ℕ) → procedure ≢ Changeover link →
      holds after.parts.holds procedure destination sls ≡ holds before.parts.holds procedure destination sls
  pub timers : (timer : TimerName) → timer ≢ L6 link → timer ≢ L7 link →
      after.parts.timers.left timer ≡ before.parts.timers.left timer
  pub rest :
      after
      ≡ record before {
        parts = record before.parts {
          links = after.parts.links;
          holds = after.parts.holds;
          timers = after.parts.timers;
        };
      }

-- An outage begins: the link's changeover holds the flows that would fail with it, the peer takes no messages, L6 is
-- set, and L7 doesn't run.
pub record BeginsOutage (c : Configuration) (link : ℕ) (before after : Node WholeQueues) : Type 0 where
  pub only : IsOnlyAbout link before after
  pub state :
      link_at after.parts link ≡ record (link_at before.parts link) { peer_busy = true; peer_outage = true }
  pub holds : IsFailure c link before after
  pub l6 : after.parts.timers.left (L6 link) ≡ Some (max 1 c.timers.l6)
  pub l7 : after.parts.timers.left (L7 link) ≡ None

abbrev pub outages_begin : Type 0
outages_begin =
    (c : Configuration) (link : ℕ) (node : Node WholeQueues) → HasAllPlaces c node → c.processor_outage ≡ true →
    in_service node.parts link ≡ true → (link_at node.parts link).peer_outage ≡ false →
    ((on_link_status whole c link ProcessorOutage node).outcome ≡ Handled)
    × BeginsOutage c link node (on_link_status whole c link ProcessorOutage node).left

-- An outage ends: the link's changeover holds nothing, the peer takes messages again, L6 doesn't run, and L7 is set if
-- messages were sent and aren't confirmed. Ready goes out next, unless a status waits still.
pub record EndsOutage (c : Configuration) (link : ℕ) (before after : Node WholeQueues) : Type 0 where
  pub only : IsOnlyAbout link before after
  pub state :
      link_at after.parts link
      ≡ record (link_at before.parts link) {
        peer_busy = false;
        peer_outage = false;
        waiting = (link_at after.parts link).waiting;
      }
  pub ready : (link_at before.parts link).waiting ≡ [] → (link_at after.parts link).waiting ≡ Ready ∷ []
  pub waits : (link_at before.parts link).waiting ≢ [] →
      (link_at after.parts link).waiting ≡ (link_at before.parts link).waiting
  pub holds : (destination sls : ℕ) → holds after.parts.holds (Changeover link) destination sls ≡ false
  pub l6 : after.parts.timers.left (L6 link) ≡ None
  pub l7 : after.parts.timers.left (L7 link)
      ≡ (if nat_eq (whole.outstanding before.queues link) 0
      then before.parts.timers.left (L7 link)
      else Some (max 1 c.timers.l7))

abbrev pub outages_end : Type 0
outages_end =
    (c : Configuration) (link : ℕ) (node : Node WholeQueues) → HasAllPlaces c node →
    in_outage node.parts link ≡ true → (link_at node.parts link).peer_busy ≡ true →
    ((on_link_status whole c link ProcessorRecovered node).outcome ≡ Handled)
    × EndsOutage c link node (on_link_status whole c link ProcessorRecovered node).left

-- a link is proved, or was
abbrev pub IsAboutToServe : Alignment → Type 0
IsAboutToServe state = (state ≡ AlignedReady) ⊎ ((ready : Bool) × (state ≡ Proving ready))

-- A link that is in no outage ignores that its peer's processor recovered. Where the settings don't ask for an outage
-- as a state, a link in service fails by one; and in any case does one that is proved, or waits for its peer to be
-- ready.
pub record IsElsewhere (c : Configuration) (link : ℕ) (node : Node WholeQueues) : Type 0 where
  pub recovered : in_outage node.parts link ≡ false →
      on_link_status whole c link ProcessorRecovered node ≡ answer Ignored node
  pub failed : c.processor_outage ≡ false → in_service node.parts link ≡ true →
      on_link_status whole c link ProcessorOutage node ≡ answer Handled (fail whole c link reasons.Status node)
  pub aligning : IsAboutToServe (link_at node.parts link).alignment →
      on_link_status whole c link ProcessorOutage node ≡ answer Handled (fail whole c link reasons.Status node)

-- In an outage a second one changes nothing, nor do Busy and Busy Ended, and as L6 runs out the link fails.
pub record IsThrough (c : Configuration) (link : ℕ) (node : Node WholeQueues) : Type 0 where
  pub again : c.processor_outage ≡ true →
      on_link_status whole c link ProcessorOutage node ≡ answer Handled node
  pub busy : on_link_status whole c link Busy node ≡ answer Handled node
  pub busy_ended : on_link_status whole c link BusyEnded node ≡ answer Handled node
  pub l6 : run_out whole c link timer.L6 node ≡ fail whole c link reasons.Timer node

abbrev pub outages_are_told_once : Type 0
outages_are_told_once =
    (c : Configuration) (link : ℕ) (node : Node WholeQueues) → in_outage node.parts link ≡ true →
    (link_at node.parts link).peer_busy ≡ true → IsThrough c link node

abbrev pub others_know_no_outage : Type 0
others_know_no_outage = (c : Configuration) (link : ℕ) (node : Node WholeQueues) → IsElsewhere c link node

-- Wherever a link is in an outage, it is in service, its peer takes no messages, L6 runs, and no message goes out.
pub record IsWatched (c : Configuration) (link : ℕ) (node : Node WholeQueues) : Type 0 where
  pub serves : in_service node.parts link ≡ true
  pub busy : (link_at node.parts link).peer_busy ≡ true
  pub l6 : is_running (L6 link) node.parts.timers ≡ true
  pub silent : next_message whole c link node ≡ None

-- this holds in each state reached from the first
abbrev pub outages_are_watched : Type 0
outages_are_watched =
    (c : Configuration) (asked : List Asking) (link : ℕ) → length c.links ≤ LINKS →
    (link_at (after_each asked (first_state c)).node.parts link).peer_outage ≡ true →
    IsWatched c link (after_each asked (first_state c)).node

-- and where the settings don't ask for it, no link is ever in one
abbrev pub no_outage_unasked : Type 0
no_outage_unasked =
    (c : Configuration) (asked : List Asking) (link : ℕ) → c.processor_outage ≡ false →
    (link_at (after_each asked (first_state c)).node.parts link).peer_outage ≡ false

-- In each state reached from the first Ready is the last status that waits on a link in service: so after an outage it
-- goes out, whatever waited.
abbrev pub ready_goes_last : Type 0
ready_goes_last =
    (c : Configuration) (asked : List Asking) (link : ℕ) →
    in_service (after_each asked (first_state c)).node.parts link ≡ true →
    (link_at (after_each asked (first_state c)).node.parts link).waiting ≢ [] →
    (others : List LinkStatus)
    × ((link_at (after_each asked (first_state c)).node.parts link).waiting ≡ others ++ Ready ∷ [])
