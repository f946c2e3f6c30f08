-- How the state of a link is kept, and the room that its statuses have.
use Rattle.std.specs.Prelude.{ℕ, ◌≤◌, length, Bool, true, false}
use Rattle.link.specs.declared.alignment.Alignment.{Alignment}
use Rattle.link.specs.declared.alignment.Alignment.TheVariants.{Down, NotAligned, Aligned, Proving, AlignedReady, InService}
use Rattle.node_links.specs.NodeLinks.{Link}
use Rattle.node_links.specs.declared.link_state.LinkState.TheInside.{Inside}

abbrev pub link_state_in : Inside → Link
link_state_in s = record {
  alignment = s.alignment;
  period = s.period;
  association = s.association;
  active = s.active;
  emergency = s.emergency;
  waiting = s.waiting.items;
  peer_busy = s.peer_busy;
  peer_outage = s.peer_outage;
  acknowledgement_owed = s.acknowledgement_owed;
  test_failed = s.test_failed;
  untested = s.untested;
}

-- how many statuses were sent on the way into a state, at most: Out of Service, Alignment, Proving, Ready; a link that
-- begins anew drops those before, and Ready after an outage waits only by itself
abbrev pub sent_by : Alignment → ℕ
sent_by Down = 0
sent_by NotAligned = 2
sent_by Aligned = 3
sent_by (Proving ready) = 3
sent_by AlignedReady = 4
sent_by InService = 4

-- how many of these may still wait as a step is taken
abbrev pub left_by : (anew : Bool) → Alignment → ℕ
left_by true state = 0
left_by false state = sent_by state

-- no more wait than were sent
pub record HasPlaces (s : Inside) : Type 0 where
  pub waiting : length s.waiting.items ≤ sent_by s.alignment
