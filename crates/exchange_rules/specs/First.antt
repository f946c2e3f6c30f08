-- The abstract exchange's state, and what holds of it between two events.
use Rattle.std.specs.Prelude.{◌≡◌, ℕ, true, [], map, length, replicate}
use Rattle.link.specs.Queue.{IsQueue, first_queue}
use Rattle.exchange_rules.specs.State.{State, Parts}
use Rattle.exchange_rules.specs.Queues.{WholeQueues, queue_at, whole}
use Rattle.exchange_rules.specs.Routing.{all_wait, facts}
use Rattle.exchange_rules.specs.Reroutings.{counted, first_reroutings}
use Rattle.exchange_rules.specs.Telling.{is_all_told}
use Rattle.settings.specs.Configuration.{Configuration}
use Rattle.timers.specs.declared.name.NodeCounts.{NodeCounts}
use Rattle.timers.specs.Timers.{none_running}
use Rattle.routes.specs.Routes.{first_routes}
use Rattle.node_links.specs.NodeLinks.{down_link}
use Rattle.changeover.specs.Changeover.{no_changeover}
use Rattle.changeback.specs.Codes.{no_codes}
use Rattle.route_management.specs.Told.{first_told}
use Rattle.flow_hold.specs.Holds.{no_holds}
use Rattle.sccp_relay.specs.Statuses.{first_titles}

-- the abstract state: whole queues
abbrev pub Abstract : Type 0
Abstract = State WholeQueues

-- each queue's counts are in order, and no more than the settings' window is sent and unconfirmed
pub record AreQueues (window : ℕ) (qs : WholeQueues) : Type 0 where
  pub each : (link : ℕ) → IsQueue window (queue_at qs link)

-- the states that an exchange can stand for: between two events each message of Held has a hold, adjacent points are
-- owed only what finds no room, and each flow that was rerouted is counted
pub record IsSound (a : Abstract) : Type 0 where
  pub queues : AreQueues a.settings.window a.node.queues
  pub waiting : all_wait a.settings a.node.parts.holds a.node.queues.held ≡ true
  pub telling : is_all_told whole a.settings a.node ≡ true
  pub rerouting : counted a.settings (facts a.settings a.node.parts) a.reroutings ≡ a.reroutings

-- ---- The state that an exchange has once it is booted.

-- how many links, sets and destinations the settings have
abbrev pub counts_in : Configuration → NodeCounts
counts_in c = record { links = length c.links; sets = length c.sets; destinations = length c.destinations }

-- every link is down; every route is allowed, and each adjacent point takes it so; no code waits for its answer, and
-- nothing is held; the translation rows are those of the settings; no message came for a user part that isn't here; no
-- timer runs, and nothing was noted
abbrev pub first_parts : Configuration → Parts
first_parts c = record {
  links = replicate (length c.links) down_link;
  routes = map first_routes c.destinations;
  told = first_told c.sets c.destinations;
  changeovers = replicate (length c.links) no_changeover;
  codes = no_codes (length c.sets);
  holds = no_holds (length c.links) (length c.sets) (length c.destinations);
  titles = first_titles c.titles;
  unequipped = replicate (length c.destinations) 0;
  timers = none_running (counts_in c);
  notices = record { last = []; count = 0 };
  times_lost = 0;
  messages_lost = 0;
  times_broken = 0;
  times_late = 0;
}

-- the state that boot gives: all queues are empty, and no flow went by any set
abbrev pub first_state : Configuration → Abstract
first_state c = record {
  settings = c;
  node = record {
    queues = record { held = []; links = replicate (length c.links) first_queue };
    parts = first_parts c;
  };
  reroutings = first_reroutings c;
}
