-- How an exchange lies in its parts, and the room that they have.
use Rattle.signalling_types.specs.declared.limits.TheConstants.Limits.{LINKS, NOTICES}
use Rattle.std.specs.Prelude.{◌≡◌, ◌≤◌, ◌+◌, ◌||◌, true, length, replicate, vec_len}
use Rattle.cell_pool.specs.Lanes.{lane_at}
use Rattle.node_links.specs.NodeLinks.{facts_of}
use Rattle.route_management.specs.Told.{shape_of}
use Rattle.exchange_rules.specs.Routing.{all_wait, sets_in}
use Rattle.exchange_rules.specs.State.{State}
use Rattle.exchange_rules.specs.Places.{HasHoldsFor, HasCodes}
use Rattle.exchange.specs.KeptQueues.{KeptQueues, held_lane}
use Rattle.exchange.specs.Pending.{OwesNoneBut}
use Rattle.exchange.specs.DueFlows.{CountedBut}
use Rattle.exchange.specs.declared.exchange.Exchange.TheInside.{Inside}

abbrev pub kept_in : Inside → State KeptQueues
kept_in e = record {
  settings = e.settings;
  node = record {
    queues = record { lanes = e.lanes.lists; counts = e.sequences.items };
    parts = record {
      links = e.links.links;
      routes = e.links.routes;
      told = e.told;
      changeovers = e.changeovers;
      codes = e.changeback;
      holds = e.holds;
      titles = e.titles;
      unequipped = e.unequipped;
      timers = e.timers;
      notices = record { last = e.notices.items; count = e.notice_count };
      times_lost = e.times_lost;
      messages_lost = e.messages_lost;
      times_broken = e.times_broken;
      times_late = e.times_late;
    };
  };
  reroutings = record { last_sets = e.flow_sets; times = e.times_rerouted };
}

-- Held and each link have their list; each link has its numbers, its state and its changeover; links and sets are those
-- of the settings. The pool and the notices have their room. For each set it is known what its point was told of each
-- destination. Links, routes, codes, holds and counts have their places. Unless a release is due, each message of Held
-- waits. No adjacent point is owed anything except what may be pending. All flows that changed their set were counted
-- but those that are due
pub record HasRoom (e : Inside) : Type 0 where
  pub lanes : length e.lanes.lists ≡ length e.links.links + 1
  pub sequences : vec_len e.sequences ≡ length e.links.links
  pub changeovers : length e.changeovers ≡ length e.links.links
  pub links : length e.links.links ≡ length e.settings.links
  pub sets : e.links.sets ≡ sets_in e.settings
  pub pool : e.lanes.pool ≡ e.settings.pool
  pub notices : e.notices.capacity ≡ NOTICES
  pub told : shape_of e.told ≡ replicate (length e.settings.sets) (length e.settings.destinations)
  pub few_links : length e.settings.links ≤ LINKS
  pub routes : length e.links.routes ≡ length e.settings.destinations
  pub codes : HasCodes (length e.settings.sets) e.changeback
  pub holds : HasHoldsFor e.settings e.holds
  pub unequipped : length e.unequipped ≡ length e.settings.destinations
  pub waiting : (e.release_due || all_wait e.settings e.holds (lane_at e.lanes.lists held_lane)) ≡ true
  pub pending : OwesNoneBut (length e.settings.destinations) e.pending (facts_of e.links) e.told
  pub flows :
      CountedBut e.settings e.flows_due (facts_of e.links)
      (record { last_sets = e.flow_sets; times = e.times_rerouted })
