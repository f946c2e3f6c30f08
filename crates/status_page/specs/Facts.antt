-- What is known of a served node beside its exchange.
use Rattle.std.specs.Prelude.{ℕ, List, Option}
use Rattle.settings.specs.declared.point.PointFormat.{PointFormat}
use Rattle.served_link.specs.Counting.{NodeCounters}
use Rattle.served_link.specs.declared.association_status.AssociationStatus.{AssociationStatus}
use Rattle.served_link.specs.declared.service_states.StateSince.{StateSince}
use Rattle.served_link.specs.declared.unavailable.Unavailable.{Unavailable}
use Rattle.status_page.specs.declared.facts.Facts.{Facts}
use Rattle.status_page.specs.declared.noticed.NoticeLog.{NoticeLog}
use Rattle.status_page.specs.declared.times.Times.{Times}

pub record NodeFacts : Type 0 where
  pub counters : NodeCounters
  pub notices : NoticeLog
  -- since when each alarm is raised, if it is
  pub alarms : List (Option ℕ)
  -- each link as it was last seen, and for how long each link and each set was unavailable
  pub states : List StateSince
  pub link_times : List Unavailable
  pub set_times : List Unavailable
  -- how the association of each link does, if it is over SCTP, and up
  pub associations : List (Option AssociationStatus)
  pub points : PointFormat
  pub times : Times

abbrev pub facts_of : Facts → NodeFacts
facts_of f = record {
  counters = f.counters.now;
  notices = f.notices.now;
  alarms = f.alarms.now;
  states = f.states.now;
  link_times = f.link_times.now;
  set_times = f.set_times.now;
  associations = f.associations.now;
  points = f.points;
  times = f.times;
}
