-- Settings as a file has them, as plain data, and what a draft has of it.
use Rattle.std.specs.Prelude.{ℕ, ℤ, Bool, List, Option, map, string_bytes}
use Rattle.settings.specs.declared.draft.Draft.{Draft}
use Rattle.settings.specs.declared.draft.TimersDraft.{TimersDraft}
use Rattle.settings.specs.declared.draft.SetDraft.{SetDraft}
use Rattle.settings.specs.declared.draft.LinkDraft.{LinkDraft}
use Rattle.settings.specs.declared.draft.DestinationDraft.{DestinationDraft}
use Rattle.settings.specs.declared.draft.TitleDraft.{TitleDraft}
use Rattle.settings.specs.declared.draft.ChangeDraft.{ChangeDraft}

pub record WrittenSet : Type 0 where
  pub name : List ℕ
  pub adjacent : ℤ

pub record WrittenLink : Type 0 where
  pub name : List ℕ
  pub set : List ℕ
  pub slc : ℤ
  pub share : Option ℤ

pub record WrittenDestination : Type 0 where
  pub point : ℤ
  pub sets : List (List ℕ)
  pub joined : Bool

pub record WrittenChange : Type 0 where
  pub plan : Option ℤ
  pub nature : Option ℤ
  pub removed : ℤ
  pub added : List ℕ

pub record WrittenTitle : Type 0 where
  pub translation : ℤ
  pub plan : ℤ
  pub nature : ℤ
  pub digits : List ℕ
  pub point : ℤ
  pub backup : Option ℤ
  pub route : List ℕ
  pub ssn : Option ℤ
  pub change : WrittenChange

-- the settings of a file except its version
pub record Written : Type 0 where
  pub own : ℤ
  pub network : ℤ
  pub window : ℤ
  pub pool : ℤ
  pub users : List ℤ
  pub subsystems : List ℤ
  pub extended_unitdata : Bool
  pub subsystem_tests : Bool
  pub user_part_unavailable : Bool
  pub processor_outage : Bool
  pub out_of_service : Bool
  pub changeover_by_any_route : Bool
  pub timers : TimersDraft
  pub sets : List WrittenSet
  pub links : List WrittenLink
  pub destinations : List WrittenDestination
  pub titles : List WrittenTitle

abbrev pub set_written : SetDraft → WrittenSet
set_written s = record { name = string_bytes s.name; adjacent = s.adjacent }

abbrev pub link_written : LinkDraft → WrittenLink
link_written l = record { name = string_bytes l.name; set = string_bytes l.set; slc = l.slc; share = l.share }

abbrev pub destination_written : DestinationDraft → WrittenDestination
destination_written d = record {
  point = d.point;
  sets = map (λ name. string_bytes name) d.sets.items;
  joined = d.joined;
}

abbrev pub change_written : ChangeDraft → WrittenChange
change_written c = record { plan = c.plan; nature = c.nature; removed = c.removed; added = string_bytes c.added }

abbrev pub title_written : TitleDraft → WrittenTitle
title_written t = record {
  translation = t.translation;
  plan = t.plan;
  nature = t.nature;
  digits = string_bytes t.digits;
  point = t.point;
  backup = t.backup;
  route = string_bytes t.route;
  ssn = t.ssn;
  change = change_written t.change;
}

abbrev pub written : Draft → Written
written d = record {
  own = d.own;
  network = d.network;
  window = d.window;
  pool = d.pool;
  users = d.users.items;
  subsystems = d.subsystems.items;
  extended_unitdata = d.extended_unitdata;
  subsystem_tests = d.subsystem_tests;
  user_part_unavailable = d.user_part_unavailable;
  processor_outage = d.processor_outage;
  out_of_service = d.out_of_service;
  changeover_by_any_route = d.changeover_by_any_route;
  timers = d.timers;
  sets = map set_written d.sets.items;
  links = map link_written d.links.items;
  destinations = map destination_written d.destinations.items;
  titles = map title_written d.titles.items;
}
