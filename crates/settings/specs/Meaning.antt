-- What settings as they were written mean.
use Rattle.std.specs.Prelude.{ℕ, Bool, List, Option, codes, map, position, unwrap_or, nat_le, ◌-◌, if◌then◌else◌}
use Rattle.std.specs.Prelude.{string_bytes}
use Rattle.std.specs.Option.{option_map}
use Rattle.std.specs.Str.{bytes_eq}
use Rattle.settings.specs.Checks.{natural}
use Rattle.settings.specs.Configuration.{Configuration, SetEntry, LinkEntry, DestinationEntry, ChangeEntry}
use Rattle.settings.specs.Configuration.{TitleEntry}
use Rattle.settings.specs.declared.title_row.TitleRoute.{TitleRoute}
use Rattle.settings.specs.declared.title_row.TitleRoute.TheVariants.{Title, Ssn}
use Rattle.settings.specs.declared.timer_ticks.TimerTicks.{TimerTicks}
use Rattle.settings.specs.declared.timer_ticks.LinkTestTicks.{LinkTestTicks}
use Rattle.settings.specs.declared.draft.Draft.{Draft}
use Rattle.settings.specs.declared.draft.TimersDraft.{TimersDraft}
use Rattle.settings.specs.declared.draft.LinkTestsDraft.{LinkTestsDraft}
use Rattle.settings.specs.declared.draft.SetDraft.{SetDraft}
use Rattle.settings.specs.declared.draft.LinkDraft.{LinkDraft}
use Rattle.settings.specs.declared.draft.DestinationDraft.{DestinationDraft}
use Rattle.settings.specs.declared.draft.TitleDraft.{TitleDraft}
use Rattle.settings.specs.declared.draft.ChangeDraft.{ChangeDraft}

abbrev pub test_ticks_of : LinkTestsDraft → LinkTestTicks
test_ticks_of t = record { slt1 = natural t.slt1; slt2 = natural t.slt2 }

abbrev pub ticks_of : TimersDraft → TimerTicks
ticks_of t = record {
  l1 = natural t.l1;
  l2 = natural t.l2;
  l3 = natural t.l3;
  l4 = natural t.l4;
  l6 = natural t.l6;
  l7 = natural t.l7;
  t1 = natural t.t1;
  t2 = natural t.t2;
  t3 = natural t.t3;
  t4 = natural t.t4;
  t6 = natural t.t6;
  t8 = natural t.t8;
  t10 = natural t.t10;
  link_tests = option_map test_ticks_of t.link_tests;
  l4e = option_map natural t.l4e;
  sst = option_map natural t.sst;
  t2_bar = option_map natural t.t2_bar;
}

-- the place of the set of this name
abbrev pub set_place : List SetDraft → List ℕ → Option ℕ
set_place sets name = position (λ s. bytes_eq (string_bytes s.name) name) sets

-- the number of the set of this name, if there is one
abbrev pub set_number : List SetDraft → List ℕ → ℕ
set_number sets name = unwrap_or (set_place sets name) 0

abbrev pub set_of : SetDraft → SetEntry
set_of s = record { name = string_bytes s.name; adjacent = natural s.adjacent }

abbrev pub link_of : List SetDraft → LinkDraft → LinkEntry
link_of sets l = record {
  name = string_bytes l.name;
  set = set_number sets (string_bytes l.set);
  slc = natural l.slc;
  share = option_map natural l.share;
}

abbrev pub destination_of : List SetDraft → DestinationDraft → DestinationEntry
destination_of sets d = record {
  point = natural d.point;
  sets = map (λ name. set_number sets (string_bytes name)) d.sets.items;
  joined = d.joined;
}

-- the point codes of destinations
abbrev pub points_of : List DestinationDraft → List ℕ
points_of destinations = map (λ d. natural d.point) destinations

-- the value of a digit that is written 0 to 9 or a to f
abbrev pub digit_of : ℕ → ℕ
digit_of octet = if nat_le octet 57 then octet - 48 else octet - 87

-- whether a translation row is routed by title
abbrev pub is_by_title : TitleDraft → Bool
is_by_title t = bytes_eq (string_bytes t.route) (codes "title")

-- a route by title has a subsystem number too, if any; any other is by its subsystem number
abbrev pub route_of : Bool → Option ℕ → TitleRoute
route_of by_title ssn = if by_title then Title ssn else Ssn (unwrap_or ssn 0)

abbrev pub change_of : ChangeDraft → ChangeEntry
change_of c = record {
  plan = option_map natural c.plan;
  nature = option_map natural c.nature;
  removed = natural c.removed;
  added = map digit_of (string_bytes c.added);
}

abbrev pub title_of : TitleDraft → TitleEntry
title_of t = record {
  translation = natural t.translation;
  plan = natural t.plan;
  nature = natural t.nature;
  digits = map digit_of (string_bytes t.digits);
  point = natural t.point;
  backup = option_map natural t.backup;
  route = route_of (is_by_title t) (option_map natural t.ssn);
  change = change_of t.change;
}

abbrev pub settings_of : Draft → Configuration
settings_of d = record {
  own = natural d.own;
  network = natural d.network;
  window = natural d.window;
  pool = natural d.pool;
  users = map natural d.users.items;
  subsystems = map natural d.subsystems.items;
  extended_unitdata = d.extended_unitdata;
  subsystem_tests = d.subsystem_tests;
  user_part_unavailable = d.user_part_unavailable;
  processor_outage = d.processor_outage;
  out_of_service = d.out_of_service;
  changeover_by_any_route = d.changeover_by_any_route;
  timers = ticks_of d.timers;
  sets = map set_of d.sets.items;
  links = map (link_of d.sets.items) d.links.items;
  destinations = map (destination_of d.sets.items) d.destinations.items;
  titles = map title_of d.titles.items;
}
