-- What checked numbers and rows are.
use Rattle.settings.specs.Configuration.{Configuration}
use Rattle.settings.specs.declared.draft.Draft.{Draft}
use Rattle.settings.specs.declared.check.Checked.{Checked}
use Rattle.settings.specs.declared.check.Services.{Services}

-- what settings ask for, of which nothing can be wrong
abbrev pub services_in : Draft → Services
services_in d = record {
  extended_unitdata = d.extended_unitdata;
  subsystem_tests = d.subsystem_tests;
  user_part_unavailable = d.user_part_unavailable;
  processor_outage = d.processor_outage;
  out_of_service = d.out_of_service;
  changeover_by_any_route = d.changeover_by_any_route;
}

abbrev pub configuration_in : Checked → Configuration
configuration_in c = record {
  own = c.scalars.own;
  network = c.scalars.network;
  window = c.scalars.window;
  pool = c.scalars.pool;
  users = c.users.items;
  subsystems = c.subsystems.items;
  extended_unitdata = c.services.extended_unitdata;
  subsystem_tests = c.services.subsystem_tests;
  user_part_unavailable = c.services.user_part_unavailable;
  processor_outage = c.services.processor_outage;
  out_of_service = c.services.out_of_service;
  changeover_by_any_route = c.services.changeover_by_any_route;
  timers = c.timers;
  sets = c.arrays.sets.items;
  links = c.arrays.links.items;
  destinations = c.arrays.tables.destinations.items;
  titles = c.arrays.tables.titles.items;
}
