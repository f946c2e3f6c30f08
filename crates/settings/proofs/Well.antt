-- Settings without a fault satisfy every limit, and every name is known.
use Rattle.settings.proofs.Basics.{◌≡◌, arith, None, natural, range_fault, numbers_fault, settings_of, first_fault, scalars_fault, timers_fault, tables_fault, arrays_fault, sets_fault, links_fault, destinations_fault, titles_fault, unreached_fault, Own, Network, Window, Pool, Users, Subsystems, WINDOW, POOL, IsWithin, IsWell}
use Rattle.settings.specs.declared.draft.Draft.{Draft}
use Rattle.settings.proofs.Rows.{three_none, four_none, five_none}
use Rattle.settings.proofs.WellNumbers.{in_range, numbers_within, numbers_differ}
use Rattle.settings.proofs.WellTimers.{timers_within, bar_longer}
use Rattle.settings.proofs.WellSets.{set_count_well, sets_well, set_names_well, adjacent_points_well}
use Rattle.settings.proofs.WellLinks.{link_count_well, links_well, link_names_well, link_codes_well, links_of_a_set_well}
use Rattle.settings.proofs.WellDestinations.{destination_count_well, destinations_well, points_well, adjacent_points_led_well}
use Rattle.settings.proofs.WellTitles.{title_count_well, titles_well, titles_differ_well}

scalars_none : (d : Draft) → scalars_fault d ≡ None → (range_fault 0 16383 Own d.own ≡ None) × (range_fault 0 3 Network d.network ≡ None) × (range_fault 1 WINDOW Window d.window ≡ None) × (range_fault 1 POOL Pool d.pool ≡ None)
unfolding scalars_fault
scalars_none d h = four_none (range_fault 0 16383 Own d.own) (range_fault 0 3 Network d.network) (range_fault 1 WINDOW Window d.window) (range_fault 1 POOL Pool d.pool) h

arrays_none : (d : Draft) → arrays_fault d ≡ None → (sets_fault (natural d.own) d.sets.items ≡ None) × (links_fault d.sets.items d.links.items ≡ None) × (tables_fault d ≡ None)
unfolding arrays_fault
arrays_none d h = three_none (sets_fault (natural d.own) d.sets.items) (links_fault d.sets.items d.links.items) (tables_fault d) h

tables_none : (d : Draft) → tables_fault d ≡ None → (destinations_fault (natural d.own) d.sets.items d.destinations.items ≡ None) × (titles_fault d.titles.items ≡ None) × (unreached_fault d.destinations.items d.sets.items ≡ None)
unfolding tables_fault
tables_none d h =
    three_none (destinations_fault (natural d.own) d.sets.items d.destinations.items) (titles_fault d.titles.items) (unreached_fault d.destinations.items d.sets.items) h

pub well_of : (d : Draft) → first_fault d ≡ None → IsWell (settings_of d)
well_of d h =
    let r = five_none (scalars_fault d) (numbers_fault 4 15 Users d.users.items) (numbers_fault 1 255 Subsystems d.subsystems.items) (timers_fault d.timers) (arrays_fault d) h in
    let n = scalars_none d r.0 in
    let a = arrays_none d r.4 in
    let b = tables_none d a.2 in
    let own : IsWithin 0 16383 (natural d.own) = in_range 0 16383 Own d.own n.0 in
    let network : IsWithin 0 3 (natural d.network) = in_range 0 3 Network d.network n.1 in
    record {
      own = omega (arith, own.below);
      network = omega (arith, network.below);
      window = in_range 1 WINDOW Window d.window n.2;
      pool = in_range 1 POOL Pool d.pool n.3;
      users = numbers_within 4 15 Users d.users.items r.1;
      users_differ = numbers_differ 4 15 Users d.users.items r.1;
      subsystems = numbers_within 1 255 Subsystems d.subsystems.items r.2;
      subsystems_differ = numbers_differ 1 255 Subsystems d.subsystems.items r.2;
      timers = timers_within d.timers r.3;
      bar = bar_longer d.timers r.3;
      set_count = set_count_well (natural d.own) d.sets.items a.0;
      sets = sets_well (natural d.own) d.sets.items a.0;
      set_names_differ = set_names_well (natural d.own) d.sets.items a.0;
      adjacent_points_differ = adjacent_points_well (natural d.own) d.sets.items a.0;
      link_count = link_count_well d.sets.items d.links.items a.1;
      links = links_well d.sets.items d.links.items a.1;
      link_names_differ = link_names_well d.sets.items d.links.items a.1;
      link_codes_differ = link_codes_well d.sets.items d.links.items a.1;
      links_of_a_set = links_of_a_set_well d.sets.items d.links.items a.1;
      destination_count = destination_count_well (natural d.own) d.sets.items d.destinations.items b.0;
      destinations = destinations_well (natural d.own) d.sets.items d.destinations.items b.0;
      points_differ = points_well (natural d.own) d.sets.items d.destinations.items b.0;
      adjacent_points_led = adjacent_points_led_well (natural d.own) d.sets.items d.destinations.items a.0 b.2;
      title_count = title_count_well d.titles.items b.1;
      titles = titles_well d.titles.items b.1;
      titles_differ = titles_differ_well d.titles.items b.1;
    }
