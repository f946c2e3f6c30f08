-- A mated pair: points 1 and 2, joined by a link, transfer for points 3 and 4, each of which has a link to either.
use Rattle.std.specs.Prelude.{ℕ, true, false, [], ◌∷◌, Some, None, nat_eq, if◌then◌else◌}
use Rattle.settings.specs.Configuration.{Configuration, LinkEntry}
use Rattle.settings.specs.declared.timer_ticks.TimerTicks.{TimerTicks}

-- proving takes one tick, a bar lasts long, and no other timer runs out soon
abbrev pub ticks : TimerTicks
ticks = record {
  l1 = 9;
  l2 = 9;
  l3 = 9;
  l4 = 1;
  l6 = 9;
  l7 = 9;
  t1 = 9;
  t2 = 9;
  t3 = 9;
  t4 = 9;
  t6 = 9;
  t8 = 9;
  t10 = 9;
  link_tests = None;
  l4e = None;
  sst = None;
  t2_bar = Some 99;
}

-- orders to change over go by any route, and links whose answers are awaited stay barred. (A point that has no links
-- yet, and so no node.)
abbrev pub without_links : (own : ℕ) → Configuration
without_links own = record {
  own = own;
  network = 2;
  window = 8;
  pool = 10;
  users = 5 ∷ [];
  subsystems = [];
  extended_unitdata = false;
  subsystem_tests = false;
  user_part_unavailable = false;
  processor_outage = false;
  out_of_service = false;
  changeover_by_any_route = true;
  timers = ticks;
  sets = [];
  links = [];
  destinations = [];
  titles = [];
}

abbrev pub link_of_set : (name set : ℕ) → LinkEntry
link_of_set name set = record { name = name ∷ []; set = set; slc = 0; share = None }

-- one of the pair: it reaches points 3 and 4 by its own links to them, or else by its mate
abbrev pub transfer_settings : (own mate : ℕ) → Configuration
transfer_settings own mate = record (without_links own) {
  sets =
      record { name = 97 ∷ []; adjacent = 3 }
      ∷ record { name = 98 ∷ []; adjacent = 4 }
      ∷ record { name = 99 ∷ []; adjacent = mate }
      ∷ [];
  links = link_of_set 97 0 ∷ link_of_set 98 1 ∷ link_of_set 99 2 ∷ [];
  destinations =
      record { point = 3; sets = 0 ∷ 2 ∷ []; joined = false }
      ∷ record { point = 4; sets = 1 ∷ 2 ∷ []; joined = false }
      ∷ record { point = mate; sets = 2 ∷ []; joined = false }
      ∷ [];
}

-- one of the points that they transfer for: it reaches the other one by both, and either by itself, or else by its mate
abbrev pub end_settings : (own other : ℕ) → Configuration
end_settings own other = record (without_links own) {
  sets = record { name = 97 ∷ []; adjacent = 1 } ∷ record { name = 98 ∷ []; adjacent = 2 } ∷ [];
  links = link_of_set 97 0 ∷ link_of_set 98 1 ∷ [];
  destinations =
      record { point = 1; sets = 0 ∷ 1 ∷ []; joined = false }
      ∷ record { point = 2; sets = 1 ∷ 0 ∷ []; joined = false }
      ∷ record { point = other; sets = 0 ∷ 1 ∷ []; joined = true }
      ∷ [];
}

abbrev pub mated : (point : ℕ) → Configuration
mated point =
    if nat_eq point 1 then transfer_settings 1 2
    else if nat_eq point 2 then transfer_settings 2 1
    else if nat_eq point 3 then end_settings 3 4
    else if nat_eq point 4 then end_settings 4 3
    else without_links point
