-- The settings that a node runs with if it is given none.
use Rattle.std.specs.Prelude.{◌≡◌, ℤ, pos, false, None, List, [], ◌∷◌, map, codes, string_bytes}
use Rattle.settings.specs.Configuration.{Configuration}
use Rattle.settings.specs.declared.draft.Draft.{Draft}
use Rattle.settings.specs.declared.draft.TimersDraft.{TimersDraft}
use Rattle.settings.specs.declared.draft.SetDraft.{SetDraft}
use Rattle.settings.specs.declared.draft.LinkDraft.{LinkDraft}
use Rattle.settings.specs.declared.draft.DestinationDraft.{DestinationDraft}

-- how many ticks each timer runs
abbrev pub built_in_ticks : TimersDraft
built_in_ticks = record {
  l1 = pos 10;
  l2 = pos 10;
  l3 = pos 10;
  l4 = pos 3;
  l6 = pos 20;
  l7 = pos 5;
  t1 = pos 4;
  t2 = pos 6;
  t3 = pos 4;
  t4 = pos 4;
  t6 = pos 4;
  t8 = pos 3;
  t10 = pos 8;
  link_tests = None;
  l4e = None;
  sst = None;
  t2_bar = None;
}

-- one set, `east`, to point 2
abbrev pub IsSets : List SetDraft → Type 0
IsSets (s ∷ []) = (string_bytes s.name ≡ codes "east") × (s.adjacent ≡ pos 2)
IsSets _ = ⊥

-- one link, `e0`, of that set, with no share of its own
abbrev pub IsLinks : List LinkDraft → Type 0
IsLinks (l ∷ []) =
    (string_bytes l.name ≡ codes "e0") × (string_bytes l.set ≡ codes "east") × (l.slc ≡ pos 0) × (l.share ≡ None)
IsLinks _ = ⊥

-- a destination only by this set
abbrev pub IsDestination : ℤ → DestinationDraft → Type 0
IsDestination point d =
    (d.point ≡ point) × (map (λ name. string_bytes name) d.sets.items ≡ codes "east" ∷ []) × (d.joined ≡ false)

-- the adjacent point, and point 300
abbrev pub IsDestinations : List DestinationDraft → Type 0
IsDestinations (c ∷ d ∷ []) = IsDestination (pos 2) c × IsDestination (pos 300) d
IsDestinations _ = ⊥

-- the whole
pub record IsBuiltIn (d : Draft) : Type 0 where
  pub own : d.own ≡ pos 1
  pub network : d.network ≡ pos 2
  pub window : d.window ≡ pos 128
  pub pool : d.pool ≡ pos 1000
  pub users : d.users.items ≡ pos 5 ∷ []
  pub subsystems : d.subsystems.items ≡ pos 8 ∷ []
  pub extended_unitdata : d.extended_unitdata ≡ false
  pub subsystem_tests : d.subsystem_tests ≡ false
  pub user_part_unavailable : d.user_part_unavailable ≡ false
  pub processor_outage : d.processor_outage ≡ false
  pub out_of_service : d.out_of_service ≡ false
  pub changeover_by_any_route : d.changeover_by_any_route ≡ false
  pub timers : d.timers ≡ built_in_ticks
  pub sets : IsSets d.sets.items
  pub links : IsLinks d.links.items
  pub destinations : IsDestinations d.destinations.items
  pub titles : d.titles.items ≡ []

-- the same, checked
abbrev pub built_in_settings : Configuration
built_in_settings = record {
  own = 1;
  network = 2;
  window = 128;
  pool = 1000;
  users = 5 ∷ [];
  subsystems = 8 ∷ [];
  extended_unitdata = false;
  subsystem_tests = false;
  user_part_unavailable = false;
  processor_outage = false;
  out_of_service = false;
  changeover_by_any_route = false;
  timers = record {
    l1 = 10;
    l2 = 10;
    l3 = 10;
    l4 = 3;
    l6 = 20;
    l7 = 5;
    t1 = 4;
    t2 = 6;
    t3 = 4;
    t4 = 4;
    t6 = 4;
    t8 = 3;
    t10 = 8;
    link_tests = None;
    l4e = None;
    sst = None;
    t2_bar = None;
  };
  sets = record { name = codes "east"; adjacent = 2 } ∷ [];
  links = record { name = codes "e0"; set = 0; slc = 0; share = None } ∷ [];
  destinations = record { point = 2; sets = 0 ∷ []; joined = false }
      ∷ record { point = 300; sets = 0 ∷ []; joined = false } ∷ [];
  titles = [];
}
