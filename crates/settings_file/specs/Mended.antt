-- The settings that a document of version 4 says of which not all values can be read. Each that can't counts as a
-- malformed one: a number as -1, which no key takes; a text and a list as empty ones. One that may be left out counts as
-- left out.
use Rattle.std.specs.Prelude.{ℕ, ◌+◌, ℤ, pos, negsuc, true, false, ◌||◌, List, [], ◌∷◌, Option, None, Some, Result, unwrap_or}
use Rattle.std.specs.Prelude.{if◌then◌else◌}
use Rattle.std.specs.Result.{result_unwrap_or}
use Rattle.toml.specs.Data.{Data, Members, no_members, as_table}
use Rattle.settings.specs.declared.draft.TimersDraft.{TimersDraft}
use Rattle.settings.specs.declared.draft.LinkTestsDraft.{LinkTestsDraft}
use Rattle.settings.specs.declared.key.Key.{Key}
use Rattle.settings.specs.declared.key.Key.TheVariants as key
use Rattle.settings.specs.declared.key.TimerKey.{TimerKey}
use Rattle.settings.specs.declared.key.TimerKey.TheVariants.{L1, L2, L3, L4, L6, L7, T1, T2, T3, T4, T6, T8, T10}
use Rattle.settings.specs.declared.key.TimerKey.TheVariants.{Slt1, Slt2, L4e, Sst, T2Bar}
use Rattle.settings_file.specs.declared.fault.SettingsFault.{SettingsFault}
use Rattle.settings_file.specs.declared.fault.SettingsFault.TheVariants.{Kind}
use Rattle.settings_file.specs.Entries.{ssn_at}
use Rattle.settings_file.specs.NodeKeys.{found_at, integer_at, optional_integer_at, truth_at, text_at, optional_text_at}
use Rattle.settings_file.specs.NodeKeys.{point_at, optional_point_at, integers_if_any_at, name_at, names_at}
use Rattle.settings_file.specs.Shapes.{array_in}
use Rattle.settings_file.specs.Ticks.{clock_of}
use Rattle.settings_file.specs.Timers.{usual_times, has_timer, ticks_at, optional_ticks_at, table_at}
use Rattle.settings_file.specs.Written.{Written, WrittenSet, WrittenLink, WrittenDestination, WrittenChange, WrittenTitle}

-- what was read, or this if nothing was
abbrev pub or_else : {A : Type 0} → A → Result A SettingsFault → A
or_else other read = result_unwrap_or read other

-- the number that counts where none can be read
abbrev pub unread : ℤ
unread = negsuc 0

-- the table that an entry is, or else an empty one
abbrev pub members_in : Data → Members
members_in d = unwrap_or (as_table d) no_members

-- the entries of an array, or none if there is no array
abbrev pub entries_if_any : Key → Option Data → List Data
entries_if_any key None = []
entries_if_any key (Some d) = or_else [] (array_in (Kind key) d)

abbrev pub entries_mended : Key → Members → List Data
entries_mended key t = entries_if_any key (found_at key t)

-- what each entry of an array counts as, from number i on
abbrev pub each_mended : {A : Type 0} → (ℕ → Members → A) → ℕ → List Data → List A
each_mended mend i [] = []
each_mended mend i (d ∷ rest) = mend i (members_in d) ∷ each_mended mend (i + 1) rest

-- a link set
unfoldable pub set_mended : ℕ → Members → WrittenSet
set_mended i t = record {
  name = or_else [] (name_at true (key.SetName i) t);
  adjacent = or_else unread (point_at true (key.SetAdjacent i) t);
}

-- a link
unfoldable pub link_mended : ℕ → Members → WrittenLink
link_mended i t = record {
  name = or_else [] (name_at true (key.LinkName i) t);
  set = or_else [] (name_at true (key.LinkSet i) t);
  slc = or_else unread (integer_at (key.LinkSlc i) t);
  share = or_else None (optional_integer_at true (key.LinkShare i) t);
}

-- a destination
unfoldable pub destination_mended : ℕ → Members → WrittenDestination
destination_mended i t = record {
  point = or_else unread (point_at true (key.DestinationPoint i) t);
  sets = or_else [] (names_at true (key.DestinationSets i) t);
  joined = or_else false (truth_at true (key.DestinationJoined i) t);
}

-- how a translation row changes titles
unfoldable pub change_mended : ℕ → Members → WrittenChange
change_mended i t = record {
  plan = or_else None (optional_integer_at true (key.TitleNewPlan i) t);
  nature = or_else None (optional_integer_at true (key.TitleNewNature i) t);
  removed = unwrap_or (or_else None (optional_integer_at true (key.TitleRemove i) t)) (pos 0);
  added = or_else [] (optional_text_at true (key.TitleAdd i) t);
}

-- a translation row. Where its route can't be read, it asks for no subsystem number
unfoldable pub title_mended : ℕ → Members → WrittenTitle
title_mended i t = record {
  translation = or_else unread (integer_at (key.TitleTranslation i) t);
  plan = or_else unread (integer_at (key.TitlePlan i) t);
  nature = or_else unread (integer_at (key.TitleNature i) t);
  digits = or_else [] (text_at (key.TitleDigits i) t);
  point = or_else unread (point_at true (key.TitlePoint i) t);
  backup = or_else None (optional_point_at true true (key.TitleBackup i) t);
  route = or_else [] (text_at (key.TitleRoute i) t);
  ssn = or_else None (ssn_at i (or_else [] (text_at (key.TitleRoute i) t)) t);
  change = change_mended i t;
}

-- how many ticks a timer runs
abbrev pub ticks_mended : (clock : Option ℕ) → TimerKey → (usual_ms : ℕ) → Option Members → ℤ
ticks_mended clock timer usual_ms t = or_else unread (ticks_at clock timer usual_ms t)

-- the same of a timer that there may not be
abbrev pub optional_ticks_mended : (clock : Option ℕ) → TimerKey → Option Members → Option ℤ
optional_ticks_mended clock timer t = or_else None (optional_ticks_at true clock timer t)

-- the timers of link tests: both, or neither
abbrev pub link_tests_mended : (clock : Option ℕ) → Option Members → Option LinkTestsDraft
link_tests_mended clock t =
    if has_timer Slt1 t || has_timer Slt2 t
    then Some (record {
      slt1 = ticks_mended clock Slt1 usual_times.slt1 t;
      slt2 = ticks_mended clock Slt2 usual_times.slt2 t;
    })
    else None

-- how many ticks each timer runs
unfoldable pub timers_mended_in : (clock : Option ℕ) → Option Members → TimersDraft
timers_mended_in clock t = record {
  l1 = ticks_mended clock L1 usual_times.l1 t;
  l2 = ticks_mended clock L2 usual_times.l2 t;
  l3 = ticks_mended clock L3 usual_times.l3 t;
  l4 = ticks_mended clock L4 usual_times.l4 t;
  l6 = ticks_mended clock L6 usual_times.l6 t;
  l7 = ticks_mended clock L7 usual_times.l7 t;
  t1 = ticks_mended clock T1 usual_times.t1 t;
  t2 = ticks_mended clock T2 usual_times.t2 t;
  t3 = ticks_mended clock T3 usual_times.t3 t;
  t4 = ticks_mended clock T4 usual_times.t4 t;
  t6 = ticks_mended clock T6 usual_times.t6 t;
  t8 = ticks_mended clock T8 usual_times.t8 t;
  t10 = ticks_mended clock T10 usual_times.t10 t;
  link_tests = link_tests_mended clock t;
  l4e = optional_ticks_mended clock L4e t;
  sst = optional_ticks_mended clock Sst t;
  t2_bar = optional_ticks_mended clock T2Bar t;
}

-- the timers of a document: the usual ones if their table can't be read
unfoldable pub timers_mended : Members → TimersDraft
timers_mended t = timers_mended_in (clock_of true t) (or_else None (table_at (clock_of true t) t))

-- the settings of a document
unfoldable pub mended : Members → Written
mended t = record {
  own = or_else unread (point_at true key.Own t);
  network = or_else unread (integer_at key.Network t);
  window = or_else unread (integer_at key.Window t);
  pool = or_else unread (integer_at key.Pool t);
  users = or_else [] (integers_if_any_at true key.Users t);
  subsystems = or_else [] (integers_if_any_at true key.Subsystems t);
  extended_unitdata = or_else false (truth_at true key.ExtendedUnitdata t);
  subsystem_tests = or_else false (truth_at true key.SubsystemTests t);
  user_part_unavailable = or_else false (truth_at true key.UserPartUnavailable t);
  processor_outage = or_else false (truth_at true key.ProcessorOutage t);
  out_of_service = or_else false (truth_at true key.OutOfService t);
  changeover_by_any_route = or_else false (truth_at true key.ChangeoverByAnyRoute t);
  timers = timers_mended t;
  sets = each_mended set_mended 0 (entries_mended key.Set t);
  links = each_mended link_mended 0 (entries_mended key.Link t);
  destinations = each_mended destination_mended 0 (entries_mended key.Destination t);
  titles = each_mended title_mended 0 (entries_mended key.Title t);
}
