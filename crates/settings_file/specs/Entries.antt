-- The arrays of a settings file, entry by entry. The keys of an entry are read in their order, and the
-- first fault among them is the entry's.
use Rattle.std.specs.Prelude.{ℕ, ℤ, pos, Bool, List, [], Option, Some, None, Result, Ok, Err, codes}
use Rattle.std.specs.Prelude.{if◌then◌else◌, bytes_eq, unwrap_or}
use Rattle.toml.specs.Data.{Data, Members}
use Rattle.settings.specs.declared.key.Key.TheVariants as key
use Rattle.settings_file.specs.declared.fault.SettingsFault.{SettingsFault}
use Rattle.settings_file.specs.declared.fault.SettingsFault.TheVariants.{Missing, Kind}
use Rattle.settings_file.specs.NodeKeys.{found_at, integer_at, optional_integer_at, truth_at, text_at, optional_text_at}
use Rattle.settings_file.specs.NodeKeys.{point_at, optional_point_at}
use Rattle.settings_file.specs.NodeKeys.{name_at, names_at, entries_at}
use Rattle.settings_file.specs.Shapes.{and_then, each, table_in, array_in, integer_in}
use Rattle.settings_file.specs.Written.{WrittenSet, WrittenLink, WrittenDestination, WrittenChange, WrittenTitle}

-- a link set: its name and its adjacent point
unfoldable pub set_in : (has_additions : Bool) → ℕ → Data → Result WrittenSet SettingsFault
set_in has_additions i d =
    and_then (table_in (Kind (key.SetEntry i)) d) (λ t.
    and_then (name_at has_additions (key.SetName i) t) (λ name.
    and_then (point_at has_additions (key.SetAdjacent i) t) (λ adjacent.
    Ok (record { name = name; adjacent = adjacent }))))

-- a link: its name, the name of its set, its signalling link code and its share of the pool, which may be left out
unfoldable pub link_entry_in : (has_share has_longer : Bool) → ℕ → Data → Result WrittenLink SettingsFault
link_entry_in has_share has_longer i d =
    and_then (table_in (Kind (key.LinkEntry i)) d) (λ t.
    and_then (name_at has_longer (key.LinkName i) t) (λ name.
    and_then (name_at has_longer (key.LinkSet i) t) (λ set.
    and_then (integer_at (key.LinkSlc i) t) (λ slc.
    and_then (optional_integer_at has_share (key.LinkShare i) t) (λ share.
    Ok (record { name = name; set = set; slc = slc; share = share }))))))

-- a destination: its point, the names of the sets that lead to it, and whether the first two are joined
unfoldable pub destination_in : (has_joined has_additions : Bool) → ℕ → Data → Result WrittenDestination SettingsFault
destination_in has_joined has_additions i d =
    and_then (table_in (Kind (key.DestinationEntry i)) d) (λ t.
    and_then (point_at has_additions (key.DestinationPoint i) t) (λ point.
    and_then (names_at has_additions (key.DestinationSets i) t) (λ sets.
    and_then (truth_at has_joined (key.DestinationJoined i) t) (λ joined.
    Ok (record { point = point; sets = sets; joined = joined })))))

-- a subsystem number, which a route by subsystem number needs
abbrev pub ssn_in : ℕ → List ℕ → Option Data → Result (Option ℤ) SettingsFault
ssn_in i route None = if bytes_eq route (codes "ssn") then Err (Missing (key.TitleSsn i)) else Ok None
ssn_in i route (Some d) = and_then (integer_in (Kind (key.TitleSsn i)) d) (λ n. Ok (Some n))

unfoldable pub ssn_at : ℕ → List ℕ → Members → Result (Option ℤ) SettingsFault
ssn_at i route t = ssn_in i route (found_at (key.TitleSsn i) t)

-- how a translation row changes titles, if the version of the file has these keys: the numbering plan and the nature of
-- address that they get, how many digits are taken off, and which are put on. Each may be left out, and is no change
-- then
unfoldable pub change_at : (has_keys : Bool) → ℕ → Members → Result WrittenChange SettingsFault
change_at has_keys i t =
    and_then (optional_integer_at has_keys (key.TitleNewPlan i) t) (λ plan.
    and_then (optional_integer_at has_keys (key.TitleNewNature i) t) (λ nature.
    and_then (optional_integer_at has_keys (key.TitleRemove i) t) (λ removed.
    and_then (optional_text_at has_keys (key.TitleAdd i) t) (λ added.
    Ok (record { plan = plan; nature = nature; removed = unwrap_or removed (pos 0); added = added })))))

-- a translation row, in a file whose version has the keys of backups and of changed titles, or doesn't have them: there
-- they are ignored
unfoldable pub title_in : (has_extensions has_texts : Bool) → ℕ → Data → Result WrittenTitle SettingsFault
title_in has_extensions has_texts i d =
    and_then (table_in (Kind (key.TitleEntry i)) d) (λ t.
    and_then (integer_at (key.TitleTranslation i) t) (λ translation.
    and_then (integer_at (key.TitlePlan i) t) (λ plan.
    and_then (integer_at (key.TitleNature i) t) (λ nature.
    and_then (text_at (key.TitleDigits i) t) (λ digits.
    and_then (point_at has_texts (key.TitlePoint i) t) (λ point.
    and_then (optional_point_at has_extensions has_texts (key.TitleBackup i) t) (λ backup.
    and_then (text_at (key.TitleRoute i) t) (λ route.
    and_then (ssn_at i route t) (λ ssn.
    and_then (change_at has_extensions i t) (λ change.
    Ok (record {
      translation = translation;
      plan = plan;
      nature = nature;
      digits = digits;
      point = point;
      backup = backup;
      route = route;
      ssn = ssn;
      change = change;
    })))))))))))

-- the arrays of a file, of which only that of translation rows may be left out or empty
unfoldable pub sets_at : (has_additions : Bool) → Members → Result (List WrittenSet) SettingsFault
sets_at has_additions t = and_then (entries_at key.Set t) (each (set_in has_additions) 0)

unfoldable pub links_at : (has_share has_longer : Bool) → Members → Result (List WrittenLink) SettingsFault
links_at has_share has_longer t = and_then (entries_at key.Link t) (each (link_entry_in has_share has_longer) 0)

unfoldable pub destinations_at : (has_joined has_additions : Bool) → Members → Result (List WrittenDestination) SettingsFault
destinations_at has_joined has_additions t =
    and_then (entries_at key.Destination t) (each (destination_in has_joined has_additions) 0)

abbrev pub titles_in : (has_extensions has_texts : Bool) → Option Data → Result (List WrittenTitle) SettingsFault
titles_in has_extensions has_texts None = Ok []
titles_in has_extensions has_texts (Some d) =
    and_then (array_in (Kind key.Title) d) (each (title_in has_extensions has_texts) 0)

unfoldable pub titles_at : (has_extensions has_texts : Bool) → Members → Result (List WrittenTitle) SettingsFault
titles_at has_extensions has_texts t = titles_in has_extensions has_texts (found_at key.Title t)
