-- The keys of a settings file, each with the version that brought it: those that are in no array, and those of the
-- tables in arrays.
use Rattle.std.specs.Prelude.{ℕ, ℤ, Bool, true, false, ◌&&◌, List, [], ◌∷◌, map, bytes_eq, codes, Option, Some, None}
use Rattle.std.specs.Option.{option_map, option_flatten}
use denote.Ref.{Bor}
use Rattle.toml.specs.Data.{Members, get_member, as_integer}
use Rattle.settings_file.specs.Versions.{has_joined, has_extensions, has_additions}
use Rattle.settings_file.specs.declared.known_keys.TableArray.{TableArray}
use Rattle.settings_file.specs.declared.versions.Since.{Since}
use Rattle.settings_file.specs.declared.versions.Since.TheVariants.{First, Second, Third, Fourth}

-- a key that a table may have, and the version that brought it
pub record KnownKey : Type 0 where
  pub name : List ℕ
  pub since : Since

-- an array of tables: its key, and the keys of its entries
pub record KnownKeys : Type 0 where
  pub array : List ℕ
  pub keys : List KnownKey

-- the same of the code
abbrev pub known_of : Bor (List ℕ) × Since → KnownKey
known_of k = record { name = k.0.now; since = k.1 }

abbrev pub known_in : TableArray → KnownKeys
known_in a = record { array = a.name.now; keys = map known_of a.keys.now }

-- the version of a document, if it says one
abbrev pub version_of : Members → Option ℤ
version_of document = option_flatten (option_map as_integer (get_member (codes "version") document))

-- whether a file of this version has the keys that came with another; one that says no version has those of the first
abbrev pub has_since : Option ℤ → Since → Bool
has_since version First = true
has_since None since = false
has_since (Some version) Second = has_joined version
has_since (Some version) Third = has_extensions version
has_since (Some version) Fourth = has_additions version

-- whether a document is of a version that has the keys that version 4 brought
abbrev pub has_fourth : Members → Bool
has_fourth document = has_since (version_of document) Fourth

-- whether a known key is this one, in a file of this version
abbrev pub is_key : Option ℤ → List ℕ → KnownKey → Bool
is_key version key known = bytes_eq known.name key && has_since version known.since

abbrev pub known : List ℕ → Since → KnownKey
known name since = record { name = name; since = since }

-- the keys that are in no array
abbrev pub top_keys : List KnownKey
top_keys =
    known (codes "version") First ∷ known (codes "own") First ∷ known (codes "network") First
    ∷ known (codes "window") First ∷ known (codes "pool") First ∷ known (codes "users") First
    ∷ known (codes "subsystems") First ∷ known (codes "extended_unitdata") Third
    ∷ known (codes "subsystem_tests") Third ∷ known (codes "user_part_unavailable") Third
    ∷ known (codes "processor_outage") Third ∷ known (codes "out_of_service") Third
    ∷ known (codes "changeover_by_any_route") Fourth ∷ known (codes "timers") First ∷ known (codes "set") First
    ∷ known (codes "link") First ∷ known (codes "destination") First ∷ known (codes "title") First
    ∷ known (codes "serve") First ∷ []

-- the keys of the table of timers
abbrev pub timer_keys : List KnownKey
timer_keys =
    known (codes "l1") First ∷ known (codes "l2") First ∷ known (codes "l3") First ∷ known (codes "l4") First
    ∷ known (codes "l6") First ∷ known (codes "l7") First ∷ known (codes "t1") First ∷ known (codes "t2") First
    ∷ known (codes "t3") First ∷ known (codes "t4") First ∷ known (codes "t6") First ∷ known (codes "t8") First
    ∷ known (codes "t10") First ∷ known (codes "slt1") Third ∷ known (codes "slt2") Third
    ∷ known (codes "l4e") Third ∷ known (codes "sst") Third ∷ known (codes "t2_bar") Fourth ∷ []

-- the keys of the table of a server
abbrev pub serve_keys : List KnownKey
serve_keys =
    known (codes "tick_ms") First ∷ known (codes "console") First ∷ known (codes "capture") First
    ∷ known (codes "console_open") First ∷ known (codes "points") First ∷ known (codes "udp") First
    ∷ known (codes "sctp") First ∷ known (codes "page_open") First ∷ known (codes "page") First
    ∷ known (codes "capture_size") Fourth ∷ known (codes "capture_files") Fourth
    ∷ known (codes "log_times") Fourth ∷ known (codes "log_least") Fourth ∷ known (codes "log_form") Fourth ∷ []

-- the keys of its table of times and tries
abbrev pub sctp_keys : List KnownKey
sctp_keys =
    known (codes "rto_initial_ms") First ∷ known (codes "rto_min_ms") First ∷ known (codes "rto_max_ms") First
    ∷ known (codes "init_tries") First ∷ known (codes "retransmissions") First
    ∷ known (codes "heartbeat_ms") First ∷ []

-- the keys of a link set
abbrev pub set_keys : List KnownKey
set_keys = known (codes "name") First ∷ known (codes "adjacent") First ∷ []

-- the keys of a link, with those of a server
abbrev pub link_keys : List KnownKey
link_keys =
    known (codes "name") First ∷ known (codes "set") First ∷ known (codes "slc") First
    ∷ known (codes "share") Third ∷ known (codes "listen") First ∷ known (codes "from") Fourth
    ∷ known (codes "connect") First
    ∷ known (codes "remote") First ∷ known (codes "sctp_port") First ∷ known (codes "remote_sctp_port") First
    ∷ known (codes "tries") First ∷ known (codes "remote_port_fixed") Fourth
    ∷ known (codes "addresses") Fourth ∷ []

-- the keys of a destination
abbrev pub destination_keys : List KnownKey
destination_keys = known (codes "point") First ∷ known (codes "sets") First ∷ known (codes "joined") Second ∷ []

-- the keys of a translation row
abbrev pub title_keys : List KnownKey
title_keys =
    known (codes "translation") First ∷ known (codes "plan") First ∷ known (codes "nature") First
    ∷ known (codes "digits") First ∷ known (codes "point") First ∷ known (codes "backup") Third
    ∷ known (codes "route") First ∷ known (codes "ssn") First ∷ known (codes "new_plan") Third
    ∷ known (codes "new_nature") Third ∷ known (codes "remove") Third ∷ known (codes "add") Third ∷ []

-- the arrays of a file
abbrev pub arrays : List KnownKeys
arrays =
    record { array = codes "set"; keys = set_keys }
    ∷ record { array = codes "link"; keys = link_keys }
    ∷ record { array = codes "destination"; keys = destination_keys }
    ∷ record { array = codes "title"; keys = title_keys }
    ∷ []
