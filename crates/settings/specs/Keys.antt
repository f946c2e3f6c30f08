-- The keys of settings, and how they are written.
use Rattle.std.specs.Prelude.{ℕ, List, [], ◌++◌, Option, Some, None, codes}
use Rattle.std.specs.Fmt.{decimal}
use Rattle.settings.specs.declared.key.TimerKey.{TimerKey}
use Rattle.settings.specs.declared.key.TimerKey.TheVariants.{L1, L2, L3, L4, L6, L7, T1, T2, T3, T4, T6, T8, T10}
use Rattle.settings.specs.declared.key.TimerKey.TheVariants.{Slt1, Slt2, L4e, Sst, T2Bar}
use Rattle.settings.specs.declared.key.Key.{Key}
use Rattle.settings.specs.declared.key.Key.TheVariants.{Version, Own, Network, Window, Pool, Users, Subsystems}
use Rattle.settings.specs.declared.key.Key.TheVariants.{ExtendedUnitdata, SubsystemTests, UserPartUnavailable}
use Rattle.settings.specs.declared.key.Key.TheVariants.{ProcessorOutage, OutOfService, ChangeoverByAnyRoute}
use Rattle.settings.specs.declared.key.Key.TheVariants.{Timers, Timer, Set, SetEntry, SetName, SetAdjacent, Link}
use Rattle.settings.specs.declared.key.Key.TheVariants.{LinkEntry, LinkName, LinkSet, LinkSlc, LinkShare, Destination}
use Rattle.settings.specs.declared.key.Key.TheVariants.{DestinationEntry, DestinationPoint, DestinationSets}
use Rattle.settings.specs.declared.key.Key.TheVariants.{DestinationJoined}
use Rattle.settings.specs.declared.key.Key.TheVariants.{Title, TitleEntry, TitleTranslation, TitlePlan}
use Rattle.settings.specs.declared.key.Key.TheVariants.{TitleNature}
use Rattle.settings.specs.declared.key.Key.TheVariants.{TitleDigits, TitlePoint, TitleBackup, TitleRoute, TitleSsn}
use Rattle.settings.specs.declared.key.Key.TheVariants.{TitleNewPlan, TitleNewNature, TitleRemove, TitleAdd}

-- how the key of a timer is written
abbrev pub timer_path : TimerKey → List ℕ
timer_path L1 = codes "timers.l1"
timer_path L2 = codes "timers.l2"
timer_path L3 = codes "timers.l3"
timer_path L4 = codes "timers.l4"
timer_path L6 = codes "timers.l6"
timer_path L7 = codes "timers.l7"
timer_path T1 = codes "timers.t1"
timer_path T2 = codes "timers.t2"
timer_path T3 = codes "timers.t3"
timer_path T4 = codes "timers.t4"
timer_path T6 = codes "timers.t6"
timer_path T8 = codes "timers.t8"
timer_path T10 = codes "timers.t10"
timer_path Slt1 = codes "timers.slt1"
timer_path Slt2 = codes "timers.slt2"
timer_path L4e = codes "timers.l4e"
timer_path Sst = codes "timers.sst"
timer_path T2Bar = codes "timers.t2_bar"

-- how a key is written; of a key in an entry of an array, how the array is
abbrev pub key_front : Key → List ℕ
key_front Version = codes "version"
key_front Own = codes "own"
key_front Network = codes "network"
key_front Window = codes "window"
key_front Pool = codes "pool"
key_front Users = codes "users"
key_front Subsystems = codes "subsystems"
key_front ExtendedUnitdata = codes "extended_unitdata"
key_front SubsystemTests = codes "subsystem_tests"
key_front UserPartUnavailable = codes "user_part_unavailable"
key_front ProcessorOutage = codes "processor_outage"
key_front OutOfService = codes "out_of_service"
key_front ChangeoverByAnyRoute = codes "changeover_by_any_route"
key_front Timers = codes "timers"
key_front (Timer timer) = timer_path timer
key_front Set = codes "set"
key_front (SetEntry i) = codes "set"
key_front (SetName i) = codes "set"
key_front (SetAdjacent i) = codes "set"
key_front Link = codes "link"
key_front (LinkEntry i) = codes "link"
key_front (LinkName i) = codes "link"
key_front (LinkSet i) = codes "link"
key_front (LinkSlc i) = codes "link"
key_front (LinkShare i) = codes "link"
key_front Destination = codes "destination"
key_front (DestinationEntry i) = codes "destination"
key_front (DestinationPoint i) = codes "destination"
key_front (DestinationSets i) = codes "destination"
key_front (DestinationJoined i) = codes "destination"
key_front Title = codes "title"
key_front (TitleEntry i) = codes "title"
key_front (TitleTranslation i) = codes "title"
key_front (TitlePlan i) = codes "title"
key_front (TitleNature i) = codes "title"
key_front (TitleDigits i) = codes "title"
key_front (TitlePoint i) = codes "title"
key_front (TitleBackup i) = codes "title"
key_front (TitleRoute i) = codes "title"
key_front (TitleSsn i) = codes "title"
key_front (TitleNewPlan i) = codes "title"
key_front (TitleNewNature i) = codes "title"
key_front (TitleRemove i) = codes "title"
key_front (TitleAdd i) = codes "title"

-- the index of the entry of an array that a key is in, from 0
abbrev pub key_index : Key → Option ℕ
key_index (SetEntry i) = Some i
key_index (SetName i) = Some i
key_index (SetAdjacent i) = Some i
key_index (LinkEntry i) = Some i
key_index (LinkName i) = Some i
key_index (LinkSet i) = Some i
key_index (LinkSlc i) = Some i
key_index (LinkShare i) = Some i
key_index (DestinationEntry i) = Some i
key_index (DestinationPoint i) = Some i
key_index (DestinationSets i) = Some i
key_index (DestinationJoined i) = Some i
key_index (TitleEntry i) = Some i
key_index (TitleTranslation i) = Some i
key_index (TitlePlan i) = Some i
key_index (TitleNature i) = Some i
key_index (TitleDigits i) = Some i
key_index (TitlePoint i) = Some i
key_index (TitleBackup i) = Some i
key_index (TitleRoute i) = Some i
key_index (TitleSsn i) = Some i
key_index (TitleNewPlan i) = Some i
key_index (TitleNewNature i) = Some i
key_index (TitleRemove i) = Some i
key_index (TitleAdd i) = Some i
key_index key = None

-- what is after the index: a dot and the key in its entry, or nothing
abbrev pub key_back : Key → List ℕ
key_back (SetName i) = codes ".name"
key_back (SetAdjacent i) = codes ".adjacent"
key_back (LinkName i) = codes ".name"
key_back (LinkSet i) = codes ".set"
key_back (LinkSlc i) = codes ".slc"
key_back (LinkShare i) = codes ".share"
key_back (DestinationPoint i) = codes ".point"
key_back (DestinationSets i) = codes ".sets"
key_back (DestinationJoined i) = codes ".joined"
key_back (TitleTranslation i) = codes ".translation"
key_back (TitlePlan i) = codes ".plan"
key_back (TitleNature i) = codes ".nature"
key_back (TitleDigits i) = codes ".digits"
key_back (TitlePoint i) = codes ".point"
key_back (TitleBackup i) = codes ".backup"
key_back (TitleRoute i) = codes ".route"
key_back (TitleSsn i) = codes ".ssn"
key_back (TitleNewPlan i) = codes ".new_plan"
key_back (TitleNewNature i) = codes ".new_nature"
key_back (TitleRemove i) = codes ".remove"
key_back (TitleAdd i) = codes ".add"
key_back key = []

-- an array, the index of an entry and a key there: `link[2].slc`; or a key alone
abbrev pub path_of : List ℕ → Option ℕ → List ℕ → List ℕ
path_of front None back = front
path_of front (Some i) back = front ++ (codes "[" ++ (decimal i ++ (codes "]" ++ back)))

-- how a key is written: `own`, `timers.l1`, `link[2].slc`
abbrev pub key_path : Key → List ℕ
key_path key = path_of (key_front key) (key_index key) (key_back key)
