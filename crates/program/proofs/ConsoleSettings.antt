-- The settings that a console shows answer none.
use Rattle.std.proofs.Common.{ℕ, zero, suc, List, [], ◌∷◌, ◌++◌, Bool, true, false, Option, None, Some, refl, length, slice_get, map}
use Rattle.std.specs.Prelude.{codes, decimal, nat_eq}
use Rattle.std.specs.List.{list_any}
use Rattle.std.specs.Option.{option_map}
use Rattle.settings.specs.Points.{point_text}
use Rattle.settings.specs.Configuration.{ChangeEntry, Configuration, DestinationEntry, LinkEntry, SetEntry, TitleEntry}
use Rattle.settings.specs.declared.point.PointFormat.{PointFormat}
use Rattle.settings.specs.declared.timer_ticks.TimerTicks.{TimerTicks}
use Rattle.settings.specs.declared.title_row.TitleRoute.{TitleRoute}
use Rattle.settings.specs.declared.title_row.TitleRoute.TheVariants as route
use Rattle.exchange.specs.Calls.{Kept}
use Rattle.console.specs.Names.{set_name_in}
use Rattle.console.specs.SettingsTexts as text
use Rattle.console.specs.Texts.{digit_octet}
use Rattle.console.specs.TimerKeys.{KeyedTimer, keyed_timers}
use Rattle.console.specs.declared.settings_part.SettingsPart.{SettingsPart}
use Rattle.console.specs.declared.settings_part.SettingsPart.TheVariants as part
use Rattle.console.specs.declared.settings_part.TheConstants.{SETTINGS_PARTS, USER_INDICATORS}
use Rattle.served_node.specs.Listings.{part_text, settings_text}
use Rattle.program.proofs.ShownLines.{both-none, ending-none, first-none, if-none, line-none, nothing-none, unless-none}
use Rattle.program.specs.ConsoleLaws.{AllNone, IsNone}

-- ---- keys and their values

number : (key : List ℕ) (value : ℕ) → IsNone (key ++ codes " = " ++ decimal value) → AllNone (text.number_row key value)
number key value none = line-none (key ++ codes " = " ++ decimal value) none

-- a text is behind its key
word : (key value : List ℕ) → IsNone (key ++ codes " = \"" ++ value ++ codes "\"") → AllNone (text.text_row key value)
word key value none = ending-none (key ++ codes " = \"" ++ value) (codes "\"") none

-- a key that has a value, or none
given : (key : List ℕ) → ((value : ℕ) → IsNone (key ++ codes " = " ++ decimal value)) → (value : Option ℕ) → AllNone (text.given_row key value)
given key none (Some value) = number key value (none value)
given key none None = nothing-none

flag : (key : List ℕ) → IsNone (key ++ codes " = true") → IsNone (key ++ codes " = false") → (value : Bool) → AllNone (text.flag_row key value)
flag key set unset true = ending-none key (codes " = true") set
flag key set unset false = ending-none key (codes " = false") unset

number-element : (value : ℕ) → AllNone (text.number_element value)
number-element value = ending-none (codes "    " ++ decimal value) (codes ",") refl

text-element : (value : List ℕ) → AllNone (text.text_element value)
text-element value = ending-none (codes "    \"" ++ value) (codes "\",") refl

-- ---- the node

service : (c : Configuration) → AllNone (text.service_rows c)
service c =
    both-none
    (both-none
    (both-none
    (both-none
    (both-none (flag (codes "extended_unitdata") refl refl c.extended_unitdata) (flag (codes "subsystem_tests") refl refl c.subsystem_tests))
    (flag (codes "user_part_unavailable") refl refl c.user_part_unavailable))
    (flag (codes "processor_outage") refl refl c.processor_outage))
    (flag (codes "out_of_service") refl refl c.out_of_service))
    (flag (codes "changeover_by_any_route") refl refl c.changeover_by_any_route)

node : (points : PointFormat) (c : Configuration) → AllNone (text.node_rows points c)
node points c =
    both-none
    (both-none
    (both-none
    (both-none
    (both-none
    (both-none
    (record { lines = codes "# This node's settings, without [serve] and the places of its links." ∷ codes "version = 4" ∷ []; whole = refl; none = (refl, (refl, tt)) })
    (word (codes "own") (point_text points c.own) refl))
    (number (codes "network") c.network refl))
    (number (codes "window") c.window refl))
    (number (codes "pool") c.pool refl))
    (service c))
    (line-none (codes "users = [") refl)

user : (c : Configuration) (service_indicator : Option ℕ) → AllNone (text.user_row c service_indicator)
user c (Some service_indicator) = if-none (list_any (λ user. nat_eq user service_indicator) c.users) _ (number-element service_indicator)
user c None = nothing-none

subsystem : (ssn : Option ℕ) → AllNone (text.subsystem_row ssn)
subsystem (Some ssn) = number-element ssn
subsystem None = nothing-none

-- each of some timers
abbrev EachTimer : List KeyedTimer → Type 0
EachTimer [] = Unit {0}
EachTimer (timer ∷ timers) = AllNone (text.given_row timer.key timer.ticks) × EachTimer timers

timer-at : (timers : List KeyedTimer) → EachTimer timers → (k : ℕ) → AllNone (text.timer_row (slice_get timers k))
timer-at [] each k = nothing-none
timer-at (timer ∷ timers) (this, more) zero = this
timer-at (timer ∷ timers) (this, more) (suc k) = timer-at timers more k

timers : (t : TimerTicks) → EachTimer (keyed_timers t)
timers t = (
  given (codes "l1") (λ value. refl) (Some t.l1),
  (
    given (codes "l2") (λ value. refl) (Some t.l2),
    (
      given (codes "l3") (λ value. refl) (Some t.l3),
      (
        given (codes "l4") (λ value. refl) (Some t.l4),
        (
          given (codes "l4e") (λ value. refl) t.l4e,
          (
            given (codes "l6") (λ value. refl) (Some t.l6),
            (
              given (codes "l7") (λ value. refl) (Some t.l7),
              (
                given (codes "t1") (λ value. refl) (Some t.t1),
                (
                  given (codes "t2") (λ value. refl) (Some t.t2),
                  (
                    given (codes "t2_bar") (λ value. refl) t.t2_bar,
                    (
                      given (codes "t3") (λ value. refl) (Some t.t3),
                      (
                        given (codes "t4") (λ value. refl) (Some t.t4),
                        (
                          given (codes "t6") (λ value. refl) (Some t.t6),
                          (
                            given (codes "t8") (λ value. refl) (Some t.t8),
                            (
                              given (codes "t10") (λ value. refl) (Some t.t10),
                              (
                                given (codes "slt1") (λ value. refl) (option_map (λ tests. tests.slt1) t.link_tests),
                                (
                                  given (codes "slt2") (λ value. refl) (option_map (λ tests. tests.slt2) t.link_tests),
                                  (given (codes "sst") (λ value. refl) t.sst, tt),
                                ),
                              ),
                            ),
                          ),
                        ),
                      ),
                    ),
                  ),
                ),
              ),
            ),
          ),
        ),
      ),
    ),
  ),
)

-- ---- its sets, links and destinations

-- a table of several begins behind an empty line
table : (name : List ℕ) → IsNone name → AllNone (codes "\n" ++ (name ++ 10 ∷ []))
table name none = record { lines = [] ∷ name ∷ []; whole = refl; none = (refl, (none, tt)) }

set : (points : PointFormat) (row : Option SetEntry) → AllNone (text.set_rows points row)
set points (Some row) =
    both-none
    (both-none (table (codes "[[set]]") refl) (word (codes "name") row.name refl))
    (word (codes "adjacent") (point_text points row.adjacent) refl)
set points None = nothing-none

link : (c : Configuration) (row : Option LinkEntry) → AllNone (text.link_rows c row)
link c (Some row) =
    both-none
    (both-none
    (both-none
    (both-none (table (codes "[[link]]") refl) (word (codes "name") row.name refl))
    (word (codes "set") (set_name_in c row.set) refl))
    (number (codes "slc") row.slc refl))
    (given (codes "share") (λ value. refl) row.share)
link c None = nothing-none

elements : (c : Configuration) (sets : List ℕ) → AllNone (text.set_elements c sets)
elements c [] = nothing-none
elements c (set ∷ sets) = both-none (text-element (set_name_in c set)) (elements c sets)

destination : (points : PointFormat) (c : Configuration) (row : Option DestinationEntry) → AllNone (text.destination_rows points c row)
destination points c (Some row) =
    both-none
    (both-none
    (both-none
    (both-none
    (both-none (table (codes "[[destination]]") refl) (word (codes "point") (point_text points row.point) refl))
    (line-none (codes "sets = [") refl))
    (elements c row.sets))
    (line-none (codes "]") refl))
    (flag (codes "joined") refl refl row.joined)
destination points c None = nothing-none

-- ---- its translation rows

backup : (points : PointFormat) (point : Option ℕ) → AllNone (text.backup_row points point)
backup points (Some point) = word (codes "backup") (point_text points point) refl
backup points None = nothing-none

route-rows : (to : TitleRoute) → AllNone (text.route_rows to)
route-rows (route.Title ssn) = both-none (word (codes "route") (codes "title") refl) (given (codes "ssn") (λ value. refl) ssn)
route-rows (route.Ssn ssn) = both-none (word (codes "route") (codes "ssn") refl) (number (codes "ssn") ssn refl)

change : (c : ChangeEntry) → AllNone (text.change_rows c)
change c =
    both-none
    (both-none
    (both-none (given (codes "new_plan") (λ value. refl) c.plan) (given (codes "new_nature") (λ value. refl) c.nature))
    (unless-none (nat_eq c.removed 0) _ (number (codes "remove") c.removed refl)))
    (unless-none (nat_eq (length c.added) 0) _ (word (codes "add") (map digit_octet c.added) refl))

title : (points : PointFormat) (row : Option TitleEntry) → AllNone (text.title_rows points row)
title points (Some row) =
    both-none
    (both-none
    (both-none
    (both-none
    (both-none
    (both-none
    (both-none
    (both-none (table (codes "[[title]]") refl) (number (codes "translation") row.translation refl))
    (number (codes "plan") row.plan refl))
    (number (codes "nature") row.nature refl))
    (word (codes "digits") (map digit_octet row.digits) refl))
    (word (codes "point") (point_text points row.point) refl))
    (backup points row.backup))
    (route-rows row.route))
    (change row.change)
title points None = nothing-none

-- ---- the whole file

rows : (points : PointFormat) (s : Kept) (p : SettingsPart) (k : ℕ) → AllNone (text.rows_of points s p k)
rows points s part.Node k = node points s.settings
rows points s part.Users k = user s.settings (slice_get USER_INDICATORS.now k)
rows points s part.UsersEnd k = record { lines = codes "]" ∷ codes "subsystems = [" ∷ []; whole = refl; none = (refl, (refl, tt)) }
rows points s part.Subsystems k = subsystem (slice_get s.settings.subsystems k)
rows points s part.SubsystemsEnd k = record { lines = codes "]" ∷ [] ∷ codes "[timers]" ∷ []; whole = refl; none = (refl, (refl, (refl, tt))) }
rows points s part.Timers k = timer-at (keyed_timers s.settings.timers) (timers s.settings.timers) k
rows points s part.Sets k = set points (slice_get s.settings.sets k)
rows points s part.Links k = link s.settings (slice_get s.settings.links k)
rows points s part.Destinations k = destination points s.settings (slice_get s.settings.destinations k)
rows points s part.Titles k = title points (slice_get s.node.parts.titles.rows k)

part-none : (points : PointFormat) (s : Kept) (p : Option SettingsPart) → AllNone (part_text points s p)
part-none points s (Some p) = first-none (text.rows_of points s p) (rows points s p) (text.entries_of s p)
part-none points s None = nothing-none

pub settings : (points : PointFormat) (s : Kept) → AllNone (settings_text points s)
settings points s =
    first-none (λ k. part_text points s (slice_get SETTINGS_PARTS.now k)) (λ k. part-none points s (slice_get SETTINGS_PARTS.now k))
    (length SETTINGS_PARTS.now)
