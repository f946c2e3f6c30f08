-- What holds of all checked settings.
use Rattle.std.specs.Prelude.{ℕ, Bool, true, false, ◌&&◌, ◌≡◌, ◌≢◌, ◌≤◌, ◌<◌, ◌^◌, List, [], ◌∷◌, ◌++◌, Option}
use Rattle.std.specs.Prelude.{Some, None, IfSome}
use Rattle.std.specs.Prelude.{All, IsTrue, length, nat_eq, slice_get}
use Rattle.std.specs.List.{IsDistinct, count_by, list_any}
use Rattle.std.specs.Str.{bytes_eq}
use Rattle.settings.specs.Configuration.{Configuration, SetEntry, LinkEntry, DestinationEntry, TitleEntry}
use Rattle.settings.specs.Names.{is_name}
use Rattle.settings.specs.TitleRanges.{HasTitleRanges, HasChangeRanges}
use Rattle.settings.specs.declared.timer_ticks.TimerTicks.{TimerTicks}
use Rattle.settings.specs.declared.timer_ticks.LinkTestTicks.{LinkTestTicks}
use Rattle.settings.specs.declared.title_row.TitleRoute.{TitleRoute}
use Rattle.settings.specs.declared.title_row.TitleRoute.TheVariants.{Title, Ssn}
use Rattle.signalling_types.specs.declared.limits.TheConstants.Limits.{LINKS, LINKS_PER_SET, SETS, SETS_PER_DESTINATION}
use Rattle.signalling_types.specs.declared.limits.TheConstants.Limits.{DESTINATIONS, TITLES, POOL, WINDOW, TICKS}

-- a number from low to high
pub record IsWithin (low : ℕ) (high : ℕ) (n : ℕ) : Type 0 where
  pub above : low ≤ n
  pub below : n ≤ high

-- the ticks of link tests, if they weren't left out
abbrev pub test_ticks : Option LinkTestTicks → List ℕ
test_ticks None = []
test_ticks (Some tests) = tests.slt1 ∷ tests.slt2 ∷ []

-- those of a timer that may be left out
abbrev pub ticks_if_any : Option ℕ → List ℕ
ticks_if_any None = []
ticks_if_any (Some ticks) = ticks ∷ []

-- the ticks of each timer that isn't left out
abbrev pub all_ticks : TimerTicks → List ℕ
all_ticks t =
    t.l1 ∷ t.l2 ∷ t.l3 ∷ t.l4 ∷ t.l6 ∷ t.l7 ∷ t.t1 ∷ t.t2 ∷ t.t3 ∷ t.t4 ∷ t.t6 ∷ t.t8 ∷ t.t10
    ∷ (test_ticks t.link_tests ++ (ticks_if_any t.l4e ++ (ticks_if_any t.sst ++ ticks_if_any t.t2_bar)))

-- a point of 14 bits, other than the node's own
pub record IsFarPoint (own : ℕ) (point : ℕ) : Type 0 where
  pub fits : point < 2 ^ 14
  pub far : point ≢ own

-- a link set has a name, and leads to another point
pub record IsSet (own : ℕ) (s : SetEntry) : Type 0 where
  pub name : IsTrue (is_name s.name)
  pub adjacent : IsFarPoint own s.adjacent

-- whether two link sets have the same name
abbrev pub is_set_of_same_name : SetEntry → SetEntry → Bool
is_set_of_same_name s t = bytes_eq s.name t.name

-- whether two link sets lead to the same point
abbrev pub is_set_to_same_point : SetEntry → SetEntry → Bool
is_set_to_same_point s t = nat_eq s.adjacent t.adjacent

-- a link has a name, one of n link sets, a signalling link code of four bits, and, if any, a share of the pool
pub record IsLink (n : ℕ) (l : LinkEntry) : Type 0 where
  pub name : IsTrue (is_name l.name)
  pub set : l.set < n
  pub slc : l.slc < 2 ^ 4
  pub share : IfSome l.share (IsWithin 1 POOL)

-- whether two links have the same name
abbrev pub is_link_of_same_name : LinkEntry → LinkEntry → Bool
is_link_of_same_name l m = bytes_eq l.name m.name

-- whether two links have the same set and the same signalling link code
abbrev pub is_same_code : LinkEntry → LinkEntry → Bool
is_same_code l m = nat_eq l.set m.set && nat_eq l.slc m.slc

-- a destination is another point. One to eight of n link sets lead there, none of them twice, and at least two if the
-- first two are joined
pub record IsDestination (own : ℕ) (n : ℕ) (d : DestinationEntry) : Type 0 where
  pub point : IsFarPoint own d.point
  pub some : 1 ≤ length d.sets
  pub fits : length d.sets ≤ SETS_PER_DESTINATION
  pub within : All (λ set. set < n) d.sets
  pub differ : IsDistinct nat_eq d.sets
  pub joined : d.joined ≡ true → 2 ≤ length d.sets

-- whether two destinations are the same point
abbrev pub is_same_point : DestinationEntry → DestinationEntry → Bool
is_same_point d e = nat_eq d.point e.point

-- whether this link set is the first of these
abbrev pub is_first : ℕ → List ℕ → Bool
is_first set [] = false
is_first set (first ∷ rest) = nat_eq first set

-- whether a destination is this point, and this link set is the first that leads there
abbrev pub is_led_first : ℕ → ℕ → DestinationEntry → Bool
is_led_first point set d = nat_eq d.point point && is_first set d.sets

-- a route's subsystem number, if it has one, is an octet other than 0
abbrev pub HasSubsystem : TitleRoute → Type 0
HasSubsystem (Title ssn) = IfSome ssn (IsWithin 1 255)
HasSubsystem (Ssn ssn) = IsWithin 1 255 ssn

-- a translation row within its ranges
pub record IsTitle (t : TitleEntry) : Type 0 where
  pub translation : t.translation < 2 ^ 8
  pub ranges : HasTitleRanges t.plan t.nature t.digits
  pub point : t.point < 2 ^ 14
  pub backup : IfSome t.backup (λ point. point < 2 ^ 14)
  pub route : HasSubsystem t.route
  pub change : HasChangeRanges t.change

-- whether two translation rows have one key and the same digits
abbrev pub is_same_row : TitleEntry → TitleEntry → Bool
is_same_row t e =
    nat_eq t.translation e.translation
    && (nat_eq t.plan e.plan && (nat_eq t.nature e.nature && bytes_eq t.digits e.digits))

-- every number is within its limits, every name is a name of something, and what must be distinct is
pub record IsWell (c : Configuration) : Type 0 where
  pub own : c.own < 2 ^ 14
  pub network : c.network < 4
  pub window : IsWithin 1 WINDOW c.window
  pub pool : IsWithin 1 POOL c.pool
  pub users : All (IsWithin 4 15) c.users
  pub users_differ : IsDistinct nat_eq c.users
  pub subsystems : All (IsWithin 1 255) c.subsystems
  pub subsystems_differ : IsDistinct nat_eq c.subsystems
  pub timers : All (IsWithin 1 TICKS) (all_ticks c.timers)
  pub bar : IfSome c.timers.t2_bar (λ bar. c.timers.t2 < bar)
  pub set_count : IsWithin 1 SETS (length c.sets)
  pub sets : All (IsSet c.own) c.sets
  pub set_names_differ : IsDistinct is_set_of_same_name c.sets
  pub adjacent_points_differ : IsDistinct is_set_to_same_point c.sets
  pub link_count : IsWithin 1 LINKS (length c.links)
  pub links : All (IsLink (length c.sets)) c.links
  pub link_names_differ : IsDistinct is_link_of_same_name c.links
  pub link_codes_differ : IsDistinct is_same_code c.links
  pub links_of_a_set : (set : ℕ) → count_by (λ l. nat_eq l.set set) c.links ≤ LINKS_PER_SET
  pub destination_count : IsWithin 1 DESTINATIONS (length c.destinations)
  pub destinations : All (IsDestination c.own (length c.sets)) c.destinations
  pub points_differ : IsDistinct is_same_point c.destinations
  pub adjacent_points_led : (set : ℕ) (s : SetEntry) → slice_get c.sets set ≡ Some s →
      IsTrue (list_any (is_led_first s.adjacent set) c.destinations)
  pub title_count : length c.titles ≤ TITLES
  pub titles : All IsTitle c.titles
  pub titles_differ : IsDistinct is_same_row c.titles
