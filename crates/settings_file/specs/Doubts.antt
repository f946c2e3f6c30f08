-- Values that a file of version 4 may have, and that are hardly meant: timers that last less or longer than a standard
-- has it, shares above the pool, and points of translation rows that are neither destinations nor the node's own.
use Rattle.std.specs.Prelude.{ℕ, ◌+◌, Bool, true, false, not, ◌&&◌, ◌||◌, nat_eq, nat_lt, List, [], ◌∷◌, ◌++◌, Option, Some, None, is_some}
use Rattle.std.specs.Prelude.{if◌then◌else◌}
use Rattle.std.specs.Option.{option_map}
use Rattle.toml.specs.Data.{Members}
use Rattle.settings.specs.Configuration.{Configuration, LinkEntry, TitleEntry}
use Rattle.settings.specs.Readings.{destination_place}
use Rattle.settings.specs.declared.key.Key.{Key}
use Rattle.settings.specs.declared.key.Key.TheVariants.{Timer, LinkShare, TitlePoint, TitleBackup}
use Rattle.settings.specs.declared.key.TimerKey.{TimerKey}
use Rattle.settings.specs.declared.key.TimerKey.TheVariants.{L1, L2, L3, L4, L6, L7, T1, T2, T3, T4, T6, T8, T10}
use Rattle.settings.specs.declared.key.TimerKey.TheVariants.{Slt1, Slt2, L4e, Sst, T2Bar}
use Rattle.settings.specs.declared.timer_ticks.TimerTicks.{TimerTicks}
use Rattle.settings_file.specs.declared.doubts.timers.TimeRange.{TimeRange}
use Rattle.settings_file.specs.KnownKeys.{has_fourth}
use Rattle.settings_file.specs.Sentences.{IsAbout, AreEach}
use Rattle.settings_file.specs.Keyed.{serve_at, tick_ms_at}
use Rattle.settings_file.specs.Shapes.{and_then}
use Rattle.settings_file.specs.Ticks.{tick_if_told, ticks_lasting}

-- a timer lasts from the shortest to the longest time in the standard, in milliseconds
abbrev pub lasting : TimerKey → (least_ms most_ms : ℕ) → TimeRange
lasting timer least_ms most_ms = record { timer = timer; least_ms = least_ms; most_ms = most_ms }

-- the timers with the ranges that standards have: Q.703 §12.3 at 64 kbit/s, Q.704 §16.8, Q.707 §5.5. Of an SST (Q.714)
-- the range depends on what came before, so it has none here
abbrev pub time_ranges : List TimeRange
time_ranges =
    lasting L1 40000 50000
    ∷ lasting L2 5000 150000
    ∷ lasting L3 1000 2000
    ∷ lasting L4 7500 9500
    ∷ lasting L6 3000 6000
    ∷ lasting L7 500 2000
    ∷ lasting T1 500 1200
    ∷ lasting T2 700 2000
    ∷ lasting T3 500 1200
    ∷ lasting T4 500 1200
    ∷ lasting T6 500 1200
    ∷ lasting T8 800 1200
    ∷ lasting T10 30000 60000
    ∷ lasting Slt1 4000 12000
    ∷ lasting Slt2 30000 90000
    ∷ lasting L4e 400 600
    ∷ []

-- how many ticks a timer runs, if there is one
abbrev pub ticks_of : TimerTicks → TimerKey → Option ℕ
ticks_of t L1 = Some t.l1
ticks_of t L2 = Some t.l2
ticks_of t L3 = Some t.l3
ticks_of t L4 = Some t.l4
ticks_of t L6 = Some t.l6
ticks_of t L7 = Some t.l7
ticks_of t T1 = Some t.t1
ticks_of t T2 = Some t.t2
ticks_of t T3 = Some t.t3
ticks_of t T4 = Some t.t4
ticks_of t T6 = Some t.t6
ticks_of t T8 = Some t.t8
ticks_of t T10 = Some t.t10
ticks_of t Slt1 = option_map (λ tests. tests.slt1) t.link_tests
ticks_of t Slt2 = option_map (λ tests. tests.slt2) t.link_tests
ticks_of t L4e = t.l4e
ticks_of t Sst = t.sst
ticks_of t T2Bar = t.t2_bar

-- a number of ticks lasts less or longer than this, in whole ticks, as a duration is
abbrev pub are_outside : (tick_ms low high : ℕ) → Option ℕ → Bool
are_outside tick_ms low high None = false
are_outside tick_ms low high (Some ticks) =
    nat_lt ticks (ticks_lasting tick_ms low) || nat_lt (ticks_lasting tick_ms high) ticks

-- a key, if its value is hardly meant
abbrev pub key_if : Bool → Key → List Key
key_if true key = key ∷ []
key_if false key = []

-- the keys that each of several gives, from number i on
abbrev pub each_key : {A : Type 0} → (ℕ → A → List Key) → ℕ → List A → List Key
each_key keys i [] = []
each_key keys i (a ∷ rest) = keys i a ++ each_key keys (i + 1) rest

-- a timer that lasts less or longer than the standard has it
abbrev pub doubtful_timer : (tick_ms : ℕ) → TimerTicks → ℕ → TimeRange → List Key
doubtful_timer tick_ms t i range = key_if (are_outside tick_ms range.least_ms range.most_ms (ticks_of t range.timer)) (Timer range.timer)

abbrev pub doubtful_timers_if : (clock : Option ℕ) → TimerTicks → List Key
doubtful_timers_if None t = []
doubtful_timers_if (Some tick_ms) t = each_key (doubtful_timer tick_ms t) 0 time_ranges

-- a share is above the pool
abbrev pub is_above : (pool : ℕ) → (share : Option ℕ) → Bool
is_above pool None = false
is_above pool (Some share) = nat_lt pool share

-- the share of a link that is above the pool
abbrev pub doubtful_share : (pool : ℕ) → ℕ → LinkEntry → List Key
doubtful_share pool i l = key_if (is_above pool l.share) (LinkShare i)

-- a point is neither the node's own nor a destination
abbrev pub leads_nowhere : Configuration → ℕ → Bool
leads_nowhere c point = not (nat_eq point c.own) && not (is_some (destination_place c point))

abbrev pub backup_leads_nowhere : Configuration → Option ℕ → Bool
backup_leads_nowhere c None = false
backup_leads_nowhere c (Some point) = leads_nowhere c point

-- the points of a translation row that lead nowhere
abbrev pub doubtful_title : Configuration → ℕ → TitleEntry → List Key
doubtful_title c i t =
    key_if (leads_nowhere c t.point) (TitlePoint i) ++ key_if (backup_leads_nowhere c t.backup) (TitleBackup i)

-- the timers of a file whose server says how long a tick is
abbrev pub timers_of : Members → TimerTicks → List Key
timers_of t ticks = doubtful_timers_if (tick_if_told (and_then (serve_at t) tick_ms_at)) ticks

-- the keys of a document of version 4 whose values are hardly meant, where it says these settings: timers, then links,
-- then translation rows
abbrev pub all_doubtful : Members → Configuration → List Key
all_doubtful t c =
    timers_of t c.timers ++ (each_key (doubtful_share c.pool) 0 c.links ++ each_key (doubtful_title c) 0 c.titles)

unfoldable pub doubtful : Members → Configuration → List Key
doubtful t c = if has_fourth t then all_doubtful t c else []

-- a sentence about each of these keys, in their order
abbrev pub AreDoubts : (file : List ℕ) → List Key → (text : List ℕ) → Type 0
AreDoubts file keys text = AreEach (IsAbout file) keys text
