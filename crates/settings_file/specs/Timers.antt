-- What a document says of timers.
use Rattle.std.specs.Prelude.{ℕ, ℤ, pos, Bool, ◌&&◌, ◌||◌, List, Option, Some, None, is_some, option_and_then, Result, Ok, Err}
use Rattle.std.specs.Prelude.{if◌then◌else◌}
use Rattle.toml.specs.Data.{Data, Members, as_str}
use Rattle.settings.specs.declared.draft.TimersDraft.{TimersDraft}
use Rattle.settings.specs.declared.draft.LinkTestsDraft.{LinkTestsDraft}
use Rattle.settings.specs.declared.key.Key.TheVariants as key
use Rattle.settings.specs.declared.key.TimerKey.{TimerKey}
use Rattle.settings.specs.declared.key.TimerKey.TheVariants.{L1, L2, L3, L4, L6, L7, T1, T2, T3, T4, T6, T8, T10}
use Rattle.settings.specs.declared.key.TimerKey.TheVariants.{Slt1, Slt2, L4e, Sst, T2Bar}
use Rattle.settings_file.specs.declared.fault.SettingsFault.{SettingsFault}
use Rattle.settings_file.specs.declared.fault.SettingsFault.TheVariants.{Missing, Kind}
use Rattle.settings_file.specs.declared.timers.UsualTimes.{UsualTimes}
use Rattle.settings_file.specs.NodeKeys.{found_at}
use Rattle.settings_file.specs.Shapes.{and_then, integer_in, table_in}
use Rattle.settings_file.specs.Ticks.{ticks_lasting, ticks_said}

-- how long timers run if a file of version 4 doesn't say, in milliseconds: at 64 kbit/s (Q.703 §12.3), and as Q.704
-- §16.8 and Q.707 §5.5 have it
abbrev pub usual_times : UsualTimes
usual_times = record {
  l1 = 45000;
  l2 = 20000;
  l3 = 1600;
  l4 = 8200;
  l6 = 4000;
  l7 = 1000;
  t1 = 800;
  t2 = 1200;
  t3 = 800;
  t4 = 800;
  t6 = 800;
  t8 = 1000;
  t10 = 30000;
  slt1 = 8000;
  slt2 = 60000;
}

-- the value of a timer in the table of timers, if there is that table
abbrev pub timer_found : TimerKey → Option Members → Option Data
timer_found timer t = option_and_then (found_at (key.Timer timer)) t

-- how many ticks a value says: an integer; in a file that has durations, whose ticks are this long, a text too
abbrev pub ticks_or_said : (tick_ms : ℕ) → TimerKey → Option (List ℕ) → Data → Result ℤ SettingsFault
ticks_or_said tick_ms timer (Some text) d = Ok (ticks_said tick_ms text)
ticks_or_said tick_ms timer None d = integer_in (Kind (key.Timer timer)) d

abbrev pub ticks_in : (clock : Option ℕ) → TimerKey → Data → Result ℤ SettingsFault
ticks_in None timer d = integer_in (Kind (key.Timer timer)) d
ticks_in (Some tick_ms) timer d = ticks_or_said tick_ms timer (as_str d) d

-- how many ticks a timer runs without a value: as usual, if the file has durations
abbrev pub usual_ticks : (clock : Option ℕ) → TimerKey → (usual_ms : ℕ) → Result ℤ SettingsFault
usual_ticks None timer usual_ms = Err (Missing (key.Timer timer))
usual_ticks (Some tick_ms) timer usual_ms = Ok (pos (ticks_lasting tick_ms usual_ms))

abbrev pub ticks_of : (clock : Option ℕ) → TimerKey → (usual_ms : ℕ) → Option Data → Result ℤ SettingsFault
ticks_of clock timer usual_ms None = usual_ticks clock timer usual_ms
ticks_of clock timer usual_ms (Some d) = ticks_in clock timer d

-- how many ticks a timer runs
unfoldable pub ticks_at : (clock : Option ℕ) → TimerKey → (usual_ms : ℕ) → Option Members → Result ℤ SettingsFault
ticks_at clock timer usual_ms t = ticks_of clock timer usual_ms (timer_found timer t)

-- the same of a timer that there may not be, in a file whose version has its key, or doesn't have it: there it is
-- ignored
abbrev pub ticks_if_any : (clock : Option ℕ) → TimerKey → Option Data → Result (Option ℤ) SettingsFault
ticks_if_any clock timer None = Ok None
ticks_if_any clock timer (Some d) = and_then (ticks_in clock timer d) (λ n. Ok (Some n))

unfoldable pub optional_ticks_at : (has_key : Bool) → (clock : Option ℕ) → TimerKey → Option Members
    → Result (Option ℤ) SettingsFault
optional_ticks_at has_key clock timer t = if has_key then ticks_if_any clock timer (timer_found timer t) else Ok None

-- whether a timer has a key in the table
abbrev pub has_timer : TimerKey → Option Members → Bool
has_timer timer t = is_some (timer_found timer t)

-- the timers of link tests: both, or neither. In a file that has usual times one of them may be left out
unfoldable pub link_tests_at : (has_keys : Bool) → (clock : Option ℕ) → Option Members
    → Result (Option LinkTestsDraft) SettingsFault
link_tests_at has_keys clock t =
    if has_keys && (has_timer Slt1 t || has_timer Slt2 t)
    then and_then (ticks_at clock Slt1 usual_times.slt1 t) (λ slt1.
    and_then (ticks_at clock Slt2 usual_times.slt2 t) (λ slt2.
    Ok (Some (record { slt1 = slt1; slt2 = slt2 }))))
    else Ok None

-- how many ticks each timer runs
unfoldable pub timers_in : (has_keys : Bool) → (clock : Option ℕ) → Option Members → Result TimersDraft SettingsFault
timers_in has_keys clock t =
    and_then (ticks_at clock L1 usual_times.l1 t) (λ l1.
    and_then (ticks_at clock L2 usual_times.l2 t) (λ l2.
    and_then (ticks_at clock L3 usual_times.l3 t) (λ l3.
    and_then (ticks_at clock L4 usual_times.l4 t) (λ l4.
    and_then (ticks_at clock L6 usual_times.l6 t) (λ l6.
    and_then (ticks_at clock L7 usual_times.l7 t) (λ l7.
    and_then (ticks_at clock T1 usual_times.t1 t) (λ t1.
    and_then (ticks_at clock T2 usual_times.t2 t) (λ t2.
    and_then (ticks_at clock T3 usual_times.t3 t) (λ t3.
    and_then (ticks_at clock T4 usual_times.t4 t) (λ t4.
    and_then (ticks_at clock T6 usual_times.t6 t) (λ t6.
    and_then (ticks_at clock T8 usual_times.t8 t) (λ t8.
    and_then (ticks_at clock T10 usual_times.t10 t) (λ t10.
    and_then (link_tests_at has_keys clock t) (λ link_tests.
    and_then (optional_ticks_at has_keys clock L4e t) (λ l4e.
    and_then (optional_ticks_at has_keys clock Sst t) (λ sst.
    and_then (optional_ticks_at (is_some clock) clock T2Bar t) (λ t2_bar.
    Ok (record {
      l1 = l1;
      l2 = l2;
      l3 = l3;
      l4 = l4;
      l6 = l6;
      l7 = l7;
      t1 = t1;
      t2 = t2;
      t3 = t3;
      t4 = t4;
      t6 = t6;
      t8 = t8;
      t10 = t10;
      link_tests = link_tests;
      l4e = l4e;
      sst = sst;
      t2_bar = t2_bar;
    }))))))))))))))))))

-- the table of timers, which a file that has durations may leave out
abbrev pub no_table : (clock : Option ℕ) → Result (Option Members) SettingsFault
no_table None = Err (Missing key.Timers)
no_table (Some tick_ms) = Ok None

abbrev pub table_if_any : (clock : Option ℕ) → Option Data → Result (Option Members) SettingsFault
table_if_any clock None = no_table clock
table_if_any clock (Some d) = and_then (table_in (Kind key.Timers) d) (λ timers. Ok (Some timers))

unfoldable pub table_at : (clock : Option ℕ) → Members → Result (Option Members) SettingsFault
table_at clock t = table_if_any clock (found_at key.Timers t)

-- the timers of a file. Its clock is how long a tick is, if its version has durations and usual times
unfoldable pub timers_at : (has_keys : Bool) → (clock : Option ℕ) → Members → Result TimersDraft SettingsFault
timers_at has_keys clock t = and_then (table_at clock t) (timers_in has_keys clock)
