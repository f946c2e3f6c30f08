-- The keys of the log: how its lines tell the time, which of them are written, and as what. Version 4 brought them.
use Rattle.std.specs.Prelude.{ℕ, Bool, true, false, List, bytes_eq, codes, Result, Ok, Err, if◌then◌else◌}
use Rattle.toml.specs.Data.{Members}
use Rattle.settings_file.specs.declared.serve.key.ServeKey.TheVariants as key
use Rattle.settings_file.specs.declared.serve.fault.ServeFault.{ServeFault}
use Rattle.settings_file.specs.declared.serve.fault.ServeFault.TheVariants.{Range}
use Rattle.settings_file.specs.declared.serve.log_keys.LogLeast.{LogLeast}
use Rattle.settings_file.specs.declared.serve.log_keys.LogLeast.TheVariants.{Warning, Notice, Info, Debug}
use Rattle.settings_file.specs.declared.serve.log_keys.LogSettings.{LogSettings}
use Rattle.settings_file.specs.Keyed.{text_or}
use Rattle.settings_file.specs.ServeKeys.{found_at}
use Rattle.settings_file.specs.Shapes.{and_then}

-- whether a line tells its time in UTC: not if the key is left out
abbrev pub log_times_of : (text : List ℕ) → Result Bool ServeFault
log_times_of text =
    if bytes_eq text (codes "seconds") then Ok false
    else if bytes_eq text (codes "utc") then Ok true
    else Err (Range key.LogTimes)

unfoldable pub log_times_at : Members → Result Bool ServeFault
log_times_at t = and_then (text_or key.LogTimes (codes "seconds") (found_at key.LogTimes t)) log_times_of

-- the least severity of lines that are written: all are if the key is left out
abbrev pub log_least_of : (text : List ℕ) → Result LogLeast ServeFault
log_least_of text =
    if bytes_eq text (codes "debug") then Ok Debug
    else if bytes_eq text (codes "info") then Ok Info
    else if bytes_eq text (codes "notice") then Ok Notice
    else if bytes_eq text (codes "warning") then Ok Warning
    else Err (Range key.LogLeast)

unfoldable pub log_least_at : Members → Result LogLeast ServeFault
log_least_at t = and_then (text_or key.LogLeast (codes "debug") (found_at key.LogLeast t)) log_least_of

-- whether a line is an object of JSON: not if the key is left out
abbrev pub log_form_of : (text : List ℕ) → Result Bool ServeFault
log_form_of text =
    if bytes_eq text (codes "text") then Ok false
    else if bytes_eq text (codes "json") then Ok true
    else Err (Range key.LogForm)

unfoldable pub log_form_at : Members → Result Bool ServeFault
log_form_at t = and_then (text_or key.LogForm (codes "text") (found_at key.LogForm t)) log_form_of

-- before version 4 lines are text, tell the seconds, and all are written
abbrev pub usual_log : LogSettings
usual_log = record { is_utc = false; least = Debug; is_json = false }

unfoldable pub log_at : (is_fourth : Bool) → Members → Result LogSettings ServeFault
log_at is_fourth t =
    if is_fourth
    then and_then (log_times_at t) (λ is_utc.
    and_then (log_least_at t) (λ least.
    and_then (log_form_at t) (λ is_json.
    Ok (record { is_utc = is_utc; least = least; is_json = is_json }))))
    else Ok usual_log
