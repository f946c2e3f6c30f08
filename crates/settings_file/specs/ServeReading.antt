-- What is read of a server's settings from the text of a settings file.
use Rattle.std.specs.Prelude.{◌≡◌, ◌⊎◌, ℕ, Bool, List, is_some, Result, Ok, Err, if◌then◌else◌}
use Rattle.std.specs.Option.{ok_or}
use Rattle.toml.specs.Data.{Members}
use Rattle.toml.specs.Parse.{parse_document}
use Rattle.settings.specs.Configuration.{Configuration}
use Rattle.settings_file.specs.Reading as settings
use Rattle.settings_file.specs.declared.fault.SettingsFault.{SettingsFault}
use Rattle.settings_file.specs.declared.fault.SettingsFault.TheVariants as found
use Rattle.settings_file.specs.declared.serve.key.ServeKey.TheVariants.{Serve, Console}
use Rattle.settings_file.specs.declared.serve.fault.ServeFault.{ServeFault}
use Rattle.settings_file.specs.declared.serve.fault.ServeFault.TheVariants.{Settings, Missing}
use Rattle.settings_file.specs.Addresses.{Spelling}
use Rattle.settings_file.specs.ServeFaults.{fault_of}
use Rattle.settings_file.specs.ServeKeys.{found_at}
use Rattle.settings_file.specs.KnownKeys.{has_fourth}
use Rattle.settings_file.specs.Shapes.{and_then}
use Rattle.settings_file.specs.Keyed.{serve_at, tick_ms_at, console_open_at, is_open, capture_at, points_at}
use Rattle.settings_file.specs.Keyed.{udp_at, page_open_at, page_at}
use Rattle.settings_file.specs.Consoles.{Place, address_of, console_at}
use Rattle.settings_file.specs.CaptureKeys.{limits_at}
use Rattle.settings_file.specs.LogKeys.{log_at}
use Rattle.settings_file.specs.Times.{times_at}
use Rattle.settings_file.specs.Endpoints.{endpoints_at}
use Rattle.settings_file.specs.Served.{Served}

-- what a file says of its server: the keys in this order, and the first fault among them is the file's
unfoldable pub document : Spelling → Members → Result Served ServeFault
document s t =
    and_then (serve_at t) (λ serve.
    and_then (tick_ms_at serve) (λ tick_ms.
    and_then (console_at s (is_open (console_open_at serve)) serve) (λ console.
    and_then (capture_at serve) (λ capture.
    and_then (limits_at (has_fourth t) capture serve) (λ capture_limits.
    and_then (console_open_at serve) (λ opened.
    and_then (points_at serve) (λ points.
    and_then (udp_at s serve) (λ udp.
    and_then (times_at (has_fourth t) serve) (λ sctp.
    and_then (page_open_at serve) (λ is_page_open.
    and_then (page_at s is_page_open (address_of console) serve) (λ page.
    and_then (log_at (has_fourth t) serve) (λ log.
    and_then (endpoints_at s (record { console = address_of console; page = page; udp = udp }) (has_fourth t) t) (λ links.
    Ok (record {
      tick_ms = tick_ms;
      console = console;
      capture = capture;
      capture_limits = capture_limits;
      points = points;
      udp = udp;
      sctp = sctp;
      is_page_open = is_page_open;
      page = page;
      log = log;
      links = links;
    }))))))))))))))

-- a file has a table for a server, or some other value there
abbrev pub is_of_server : Members → Bool
is_of_server t = is_some (found_at Serve t)

-- what a file of a server and one of none come to: the first fault of the server's settings, if they have any
unfoldable pub checked : Spelling → Members → Result Unit ServeFault
checked s t = if is_of_server t then and_then (document s t) (λ served. Ok tt) else Ok tt

-- where a file says that the console of its server is, whatever its other keys say
unfoldable pub console_told : Spelling → Members → Result Place ServeFault
console_told s t =
    and_then (serve_at t) (λ serve.
    and_then (console_at s (is_open (console_open_at serve)) serve) (λ console.
    ok_or console (Missing Console)))

-- what a text says of its server
unfoldable pub reading : Spelling → List ℕ → Result Served ServeFault
reading s text = and_then (ok_or (parse_document text) (Settings found.Text)) (document s)

-- the node's settings have this fault
pub record IsOfSettings (text : List ℕ) (fault : ServeFault) : Type 0 where
  pub found : SettingsFault
  pub first : settings.IsFirstFault text found
  pub named : fault ≡ fault_of found

-- the node's settings are without a fault, and those of the server have this one
pub record IsOfServer (s : Spelling) (text : List ℕ) (fault : ServeFault) : Type 0 where
  pub configuration : Configuration
  pub well : settings.IsReadAs text configuration
  pub first : reading s text ≡ Err fault

-- the first fault of a text: that of the node's settings, else that of the server's
abbrev pub IsFirstFault : Spelling → List ℕ → ServeFault → Type 0
IsFirstFault s text fault = IsOfSettings text fault ⊎ IsOfServer s text fault
