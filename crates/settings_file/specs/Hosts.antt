-- The host from which a link takes connections, which version 4 brought.
use Rattle.std.specs.Prelude.{ℕ, Bool, Option, Some, None, Result, Ok, if◌then◌else◌}
use Rattle.std.specs.declared.net.ip_addr.IpAddr.{IpAddr}
use Rattle.toml.specs.Data.{Data, Members}
use Rattle.settings_file.specs.declared.serve.key.ServeKey.{ServeKey}
use Rattle.settings_file.specs.declared.serve.key.ServeKey.TheVariants as key
use Rattle.settings_file.specs.declared.serve.fault.ServeFault.{ServeFault}
use Rattle.settings_file.specs.declared.serve.fault.ServeFault.TheVariants.{Kind}
use Rattle.settings_file.specs.Addresses.{Spelling}
use Rattle.settings_file.specs.Paths.{spelled_host}
use Rattle.settings_file.specs.ServeKeys.{found_at}
use Rattle.settings_file.specs.Shapes.{and_then, text_in}

-- the IP address that a value says
unfoldable pub host_in : Spelling → ServeKey → Data → Result IpAddr ServeFault
host_in s key d = and_then (text_in (Kind key) d) (spelled_host s key)

abbrev pub host_if : Spelling → ServeKey → Option Data → Result (Option IpAddr) ServeFault
host_if s key None = Ok None
host_if s key (Some d) = and_then (host_in s key d) (λ host. Ok (Some host))

-- the one host from which link i takes connections, if it names one: else it takes them from all
unfoldable pub from_at : Spelling → (is_fourth : Bool) → ℕ → Members → Result (Option IpAddr) ServeFault
from_at s is_fourth i t =
    if is_fourth then host_if s (key.LinkFrom i) (found_at (key.LinkFrom i) t) else Ok None
