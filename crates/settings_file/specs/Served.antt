-- The settings of a server, as plain data.
use Rattle.std.specs.Prelude.{ℕ, Bool, List, Option}
use Rattle.std.specs.declared.net.socket_addr.SocketAddr.{SocketAddr}
use Rattle.settings_file.specs.declared.serve.server.Endpoint.{Endpoint}
use Rattle.settings_file.specs.declared.serve.sctp.SctpTimes.{SctpTimes}
use Rattle.settings_file.specs.declared.serve.log_keys.LogSettings.{LogSettings}
use Rattle.settings_file.specs.declared.serve.capture.CaptureLimits.{CaptureLimits}
use Rattle.settings_file.specs.Consoles.{Place}
use Rattle.settings.specs.declared.point.PointFormat.{PointFormat}

pub record Served : Type 0 where
  pub tick_ms : ℕ
  pub console : Option Place
  pub capture : Option (List ℕ)
  pub capture_limits : Option CaptureLimits
  pub points : PointFormat
  pub udp : Option SocketAddr
  pub sctp : SctpTimes
  pub is_page_open : Bool
  pub page : Option SocketAddr
  pub log : LogSettings
  pub links : List Endpoint
