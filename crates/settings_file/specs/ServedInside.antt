-- How the settings of a server are kept.
use Rattle.std.specs.Prelude.{◌≡◌, ◌≤◌, true, string_bytes}
use Rattle.std.specs.Option.{option_map}
use Rattle.settings_file.specs.Served.{Served}
use Rattle.settings_file.specs.Consoles.{kept_place}
use Rattle.settings_file.specs.Times.{AreWithin}
use Rattle.settings_file.specs.Endpoints.{have_source}
use Rattle.settings_file.specs.declared.serve.server.ServeSettings.TheInside.{Inside}

abbrev pub served_of : Inside → Served
served_of s = record {
  tick_ms = s.tick_ms;
  console = option_map kept_place s.console;
  capture = option_map (λ file. string_bytes file) s.capture;
  capture_limits = s.capture_limits;
  points = s.points;
  udp = s.udp;
  sctp = s.sctp;
  is_page_open = s.is_page_open;
  page = s.page;
  log = s.log;
  links = s.links.items;
}

-- a tick is 10 ms to 10 s long, the times and tries of associations are within their limits, and links over SCTP have
-- an address that their datagrams go out from
pub record IsSound (s : Inside) : Type 0 where
  pub above : 10 ≤ s.tick_ms
  pub below : s.tick_ms ≤ 10000
  pub times : AreWithin s.sctp
  pub links : have_source s.udp s.links.items ≡ true
