-- Where a console is: what the text of its key says.
use Rattle.std.specs.Prelude.{ℕ, Bool, false, List, [], ◌∷◌, ◌&&◌, not, nat_eq, nat_le, length, Option, Some, None, Result, Ok, Err}
use Rattle.std.specs.Prelude.{if◌then◌else◌, string_bytes}
use Rattle.std.specs.List.{list_all}
use Rattle.std.specs.declared.net.socket_addr.SocketAddr.{SocketAddr}
use Rattle.toml.specs.Data.{Data, Members}
use Rattle.settings_file.specs.declared.serve.key.ServeKey.TheVariants as key
use Rattle.settings_file.specs.declared.serve.fault.ServeFault.{ServeFault}
use Rattle.settings_file.specs.declared.serve.fault.ServeFault.TheVariants.{Kind, Range}
use Rattle.settings_file.specs.declared.serve.console_place.ConsolePlace.{ConsolePlace}
use Rattle.settings_file.specs.declared.serve.console_place.ConsolePlace.TheVariants as lent
use Rattle.settings_file.specs.declared.serve.console_place.KeptPlace.{KeptPlace}
use Rattle.settings_file.specs.declared.serve.console_place.KeptPlace.TheVariants as kept
use Rattle.settings_file.specs.Addresses.{Spelling}
use Rattle.settings_file.specs.Keyed.{with_port, guarded}
use Rattle.settings_file.specs.ServeKeys.{found_at}
use Rattle.settings_file.specs.Shapes.{and_then, text_in}

-- an address, over TCP; or the path of a Unix socket
pub data Place : Type 0 where
  AtAddress : SocketAddr → Place
  AtPath : List ℕ → Place

abbrev pub place_of : ConsolePlace → Place
place_of (lent.Tcp a) = AtAddress a
place_of (lent.Unix path) = AtPath path.now

abbrev pub kept_place : KeptPlace → Place
kept_place (kept.Tcp a) = AtAddress a
kept_place (kept.Unix path) = AtPath (string_bytes path)

-- the address of a console over TCP
abbrev pub address_of : Option Place → Option SocketAddr
address_of (Some (AtAddress a)) = Some a
address_of (Some (AtPath path)) = None
address_of None = None

-- a text that begins with a slash (47) names a Unix socket, and any other an address
abbrev pub is_path : List ℕ → Bool
is_path [] = false
is_path (first ∷ rest) = nat_eq first 47

-- an octet of no control character: those are below a blank (32), and DEL (127)
abbrev pub is_printed : ℕ → Bool
is_printed octet = nat_le 32 octet && not (nat_eq octet 127)

-- a path that a socket can have, of at most 107 octets
abbrev pub is_socket_path : List ℕ → Bool
is_socket_path path = nat_le (length path) 107 && list_all is_printed path

abbrev pub unix_place : List ℕ → Result Place ServeFault
unix_place path = if is_socket_path path then Ok (AtPath path) else Err (Range key.Console)

-- an address that, unless it is open, no other machine reaches
abbrev pub tcp_place : Spelling → (opened : Bool) → List ℕ → Result Place ServeFault
tcp_place s opened text =
    and_then (with_port key.Console (s.address text)) (λ a.
    and_then (guarded key.Console opened a) (λ own. Ok (AtAddress own)))

unfoldable pub place_in : Spelling → (opened : Bool) → List ℕ → Result Place ServeFault
place_in s opened text = if is_path text then unix_place text else tcp_place s opened text

-- where the console is, if there is one
abbrev pub console_in : Spelling → (opened : Bool) → Option Data → Result (Option Place) ServeFault
console_in s opened None = Ok None
console_in s opened (Some d) =
    and_then (text_in (Kind key.Console) d) (λ text. and_then (place_in s opened text) (λ place. Ok (Some place)))

unfoldable pub console_at : Spelling → (opened : Bool) → Members → Result (Option Place) ServeFault
console_at s opened t = console_in s opened (found_at key.Console t)
