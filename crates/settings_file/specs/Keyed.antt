-- The table `serve` and its keys, each with the first fault of its value.
use Rattle.std.specs.Prelude.{ℕ, ℤ, pos, negsuc, Bool, false, List, [], ◌∷◌, ◌&&◌, ◌||◌, Option, Some, None}
use Rattle.std.specs.Prelude.{Result, Ok, Err, if◌then◌else◌, bytes_eq, codes, nat_le, nat_lt}
use Rattle.std.specs.declared.net.socket_addr.SocketAddr.{SocketAddr}
use Rattle.std.specs.Net.Socket.{socket_port}
use Rattle.toml.specs.Data.{Data, Members}
use Rattle.settings.specs.declared.point.PointFormat.{PointFormat}
use Rattle.settings.specs.declared.point.PointFormat.TheVariants.{Plain, ThreeEightThree}
use Rattle.settings_file.specs.declared.serve.key.ServeKey.{ServeKey}
use Rattle.settings_file.specs.declared.serve.key.ServeKey.TheVariants as key
use Rattle.settings_file.specs.declared.serve.fault.ServeFault.{ServeFault}
use Rattle.settings_file.specs.declared.serve.fault.ServeFault.TheVariants.{Missing, Kind, Range, Duplicate}
use Rattle.settings_file.specs.Addresses.{Spelling, is_loopback, is_address_of}
use Rattle.settings_file.specs.ServeKeys.{key_name, found_at}
use Rattle.settings_file.specs.Shapes.{and_then, value_at, integer_in, truth_in, text_in, table_in}

-- an address, whose port isn't 0
abbrev pub with_port : ServeKey → Option SocketAddr → Result SocketAddr ServeFault
with_port key None = Err (Range key)
with_port key (Some a) = if nat_lt 0 (socket_port a) then Ok a else Err (Range key)

unfoldable pub address_in : Spelling → ServeKey → Data → Result SocketAddr ServeFault
address_in s key d = and_then (text_in (Kind key) d) (λ text. with_port key (s.address text))

-- a number from the least to the most
abbrev pub number_in : ServeKey → (least most : ℕ) → ℤ → Result ℕ ServeFault
number_in key least most (pos n) = if nat_le least n && nat_le n most then Ok n else Err (Range key)
number_in key least most (negsuc n) = Err (Range key)

-- the same of the value of a key, with this number if the key is left out
abbrev pub number_or : ServeKey → (least most usual : ℕ) → Option Data → Result ℕ ServeFault
number_or key least most usual None = Ok usual
number_or key least most usual (Some d) = and_then (integer_in (Kind key) d) (number_in key least most)

-- a truth value, with this one if the key is left out
abbrev pub truth_or : ServeKey → (usual : Bool) → Option Data → Result Bool ServeFault
truth_or key usual None = Ok usual
truth_or key usual (Some d) = truth_in (Kind key) d

-- a text, or this one if the key is left out
abbrev pub text_or : ServeKey → (usual : List ℕ) → Option Data → Result (List ℕ) ServeFault
text_or key usual None = Ok usual
text_or key usual (Some d) = text_in (Kind key) d

-- the table `serve` of a file
unfoldable pub serve_at : Members → Result Members ServeFault
serve_at t = and_then (value_at (key_name key.Serve) (Missing key.Serve) t) (table_in (Kind key.Serve))

-- how long a tick is: 10 to 10,000 ms
unfoldable pub tick_ms_at : Members → Result ℕ ServeFault
tick_ms_at t =
    and_then (value_at (key_name key.TickMs) (Missing key.TickMs) t)
    (λ d. and_then (integer_in (Kind key.TickMs) d) (number_in key.TickMs 10 10000))

-- whether the console may listen on an address that other machines reach, which it may not if the key is left out
unfoldable pub console_open_at : Members → Result Bool ServeFault
console_open_at t = truth_or key.ConsoleOpen false (found_at key.ConsoleOpen t)

abbrev pub is_open : Result Bool ServeFault → Bool
is_open (Ok opened) = opened
is_open (Err fault) = false

-- an address that, unless it is open, no other machine reaches
abbrev pub guarded : ServeKey → (opened : Bool) → SocketAddr → Result SocketAddr ServeFault
guarded key opened a = if is_loopback a || opened then Ok a else Err (Range key)

-- the file that frames are captured to, if there is one
abbrev pub file_of : List ℕ → Result (Option (List ℕ)) ServeFault
file_of [] = Err (Range key.Capture)
file_of (octet ∷ octets) = Ok (Some (octet ∷ octets))

abbrev pub capture_in : Option Data → Result (Option (List ℕ)) ServeFault
capture_in None = Ok None
capture_in (Some d) = and_then (text_in (Kind key.Capture) d) file_of

unfoldable pub capture_at : Members → Result (Option (List ℕ)) ServeFault
capture_at t = capture_in (found_at key.Capture t)

-- how point codes are shown: plain if the key is left out
abbrev pub points_in : Option Data → Result PointFormat ServeFault
points_in None = Ok Plain
points_in (Some d) =
    and_then (text_in (Kind key.Points) d) (λ text.
    if bytes_eq text (codes "3-8-3") then Ok ThreeEightThree else Err (Range key.Points))

unfoldable pub points_at : Members → Result PointFormat ServeFault
points_at t = points_in (found_at key.Points t)

-- the address and the UDP port of the server, if it has one
abbrev pub udp_in : Spelling → Option Data → Result (Option SocketAddr) ServeFault
udp_in s None = Ok None
udp_in s (Some d) = and_then (address_in s key.Udp d) (λ a. Ok (Some a))

unfoldable pub udp_at : Spelling → Members → Result (Option SocketAddr) ServeFault
udp_at s t = udp_in s (found_at key.Udp t)

-- whether the status page may be at an address that other machines reach, which it may not if the key is left out
unfoldable pub page_open_at : Members → Result Bool ServeFault
page_open_at t = truth_or key.PageOpen false (found_at key.PageOpen t)

-- where the status page is, if there is one: not where the console is and, unless it is open, at an address that no
-- other machine reaches
abbrev pub page_in : Spelling → (opened : Bool) → Option SocketAddr → Option Data
    → Result (Option SocketAddr) ServeFault
page_in s opened console None = Ok None
page_in s opened console (Some d) =
    and_then (address_in s key.Page d) (λ a.
    and_then (guarded key.Page opened a) (λ own.
    if is_address_of console own then Err (Duplicate key.Page) else Ok (Some own)))

unfoldable pub page_at : Spelling → (opened : Bool) → Option SocketAddr → Members → Result (Option SocketAddr) ServeFault
page_at s opened console t = page_in s opened console (found_at key.Page t)
