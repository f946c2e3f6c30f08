-- All faults of a server's settings in a document of version 4, the keys in the order in which they are read. With what
-- can't be read nothing is compared.
use Rattle.std.specs.Prelude.{ℕ, ◌+◌, Bool, true, not, ◌&&◌, nat_le, List, [], ◌∷◌, ◌++◌, drop, length, Option, Some, None, is_some}
use Rattle.std.specs.Prelude.{Result, Ok, Err, if◌then◌else◌}
use Rattle.std.specs.Result.{result_err}
use Rattle.std.specs.declared.net.socket_addr.SocketAddr.{SocketAddr}
use Rattle.toml.specs.Data.{Data, Members, as_table}
use Rattle.settings_file.specs.declared.serve.server.Endpoint.{Endpoint}
use Rattle.settings_file.specs.declared.serve.server.OwnAddresses.{OwnAddresses}
use Rattle.settings_file.specs.declared.serve.key.ServeKey.TheVariants as key
use Rattle.settings_file.specs.declared.serve.fault.ServeFault.{ServeFault}
use Rattle.settings_file.specs.declared.serve.fault.ServeFault.TheVariants.{Missing, Kind, Range}
use Rattle.settings_file.specs.Addresses.{Spelling}
use Rattle.settings_file.specs.Noted.{noted, all_noted}
use Rattle.settings_file.specs.CaptureKeys.{size_in, files_in}
use Rattle.settings_file.specs.Consoles.{Place, address_of, console_at}
use Rattle.settings_file.specs.Endpoints.{without, sctp_port_at, tries_at, port_fixed_at, endpoint_at, links_at}
use Rattle.settings_file.specs.Hosts.{from_at}
use Rattle.settings_file.specs.Keyed.{address_in, tick_ms_at, console_open_at, capture_at, points_at, udp_at, page_open_at}
use Rattle.settings_file.specs.Keyed.{page_at}
use Rattle.settings_file.specs.LogKeys.{log_form_at, log_least_at, log_times_at}
use Rattle.settings_file.specs.Paths.{entries_of, first_or, others_in, addresses_at}
use Rattle.settings_file.specs.ServeKeys.{found_at}
use Rattle.settings_file.specs.Shapes.{and_then, table_in}
use Rattle.settings_file.specs.Times.{usual_times, timeout_at, heartbeat_at, sctp_at}
use Rattle.settings_file.specs.Times as times
use Rattle.signalling_types.specs.declared.limits.TheConstants.Limits.{LINKS}

-- ---- what else a file says

-- whether an address is open; where that can't be read, it counts as open
abbrev pub open_or_unread : Result Bool ServeFault → Bool
open_or_unread (Ok opened) = opened
open_or_unread (Err fault) = true

-- what may be left out, if it is there and can be read
abbrev pub if_read : {A : Type 0} → Result (Option A) ServeFault → Option A
if_read (Ok read) = read
if_read (Err fault) = None

-- where the console is
unfoldable pub console_read : Spelling → Members → Result (Option Place) ServeFault
console_read s t = console_at s (open_or_unread (console_open_at t)) t

-- its address, if it has one
unfoldable pub console_address : Spelling → Members → Option SocketAddr
console_address s t = address_of (if_read (console_read s t))

-- where the status page is
unfoldable pub page_read : Spelling → Members → Result (Option SocketAddr) ServeFault
page_read s t = page_at s (open_or_unread (page_open_at t)) (console_address s t) t

-- the addresses that can be read
unfoldable pub own_read : Spelling → Members → OwnAddresses
own_read s t = record {
  console = console_address s t;
  page = if_read (page_read s t);
  udp = if_read (udp_at s t);
}

-- ---- the table

-- the limits of a ring go together, and with a capture
abbrev pub size_check : (size files : Option Data) → Option ServeFault
size_check None None = None
size_check None (Some f) = Some (Missing key.CaptureSize)
size_check (Some d) files = result_err (size_in d)

abbrev pub files_check : (files size : Option Data) → Option ServeFault
files_check None None = None
files_check None (Some d) = Some (Missing key.CaptureFiles)
files_check (Some f) size = result_err (files_in f)

abbrev pub ring_check : (size files capture : Option Data) → Option ServeFault
ring_check size files capture =
    if is_some size && is_some files && not (is_some capture) then Some (Missing key.Capture) else None

-- the keys of the table in their order: ticks, console and capture
unfoldable pub leading_checks : Spelling → Members → List (Option ServeFault)
leading_checks s t = result_err (tick_ms_at t) ∷ result_err (console_read s t) ∷ result_err (capture_at t) ∷ []

-- the limits of a ring
abbrev pub ring_checks : Members → List (Option ServeFault)
ring_checks t =
    size_check (found_at key.CaptureSize t) (found_at key.CaptureFiles t)
    ∷ files_check (found_at key.CaptureFiles t) (found_at key.CaptureSize t)
    ∷ ring_check (found_at key.CaptureSize t) (found_at key.CaptureFiles t) (found_at key.Capture t)
    ∷ []

-- what is shown, and where datagrams go out
unfoldable pub shown_checks : Spelling → Members → List (Option ServeFault)
shown_checks s t = result_err (console_open_at t) ∷ result_err (points_at t) ∷ result_err (udp_at s t) ∷ []

-- how the three timeouts are ordered, if all can be read
abbrev pub order_fault : (initial least most : ℕ) → Option ServeFault
order_fault initial least most =
    if nat_le least initial && nat_le initial most then None else Some (Range key.RtoInitialMs)

abbrev pub order_check : (initial least most : Result ℕ ServeFault) → Option ServeFault
order_check (Ok initial) (Ok least) (Ok most) = order_fault initial least most
order_check (Ok initial) (Ok least) (Err fault) = None
order_check (Ok initial) (Err fault) most = None
order_check (Err fault) least most = None

abbrev pub initial_at : Option Members → Result ℕ ServeFault
initial_at t = timeout_at key.RtoInitialMs (usual_times true).rto_initial_ms t

abbrev pub least_at : Option Members → Result ℕ ServeFault
least_at t = timeout_at key.RtoMinMs (usual_times true).rto_min_ms t

abbrev pub most_at : Option Members → Result ℕ ServeFault
most_at t = timeout_at key.RtoMaxMs (usual_times true).rto_max_ms t

-- the times and tries
unfoldable pub times_checks : Option Members → List (Option ServeFault)
times_checks t =
    result_err (initial_at t)
    ∷ result_err (least_at t)
    ∷ result_err (most_at t)
    ∷ result_err (times.tries_at key.InitTries (usual_times true).init_tries t)
    ∷ result_err (times.tries_at key.Retransmissions (usual_times true).retransmissions t)
    ∷ result_err (heartbeat_at (usual_times true).heartbeat_ms t)
    ∷ order_check (initial_at t) (least_at t) (most_at t)
    ∷ []

-- the table `sctp`, or each of its keys
abbrev pub sctp_checks_in : Result (Option Members) ServeFault → List (Option ServeFault)
sctp_checks_in (Ok t) = times_checks t
sctp_checks_in (Err fault) = Some fault ∷ []

unfoldable pub sctp_checks : Members → List (Option ServeFault)
sctp_checks t = sctp_checks_in (sctp_at t)

unfoldable pub page_checks : Spelling → Members → List (Option ServeFault)
page_checks s t = result_err (page_open_at t) ∷ result_err (page_read s t) ∷ []

-- how the log is written
unfoldable pub log_checks : Members → List (Option ServeFault)
log_checks t = result_err (log_times_at t) ∷ result_err (log_least_at t) ∷ result_err (log_form_at t) ∷ []

-- the table `serve`
unfoldable pub table_checks : Spelling → Members → List (Option ServeFault)
table_checks s t =
    leading_checks s t ++ (ring_checks t ++ (shown_checks s t ++ (sctp_checks t ++ (page_checks s t ++ log_checks t))))

-- ---- links

-- the keys of SCTP, which stand beside `remote` alone
abbrev pub sctp_keys_checks : ℕ → Members → List (Option ServeFault)
sctp_keys_checks i t =
    result_err (without (key.LinkRemote i) t)
    ∷ result_err (without (key.LinkSctpPort i) t)
    ∷ result_err (without (key.LinkRemoteSctpPort i) t)
    ∷ result_err (without (key.LinkTries i) t)
    ∷ result_err (without (key.LinkRemotePortFixed i) t)
    ∷ result_err (without (key.LinkAddresses i) t)
    ∷ []

-- a link that listens
abbrev pub listener_checks : Spelling → ℕ → Members → Data → List (Option ServeFault)
listener_checks s i t d =
    result_err (address_in s (key.LinkListen i) d) ∷ result_err (without (key.LinkConnect i) t) ∷ []

abbrev pub from_checks : Spelling → ℕ → Members → List (Option ServeFault)
from_checks s i t = result_err (from_at s true i t) ∷ []

unfoldable pub listen_checks : Spelling → ℕ → Members → Data → List (Option ServeFault)
listen_checks s i t d = listener_checks s i t d ++ (sctp_keys_checks i t ++ from_checks s i t)

-- one that connects
unfoldable pub connect_checks : Spelling → ℕ → Members → Data → List (Option ServeFault)
connect_checks s i t d = result_err (address_in s (key.LinkConnect i) d) ∷ sctp_keys_checks i t

-- the addresses of a peer, all of one version of IP
unfoldable pub peer_in : Spelling → ℕ → Data → Result (List (Option SocketAddr)) ServeFault
peer_in s i d =
    and_then (address_in s (key.LinkRemote i) (first_or d (entries_of true d))) (λ a.
    others_in s (Some a) i a (drop 1 (entries_of true d)))

-- one over SCTP
unfoldable pub remote_checks : Spelling → ℕ → Members → Data → List (Option ServeFault)
remote_checks s i t d =
    result_err (peer_in s i d)
    ∷ result_err (sctp_port_at (key.LinkSctpPort i) t)
    ∷ result_err (sctp_port_at (key.LinkRemoteSctpPort i) t)
    ∷ result_err (tries_at i t)
    ∷ result_err (port_fixed_at true i t)
    ∷ result_err (addresses_at s true i t)
    ∷ []

abbrev pub other_checks : Spelling → ℕ → Members → (connect remote : Option Data) → List (Option ServeFault)
other_checks s i t (Some d) remote = connect_checks s i t d
other_checks s i t None (Some d) = remote_checks s i t d
other_checks s i t None None = []

abbrev pub own_checks_of : Spelling → ℕ → Members → (listen : Option Data) → List (Option ServeFault)
own_checks_of s i t (Some d) = listen_checks s i t d
own_checks_of s i t None =
    result_err (without (key.LinkFrom i) t)
    ∷ other_checks s i t (found_at (key.LinkConnect i) t) (found_at (key.LinkRemote i) t)

-- the keys of a link by themselves
unfoldable pub own_checks : Spelling → ℕ → Members → List (Option ServeFault)
own_checks s i t = own_checks_of s i t (found_at (key.LinkListen i) t)

-- faults; or others, if there are none
abbrev pub or_others : (faults others : List ServeFault) → List ServeFault
or_others [] others = others
or_others (fault ∷ faults) others = fault ∷ faults

-- a link: its keys; if they have no fault, that of the link beside what else the file says
unfoldable pub link_faults : Spelling → ℕ → Members → Result Endpoint ServeFault → List ServeFault
link_faults s i t endpoint = or_others (all_noted [] (own_checks s i t)) (noted [] (result_err endpoint))

-- an entry that is no table is a fault of the node's settings
abbrev pub entry_faults : Spelling → OwnAddresses → List Endpoint → ℕ → Option Members → List ServeFault
entry_faults s own before i None = []
entry_faults s own before i (Some t) = link_faults s i t (endpoint_at s own true before i t)

-- the links that can be read, with one more
abbrev pub with_read : List Endpoint → Result Endpoint ServeFault → List Endpoint
with_read before (Ok e) = before ++ e ∷ []
with_read before (Err fault) = before

abbrev pub with_entry : Spelling → OwnAddresses → List Endpoint → ℕ → Option Members → List Endpoint
with_entry s own before i None = before
with_entry s own before i (Some t) = with_read before (endpoint_at s own true before i t)

-- the links from number i on, after those that can be read
abbrev pub links_faults : Spelling → OwnAddresses → List Endpoint → ℕ → List Data → List ServeFault
links_faults s own before i [] = []
links_faults s own before i (d ∷ ds) =
    entry_faults s own before i (as_table d) ++ links_faults s own (with_entry s own before i (as_table d)) (i + 1) ds

-- the links of a file that has no more than it may have
abbrev pub links_faults_in : Spelling → OwnAddresses → Result (List Data) ServeFault → List ServeFault
links_faults_in s own (Ok ds) = if nat_le (length ds) LINKS then links_faults s own [] 0 ds else []
links_faults_in s own (Err fault) = []

-- ---- the file

abbrev pub serve_faults : Spelling → Members → Result Members ServeFault → List ServeFault
serve_faults s t (Ok serve) = all_noted [] (table_checks s serve) ++ links_faults_in s (own_read s serve) (links_at t)
serve_faults s t (Err fault) = fault ∷ []

abbrev pub faults_in : Spelling → Members → Option Data → List ServeFault
faults_in s t None = []
faults_in s t (Some d) = serve_faults s t (table_in (Kind key.Serve) d)

-- all faults of a server's settings; a file without `serve` has none
unfoldable pub server_faults : Spelling → Members → List ServeFault
server_faults s t = faults_in s t (found_at key.Serve t)
