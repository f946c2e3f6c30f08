-- The addresses of a link over SCTP: those of this end that it lists, and those of its peer, which version 4 brought.
use Rattle.std.specs.Prelude.{ℕ, ◌+◌, ◌||◌, Bool, false, nat_lt, List, [], ◌∷◌, length, replicate, slice_set}
use Rattle.std.specs.Prelude.{Option, Some, None, Result, Ok, Err, if◌then◌else◌}
use Rattle.std.specs.List.{list_any}
use Rattle.std.specs.Option.{ok_or, option_map}
use Rattle.std.specs.declared.net.ip_addr.IpAddr.{IpAddr}
use Rattle.std.specs.declared.net.socket_addr.SocketAddr.{SocketAddr}
use Rattle.toml.specs.Data.{Data, Members, as_array}
use Rattle.settings_file.specs.declared.serve.sctp.Remote.{Remote}
use Rattle.settings_file.specs.declared.serve.key.ServeKey.{ServeKey}
use Rattle.settings_file.specs.declared.serve.key.ServeKey.TheVariants as key
use Rattle.settings_file.specs.declared.serve.fault.ServeFault.{ServeFault}
use Rattle.settings_file.specs.declared.serve.fault.ServeFault.TheVariants.{Kind, Missing, Range, Duplicate}
use Rattle.settings_file.specs.Addresses.{Spelling, is_host, is_same_host, is_same_version, may_be_listed}
use Rattle.settings_file.specs.ServeKeys.{found_at}
use Rattle.settings_file.specs.Shapes.{and_then, text_in, array_in, listed}
use Rattle.settings_file.specs.Keyed.{address_in}

-- ---- the addresses of this end

-- how many addresses an end has at most
abbrev pub most_addresses : ℕ
most_addresses = 8

-- a place has this address
abbrev pub has_address : IpAddr → Option IpAddr → Bool
has_address a None = false
has_address a (Some b) = is_host b a

-- the IP address that a text spells
abbrev pub spelled_host : Spelling → ServeKey → List ℕ → Result IpAddr ServeFault
spelled_host s key text = ok_or (s.host text) (Range key)

-- one that an end may list
abbrev pub listable : ServeKey → IpAddr → Result IpAddr ServeFault
listable key a = if may_be_listed a then Ok a else Err (Range key)

-- one that is in no place yet
abbrev pub new_address : ServeKey → List (Option IpAddr) → IpAddr → Result IpAddr ServeFault
new_address key places a = if list_any (has_address a) places then Err (Duplicate key) else Ok a

unfoldable pub next_address : Spelling → ServeKey → List (Option IpAddr) → Data → Result IpAddr ServeFault
next_address s key places d =
    and_then (text_in (Kind key) d) (λ text.
    and_then (spelled_host s key text) (λ spelled.
    and_then (listable key spelled) (new_address key places)))

-- they fill the places from number i on
abbrev pub addresses_from : Spelling → ServeKey → List (Option IpAddr) → (i : ℕ) → List Data
    → Result (List (Option IpAddr)) ServeFault
addresses_from s key places i [] = Ok places
addresses_from s key places i (d ∷ ds) =
    and_then (next_address s key places d) (λ a. addresses_from s key (slice_set places i (Some a)) (i + 1) ds)

abbrev pub no_addresses : List (Option IpAddr)
no_addresses = replicate most_addresses None

unfoldable pub addresses_in : Spelling → ServeKey → Data → Result (List (Option IpAddr)) ServeFault
addresses_in s key d =
    and_then (array_in (Kind key) d) (λ ds.
    if nat_lt most_addresses (length ds) then Err (Range key) else addresses_from s key no_addresses 0 ds)

abbrev pub addresses_or_none : Spelling → ServeKey → Option Data → Result (List (Option IpAddr)) ServeFault
addresses_or_none s key None = Ok no_addresses
addresses_or_none s key (Some d) = addresses_in s key d

-- the addresses that link i lists
unfoldable pub addresses_at : Spelling → (is_fourth : Bool) → ℕ → Members → Result (List (Option IpAddr)) ServeFault
addresses_at s is_fourth i t =
    if is_fourth
    then addresses_or_none s (key.LinkAddresses i) (found_at (key.LinkAddresses i) t)
    else Ok no_addresses

-- ---- the addresses of the peer

-- the values of a list, which `remote` may be from version 4 on
abbrev pub entries_in : Option (List Data) → List Data
entries_in None = []
entries_in (Some ds) = ds

abbrev pub entries_of : (is_fourth : Bool) → Data → List Data
entries_of is_fourth d = if is_fourth then entries_in (option_map listed (as_array d)) else []

-- the first of them; else the value itself
abbrev pub first_or : Data → List Data → Data
first_or d [] = d
first_or d (first ∷ more) = first

-- a place has an address of this host
abbrev pub has_host : SocketAddr → Option SocketAddr → Bool
has_host a None = false
has_host a (Some b) = is_same_host b a

-- datagrams go out to an address: the server has one for them, of the same version of IP
unfoldable pub reached : Option SocketAddr → ℕ → SocketAddr → Result SocketAddr ServeFault
reached None i a = Err (Missing key.Udp)
reached (Some own) i a = if is_same_version own a then Ok a else Err (Range (key.LinkRemote i))

-- one of another host than those before
abbrev pub new_host : ℕ → (first : SocketAddr) → List (Option SocketAddr) → SocketAddr → Result SocketAddr ServeFault
new_host i first places a =
    if is_same_host first a || list_any (has_host a) places then Err (Duplicate (key.LinkRemote i)) else Ok a

unfoldable pub next_other : Spelling → Option SocketAddr → ℕ → (first : SocketAddr) → List (Option SocketAddr) → Data
    → Result SocketAddr ServeFault
next_other s udp i first places d =
    and_then (address_in s (key.LinkRemote i) d) (λ told.
    and_then (reached udp i told) (new_host i first places))

abbrev pub others_from : Spelling → Option SocketAddr → ℕ → (first : SocketAddr) → List (Option SocketAddr) → (n : ℕ)
    → List Data → Result (List (Option SocketAddr)) ServeFault
others_from s udp i first places n [] = Ok places
others_from s udp i first places n (d ∷ ds) =
    and_then (next_other s udp i first places d) (λ a.
    others_from s udp i first (slice_set places n (Some a)) (n + 1) ds)

-- seven more than the first
abbrev pub most_others : ℕ
most_others = 7

abbrev pub no_others : List (Option SocketAddr)
no_others = replicate most_others None

-- the further addresses of the peer of link i
unfoldable pub others_in : Spelling → Option SocketAddr → ℕ → (first : SocketAddr) → List Data
    → Result (List (Option SocketAddr)) ServeFault
others_in s udp i first ds =
    if nat_lt most_others (length ds) then Err (Range (key.LinkRemote i)) else others_from s udp i first no_others 0 ds

-- ---- peers that share a host

-- a datagram may come from this host
abbrev pub comes_from : Remote → SocketAddr → Bool
comes_from r a = is_same_host r.address a || list_any (has_host a) r.others

abbrev pub may_come_from : Remote → Option SocketAddr → Bool
may_come_from r None = false
may_come_from r (Some a) = comes_from r a

abbrev pub share_host : Remote → Remote → Bool
share_host r q = comes_from q r.address || list_any (may_come_from q) r.others
