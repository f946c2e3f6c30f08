-- How the association of each link comes about.
use Rattle.std.specs.Prelude.{ℕ, Bool, true, false, ◌||◌, ◌&&◌, nat_eq, List, [], ◌∷◌, ◌++◌, drop, length, Option, Some}
use Rattle.std.specs.Prelude.{None, Result, Ok, Err, if◌then◌else◌, is_some}
use Rattle.std.specs.List.{list_any, list_all}
use Rattle.std.specs.declared.net.socket_addr.SocketAddr.{SocketAddr}
use Rattle.toml.specs.Data.{Data, Members}
use Rattle.settings.specs.declared.key.Key.TheVariants as node
use Rattle.settings_file.specs.declared.fault.SettingsFault.TheVariants as found
use Rattle.settings_file.specs.declared.serve.server.Endpoint.{Endpoint}
use Rattle.settings_file.specs.declared.serve.server.Endpoint.TheVariants.{Listen, Connect}
use Rattle.settings_file.specs.declared.serve.server.Endpoint.TheVariants as endpoint
use Rattle.settings_file.specs.declared.serve.sctp.Remote.{Remote}
use Rattle.settings_file.specs.declared.serve.server.OwnAddresses.{OwnAddresses}
use Rattle.settings_file.specs.declared.serve.key.ServeKey.{ServeKey}
use Rattle.settings_file.specs.declared.serve.key.ServeKey.TheVariants as key
use Rattle.settings_file.specs.declared.serve.fault.ServeFault.{ServeFault}
use Rattle.settings_file.specs.declared.serve.fault.ServeFault.TheVariants.{Settings, Missing, Duplicate}
use Rattle.settings_file.specs.Addresses.{Spelling, is_same, is_address_of}
use Rattle.settings_file.specs.Hosts.{from_at}
use Rattle.settings_file.specs.Paths.{entries_of, first_or, reached, others_in, addresses_at, share_host}
use Rattle.settings_file.specs.Places.{key_name as node_name}
use Rattle.settings_file.specs.ServeKeys.{found_at}
use Rattle.settings_file.specs.Shapes.{and_then, value_at, table_in, array_in}
use Rattle.settings_file.specs.Keyed.{address_in, number_or, truth_or}

-- an address is where a link listens
abbrev pub listens_on : SocketAddr → Endpoint → Bool
listens_on a (Listen b host) = is_same b a
listens_on a (Connect b) = false
listens_on a (endpoint.Remote r) = false

-- the console listens on an address, or the status page is there, or one of the links before listens there
abbrev pub is_taken : OwnAddresses → List Endpoint → SocketAddr → Bool
is_taken own before a =
    is_address_of own.console a || is_address_of own.page a || list_any (listens_on a) before

-- a datagram of the one peer would be taken for one of the other: what tells them apart is the hosts and the two SCTP
-- ports
abbrev pub has_same_peer : Remote → Endpoint → Bool
has_same_peer r (Listen a host) = false
has_same_peer r (Connect a) = false
has_same_peer r (endpoint.Remote other) =
    share_host r other && nat_eq r.own_port other.own_port && nat_eq r.far_port other.far_port

-- a link isn't one over SCTP, or the server has an address that its datagrams go out from
abbrev pub has_source : Option SocketAddr → Endpoint → Bool
has_source udp (Listen a host) = true
has_source udp (Connect a) = true
has_source udp (endpoint.Remote r) = is_some udp

-- the same of each link
abbrev pub have_source : Option SocketAddr → List Endpoint → Bool
have_source udp links = list_all (has_source udp) links

-- where link i listens, which is where nothing else does
unfoldable pub listening_in : Spelling → OwnAddresses → List Endpoint → ℕ → Data → Result SocketAddr ServeFault
listening_in s own before i d =
    and_then (address_in s (key.LinkListen i) d) (λ a.
    if is_taken own before a then Err (Duplicate (key.LinkListen i)) else Ok a)

-- a key that a link may not have together with its other keys
abbrev pub without : ServeKey → Members → Result Unit ServeFault
without key t = if is_some (found_at key t) then Err (Duplicate key) else Ok tt

-- the same of a key that version 4 brought
abbrev pub without_in : (is_fourth : Bool) → ServeKey → Members → Result Unit ServeFault
without_in is_fourth key t = if is_fourth then without key t else Ok tt

-- link i has no key of a link over SCTP
unfoldable pub without_sctp : (is_fourth : Bool) → ℕ → Members → Result Unit ServeFault
without_sctp is_fourth i t =
    and_then (without (key.LinkRemote i) t) (λ _.
    and_then (without (key.LinkSctpPort i) t) (λ _.
    and_then (without (key.LinkRemoteSctpPort i) t) (λ _.
    and_then (without (key.LinkTries i) t) (λ _.
    and_then (without_in is_fourth (key.LinkRemotePortFixed i) t) (λ _.
    without_in is_fourth (key.LinkAddresses i) t)))))

-- where a link listens, which has no other key of the three
unfoldable pub listen_in : Spelling → OwnAddresses → (is_fourth : Bool) → List Endpoint → ℕ → Members → Data
    → Result SocketAddr ServeFault
listen_in s own is_fourth before i t d =
    and_then (listening_in s own before i d) (λ a.
    and_then (without (key.LinkConnect i) t) (λ _.
    and_then (without_sctp is_fourth i t) (λ _.
    Ok a)))

-- where a link connects to, which has no other key of the three
unfoldable pub connect_in : Spelling → (is_fourth : Bool) → ℕ → Members → Data → Result SocketAddr ServeFault
connect_in s is_fourth i t d =
    and_then (address_in s (key.LinkConnect i) d) (λ a.
    and_then (without_sctp is_fourth i t) (λ _.
    Ok a))

-- an SCTP port, from 1 on: 3565, the registered port of M2PA, if the key is left out
unfoldable pub sctp_port_at : ServeKey → Members → Result ℕ ServeFault
sctp_port_at key t = number_or key 1 65535 3565 (found_at key t)

-- whether an end sends INIT, which it does if the key is left out
unfoldable pub tries_at : ℕ → Members → Result Bool ServeFault
tries_at i t = truth_or (key.LinkTries i) true (found_at (key.LinkTries i) t)

-- whether an INIT of the peer counts only from its UDP port, which version 4 brought: if the key is left out, from any
unfoldable pub port_fixed_at : (is_fourth : Bool) → ℕ → Members → Result Bool ServeFault
port_fixed_at is_fourth i t =
    if is_fourth
    then truth_or (key.LinkRemotePortFixed i) false (found_at (key.LinkRemotePortFixed i) t)
    else Ok false

-- no link before has the peer
unfoldable pub apart : List Endpoint → ℕ → Remote → Result Unit ServeFault
apart before i r = if list_any (has_same_peer r) before then Err (Duplicate (key.LinkRemote i)) else Ok tt

-- a link over SCTP
unfoldable pub remote_in : Spelling → OwnAddresses → (is_fourth : Bool) → List Endpoint → ℕ → Members → Data
    → Result Remote ServeFault
remote_in s own is_fourth before i t d =
    let entries : List Data = entries_of is_fourth d in
    and_then (address_in s (key.LinkRemote i) (first_or d entries)) (λ a.
    and_then (reached own.udp i a) (λ address.
    and_then (others_in s own.udp i address (drop 1 entries)) (λ others.
    and_then (sctp_port_at (key.LinkSctpPort i) t) (λ own_port.
    and_then (sctp_port_at (key.LinkRemoteSctpPort i) t) (λ far_port.
    and_then (tries_at i t) (λ tries.
    and_then (port_fixed_at is_fourth i t) (λ is_port_fixed.
    and_then (addresses_at s is_fourth i t) (λ addresses.
    let r : Remote = record {
      address = address;
      others = others;
      addresses = addresses;
      own_port = own_port;
      far_port = far_port;
      tries = tries;
      is_port_fixed = is_port_fixed;
    } in
    and_then (apart before i r) (λ _.
    Ok r)))))))))

-- one that doesn't listen
abbrev pub other_endpoint_of : Spelling → OwnAddresses → (is_fourth : Bool) → List Endpoint → ℕ → Members
    → (connect remote : Option Data) → Result Endpoint ServeFault
other_endpoint_of s own is_fourth before i t (Some d) remote =
    and_then (connect_in s is_fourth i t d) (λ a. Ok (Connect a))
other_endpoint_of s own is_fourth before i t None (Some d) =
    and_then (remote_in s own is_fourth before i t d) (λ r. Ok (endpoint.Remote r))
other_endpoint_of s own is_fourth before i t None None = Err (Missing (key.LinkListen i))

-- a link has exactly one of `listen`, `connect` and `remote`; `from` stands beside `listen` alone
abbrev pub endpoint_of : Spelling → OwnAddresses → (is_fourth : Bool) → List Endpoint → ℕ → Members
    → (listen connect remote : Option Data) → Result Endpoint ServeFault
endpoint_of s own is_fourth before i t (Some d) connect remote =
    and_then (listen_in s own is_fourth before i t d) (λ a.
    and_then (from_at s is_fourth i t) (λ host. Ok (Listen a host)))
endpoint_of s own is_fourth before i t None connect remote =
    and_then (without_in is_fourth (key.LinkFrom i) t) (λ _. other_endpoint_of s own is_fourth before i t connect remote)

unfoldable pub endpoint_at : Spelling → OwnAddresses → (is_fourth : Bool) → List Endpoint → ℕ → Members
    → Result Endpoint ServeFault
endpoint_at s own is_fourth before i t =
    endpoint_of s own is_fourth before i t (found_at (key.LinkListen i) t) (found_at (key.LinkConnect i) t)
    (found_at (key.LinkRemote i) t)

-- how the association of the link after these comes about
unfoldable pub endpoint_in : Spelling → OwnAddresses → (is_fourth : Bool) → List Endpoint → Data
    → Result Endpoint ServeFault
endpoint_in s own is_fourth before d =
    and_then (table_in (Settings (found.Kind (node.LinkEntry (length before)))) d)
    (endpoint_at s own is_fourth before (length before))

-- the same of each link, after those that are read
abbrev pub endpoints_behind : Spelling → OwnAddresses → (is_fourth : Bool) → List Endpoint → List Data
    → Result (List Endpoint) ServeFault
endpoints_behind s own is_fourth before [] = Ok before
endpoints_behind s own is_fourth before (d ∷ ds) =
    and_then (endpoint_in s own is_fourth before d) (λ e. endpoints_behind s own is_fourth (before ++ e ∷ []) ds)

-- the links of a file; if it has none, the node's settings have that fault
unfoldable pub links_at : Members → Result (List Data) ServeFault
links_at t =
    and_then (value_at (node_name node.Link) (Settings (found.Missing node.Link)) t)
    (array_in (Settings (found.Kind node.Link)))

unfoldable pub endpoints_at : Spelling → OwnAddresses → (is_fourth : Bool) → Members → Result (List Endpoint) ServeFault
endpoints_at s own is_fourth t = and_then (links_at t) (endpoints_behind s own is_fourth [])
