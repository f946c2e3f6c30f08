-- The parameters of INIT and INIT ACK, and what is done about each; the causes of ABORT and ERROR (RFC 9260 §3.2.1,
-- §3.3.2, §3.3.3, §3.3.10).
use Rattle.std.specs.Prelude.{ℕ, ◌+◌, ◌-◌, ◌*◌, ◌/◌, ◌%◌, ◌^◌, Bool, true, false, ◌==◌, ◌||◌, ◌&&◌, not}
use Rattle.std.specs.Prelude.{if◌then◌else◌, nat_le, List, []}
use Rattle.std.specs.Prelude.{◌∷◌, ◌++◌, length, map, replicate, Option, Some, None}
use Rattle.std.specs.Int.{w16, w32, w64, to_be_bytes}
use Rattle.std.specs.Net.Addr.{ipv4_octets, ipv6_octets}
use Rattle.std.specs.declared.net.ip_addr.IpAddr.{IpAddr}
use Rattle.std.specs.declared.net.ip_addr.IpAddr.TheVariants.{V4, V6}
use Rattle.sctp_codec.specs.Items.{ItemValue, padding_behind, item_octets, padded_item, joined_items}

-- ---- parameters

-- types of parameters
abbrev pub heartbeat_information : ℕ
heartbeat_information = 1

abbrev pub ipv4_address : ℕ
ipv4_address = 5

abbrev pub ipv6_address : ℕ
ipv6_address = 6

abbrev pub state_cookie : ℕ
state_cookie = 7

abbrev pub unrecognized_parameter : ℕ
unrecognized_parameter = 8

abbrev pub host_name_address : ℕ
host_name_address = 11

-- the types that are known besides the host name: IPv4 and IPv6 addresses, state cookie, unrecognized parameter, cookie
-- preservative, supported address types
abbrev pub is_known : ℕ → Bool
is_known kind = kind == 5 || kind == 6 || kind == 7 || kind == 8 || kind == 9 || kind == 12

-- the upper two bits of a type that isn't known: whether the parameters after it count, and whether it is reported
abbrev pub is_skipped : ℕ → Bool
is_skipped kind = kind / 2 ^ 15 % 2 == 1

abbrev pub is_reported : ℕ → Bool
is_reported kind = not (is_known kind || kind == host_name_address) && kind / 2 ^ 14 % 2 == 1

-- nothing after a parameter of this type counts
abbrev pub is_last : ℕ → Bool
is_last kind = not (is_known kind || is_skipped kind)

-- the parameters that count
abbrev pub counting : List ItemValue → List ItemValue
counting [] = []
counting (item ∷ items) = if is_last item.kind then item ∷ [] else item ∷ counting items

-- the value of the first one of this type
abbrev pub first_of_kind : ℕ → List ItemValue → Option (List ℕ)
first_of_kind kind [] = None
first_of_kind kind (item ∷ items) = if item.kind == kind then Some item.value else first_of_kind kind items

abbrev pub has_kind : ℕ → List ItemValue → Bool
has_kind kind [] = false
has_kind kind (item ∷ items) = item.kind == kind || has_kind kind items

abbrev pub reported_of : List ItemValue → List ItemValue
reported_of [] = []
reported_of (item ∷ items) = if is_reported item.kind then item ∷ reported_of items else reported_of items

-- the state cookie
abbrev pub cookie_in : List ItemValue → Option (List ℕ)
cookie_in parameters = first_of_kind state_cookie (counting parameters)

-- the host name, which no address is made of here
abbrev pub host_name_in : List ItemValue → Option (List ℕ)
host_name_in parameters = first_of_kind host_name_address (counting parameters)

-- the parameters that are to be reported
abbrev pub reported_in : List ItemValue → List ItemValue
reported_in parameters = reported_of (counting parameters)

-- the first of some items, as many as have this many octets at most, each with its padding
abbrev pub fitting : ℕ → List ItemValue → List ItemValue
fitting room [] = []
fitting room (item ∷ items) =
    if nat_le (length (padded_item item)) room then item ∷ fitting (room - length (padded_item item)) items else []

-- a parameter that is reported in INIT ACK: the whole of it is the value
abbrev pub reporting : ItemValue → ItemValue
reporting item = record { kind = unrecognized_parameter; value = item_octets item }

-- how many octets of reported parameters are sent at most
abbrev pub report_octets : ℕ
report_octets = 512

-- a parameter as it is reported: in INIT ACK, or in an ERROR
abbrev pub report_of : Bool → ItemValue → ItemValue
report_of true item = reporting item
report_of false item = item

-- items, each after the padding of the one before it
abbrev pub following : ℕ → List ItemValue → List ℕ
following padding [] = []
following padding (item ∷ items) =
    replicate padding 0 ++ item_octets item ++ following (padding_behind (length item.value)) items

-- an address of an end: of IPv4 four octets, of IPv6 sixteen (RFC 9260 §3.3.2.1.1, §3.3.2.1.2)
abbrev pub address_item : IpAddr → ItemValue
address_item (V4 address) = record { kind = ipv4_address; value = ipv4_octets address }
address_item (V6 address) = record { kind = ipv6_address; value = ipv6_octets address }

-- how many octets of addresses are sent at most: eight of IPv6
abbrev pub address_octets : ℕ
address_octets = 160

-- the parameters of INIT: the addresses of its sender, as many of the first as there is room for
abbrev pub listing : List IpAddr → List ItemValue
listing addresses = fitting address_octets (map address_item addresses)

-- the parameters of INIT ACK: the addresses of its sender, the cookie, and those of INIT that are reported, as many as
-- there is room for
abbrev pub answering : List IpAddr → (cookie : List ℕ) → List ItemValue → List ItemValue
answering addresses cookie parameters =
    listing addresses
    ++ record { kind = state_cookie; value = cookie } ∷ fitting report_octets (map reporting (reported_in parameters))

-- the parameters of INIT ACK that are reported in an ERROR, as many as there is room for
abbrev pub complained_of : List ItemValue → List ItemValue
complained_of parameters = fitting report_octets (reported_in parameters)

-- the heartbeat information that this end sends, which has a number of its own (RFC 9260 §3.3.5)
abbrev pub information_of : ℕ → List ℕ
information_of nonce = item_octets (record { kind = heartbeat_information; value = to_be_bytes w64 nonce })

-- ---- causes

-- the code of a stale cookie
abbrev pub stale_cookie : ℕ
stale_cookie = 3

-- a cause that is sent
pub data CauseValue : Type 0 where
  -- invalid stream identifier: the stream
  NoStream : (stream : ℕ) → CauseValue
  -- stale cookie: by how many microseconds
  StaleCookie : (microseconds : ℕ) → CauseValue
  -- unresolvable address: a host name
  UnresolvableAddress : (name : List ℕ) → CauseValue
  -- unrecognized chunk type: the chunk
  UnrecognizedChunk : (kind flags : ℕ) (value : List ℕ) → CauseValue
  -- invalid mandatory parameter
  InvalidParameter : CauseValue
  -- no user data: the number of the DATA chunk
  NoUserData : (tsn : ℕ) → CauseValue
  -- cookie received while shutting down
  CookieInShutdown : CauseValue
  -- user-initiated abort
  EndedByUser : CauseValue
  -- protocol violation: what was violated, in words
  ProtocolViolation : (words : List ℕ) → CauseValue

-- the cause, by its code (RFC 9260 §3.3.10)
abbrev pub cause_item : CauseValue → ItemValue
cause_item (NoStream stream) = record { kind = 1; value = to_be_bytes w16 stream ++ (0 ∷ 0 ∷ []) }
cause_item (StaleCookie microseconds) = record { kind = stale_cookie; value = to_be_bytes w32 microseconds }
cause_item (UnresolvableAddress name) =
    record { kind = 5; value = item_octets (record { kind = host_name_address; value = name }) }
cause_item (UnrecognizedChunk kind flags value) =
    record { kind = 6; value = item_octets (record { kind = kind * 2 ^ 8 + flags; value = value }) }
cause_item InvalidParameter = record { kind = 7; value = [] }
cause_item (NoUserData tsn) = record { kind = 9; value = to_be_bytes w32 tsn }
cause_item CookieInShutdown = record { kind = 10; value = [] }
cause_item EndedByUser = record { kind = 12; value = [] }
cause_item (ProtocolViolation words) = record { kind = 13; value = words }

-- unrecognized parameters, in an ERROR: these
abbrev pub unrecognized_parameters : List ItemValue → ItemValue
unrecognized_parameters parameters = record { kind = 8; value = joined_items parameters }

-- whether one of the causes is that the cookie was stale
abbrev pub has_stale_cookie : List ItemValue → Bool
has_stale_cookie causes = has_kind stale_cookie causes
