-- What a peer finds of the addresses that an end lists (RFC 9260 §5.1.2).
use Rattle.std.specs.Prelude.{◌≡◌, ◌≤◌, ℕ, Bool, ◌==◌, ◌||◌, if◌then◌else◌, List, [], ◌∷◌, All, Some, length, map}
use Rattle.std.specs.Net.Addr.{ipv4_octets, ipv6_octets}
use Rattle.std.specs.declared.net.ip_addr.IpAddr.{IpAddr}
use Rattle.std.specs.declared.net.ip_addr.IpAddr.TheVariants.{V4, V6}
use Rattle.sctp_codec.specs.Items.{ItemValue}
use Rattle.sctp_codec.specs.Parameters.{ipv4_address, ipv6_address, address_item, counting, listing, answering}
use Rattle.sctp_codec.specs.Parameters.{cookie_in}

-- as many octets as an address of its kind has
abbrev pub IsAddress : IpAddr → Type 0
IsAddress (V4 address) = length (ipv4_octets address) ≡ 4
IsAddress (V6 address) = length (ipv6_octets address) ≡ 16

-- how many addresses are always listed
abbrev pub most_addresses : ℕ
most_addresses = 8

-- the parameters that are addresses
abbrev pub is_address : ℕ → Bool
is_address kind = kind == ipv4_address || kind == ipv6_address

abbrev pub addresses_of : List ItemValue → List ItemValue
addresses_of [] = []
addresses_of (item ∷ items) = if is_address item.kind then item ∷ addresses_of items else addresses_of items

abbrev pub addresses_in : List ItemValue → List ItemValue
addresses_in parameters = addresses_of (counting parameters)

-- eight addresses or fewer are all listed, in their order
abbrev pub all_are_listed : Type 0
all_are_listed =
    (addresses : List IpAddr) → All IsAddress addresses → length addresses ≤ most_addresses →
    listing addresses ≡ map address_item addresses

-- in an INIT a peer finds the addresses that are listed
abbrev pub init_lists : Type 0
init_lists = (addresses : List IpAddr) → addresses_in (listing addresses) ≡ listing addresses

-- in an INIT ACK, too, whatever is reported behind them; and it finds the cookie
abbrev pub init_ack_lists : Type 0
init_ack_lists =
    (addresses : List IpAddr) (cookie : List ℕ) (parameters : List ItemValue) →
    addresses_in (answering addresses cookie parameters) ≡ listing addresses

abbrev pub cookie_is_found : Type 0
cookie_is_found =
    (addresses : List IpAddr) (cookie : List ℕ) (parameters : List ItemValue) →
    cookie_in (answering addresses cookie parameters) ≡ Some cookie
