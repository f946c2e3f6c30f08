-- The addresses of an end in the code.
use Rattle.std.specs.Prelude.{◌≡◌, ◌<◌, List, take, length, Option, Some, None}
use Rattle.std.specs.declared.net.ip_addr.IpAddr.{IpAddr}
use Rattle.sctp_codec.specs.Addresses.{most_addresses}
use Rattle.sctp_bundling.specs.declared.addresses.Addresses.{Addresses}

abbrev pub listed : Addresses → List IpAddr
listed a = take a.count a.places

-- they are these, unless these are too many
abbrev pub IsListed : Option Addresses → List IpAddr → Type 0
IsListed None addresses = most_addresses < length addresses
IsListed (Some a) addresses = listed a ≡ addresses
