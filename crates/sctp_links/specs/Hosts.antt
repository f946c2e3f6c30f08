-- Addresses of the system as those of SCTP.
use Rattle.std.specs.Prelude.{ℕ, List}
use Rattle.std.specs.Net.Addr.{embedded_segments, ipv6_octets, octets_of}
use Rattle.std.specs.Net.Socket.{socket_ip, socket_port}
use Rattle.std.specs.declared.net.ip_addr.IpAddr.{IpAddr}
use Rattle.std.specs.declared.net.ip_addr.IpAddr.TheVariants.{V4, V6}
use Rattle.std.specs.declared.net.socket_addr.SocketAddr.{SocketAddr}
use Rattle.sctp_bundling.specs.declared.address.Address.{Address}

-- the octets of a host: of IPv4 in the form that IPv6 has for it, ::ffff:a.b.c.d (RFC 4291 §2.5.5.2)
abbrev pub host_of : IpAddr → List ℕ
host_of (V4 ip) = octets_of (embedded_segments 0xffff ip)
host_of (V6 ip) = ipv6_octets ip

abbrev pub address_of : SocketAddr → Address
address_of a = record { host = host_of (socket_ip a); port = socket_port a }
