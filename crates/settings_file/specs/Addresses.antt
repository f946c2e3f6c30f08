-- Addresses, with a port and without: what a text spells, and what is told of them.
use Rattle.std.specs.Prelude.{◌≡◌, ℕ, List, [], ◌∷◌, take, replicate, slice_index, Bool, true, false, ◌&&◌, ◌||◌, not}
use Rattle.std.specs.Prelude.{Option, Some, None, bytes_eq, nat_le}
use Rattle.std.specs.declared.net.socket_addr.SocketAddr.{SocketAddr}
use Rattle.std.specs.declared.net.socket_addr.SocketAddr.TheVariants.{V4, V6}
use Rattle.std.specs.Net.Addr.{ipv4_octets, ipv6_segments}
use Rattle.std.specs.Net.Socket.{v4_ip, v6_ip, socket_ip}
use Rattle.std.specs.Net.Grammar.{IsSocketText, IsIpText}
use Rattle.std.specs.declared.net.ip_addr.IpAddr.{IpAddr}
use Rattle.std.specs.declared.net.ip_addr.IpAddr.TheVariants as Ip
use Rattle.std.specs.contracts.impls.SocketAddrPartialEq.TheImpl as same
use Rattle.std.specs.contracts.impls.IpAddrPartialEq.TheImpl as same_host

-- functions that tell what address a text spells, with a port and without, and of a text that spells none say so
pub record Spelling : Type 0 where
  pub address : List ℕ → Option SocketAddr
  pub sound : (text : List ℕ) (a : SocketAddr) → address text ≡ Some a → IsSocketText text a
  pub complete : (text : List ℕ) (a : SocketAddr) → IsSocketText text a → address text ≡ Some a
  pub host : List ℕ → Option IpAddr
  pub host_sound : (text : List ℕ) (a : IpAddr) → host text ≡ Some a → IsIpText text a
  pub host_complete : (text : List ℕ) (a : IpAddr) → IsIpText text a → host text ≡ Some a

-- an address that no other machine reaches: in 127.0.0.0/8, or ::1
abbrev pub is_loopback : SocketAddr → Bool
is_loopback (V4 a) = bytes_eq (take 1 (ipv4_octets (v4_ip a))) (127 ∷ [])
is_loopback (V6 a) = bytes_eq (ipv6_segments (v6_ip a)) (0 ∷ 0 ∷ 0 ∷ 0 ∷ 0 ∷ 0 ∷ 0 ∷ 1 ∷ [])

-- two addresses are the same, with their ports, as `==` has it
abbrev pub is_same : SocketAddr → SocketAddr → Bool
is_same = (same.ghosts).eq

-- this is the address, if there is one
abbrev pub is_address_of : Option SocketAddr → SocketAddr → Bool
is_address_of None a = false
is_address_of (Some b) a = is_same b a

-- two addresses are of the same host, whatever their ports are
abbrev pub is_same_host : SocketAddr → SocketAddr → Bool
is_same_host a b = (same_host.ghosts).eq (socket_ip a) (socket_ip b)

-- two hosts are the same, as `==` has it
abbrev pub is_host : IpAddr → IpAddr → Bool
is_host = (same_host.ghosts).eq

-- both are of IPv4, or both of IPv6
abbrev pub is_same_version : SocketAddr → SocketAddr → Bool
is_same_version (V4 a) (V4 b) = true
is_same_version (V4 a) (V6 b) = false
is_same_version (V6 a) (V4 b) = false
is_same_version (V6 a) (V6 b) = true

-- ---- what an end may list

-- 0.0.0.0 or ::
abbrev pub is_unspecified : IpAddr → Bool
is_unspecified (Ip.V4 a) = bytes_eq (ipv4_octets a) (replicate 4 0)
is_unspecified (Ip.V6 a) = bytes_eq (ipv6_segments a) (replicate 8 0)

-- in 224.0.0.0/4 or ff00::/8
abbrev pub is_multicast : IpAddr → Bool
is_multicast (Ip.V4 a) = nat_le 224 (slice_index (ipv4_octets a) 0) && nat_le (slice_index (ipv4_octets a) 0) 239
is_multicast (Ip.V6 a) = nat_le 0xff00 (slice_index (ipv6_segments a) 0)

-- 255.255.255.255
abbrev pub is_broadcast : IpAddr → Bool
is_broadcast (Ip.V4 a) = bytes_eq (ipv4_octets a) (replicate 4 255)
is_broadcast (Ip.V6 a) = false

-- in 169.254.0.0/16 or fe80::/10
abbrev pub is_link_local : IpAddr → Bool
is_link_local (Ip.V4 a) = bytes_eq (take 2 (ipv4_octets a)) (169 ∷ 254 ∷ [])
is_link_local (Ip.V6 a) =
    nat_le 0xfe80 (slice_index (ipv6_segments a) 0) && nat_le (slice_index (ipv6_segments a) 0) 0xfebf

-- in ::ffff:0:0/96
abbrev pub is_mapped : IpAddr → Bool
is_mapped (Ip.V4 a) = false
is_mapped (Ip.V6 a) = bytes_eq (take 6 (ipv6_segments a)) (0 ∷ 0 ∷ 0 ∷ 0 ∷ 0 ∷ 0xffff ∷ [])

-- an end may list an address of one host, whatever link that is reached by; one of IPv4 it lists as such (RFC 9260
-- §3.3.2.1.2)
abbrev pub may_be_listed : IpAddr → Bool
may_be_listed a = not (is_unspecified a || is_multicast a || is_broadcast a || is_link_local a || is_mapped a)
