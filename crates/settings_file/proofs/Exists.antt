-- There are functions that tell what address a text spells, with a port and without.
use Rattle.settings_file.proofs.Basics.{◌≡◌, ◌∙◌, ℕ, List, [], ◌∷◌, length, Option, Some, None, refl, sym, ap, subst, append-nil, ne_eqb, arith, none-some, same_Some, SocketAddr, IsSocketV4Text, IsSocketV6Text, IsSocketText, Spelling}
use Rattle.std.specs.declared.net.socket_addr.SocketAddrV4.{SocketAddrV4}
use Rattle.std.specs.declared.net.socket_addr.SocketAddrV6.{SocketAddrV6}
use Rattle.std.specs.declared.net.socket_addr.SocketAddr.TheVariants.{V4, V6}
use Rattle.std.specs.declared.net.ip_addr.IpAddr.{IpAddr}
use Rattle.std.specs.declared.net.ip_addr.IpAddr.TheVariants as Ip
use Rattle.std.specs.Net.Addr.{ipv4_octets, ipv6_segments}
use Rattle.std.specs.Net.Grammar.{IsDotted, IsColonHex, IsIpText}
use Rattle.std.specs.Net.Reader.{Read, read_socket_v4, read_socket_v6, read_ipv4, read_ipv6, whole_value}
use Rattle.std.proofs.NetLemmas.Ipv4.{read_ipv4_sound, read_ipv4_complete}
use Rattle.std.proofs.NetLemmas.Ipv6.{read_ipv6_sound, read_ipv6_complete, EndsGroups-nil}
use Rattle.std.proofs.NetLemmas.Options.{same_parts}
use Rattle.std.proofs.NetLemmas.Sockets.{read_socket_v4_sound, read_socket_v4_complete, read_socket_v6_sound, read_socket_v6_complete}
use Rattle.std.proofs.NetLemmas.Theorems.{IsSocketText_unique, IsIpText_unique}

-- what is in a text that spells an address of either version
abbrev Parts4 : Type 0
Parts4 = List ℕ × ℕ

abbrev Parts6 : Type 0
Parts6 = List ℕ × ℕ × ℕ × ℕ

abbrev v4_of : Parts4 → SocketAddrV4
v4_of p = record { ip = record { octets = p.0 }; port = p.1 }

abbrev v6_of : Parts6 → SocketAddrV6
v6_of p = record { ip = record { segments = p.0 }; port = p.1; flowinfo = p.2; scope_id = p.3 }

-- a text spells this address of the version, or none of that version
abbrev Told4 : List ℕ → Option Parts4 → Type 0
Told4 text None = (a : SocketAddrV4) → ¬ (IsSocketV4Text text a)
Told4 text (Some p) = IsSocketV4Text text (v4_of p)

abbrev Told6 : List ℕ → Option Parts6 → Type 0
Told6 text None = (a : SocketAddrV6) → ¬ (IsSocketV6Text text a)
Told6 text (Some p) = IsSocketV6Text text (v6_of p)

told4 : (text : List ℕ) (r : Read Parts4) → read_socket_v4 text ≡ r → Told4 text (whole_value r)
told4 text None e = λ a h. none-some _ (sym e ∙ read_socket_v4_complete text a h)
told4 text (Some (p, [])) e =
    let (front, split, spells) = read_socket_v4_sound text [] (v4_of p) e in
    subst (λ t. IsSocketV4Text t (v4_of p)) (sym (split ∙ append-nil front)) spells
told4 text (Some (p, c ∷ rest)) e =
    rw (ne_eqb (length (c ∷ rest)) 0 (omega arith)) λ a h.
    let left = (same_parts _ _ _ _ (sym e ∙ read_socket_v4_complete text a h)).1 in
    cc

told6 : (text : List ℕ) (r : Read Parts6) → read_socket_v6 text ≡ r → Told6 text (whole_value r)
told6 text None e = λ a h. none-some _ (sym e ∙ read_socket_v6_complete text a h)
told6 text (Some (p, [])) e =
    let (front, split, spells) = read_socket_v6_sound text [] (v6_of p) e in
    subst (λ t. IsSocketV6Text t (v6_of p)) (sym (split ∙ append-nil front)) spells
told6 text (Some (p, c ∷ rest)) e =
    rw (ne_eqb (length (c ∷ rest)) 0 (omega arith)) λ a h.
    let left = (same_parts _ _ _ _ (sym e ∙ read_socket_v6_complete text a h)).1 in
    cc

-- an address of the first version, else one of the other
abbrev either : Option Parts4 → Option Parts6 → Option SocketAddr
either (Some p) q = Some (V4 (v4_of p))
either None (Some q) = Some (V6 (v6_of q))
either None None = None

either-sound : (text : List ℕ) (o : Option Parts4) (q : Option Parts6) → Told4 text o → Told6 text q → (a : SocketAddr) → either o q ≡ Some a → IsSocketText text a
either-sound text (Some p) q h k a e = subst (IsSocketText text) (same_Some _ a e) h
either-sound text None (Some q) h k a e = subst (IsSocketText text) (same_Some _ a e) k
either-sound text None None h k a e = absurd (none-some a e)

either-complete : (text : List ℕ) (o : Option Parts4) (q : Option Parts6) → Told4 text o → Told6 text q → (a : SocketAddr) → IsSocketText text a → either o q ≡ Some a
either-complete text (Some p) q h k a s = ap Some (IsSocketText_unique text (V4 (v4_of p)) a h s)
either-complete text None (Some q) h k (V4 a) s = absurd (h a s)
either-complete text None (Some q) h k (V6 a) s = ap Some (IsSocketText_unique text (V6 (v6_of q)) (V6 a) k s)
either-complete text None None h k (V4 a) s = absurd (h a s)
either-complete text None None h k (V6 a) s = absurd (k a s)

abbrev told : List ℕ → Option SocketAddr
told text = either (whole_value (read_socket_v4 text)) (whole_value (read_socket_v6 text))

told-sound : (text : List ℕ) (a : SocketAddr) → told text ≡ Some a → IsSocketText text a
told-sound text a e =
    either-sound text (whole_value (read_socket_v4 text)) (whole_value (read_socket_v6 text))
    (told4 text (read_socket_v4 text) refl) (told6 text (read_socket_v6 text) refl) a e

told-complete : (text : List ℕ) (a : SocketAddr) → IsSocketText text a → told text ≡ Some a
told-complete text a s =
    either-complete text (whole_value (read_socket_v4 text)) (whole_value (read_socket_v6 text))
    (told4 text (read_socket_v4 text) refl) (told6 text (read_socket_v6 text) refl) a s

-- ---- without a port

abbrev ToldHost4 : List ℕ → Option (List ℕ) → Type 0
ToldHost4 text None = (octets : List ℕ) → ¬ (IsDotted text octets)
ToldHost4 text (Some octets) = IsDotted text octets

abbrev ToldHost6 : List ℕ → Option (List ℕ) → Type 0
ToldHost6 text None = (segments : List ℕ) → ¬ (IsColonHex text segments)
ToldHost6 text (Some segments) = IsColonHex text segments

whole4 : (text octets : List ℕ) → IsDotted text octets → read_ipv4 text ≡ Some (octets, [])
whole4 text octets h = subst (λ t. read_ipv4 t ≡ Some (octets, [])) (append-nil text) (read_ipv4_complete text octets [] h (omega arith))

whole6 : (text segments : List ℕ) → IsColonHex text segments → read_ipv6 text ≡ Some (segments, [])
whole6 text segments h = subst (λ t. read_ipv6 t ≡ Some (segments, [])) (append-nil text) (read_ipv6_complete text segments [] h EndsGroups-nil)

told_host4 : (text : List ℕ) (r : Read (List ℕ)) → read_ipv4 text ≡ r → ToldHost4 text (whole_value r)
told_host4 text None e = λ octets h. none-some _ (sym e ∙ whole4 text octets h)
told_host4 text (Some (p, [])) e =
    let (front, split, spells) = read_ipv4_sound text p [] e in
    subst (λ t. IsDotted t p) (sym (split ∙ append-nil front)) spells
told_host4 text (Some (p, c ∷ rest)) e =
    rw (ne_eqb (length (c ∷ rest)) 0 (omega arith)) λ octets h.
    let left = (same_parts _ _ _ _ (sym e ∙ whole4 text octets h)).1 in
    cc

told_host6 : (text : List ℕ) (r : Read (List ℕ)) → read_ipv6 text ≡ r → ToldHost6 text (whole_value r)
told_host6 text None e = λ segments h. none-some _ (sym e ∙ whole6 text segments h)
told_host6 text (Some (p, [])) e =
    let (front, split, spells) = read_ipv6_sound text p [] e in
    subst (λ t. IsColonHex t p) (sym (split ∙ append-nil front)) spells
told_host6 text (Some (p, c ∷ rest)) e =
    rw (ne_eqb (length (c ∷ rest)) 0 (omega arith)) λ segments h.
    let left = (same_parts _ _ _ _ (sym e ∙ whole6 text segments h)).1 in
    cc

abbrev host_of4 : List ℕ → IpAddr
host_of4 octets = Ip.V4 (record { octets = octets })

abbrev host_of6 : List ℕ → IpAddr
host_of6 segments = Ip.V6 (record { segments = segments })

abbrev either_host : Option (List ℕ) → Option (List ℕ) → Option IpAddr
either_host (Some p) q = Some (host_of4 p)
either_host None (Some q) = Some (host_of6 q)
either_host None None = None

host-sound : (text : List ℕ) (o q : Option (List ℕ)) → ToldHost4 text o → ToldHost6 text q → (a : IpAddr) → either_host o q ≡ Some a → IsIpText text a
host-sound text (Some p) q h k a e = subst (IsIpText text) (same_Some _ a e) h
host-sound text None (Some q) h k a e = subst (IsIpText text) (same_Some _ a e) k
host-sound text None None h k a e = absurd (none-some a e)

host-complete : (text : List ℕ) (o q : Option (List ℕ)) → ToldHost4 text o → ToldHost6 text q → (a : IpAddr) → IsIpText text a → either_host o q ≡ Some a
host-complete text (Some p) q h k a s = ap Some (IsIpText_unique text (host_of4 p) a h s)
host-complete text None (Some q) h k (Ip.V4 a) s = absurd (h (ipv4_octets a) s)
host-complete text None (Some q) h k (Ip.V6 a) s = ap Some (IsIpText_unique text (host_of6 q) (Ip.V6 a) k s)
host-complete text None None h k (Ip.V4 a) s = absurd (h (ipv4_octets a) s)
host-complete text None None h k (Ip.V6 a) s = absurd (k (ipv6_segments a) s)

abbrev told_host : List ℕ → Option IpAddr
told_host text = either_host (whole_value (read_ipv4 text)) (whole_value (read_ipv6 text))

told_host-sound : (text : List ℕ) (a : IpAddr) → told_host text ≡ Some a → IsIpText text a
told_host-sound text a e =
    host-sound text (whole_value (read_ipv4 text)) (whole_value (read_ipv6 text)) (told_host4 text (read_ipv4 text) refl) (told_host6 text (read_ipv6 text) refl) a e

told_host-complete : (text : List ℕ) (a : IpAddr) → IsIpText text a → told_host text ≡ Some a
told_host-complete text a s =
    host-complete text (whole_value (read_ipv4 text)) (whole_value (read_ipv6 text)) (told_host4 text (read_ipv4 text) refl) (told_host6 text (read_ipv6 text) refl) a s

pub spelling : Spelling
spelling = record {
  address = told;
  sound = told-sound;
  complete = told-complete;
  host = told_host;
  host_sound = told_host-sound;
  host_complete = told_host-complete;
}
