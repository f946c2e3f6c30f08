-- Which INITs are left out before an endpoint hears them.
use Rattle.std.specs.Prelude.{ℕ, Bool, true, false, ◌&&◌, ◌||◌, List, [], ◌∷◌, Option, Some, None, is_some, bytes_eq}
use Rattle.std.specs.Prelude.{nat_eq, slice_index, if◌then◌else◌}
use Rattle.std.specs.declared.net.socket_addr.SocketAddr.{SocketAddr}
use Rattle.sctp_codec.specs.Reading.{read_packet}
use Rattle.exchange_rules.specs.State.{QueueKind, State}
use Rattle.sctp_gate.specs.Gates.{Gate, Did, heard, nothing}
use Rattle.sctp_bundling.specs.Settings as settings
use Rattle.sctp_bundling.specs.declared.address.Address.{Address}
use Rattle.settings_file.specs.declared.serve.sctp.Remote.{Remote}
use Rattle.sctp_links.specs.declared.screening.Screened.{Screened}
use Rattle.sctp_links.specs.declared.screening.Screened.TheVariants.{Heard, OtherPort, TooMany}
use Rattle.sctp_links.specs.Allowances.{may_answer, after_init}
use Rattle.sctp_links.specs.Hosts.{address_of}
use Rattle.sctp_links.specs.Links.{Link}

-- the first chunk is behind the common header of 12 octets, and INIT has the type 1, INIT ACK 2 (RFC 9260 §3.2)
abbrev pub is_init : List ℕ → Bool
is_init octets = nat_eq (slice_index octets 12) 1

abbrev pub is_init_ack : List ℕ → Bool
is_init_ack octets = nat_eq (slice_index octets 12) 2

-- what comes from a host and its UDP port comes from this address
abbrev pub is_at : (source : Address) → SocketAddr → Bool
is_at source place = bytes_eq (address_of place).host source.host && nat_eq (address_of place).port source.port

-- or from one of these, which are kept from the front on
abbrev pub is_at_one : (source : Address) → List (Option SocketAddr) → Bool
is_at_one source [] = false
is_at_one source (None ∷ places) = false
is_at_one source (Some place ∷ places) = is_at source place || is_at_one source places

-- or from where the peer is by the settings
abbrev pub is_told : Remote → (source : Address) → Bool
is_told r source = is_at source r.address || is_at_one source r.others

abbrev pub has_others : List (Option SocketAddr) → Bool
has_others [] = false
has_others (first ∷ places) = is_some first

-- whether an INIT comes from its peer's UDP port. While an association is up, that is the one to which its packets go;
-- and of a peer with several hosts, that of the settings for each. Without one it is that of the settings, or any
abbrev pub is_port_of : Link → (source : Address) → Bool
is_port_of l source =
    if l.gate.standing.is_up
    then nat_eq source.port l.gate.endpoint.state.association.address.port
    || (has_others l.remote.others && is_told l.remote source)
    else (if l.remote.is_port_fixed then is_told l.remote source else true)

-- what comes that is no INIT is heard, and so is an INIT from its peer's port, while it is one of those that are answered
abbrev pub screened : (now : ℕ) → List ℕ → (source : SocketAddr) → Link → Screened
screened now octets source l =
    if is_init octets
    then (if is_port_of l (address_of source)
    then (if may_answer now l.allowance then Heard else TooMany)
    else OtherPort)
    else Heard

abbrev pub is_left_out : Screened → Bool
is_left_out Heard = false
is_left_out OtherPort = true
is_left_out TooMany = true

-- an INIT from its peer's port counts
abbrev pub after_screening : (now : ℕ) → List ℕ → (source : SocketAddr) → Link → Link
after_screening now octets source l = record l {
  allowance = if is_init octets && is_port_of l (address_of source)
      then after_init now l.allowance
      else l.allowance;
}

-- what is left out changes nothing
abbrev pub heard_if :
    {Q : Type 0} → QueueKind Q → Screened → (now : ℕ) → List ℕ → (source : SocketAddr) → Gate → State Q → Did Q
heard_if q Heard now octets source g s = heard q now (read_packet octets) (settings.address_of (address_of source)) g s
heard_if q OtherPort now octets source g s = nothing g s
heard_if q TooMany now octets source g s = nothing g s

-- a datagram of a link comes
abbrev pub did_at : {Q : Type 0} → QueueKind Q → (now : ℕ) → List ℕ → (source : SocketAddr) → Link → State Q → Did Q
did_at q now octets source l s = heard_if q (screened now octets source l) now octets source l.gate s

abbrev pub heard_link : {Q : Type 0} → QueueKind Q → (now : ℕ) → List ℕ → (source : SocketAddr) → Link → State Q → Link
heard_link q now octets source l s =
    record (after_screening now octets source l) { gate = (did_at q now octets source l s).gate }
