-- A datagram that is heard, at its link and among all.
use Rattle.std.proofs.Common.{◌≡◌, ◌∙◌, ℕ, List, Option, ap}
use Rattle.std.specs.declared.net.socket_addr.SocketAddr.{SocketAddr}
use Rattle.sctp_codec.specs.Reading.{read_packet}
use Rattle.sctp_bundling.specs.Settings as settings
use Rattle.sctp_bundling.specs.declared.address.Address.{Address}
use Rattle.exchange.specs.Calls.{Kept}
use Rattle.exchange.specs.KeptQueues.{kept}
use Rattle.sctp_gate.specs.Gates.{heard}
use Rattle.served_link.specs.Counting.{NodeCounters}
use Rattle.served_link.specs.declared.setback.Setback.{Setback}
use Rattle.sctp_links.specs.declared.screening.Screened.{Screened}
use Rattle.sctp_links.specs.declared.screening.Screened.TheVariants.{Heard}
use Rattle.sctp_links.specs.Counting.{counted_did, counted_hearing, counted_setback, refused_at, setback_of}
use Rattle.sctp_links.specs.Hosts.{address_of}
use Rattle.sctp_links.specs.Links.{Link}
use Rattle.sctp_links.specs.Screening.{screened, after_screening, heard_if, did_at, heard_link}

module _ (now : ℕ) (octets : List ℕ) (source : SocketAddr) (from : Address) (l m : Link) (s : Kept)
    (told : from ≡ address_of source) (screening : m ≡ after_screening now octets source l)
    (verdict : Heard ≡ screened now octets source l) where
  pub link-heard : (n : Link)
      → n ≡ record m { gate = (heard kept now (read_packet octets) (settings.address_of from) m.gate s).gate }
      → n ≡ heard_link kept now octets source l s
  link-heard n d =
      d
      ∙ ap (λ (a : Address). record m { gate = (heard kept now (read_packet octets) (settings.address_of a) m.gate s).gate }) told
      ∙ ap (λ (x : Link). record x { gate = (heard kept now (read_packet octets) (settings.address_of (address_of source)) x.gate s).gate }) screening
      ∙ ap (λ (v : Screened). record (after_screening now octets source l) { gate = (heard_if kept v now octets source l.gate s).gate }) verdict

  pub exchange-heard : (t : Kept)
      → t ≡ (heard kept now (read_packet octets) (settings.address_of from) m.gate s).exchange
      → t ≡ (did_at kept now octets source l s).exchange
  exchange-heard t d =
      d
      ∙ ap (λ (a : Address). (heard kept now (read_packet octets) (settings.address_of a) m.gate s).exchange) told
      ∙ ap (λ (x : Link). (heard kept now (read_packet octets) (settings.address_of (address_of source)) x.gate s).exchange) screening
      ∙ ap (λ (v : Screened). (heard_if kept v now octets source l.gate s).exchange) verdict

  pub counters-heard : (refusal : Option Setback) (c noted after : NodeCounters)
      → refusal ≡ refused_at octets m.gate
      → noted ≡ counted_setback m.gate.link refusal c
      → after ≡ counted_did m.gate.link (heard kept now (read_packet octets) (settings.address_of from) m.gate s) noted
      → after ≡ counted_hearing kept now octets source l s c
  counters-heard refusal c noted after why counted d =
      d
      ∙ ap (λ (n : NodeCounters). counted_did m.gate.link (heard kept now (read_packet octets) (settings.address_of from) m.gate s) n) counted
      ∙ ap (λ (r : Option Setback). counted_did m.gate.link (heard kept now (read_packet octets) (settings.address_of from) m.gate s) (counted_setback m.gate.link r c)) why
      ∙ ap (λ (a : Address). counted_did m.gate.link (heard kept now (read_packet octets) (settings.address_of a) m.gate s) (counted_setback m.gate.link (refused_at octets m.gate) c)) told
      ∙ ap (λ (x : Link). counted_did x.gate.link (heard kept now (read_packet octets) (settings.address_of (address_of source)) x.gate s) (counted_setback x.gate.link (refused_at octets x.gate) c)) screening
      ∙ ap (λ (v : Screened). counted_did l.gate.link (heard_if kept v now octets source l.gate s) (counted_setback l.gate.link (setback_of v octets l.gate) c)) verdict
