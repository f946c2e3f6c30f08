-- A datagram that is heard by one of the links.
use Rattle.std.proofs.Common.{◌≡◌, ◌∙◌, ℕ, true, List, Some, ap, get_or}
use Rattle.std.proofs.lemmas.Option.{get_or_from_slice_get}
use Rattle.std.specs.Prelude.{slice_get, slice_set}
use Rattle.std.specs.declared.net.socket_addr.SocketAddr.{SocketAddr}
use Rattle.exchange.specs.Calls.{Kept}
use Rattle.exchange.specs.KeptQueues.{kept}
use Rattle.sctp_links.specs.declared.peers.Peer.{Peer}
use Rattle.sctp_links.specs.Links.{Link, Links}
use Rattle.sctp_links.specs.Screening.{screened, is_left_out, did_at, heard_link}

abbrev pub among : List Peer → List Link → Links
among peers links = record { peers = peers; links = links }

-- the link at a place was heard with, and what became of it is there now
module _ (now : ℕ) (octets : List ℕ) (source : SocketAddr) (peers : List Peer) (links : List Link) (found place : ℕ) (x l n : Link) (s t : Kept)
    (same : found ≡ place) (held : slice_get links place ≡ Some l) (value : (d : Link) → x ≡ get_or links found d) where
  link-is : x ≡ l
  link-is = value l ∙ ap (λ (i : ℕ). get_or links i l) same ∙ get_or_from_slice_get links place l l held

  pub links-heard : n ≡ heard_link kept now octets source x s
      → record { peers = peers; links = slice_set links found n } ≡ among peers (slice_set links place (heard_link kept now octets source l s))
  links-heard h =
      ap (λ (y : Link). among peers (slice_set links found y)) (h ∙ ap (λ (y : Link). heard_link kept now octets source y s) link-is)
      ∙ ap (λ (i : ℕ). among peers (slice_set links i (heard_link kept now octets source l s))) same

  pub exchange-among : t ≡ (did_at kept now octets source x s).exchange → t ≡ (did_at kept now octets source l s).exchange
  exchange-among h = h ∙ ap (λ (y : Link). (did_at kept now octets source y s).exchange) link-is

  pub left-among : {D : Type 0} (before after : D) → (is_left_out (screened now octets source x) ≡ true → after ≡ before)
      → is_left_out (screened now octets source l) ≡ true → after ≡ before
  left-among before after h out = h (ap (λ (y : Link). is_left_out (screened now octets source y)) link-is ∙ out)
