-- INIT ACK, and what it has; host names.
use Rattle.std.proofs.Common.{◌≡◌, ◌+◌, ◌<◌, ◌≤◌, ◌^◌, ℕ, List, [], ◌∷◌, length, sum_by, refl, sym, subst, arith}
use Rattle.std.proofs.lemmas.Bool.{le-leb}
use Rattle.std.specs.declared.net.ip_addr.IpAddr.{IpAddr}
use Rattle.sctp_codec.specs.Items.{ItemValue, joined_items}
use Rattle.sctp_codec.specs.Packets.{ChunkValue, InitChunk, InitAckChunk}
use Rattle.sctp_codec.specs.Parameters.{UnresolvableAddress, listing, answering}
use Rattle.sctp_codec.specs.Writing.{IsChunk}
use Rattle.sctp_codec.proofs.AddressTexts.{init-size, listing-items, listing-size}
use Rattle.sctp_codec.specs.Values.{offer_with}
use Rattle.sctp_codec.specs.declared.chunk.Offer.{Offer}
use Rattle.sctp_rules.specs.State.{Told}
use Rattle.sctp_rules.specs.Opening.{no_address}
use Rattle.sctp_bundling.specs.Replies.{size_of}
use Rattle.sctp_bundling.specs.Watching.{Sent, Puts}
use Rattle.sctp_bundling.specs.Ways.{Way, packet_on}

pub answer-put : {W : Type 0} (has : W → List Sent → List Told → Type 0) (before after : W) (x y : Way) (o p : Offer) (a b : List IpAddr) (k l : List ℕ) (items : List ItemValue) → x ≡ y → o ≡ p → a ≡ b → k ≡ l
    → Puts has before after (packet_on x (InitAckChunk (offer_with o (answering a k items)) ∷ []) ∷ [])
    → Puts has before after (packet_on y (InitAckChunk (offer_with p (answering b l items)) ∷ []) ∷ [])
answer-put has before after x y o p a b k l items ex eo ea ek h =
    subst (λ (w : Way). Puts has before after (packet_on w (InitAckChunk (offer_with p (answering b l items)) ∷ []) ∷ [])) ex
    (subst (λ (v : Offer). Puts has before after (packet_on x (InitAckChunk (offer_with v (answering b l items)) ∷ []) ∷ [])) eo
    (subst (λ (those : List IpAddr). Puts has before after (packet_on x (InitAckChunk (offer_with o (answering those l items)) ∷ []) ∷ [])) ea
    (subst (λ (t : List ℕ). Puts has before after (packet_on x (InitAckChunk (offer_with o (answering a t items)) ∷ []) ∷ [])) ek h)))

-- INIT with the addresses of this end
pub init-chunk : (o : Offer) (tag : ℕ) (addresses : List IpAddr) → o ≡ record { tag = tag; window = 65536; outgoing = 2; incoming = 2; first_tsn = tag } → tag < 2 ^ 32
    → IsChunk (InitChunk (offer_with o (listing addresses)))
init-chunk o tag addresses e t =
    let many : length (joined_items (listing addresses)) ≤ 160 = listing-size addresses in
    subst (λ (offer : Offer). IsChunk (InitChunk (offer_with offer (listing addresses)))) (sym e) (record {
      fields = record { tag = t; window = omega arith; outgoing = omega arith; incoming = omega arith; first_tsn = t; parameters = listing-items addresses };
      fits = omega (arith, many);
    })

pub init-room : (chunks : List ChunkValue) (o : Offer) (addresses : List IpAddr) → chunks ≡ [] → sum_by size_of chunks + size_of (InitChunk (offer_with o (listing addresses))) ≤ 1188
init-room chunks o addresses e =
    let size : size_of (InitChunk (offer_with o (listing addresses))) ≤ 180 = init-size (offer_with o (listing addresses)) addresses refl in
    subst (λ (chunks : List ChunkValue). sum_by size_of chunks + size_of (InitChunk (offer_with o (listing addresses))) ≤ 1188) (sym e) (omega (arith, size))

pub short-name : (name : List ℕ) → length name ≤ 255 → no_address name ≡ UnresolvableAddress name
short-name name h = rw (le-leb (length name) 255 h) refl
