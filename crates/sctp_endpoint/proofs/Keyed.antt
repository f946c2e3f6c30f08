-- Cookies that are signed, and opened, under a key.
use Rattle.std.proofs.Common.{◌≡◌, ℕ, ◌^◌, Bool, true, false, List, [], ◌∷◌, length, Option, Some, None, refl, sym, ap, ◌∙◌, length-append, arith}
use Rattle.std.specs.Prelude.{◌&&◌, if◌then◌else◌, IfSome}
use Rattle.std.specs.Str.{bytes_eq}
use Rattle.std.proofs.lemmas.Bool.{lt-ltb}
use Rattle.std.proofs.lemmas.Slice.Eq.{bytes_eq-Decides}
use Rattle.sctp_cookie.specs.declared.cookie.Cookie.{Cookie}
use Rattle.sctp_cookie.specs.Hmac.{hmac}
use Rattle.sctp_cookie.specs.Cookies.{Fits, IsSigned, body_of, signed, cookie_in, opened}
use Rattle.sctp_cookie.proofs.CookieTexts.{length-hmac, cookie_in-signed}
use Rattle.sctp_ends.specs.Keyed.{does_fit, signed_under, opened_under}

does-fit : (c : Cookie) → Fits c → does_fit c ≡ true
does-fit c f =
    rw (
      lt-ltb c.made (2 ^ 64) f.made,
      lt-ltb c.generation (2 ^ 64) f.generation,
      lt-ltb c.own_tag (2 ^ 32) f.own_tag,
      lt-ltb c.peer_tag (2 ^ 32) f.peer_tag,
      lt-ltb c.own_first_tsn (2 ^ 32) f.own_first_tsn,
      lt-ltb c.peer_first_tsn (2 ^ 32) f.peer_first_tsn,
      lt-ltb c.peer_window (2 ^ 32) f.peer_window,
      lt-ltb c.peer_outgoing_streams (2 ^ 16) f.peer_outgoing_streams,
      lt-ltb c.peer_incoming_streams (2 ^ 16) f.peer_incoming_streams,
      lt-ltb c.tie_own_tag (2 ^ 32) f.tie_own_tag,
      lt-ltb c.tie_peer_tag (2 ^ 32) f.tie_peer_tag,
      lt-ltb c.life (2 ^ 32) f.life,
      lt-ltb c.peer_port (2 ^ 16) f.peer_port,
    ) refl

-- a cookie that fits is signed
pub signed-kept : (key : List ℕ) (c : Cookie) → Fits c → signed key c ≡ signed_under key c
signed-kept key c f = rw (does-fit c f) refl

-- what was signed opens
opened-signed : (key octets : List ℕ) (c : Cookie) → IsSigned key octets c → opened_under key octets ≡ Some c
opened-signed key [] c s =
    let whole = ap length s.octets_are ∙ length-append (hmac key (body_of c)) (body_of c) in
    absurd (omega (arith, whole, length-hmac key (body_of c)))
opened-signed key (octet ∷ octets) c s =
    let back : cookie_in (octet ∷ octets) ≡ c =
    ap cookie_in s.octets_are ∙ cookie_in-signed (hmac key (body_of c)) c (length-hmac key (body_of c)) s.fits in
    rw (back, does-fit c s.fits, (bytes_eq-Decides (octet ∷ octets) (signed key c)).1 s.octets_are) refl

none-by : (fit same : Bool) (c : Cookie) → (if same then Some c else None) ≡ None → (if fit && same then Some c else None) ≡ None
none-by fit true c e = absurd (cc)
none-by true false c e = refl
none-by false false c e = refl

none-opened : (key octets : List ℕ) → opened key octets ≡ None → opened_under key octets ≡ None
unfolding opened
none-opened key [] e = refl
none-opened key (octet ∷ octets) e =
    let c : Cookie = cookie_in (octet ∷ octets) in
    none-by (does_fit c) (bytes_eq (octet ∷ octets) (signed key c)) c e

-- what opens, and what doesn't
pub opened-kept : (key octets : List ℕ) (found : Option Cookie) → IfSome found (λ c. IsSigned key octets c) → found ≡ opened key octets → found ≡ opened_under key octets
opened-kept key octets (Some c) s e = sym (opened-signed key octets c s)
opened-kept key octets None s e = sym (none-opened key octets (sym e))
