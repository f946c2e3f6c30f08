-- The octets of a cookie say its fields.
use Rattle.std.proofs.Common.{◌≡◌, ℕ, ◌+◌, Bool, true, false, cond, Option, Some, None, List, ◌++◌, length, take, drop, refl, sym, ap, ◌∙◌, length-append, arith}
use Rattle.std.proofs.lemmas.Nat.{from_be_bytes-to_be_bytes_2, from_be_bytes-to_be_bytes_4, from_be_bytes-to_be_bytes_8}
use Rattle.std.proofs.lemmas.List.{drop_at, drop-drop}
use Rattle.std.proofs.lemmas.Slice.Eq.{bytes_eq-Decides}
use Rattle.std.specs.Str.{bytes_eq}
use Rattle.sha2.proofs.Facts256.{length-sha256}
use Rattle.sctp_cookie.specs.declared.cookie.Cookie.{Cookie}
use Rattle.sctp_cookie.specs.Hmac.{hmac}
use Rattle.sctp_cookie.specs.Cookies.{Fits, body_of, signed, IsSigned, cookie_in, opened}

pub length-hmac : (key text : List ℕ) → length (hmac key text) ≡ 32
unfolding hmac
length-hmac key text = length-sha256 _

pub length-body : (c : Cookie) → length (body_of c) ≡ 56
unfolding body_of
length-body c = refl

pub length-signed : (key : List ℕ) (c : Cookie) → length (signed key c) ≡ 88
length-signed key c = omega (arith, length-append (hmac key (body_of c)) (body_of c), length-hmac key (body_of c), length-body c)

-- what comes after the code
behind : (mac body : List ℕ) (at : ℕ) → length mac ≡ 32 → drop (32 + at) (mac ++ body) ≡ drop at body
behind mac body at e = sym (drop-drop at 32 (mac ++ body)) ∙ ap (drop at) (drop_at mac body 32 e)

pub cookie_in-signed : (mac : List ℕ) (c : Cookie) → length mac ≡ 32 → Fits c → cookie_in (mac ++ body_of c) ≡ c
unfolding cookie_in body_of
cookie_in-signed mac c e f =
    let body = body_of c in
    rw (
      behind mac body 0 e,
      behind mac body 8 e,
      behind mac body 16 e,
      behind mac body 20 e,
      behind mac body 24 e,
      behind mac body 28 e,
      behind mac body 32 e,
      behind mac body 36 e,
      behind mac body 38 e,
      behind mac body 40 e,
      behind mac body 44 e,
      behind mac body 48 e,
      behind mac body 52 e,
      from_be_bytes-to_be_bytes_8 c.made f.made,
      from_be_bytes-to_be_bytes_8 c.generation f.generation,
      from_be_bytes-to_be_bytes_4 c.own_tag f.own_tag,
      from_be_bytes-to_be_bytes_4 c.peer_tag f.peer_tag,
      from_be_bytes-to_be_bytes_4 c.own_first_tsn f.own_first_tsn,
      from_be_bytes-to_be_bytes_4 c.peer_first_tsn f.peer_first_tsn,
      from_be_bytes-to_be_bytes_4 c.peer_window f.peer_window,
      from_be_bytes-to_be_bytes_2 c.peer_outgoing_streams f.peer_outgoing_streams,
      from_be_bytes-to_be_bytes_2 c.peer_incoming_streams f.peer_incoming_streams,
      from_be_bytes-to_be_bytes_4 c.tie_own_tag f.tie_own_tag,
      from_be_bytes-to_be_bytes_4 c.tie_peer_tag f.tie_peer_tag,
      from_be_bytes-to_be_bytes_4 c.life f.life,
      from_be_bytes-to_be_bytes_2 c.peer_port f.peer_port,
    )

-- what is read of the octets of a cookie is that cookie
pub only_read : (key octets array : List ℕ) (c found : Cookie) → IsSigned key octets c → array ≡ octets → found ≡ cookie_in array → found ≡ c
only_read key octets array c found h same e =
    e ∙ ap cookie_in (same ∙ h.octets_are) ∙ cookie_in-signed (hmac key (body_of c)) c (length-hmac key (body_of c)) h.fits

-- one more piece was written
pub grown : (out old front octets piece : List ℕ) (n m : ℕ) → take n out ≡ take m old ++ octets → take m old ≡ front → octets ≡ piece → take n out ≡ front ++ piece
grown out old front octets piece n m text before same = cc

-- ---- what octets open as

not_so : (b : Bool) → (b ≡ true → ⊥) → b ≡ false
not_so true never = absurd (never refl)
not_so false never = refl

pub unlike : (xs ys : List ℕ) → (xs ≡ ys → ⊥) → bytes_eq xs ys ≡ false
unlike xs ys never = not_so (bytes_eq xs ys) (λ e. never ((bytes_eq-Decides xs ys).0 e))

pub opened-other : (key octets : List ℕ) → (octets ≡ signed key (cookie_in octets) → ⊥) → None ≡ opened key octets
unfolding opened
opened-other key octets never = ap (λ (b : Bool). cond b (Some (cookie_in octets)) None) (sym (unlike octets (signed key (cookie_in octets)) never))

pub opened-same : (key octets : List ℕ) (found : Cookie) → found ≡ cookie_in octets → octets ≡ signed key (cookie_in octets) → Some found ≡ opened key octets
unfolding opened
opened-same key octets found e same =
    ap Some e ∙ ap (λ (b : Bool). cond b (Some (cookie_in octets)) None) (sym ((bytes_eq-Decides octets (signed key (cookie_in octets))).1 same))
