-- What an endpoint draws and signs under keys, by `sctp_cookie`.
use Rattle.std.specs.Prelude.{ℕ, zero, suc, ◌^◌, Bool, ◌&&◌, List, [], ◌∷◌, Option, Some, None, nat_lt}
use Rattle.std.specs.Prelude.{if◌then◌else◌}
use Rattle.std.specs.Str.{bytes_eq}
use Rattle.sctp_cookie.specs.declared.cookie.Cookie.{Cookie}
use Rattle.sctp_cookie.specs.Cookies.{signed, cookie_in}
use Rattle.sctp_cookie.specs.Nonces.{nonce_of}
use Rattle.sctp_cookie.specs.Tags.{Drawing, first_drawing, next_tag, after_draw}
use Rattle.sctp_rules.specs.Settings.{Beginning, Secrets}
use Rattle.sctp_rules.specs.WrittenPackets.{AreFit}
use Rattle.sctp_ends.specs.Shown.{AreGood}

-- what tags are drawn from after this many draws
unfoldable pub drawing_after : (key : List ℕ) → ℕ → Drawing
drawing_after key zero = first_drawing key
drawing_after key (suc n) = after_draw (drawing_after key n)

-- the first TSN may be the tag (RFC 9260 §3.3.2)
abbrev pub beginning_of : Option ℕ → Option Beginning
beginning_of None = None
beginning_of (Some tag) = Some (record { tag = tag; first = tag })

-- each field has as many bits as its octets
abbrev pub does_fit : Cookie → Bool
does_fit c =
    nat_lt c.made (2 ^ 64)
    && (nat_lt c.generation (2 ^ 64)
    && (nat_lt c.own_tag (2 ^ 32)
    && (nat_lt c.peer_tag (2 ^ 32)
    && (nat_lt c.own_first_tsn (2 ^ 32)
    && (nat_lt c.peer_first_tsn (2 ^ 32)
    && (nat_lt c.peer_window (2 ^ 32)
    && (nat_lt c.peer_outgoing_streams (2 ^ 16)
    && (nat_lt c.peer_incoming_streams (2 ^ 16)
    && (nat_lt c.tie_own_tag (2 ^ 32)
    && (nat_lt c.tie_peer_tag (2 ^ 32)
    && (nat_lt c.life (2 ^ 32)
    && nat_lt c.peer_port (2 ^ 16))))))))))))

-- a cookie that doesn't fit isn't signed
abbrev pub signed_under : (key : List ℕ) → Cookie → List ℕ
signed_under key c = if does_fit c then signed key c else []

abbrev pub opened_under : (key octets : List ℕ) → Option Cookie
opened_under key [] = None
opened_under key (octet ∷ octets) =
    let c = cookie_in (octet ∷ octets) in
    if does_fit c && bytes_eq (octet ∷ octets) (signed key c) then Some c else None

abbrev pub keyed : (tag_key cookie_key : List ℕ) → Secrets
keyed tag_key cookie_key = record {
  beginning = λ n. beginning_of (next_tag (drawing_after tag_key n));
  nonce = nonce_of cookie_key;
  signed = signed_under cookie_key;
  cookie_in = opened_under cookie_key;
}

abbrev pub keyed_secrets_are_good : Type 0
keyed_secrets_are_good = (tag_key cookie_key : List ℕ) → AreGood (keyed tag_key cookie_key)

-- and as many bits as on the wire are enough for it
abbrev pub keyed_secrets_fit : Type 0
keyed_secrets_fit = (tag_key cookie_key : List ℕ) → AreFit (keyed tag_key cookie_key)
