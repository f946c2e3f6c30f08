-- The state cookie: what it says, and the 88 octets that say it (RFC 9260 §5.1.3).
use Rattle.std.specs.Prelude.{◌≡◌, ℕ, ◌<◌, ◌^◌, List, [], ◌∷◌, ◌++◌, take, drop, Option, Some, None}
use Rattle.std.specs.Prelude.{if◌then◌else◌}
use Rattle.std.specs.Str.{bytes_eq}
use Rattle.std.specs.Int.{w16, w32, w64, to_be_bytes, from_be_bytes}
use Rattle.sctp_cookie.specs.declared.cookie.Cookie.{Cookie}
use Rattle.sctp_cookie.specs.Hmac.{hmac}

-- each field has as many bits as its octets
pub record Fits (c : Cookie) : Type 0 where
  pub made : c.made < 2 ^ 64
  pub generation : c.generation < 2 ^ 64
  pub own_tag : c.own_tag < 2 ^ 32
  pub peer_tag : c.peer_tag < 2 ^ 32
  pub own_first_tsn : c.own_first_tsn < 2 ^ 32
  pub peer_first_tsn : c.peer_first_tsn < 2 ^ 32
  pub peer_window : c.peer_window < 2 ^ 32
  pub peer_outgoing_streams : c.peer_outgoing_streams < 2 ^ 16
  pub peer_incoming_streams : c.peer_incoming_streams < 2 ^ 16
  pub tie_own_tag : c.tie_own_tag < 2 ^ 32
  pub tie_peer_tag : c.tie_peer_tag < 2 ^ 32
  pub life : c.life < 2 ^ 32
  pub peer_port : c.peer_port < 2 ^ 16

-- the 56 octets that are signed: the fields in this order, and two zeros
unfoldable pub body_of : Cookie → List ℕ
body_of c =
    to_be_bytes w64 c.made
    ++ to_be_bytes w64 c.generation
    ++ to_be_bytes w32 c.own_tag
    ++ to_be_bytes w32 c.peer_tag
    ++ to_be_bytes w32 c.own_first_tsn
    ++ to_be_bytes w32 c.peer_first_tsn
    ++ to_be_bytes w32 c.peer_window
    ++ to_be_bytes w16 c.peer_outgoing_streams
    ++ to_be_bytes w16 c.peer_incoming_streams
    ++ to_be_bytes w32 c.tie_own_tag
    ++ to_be_bytes w32 c.tie_peer_tag
    ++ to_be_bytes w32 c.life
    ++ to_be_bytes w16 c.peer_port
    ++ (0 ∷ 0 ∷ [])

-- the octets of a cookie under a key: the code of the body, and the body
abbrev pub signed : (key : List ℕ) → Cookie → List ℕ
signed key c = hmac key (body_of c) ++ body_of c

-- the octets are those of this cookie under this key
pub record IsSigned (key octets : List ℕ) (c : Cookie) : Type 0 where
  pub fits : Fits c
  pub octets_are : octets ≡ signed key c

-- ---- the fields by their places

abbrev pub number64 : (octets : List ℕ) (at : ℕ) → ℕ
number64 octets at = from_be_bytes w64 (take 8 (drop at octets))

abbrev pub number32 : (octets : List ℕ) (at : ℕ) → ℕ
number32 octets at = from_be_bytes w32 (take 4 (drop at octets))

abbrev pub number16 : (octets : List ℕ) (at : ℕ) → ℕ
number16 octets at = from_be_bytes w16 (take 2 (drop at octets))

-- what octets say as a cookie, whatever their code
unfoldable pub cookie_in : List ℕ → Cookie
cookie_in octets = record {
  made = number64 octets 32;
  generation = number64 octets 40;
  own_tag = number32 octets 48;
  peer_tag = number32 octets 52;
  own_first_tsn = number32 octets 56;
  peer_first_tsn = number32 octets 60;
  peer_window = number32 octets 64;
  peer_outgoing_streams = number16 octets 68;
  peer_incoming_streams = number16 octets 70;
  tie_own_tag = number32 octets 72;
  tie_peer_tag = number32 octets 76;
  life = number32 octets 80;
  peer_port = number16 octets 84;
}

-- the cookie that octets are under a key, if they are those of one
unfoldable pub opened : (key octets : List ℕ) → Option Cookie
opened key octets = if bytes_eq octets (signed key (cookie_in octets)) then Some (cookie_in octets) else None
