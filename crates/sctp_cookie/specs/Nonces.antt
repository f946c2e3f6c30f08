-- The numbers of heartbeats, by which an endpoint knows what answers them (RFC 9260 §5.4, §8.3).
use Rattle.std.specs.Prelude.{ℕ, List, take}
use Rattle.std.specs.Int.{w64, to_be_bytes, from_be_bytes}
use Rattle.sctp_cookie.specs.Hmac.{hmac}

-- the number of the next heartbeat after so many: the first eight octets of the code of this count
unfoldable pub nonce_of : (key : List ℕ) (count : ℕ) → ℕ
nonce_of key count = from_be_bytes w64 (take 8 (hmac key (to_be_bytes w64 count)))
