-- The settings of an endpoint, and what it draws and signs.
use Rattle.std.specs.Prelude.{ℕ, List, Option}
use Rattle.std.specs.declared.net.ip_addr.IpAddr.{IpAddr}
use Rattle.sctp_cookie.specs.declared.cookie.Cookie.{Cookie}
use Rattle.sctp_sending.specs.declared.bounds.Bounds.{Bounds}

-- where datagrams go, and come from
pub record Address : Type 0 where
  pub host : List ℕ
  pub port : ℕ

-- times in milliseconds (RFC 9260 §16)
pub record Settings : Type 0 where
  -- the SCTP port of this end, and that of the peer
  pub own_port : ℕ
  pub far_port : ℕ
  -- where the peer is, until a packet of it comes
  pub address : Address
  -- the addresses of this end that its INIT and INIT ACK list; none: those that its packets come from
  pub addresses : List IpAddr
  -- RTO.Initial, RTO.Min, RTO.Max
  pub bounds : Bounds
  -- Max.Init.Retransmits, Association.Max.Retrans
  pub init_retransmissions : ℕ
  pub retransmissions : ℕ
  -- HB.interval, Valid.Cookie.Life
  pub heartbeat : ℕ
  pub cookie_life : ℕ

-- what this end begins an association with
pub record Beginning : Type 0 where
  pub tag : ℕ
  pub first : ℕ

-- what an endpoint draws, and how it signs
pub record Secrets : Type 0 where
  -- the tags and first TSNs that it draws, one after another; None once no tag is left
  pub beginning : ℕ → Option Beginning
  -- the numbers of its heartbeats, one after another
  pub nonce : ℕ → ℕ
  -- a cookie, signed; and the cookie that was signed so, if the signature is right
  pub signed : Cookie → List ℕ
  pub cookie_in : List ℕ → Option Cookie
