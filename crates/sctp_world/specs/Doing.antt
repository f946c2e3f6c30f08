-- What is done at an end, as what happens there.
use Rattle.std.specs.Prelude.{ℕ, ◌<◌, ◌^◌, Bool, true, ◌&&◌, nat_lt, nat_le, length}
use Rattle.sctp_codec.specs.Reading.{read_packet}
use Rattle.sctp_sending.specs.Cells.{given_as}
use Rattle.sctp_rules.specs.Endpoint.{Opens, Sends, Aborts, ShutsDown, Ticked, Flushes}
use Rattle.sctp_ends.specs.Worlds as worlds
use Rattle.sctp_bundling.specs.Settings.{address_of}
use Rattle.sctp_endpoint.specs.Endpoints.{secrets_of}
use Rattle.sctp_endpoint.specs.Dispatching.{heard_datagram}
use Rattle.sctp_world.specs.declared.step.Doing.{Doing}
use Rattle.sctp_world.specs.declared.step.Doing.TheVariants.{Open, Send, Abort, ShutDown, Tick, Flush, Hear}
use Rattle.sctp_world.specs.declared.step.End.{End}
use Rattle.sctp_world.specs.declared.step.End.TheVariants.{Near, Far}
use Rattle.sctp_world.specs.Kept.{KeptSite, kept_happened, with_done, octets_at}
use Rattle.sctp_world.specs.Stands.{IsYoung}

-- what is done at an endpoint; a datagram that comes is one that the other put out
abbrev pub kept_did : Doing → (now : ℕ) → (other : KeptSite) → KeptSite → KeptSite
kept_did (Open is_active) now other k = kept_happened (Opens now is_active) k
kept_did (Send message) now other k = kept_happened (Sends (given_as message)) k
kept_did Abort now other k = kept_happened Aborts k
kept_did ShutDown now other k = kept_happened (ShutsDown now) k
kept_did Tick now other k = kept_happened (Ticked now) k
kept_did Flush now other k = kept_happened (Flushes now) k
kept_did (Hear place source) now other k =
    with_done (heard_datagram (read_packet (octets_at other place)) k.endpoint.settings (secrets_of k.endpoint) now
    (address_of source) k.endpoint.state) k.given k

-- there is such a datagram
abbrev pub is_there : Doing → (other : KeptSite) → Bool
is_there (Hear place source) other = nat_lt place (length other.log.sent)
is_there what other = true

-- whether it is done: in time, at an endpoint that lasts
abbrev pub is_done : Doing → (now : ℕ) → (other : KeptSite) → KeptSite → Bool
is_done what now other k =
    nat_le now (2 ^ 63) && (nat_lt k.endpoint.state.generation (2 ^ 63) && nat_lt k.endpoint.state.nonces (2 ^ 63))
    && is_there what other

-- the numbers of a message have as many bits as on the wire
abbrev pub HasNumbers : Doing → Type 0
HasNumbers (Send message) = message.protocol < 2 ^ 32
HasNumbers what = Unit {0}

-- a datagram that comes isn't too old
abbrev pub MayCome : Doing → KeptSite → worlds.Site → Type 0
MayCome (Hear place source) other site = IsYoung site (octets_at other place)
MayCome what other site = Unit {0}

-- ---- the ends

abbrev pub site_at : End → worlds.World → worlds.Site
site_at Near w = w.near
site_at Far w = w.far

abbrev pub other_site : End → worlds.World → worlds.Site
other_site Near w = w.far
other_site Far w = w.near
