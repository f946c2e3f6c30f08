-- How often associations open, with any peer; and packets with another tag.
use Rattle.std.specs.Prelude.{◌≡◌, ◌≢◌, ◌≤◌, ℕ, ◌+◌, Bool, true, false, List, [], ◌∷◌}
use Rattle.sctp_cookie.specs.declared.cookie.Cookie.{Cookie}
use Rattle.sctp_codec.specs.Packets.{ChunkValue, PacketValue, InitValue, InitChunk, InitAckChunk, CookieEchoChunk}
use Rattle.sctp_rules.specs.declared.phase.Phase.TheVariants.{CookieWait}
use Rattle.sctp_rules.specs.Settings.{Settings, Secrets, Address}
use Rattle.sctp_rules.specs.State.{State, Done, Told, Up, Heard, Down, Failed, silent, first_state}
use Rattle.sctp_rules.specs.Opening.{is_there, heard_cookie}
use Rattle.sctp_rules.specs.Packets.{heard, has_peer_tag}
use Rattle.sctp_rules.specs.Endpoint.{Happening, after_all}

-- how often Up was told
abbrev pub openings : List Told → ℕ
openings [] = 0
openings (Up ∷ more) = openings more + 1
openings (Heard message ∷ more) = openings more
openings (Down why ∷ more) = openings more
openings (Failed why ∷ more) = openings more

-- from any moment on, the generation grows at least by as many as associations open: it never falls, and is another one
-- after each that opened
abbrev pub generations_grow : Type 0
generations_grow =
    (c : Settings) (k : Secrets) (before happenings : List Happening) →
    let s = (after_all c k before (first_state c)).left in
    s.generation + openings (after_all c k happenings s).told ≤ (after_all c k happenings s).left.generation

-- and a cookie opens only in its own generation
abbrev pub cookies_open_in_their_generation : Type 0
cookies_open_in_their_generation =
    (c : Settings) (k : Secrets) (now : ℕ) (source : Address) (cookie : Cookie) (s : State) →
    cookie.generation ≢ s.generation →
    openings (heard_cookie c k now source cookie s).does.told ≡ 0

-- nothing changes, and the user is told nothing
pub record IsStill (s : State) (d : Done) : Type 0 where
  pub told : d.told ≡ []
  pub left : d.left ≡ s

-- an INIT is answered at most: whoever sent it, and whatever it says. So nobody who doesn't hear the answers opens an
-- association, ends one or the try of one, or uses up a tag
abbrev pub inits_change_nothing : Type 0
inits_change_nothing =
    (c : Settings) (k : Secrets) (now : ℕ) (source : Address) (p : PacketValue) (init : InitValue)
    (more : List ChunkValue) (s : State) → p.chunks ≡ InitChunk init ∷ more → IsStill s (heard c k now source p s)

-- INIT and COOKIE ECHO, which have tags of their own
abbrev pub has_own_rule : ChunkValue → Bool
has_own_rule (InitChunk init) = true
has_own_rule (CookieEchoChunk cookie) = true
has_own_rule chunk = false

-- any other packet with another tag than this end's changes nothing while there is an association, unless its first
-- chunk says that the tag is the peer's
abbrev pub other_tags_are_dropped : Type 0
other_tags_are_dropped =
    (c : Settings) (k : Secrets) (now : ℕ) (source : Address) (p : PacketValue) (first : ChunkValue)
    (more : List ChunkValue) (s : State) →
    p.chunks ≡ first ∷ more → has_own_rule first ≡ false → has_peer_tag first ≡ false →
    is_there s.association.phase ≡ true → p.tag ≢ s.association.own_tag → heard c k now source p s ≡ silent s

-- in COOKIE-WAIT a peer may answer from any address: where an INIT ACK comes from changes nothing
abbrev pub answers_come_from_anywhere : Type 0
answers_come_from_anywhere =
    (c : Settings) (k : Secrets) (now : ℕ) (source other : Address) (p : PacketValue) (init : InitValue) (s : State) →
    s.association.phase ≡ CookieWait → p.chunks ≡ InitAckChunk init ∷ [] →
    heard c k now source p s ≡ heard c k now other p s
