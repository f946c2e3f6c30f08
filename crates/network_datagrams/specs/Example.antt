-- A run of the three nodes in a row of `network_rules`, over datagrams. A link between points 3 and 1, which is in the
-- middle, opens at point 1 by COOKIE ECHO, and then at point 3 by COOKIE ACK. A link status of point 3 crosses in a
-- datagram that comes twice.
use Rattle.std.specs.Prelude.{◌≡◌, ◌*◌, ℕ, true, false, List, [], ◌∷◌}
use Rattle.link.specs.declared.alignment.Alignment.{Alignment}
use Rattle.link.specs.declared.alignment.Alignment.TheVariants.{NotAligned, Aligned}
use Rattle.exchange_rules.specs.State.{link_at, down}
use Rattle.sctp_rules.specs.Endpoint as endpoint
use Rattle.sctp_rules.specs.Rows.{address}
use Rattle.sctp_ends.specs.Example.{make_from, packet_at}
use Rattle.network_rules.specs.TwoFailures.{row}
use Rattle.node_rules.specs.Worlds.{Make}
use Rattle.network_datagrams.specs.NetworkWorlds.{NetworkWorld, Doing, Associates, Sends, Steps, after, new_world}
use Rattle.network_datagrams.specs.NetworkPromises.{AreJoined}

abbrev pub make : (point : ℕ) → Make
make point = record { configuration = row point; endpoints = λ link. make_from (1000 * point) }

-- ---- the worlds

abbrev pub does : (point : ℕ) → Doing → NetworkWorld → NetworkWorld
does point what w = after make point what w

-- link 0 joins points 3 and 1, and has this number at both: at the moment 10 the latest packet comes to one of them
-- that the other end put out
abbrev pub latest : (from : ℕ) → NetworkWorld → endpoint.Happening
latest from w = endpoint.Came 10 address (packet_at ((w.node from).ports 0).site 0)

abbrev pub hears : (point from : ℕ) → NetworkWorld → NetworkWorld
hears point from w = does point (Associates 0 (latest from w)) w

-- the handshake
abbrev pub waiting : NetworkWorld
waiting = does 1 (Associates 0 (endpoint.Opens 10 false)) (new_world make)

abbrev pub tried : NetworkWorld
tried = does 3 (Associates 0 (endpoint.Opens 10 true)) waiting

abbrev pub answered : NetworkWorld
answered = hears 1 3 tried

abbrev pub echoed : NetworkWorld
echoed = hears 3 1 answered

abbrev pub opened_first : NetworkWorld
opened_first = hears 1 3 echoed

abbrev pub confirmed : NetworkWorld
confirmed = does 1 (Associates 0 (endpoint.Flushes 10)) opened_first

abbrev pub opened_second : NetworkWorld
opened_second = hears 3 1 confirmed

-- a link status goes out, and comes twice
abbrev pub given : NetworkWorld
given = does 3 (Sends 0) opened_second

abbrev pub gone : NetworkWorld
gone = does 3 (Associates 0 (endpoint.Flushes 10)) given

abbrev pub come : NetworkWorld
come = hears 1 3 gone

abbrev pub come_again : NetworkWorld
come_again = hears 1 3 come

abbrev pub run : List NetworkWorld
run =
    waiting ∷ tried ∷ answered ∷ echoed ∷ opened_first ∷ confirmed ∷ opened_second ∷ given ∷ gone ∷ come
    ∷ come_again ∷ []

abbrev pub alignment_at : NetworkWorld → (point : ℕ) → Alignment
alignment_at w point = (link_at (w.node point).books.exchange.node.parts 0).alignment

-- ---- what is to hold

pub record Happens : Type 0 where
  pub joined : AreJoined make (1 ∷ 2 ∷ 3 ∷ [])
  pub steps : Steps make (new_world make) run
  -- the link opens at point 1, while it is down at point 3; and then there
  pub first_opens : alignment_at opened_first 1 ≡ NotAligned
  pub third_waits : down (opened_first.node 3).books.exchange.node.parts 0 ≡ true
  pub third_opens : alignment_at opened_second 3 ≡ NotAligned
  -- by the status of point 3 it aligns
  pub aligns : alignment_at come 1 ≡ Aligned
  pub once : (come_again.node 1).books ≡ (come.node 1).books
