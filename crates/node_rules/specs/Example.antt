-- A run of two nodes with two links, of which one opens: at the far node by COOKIE ECHO, then at the near one by COOKIE
-- ACK. The near node's link status crosses in a datagram that comes twice.
use Rattle.std.specs.Prelude.{◌≡◌, ℕ, true, false, List, [], ◌∷◌}
use Rattle.link.specs.declared.alignment.Alignment.{Alignment}
use Rattle.link.specs.declared.alignment.Alignment.TheVariants.{NotAligned, Aligned}
use Rattle.exchange_rules.specs.State.{link_at, down}
use Rattle.sctp_rules.specs.Endpoint as endpoint
use Rattle.sctp_rules.specs.Rows.{address}
use Rattle.sctp_ends.specs.Example.{make_from, packet_at}
use Rattle.pair_rules.specs.OneEndFirst.{near_settings, far_settings}
use Rattle.node_rules.specs.Worlds.{Make, Node, World, new_world, Doing, Associates, Sends, did, Steps}
use Rattle.node_rules.specs.Promises.{AreNeighbours}

abbrev pub near_make : Make
near_make = record { configuration = near_settings; endpoints = λ link. make_from 1000 }

abbrev pub far_make : Make
far_make = record { configuration = far_settings; endpoints = λ link. make_from 2000 }

-- ---- the worlds

abbrev pub near_does : Doing → World → World
near_does what w = record w { near = did near_make what w.near }

abbrev pub far_does : Doing → World → World
far_does what w = record w { far = did far_make what w.far }

-- at the moment 10 the latest packet comes that the other end of the first link put out
abbrev pub near_hears : World → World
near_hears w = near_does (Associates 0 (endpoint.Came 10 address (packet_at (w.far.ports 0).site 0))) w

abbrev pub far_hears : World → World
far_hears w = far_does (Associates 0 (endpoint.Came 10 address (packet_at (w.near.ports 0).site 0))) w

-- the handshake
abbrev pub waiting : World
waiting = far_does (Associates 0 (endpoint.Opens 10 false)) (new_world near_make far_make)

abbrev pub tried : World
tried = near_does (Associates 0 (endpoint.Opens 10 true)) waiting

abbrev pub answered : World
answered = far_hears tried

abbrev pub echoed : World
echoed = near_hears answered

abbrev pub opened_first : World
opened_first = far_hears echoed

abbrev pub confirmed : World
confirmed = far_does (Associates 0 (endpoint.Flushes 10)) opened_first

abbrev pub opened_second : World
opened_second = near_hears confirmed

-- a link status goes out, and comes twice
abbrev pub given : World
given = near_does (Sends 0) opened_second

abbrev pub gone : World
gone = near_does (Associates 0 (endpoint.Flushes 10)) given

abbrev pub come : World
come = far_hears gone

abbrev pub come_again : World
come_again = far_hears come

abbrev pub run : List World
run =
    waiting ∷ tried ∷ answered ∷ echoed ∷ opened_first ∷ confirmed ∷ opened_second ∷ given ∷ gone ∷ come
    ∷ come_again ∷ []

abbrev pub alignment_of : Node → (link : ℕ) → Alignment
alignment_of n link = (link_at n.books.exchange.node.parts link).alignment

-- ---- what is to hold

pub record Happens : Type 0 where
  pub neighbours : AreNeighbours near_make far_make
  pub steps : Steps near_make far_make (new_world near_make far_make) run
  -- the link opens at the far node, while it is down at the near one; and then there
  pub far_opens : alignment_of opened_first.far 0 ≡ NotAligned
  pub near_waits : down opened_first.near.books.exchange.node.parts 0 ≡ true
  pub near_opens : alignment_of opened_second.near 0 ≡ NotAligned
  -- by the near node's status it aligns
  pub aligns : alignment_of come.far 0 ≡ Aligned
  pub once : come_again.far.books ≡ come.far.books
