-- A run of two nodes in which a user message crosses: a link opens at both nodes and enters service, the message is
-- submitted, goes out in a datagram that comes twice, and is received once.
use Rattle.std.specs.Prelude.{◌≡◌, true, false, List, [], ◌∷◌, ◌++◌}
use Rattle.link.specs.declared.alignment.Alignment.TheVariants.{InService}
use Rattle.exchange_rules.specs.State.{Ticked, Submitted}
use Rattle.sctp_rules.specs.Endpoint as endpoint
use Rattle.pair_rules.specs.OneEndFirst.{the_message}
use Rattle.pair_rules.specs.Promises.{LostNothing, IsPunctual}
use Rattle.neighbour_rules.specs.Promises.{waiting}
use Rattle.node_rules.specs.Worlds.{World, new_world, Happens, Associates, Sends, Steps}
use Rattle.node_rules.specs.Promises.{AreNeighbours, ends_of}
use Rattle.node_rules.specs.Example.{near_make, far_make, near_does, far_does, near_hears, far_hears, alignment_of}

-- ---- lists of steps

abbrev pub through : List (World → World) → World → List World
through [] w = []
through (step ∷ more) w = step w ∷ through more (step w)

abbrev pub after_all : List (World → World) → World → World
after_all [] w = w
after_all (step ∷ more) w = after_all more (step w)

-- the next frame is given to the endpoint; packets are asked for
abbrev pub near_sends : World → World
near_sends w = near_does (Sends 0) w

abbrev pub far_sends : World → World
far_sends w = far_does (Sends 0) w

abbrev pub near_flushes : World → World
near_flushes w = near_does (Associates 0 (endpoint.Flushes 10)) w

abbrev pub far_flushes : World → World
far_flushes w = far_does (Associates 0 (endpoint.Flushes 10)) w

-- the handshake of `Example`
abbrev pub opening : List (World → World)
opening =
    far_does (Associates 0 (endpoint.Opens 10 false)) ∷ near_does (Associates 0 (endpoint.Opens 10 true)) ∷ far_hears
    ∷ near_hears ∷ far_hears ∷ far_flushes ∷ near_hears ∷ []

-- link statuses cross, until both ends prove the link
abbrev pub aligning : List (World → World)
aligning =
    near_sends ∷ near_flushes ∷ far_hears ∷ far_sends ∷ far_sends ∷ far_flushes ∷ near_hears ∷ near_sends
    ∷ near_flushes ∷ far_hears ∷ []

-- a tick later both are ready, and enter service
abbrev pub serving : List (World → World)
serving =
    near_does (Happens Ticked) ∷ far_does (Happens Ticked) ∷ near_sends ∷ near_flushes ∷ far_hears ∷ far_sends
    ∷ far_flushes ∷ near_hears ∷ []

-- the message goes out, and comes twice
abbrev pub crossing : List (World → World)
crossing = near_sends ∷ near_flushes ∷ far_hears ∷ far_hears ∷ []

-- ---- the worlds

abbrev pub opened : World
opened = after_all opening (new_world near_make far_make)

abbrev pub aligned : World
aligned = after_all aligning opened

abbrev pub served : World
served = after_all serving aligned

abbrev pub submitted : World
submitted = near_does (Happens (Submitted the_message)) served

abbrev pub crossed : World
crossed = after_all crossing submitted

abbrev pub run : List World
run =
    through opening (new_world near_make far_make) ++ through aligning opened ++ through serving aligned
    ++ submitted ∷ through crossing submitted

-- ---- what is to hold

pub record Crosses : Type 0 where
  pub neighbours : AreNeighbours near_make far_make
  pub steps : Steps near_make far_make (new_world near_make far_make) run
  -- the link enters service at both nodes
  pub near_serves : alignment_of served.near 0 ≡ InService
  pub far_serves : alignment_of served.far 0 ≡ InService
  -- the message is accepted at the near node, and waits; then it is received at the far one, once, and waits no more
  pub accepted : submitted.near.books.accepted ≡ the_message ∷ []
  pub missing : submitted.far.books.received ≡ []
  pub waits : waiting (ends_of near_make far_make submitted) ≡ the_message ∷ []
  pub received : crossed.far.books.received ≡ the_message ∷ []
  pub nothing_waits : waiting (ends_of near_make far_make crossed) ≡ []
  pub lost_nothing : LostNothing (ends_of near_make far_make crossed)
  pub punctual : IsPunctual (ends_of near_make far_make crossed)
