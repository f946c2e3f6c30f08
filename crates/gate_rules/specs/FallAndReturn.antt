-- A run of two nodes with gates, of which each has keys of its own. Both links of their set enter service. A message
-- comes by the first, and its acknowledgements are lost. The next one is lost there with all that goes out again, until
-- the link falls: it comes by the second link. Then the first link returns, and takes its flow back.
use Rattle.std.specs.Prelude.{◌≡◌, ℕ, Bool, true, false, List, [], ◌∷◌, ◌++◌, Option, Some, None, replicate}
use Rattle.link.specs.declared.alignment.Alignment.{Alignment}
use Rattle.link.specs.declared.alignment.Alignment.TheVariants.{Down, InService}
use Rattle.settings.specs.Configuration.{Configuration}
use Rattle.signalling_types.specs.Message.{Message}
use Rattle.exchange_rules.specs.State.{Ticked, Submitted, late_any, link_at}
use Rattle.sctp_codec.specs.Packets.{PacketValue}
use Rattle.sctp_rules.specs.Rows.{address, settings}
use Rattle.sctp_ends.specs.Worlds.{Emitted}
use Rattle.sctp_gate.specs.Calling as calling
use Rattle.pair_rules.specs.OneEndFirst.{near_settings, far_settings, the_message}
use Rattle.pair_rules.specs.Promises.{LostNothing}
use Rattle.pair_rules.specs.Sharing.{AreSharing}
use Rattle.neighbour_rules.specs.Promises.{waiting}
use Rattle.gate_rules.specs.Octets.{HavePorts}
use Rattle.gate_rules.specs.Promises.{ends_of}
use Rattle.gate_rules.specs.Worlds.{Doing, Happens, Calls, Make, Node, World, did, last_world, new_world, Steps}

-- ---- the nodes

abbrev pub key_of : (octet : ℕ) → List ℕ
key_of octet = replicate 32 octet

-- the gates of the near node try to open, those of the far one wait
abbrev pub make_of : Configuration → (tries : Bool) → (tag_octet cookie_octet : ℕ) → Make
make_of c tries tag_octet cookie_octet = record {
  configuration = c;
  gates = λ link. record {
    tries = tries;
    settings = settings;
    tag_key = key_of tag_octet;
    cookie_key = key_of cookie_octet;
  };
}

abbrev pub near_make : Make
near_make = make_of near_settings true 1 2

abbrev pub far_make : Make
far_make = make_of far_settings false 3 4

-- a message of the same flow as `the_message`
abbrev pub next_message : Message
next_message = record { sio = 133; sif = 2 ∷ 64 ∷ 0 ∷ 0 ∷ 8 ∷ [] }

abbrev pub last_message : Message
last_message = record { sio = 133; sif = 2 ∷ 64 ∷ 0 ∷ 0 ∷ 9 ∷ [] }

-- ---- what is done

-- each link has one number at both nodes
pub data Line : Type 0 where
  First : Line
  Second : Line

abbrev pub number_of : Line → ℕ
number_of First = 0
number_of Second = 1

pub data Act : Type 0 where
  -- a tick of the exchange passes, and a user part hands a message over
  Passes : Act
  Submits : (message : Message) → Act
  -- the gate of a link is called, at a time in milliseconds
  Settles : Line → (now : ℕ) → Act
  Fills : Line → (now : ℕ) → Act
  Times : Line → (now : ℕ) → Act
  -- the latest packet comes that the gate at the other end of the link put out
  Hears : Line → (now : ℕ) → Act

abbrev pub latest : List Emitted → Option PacketValue
latest [] = None
latest (one ∷ more) = Some one.packet

abbrev pub doing_of : (there : Node) → Act → Doing
doing_of there Passes = Happens Ticked
doing_of there (Submits message) = Happens (Submitted message)
doing_of there (Settles line now) = Calls (number_of line) (calling.Settles now)
doing_of there (Fills line now) = Calls (number_of line) (calling.Fills now)
doing_of there (Times line now) = Calls (number_of line) (calling.Ticks now)
doing_of there (Hears line now) =
    Calls (number_of line) (calling.Hears now (latest (there.ports (number_of line)).packets) address)

-- at which node
pub data Done : Type 0 where
  AtNear : Act → Done
  AtFar : Act → Done

abbrev pub after_one : Done → World → World
after_one (AtNear what) w = record w { near = did (doing_of w.far what) w.near }
after_one (AtFar what) w = record w { far = did (doing_of w.near what) w.far }

abbrev pub after_all : List Done → World → World
after_all [] w = w
after_all (one ∷ more) w = after_all more (after_one one w)

abbrev pub through : List Done → World → List World
through [] w = []
through (one ∷ more) w = after_one one w ∷ through more (after_one one w)

-- all that waits at one node goes out on a link, and comes to the other one
abbrev pub tells_far : Line → (now : ℕ) → List Done
tells_far line now = AtNear (Fills line now) ∷ AtFar (Hears line now) ∷ []

abbrev pub tells_near : Line → (now : ℕ) → List Done
tells_near line now = AtFar (Fills line now) ∷ AtNear (Hears line now) ∷ []

-- INIT goes out, and INIT ACK, COOKIE ECHO come; then COOKIE ACK comes with the first link status, and both ends of the
-- link begin to prove it
abbrev pub opens : Line → (now : ℕ) → List Done
opens line now =
    AtFar (Settles line now) ∷ AtNear (Settles line now) ∷ AtFar (Hears line now) ∷ AtNear (Hears line now)
    ∷ AtFar (Hears line now) ∷ tells_near line now ++ tells_far line now ++ tells_near line now

-- it is proved for a tick
abbrev pub ticks : List Done
ticks = AtNear Passes ∷ AtFar Passes ∷ []

-- both ends are ready, and it enters service
abbrev pub enters : Line → (now : ℕ) → List Done
enters line now = tells_far line now ++ tells_near line now

-- flows go from one link back to another: both declarations come on the former, and then what acknowledges them on the
-- latter
abbrev pub declares : (from to : Line) → (now : ℕ) → List Done
declares from to now = tells_far from now ++ tells_near from now ++ tells_far to now ++ tells_near to now

abbrev pub opening : List Done
opening = opens First 10 ++ opens Second 10 ++ ticks ++ enters First 10 ++ enters Second 10 ++ declares First Second 10

-- the first message comes, and nothing that confirms it
abbrev pub coming : List Done
coming = AtNear (Submits the_message) ∷ tells_far First 10

-- all that goes out is lost, as often as T3-rtx runs out (RFC 9260 §6.3.3). Then the near end gives up, and its ABORT
-- comes (RFC 9260 §8.1)
abbrev pub unanswered : List Done
unanswered =
    AtNear (Fills First 10) ∷ AtNear (Times First 1000) ∷ AtNear (Fills First 1000) ∷ AtNear (Times First 2000)
    ∷ AtNear (Fills First 2000) ∷ AtNear (Times First 3000) ∷ AtFar (Hears First 3000) ∷ []

-- the next message doesn't come
abbrev pub falling : List Done
falling = AtNear (Submits next_message) ∷ unanswered

-- the near end's order to change over comes with its answer and the message, and then the far end's answer
abbrev pub answering : List Done
answering = tells_far Second 3000 ++ tells_near Second 3000

-- the far end's order comes first
abbrev pub changing : List Done
changing = tells_near Second 3000 ++ answering

-- the first link opens again, and takes its flows back
abbrev pub returning : List Done
returning = opens First 4000 ++ ticks ++ enters First 4000 ++ declares Second First 4000

-- the last message comes by it
abbrev pub resuming : List Done
resuming = AtNear (Submits last_message) ∷ tells_far First 4000

abbrev pub run : List Done
run = opening ++ coming ++ falling ++ changing ++ returning ++ resuming

-- ---- the worlds

abbrev pub begun : World
begun = new_world near_make far_make

abbrev pub served : World
served = after_all opening begun

abbrev pub come : World
come = after_all coming served

abbrev pub fallen : World
fallen = after_all falling come

abbrev pub changed_over : World
changed_over = after_all changing fallen

abbrev pub returned : World
returned = after_all returning changed_over

abbrev pub resumed : World
resumed = after_all resuming returned

-- ---- what is to hold

abbrev pub alignment_of : Node → (line : Line) → Alignment
alignment_of n line = (link_at n.books.exchange.node.parts (number_of line)).alignment

-- a link is in this state at both nodes
pub record IsAt (state : Alignment) (line : Line) (w : World) : Type 0 where
  pub near : alignment_of w.near line ≡ state
  pub far : alignment_of w.far line ≡ state

pub record FallsAndReturns : Type 0 where
  -- what the promises ask of the two nodes, and of their gates
  pub sharing : AreSharing near_settings far_settings
  pub near_ports : HavePorts near_make
  pub far_ports : HavePorts far_make
  -- each may be done, one after the other, and this is left
  pub steps : Steps near_make far_make begun (through run begun)
  pub left : last_world begun (through run begun) ≡ resumed
  -- both links enter service
  pub serves : IsAt InService First served
  pub serves_too : IsAt InService Second served
  -- the first message comes
  pub comes : come.far.books.received ≡ the_message ∷ []
  -- the first link falls at both nodes, and the next message didn't come
  pub falls : IsAt Down First fallen
  pub stands : IsAt InService Second fallen
  pub missing : fallen.far.books.received ≡ the_message ∷ []
  -- it comes while the link is down
  pub down : IsAt Down First changed_over
  pub changes_over : changed_over.far.books.received ≡ the_message ∷ next_message ∷ []
  -- the first link is in service again, and the last message comes
  pub returns : IsAt InService First returned
  pub accepted : resumed.near.books.accepted ≡ the_message ∷ next_message ∷ last_message ∷ []
  pub received : resumed.far.books.received ≡ the_message ∷ next_message ∷ last_message ∷ []
  pub nothing_waits : waiting (ends_of near_make far_make resumed) ≡ []
  -- no flag was raised
  pub lost_nothing : LostNothing (ends_of near_make far_make resumed)
  pub near_punctual : late_any resumed.near.books.exchange.node.parts ≡ false
  pub far_punctual : late_any resumed.far.books.exchange.node.parts ≡ false
