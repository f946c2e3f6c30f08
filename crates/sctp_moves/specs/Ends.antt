-- Two ends of SCTP (RFC 9260), and all that they ever put out.
--
-- An end draws names, tries to open associations, and opens them; in each it sends and receives messages. The network
-- between the ends may lose, double, reorder and delay what they put out, and invents nothing. So it is no more than
-- the lists of what was put out, from which anything may come at any time. There are no octets, clocks, timers or
-- windows in octets here: it is left open when and why something goes out. Nor are there fragments: an end sends a
-- message in one chunk. What an end has made and not sent yet counts as put out.
use Rattle.std.specs.Prelude.{ℕ, Bool, false, List, []}

-- a message of the user: its stream, its payload protocol identifier, its octets
pub record Message : Type 0 where
  pub stream : ℕ
  pub protocol : ℕ
  pub octets : List ℕ

-- what an end goes by in one association: its verification tag, and the TSN of its first message
pub record Name : Type 0 where
  pub tag : ℕ
  pub first : ℕ

-- ---- what goes through the network

-- a state cookie: the generation of the end that made it, that end's name, and the name in the INIT
-- that it answers
pub record Cookie : Type 0 where
  pub generation : ℕ
  pub own : Name
  pub far : Name

-- INIT ACK: the tag that it is sent to, the name of its sender, and the cookie
pub record Answer : Type 0 where
  pub to : ℕ
  pub own : Name
  pub cookie : Cookie

-- DATA: the tag that it is sent to, its TSN and its message; and, which isn't on the wire, the message's place among
-- those that its sender sent in the association
pub record Chunk : Type 0 where
  pub to : ℕ
  pub number : ℕ
  pub message : Message
  pub place : ℕ

-- SACK or SHUTDOWN: the tag that it is sent to, and its cumulative TSN; and, which isn't on the wire, how many messages
-- its sender had received in the association
pub record Acknowledgement : Type 0 where
  pub to : ℕ
  pub number : ℕ
  pub count : ℕ

-- ---- an end

-- a message that an end heard, with the place that it computes from its TSN
pub record Piece : Type 0 where
  pub place : ℕ
  pub message : Message

-- an association as one end had it; nothing is ever taken out. `acked` says how many of the messages
-- that were sent this end saw confirmed, `heard` what came within the window
pub record Epoch : Type 0 where
  pub own : Name
  pub far : Name
  pub sent : List Message
  pub acked : ℕ
  pub heard : List Piece
  pub received : List Message

abbrev pub new_epoch : (own far : Name) → Epoch
new_epoch own far = record { own = own; far = far; sent = []; acked = 0; heard = []; received = [] }

-- CLOSED, COOKIE-WAIT, COOKIE-ECHOED, and ESTABLISHED together with all states after it. A try of an association has a
-- name of its own, and knows the far end's from COOKIE-ECHOED on
pub data Phase : Type 0 where
  Closed : Phase
  CookieWait : (own : Name) → Phase
  CookieEchoed : (own far : Name) → Phase
  Established : Phase

pub record End : Type 0 where
  -- how often an association opened or ended, and a try of one restarted or ended; it may grow as a try begins, too
  pub generation : ℕ
  -- an association is wanted, or there is one
  pub wanted : Bool
  -- all names that it drew for itself
  pub drawn : List Name
  pub phase : Phase
  -- all associations, the latest first. While it is established, the latest is the present one
  pub epochs : List Epoch
  -- all that it put out, the latest first: the names in INIT, the INIT ACKs, the cookies in COOKIE ECHO, the tags that
  -- a COOKIE ACK was sent to, DATA, acknowledgements. What is put out again is here already
  pub inits : List Name
  pub answers : List Answer
  pub echoes : List Cookie
  pub cookie_acks : List ℕ
  pub chunks : List Chunk
  pub acks : List Acknowledgement

abbrev pub new_end : End
new_end = record {
  generation = 0;
  wanted = false;
  drawn = [];
  phase = Closed;
  epochs = [];
  inits = [];
  answers = [];
  echoes = [];
  cookie_acks = [];
  chunks = [];
  acks = [];
}

-- both ends. The network is what each of them put out: any of it may come to the other end, at any
-- moment, any number of times, in any order, or never
pub record Ends : Type 0 where
  pub near : End
  pub far : End

abbrev pub new_ends : Ends
new_ends = record { near = new_end; far = new_end }

-- the same, seen from the far end
abbrev pub turned : Ends → Ends
turned p = record { near = p.far; far = p.near }
