-- Moves of the messages of a node: from its user parts, into Held and out of it, and onto a link. Each record says what
-- one node or one line becomes; the rest of the pair is as before.
use Rattle.std.specs.Prelude.{◌≡◌, ◌≢◌, ℕ, true, false, not, ◌<◌, List, [], ◌∷◌, ◌++◌, filter, Some}
use Rattle.signalling_types.specs.Message.{Message, flow_of}
use Rattle.signalling_types.specs.declared.point.Flow.{Flow}
use Rattle.link.specs.Queue.{appended}
use Rattle.pair_moves.specs.Sayings.{Reading, Saying, UserMessage, is_user_message, is_other, is_of_flow}
use Rattle.pair_moves.specs.Ends.{Line, Procedure, Side, Pair}

-- of the lines of a pair, that of one link becomes z, and the others are as before
pub record BecomeAt (p : Pair) (link : ℕ) (z : Line) (lines : ℕ → Line) : Type 0 where
  pub inside : link < p.links
  pub here : lines link ≡ z
  pub others : (other : ℕ) → other ≢ link → lines other ≡ p.line other

-- a line with one more message at the end of the near queue
abbrev pub with_message : Line → Message → Line
with_message z m = record z { near = record z.near { queue = appended z.near.queue m } }

-- a message of a flow may go on by a link: the flow takes it, nothing holds the flow, and none of it is in Held
pub record MayGo (read : Message → Saying) (s : Side) (flow : Flow) (link : ℕ) : Type 0 where
  pub routed : s.route flow ≡ Some link
  pub unheld : (procedure : Procedure) → s.holds procedure flow ≡ false
  pub none_held : filter (is_of_flow read flow) s.held ≡ []

-- a list without the messages that the laws don't speak of
abbrev pub without_others : (Message → Saying) → List Message → List Message
without_others read ms = filter (λ m. not (is_other (read m))) ms

-- the first message that arrived says this
pub record Hears (read : Message → Saying) (p : Pair) (saying : Saying) : Type 0 where
  pub message : Message
  pub rest : List Message
  pub first : p.near.arrived ≡ message ∷ rest
  pub says : read message ≡ saying

module _ (read : Reading) (p q : Pair) where
  -- a user part hands a message over (Q.704 §2.1)
  pub record Accepts : Type 0 where
    pub message : Message
    pub user : is_user_message (read.there message) ≡ true
    pub after : q ≡ record p {
      near = record p.near { accepted = p.near.accepted ++ message ∷ []; loose = p.near.loose ++ message ∷ [] };
    }

  -- a release begins: all that is held is taken out, in order
  pub record TakesOut : Type 0 where
    pub after : q ≡ record p { near = record p.near { held = []; loose = p.near.held ++ p.near.loose } }

  -- the first loose message waits in Held
  pub record Keeps : Type 0 where
    pub message : Message
    pub rest : List Message
    pub first : p.near.loose ≡ message ∷ rest
    pub after : q ≡ record p { near = record p.near { loose = rest; held = p.near.held ++ message ∷ [] } }

  -- the first loose message goes after those of a link in service; a user message only if it may go on by that link
  pub record Places : Type 0 where
    pub link : ℕ
    pub message : Message
    pub rest : List Message
    pub first : p.near.loose ≡ message ∷ rest
    pub serving : (p.line link).near.serving ≡ true
    pub may_go : is_user_message (read.there message) ≡ true → MayGo read.there p.near (flow_of message) link
    pub lines : ℕ → Line
    pub set : BecomeAt p link (with_message (p.line link) message) lines
    pub after : q ≡ record p { line = lines; near = record p.near { loose = rest } }

  -- a user message that came in a frame is handed to its user part
  pub record HandsOver : Type 0 where
    pub heard : Hears read.back p UserMessage
    pub after : q ≡ record p {
      near = record p.near { arrived = heard.rest; received = p.near.received ++ heard.message ∷ [] };
    }

  -- messages that the laws don't speak of come to a node from elsewhere, leave it, or change places; all others stay as
  -- they are, in order
  pub record MixesOthers : Type 0 where
    pub held : List Message
    pub loose : List Message
    pub arrived : List Message
    pub held_stay : without_others read.there held ≡ without_others read.there p.near.held
    pub loose_stay : without_others read.there loose ≡ without_others read.there p.near.loose
    pub arrived_stay : without_others read.back arrived ≡ without_others read.back p.near.arrived
    pub after : q ≡ record p { near = record p.near { held = held; loose = loose; arrived = arrived } }
