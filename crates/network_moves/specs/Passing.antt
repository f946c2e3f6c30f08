-- Moves of the messages of a node: from its user parts, to them, out of the node for good, and onto a link.
use Rattle.std.specs.Prelude.{◌≡◌, ℕ, true, false, List, ◌∷◌}
use Rattle.signalling_types.specs.Message.{Message}
use Rattle.link.specs.Queue.{appended}
use Rattle.network_moves.specs.Sayings.{Saying, Other, is_user_message}
use Rattle.network_moves.specs.Networks.{Line, Network, Shape, Place, line_at, node_at}
use Rattle.network_moves.specs.Networks.{NodeBecomes, Becomes, IsTakenFrom}

-- a line with one more message at the end of the near queue
abbrev pub with_message : Line → Message → Line
with_message z m = record z { near = record z.near { queue = appended z.near.queue m } }

module _ (shape : Shape) (read : Message → Saying) (p q : Network) where
  -- a user part hands a message over, or a message is made that returns one (Q.704 §2.1)
  pub record Submits : Type 0 where
    pub point : ℕ
    pub message : Message
    pub user : is_user_message (read message) ≡ true
    pub after : NodeBecomes shape p q point (record (p.node point) {
      bag = message ∷ (p.node point).bag;
      submitted = message ∷ (p.node point).submitted;
      accepted = message ∷ (p.node point).accepted;
    })

  -- management is made of which no law speaks (Q.704 §15)
  pub record Makes : Type 0 where
    pub point : ℕ
    pub message : Message
    pub other : read message ≡ Other
    pub after : NodeBecomes shape p q point (record (p.node point) { bag = message ∷ (p.node point).bag })

  -- a user message is received by the node, or refused by name (Q.704 §2.4)
  pub record Ends : Type 0 where
    pub point : ℕ
    pub message : Message
    pub rest : List Message
    pub taken : IsTakenFrom (p.node point).bag message rest
    pub user : is_user_message (read message) ≡ true
    pub after : NodeBecomes shape p q point (record (p.node point) {
      bag = rest;
      ended = message ∷ (p.node point).ended;
    })

  -- a user message that was taken in has no way any more: it is given up, and a notice of loss names it
  pub record GivesUp : Type 0 where
    pub point : ℕ
    pub message : Message
    pub rest : List Message
    pub taken : IsTakenFrom (p.node point).bag message rest
    pub user : is_user_message (read message) ≡ true
    pub after : NodeBecomes shape p q point (record (p.node point) {
      bag = rest;
      gone = message ∷ (p.node point).gone;
      named = message ∷ (p.node point).named;
    })

  -- management is handled, ignored or refused, also an order or an answer that has no way on
  pub record Discards : Type 0 where
    pub point : ℕ
    pub message : Message
    pub rest : List Message
    pub taken : IsTakenFrom (p.node point).bag message rest
    pub management : is_user_message (read message) ≡ false
    pub after : NodeBecomes shape p q point (record (p.node point) { bag = rest })

  -- a message goes after those of a link in service, by whatever link it may go (Q.704 §2.3)
  pub record Places : Type 0 where
    pub place : Place
    pub message : Message
    pub rest : List Message
    pub taken : IsTakenFrom (node_at shape p place).bag message rest
    pub serving : (line_at p place).near.serving ≡ true
    pub leads : shape.leads place.link place.side message ≡ true
    pub after : Becomes shape p q place
        (with_message (line_at p place) message)
        (record (node_at shape p place) { bag = rest })
