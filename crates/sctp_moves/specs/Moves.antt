-- The moves of one end, given what the other put out; and lists of moves.
--
-- A move is a record: what must hold before it (`p`), what the network brings, and what the end becomes (`after`, of
-- `q`). It reads nothing of the other end except what that put out. It never says why or when: a timer, a call of the
-- user, or nothing at all. An association opens in five moves:
--
--     near end                                    far end
--                                                 Begins: INIT, with the far name
--     AnswersAnew: INIT ACK, with the near name
--     and a cookie that holds both names
--                                                 Echoes: COOKIE ECHO
--     OpensByCookie, if the cookie is of its
--     present generation; SendsCookieAck
--                                                 OpensByAck
--
-- Either end may give up between any two of them, and restart with another name. Both may begin at once; then each
-- answers with the name of its try. A datagram that says none of this changes nothing here, and neither does one that
-- is put out again.
use Rattle.std.specs.Prelude.{◌≡◌, ◌≢◌, ℕ, true, false, ◌+◌, ◌<◌, ◌≤◌, List, [], ◌∷◌, ◌++◌, length, slice_get, Some}
use Rattle.std.specs.List.{Contains}
use Rattle.sctp_moves.specs.Numbers.{modulus, window, number_of, cumulative, steps_between}
use Rattle.sctp_moves.specs.Ends.{Message, Name, Cookie, Answer, Chunk, Acknowledgement, Epoch, new_epoch}
use Rattle.sctp_moves.specs.Ends.{Phase, Closed, CookieWait, CookieEchoed, Established, End, Ends}

-- no cookie was echoed, and no association opened, by a name with this tag; if the tag was drawn before, it was in this
-- name. So a name that was offered in INIT ACK may be offered again, and may be that of the next try, until a cookie
-- with it opens an association
pub record IsUnused (p : End) (own : Name) : Type 0 where
  pub named : (name : Name) → Contains p.drawn name → name.tag ≡ own.tag → name ≡ own
  pub unechoed : (cookie : Cookie) → Contains p.echoes cookie → cookie.far.tag ≢ own.tag
  pub unopened : (epoch : Epoch) → Contains p.epochs epoch → epoch.own.tag ≢ own.tag

-- the end tries to open an association, by this name
abbrev pub IsTrying : Phase → Name → Type 0
IsTrying Closed name = ⊥
IsTrying (CookieWait own) name = name ≡ own
IsTrying (CookieEchoed own far) name = name ≡ own
IsTrying Established name = ⊥

-- a cookie may open an association in this phase: for a try it has its own tag, and for a try that knows its peer also
-- that tag. An end with an association opens none, since a restart of its peer is a loss
abbrev pub MayOpen : Phase → Cookie → Type 0
MayOpen Closed cookie = Unit {0}
MayOpen (CookieWait own) cookie = cookie.own.tag ≡ own.tag
MayOpen (CookieEchoed own far) cookie = (cookie.own.tag ≡ own.tag) × (cookie.far.tag ≡ far.tag)
MayOpen Established cookie = ⊥

-- INIT ACK to the end that sent INIT with a name
abbrev pub answer_to : (generation : ℕ) (own far : Name) → Answer
answer_to generation own far = record {
  to = far.tag;
  own = own;
  cookie = record { generation = generation; own = own; far = far };
}

-- DATA with the message at this index of an epoch
abbrev pub chunk_of : Epoch → (place : ℕ) → Message → Chunk
chunk_of epoch place message = record {
  to = epoch.far.tag;
  number = number_of epoch.own.first place;
  message = message;
  place = place;
}

-- the acknowledgement of all that was received in an epoch
abbrev pub ack_of : Epoch → Acknowledgement
ack_of epoch = record {
  to = epoch.far.tag;
  number = cumulative epoch.far.first (length epoch.received);
  count = length epoch.received;
}

module _ (other p q : End) where
  -- ---- a try, and the answers of the other end (RFC 9260 §5)

  -- the user wants an association
  pub record Wants : Type 0 where
    pub after : q ≡ record p { wanted = true }

  -- a try begins: INIT with an unused tag. The generation may grow
  pub record Begins : Type 0 where
    pub closed : p.phase ≡ Closed
    pub wanted : p.wanted ≡ true
    pub own : Name
    pub unused : IsUnused p own
    pub generation : ℕ
    pub later : p.generation ≤ generation
    pub after : q ≡ record p {
      generation = generation;
      drawn = own ∷ p.drawn;
      phase = CookieWait own;
      inits = own ∷ p.inits;
    }

  -- a try restarts: INIT with another unused tag
  pub record Renews : Type 0 where
    pub old : Name
    pub trying : IsTrying p.phase old
    pub own : Name
    pub unused : IsUnused p own
    pub generation : ℕ
    pub later : p.generation < generation
    pub after : q ≡ record p {
      generation = generation;
      drawn = own ∷ p.drawn;
      phase = CookieWait own;
      inits = own ∷ p.inits;
    }

  -- INIT is answered with an unused tag, and nothing is kept
  pub record AnswersAnew : Type 0 where
    pub init : Name
    pub there : Contains other.inits init
    pub own : Name
    pub unused : IsUnused p own
    pub after : q ≡ record p { drawn = own ∷ p.drawn; answers = answer_to p.generation own init ∷ p.answers }

  -- INIT is answered with the name of the end's own try
  pub record AnswersByTry : Type 0 where
    pub init : Name
    pub there : Contains other.inits init
    pub own : Name
    pub trying : IsTrying p.phase own
    pub after : q ≡ record p { answers = answer_to p.generation own init ∷ p.answers }

  -- INIT ACK is answered by its cookie
  pub record Echoes : Type 0 where
    pub own : Name
    pub waits : p.phase ≡ CookieWait own
    pub answer : Answer
    pub there : Contains other.answers answer
    pub to : answer.to ≡ own.tag
    pub after : q ≡ record p { phase = CookieEchoed own answer.own; echoes = answer.cookie ∷ p.echoes }

  -- an association opens by COOKIE ECHO, if the cookie is of the present generation
  pub record OpensByCookie : Type 0 where
    pub wanted : p.wanted ≡ true
    pub cookie : Cookie
    pub there : Contains other.echoes cookie
    pub present : cookie.generation ≡ p.generation
    pub may : MayOpen p.phase cookie
    pub generation : ℕ
    pub later : p.generation < generation
    pub after : q ≡ record p {
      generation = generation;
      phase = Established;
      epochs = new_epoch cookie.own cookie.far ∷ p.epochs;
    }

  -- an association opens by COOKIE ACK
  pub record OpensByAck : Type 0 where
    pub own : Name
    pub far : Name
    pub echoed : p.phase ≡ CookieEchoed own far
    pub there : Contains other.cookie_acks own.tag
    pub generation : ℕ
    pub later : p.generation < generation
    pub after : q ≡ record p { generation = generation; phase = Established; epochs = new_epoch own far ∷ p.epochs }

  -- an end that is established puts out COOKIE ACK
  pub record SendsCookieAck : Type 0 where
    pub up : p.phase ≡ Established
    pub epoch : Epoch
    pub past : List Epoch
    pub now : p.epochs ≡ epoch ∷ past
    pub after : q ≡ record p { cookie_acks = epoch.far.tag ∷ p.cookie_acks }

  -- an association, or the try of one, ends, or the wish for one
  pub record Finishes : Type 0 where
    pub generation : ℕ
    pub later : p.generation < generation
    pub after : q ≡ record p { generation = generation; wanted = false; phase = Closed }

  -- ---- messages (RFC 9260 §6)

  -- the user hands a message over, while fewer than a window of them aren't confirmed
  pub record Takes : Type 0 where
    pub up : p.phase ≡ Established
    pub epoch : Epoch
    pub past : List Epoch
    pub now : p.epochs ≡ epoch ∷ past
    pub message : Message
    pub room : length epoch.sent < epoch.acked + window
    pub after : q ≡ record p { epochs = record epoch { sent = epoch.sent ++ message ∷ [] } ∷ past }

  -- a message that was taken goes out, for the first time or again
  pub record SendsChunk : Type 0 where
    pub up : p.phase ≡ Established
    pub epoch : Epoch
    pub past : List Epoch
    pub now : p.epochs ≡ epoch ∷ past
    pub place : ℕ
    pub message : Message
    pub taken : slice_get epoch.sent place ≡ Some message
    pub after : q ≡ record p { chunks = chunk_of epoch place message ∷ p.chunks }

  -- DATA comes with the end's own tag, less than a window ahead of the next message. It isn't older than `modulus -
  -- window` messages
  pub record HearsChunk : Type 0 where
    pub up : p.phase ≡ Established
    pub epoch : Epoch
    pub past : List Epoch
    pub now : p.epochs ≡ epoch ∷ past
    pub chunk : Chunk
    pub there : Contains other.chunks chunk
    pub to : chunk.to ≡ epoch.own.tag
    pub young : length epoch.received + window ≤ chunk.place + modulus
    pub ahead : ℕ
    pub distance : ahead ≡ steps_between (number_of epoch.far.first (length epoch.received)) chunk.number
    pub within : ahead < window
    pub after : q ≡ record p {
      epochs = record epoch {
        heard = record { place = length epoch.received + ahead; message = chunk.message } ∷ epoch.heard;
      } ∷ past;
    }

  -- the next message is told to the user, if it was heard
  pub record HandsUp : Type 0 where
    pub up : p.phase ≡ Established
    pub epoch : Epoch
    pub past : List Epoch
    pub now : p.epochs ≡ epoch ∷ past
    pub message : Message
    pub next : Contains epoch.heard (record { place = length epoch.received; message = message })
    pub after : q ≡ record p { epochs = record epoch { received = epoch.received ++ message ∷ [] } ∷ past }

  -- what was received is acknowledged
  pub record SendsAck : Type 0 where
    pub up : p.phase ≡ Established
    pub epoch : Epoch
    pub past : List Epoch
    pub now : p.epochs ≡ epoch ∷ past
    pub after : q ≡ record p { acks = ack_of epoch ∷ p.acks }

  -- an acknowledgement comes with the end's own tag, of no more than was sent. It isn't older than `modulus - window`
  -- messages
  pub record HearsAck : Type 0 where
    pub up : p.phase ≡ Established
    pub epoch : Epoch
    pub past : List Epoch
    pub now : p.epochs ≡ epoch ∷ past
    pub ack : Acknowledgement
    pub there : Contains other.acks ack
    pub to : ack.to ≡ epoch.own.tag
    pub young : epoch.acked + window < ack.count + modulus
    pub ahead : ℕ
    pub distance : ahead ≡ steps_between (cumulative epoch.own.first epoch.acked) ack.number
    pub within : epoch.acked + ahead ≤ length epoch.sent
    pub after : q ≡ record p { epochs = record epoch { acked = epoch.acked + ahead } ∷ past }

  pub data EndMove : Type 0 where
    wants : Wants → EndMove
    begins : Begins → EndMove
    renews : Renews → EndMove
    answers_anew : AnswersAnew → EndMove
    answers_by_try : AnswersByTry → EndMove
    echoes : Echoes → EndMove
    opens_by_cookie : OpensByCookie → EndMove
    opens_by_ack : OpensByAck → EndMove
    sends_cookie_ack : SendsCookieAck → EndMove
    finishes : Finishes → EndMove
    takes : Takes → EndMove
    sends_chunk : SendsChunk → EndMove
    hears_chunk : HearsChunk → EndMove
    hands_up : HandsUp → EndMove
    sends_ack : SendsAck → EndMove
    hears_ack : HearsAck → EndMove

-- ---- lists of moves

-- a move of either end
pub data Move (p q : Ends) : Type 0 where
  near : EndMove p.far p.near q.near → q.far ≡ p.far → Move p q
  far : EndMove p.near p.far q.far → q.near ≡ p.near → Move p q

-- from two ends, by moves, through the states of a list
abbrev pub Moves : Ends → List Ends → Type 0
Moves p [] = Unit {0}
Moves p (q ∷ rest) = Move p q × Moves q rest

abbrev pub last_of : Ends → List Ends → Ends
last_of p [] = p
last_of p (q ∷ rest) = last_of q rest

-- moves of one end, while the other stands still
abbrev pub EndMoves : (other p : End) → List End → Type 0
EndMoves other p [] = Unit {0}
EndMoves other p (q ∷ rest) = EndMove other p q × EndMoves other q rest

abbrev pub last_end : End → List End → End
last_end p [] = p
last_end p (q ∷ rest) = last_end q rest
