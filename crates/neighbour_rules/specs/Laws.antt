-- Four laws of two nodes that share a link set, link by link, from which "Exactly once" follows. Each is stated for one
-- direction: for what the near end has for the far end. A link and the far end of it have each their own number.
use Rattle.std.specs.Prelude.{◌≡◌, ◌≢◌, ◌≤◌, ◌-◌, ◌⊎◌, ◌||◌, ◌&&◌, ℕ, Bool, true, false, not, List, [], ◌++◌, drop, take, Contains, length, slice_get, Option, Some, None, if◌then◌else◌}
use Rattle.signalling_types.specs.Message.{Message, opc_of}
use Rattle.settings.specs.Configuration.{Configuration}
use Rattle.mtp3_codec.specs.Management.{read_management}
use Rattle.link.specs.Queue.{first_queue, named_count, last_accepted}
use Rattle.changeover.specs.Changeover.{accepted_count, behind}
use Rattle.exchange_rules.specs.declared.wants.Wants.TheVariants.{Open}
use Rattle.exchange_rules.specs.State.{in_service}
use Rattle.exchange_rules.specs.Exchange.{wants_of}
use Rattle.exchange_rules.specs.Receiving.{new_message}
use Rattle.pair_moves.specs.Order.{join_to}
use Rattle.pair_rules.specs.Pairs.{PairState, in_flight, may_follow, may_open_at, turned}
use Rattle.pair_rules.specs.Promises.{BothWays, LostNothing, queue_of}
use Rattle.pair_rules.specs.Laws.{Word, is_down_at, is_incomplete_at, messages_in, word_read}
use Rattle.neighbour_rules.specs.Neighbours.{far_end, is_management_between}
use Rattle.neighbour_rules.specs.Promises.{Always}

-- after every list of steps from two newly booted exchanges, in both directions, while neither end may have lost a
-- message
abbrev pub WhileNothingIsLost : (PairState → Type 0) → Type 0
WhileNothingIsLost Statement = Always (λ p. LostNothing p → BothWays Statement p)

-- a statement about each link between the two, and the far end of it
abbrev pub OfEachLink : PairState → ((link other : ℕ) → Type 0) → Type 0
OfEachLink p Statement = (link other : ℕ) → far_end p link ≡ Some other → Statement link other

-- ---- (i) frames carry what was not received

-- a link is in use from the near end to the far end, unless an end may follow the other, until it is down at both ends
-- and the near end's changeover of it is complete
abbrev pub is_in_use : PairState → (link other : ℕ) → Bool
is_in_use p link other =
    not (may_follow p.near link || may_follow p.far other)
    && (not (is_down_at p.near link) || is_incomplete_at p.near link || not (is_down_at p.far other))

-- the messages of the near end's queue that the far end hasn't received
abbrev pub unreceived_at : PairState → (link other : ℕ) → List Message
unreceived_at p link other = drop (queue_of p.far other).received (queue_of p.near link).all

-- of these, the messages that were sent
abbrev pub sent_at : PairState → (link other : ℕ) → List Message
sent_at p link other = take ((queue_of p.near link).sent - (queue_of p.far other).received) (unreceived_at p link other)

-- the far end received no fewer than are confirmed, and no more than were sent. While the link isn't down there, the
-- User Data in flight to it carry those that were sent and not received, each of them once, in order
pub record FramesCarry (p : PairState) (link other : ℕ) : Type 0 where
  pub confirmed : (queue_of p.near link).confirmed ≤ (queue_of p.far other).received
  pub received : (queue_of p.far other).received ≤ (queue_of p.near link).sent
  pub carried : is_down_at p.far other ≡ false →
      messages_in (in_flight p.far.incoming.user_data other) ≡ sent_at p link other

-- the message that the next frame newly carries is the first of the near end's queue that the far end hasn't received
abbrev pub NextIsFirst : PairState → (link other : ℕ) → Type 0
NextIsFirst p link other =
    (text : List ℕ) (message : Message) →
    slice_get (in_flight p.far.incoming.user_data other) 0 ≡ Some text →
    new_message other text p.far.exchange ≡ Some message →
    slice_get (queue_of p.near link).all (queue_of p.far other).received ≡ Some message

-- while the far end may follow, the link may open there. The near one, which opened first, isn't in service and has the
-- queue with which it began; nothing is in flight to it, and no message to the far end
pub record OpenedAlone (p : PairState) (link other : ℕ) : Type 0 where
  pub alone : may_follow p.near link ≡ false
  pub far_may : may_open_at p.far other ≡ true
  pub unserved : in_service p.near.exchange.node.parts link ≡ false
  pub queue : queue_of p.near link ≡ first_queue
  pub silent : in_flight p.near.incoming.user_data link ≡ []
  pub untold : in_flight p.near.incoming.statuses link ≡ []
  pub empty : messages_in (in_flight p.far.incoming.user_data other) ≡ []

pub record IsCarried (p : PairState) : Type 0 where
  -- a link status that is in flight carries no message
  pub statuses : (other : ℕ) → messages_in (in_flight p.far.incoming.statuses other) ≡ []
  pub frames : OfEachLink p (λ link other. is_in_use p link other ≡ true → FramesCarry p link other)
  pub opening : OfEachLink p (λ link other. may_follow p.far other ≡ true → OpenedAlone p link other)
  pub next : OfEachLink p (NextIsFirst p)
  -- on a link that leads elsewhere nothing is in flight, and no end may follow there
  pub elsewhere : (link : ℕ) → far_end p link ≡ None →
      (in_flight p.near.incoming.user_data link ≡ [])
      × (in_flight p.near.incoming.statuses link ≡ [])
      × (may_follow p.near link ≡ false)

abbrev pub frames_carry : Type 0
frames_carry = WhileNothingIsLost IsCarried

-- ---- (ii) links open with no word left

-- what an order to change over, or the answer to one, says to the node that it comes to, if it is from this point and
-- for that node: which of its links it is about, and the number of the last message that its sender accepted there
abbrev pub word_from : (point : ℕ) → Configuration → Message → Option Word
word_from point c m =
    if is_management_between point c.own m then word_read c (opc_of m) (read_management m.sif) else None

-- what a message of the near end says to the far one
abbrev pub word_there : PairState → Message → Option Word
word_there p m = word_from p.near.exchange.settings.own p.far.exchange.settings m

-- the messages of the near end that the far end hasn't received: those of each link, which for a link that leads
-- elsewhere are all, and then those of Held
abbrev pub unreceived_by : PairState → (link : ℕ) → (other : Option ℕ) → List Message
unreceived_by p link (Some other) = unreceived_at p link other
unreceived_by p link None = (queue_of p.near link).all

abbrev pub unreceived : PairState → List Message
unreceived p =
    join_to (λ link. unreceived_by p link (far_end p link)) (length p.near.exchange.settings.links)
    ++ p.near.exchange.node.queues.held

-- a message among them says this to the far end
pub record IsUnderWay (p : PairState) (word : Word) : Type 0 where
  pub message : Message
  pub stands : Contains (unreceived p) message
  pub says : word_there p message ≡ Some word

-- User Data in flight to the far end says it, on a link that isn't down there
pub record IsInFlight (p : PairState) (word : Word) : Type 0 where
  pub link : ℕ
  pub up : is_down_at p.far link ≡ false
  pub message : Message
  pub carried : Contains (messages_in (in_flight p.far.incoming.user_data link)) message
  pub says : word_there p message ≡ Some word

-- if the near end wants a link to open, and it may open at the far end too, or the near end may follow that, no word
-- about it is under way or in flight from either end
pub record NoneIsLeftOf (p : PairState) (link other : ℕ) : Type 0 where
  pub there : (word : Word) → IsUnderWay p word ⊎ IsInFlight p word → word.link ≢ other
  pub back : (word : Word) → IsUnderWay (turned p) word ⊎ IsInFlight (turned p) word → word.link ≢ link

abbrev pub NoneIsLeft : PairState → Type 0
NoneIsLeft p =
    OfEachLink p
    (λ link other.
    wants_of p.near.exchange link ≡ Open →
    (may_open_at p.far other ≡ true) ⊎ (may_follow p.near link ≡ true) → NoneIsLeftOf p link other)

abbrev pub none_is_left : Type 0
none_is_left = WhileNothingIsLost NoneIsLeft

-- ---- (iii) words carry the final number

-- the link of a word is down at its sender, which so accepts nothing more there, and its number is that of the last
-- message that was accepted
pub record IsFinal (p : PairState) (word : Word) : Type 0 where
  pub link : ℕ
  pub its : far_end p link ≡ Some word.link
  pub down : is_down_at p.near link ≡ true
  pub number : word.number ≡ last_accepted (queue_of p.near link)

abbrev pub AreFinal : PairState → Type 0
AreFinal p = (word : Word) → IsUnderWay p word → IsFinal p word

abbrev pub words_are_final : Type 0
words_are_final = WhileNothingIsLost AreFinal

-- ---- (iv) completions move what the peer lacks

pub record MovesLacked (p : PairState) : Type 0 where
  -- while a link is in use, the number of the last message that the far end accepted names the count of those that it
  -- received
  pub named : OfEachLink p
      (λ link other.
      is_in_use p link other ≡ true →
      named_count (queue_of p.near link) (last_accepted (queue_of p.far other)) ≡ Some (queue_of p.far other).received)
  -- a word brought by the next frame of any link is one that was under way
  pub brought : (link : ℕ) (text : List ℕ) (message : Message) (word : Word) →
      slice_get (in_flight p.near.incoming.user_data link) 0 ≡ Some text →
      new_message link text p.near.exchange ≡ Some message →
      word_there (turned p) message ≡ Some word → IsUnderWay (turned p) word
  -- so whatever word of the far end completes the changeover, what goes elsewhere is just what the far end hasn't
  -- received
  pub moved : (word : Word) → IsUnderWay (turned p) word → (other : ℕ) → far_end p word.link ≡ Some other →
      is_in_use p word.link other ≡ true →
      behind (queue_of p.near word.link) (accepted_count (queue_of p.near word.link) (Some word.number))
      ≡ unreceived_at p word.link other

abbrev pub moves_are_lacked : Type 0
moves_are_lacked = WhileNothingIsLost MovesLacked
