-- What the User Data in flight carry from one end of a link to the other, and back.
use Rattle.std.specs.Prelude.{◌≡◌, ℕ, Bool, true, false, not, ◌+◌, ◌≤◌, ◌||◌, ◌&&◌, List, [], ◌∷◌, slice_get, Some}
use Rattle.signalling_types.specs.declared.limits.TheConstants.Limits.{WINDOW}
use Rattle.signalling_types.specs.Numbers.{previous_number}
use Rattle.link.specs.Queue.{Queue, IsQueue, first_queue, forward_number, named_count, last_accepted}
use Rattle.network_moves.specs.Networks.{Frame, EmptyFrame, MessageFrame, Live, Moved, LinkEnd, Line}
use Rattle.network_moves.specs.Returning.{MayOpen}

-- frames carry the messages of a queue from one count on, in order, up to the last that was sent
abbrev pub Carry : Queue → ℕ → List Frame → Type 0
Carry q from [] = from ≡ q.sent
Carry q from (EmptyFrame fsn bsn ∷ frames) = (fsn ≡ previous_number (q.base + from)) × Carry q from frames
Carry q from (MessageFrame fsn bsn message ∷ frames) =
    (fsn ≡ forward_number q from) × (slice_get q.all from ≡ Some message) × Carry q (from + 1) frames

-- the backward numbers of frames name counts from one on up to another, never falling
abbrev pub Name : ℕ → ℕ → List Frame → Type 0
Name from to [] = Unit {0}
Name from to (EmptyFrame fsn bsn ∷ frames) =
    (count : ℕ) × (from ≤ count) × (count ≤ to) × (bsn ≡ previous_number count) × Name count to frames
Name from to (MessageFrame fsn bsn message ∷ frames) =
    (count : ℕ) × (from ≤ count) × (count ≤ to) × (bsn ≡ previous_number count) × Name count to frames

-- the far end accepted the first messages of the near end's queue, as many as it counts. While it is up the User Data
-- in flight carry the others that were sent, and while the near end is up those that come back confirm some of the
-- first
pub record Flows (z : Line) : Type 0 where
  pub confirmed : z.near.queue.confirmed ≤ z.far.queue.received
  pub received : z.far.queue.received ≤ z.near.queue.sent
  pub carried : z.far.up ≡ true → Carry z.near.queue z.far.queue.received z.to_far
  pub named : z.near.up ≡ true → Name z.near.queue.confirmed z.far.queue.received z.to_near

-- no end may follow; and either end is up, or the near end's changeover isn't complete
abbrev pub is_in_use : Line → Bool
is_in_use z = not (z.near_may_follow || z.far_may_follow) && (z.near.up || z.near.incomplete || z.far.up)

-- law (i): this holds, unless an end may follow, while either end is up, and until the near end's changeover is
-- complete
abbrev pub IsFlowing : Line → Type 0
IsFlowing z = is_in_use z ≡ true → Flows z

-- in place of it, while the far end may follow: that end may still open, and has no message. The near end opened first,
-- and may have failed since. It isn't in service, has nothing to complete, heard nothing, and its queue is as it began.
-- Nothing is in flight to it, no link status either, and what is in flight to the far end carries no message and
-- confirms none
pub record OpenedAlone (z : Line) : Type 0 where
  pub alone : z.near_may_follow ≡ false
  pub far_may : MayOpen z.far
  pub far_live : z.far.phase ≡ Live
  pub far_empty : z.far.queue.all ≡ []
  pub unserved : z.near.serving ≡ false
  pub complete : z.near.incomplete ≡ false
  pub unawaited : z.near.awaited ≡ false
  pub unheard : z.near.heard ≡ false
  pub live : z.near.phase ≡ Live
  pub queue : z.near.queue ≡ first_queue
  pub silent : z.to_near ≡ []
  pub untold : z.told_near ≡ 0
  pub carried : Carry first_queue 0 z.to_far
  pub named : Name 0 0 z.to_far

abbrev pub OpensAlone : Line → Type 0
OpensAlone z = z.far_may_follow ≡ true → OpenedAlone z

-- how an end of a link is: its queue is numbered from 0; in service it is up, and while a changeover goes on, or an
-- answer is awaited, it is down; once its changeover is complete it is down and has nothing to complete, until it opens
-- again; and before, a message is there only in service or while its changeover goes on
pub record IsEnd (x : LinkEnd) : Type 0 where
  pub queue : IsQueue WINDOW x.queue
  pub base : x.queue.base ≡ 0
  pub serving : x.serving ≡ true → x.up ≡ true
  pub incomplete : x.incomplete ≡ true → x.up ≡ false
  pub awaited : x.awaited ≡ true → x.up ≡ false
  pub live_up : x.up ≡ true → x.phase ≡ Live
  pub live_incomplete : x.incomplete ≡ true → x.phase ≡ Live
  pub idle : x.phase ≡ Live → (x.serving || x.incomplete) ≡ false → x.queue.all ≡ []

-- an end that moved its messages by a number has another end that is down: so that one accepts no more of them
abbrev pub MovesAlone : Line → Type 0
MovesAlone z = z.near.phase ≡ Moved → z.far.up ≡ false

-- law (iv): while law (i) holds, the number of the last message that the far end accepted names the count of all that
-- it received. So a completion with that number moves just the messages that it lacks
abbrev pub NamesReceived : Line → Type 0
NamesReceived z =
    is_in_use z ≡ true → named_count z.near.queue (last_accepted z.far.queue) ≡ Some z.far.queue.received
