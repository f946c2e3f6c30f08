-- A run of the mated pair of `MatedPair`: the only link from point 1 to point 3 fails, with a message on it that came
-- and wasn't confirmed, and one that didn't come. The orders and the answers go by the mate, point 2, and so does the
-- second message. Each comes once.
use Rattle.std.specs.Prelude.{◌≡◌, ℕ, true, false, not, List, [], ◌∷◌, ◌++◌, filter, length, Result, Ok, if◌then◌else◌}
use Rattle.signalling_types.specs.Message.{Message, is_management}
use Rattle.signalling_types.specs.declared.outcome.Outcome.TheVariants.{Local, Queued}
use Rattle.mtp3_codec.specs.Management.{read_management}
use Rattle.mtp3_codec.specs.declared.fault.MgmtFault.{MgmtFault}
use Rattle.mtp3_codec.specs.declared.management.Management.{Management}
use Rattle.mtp3_codec.specs.declared.management.Management.TheVariants as says
use Rattle.changeover.specs.Changeover.{may_restart}
use Rattle.exchange_rules.specs.ChangingOver.{changeover_of}
use Rattle.exchange_rules.specs.State.{down, lost_any}
use Rattle.node_moves.specs.EndToEnd.{to_user_parts}
use Rattle.node_moves.specs.Fates.{is_delivered, met_at}
use Rattle.node_moves.specs.Laws.{AreTheirs, IsUnbroken, waits_at}
use Rattle.node_moves.specs.MatedPair.{mated}
use Rattle.node_moves.specs.Networks.{Fate, NetworkNode, NetworkState, LinkEnd, Doing, Submits, Takes, Delivers}
use Rattle.node_moves.specs.Networks.{DeliversStatus, Loses, Ticks, OpensFirst, OpensSecond, Step, after_steps}
use Rattle.node_moves.specs.Networks.{first_network, messages_of}

-- two messages of the ISDN user part from point 1 to point 3, with selection 0
abbrev pub message_one : Message
message_one = record { sio = 133; sif = 3 ∷ 64 ∷ 0 ∷ 0 ∷ 7 ∷ [] }

abbrev pub message_two : Message
message_two = record { sio = 133; sif = 3 ∷ 64 ∷ 0 ∷ 0 ∷ 8 ∷ [] }

-- ---- steps

-- a link, seen from one of its ends
pub record Line : Type 0 where
  pub here : LinkEnd
  pub there : LinkEnd

abbrev pub turned : Line → Line
turned l = record { here = l.there; there = l.here }

-- between points 1 and 3; between the mates; and between points 2 and 3
abbrev pub direct : Line
direct = record { here = record { point = 1; link = 0 }; there = record { point = 3; link = 0 } }

abbrev pub cross : Line
cross = record { here = record { point = 1; link = 2 }; there = record { point = 2; link = 2 } }

abbrev pub onward : Line
onward = record { here = record { point = 2; link = 0 }; there = record { point = 3; link = 1 } }

-- something is done at an end of a link
abbrev pub done_at : LinkEnd → (ℕ → Doing) → Step
done_at end what = record { point = end.point; what = what end.link }

-- a link status goes over a link; User Data does
abbrev pub tells : Line → List Step
tells l = done_at l.here Takes ∷ done_at l.there DeliversStatus ∷ []

abbrev pub sends : Line → List Step
sends l = done_at l.here Takes ∷ done_at l.there Delivers ∷ []

-- a link opens at one end after the other, and both ends prove it
abbrev pub aligns : Line → List Step
aligns l =
    done_at l.here OpensFirst ∷ done_at l.there OpensSecond
    ∷ tells l ++ tells (turned l) ++ tells (turned l) ++ tells l

-- both ends are ready
abbrev pub serves : Line → List Step
serves l = tells l ++ tells (turned l)

-- the three links enter service
abbrev pub opening : List Step
opening =
    aligns direct ++ aligns onward ++ aligns cross
    ++ record { point = 1; what = Ticks } ∷ record { point = 2; what = Ticks } ∷ record { point = 3; what = Ticks }
    ∷ serves direct ++ serves onward ++ serves cross

-- a link fails at one end after the other
abbrev pub fails : Line → List Step
fails l = done_at l.here Loses ∷ done_at l.there Loses ∷ []

-- what waits at each end goes out, a frame of each
abbrev pub round : List Step
round =
    sends direct ++ sends (turned direct) ++ sends onward ++ sends (turned onward) ++ sends cross
    ++ sends (turned cross)

-- all that the nodes tell each other of routes comes
abbrev pub settling : List Step
settling = round ++ round ++ round ++ round ++ round ++ round ++ round

abbrev pub submits : Message → Step
submits message = record { point = 1; what = Submits message }

-- the order from point 1 comes by the mate to point 3; that from there comes to the mate, and is on its way on
abbrev pub ordering : List Step
ordering = sends cross ++ sends onward ++ sends (turned onward) ++ done_at (turned cross).here Takes ∷ []

-- once it came, what the nodes tell the mate of routes comes there, and both answers come by the mate; then the second
-- message is on its way to it
abbrev pub answering : List Step
answering =
    sends cross ++ sends cross ++ sends onward ++ sends (turned onward) ++ sends (turned onward) ++ sends (turned cross)
    ++ done_at cross.here Takes ∷ []

-- ---- states, each by steps from the one before

abbrev pub served : NetworkState
served = after_steps mated (opening ++ settling) (first_network mated)

-- the first message comes
abbrev pub sent : NetworkState
sent = after_steps mated (submits message_one ∷ sends direct) served

-- the second is on its way as the link fails
abbrev pub failed : NetworkState
failed = after_steps mated (submits message_two ∷ done_at direct.here Takes ∷ fails direct ++ ordering) sent

abbrev pub moved : NetworkState
moved = after_steps mated (done_at cross.here Delivers ∷ answering) failed

-- it comes by the mate
abbrev pub come : NetworkState
come = after_steps mated (done_at cross.there Delivers ∷ sends onward) moved

-- ---- and what they show

-- the user messages of a list, and those that came, with their fates
abbrev pub users : List Message → List Message
users ms = filter (λ m. not (is_management m)) ms

abbrev pub users_in : List Fate → List Fate
users_in fs = filter (λ f. not (is_management f.message)) fs

-- one is delivered to its user part, or goes on by a link
abbrev pub delivered : Message → Fate
delivered m = record { message = m; outcome = Local }

abbrev pub queued : (link : ℕ) → Message → Fate
queued link m = record { message = m; outcome = Queued link }

pub data Word : Type 0 where
  AnOrder : Word
  AnAnswer : Word

abbrev pub word_in : Result Management MgmtFault → List Word
word_in (Ok (says.ExtendedChangeoverOrder slc number)) = AnOrder ∷ []
word_in (Ok (says.ExtendedChangeoverAcknowledgement slc number)) = AnAnswer ∷ []
word_in read = []

-- the orders to change over and the answers of a list
abbrev pub words : List Message → List Word
words [] = []
words (m ∷ ms) = (if is_management m then word_in (read_management m.sif) else []) ++ words ms

-- a node counts no possible loss, and no message named as lost
pub record LostNothing (x : NetworkNode) : Type 0 where
  pub lossless : lost_any x.node.parts ≡ false
  pub none_named : x.node.parts.messages_lost ≡ 0

pub record ComesByTheMate : Type 0 where
  -- what the node law asks
  pub theirs : AreTheirs mated
  pub unbroken : IsUnbroken mated come
  -- the first message comes by the direct link, once, and is delivered to its user part
  pub comes : users_in ((sent.node 3).came 0) ≡ delivered message_one ∷ []
  -- the second is in flight there, and the link is down at both ends
  pub flies : length ((failed.node 3).user_data 0) ≡ 1
  pub down_here : down (failed.node 1).node.parts 0 ≡ true
  pub down_there : down (failed.node 3).node.parts 0 ≡ true
  -- to either end an order comes by the mate, and an answer
  pub words_here : words (messages_of ((come.node 1).came 2)) ≡ AnOrder ∷ AnAnswer ∷ []
  pub words_there : words (messages_of ((come.node 3).came 1)) ≡ AnOrder ∷ AnAnswer ∷ []
  -- the second message comes to the mate, and from there, once; and neither comes again
  pub passes : users_in ((come.node 2).came 2) ≡ queued 0 message_two ∷ []
  pub comes_on : users_in ((come.node 3).came 1) ≡ delivered message_two ∷ []
  pub comes_once : users_in ((come.node 3).came 0) ≡ delivered message_one ∷ []
  -- both were accepted and delivered, no user message waits at point 1, and no node lost anything
  pub accepted : users (come.node 1).accepted ≡ message_one ∷ message_two ∷ []
  pub both_delivered : met_at mated come (is_delivered (mated 3)) (to_user_parts 3 (λ m. true)) 3 ≡ 2
  pub none_waits : waits_at mated come (λ m. true) 1 ≡ 0
  pub near_lossless : LostNothing (come.node 1)
  pub mate_lossless : LostNothing (come.node 2)
  pub far_lossless : LostNothing (come.node 3)
  pub last_lossless : LostNothing (come.node 4)
  -- and the link may open again
  pub opens_here : may_restart (changeover_of (come.node 1).node.parts 0) ≡ true
  pub opens_there : may_restart (changeover_of (come.node 3).node.parts 0) ≡ true
