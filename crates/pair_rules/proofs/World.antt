-- Two nodes in the midst of an event at the near one, and the machine of moves as it shows them.
use Rattle.pair_rules.proofs.Basics.{ℕ, Bool, true, false, not, nat_eq, List, Option, Some, None, Ok, Err, Result, if◌then◌else◌}
use Rattle.pair_rules.proofs.Definitions.{Message, is_management, LinkEntry, FrameValue, EmptyFrame, MessageFrame, StatusFrame, read_management, MgmtFault, Management, Node, Parts, Alignment, Down, NotAligned, Aligned, Proving, AlignedReady, InService, down, in_service, link_at, WholeQueues, queue_at, changeover_of, Saying, UserMessage, Order, Answer, Declaration, Confirmation, LinkEnd, Frame}
use Rattle.std.specs.Prelude.{position}
use Rattle.mtp3_codec.specs.declared.management.Management.TheVariants as says
use Rattle.pair_moves.specs.Ends as ends

-- ---- two nodes, and what is between them

-- a node at work: the messages that came and weren't looked at yet, and those that stand nowhere yet
pub record Mid : Type 0 where
  pub node : Node WholeQueues
  pub arrived : List Message
  pub loose : List Message
  pub accepted : List Message
  pub received : List Message

-- what is in flight to a node on each link: link statuses, and User Data
pub record Flying : Type 0 where
  pub statuses : ℕ → List FrameValue
  pub user_data : ℕ → List FrameValue

pub record World : Type 0 where
  pub near : Mid
  pub far : Mid
  pub to_near : Flying
  pub to_far : Flying
  -- an end may follow the other
  pub near_may : ℕ → Bool
  pub far_may : ℕ → Bool

abbrev pub turned_world : World → World
turned_world w = record { near = w.far; far = w.near; to_near = w.to_far; to_far = w.to_near; near_may = w.far_may; far_may = w.near_may }

-- ---- what messages say

-- the link with a signalling link code, where all links are of one set
abbrev pub link_of_code : List LinkEntry → (slc : ℕ) → Option ℕ
link_of_code links slc = position (λ (l : LinkEntry). nat_eq l.slc slc) links

abbrev pub said_by : Saying → (ℕ → Saying) → Option ℕ → Saying
said_by if_none says (Some link) = says link
said_by if_none says None = if_none

-- what no peer of ours says
abbrev pub unsaid : Saying
unsaid = Confirmation 0

abbrev pub management_says : List LinkEntry → Management → Saying
management_says links (says.ExtendedChangeoverOrder slc number) = said_by unsaid (λ link. Order link number) (link_of_code links slc)
management_says links (says.ExtendedChangeoverAcknowledgement slc number) = said_by unsaid (λ link. Answer link number) (link_of_code links slc)
management_says links (says.ChangebackDeclaration slc code) = Declaration code
management_says links (says.ChangebackAcknowledgement slc code) = Confirmation code
management_says links _ = unsaid

abbrev pub read_says : List LinkEntry → Result Management MgmtFault → Saying
read_says links (Ok m) = management_says links m
read_says links (Err fault) = unsaid

-- what a message says to the other end, whose links have the same codes
abbrev pub says_of : List LinkEntry → Message → Saying
says_of links m = if is_management m then read_says links (read_management m.sif) else UserMessage

-- ---- what is shown of a node

-- whether a link heard the other end since it opened
abbrev pub is_heard : Alignment → Bool
is_heard Down = false
is_heard NotAligned = false
is_heard Aligned = true
is_heard (Proving ready) = true
is_heard AlignedReady = true
is_heard InService = true

abbrev pub heard : Parts → (link : ℕ) → Bool
heard p link = is_heard (link_at p link).alignment

abbrev pub end_of : Node WholeQueues → (link : ℕ) → LinkEnd
end_of n link = record {
  queue = queue_at n.queues link;
  up = not (down n.parts link);
  serving = in_service n.parts link;
  incomplete = (changeover_of n.parts link).incomplete;
  awaited = (changeover_of n.parts link).awaited;
  heard = heard n.parts link;
}

-- (a link status isn't among User Data)
abbrev pub frame_of : FrameValue → Frame
frame_of (EmptyFrame bsn fsn) = ends.EmptyFrame fsn bsn
frame_of (MessageFrame bsn fsn sio sif) = ends.MessageFrame fsn bsn (record { sio = sio; sif = sif })
frame_of (StatusFrame bsn fsn status) = ends.EmptyFrame fsn bsn
