-- The state of an exchange, with queues of any kind.
use Rattle.std.specs.Prelude.{ℕ, zero, suc, Bool, true, false, List, Option, Result, if◌then◌else◌, nat_lt, length, slice_set, [], ◌∷◌, ◌++◌, ◌+◌, ◌-◌, ◌%◌, ◌^◌, min}
use Rattle.signalling_types.specs.Message.{Message}
use Rattle.settings.specs.Configuration.{Configuration, TitleEntry}
use Rattle.signalling_types.specs.declared.cause.Cause.{Cause}
use Rattle.signalling_types.specs.declared.notice.Notice.{Notice}
use Rattle.signalling_types.specs.declared.outcome.Outcome.{Outcome}
use Rattle.signalling_types.specs.declared.outcome.Outcome.TheVariants.{Refused, Queued, Held, Local, Handled, Ignored}
use Rattle.link.specs.Queue.{Sending}
use Rattle.link.specs.declared.fault.SeqFault.{SeqFault}
use Rattle.timers.specs.Timers.{Running}
use Rattle.routes.specs.declared.route.Route.{Route}
use Rattle.node_links.specs.NodeLinks.{Link, is_down, is_in_service, carries_traffic, link_in}
use Rattle.changeover.specs.Changeover.{Standing}
use Rattle.changeback.specs.Codes.{Codes}
use Rattle.route_management.specs.Told.{ToldTable}
use Rattle.flow_hold.specs.Holds.{HoldSet}
use Rattle.sccp_codec.specs.declared.title.TitleKey.{TitleKey}
use Rattle.sccp_relay.specs.Statuses.{TitlesValue}
use Rattle.circular_buffer.specs.Buffer.{keep_last}
use Rattle.signalling_types.specs.declared.limits.TheConstants.Limits.{NOTICES}
use Rattle.signalling_types.specs.declared.notice.Notice.TheVariants as notices

-- what happens next: `node ▷ fail link ▷ release` fails the link, and then releases what is held
infixl 20 ◌▷◌
abbrev pub ◌▷◌ : {A B : Type 0} → A → (A → B) → B
x ▷ f = f x

-- a guard: unless the test holds, this is what becomes of it, and nothing after is looked at
infix 5 unless◌then◌else◌
abbrev pub unless◌then◌else◌ : {A : Type 0} → Bool → A → A → A
unless test then otherwise else next = if test then next else otherwise

-- The notices that an operator can still read, the oldest first, and how many there ever were, modulo 2 ^ 64.
pub record Noted : Type 0 where
  pub last : List Notice
  pub count : ℕ

-- All that isn't a queue.
pub record Parts : Type 0 where
  pub links : List Link
  -- for each destination the sets that lead there, each with its status
  pub routes : List (List Route)
  -- what the adjacent point of each set was told of each destination
  pub told : ToldTable
  -- for each link, how far its changeover is
  pub changeovers : List Standing
  -- for each set, which changeback codes wait for their answer
  pub codes : Codes
  pub holds : HoldSet
  -- the translation rows, in their order, and which of the subsystems that they lead to are prohibited
  pub titles : TitlesValue
  -- for each destination, how many messages for user parts that aren't here came from it, modulo 8
  pub unequipped : List ℕ
  pub timers : Running
  pub notices : Noted
  -- how often a message may have been lost since the node was booted, 2 ^ 64 - 1 at most
  pub times_lost : ℕ
  -- how many messages were named as lost since then, as many at most
  pub messages_lost : ℕ
  -- how often since then a changeover ended so that what the other end has of its link isn't known for sure: the answer
  -- to its order was awaited no more, though it didn't come, or a number came that names no count; as often at most
  pub times_broken : ℕ
  -- how often messages of a flow may have gone out of order since then, 2 ^ 64 - 1 at most
  pub times_late : ℕ

-- a flag is raised if what raises it happened
abbrev pub is_raised : ℕ → Bool
is_raised zero = false
is_raised (suc times) = true

-- whether a message may have been lost since the node was booted
abbrev pub lost_any : Parts → Bool
lost_any p = is_raised p.times_lost

-- whether messages of a flow may have gone out of order since then
abbrev pub late_any : Parts → Bool
late_any p = is_raised p.times_late

-- What a completion finds on a link, by the number that its peer gave: whether that names a count, whether it gave one
-- that names none, the user messages that are named as lost, and the management messages that are queued again.
pub record Found : Type 0 where
  pub is_reasonable : Bool
  pub is_wrong : Bool
  pub lost : List Message
  pub queued_anew : List Message

-- What changes as a node runs. Q is Held and the queues of all links together.
pub record Node (Q : Type 0) : Type 0 where
  pub queues : Q
  pub parts : Parts

-- By which sets flows went: for each destination and each of its selections the set by which the flow went last, if it
-- went by one; and how often a flow was rerouted since the node was booted, 2 ^ 64 - 1 at most: it changed its set, but
-- away from its destination's own. Nothing that the node does depends on it.
pub record Reroutings : Type 0 where
  pub last_sets : List (List (Option ℕ))
  pub times : ℕ

-- A node with the settings that it was booted with, and the reroutings of its flows.
pub record State (Q : Type 0) : Type 0 where
  pub settings : Configuration
  pub node : Node Q
  pub reroutings : Reroutings

-- What became of an event, and the node after it.
pub record Done (Q : Type 0) : Type 0 where
  pub outcome : Outcome
  pub left : Node Q

-- What the rules ask of queues and do with them: each at one link, or in Held.
pub record QueueKind (Q : Type 0) : Type 0 where
  pub started : Q → ℕ → Q
  pub appended : Q → ℕ → Message → Q
  pub accept_answer : Q → ℕ → ℕ → ℕ → Bool → Result ℕ SeqFault
  pub accepted : Q → ℕ → ℕ → ℕ → Bool → Q
  pub to_send : Q → ℕ → ℕ → Option Sending
  pub sent_one : Q → ℕ → ℕ → Q
  -- the messages of a link that aren't confirmed, sent or not
  pub unconfirmed : Q → ℕ → List Message
  -- what a completion finds on a link, and what it leaves: the user messages that move go before all of Held, and
  -- nothing stays on the link
  pub found : Q → ℕ → Option ℕ → Found
  pub completed : Q → ℕ → Option ℕ → Q
  -- the messages of Held; one more at its end; none
  pub held : Q → List Message
  pub holding : Q → Message → Q
  pub without_held : Q → Q
  -- how many messages were sent and aren't confirmed
  pub outstanding : Q → ℕ → ℕ
  pub last_sent : Q → ℕ → ℕ
  pub last_accepted : Q → ℕ → ℕ
  -- how many messages of each kind are in all queues and in Held
  pub users : Q → ℕ
  pub managements : Q → ℕ

-- the same settings with another node
abbrev pub with_node : {Q : Type 0} → State Q → Node Q → State Q
with_node s node = record s { node = node }

-- the same queues with other parts
abbrev pub with_parts : {Q : Type 0} → Node Q → Parts → Node Q
with_parts node parts = record node { parts = parts }

-- another kind of queues with the same parts
abbrev pub keep : {P Q : Type 0} → (P → Q) → Node P → Node Q
keep h node = record { queues = h node.queues; parts = node.parts }

-- an answer that leaves this node
abbrev pub answer : {Q : Type 0} → Outcome → Node Q → Done Q
answer outcome node = record { outcome = outcome; left = node }

-- a refusal that leaves this node
abbrev pub refuse : {Q : Type 0} → Cause → Node Q → Done Q
refuse cause node = answer (Refused cause) node

-- ---- What happens to an exchange, and what it is asked, as plain data.

pub data Happening : Type 0 where
  CameUp : (link : ℕ) → Happening
  WentDown : (link : ℕ) → Happening
  FrameCame : (link : ℕ) (text : List ℕ) → Happening
  Ticked : Happening
  Submitted : (message : Message) → Happening
  Activated : (link : ℕ) (emergency : Bool) → Happening
  Deactivated : (link : ℕ) → Happening
  -- the operator lets a link open whose answer is awaited
  Released : (link : ℕ) → Happening
  -- a translation row is added, if memory for it isn't refused
  TitleAdded : (row : TitleEntry) (is_memory_refused : Bool) → Happening
  TitleSet : (row : TitleEntry) (is_memory_refused : Bool) → Happening
  TitleRemoved : (key : TitleKey) (digits : List ℕ) → Happening

pub data Asking : Type 0 where
  Happens : (what : Happening) → Asking
  Takes : (link : ℕ) → Asking
  AsksWants : (link : ℕ) → Asking

-- ---- The links of a node, by their numbers (TLAC, Q.704 §3.2).

abbrev pub is_link : Parts → ℕ → Bool
is_link p link = nat_lt link (length p.links)

-- one that isn't there is down
abbrev pub link_at : Parts → ℕ → Link
link_at p link = link_in p.links link

abbrev pub down : Parts → ℕ → Bool
down p link = is_down (link_at p link).alignment

abbrev pub in_service : Parts → ℕ → Bool
in_service p link = is_in_service (link_at p link).alignment

-- whether a link carries traffic: one in service that has no test to pass before
abbrev pub in_traffic : Parts → ℕ → Bool
in_traffic p link = carries_traffic (link_at p link)

-- one link in another state
abbrev pub links_with : Parts → ℕ → Link → List Link
links_with p link state = slice_set p.links link state

abbrev pub with_link : Parts → ℕ → Link → Parts
with_link p link state = record p { links = links_with p link state }

-- ---- Notices: what an operator is told.

-- the last 64 notices are kept, and all are counted
abbrev pub noted : Notice → Noted → Noted
noted notice n = record {
  last = keep_last NOTICES (n.last ++ notice ∷ []);
  count = (n.count + 1) % 2 ^ 64;
}

-- how many notices were made since there were this many
abbrev pub made_since : ℕ → Noted → ℕ
made_since count n = (n.count + 2 ^ 64 - count) % 2 ^ 64

-- several, one after the other
abbrev pub noted_all : List Notice → Noted → Noted
noted_all [] n = n
noted_all (notice ∷ others) n = noted_all others (noted notice n)

abbrev pub note : Notice → Parts → Parts
note notice p = record p { notices = noted notice p.notices }

-- one more, if that can be counted
abbrev pub once_more : ℕ → ℕ
once_more times = suc (min times (2 ^ 64 - 2))

-- a message may have been lost from now on
abbrev pub flagged : Parts → Parts
flagged p = record p { times_lost = once_more p.times_lost }

-- a message was named as lost
abbrev pub counted_lost : Parts → Parts
counted_lost p = record p { messages_lost = once_more p.messages_lost }

-- if a changeover ended so that what the other end has isn't known for sure
abbrev pub broken_if : Bool → Parts → Parts
broken_if breaks p = record p { times_broken = if breaks then once_more p.times_broken else p.times_broken }

-- messages may have gone out of order from now on
abbrev pub flagged_late : Parts → Parts
flagged_late p = record p { times_late = once_more p.times_late }

-- a message in a frame that is refused makes a notice
abbrev pub note_outcome : ℕ → Outcome → Parts → Parts
note_outcome link (Refused cause) p = note (notices.Refused cause link) p
note_outcome link (Queued other) p = p
note_outcome link Held p = p
note_outcome link Local p = p
note_outcome link Handled p = p
note_outcome link Ignored p = p

abbrev pub note_refusal : {Q : Type 0} → ℕ → Done Q → Done Q
note_refusal link d = record d { left = with_parts d.left (note_outcome link d.outcome d.left.parts) }
