-- The message that a frame newly carries, and the count of what was received: laws.
use Rattle.std.specs.Prelude.{◌≡◌, ◌+◌, ◌&&◌, ℕ, Bool, true, false, not, nat_eq, is_some, List, Option, Some, None, Result, Ok, Err, if◌then◌else◌}
use Rattle.signalling_types.specs.Message.{Message}
use Rattle.signalling_types.specs.declared.cause.Cause.TheVariants.{NoSuchName}
use Rattle.signalling_types.specs.declared.outcome.Outcome.{Outcome}
use Rattle.signalling_types.specs.declared.outcome.Outcome.TheVariants.{Handled, Ignored, Refused}
use Rattle.signalling_types.specs.declared.notice.FrameFault.{FrameFault}
use Rattle.settings.specs.Configuration.{Configuration}
use Rattle.m2pa_codec.specs.Frames.{FrameValue, read_frame}
use Rattle.link.specs.declared.action.Action.{Action}
use Rattle.link.specs.declared.action.Action.TheVariants as act
use Rattle.link.specs.declared.action.Input.TheVariants.{UserData}
use Rattle.link.specs.declared.fault.SeqFault.{SeqFault}
use Rattle.node_links.specs.NodeLinks.{acts_on}
use Rattle.exchange_rules.specs.State.{Happening, CameUp, FrameCame, Node, is_link, link_at, down}
use Rattle.exchange_rules.specs.Frames.{advance, Carrying, data_of, numbers}
use Rattle.exchange_rules.specs.Queues.{WholeQueues, queue_at, whole}
use Rattle.exchange_rules.specs.Exchange.{outcome_of, after, taken}
use Rattle.exchange_rules.specs.Lasting.{HasAllPlaces}
use Rattle.exchange_rules.specs.First.{Abstract}

-- the message of User Data, by what its numbers say: none if one of them is wrong
abbrev pub new_by : Result ℕ SeqFault → Carrying → Option Message
new_by (Ok confirmed) d = d.message
new_by (Err fault) d = None

-- by what its link does about User Data: none if it ignores that, or fails
abbrev pub new_at : Action → ℕ → Carrying → Configuration → Node WholeQueues → Option Message
new_at act.Ignored link d c node = None
new_at act.Fail link d c node = None
new_at (act.Go step) link d c node = new_by (numbers whole c link d (advance whole c link step node)) d

-- that of a frame: a link status has none
abbrev pub new_in : Option Carrying → ℕ → Configuration → Node WholeQueues → Option Message
new_in None link c node = None
new_in (Some d) link c node = new_at (acts_on (link_at node.parts link) UserData) link d c node

abbrev pub new_of : Result FrameValue FrameFault → ℕ → Configuration → Node WholeQueues → Option Message
new_of (Ok frame) link c node = new_in (data_of frame) link c node
new_of (Err fault) link c node = None

-- the message that a frame newly carries: none if its link isn't there or is down, if it can't be read, if it isn't
-- User Data or the link doesn't expect that, if one of its numbers is wrong, or if it carries none
abbrev pub new_message : ℕ → List ℕ → Abstract → Option Message
new_message link text a =
    if is_link a.node.parts link && not (down a.node.parts link)
    then new_of (read_frame text) link a.settings a.node
    else None

-- how many messages an event newly brings by a link
abbrev pub brought : Happening → Abstract → (link : ℕ) → ℕ
brought (FrameCame its text) a link = if nat_eq its link && is_some (new_message its text a) then 1 else 0
brought what a link = 0

-- whether an event begins an epoch of a link, if any begins
abbrev pub is_beginning : Happening → (link : ℕ) → Bool
is_beginning (CameUp its) link = nat_eq its link
is_beginning what link = false

-- how many messages were received on a link in its epoch
abbrev pub received : Node WholeQueues → (link : ℕ) → ℕ
received node link = (queue_at node.queues link).received

-- it rises by one exactly when a frame newly carries a message there
abbrev pub received_is_counted : Type 0
received_is_counted =
    (what : Happening) (a : Abstract) (link : ℕ) → HasAllPlaces a.settings a.node → is_beginning what link ≡ false →
    received (after whole what a).node link ≡ received a.node link + brought what a link

-- and by no take
abbrev pub takes_receive_nothing : Type 0
takes_receive_nothing =
    (a : Abstract) (link other : ℕ) → received (taken whole a link).node other ≡ received a.node other

-- the outcome of a frame that delivers nothing
abbrev pub is_idle : Outcome → Bool
is_idle Handled = true
is_idle Ignored = true
is_idle (Refused NoSuchName) = true
is_idle outcome = false

-- a frame that newly carries no message delivers none
abbrev pub nothing_new_is_delivered : Type 0
nothing_new_is_delivered =
    (a : Abstract) (link : ℕ) (text : List ℕ) → new_message link text a ≡ None →
    is_idle (outcome_of whole (FrameCame link text) a) ≡ true
