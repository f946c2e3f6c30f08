-- The frame that goes out next on a link.
use Rattle.std.proofs.Common.{◌≡◌, ◌<◌, ◌≤◌, ◌^◌, ℕ, length, Some, None, ap, subst, arith}
use Rattle.std.specs.Prelude.{if◌then◌else◌, slice_get}
use Rattle.std.proofs.lemmas.List.{get_or_past}
use Rattle.settings.specs.Configuration.{Configuration}
use Rattle.m2pa_codec.specs.Frames.{FrameValue, EmptyFrame, MessageFrame, StatusFrame}
use Rattle.link.specs.Queue.{last_accepted, last_sent}
use Rattle.signalling_types.specs.Numbers.{previous_number}
use Rattle.node_links.specs.NodeLinks.{Link, down_link}
use Rattle.exchange_rules.specs.Lasting.{HasAllPlaces}
use Rattle.exchange_rules.specs.Queues.{WholeQueues, queue_at, whole}
use Rattle.exchange_rules.specs.Sending.{Outgoing, SendsStatus, SendsMessage, Acknowledges, SendsNothing, frame_from, frame_taken, goes_out, may_send, message_first, status_first}
use Rattle.exchange_rules.specs.State.{Node}

-- the numbers of a link status fit
abbrev pub Fits : FrameValue → Type 0
Fits (StatusFrame bsn fsn status) = (bsn < 2 ^ 24) × (fsn < 2 ^ 24)
Fits (EmptyFrame bsn fsn) = Unit {0}
Fits (MessageFrame bsn fsn sio sif) = Unit {0}

number-less : (count : ℕ) → previous_number count < 2 ^ 24
number-less count = omega arith

from-fits : (la ls : ℕ) (out : Outgoing) (frame : FrameValue) → la < 2 ^ 24 → ls < 2 ^ 24 → frame_from la ls out ≡ Some frame → Fits frame
from-fits la ls (SendsStatus status) frame l s e = (let same : StatusFrame la ls status ≡ frame = cc in subst Fits same (l, s))
from-fits la ls (SendsMessage next) frame l s e = (let same : MessageFrame la next.number next.message.sio next.message.sif ≡ frame = cc in subst Fits same tt)
from-fits la ls Acknowledges frame l s e = (let same : EmptyFrame la ls ≡ frame = cc in subst Fits same tt)
from-fits la ls SendsNothing frame l s e = absurd cc

pub taken-fits : (c : Configuration) (link : ℕ) (n : Node WholeQueues) (frame : FrameValue) → frame_taken whole c link n ≡ Some frame → Fits frame
taken-fits c link n frame e =
    from-fits (last_accepted (queue_at n.queues link)) (last_sent (queue_at n.queues link)) (goes_out whole c link n) frame (number-less _) (number-less _) e

-- none goes out on a link that isn't there
pub none-taken : (c : Configuration) (link : ℕ) (n : Node WholeQueues) → HasAllPlaces c n → length c.links ≤ link → frame_taken whole c link n ≡ None
none-taken c link n places past =
    ap (λ (y : Link). frame_from (last_accepted (queue_at n.queues link)) (last_sent (queue_at n.queues link))
    (status_first (slice_get y.waiting 0) (message_first (if may_send y then whole.to_send n.queues link c.window else None) y.acknowledgement_owed)))
    (get_or_past n.parts.links link down_link (omega (arith, past, places.parts.links)))
