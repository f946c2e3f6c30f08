-- No frame is longer than an endpoint takes: no message of a queue has more octets than a field has, one that the far
-- exchange takes for its own, or one that passes by.
use Rattle.std.proofs.Common.{◌≡◌, ◌≤◌, ◌+◌, ℕ, arith, Bool, true, false, List, ◌∷◌, Option, Some, None, length, refl, sym, subst}
use Rattle.std.proofs.lemmas.Bool.Decides.{nat_tests}
use Rattle.std.specs.Prelude.{if◌then◌else◌, nat_lt, slice_get}
use Rattle.signalling_types.specs.Message.{Message}
use Rattle.signalling_types.specs.declared.cause.Cause.TheVariants as causes
use Rattle.signalling_types.specs.declared.limits.TheConstants.Limits.{SIF_OCTETS}
use Rattle.mtp3_codec.specs.declared.discrimination.Discrimination.TheVariants as whither
use Rattle.mtp3_codec.specs.declared.label.Label.{Label}
use Rattle.mtp3_codec.specs.Headings.{discrimination}
use Rattle.settings.specs.Configuration.{Configuration}
use Rattle.m2pa_codec.specs.Frames.{FrameValue, EmptyFrame, MessageFrame, StatusFrame, spelled}
use Rattle.m2pa_codec.specs.declared.status.LinkStatus.{LinkStatus}
use Rattle.link.specs.Queue.{Sending, Queue, to_send, numbered, forward_number}
use Rattle.exchange_rules.specs.State.{link_at}
use Rattle.exchange_rules.specs.Sending.{Outgoing, SendsStatus, SendsMessage, Acknowledges, SendsNothing, message_first, status_first, may_send, frame_from, next_message, goes_out}
use Rattle.exchange_rules.specs.Exchange.{frame_to_take}
use Rattle.exchange_rules.specs.First.{Abstract}
use Rattle.exchange_rules.specs.Queues.{queue_at, whole}
use Rattle.exchange_rules.specs.Messages.{whither_goes}
use Rattle.pair_rules.specs.Pairs.{PairState, first_pair}
use Rattle.pair_rules.proofs.Good.{Each, each-get}
use Rattle.neighbour_rules.specs.Neighbours.{after_steps}
use Rattle.neighbour_rules.proofs.Good.{IsSent, made, accepted, passes_by}
use Rattle.neighbour_rules.proofs.Sharing.{AreFacing, from_first}
use Rattle.neighbour_rules.proofs.Standing.{Stands}
use Rattle.neighbour_rules.proofs.Promised.{all-stand, for_each_other}
use Rattle.node_rules.specs.Worlds.{Make, World, new_world, last_world}
use Rattle.node_rules.specs.Promises.{IsShort, BothAreShort, frames_are_short}
use Rattle.node_rules.proofs.Runs.{IsRun, all-run, facing}

-- ---- a message that the far exchange takes for its own

goes-here : (z : Configuration) (m : Message) (label : Label) → whither_goes z m ≡ whither.Here label → length m.sif ≤ SIF_OCTETS
goes-here z m label here = by (nat_lt SIF_OCTETS (length m.sif)) refl here where
  by : (long : Bool) → nat_lt SIF_OCTETS (length m.sif) ≡ long → (if long then whither.Refused causes.TooLong else discrimination m z.own z.network) ≡ whither.Here label
      → length m.sif ≤ SIF_OCTETS
  by true e f = absurd cc
  by false e f = grind (arith, nat_tests, e)

short-enough : (c z : Configuration) (there set : ℕ) (m : Message) → IsSent c z there set m → length m.sif ≤ SIF_OCTETS
short-enough c z there set m (made b) = goes-here z m b.label b.here
short-enough c z there set m (accepted b) = b.short
short-enough c z there set m (passes_by other short) = short

-- ---- frames

status-short : (bsn fsn : ℕ) (status : LinkStatus) → IsShort (StatusFrame bsn fsn status)
status-short bsn fsn status = record { some = omega arith; fits = omega arith }

empty-short : (bsn fsn : ℕ) → IsShort (EmptyFrame bsn fsn)
empty-short bsn fsn = record { some = omega arith; fits = omega arith }

message-short : (bsn fsn sio : ℕ) (sif : List ℕ) → length sif ≤ SIF_OCTETS → IsShort (MessageFrame bsn fsn sio sif)
message-short bsn fsn sio sif short =
    let long : 16 + length (0 ∷ sio ∷ sif) ≡ length (spelled (MessageFrame bsn fsn sio sif)) = omega arith in
    record { some = omega (arith, long); fits = omega (arith, long, short) }

some-is : {A : Type 0} (x y : A) → Some x ≡ Some y → x ≡ y
some-is x y e = cc

-- ---- what goes out

from-out : (bsn fsn : ℕ) (out : Outgoing) → ((next : Sending) → out ≡ SendsMessage next → length next.message.sif ≤ SIF_OCTETS)
    → (frame : FrameValue) → frame_from bsn fsn out ≡ Some frame → IsShort frame
from-out bsn fsn (SendsStatus status) h frame e = subst IsShort (some-is (StatusFrame bsn fsn status) frame e) (status-short bsn fsn status)
from-out bsn fsn (SendsMessage next) h frame e =
    subst IsShort (some-is (MessageFrame bsn next.number next.message.sio next.message.sif) frame e)
    (message-short bsn next.number next.message.sio next.message.sif (h next refl))
from-out bsn fsn Acknowledges h frame e = subst IsShort (some-is (EmptyFrame bsn fsn) frame e) (empty-short bsn fsn)
from-out bsn fsn SendsNothing h frame e = absurd cc

message-is : (status : Option LinkStatus) (message : Option Sending) (owed : Bool) (next : Sending) → status_first status (message_first message owed) ≡ SendsMessage next
    → message ≡ Some next
message-is (Some status) message owed next e = absurd cc
message-is None (Some sending) owed next e = cc
message-is None None true next e = absurd cc
message-is None None false next e = absurd cc

numbered-is : (number : ℕ) (message : Option Message) (next : Sending) → numbered number message ≡ Some next → message ≡ Some next.message
numbered-is number (Some message) next e = cc
numbered-is number None next e = absurd cc

queued-is : (b : Bool) (number : ℕ) (message : Option Message) (next : Sending) → (if b then numbered number message else None) ≡ Some next → message ≡ Some next.message
queued-is true number message next e = numbered-is number message next e
queued-is false number message next e = absurd cc

sent-is : (b : Bool) (o : Option Sending) (next : Sending) → (if b then o else None) ≡ Some next → o ≡ Some next
sent-is true o next e = e
sent-is false o next e = absurd cc

module _ (c z : Configuration) (there set link : ℕ) (a : Abstract) (queued : Each (IsSent c z there set) (queue_at a.node.queues link).all) where
  abbrev q : Queue
  q = queue_at a.node.queues link

  sends-short : (next : Sending) → goes_out whole a.settings link a.node ≡ SendsMessage next → length next.message.sif ≤ SIF_OCTETS
  sends-short next e =
      let message : next_message whole a.settings link a.node ≡ Some next =
      message-is (slice_get (link_at a.node.parts link).waiting 0) (next_message whole a.settings link a.node) (link_at a.node.parts link).acknowledgement_owed next e in
      let sending : to_send q a.settings.window ≡ Some next = sent-is (may_send (link_at a.node.parts link)) (to_send q a.settings.window) next message in
      let stands : slice_get q.all q.sent ≡ Some next.message = queued-is _ (forward_number q q.sent) (slice_get q.all q.sent) next sending in
      short-enough c z there set next.message (each-get (IsSent c z there set) q.all q.sent next.message queued stands)

  pub taken-short : (frame : FrameValue) → frame_to_take whole a link ≡ Some frame → IsShort frame
  taken-short frame e =
      from-out (whole.last_accepted a.node.queues link) (whole.last_sent a.node.queues link) (goes_out whole a.settings link a.node) sends-short frame e

-- ---- after every list of steps

pub run-short : (near far : Make) (f : AreFacing near.configuration far.configuration) (w : World) → IsRun near far f w → BothAreShort w
run-short near far f w r =
    let p : PairState = after_steps r.steps (first_pair near.configuration far.configuration) in
    let s : Stands near.configuration far.configuration (from_first near.configuration far.configuration (for_each_other near.configuration far.configuration f)) p = all-stand near.configuration far.configuration r.steps f in
    record {
      near = λ link. subst (λ (a : Abstract). (frame : FrameValue) → frame_to_take whole a link ≡ Some frame → IsShort frame) (sym r.meets.shows.near_has.exchange)
          (taken-short near.configuration far.configuration far.configuration.own f.near_set link p.near.exchange (s.near_good.queued link));
      far = λ link. subst (λ (a : Abstract). (frame : FrameValue) → frame_to_take whole a link ≡ Some frame → IsShort frame) (sym r.meets.shows.far_has.exchange)
          (taken-short far.configuration near.configuration near.configuration.own f.far_set link p.far.exchange (s.far_good.queued link));
    }

pub all-short : frames_are_short
all-short near far n list steps = run-short near far (facing near far n) (last_world (new_world near far) list) (all-run near far n list steps)
