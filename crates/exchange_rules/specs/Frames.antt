-- TLAC, link availability control (Q.704 §3.2), over link alignment (RFC 4165 §4.1.3): Link Status, User Data, and the
-- timers of a link that run out.
use Rattle.std.specs.Prelude.{ℕ, Bool, true, false, not, ◌&&◌, if◌then◌else◌, List, Option, Some, None, is_some, Result, Ok, Err}
use Rattle.settings.specs.Configuration.{Configuration}
use Rattle.signalling_types.specs.declared.notice.FailureReason.TheVariants as reasons
use Rattle.signalling_types.specs.declared.outcome.Outcome.TheVariants.{Handled, Ignored}
use Rattle.m2pa_codec.specs.declared.status.LinkStatus.{LinkStatus}
use Rattle.m2pa_codec.specs.declared.status.LinkStatus.TheVariants as says
use Rattle.link.specs.declared.action.Action.{Action}
use Rattle.link.specs.declared.action.Action.TheVariants as act
use Rattle.link.specs.declared.action.Input.TheVariants.{Status, Expiry, UserData}
use Rattle.link.specs.declared.action.LinkTimer.{LinkTimer}
use Rattle.link.specs.declared.action.Transition.{Transition}
use Rattle.exchange_rules.specs.State.{QueueKind, Parts, Node, Done, with_parts, answer, link_at, links_with, in_service, unless◌then◌else◌, refuse, is_link, with_link, down, note, ◌▷◌}
use Rattle.node_links.specs.NodeLinks.{acts_on, recovered, stepped, is_in_service}
use Rattle.exchange_rules.specs.Timing.{timed, timed_busy, timed_busy_ended, timed_confirming}
use Rattle.flow_hold.specs.declared.procedure.Procedure.TheVariants.{Changeover}
use Rattle.flow_hold.specs.Holds.{lifted}
use Rattle.exchange_rules.specs.ChangingOver.{fail, suspended}
use Rattle.exchange_rules.specs.Entering.{begun_anew, begin_traffic}
use Rattle.exchange_rules.specs.LinkTests.{begin_test}
use Rattle.signalling_types.specs.Message.{Message}
use Rattle.signalling_types.specs.declared.cause.Cause.TheVariants.{NoSuchName}
use Rattle.signalling_types.specs.declared.notice.Notice.TheVariants as notices
use Rattle.signalling_types.specs.declared.notice.FrameFault.{FrameFault}
use Rattle.signalling_types.specs.declared.notice.FrameFault.TheVariants as faults
use Rattle.m2pa_codec.specs.Frames.{FrameValue, EmptyFrame, MessageFrame, StatusFrame, read_frame}
use Rattle.link.specs.declared.fault.SeqFault.{SeqFault}
use Rattle.exchange_rules.specs.Messages.{deliver}

-- a link takes a step of its alignment
abbrev pub step_on : Configuration → ℕ → Transition → Parts → Parts
step_on c link step p =
    record p { links = links_with p link (stepped step (link_at p link)); timers = timed c link step p.timers }

-- the peer takes no messages for now; if it says so twice, the second changes nothing
abbrev pub become_busy : Configuration → ℕ → Parts → Parts
become_busy c link p =
    if (link_at p link).peer_busy then p
    else record p {
      links = links_with p link (record (link_at p link) { peer_busy = true });
      timers = timed_busy c link p.timers;
    }

-- the peer takes messages again, and this many are unconfirmed; if it wasn't busy nothing changes
abbrev pub end_busy : Configuration → ℕ → (outstanding : ℕ) → Parts → Parts
end_busy c link outstanding p =
    if (link_at p link).peer_busy
    then record p {
      links = links_with p link (record (link_at p link) { peer_busy = false });
      timers = timed_busy_ended c link outstanding p.timers;
    }
    else p

-- ---- The peer's processor is out (Q.703 §8, RFC 4165 §4.1.4), where the settings keep a link in service meanwhile.

-- whether a link is in service while its peer's processor is out
abbrev pub in_outage : Parts → ℕ → Bool
in_outage p link = in_service p link && (link_at p link).peer_outage

abbrev pub is_outage : LinkStatus → Bool
is_outage says.ProcessorOutage = true
is_outage _ = false

abbrev pub is_recovery : LinkStatus → Bool
is_recovery says.ProcessorRecovered = true
is_recovery _ = false

-- whether a status tells a link in service that its peer's processor is out, and the settings keep it in service
abbrev pub tells_outage : Configuration → ℕ → LinkStatus → Parts → Bool
tells_outage c link status p = c.processor_outage && (is_outage status && in_service p link)

-- whether a status ends an outage
abbrev pub tells_recovery : ℕ → LinkStatus → Parts → Bool
tells_recovery link status p = is_recovery status && in_outage p link

-- the changeover of the link holds the flows that would fail with it, and the outage is remembered
abbrev pub put_out : Configuration → ℕ → (unconfirmed : List Message) → Parts → Parts
put_out c link unconfirmed p =
    suspended c link unconfirmed (with_link p link (record (link_at p link) { peer_outage = true }))

-- the outage is over, and so is that hold; Ready answers that (RFC 4165 §4.1.4)
abbrev pub let_back : ℕ → Parts → Parts
let_back link p =
    record (with_link p link (recovered (link_at p link))) { holds = lifted p.holds (Changeover link) }

-- Busy Ended is ignored in an outage, as Busy is: the peer takes no messages as long as its processor is out, and L6
-- watches that (this node's own choice)
abbrev pub hear_busy_ended : Configuration → ℕ → (outstanding : ℕ) → Parts → Parts
hear_busy_ended c link outstanding p =
    if (link_at p link).peer_outage then p else end_busy c link outstanding p

-- whether a link enters service by a step
abbrev pub enters : ℕ → Transition → Parts → Bool
enters link step p = is_in_service step.state && not (in_service p link)

-- whether it carries traffic by this: it enters service, and has no test to pass before (Q.707 §2.2)
abbrev pub enters_traffic : ℕ → Transition → Parts → Bool
enters_traffic link step p = enters link step p && not (link_at p link).untested

-- a link takes a step of its alignment, and may be the first of its set to carry traffic by this
abbrev pub moved_on : Configuration → ℕ → Transition → Parts → Parts
moved_on c link step p = begun_anew (enters_traffic link step p) c link p (step_on c link step p)

module _ {Q : Type 0} (q : QueueKind Q) (c : Configuration) where
  -- a link takes a step of its alignment, and its flows back if it carries traffic by this
  abbrev pub take_step : ℕ → Transition → Node Q → Node Q
  take_step link step node =
      begin_traffic q c (enters_traffic link step node.parts) link (step_on c link step node.parts) node

  -- a link that entered service is tested
  abbrev pub test_if : (entered : Bool) → ℕ → Node Q → Node Q
  test_if true link node = begin_test q c link node
  test_if false link node = node

  -- a link takes a step of its alignment, and is tested if it enters service by this
  abbrev pub advance : ℕ → Transition → Node Q → Node Q
  advance link step node = node ▷ take_step link step ▷ test_if (enters link step node.parts) link

  -- what a link's alignment does about an input; if the link must fail, nothing changes here
  abbrev pub act_by : Action → ℕ → Node Q → Node Q
  act_by act.Ignored link node = node
  act_by act.Fail link node = node
  act_by (act.Go step) link node = advance link step node

  -- a status of a peer in service
  abbrev pub serve_status : ℕ → LinkStatus → Node Q → Node Q
  serve_status link says.Busy node = with_parts node (become_busy c link node.parts)
  serve_status link says.BusyEnded node =
      with_parts node (hear_busy_ended c link (q.outstanding node.queues link) node.parts)
  serve_status link _ node = node

  -- a link takes a step about a status
  abbrev pub step_by_status : ℕ → LinkStatus → Transition → Node Q → Node Q
  step_by_status link status step node =
      let next : Node Q = advance link step node in
      if step.serve then serve_status link status next else next

  -- what a link does about a status
  abbrev pub act_by_status : Action → ℕ → LinkStatus → Node Q → Done Q
  act_by_status act.Ignored link status node = answer Ignored node
  act_by_status act.Fail link status node = answer Handled (fail q c link reasons.Status node)
  act_by_status (act.Go step) link status node = answer Handled (step_by_status link status step node)

  -- an outage begins: a Busy of the peer is forgotten, it takes no messages from now on, which L6 watches in place of
  -- L7, and the flows of the link are held
  abbrev pub begin_outage : ℕ → Node Q → Node Q
  begin_outage link node =
      with_parts node
      (node.parts
      ▷ end_busy c link (q.outstanding node.queues link)
      ▷ become_busy c link
      ▷ put_out c link (q.unconfirmed node.queues link))

  -- if the peer says so twice, the second changes nothing
  abbrev pub hear_outage : ℕ → Node Q → Node Q
  hear_outage link node = if (link_at node.parts link).peer_outage then node else begin_outage link node

  -- an outage ends: the flows are held no longer, Ready goes out, and the peer takes messages again
  abbrev pub end_outage : ℕ → Node Q → Node Q
  end_outage link node =
      with_parts node (node.parts ▷ let_back link ▷ end_busy c link (q.outstanding node.queues link))

  -- a status that a peer tells: that its processor is out, or recovered, where that is no failure; any other by the
  -- table
  abbrev pub on_link_status : ℕ → LinkStatus → Node Q → Done Q
  on_link_status link status node =
      if tells_outage c link status node.parts then answer Handled (hear_outage link node)
      else if tells_recovery link status node.parts then answer Handled (end_outage link node)
      else act_by_status (acts_on (link_at node.parts link) (Status status)) link status node

  -- what a link does about a timer of its own that ran out
  abbrev pub act_by_timer : Action → ℕ → Node Q → Node Q
  act_by_timer act.Ignored link node = node
  act_by_timer act.Fail link node = fail q c link reasons.Timer node
  act_by_timer (act.Go step) link node = advance link step node

  abbrev pub run_out : ℕ → LinkTimer → Node Q → Node Q
  run_out link timer node =
      act_by_timer (acts_on (link_at node.parts link) (Expiry timer)) link node

-- ---- A frame that came by a link (RFC 4165 §4.2.1).

-- User Data: its numbers, and the message that it carries, if it carries one
pub record Carrying : Type 0 where
  pub fsn : ℕ
  pub bsn : ℕ
  pub message : Option Message

abbrev pub carries : Carrying → Bool
carries d = is_some d.message

-- User Data without a message, and with one
abbrev pub empty_data : (bsn fsn : ℕ) → Carrying
empty_data bsn fsn = record { fsn = fsn; bsn = bsn; message = None }

abbrev pub message_data : (bsn fsn sio : ℕ) → List ℕ → Carrying
message_data bsn fsn sio sif = record { fsn = fsn; bsn = bsn; message = Some (record { sio = sio; sif = sif }) }

-- the User Data that a frame is; nothing if it is a link status
abbrev pub data_of : FrameValue → Option Carrying
data_of (EmptyFrame bsn fsn) = Some (empty_data bsn fsn)
data_of (MessageFrame bsn fsn sio sif) = Some (message_data bsn fsn sio sif)
data_of (StatusFrame bsn fsn status) = None

-- a message that came is to be acknowledged
abbrev pub owing : ℕ → Option Message → Parts → Parts
owing link None p = p
owing link (Some m) p = with_link p link (record (link_at p link) { acknowledgement_owed = true })

-- the peer confirmed this many of our messages, and this many are left
abbrev pub timed_parts : Configuration → ℕ → (confirmed outstanding : ℕ) → Parts → Parts
timed_parts c link confirmed outstanding p =
    record p { timers = timed_confirming c link (link_at p link).peer_busy confirmed outstanding p.timers }

module _ {Q : Type 0} (q : QueueKind Q) (c : Configuration) where
  -- what its numbers say: how many messages they confirm, or what is wrong with them, FSN first
  abbrev pub numbers : ℕ → Carrying → Node Q → Result ℕ SeqFault
  numbers link d node = q.accept_answer node.queues link d.fsn d.bsn (carries d)

  -- User Data is accepted, and confirms this many of our messages
  abbrev pub accept : ℕ → Carrying → (confirmed : ℕ) → Node Q → Node Q
  accept link d confirmed node =
      let queues : Q = q.accepted node.queues link d.fsn d.bsn (carries d) in
      record {
        queues = queues;
        parts = owing link d.message (timed_parts c link confirmed (q.outstanding queues link) node.parts);
      }

  -- the message that it carries
  abbrev pub carry : ℕ → Option Message → Node Q → Done Q
  carry link None node = answer Handled node
  carry link (Some m) node = deliver q c link m node

  -- User Data whose numbers were checked; a wrong one fails the link, which isn't a refusal
  abbrev pub handle_by : Result ℕ SeqFault → ℕ → Carrying → Node Q → Done Q
  handle_by (Ok confirmed) link d node = carry link d.message (accept link d confirmed node)
  handle_by (Err fault) link d node = answer Handled (fail q c link reasons.Sequence node)

  -- User Data on a link in service
  abbrev pub handle : ℕ → Carrying → Node Q → Done Q
  handle link d node = handle_by (numbers link d node) link d node

  -- User Data fails a link that doesn't expect it yet, and takes one that expects it into service
  abbrev pub act_by_data : Action → ℕ → Carrying → Node Q → Done Q
  act_by_data act.Ignored link d node = answer Ignored node
  act_by_data act.Fail link d node = answer Handled (fail q c link reasons.Sequence node)
  act_by_data (act.Go step) link d node = handle link d (advance q c link step node)

  abbrev pub receive_data : ℕ → Carrying → Node Q → Done Q
  receive_data link d node = act_by_data (acts_on (link_at node.parts link) UserData) link d node

  -- a frame by its kind; the numbers of a link status are ignored
  abbrev pub receive_frame : ℕ → FrameValue → Node Q → Done Q
  receive_frame link (EmptyFrame bsn fsn) node = receive_data link (empty_data bsn fsn) node
  receive_frame link (MessageFrame bsn fsn sio sif) node = receive_data link (message_data bsn fsn sio sif) node
  receive_frame link (StatusFrame bsn fsn status) node = on_link_status q c link status node

  -- a frame that can't be read: a wrong length fails the link, any other fault is noted
  abbrev pub leave_aside : ℕ → FrameFault → Node Q → Done Q
  leave_aside link faults.Length node = answer Handled (fail q c link reasons.Length node)
  leave_aside link faults.Short node =
      answer Ignored (with_parts node (note (notices.Frame faults.Short link) node.parts))
  leave_aside link faults.Version node =
      answer Ignored (with_parts node (note (notices.Frame faults.Version link) node.parts))
  leave_aside link faults.Unknown node =
      answer Ignored (with_parts node (note (notices.Frame faults.Unknown link) node.parts))

  abbrev pub read : ℕ → Result FrameValue FrameFault → Node Q → Done Q
  read link (Ok frame) node = receive_frame link frame node
  read link (Err fault) node = leave_aside link fault node

  -- a frame for a link that is down is ignored
  abbrev pub receive : ℕ → List ℕ → Node Q → Done Q
  receive link text node =
      unless is_link node.parts link then refuse NoSuchName node
      else if down node.parts link then answer Ignored node
      else read link (read_frame text) node
