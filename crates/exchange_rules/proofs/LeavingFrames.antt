-- A frame whose message is refused leaves the node that had accepted it, with its notice; a message in a frame is
-- queued on a link in service.
use Rattle.exchange_rules.proofs.Basics.{◌≡◌, ℕ, Bool, true, false, Option, Some, None, Result, Ok, Err, refl, ap, ◌∙◌, if◌then◌else◌}
use Rattle.exchange_rules.proofs.Definitions.{Message, Configuration, Cause, Outcome, Queued, Held, Local, Handled, Ignored, Refused, FrameFault, FrameValue, EmptyFrame, MessageFrame, StatusFrame, LinkStatus, Action, Status, UserData, acts_on, count_confirmed, SeqFault, Parts, Node, Done, with_parts, answer, link_at, in_traffic, note_outcome, note_refusal, whither_goes, deliver_to, advance, act_by_status, Carrying, data_of, numbers, accept, carry, handle_by, act_by_data, receive_frame, leave_aside, read, WholeQueues, whole, accept_data, accept_frame, accept_text, carried_message, answered, Abstract, tells_outage, tells_recovery, hear_outage, end_outage}
use Rattle.signalling_types.specs.declared.notice.FrameFault.TheVariants as faults
use Rattle.link.specs.declared.action.Action.TheVariants as act
use Rattle.exchange_rules.specs.Laws.{noted}
use Rattle.exchange_rules.proofs.Leaves.{Leaves, handled, ignored}
use Rattle.exchange_rules.proofs.LeavingMessages.{deliver_to-leaves}

-- ---- a refusal in a frame is noted

noted-serves : (link : ℕ) (o : Outcome) (p : Parts) (l : ℕ) → in_traffic (note_outcome link o p) l ≡ in_traffic p l
noted-serves link (Queued other) p l = refl
noted-serves link Held p l = refl
noted-serves link Local p l = refl
noted-serves link Handled p l = refl
noted-serves link Ignored p l = refl
noted-serves link (Refused cause) p l = refl

notes : (d : Done WholeQueues) (by : Cause → Node WholeQueues) (link : ℕ) → Leaves d by → Leaves (note_refusal link d) (λ cause. noted cause link (by cause))
notes d by link f = record {
  left = λ cause e.
      ap (λ (o : Outcome). with_parts d.left (note_outcome link o d.left.parts)) e
      ∙ ap (λ (m : Node WholeQueues). noted cause link m) (f.left cause e);
  served = λ l e. noted-serves link d.outcome d.left.parts l ∙ f.served l e;
}

module _ (c : Configuration) where
  -- what a refusal leaves of the node that had accepted the frame of this message
  abbrev turned_and_noted : ℕ → Option Message → Node WholeQueues → Cause → Node WholeQueues
  turned_and_noted link m n cause = noted cause link (answered cause (Some link) m c n)

  carry-leaves : (link : ℕ) (m : Option Message) (n : Node WholeQueues) → Leaves (carry whole c link m n) (turned_and_noted link m n)
  carry-leaves link None n = handled n _
  carry-leaves link (Some m) n =
      notes (deliver_to whole c (whither_goes c m) link m n) (λ cause. answered cause (Some link) (Some m) c n) link
      (deliver_to-leaves c n (whither_goes c m) link m)

  handle_by-leaves : (r : Result ℕ SeqFault) (link : ℕ) (d : Carrying) (n : Node WholeQueues)
      → Leaves (handle_by whole c r link d n) (turned_and_noted link d.message (accept whole c link d (count_confirmed r) n))
  handle_by-leaves (Ok confirmed) link d n = carry-leaves link d.message (accept whole c link d confirmed n)
  handle_by-leaves (Err fault) link d n = handled _ _

  act_by_data-leaves : (a : Action) (link : ℕ) (d : Carrying) (n : Node WholeQueues)
      → Leaves (act_by_data whole c a link d n) (turned_and_noted link d.message (accept_data a link d c n))
  act_by_data-leaves act.Ignored link d n = ignored n _
  act_by_data-leaves act.Fail link d n = handled _ _
  act_by_data-leaves (act.Go step) link d n =
      let next : Node WholeQueues = advance whole c link step n in
      handle_by-leaves (numbers whole c link d next) link d next

  act_by_status-leaves : (a : Action) (link : ℕ) (status : LinkStatus) (n : Node WholeQueues) (by : Cause → Node WholeQueues)
      → Leaves (act_by_status whole c a link status n) by
  act_by_status-leaves act.Ignored link status n by = ignored n by
  act_by_status-leaves act.Fail link status n by = handled _ by
  act_by_status-leaves (act.Go step) link status n by = handled _ by

  told-leaves : (out back : Bool) (link : ℕ) (status : LinkStatus) (n : Node WholeQueues) (by : Cause → Node WholeQueues)
      → Leaves (if out then answer Handled (hear_outage whole c link n) else if back then answer Handled (end_outage whole c link n)
      else act_by_status whole c (acts_on (link_at n.parts link) (Status status)) link status n) by
  told-leaves true back link status n by = handled _ by
  told-leaves false true link status n by = handled _ by
  told-leaves false false link status n by = act_by_status-leaves (acts_on (link_at n.parts link) (Status status)) link status n by

  receive_frame-leaves : (link : ℕ) (frame : FrameValue) (n : Node WholeQueues)
      → Leaves (receive_frame whole c link frame n) (turned_and_noted link (carried_message (Ok frame)) (accept_frame (data_of frame) link c n))
  receive_frame-leaves link (EmptyFrame bsn fsn) n = act_by_data-leaves (acts_on (link_at n.parts link) UserData) link _ n
  receive_frame-leaves link (MessageFrame bsn fsn sio sif) n = act_by_data-leaves (acts_on (link_at n.parts link) UserData) link _ n
  receive_frame-leaves link (StatusFrame bsn fsn status) n = told-leaves (tells_outage c link status n.parts) (tells_recovery link status n.parts) link status n _

  leave_aside-leaves : (link : ℕ) (fault : FrameFault) (n : Node WholeQueues) (by : Cause → Node WholeQueues) → Leaves (leave_aside whole c link fault n) by
  leave_aside-leaves link faults.Length n by = handled _ by
  leave_aside-leaves link faults.Short n by = ignored _ by
  leave_aside-leaves link faults.Version n by = ignored _ by
  leave_aside-leaves link faults.Unknown n by = ignored _ by

-- what a refusal leaves of the node that had accepted a frame of this text
abbrev pub left_of_text : ℕ → Result FrameValue FrameFault → Abstract → Cause → Node WholeQueues
left_of_text link r a cause = noted cause link (answered cause (Some link) (carried_message r) a.settings (accept_text link r a))

read-leaves : (link : ℕ) (r : Result FrameValue FrameFault) (a : Abstract) → Leaves (read whole a.settings link r a.node) (left_of_text link r a)
read-leaves link (Ok frame) a = receive_frame-leaves a.settings link frame a.node
read-leaves link (Err fault) a = leave_aside-leaves a.settings link fault a.node _

-- ---- a frame for a link that is there, and is up

pub up_leaves : (t : Bool) (link : ℕ) (r : Result FrameValue FrameFault) (a : Abstract)
    → Leaves (if t then answer Ignored a.node else read whole a.settings link r a.node) (left_of_text link r a)
up_leaves true link r a = ignored a.node _
up_leaves false link r a = read-leaves link r a
