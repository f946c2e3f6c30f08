-- What was received on a link rises by one at most, exactly when a frame newly carries a message, and that is the one
-- that is in the frame.
use Rattle.exchange_rules.proofs.Basics.{◌≡◌, ◌&&◌, ℕ, Bool, true, false, not, List, Some, None, Result, Ok, Err, if◌then◌else◌}
use Rattle.exchange_rules.proofs.Definitions.{Message, FrameFault, Configuration, FrameValue, EmptyFrame, MessageFrame, StatusFrame, read_frame, Action, UserData, acts_on, SeqFault, Node, is_link, link_at, down, advance, Carrying, empty_data, message_data, numbers, WholeQueues, whole, carried_message, new_by, new_at, new_of, new_message, Abstract}
use Rattle.link.specs.declared.action.Action.TheVariants as act

-- ---- which message it is

by-carried : (r : Result ℕ SeqFault) (d : Carrying) (m : Message) → new_by r d ≡ Some m → d.message ≡ Some m
by-carried (Ok confirmed) d m e = e
by-carried (Err fault) d m e = absurd cc

module _ (link : ℕ) (c : Configuration) (n : Node WholeQueues) (m : Message) where
  at-carried : (a : Action) (d : Carrying) → new_at a link d c n ≡ Some m → d.message ≡ Some m
  at-carried act.Ignored d e = absurd cc
  at-carried act.Fail d e = absurd cc
  at-carried (act.Go step) d e = by-carried (numbers whole c link d (advance whole c link step n)) d m e

  frame-carried : (r : Result FrameValue FrameFault) → new_of r link c n ≡ Some m → carried_message r ≡ Some m
  frame-carried (Ok (EmptyFrame bsn fsn)) e = at-carried (acts_on (link_at n.parts link) UserData) (empty_data bsn fsn) e
  frame-carried (Ok (MessageFrame bsn fsn sio sif)) e = at-carried (acts_on (link_at n.parts link) UserData) (message_data bsn fsn sio sif) e
  frame-carried (Ok (StatusFrame bsn fsn status)) e = absurd cc
  frame-carried (Err fault) e = absurd cc

  guarded-carried : (b : Bool) (r : Result FrameValue FrameFault) → (if b then new_of r link c n else None) ≡ Some m → carried_message r ≡ Some m
  guarded-carried true r e = frame-carried r e
  guarded-carried false r e = absurd cc

pub new-carried : (link : ℕ) (text : List ℕ) (a : Abstract) (m : Message) → new_message link text a ≡ Some m → carried_message (read_frame text) ≡ Some m
new-carried link text a m e = guarded-carried link a.settings a.node m (is_link a.node.parts link && not (down a.node.parts link)) (read_frame text) e
