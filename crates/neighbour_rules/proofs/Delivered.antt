-- A frame that newly carries a message delivers that message, once the frame is accepted.
use Rattle.exchange_rules.specs.Reroutings.{first_reroutings}
use Rattle.pair_rules.proofs.Basics.{◌≡◌, ◌&&◌, ℕ, Bool, true, false, not, List, Option, Some, None, Result, Ok, Err, ap, if◌then◌else◌}
use Rattle.signalling_types.specs.Message.{Message}
use Rattle.signalling_types.specs.declared.cause.Cause.TheVariants.{NoSuchName}
use Rattle.signalling_types.specs.declared.notice.FrameFault.{FrameFault}
use Rattle.signalling_types.specs.declared.outcome.Outcome.TheVariants.{Ignored}
use Rattle.settings.specs.Configuration.{Configuration}
use Rattle.m2pa_codec.specs.Frames.{FrameValue, EmptyFrame, MessageFrame, StatusFrame, read_frame}
use Rattle.link.specs.Queue.{count_confirmed}
use Rattle.node_links.specs.NodeLinks.{acts_on}
use Rattle.link.specs.declared.action.Action.{Action}
use Rattle.link.specs.declared.action.Action.TheVariants as act
use Rattle.link.specs.declared.action.Input.TheVariants.{UserData}
use Rattle.link.specs.declared.fault.SeqFault.{SeqFault}
use Rattle.exchange_rules.specs.State.{Node, answer, refuse, down, is_link, link_at}
use Rattle.exchange_rules.specs.Queues.{WholeQueues, whole}
use Rattle.exchange_rules.specs.Frames.{Carrying, accept, act_by_data, advance, carry, empty_data, handle_by, message_data, numbers, read, receive}
use Rattle.exchange_rules.specs.Laws.{accept_data, accept_text}
use Rattle.exchange_rules.specs.Messages.{deliver}
use Rattle.exchange_rules.specs.Receiving.{new_at, new_by, new_message, new_of}

module _ (c : Configuration) (link : ℕ) (m : Message) where
  by-numbers : (r : Result ℕ SeqFault) (d : Carrying) (n : Node WholeQueues) → new_by r d ≡ Some m
      → handle_by whole c r link d n ≡ deliver whole c link m (accept whole c link d (count_confirmed r) n)
  by-numbers (Ok confirmed) d n e = ap (λ (o : Option Message). carry whole c link o (accept whole c link d confirmed n)) e
  by-numbers (Err fault) d n e = absurd cc

  by-action : (a : Action) (d : Carrying) (n : Node WholeQueues) → new_at a link d c n ≡ Some m
      → act_by_data whole c a link d n ≡ deliver whole c link m (accept_data a link d c n)
  by-action act.Ignored d n e = absurd cc
  by-action act.Fail d n e = absurd cc
  by-action (act.Go step) d n e =
      let next : Node WholeQueues = advance whole c link step n in
      by-numbers (numbers whole c link d next) d next e

  by-read : (r : Result FrameValue FrameFault) (n : Node WholeQueues) → new_of r link c n ≡ Some m
      → read whole c link r n ≡ deliver whole c link m (accept_text link r (record { settings = c; node = n; reroutings = first_reroutings c }))
  by-read (Ok (EmptyFrame bsn fsn)) n e = by-action (acts_on (link_at n.parts link) UserData) (empty_data bsn fsn) n e
  by-read (Ok (MessageFrame bsn fsn sio sif)) n e =
      by-action (acts_on (link_at n.parts link) UserData) (message_data bsn fsn sio sif) n e
  by-read (Ok (StatusFrame bsn fsn status)) n e = absurd cc
  by-read (Err fault) n e = absurd cc

  by-link : (is_there is_down : Bool) (r : Result FrameValue FrameFault) (n : Node WholeQueues)
      → (if is_there && not is_down then new_of r link c n else None) ≡ Some m
      → (if is_there then (if is_down then answer Ignored n else read whole c link r n) else refuse NoSuchName n)
      ≡ deliver whole c link m (accept_text link r (record { settings = c; node = n; reroutings = first_reroutings c }))
  by-link true false r n e = by-read r n e
  by-link true true r n e = absurd cc
  by-link false is_down r n e = absurd cc

  pub delivers : (text : List ℕ) (n : Node WholeQueues) → new_message link text (record { settings = c; node = n; reroutings = first_reroutings c }) ≡ Some m
      → receive whole c link text n ≡ deliver whole c link m (accept_text link (read_frame text) (record { settings = c; node = n; reroutings = first_reroutings c }))
  delivers text n e = by-link (is_link n.parts link) (down n.parts link) (read_frame text) n e
