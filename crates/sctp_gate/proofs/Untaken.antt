-- A take that gives no frame leaves all as it is.
use Rattle.std.proofs.Common.{◌≡◌, ℕ, Option, Some, None, refl}
use Rattle.std.specs.Option.{option_map}
use Rattle.m2pa_codec.specs.Frames.{FrameValue, spelled}
use Rattle.exchange_rules.specs.State.{QueueKind, State, with_node}
use Rattle.exchange_rules.specs.Sending.{Outgoing, SendsStatus, SendsMessage, Acknowledges, SendsNothing, frame_from, goes_out, after_sending}
use Rattle.exchange_rules.specs.Exchange.{frame_to_take, taken}
use Rattle.sctp_gate.specs.Gates.{text_to_take}

no-text : (frame : Option FrameValue) → option_map spelled frame ≡ None → frame ≡ None
no-text (Some frame) e = absurd cc
no-text None e = refl

module _ {Q : Type 0} (q : QueueKind Q) where
  no-frame : (last_accepted last_sent : ℕ) (next : Outgoing) (link : ℕ) (s : State Q) → frame_from last_accepted last_sent next ≡ None
      → with_node s (after_sending q s.settings link s.node next) ≡ s
  no-frame last_accepted last_sent (SendsStatus status) link s e = absurd cc
  no-frame last_accepted last_sent (SendsMessage next) link s e = absurd cc
  no-frame last_accepted last_sent Acknowledges link s e = absurd cc
  no-frame last_accepted last_sent SendsNothing link s e = refl

  pub none-taken : (link : ℕ) (s : State Q) → text_to_take q s link ≡ None → taken q s link ≡ s
  none-taken link s e =
      no-frame (q.last_accepted s.node.queues link) (q.last_sent s.node.queues link) (goes_out q s.settings link s.node) link s (no-text (frame_to_take q s link) e)
