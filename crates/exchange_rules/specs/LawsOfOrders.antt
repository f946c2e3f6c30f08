-- What a link asks of its caller, what the order to deactivate leaves, and that what came is acknowledged: laws (Q.704
-- §3.2, RFC 4165 §4.1.3, §4.2.1).
use Rattle.std.specs.Prelude.{◌≡◌, ◌≢◌, ◌<◌, ℕ, true, false, length, is_some, Some}
use Rattle.signalling_types.specs.Message.{Message}
use Rattle.signalling_types.specs.declared.cause.Cause.TheVariants.{LinkNotReady}
use Rattle.signalling_types.specs.declared.outcome.Outcome.TheVariants.{Handled, Refused}
use Rattle.settings.specs.Configuration.{Configuration}
use Rattle.m2pa_codec.specs.Frames.{FrameValue, EmptyFrame, MessageFrame, StatusFrame}
use Rattle.exchange_rules.specs.declared.wants.Wants.TheVariants.{Nothing, Open, Close}
use Rattle.exchange_rules.specs.State.{Node, down, is_link, link_at}
use Rattle.exchange_rules.specs.Opening.{association_up, deactivate, wanted}
use Rattle.exchange_rules.specs.Frames.{Carrying, accept}
use Rattle.exchange_rules.specs.Exchange.{frame_to_take, wants_of}
use Rattle.exchange_rules.specs.Queues.{WholeQueues, whole}
use Rattle.exchange_rules.specs.First.{Abstract}

-- ---- what a link asks

-- a link that is down and has an association asks that it end; one that is up asks nothing, nor does one that the
-- operator keeps from opening
pub record IsAsked (a : Abstract) (link : ℕ) : Type 0 where
  pub closes : down a.node.parts link ≡ true → (link_at a.node.parts link).association ≡ true →
      wants_of a link ≡ Close
  pub up : down a.node.parts link ≡ false → wants_of a link ≡ Nothing
  pub kept : (link_at a.node.parts link).active ≡ false → wants_of a link ≢ Open

abbrev pub links_ask_as_they_stand : Type 0
links_ask_as_they_stand = (a : Abstract) (link : ℕ) → is_link a.node.parts link ≡ true → IsAsked a link

-- ---- an order to deactivate

-- the link is down, and stays so: an association is refused until the operator activates the link
pub record IsOut (c : Configuration) (link : ℕ) (node : Node WholeQueues) : Type 0 where
  pub down : down node.parts link ≡ true
  pub kept : (link_at node.parts link).active ≡ false
  pub refuses : (association_up whole c link node).outcome ≡ Refused LinkNotReady
  pub asks : wanted node.parts link ≢ Open

abbrev pub deactivated_links_stay_out : Type 0
deactivated_links_stay_out =
    (c : Configuration) (link : ℕ) (node : Node WholeQueues) → is_link node.parts link ≡ true →
    ((deactivate whole c link node).outcome ≡ Handled) × IsOut c link (deactivate whole c link node).left

-- ---- what came is acknowledged

-- User Data with a message leaves an acknowledgement owed
abbrev pub messages_are_to_be_acknowledged : Type 0
messages_are_to_be_acknowledged =
    (c : Configuration) (link confirmed : ℕ) (d : Carrying) (m : Message) (node : Node WholeQueues) →
    link < length node.parts.links → d.message ≡ Some m →
    (link_at (accept whole c link d confirmed node).parts link).acknowledgement_owed ≡ true

-- while one is owed, there is a frame to take
abbrev pub owed_ones_go_out : Type 0
owed_ones_go_out =
    (a : Abstract) (link : ℕ) → (link_at a.node.parts link).acknowledgement_owed ≡ true →
    is_some (frame_to_take whole a link) ≡ true

-- and each frame has the number of the last message that was accepted
abbrev pub backward_number : FrameValue → ℕ
backward_number (EmptyFrame bsn fsn) = bsn
backward_number (MessageFrame bsn fsn sio sif) = bsn
backward_number (StatusFrame bsn fsn status) = bsn

abbrev pub frames_acknowledge : Type 0
frames_acknowledge =
    (a : Abstract) (link : ℕ) (frame : FrameValue) → frame_to_take whole a link ≡ Some frame →
    backward_number frame ≡ whole.last_accepted a.node.queues link
