-- An order that had no way as its link failed goes out late, once there is one: laws (Q.704 §5).
use Rattle.std.specs.Prelude.{◌≡◌, ◌≢◌, ◌≤◌, ◌<◌, ◌⊎◌, ◌++◌, ◌∷◌, ℕ, suc, true, false, length, List, None, Some}
use Rattle.signalling_types.specs.Message.{Message, flow_of}
use Rattle.signalling_types.specs.declared.cause.Cause.{Cause}
use Rattle.signalling_types.specs.declared.outcome.Outcome.TheVariants.{Refused}
use Rattle.settings.specs.Configuration.{Configuration}
use Rattle.settings.specs.Well.{IsWell}
use Rattle.timers.specs.declared.name.TimerName.TheVariants.{T1}
use Rattle.changeover.specs.Changeover.{is_unasked}
use Rattle.exchange_rules.specs.State.{FrameCame, Happening, Node, Ticked}
use Rattle.exchange_rules.specs.Routing.{link_of}
use Rattle.exchange_rules.specs.ChangingOver.{changeover_of, is_late, order_all, order_each, order_if_late}
use Rattle.exchange_rules.specs.Exchange.{after, outcome_of}
use Rattle.exchange_rules.specs.First.{Abstract}
use Rattle.exchange_rules.specs.Queues.{WholeQueues, queue_at, whole}
use Rattle.exchange_rules.specs.Lasting.{HasAllPlaces}
use Rattle.exchange_rules.specs.LawsOfAnyRoute.{AwaitsAnswer, order_about}

-- T1 stops, T2 is set, and the answer is awaited. The order goes behind all that stands on a link. Where 256 management
-- messages wait no queue changes.
pub record GoesLate (c : Configuration) (link way : ℕ) (before after : Node WholeQueues) : Type 0 where
  pub awaits : AwaitsAnswer c link after
  pub stopped : after.parts.timers.left (T1 link) ≡ None
  pub sent : whole.managements before.queues < 256 →
      after.queues ≡ whole.appended before.queues way (order_about c link before)
  pub full : 256 ≤ whole.managements before.queues → after.queues ≡ before.queues

-- so does the order about a link whose changeover isn't complete, and whose answer isn't awaited, wherever its flow has
-- a link
abbrev pub late_orders_go : Type 0
late_orders_go =
    (c : Configuration) (link way : ℕ) (node : Node WholeQueues) → IsWell c → HasAllPlaces c node →
    is_unasked (changeover_of node.parts link) ≡ true →
    link_of c node.parts (flow_of (order_about c link node)) ≡ Some way →
    GoesLate c link way node (order_if_late whole c link node)

-- no other goes out
abbrev pub other_orders_stay : Type 0
other_orders_stay =
    (c : Configuration) (link : ℕ) (node : Node WholeQueues) → is_late c link node.parts ≡ false →
    order_if_late whole c link node ≡ node

-- ---- about all links

-- the node as the turn of a link comes: the orders about the links before it went out
abbrev pub at_turn : Configuration → ℕ → Node WholeQueues → Node WholeQueues
at_turn c link node = order_each whole c link node

-- the turns come in the order of links, and each does what was said of one link; no more happens than this
pub record AreTurns (c : Configuration) (node : Node WholeQueues) : Type 0 where
  pub first : at_turn c 0 node ≡ node
  pub next : (link : ℕ) → at_turn c (suc link) node ≡ order_if_late whole c link (at_turn c link node)
  pub all : c.changeover_by_any_route ≡ true → order_all whole c node ≡ at_turn c (length c.links) node

abbrev pub orders_go_in_turn : Type 0
orders_go_in_turn = (c : Configuration) (node : Node WholeQueues) → AreTurns c node

-- a message stands behind all that stood on a link; others may have gone there before it and after it
pub record StandsBehind (m : Message) (link : ℕ) (before after : Node WholeQueues) : Type 0 where
  pub earlier : List Message
  pub later : List Message
  pub stands : (queue_at after.queues link).all ≡ ((queue_at before.queues link).all ++ earlier) ++ m ∷ later

-- the same of the order about one link, which goes out in its turn, if fewer than 256 management messages wait then
pub record GoesInTurn (c : Configuration) (link way : ℕ) (before after : Node WholeQueues) : Type 0 where
  pub awaits : AwaitsAnswer c link after
  pub stopped : after.parts.timers.left (T1 link) ≡ None
  pub sent : whole.managements (at_turn c link before).queues < 256 →
      StandsBehind (order_about c link before) way before after

-- so does each that has a way, where orders go by any route
abbrev pub all_late_orders_go : Type 0
all_late_orders_go =
    (c : Configuration) (link way : ℕ) (node : Node WholeQueues) → IsWell c → HasAllPlaces c node →
    c.changeover_by_any_route ≡ true → is_unasked (changeover_of node.parts link) ≡ true →
    link_of c node.parts (flow_of (order_about c link node)) ≡ Some way →
    GoesInTurn c link way node (order_all whole c node)

-- else none goes out
abbrev pub late_orders_need_their_key : Type 0
late_orders_need_their_key =
    (c : Configuration) (node : Node WholeQueues) → c.changeover_by_any_route ≡ false → order_all whole c node ≡ node

-- ---- by an event

-- a frame comes whose message isn't refused
pub record IsFrameTaken (what : Happening) (a : Abstract) : Type 0 where
  pub link : ℕ
  pub text : List ℕ
  pub came : what ≡ FrameCame link text
  pub taken : (cause : Cause) → outcome_of whole what a ≢ Refused cause

-- after a tick, and after each such frame, none is left that could go
abbrev pub no_order_is_left : Type 0
no_order_is_left =
    (what : Happening) (a : Abstract) (link : ℕ) → a.settings.changeover_by_any_route ≡ true →
    (what ≡ Ticked) ⊎ IsFrameTaken what a → link < length a.settings.links →
    is_late a.settings link (after whole what a).node.parts ≡ false
