-- Where an order to change over goes, by whatever route, and that each that comes is answered: laws (Q.704 §5.2 to
-- §5.6).
use Rattle.std.specs.Prelude.{◌≡◌, ◌≢◌, ◌≤◌, ◌<◌, ◌⊎◌, ◌++◌, ℕ, true, false, max, length, List, [], ◌∷◌, None, Ok, Option, Some}
use Rattle.signalling_types.specs.Message.{Message, flow_of, network_indicator, opc_of, service_indicator}
use Rattle.signalling_types.specs.declared.limits.TheConstants.Limits.{LINKS, WINDOW}
use Rattle.signalling_types.specs.declared.notice.FailureReason.{FailureReason}
use Rattle.signalling_types.specs.declared.outcome.Outcome.TheVariants.{Handled}
use Rattle.settings.specs.Configuration.{Configuration}
use Rattle.settings.specs.Well.{IsWell}
use Rattle.mtp3_codec.specs.Headings.{label_at}
use Rattle.mtp3_codec.specs.Management.{read_management}
use Rattle.mtp3_codec.specs.declared.management.Management.{Management}
use Rattle.mtp3_codec.specs.declared.management.Management.TheVariants.{EmergencyChangeoverOrder, ExtendedChangeoverOrder}
use Rattle.timers.specs.declared.name.TimerName.TheVariants.{T1, T2}
use Rattle.exchange_rules.specs.State.{Asking, Done, Node, down, in_service}
use Rattle.exchange_rules.specs.Routing.{entry_of, link_of, peer_of}
use Rattle.exchange_rules.specs.ChangingOver.{changeover_acknowledgement, changeover_of, changeover_order, fail, has_other}
use Rattle.exchange_rules.specs.Messages.{distribute, link_with_code}
use Rattle.exchange_rules.specs.Queues.{WholeQueues, queue_at, whole}
use Rattle.exchange_rules.specs.First.{first_state}
use Rattle.exchange_rules.specs.Lasting.{HasAllPlaces, after_each}

-- ---- a link in service fails

-- the order to change over from it, with the number of the last message that was accepted on it
abbrev pub order_about : Configuration → ℕ → Node WholeQueues → Message
order_about c link node = changeover_order c link (whole.last_accepted node.queues link)

-- it reads as such: from this point to that of the link, with the link's code, which also chooses its way
pub record ReadsAsOrder (c : Configuration) (link : ℕ) (node : Node WholeQueues) (m : Message) : Type 0 where
  pub indicator : service_indicator m ≡ 0
  pub network : network_indicator m ≡ c.network
  pub label : label_at m.sif ≡ record { dpc = peer_of c link; opc = c.own; sls = (entry_of c link).slc }
  pub says :
      read_management m.sif
      ≡ Ok (ExtendedChangeoverOrder (entry_of c link).slc (whole.last_accepted node.queues link))

abbrev pub orders_are_told_as_such : Type 0
orders_are_told_as_such =
    (c : Configuration) (link : ℕ) (node : Node WholeQueues) → IsWell c →
    ReadsAsOrder c link node (order_about c link node)

-- an order goes out: its answer is awaited, and T2 is set
pub record AwaitsAnswer (c : Configuration) (link : ℕ) (after : Node WholeQueues) : Type 0 where
  pub incomplete : (changeover_of after.parts link).incomplete ≡ true
  pub awaited : (changeover_of after.parts link).awaited ≡ true
  pub t2 : after.parts.timers.left (T2 link) ≡ Some (max 1 c.timers.t2)

-- It goes behind all that stands on a link, which isn't the one that failed. Where 256 management messages wait no
-- queue changes.
pub record SendsOrder (c : Configuration) (link way : ℕ) (before after : Node WholeQueues) : Type 0 where
  pub other : way ≢ link
  pub sent : whole.managements before.queues < 256 →
      after.queues ≡ whole.appended before.queues way (order_about c link before)
  pub full : 256 ≤ whole.managements before.queues → after.queues ≡ before.queues

-- none goes out: no answer is awaited, T1 is set, and no queue changes
pub record SendsNone (c : Configuration) (link : ℕ) (before after : Node WholeQueues) : Type 0 where
  pub incomplete : (changeover_of after.parts link).incomplete ≡ true
  pub awaited : (changeover_of after.parts link).awaited ≡ false
  pub t1 : after.parts.timers.left (T1 link) ≡ Some (max 1 c.timers.t1)
  pub queues : after.queues ≡ before.queues

-- Wherever the flow of the order itself has a link, over whatever set, it goes there; only where it has none, none goes
-- out.
pub record GoesByAnyRoute (c : Configuration) (link : ℕ) (before after : Node WholeQueues) : Type 0 where
  pub awaits : (way : ℕ) → link_of c after.parts (flow_of (order_about c link before)) ≡ Some way →
      AwaitsAnswer c link after
  pub sends : (way : ℕ) → link_of c after.parts (flow_of (order_about c link before)) ≡ Some way →
      SendsOrder c link way before after
  pub alone : link_of c after.parts (flow_of (order_about c link before)) ≡ None → SendsNone c link before after

-- It goes out exactly if another link of the set carries traffic.
pub record GoesByItsSet (c : Configuration) (link : ℕ) (before after : Node WholeQueues) : Type 0 where
  pub awaits : has_other c link after.parts ≡ true → AwaitsAnswer c link after
  pub sends : (way : ℕ) → has_other c link after.parts ≡ true →
      link_of c after.parts (flow_of (order_about c link before)) ≡ Some way → SendsOrder c link way before after
  pub alone : has_other c link after.parts ≡ false → SendsNone c link before after

-- the first, where the settings ask for it, and else the second
abbrev pub orders_go_by_any_route : Type 0
orders_go_by_any_route =
    (c : Configuration) (link : ℕ) (why : FailureReason) (node : Node WholeQueues) → IsWell c →
    HasAllPlaces c node → in_service node.parts link ≡ true → c.changeover_by_any_route ≡ true →
    GoesByAnyRoute c link node (fail whole c link why node)

abbrev pub orders_go_by_their_set : Type 0
orders_go_by_their_set =
    (c : Configuration) (link : ℕ) (why : FailureReason) (node : Node WholeQueues) → HasAllPlaces c node →
    in_service node.parts link ≡ true → c.changeover_by_any_route ≡ false →
    GoesByItsSet c link node (fail whole c link why node)

-- ---- an order comes

-- with the number of the last message that its sender accepted, or without
abbrev pub order_with : (slc : ℕ) → (number : Option ℕ) → Management
order_with slc (Some number) = ExtendedChangeoverOrder slc number
order_with slc None = EmergencyChangeoverOrder slc

-- a message is an order of an adjacent point about a link of the set to that point
pub record IsOrder (c : Configuration) (link : ℕ) (number : Option ℕ) (m : Message) : Type 0 where
  pub indicator : service_indicator m ≡ 0
  pub slc : ℕ
  pub says : read_management m.sif ≡ Ok (order_with slc number)
  pub about : link_with_code c (opc_of m) slc ≡ Some link

-- a message stands last on a link
pub record StandsLast (m : Message) (link : ℕ) (node : Node WholeQueues) : Type 0 where
  pub others : List Message
  pub last : (queue_at node.queues link).all ≡ others ++ m ∷ []

-- The link's changeover is complete then, and the acknowledgement, with the number of the last message that was
-- accepted on the link before, stands last on the link of its own flow, unless 256 management messages wait. No order
-- goes out: of no link is an answer awaited more than before, nor less.
pub record IsAnswered (c : Configuration) (link : ℕ) (before : Node WholeQueues) (done : Done WholeQueues)
    : Type 0 where
  pub handled : done.outcome ≡ Handled
  pub complete : (changeover_of done.left.parts link).incomplete ≡ false
  pub awaited : (other : ℕ) →
      (changeover_of done.left.parts other).awaited ≡ (changeover_of before.parts other).awaited
  pub answer : (way : ℕ) →
      link_of c done.left.parts
      (flow_of (changeover_acknowledgement c link (whole.last_accepted before.queues link)))
      ≡ Some way →
      StandsLast (changeover_acknowledgement c link (whole.last_accepted before.queues link)) way done.left
      ⊎ (256 ≤ whole.managements done.left.queues)

-- so it is, by whatever link the order came
abbrev pub orders_are_answered : Type 0
orders_are_answered =
    (c : Configuration) (by link : ℕ) (number : Option ℕ) (m : Message) (node : Node WholeQueues) →
    HasAllPlaces c node → IsOrder c link number m → IsAnswered c link node (distribute whole c by m node)

-- ---- at most one answer is awaited

-- In each state reached from the first a link whose answer is awaited is down. So it doesn't fail, and no second order
-- about it goes out.
abbrev pub links_that_await_are_down : Type 0
links_that_await_are_down =
    (c : Configuration) (asked : List Asking) (link : ℕ) → length c.links ≤ LINKS → c.window ≤ WINDOW →
    (changeover_of (after_each asked (first_state c)).node.parts link).awaited ≡ true →
    down (after_each asked (first_state c)).node.parts link ≡ true
