-- Laws of orders that go out late, at the node of two links of `OrderExamples`: wrong definitions make them false here.
use Rattle.std.specs.Prelude.{◌≡◌, ℕ, true, false, [], length, Some, None}
use Rattle.settings.specs.Configuration.{Configuration}
use Rattle.link.specs.declared.alignment.Alignment.TheVariants.{Down}
use Rattle.timers.specs.declared.name.TimerName.TheVariants.{T1, T2}
use Rattle.timers.specs.Timers.{set_timer}
use Rattle.changeover.specs.Changeover.{Standing}
use Rattle.exchange_rules.specs.State.{FrameCame, Node, Ticked, with_parts}
use Rattle.exchange_rules.specs.Queues.{WholeQueues, queue_at, whole}
use Rattle.exchange_rules.specs.ChangingOver.{changeover_of, order_all}
use Rattle.exchange_rules.specs.Exchange.{handle_event}
use Rattle.exchange_rules.specs.OrderExamples.{mated, node_at}

-- its changeover isn't complete, and no order went out; and then one did
abbrev pub unasked : Standing
unasked = record { incomplete = true; awaited = false }

abbrev pub asked : Standing
asked = record { incomplete = true; awaited = true }

-- the node where T1 of the link to point 2 runs, though there is a way by point 3 now
abbrev pub waiting : Node WholeQueues
waiting =
    with_parts (node_at Down unasked)
    (record (node_at Down unasked).parts { timers = set_timer (T1 0) 5 (node_at Down unasked).parts.timers })

abbrev pub after : Configuration → Node WholeQueues → Node WholeQueues
after c node = order_all whole c node

-- how many messages are on the link to point 3
abbrev pub sent : Node WholeQueues → ℕ
sent node = length (queue_at node.queues 1).all

-- the order goes out, and its answer is awaited: T1 stops, and T2 runs
abbrev pub late_order_is_awaited : Type 0
late_order_is_awaited = changeover_of (after mated waiting).parts 0 ≡ asked

abbrev pub late_order_stops_t1 : Type 0
late_order_stops_t1 = (after mated waiting).parts.timers.left (T1 0) ≡ None

abbrev pub late_order_starts_t2 : Type 0
late_order_starts_t2 = (after mated waiting).parts.timers.left (T2 0) ≡ Some mated.timers.t2

abbrev pub late_order_goes_by_the_mate : Type 0
late_order_goes_by_the_mate = sent (after mated waiting) ≡ 1

-- never a second one while it is awaited
abbrev pub late_order_goes_once : Type 0
late_order_goes_once = sent (after mated (after mated waiting)) ≡ 1

-- nor where orders go by their set alone
abbrev pub late_order_needs_its_key : Type 0
late_order_needs_its_key = sent (after (record mated { changeover_by_any_route = false }) waiting) ≡ 0

-- at the end of each frame that isn't refused, and of each tick
abbrev pub frame_lets_an_order_go : Type 0
frame_lets_an_order_go = sent (handle_event whole mated (FrameCame 1 []) waiting).left ≡ 1

abbrev pub refused_frame_lets_none_go : Type 0
refused_frame_lets_none_go = sent (handle_event whole mated (FrameCame 7 []) waiting).left ≡ 0

abbrev pub tick_lets_an_order_go : Type 0
tick_lets_an_order_go = sent (handle_event whole mated Ticked waiting).left ≡ 1
