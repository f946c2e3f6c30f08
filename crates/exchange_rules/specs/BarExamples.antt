-- Laws of links that are barred, at the node of two links of `OrderExamples`: wrong definitions make them false here.
use Rattle.std.specs.Prelude.{◌≡◌, ℕ, true, false, [], ◌∷◌, Option, Some, None}
use Rattle.signalling_types.specs.declared.notice.ChangeoverTimer.TheVariants as which
use Rattle.signalling_types.specs.declared.notice.Notice.TheVariants as notices
use Rattle.signalling_types.specs.declared.notice.Unbarring.TheVariants as unbarring
use Rattle.signalling_types.specs.declared.outcome.Outcome.TheVariants.{Ignored}
use Rattle.settings.specs.Configuration.{Configuration}
use Rattle.link.specs.declared.alignment.Alignment.TheVariants.{Down}
use Rattle.timers.specs.declared.name.TimerName.TheVariants.{T2}
use Rattle.timers.specs.Timers.{set_timer}
use Rattle.changeover.specs.Changeover.{Standing}
use Rattle.exchange_rules.specs.State.{Done, Node, answer, with_parts}
use Rattle.exchange_rules.specs.Queues.{WholeQueues, queue_at, whole}
use Rattle.exchange_rules.specs.ChangingOver.{changeover_of, on_changeover_acknowledgement, on_changeover_order}
use Rattle.exchange_rules.specs.ChangingOver.{on_changeover_timer}
use Rattle.exchange_rules.specs.Opening.{release_bar}
use Rattle.exchange_rules.specs.OrderExamples.{acknowledgement, mated, node_at}
use Rattle.exchange_rules.specs.RuleExamples.{ticks}

-- its links are barred for 7 ticks; T2 runs for 3
abbrev pub barring : Configuration
barring = record mated { timers = record ticks { t2 = 3; t2_bar = Some 7 } }

-- an answer is awaited, before the changeover is complete and after
abbrev pub asked : Standing
asked = record { incomplete = true; awaited = true }

abbrev pub barred : Standing
barred = record { incomplete = false; awaited = true }

abbrev pub over : Standing
over = record { incomplete = false; awaited = false }

-- the node after T2 of the link to point 2 ran out
abbrev pub after_t2 : Configuration → Standing → Node WholeQueues
after_t2 c standing = on_changeover_timer whole c which.T2 0 (node_at Down standing)

-- the changeover is completed, and the answer stays awaited for the time of the bar; nothing is broken yet
abbrev pub t2_bars_a_link : Type 0
t2_bars_a_link = changeover_of (after_t2 barring asked).parts 0 ≡ barred

abbrev pub bar_has_its_ticks : Type 0
bar_has_its_ticks = (after_t2 barring asked).parts.timers.left (T2 0) ≡ Some 7

abbrev pub bar_breaks_nothing : Type 0
bar_breaks_nothing = (after_t2 barring asked).parts.times_broken ≡ 0

-- the order isn't sent again: no management message stands anywhere
abbrev pub order_goes_once : Type 0
order_goes_once = whole.managements (after_t2 barring asked).queues ≡ 0

-- the bar is over, which is noted as such, and counts as a break; T2 doesn't run again
abbrev pub bar_ends_by_t2 : Type 0
bar_ends_by_t2 = changeover_of (after_t2 barring barred).parts 0 ≡ over

abbrev pub bar_ends_once : Type 0
bar_ends_once = (after_t2 barring barred).parts.timers.left (T2 0) ≡ None

abbrev pub bar_ends_with_its_notice : Type 0
bar_ends_with_its_notice =
    (after_t2 barring barred).parts.notices.last ≡ notices.Unbarred unbarring.T2 0 ∷ []

abbrev pub end_of_a_bar_is_a_break : Type 0
end_of_a_bar_is_a_break = (after_t2 barring barred).parts.times_broken ≡ 1

-- where links aren't barred T2 ends the wait, which counts as a break
abbrev pub t2_ends_the_wait : Type 0
t2_ends_the_wait = changeover_of (after_t2 mated asked).parts 0 ≡ over

abbrev pub t2_breaks_without_a_bar : Type 0
t2_breaks_without_a_bar = (after_t2 mated asked).parts.times_broken ≡ 1

-- the order of point 2 completes the changeover: the answer stays awaited, for the time of the bar
abbrev pub after_order : (number : Option ℕ) → Done WholeQueues
after_order number = on_changeover_order whole barring 0 number (node_at Down asked)

abbrev pub order_bars_a_link : Type 0
order_bars_a_link = changeover_of (after_order None).left.parts 0 ≡ barred

abbrev pub ordered_bar_has_its_ticks : Type 0
ordered_bar_has_its_ticks = (after_order None).left.parts.timers.left (T2 0) ≡ Some 7

-- it has no number, or one that names a count: that none was accepted; or one that names none, which counts as a break
abbrev pub order_without_number_breaks_nothing : Type 0
order_without_number_breaks_nothing = (after_order None).left.parts.times_broken ≡ 0

abbrev pub reasonable_number_breaks_nothing : Type 0
reasonable_number_breaks_nothing = (after_order (Some 16777215)).left.parts.times_broken ≡ 0

abbrev pub unreasonable_number_is_a_break : Type 0
unreasonable_number_is_a_break = (after_order (Some 5)).left.parts.times_broken ≡ 1

-- the node where the answer about the link to point 2 is awaited for 5 ticks more
abbrev pub awaiting : Standing → Node WholeQueues
awaiting standing =
    with_parts (node_at Down standing)
    (record (node_at Down standing).parts { timers = set_timer (T2 0) 5 (node_at Down standing).parts.timers })

-- the answer ends the bar
abbrev pub after_answer : Done WholeQueues
after_answer = on_changeover_acknowledgement whole barring 0 None (awaiting barred)

abbrev pub answer_ends_a_bar : Type 0
answer_ends_a_bar = changeover_of after_answer.left.parts 0 ≡ over

abbrev pub answer_stops_t2 : Type 0
answer_stops_t2 = after_answer.left.parts.timers.left (T2 0) ≡ None

abbrev pub answer_breaks_nothing : Type 0
answer_breaks_nothing = after_answer.left.parts.times_broken ≡ 0

-- an order that comes while the link is barred is answered, and leaves the bar and its time
abbrev pub after_another_order : Done WholeQueues
after_another_order = on_changeover_order whole barring 0 None (awaiting barred)

abbrev pub order_leaves_a_bar : Type 0
order_leaves_a_bar = changeover_of after_another_order.left.parts 0 ≡ barred

abbrev pub order_leaves_its_time : Type 0
order_leaves_its_time = after_another_order.left.parts.timers.left (T2 0) ≡ Some 5

abbrev pub barred_order_is_answered : Type 0
barred_order_is_answered = (queue_at after_another_order.left.queues 1).all ≡ acknowledgement ∷ []

-- the operator lets a link open that is barred, and no other
abbrev pub after_release : Standing → Done WholeQueues
after_release standing = release_bar whole barring 0 (awaiting standing)

abbrev pub release_ends_a_bar : Type 0
release_ends_a_bar = changeover_of (after_release barred).left.parts 0 ≡ over

abbrev pub release_stops_t2 : Type 0
release_stops_t2 = (after_release barred).left.parts.timers.left (T2 0) ≡ None

abbrev pub release_is_a_break : Type 0
release_is_a_break = (after_release barred).left.parts.times_broken ≡ 1

abbrev pub release_waits_for_the_changeover : Type 0
release_waits_for_the_changeover = after_release asked ≡ answer Ignored (awaiting asked)
