-- What a node counts as lost or broken raises its flag of losses: so while no flag is raised, nothing is gone.
use Rattle.node_moves.proofs.Basics.{◌≡◌, ◌≤◌, ◌+◌, ◌^◌, ◌-◌, ℕ, zero, suc, Bool, true, false, not, List, length, Option, Some, None, Result, Ok, Err, min, refl, ap, sym, subst, ◌∙◌, arith, ◌&&◌, if◌then◌else◌, is_some}
use Rattle.node_moves.proofs.Definitions.{Message, Configuration, Management, MgmtFault, Node, WholeQueues, whole, queue_at, is_link, changeover_of, opc_of, read_management}
use Rattle.node_moves.proofs.EndToEnd.{come-end-to-end, sum-nowhere}
use Rattle.node_moves.proofs.Ending.{ends-once}
use Rattle.node_moves.proofs.Everywhere.{IsKept, everywhere}
use Rattle.node_moves.specs.EndToEnd.{ComeFromEndToEnd, to_point, to_user_parts, total}
use Rattle.node_moves.specs.Laws.{AreTheirs, EndsOnce, IsUnbroken, gone_at, most}
use Rattle.node_moves.specs.Lossless.{ComeWhole, CountsNothing, EndsWhole, HaveLostNothing, flags_tell_of_each_loss, nodes_lose_nothing, nothing_is_lost_from_end_to_end}
use Rattle.node_moves.specs.Networks.{NetworkNode, NetworkState, IsNode, Step, after_steps, first_network, first_node, hand_over, happens, hear_data, after_event, is_node, points, state_of}
use Rattle.changeover.specs.Changeover.{accepted_count}
use Rattle.exchange_rules.proofs.NamedAll.{events-account, takes-flag}
use Rattle.exchange_rules.specs.ChangingOver.{bars, fail_by_order}
use Rattle.exchange_rules.specs.Conserving.{Gone, both_gone, confirmed, gone, gone_by, gone_by_answer, gone_by_completion, gone_by_expiry, gone_by_management, gone_by_message, gone_by_new, gone_by_order, gone_by_release, gone_by_timer, gone_by_timers, gone_by_word, is_word, nothing_gone, only_accepted}
use Rattle.exchange_rules.specs.Exchange.{after, handle_event, run_next, with_timers}
use Rattle.exchange_rules.specs.First.{Abstract}
use Rattle.exchange_rules.specs.GivingUpEvents.{expired_of}
use Rattle.exchange_rules.specs.Laws.{accept_text}
use Rattle.exchange_rules.specs.LawsOfLosses.{AreAccounted, Reasons, counted, ends_a_wait, losses, others_of, reasons_of, waits_ended}
use Rattle.exchange_rules.specs.Messages.{link_with_code, whither_goes}
use Rattle.exchange_rules.specs.Receiving.{new_message}
use Rattle.exchange_rules.specs.Sending.{after_take}
use Rattle.exchange_rules.specs.State.{Happening, Activated, CameUp, Deactivated, FrameCame, Released, Submitted, Ticked, TitleAdded, TitleSet, TitleRemoved, WentDown, is_raised, lost_any}
use Rattle.m2pa_codec.specs.Frames.{read_frame}
use Rattle.mtp3_codec.specs.declared.discrimination.Discrimination.{Discrimination}
use Rattle.mtp3_codec.specs.declared.discrimination.Discrimination.TheVariants as whither
use Rattle.mtp3_codec.specs.declared.management.Management.TheVariants as says
use Rattle.std.proofs.lemmas.List.Sums.{count_by-le-length}
use Rattle.timers.specs.Timers.{after_due, due_count, due_name, ticked}
use Rattle.timers.specs.declared.name.TimerName.{TimerName}
use Rattle.timers.specs.declared.name.TimerName.TheVariants as names

-- ---- counts

-- what was counted once is counted
counted-raised : (n t : ℕ) → counted n (suc t) ≡ 0 → ⊥
counted-raised zero t e = absurd cc
counted-raised (suc n) t e = counted-raised n (min (suc t) (2 ^ 64 - 2)) e

counted-none : (n t : ℕ) → counted n t ≡ 0 → (n ≡ 0) × (t ≡ 0)
counted-none zero t e = (refl, e)
counted-none (suc n) t e = absurd (counted-raised n (min t (2 ^ 64 - 2)) e)

no-raise : (times : ℕ) → is_raised times ≡ false → times ≡ 0
no-raise zero e = refl
no-raise (suc times) e = absurd cc

-- ---- a number that names no count is in doubt

wrong-few : (reasonable given : Bool) → (if not reasonable && given then 1 else 0) ≤ (if reasonable then 0 else 1)
wrong-few true given = omega arith
wrong-few false true = omega arith
wrong-few false false = omega arith

abbrev pub FewWrong : Gone → Type 0
FewWrong g = g.wrong ≤ g.doubts

none-wrong : FewWrong nothing_gone
none-wrong = omega arith

both-few : (one other : Gone) → FewWrong one → FewWrong other → FewWrong (both_gone one other)
both-few one other e f = omega (arith, e, f)

either-few : (b : Bool) (g : Gone) → FewWrong g → FewWrong (if b then g else nothing_gone)
either-few true g e = e
either-few false g e = none-wrong

completion-few : (incomplete : Bool) (link : ℕ) (number : Option ℕ) (queues : WholeQueues) → FewWrong (gone_by_completion incomplete link number queues)
completion-few true link number queues = wrong-few (is_some (accepted_count (queue_at queues link) number)) (is_some number)
completion-few false link number queues = none-wrong

order-few : (link number : Option ℕ) (c : Configuration) (node : Node WholeQueues) → FewWrong (gone_by_order link number c node)
order-few (Some link) number c node =
    (let fallen : Node WholeQueues = fail_by_order whole c link node in completion-few (changeover_of fallen.parts link).incomplete link number fallen.queues)
order-few None number c node = none-wrong

answer-few : (link number : Option ℕ) (node : Node WholeQueues) → FewWrong (gone_by_answer link number node)
answer-few (Some link) number node =
    either-few (changeover_of node.parts link).awaited (gone_by_completion (changeover_of node.parts link).incomplete link number node.queues)
    (completion-few (changeover_of node.parts link).incomplete link number node.queues)
answer-few None number node = none-wrong

management-few : (word : Management) (point : ℕ) (c : Configuration) (node : Node WholeQueues) → FewWrong (gone_by_management word point c node)
management-few (says.ExtendedChangeoverOrder slc number) point c node = order-few (link_with_code c point slc) (Some number) c node
management-few (says.EmergencyChangeoverOrder slc) point c node = order-few (link_with_code c point slc) None c node
management-few (says.ExtendedChangeoverAcknowledgement slc number) point c node = answer-few (link_with_code c point slc) (Some number) node
management-few (says.EmergencyChangeoverAcknowledgement slc) point c node = answer-few (link_with_code c point slc) None node
management-few says.TrafficRestartAllowed point c node = none-wrong
management-few (says.ChangebackDeclaration slc code) point c node = none-wrong
management-few (says.ChangebackAcknowledgement slc code) point c node = none-wrong
management-few (says.TransferProhibited about) point c node = none-wrong
management-few (says.TransferRestricted about) point c node = none-wrong
management-few (says.TransferAllowed about) point c node = none-wrong
management-few (says.RouteSetTestProhibited about) point c node = none-wrong
management-few (says.RouteSetTestRestricted about) point c node = none-wrong
management-few (says.UserPartUnavailable about user_part cause) point c node = none-wrong

word-few : (word : Result Management MgmtFault) (point : ℕ) (c : Configuration) (node : Node WholeQueues) → FewWrong (gone_by_word word point c node)
word-few (Ok word) point c node = management-few word point c node
word-few (Err fault) point c node = none-wrong

message-few : (d : Discrimination) (c : Configuration) (m : Message) (node : Node WholeQueues) → FewWrong (gone_by_message d c m node)
message-few (whither.Refused fault) c m node = none-wrong
message-few (whither.Here label) c m node = either-few (is_word c m) (gone_by_word (read_management m.sif) (opc_of m) c node) (word-few (read_management m.sif) (opc_of m) c node)
message-few (whither.Transfer label) c m node = none-wrong

new-few : (new : Option Message) (c : Configuration) (node : Node WholeQueues) → FewWrong (gone_by_new new c node)
new-few (Some m) c node = message-few (whither_goes c m) c m node
new-few None c node = none-wrong

expiry-few : (link : ℕ) (node : Node WholeQueues) → FewWrong (gone_by_expiry link node)
expiry-few link node =
    either-few (is_link node.parts link) (gone_by_completion (changeover_of node.parts link).incomplete link None node.queues)
    (completion-few (changeover_of node.parts link).incomplete link None node.queues)

timer-few : (name : Option TimerName) (node : Node WholeQueues) → FewWrong (gone_by_timer name node)
timer-few None node = none-wrong
timer-few (Some (names.T1 link)) node = expiry-few link node
timer-few (Some (names.T2 link)) node = expiry-few link node
timer-few (Some (names.L1 link)) node = none-wrong
timer-few (Some (names.L2 link)) node = none-wrong
timer-few (Some (names.L3 link)) node = none-wrong
timer-few (Some (names.L4 link)) node = none-wrong
timer-few (Some (names.L6 link)) node = none-wrong
timer-few (Some (names.L7 link)) node = none-wrong
timer-few (Some (names.T3 link)) node = none-wrong
timer-few (Some (names.T4 set code)) node = none-wrong
timer-few (Some (names.T6 destination)) node = none-wrong
timer-few (Some (names.T8 set destination)) node = none-wrong
timer-few (Some (names.T10 set destination)) node = none-wrong
timer-few (Some (names.Slt1 link)) node = none-wrong
timer-few (Some (names.Slt2 link)) node = none-wrong

timers-few : (more : ℕ) (c : Configuration) (node : Node WholeQueues) → FewWrong (gone_by_timers more c node)
timers-few zero c node = none-wrong
timers-few (suc more) c node =
    both-few (gone_by_timer (due_name node.parts.timers) (with_timers node (after_due node.parts.timers))) (gone_by_timers more c (run_next whole c node))
    (timer-few (due_name node.parts.timers) (with_timers node (after_due node.parts.timers))) (timers-few more c (run_next whole c node))

by-few : (what : Happening) (a : Abstract) → FewWrong (gone_by what a)
by-few (FrameCame link text) a =
    both-few (only_accepted (confirmed link text a)) (gone_by_new (new_message link text a) a.settings (accept_text link (read_frame text) a)) (omega arith)
    (new-few (new_message link text a) a.settings (accept_text link (read_frame text) a))
by-few Ticked a = timers-few (due_count (ticked a.node.parts.timers)) a.settings (with_timers a.node (ticked a.node.parts.timers))
by-few (CameUp link) a = none-wrong
by-few (WentDown link) a = none-wrong
by-few (Submitted message) a = none-wrong
by-few (Activated link emergency) a = none-wrong
by-few (Deactivated link) a = none-wrong
by-few (Released link) a = none-wrong
by-few (TitleAdded row is_memory_refused) a = none-wrong
by-few (TitleSet row is_memory_refused) a = none-wrong
by-few (TitleRemoved key digits) a = none-wrong

pub gone-few : (what : Happening) (a : Abstract) → FewWrong (gone what a)
gone-few what a = (let released : Gone = gone_by_release a.settings (handle_event whole a.settings what a.node).left in both-few (gone_by what a) released (by-few what a) (omega arith))

-- ---- so whatever happens, the flag tells of it

pub record IsTold (c : Configuration) (x : NetworkNode) : Type 0 where
  pub told : lost_any x.node.parts ≡ false → CountsNothing x.node.parts

parts-told : (what : Happening) (a : Abstract) → (a.node.parts.times_lost ≡ 0 → CountsNothing a.node.parts) → (after whole what a).node.parts.times_lost ≡ 0 → CountsNothing (after whole what a).node.parts
parts-told what a before none =
    let r : Reasons = reasons_of what a in
    let k : AreAccounted r (others_of what a) a.node.parts (after whole what a).node.parts = events-account what a in
    let both : (losses r ≡ 0) × (a.node.parts.times_lost ≡ 0) = counted-none (losses r) a.node.parts.times_lost (sym k.times_lost ∙ none) in
    let was : CountsNothing a.node.parts = before both.1 in
    let none_lost : length r.lost ≡ 0 = omega (arith, both.0) in
    let few : waits_ended (bars a.settings) (expired_of what a) ≤ length (expired_of what a) = count_by-le-length (ends_a_wait (bars a.settings)) (expired_of what a) in
    let none_broken : r.breaks ≡ 0 = omega (arith, both.0, few, gone-few what a) in
    record {
      none_lost = k.messages_lost ∙ ap (λ (n : ℕ). counted n a.node.parts.messages_lost) none_lost ∙ was.none_lost;
      unbroken = k.times_broken ∙ ap (λ (n : ℕ). counted n a.node.parts.times_broken) none_broken ∙ was.unbroken;
    }

raised-if : (times : ℕ) → times ≡ 0 → is_raised times ≡ false
raised-if times e = ap is_raised e

event-told : (c : Configuration) (what : Happening) (x y : NetworkNode) → y.node ≡ after_event c what x → IsTold c x → IsTold c y
event-told c what x y is h = record {
  told = λ e.
      subst (λ (n : Node WholeQueues). CountsNothing n.parts) (sym is)
      (parts-told what (state_of c x) (λ none. h.told (raised-if x.node.parts.times_lost none)) (ap (λ (n : Node WholeQueues). n.parts.times_lost) (sym is) ∙ no-raise y.node.parts.times_lost e));
}

taken-told : (c : Configuration) (link : ℕ) (x : NetworkNode) → IsTold c x → IsTold c (record x { node = after_take whole c link x.node })
taken-told c link x h =
    let t = takes-flag (state_of c x) link in
    record {
      told = λ e.
          let was : CountsNothing x.node.parts = h.told (ap is_raised (sym t.0) ∙ e) in
          record { none_lost = t.2 ∙ was.none_lost; unbroken = t.3 ∙ was.unbroken };
    }

told-kept : IsKept IsTold
told-kept = record {
  handed = λ c m x h. event-told c (Submitted m) x (hand_over c m x) refl h;
  heard = λ c link text x inside h. event-told c (FrameCame link text) x (hear_data c (Some text) link x) refl h;
  happened = λ c what x h. event-told c what x (happens c what x) refl h;
  taken = λ c link x h. taken-told c link x h;
  flown = λ c x y s h. record {
    told = λ e.
        subst (λ (n : Node WholeQueues). CountsNothing n.parts) (sym s.node) (h.told (ap (λ (n : Node WholeQueues). lost_any n.parts) (sym s.node) ∙ e));
  };
}

first-told : (c : Configuration) → IsTold c (first_node c)
first-told c = record { told = λ e. record { none_lost = refl; unbroken = refl } }

pub flags-tell : flags_tell_of_each_loss
flags-tell settings steps point none = (everywhere IsTold told-kept settings first-told steps point).told none

-- ---- while none is raised

none-min : (k : ℕ) → min k most ≤ 0 → k ≡ 0
none-min k l = omega (arith, l)

module _ (settings : (point : ℕ) → Configuration) (steps : List Step) (t : AreTheirs settings) where
  abbrev w : NetworkState
  w = after_steps settings steps (first_network settings)

  module _ (none : HaveLostNothing settings w) where
    are-whole : IsUnbroken settings w
    are-whole x fx = (flags-tell settings steps x (none x fx)).unbroken

    none-gone : (test : Message → Bool) (x : ℕ) → IsNode settings x → gone_at settings w test x ≡ 0
    none-gone test x fx =
        let e : EndsOnce settings w x = ends-once settings steps x t fx are-whole in
        none-min (gone_at settings w test x) (subst (λ (n : ℕ). min (gone_at settings w test x) most ≤ n) (flags-tell settings steps x (none x fx)).none_lost (e.counted test))

    none-anywhere : (test : Message → Bool) → total settings w (gone_at settings w test) ≡ 0
    none-anywhere test = sum-nowhere (is_node settings) (gone_at settings w test) (λ x fx. none-gone test x fx) points

    ends-whole : (x : ℕ) → IsNode settings x → EndsWhole settings w x
    ends-whole x fx = record { once = λ test. (let e : EndsOnce settings w x = ends-once settings steps x t fx are-whole in e.once test ∙ last _ _ (none-gone test x fx)) }
      where
        last : (a b : ℕ) → b ≡ 0 → a + b ≡ a
        last a b e = omega (arith, e)

    comes-whole : (x : ℕ) → IsNode settings x → ComeWhole settings w x
    comes-whole x fx =
        let e : ComeFromEndToEnd settings w x = come-end-to-end settings steps x t fx are-whole in
        record {
          once = λ test. e.once test ∙ last _ _ (none-anywhere (to_user_parts x test));
          with_sccp = λ test. e.with_sccp test ∙ last _ _ (none-anywhere (to_point x test));
        }
      where
        last : (a b : ℕ) → b ≡ 0 → a + b ≡ a
        last a b e = omega (arith, e)

pub nodes-whole : nodes_lose_nothing
nodes-whole settings steps point t fx none = ends-whole settings steps t none point fx

pub all-whole : nothing_is_lost_from_end_to_end
all-whole settings steps point t fx none = comes-whole settings steps t none point fx
