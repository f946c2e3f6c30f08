-- The run in which a link that leads out fails, computed as `MatedRun` computes its own.
use Rattle.node_moves.proofs.Basics.{◌≡◌, ℕ, Bool, true, false, ◌&&◌, List, [], ◌∷◌, ◌++◌, refl, ap, sym, ◌∙◌, arith}
use Rattle.node_moves.proofs.Anew.{begin-quietly}
use Rattle.node_moves.proofs.Beside.{beside-placed}
use Rattle.node_moves.proofs.Definitions.{Message, changeover_of, down, waits}
use Rattle.node_moves.proofs.LaidOut.{Four, changes-in-is, changes_in, network-seen, network_of, placing, seen}
use Rattle.node_moves.proofs.Offering.{GoesOutAt, is-queued, queued_at}
use Rattle.node_moves.proofs.Unheld.{Free, free-none, none-held}
use Rattle.node_moves.specs.Anew.{Change, Does, Restarts, GivesUp, OpensOutside, ComesOutside, AreOfOthers, Stays, after_changes}
use Rattle.node_moves.specs.Hops.{IsHop}
use Rattle.node_moves.specs.HopRun.{message_three}
use Rattle.node_moves.specs.MatedRun.{AnAnswer, AnOrder, Word, delivered, sends, submits, users, users_in, words}
use Rattle.node_moves.specs.Networks.{Fate, NetworkState, Submits, did_here, first_network, messages_of}
use Rattle.node_moves.specs.OutsideRun.{ComesByAnotherLink, at_near, begun, beside, between, changing_over, come, failing, leading_out, near_settings, on_its_own, opening, run_beside, to_changeover}
use Rattle.changeover.specs.Changeover.{may_restart}
unfoldable use Rattle.exchange_rules.specs.Exchange.{apply}
unfoldable use Rattle.exchange_rules.specs.Telling.{tell_owed}
unfoldable use Rattle.exchange_rules.specs.ChangingBack.{take_back_each}
unfoldable use Rattle.exchange_rules.specs.ChangingOver.{order_each}
unfoldable use Rattle.flow_hold.specs.Holds.{any_flow, flows}
unfoldable use Rattle.routes.specs.Routes.{choice_among, link_by, first_sets, links_below}
unfoldable use Rattle.timers.specs.Timers.{clear_timer, set_timer, start_unless_running, clear_set, due_name, after_due, due_count, names_of}
unfoldable use Rattle.route_management.specs.Told.{owes_nothing}
unfoldable use Rattle.m2pa_codec.specs.Frames.{status_of}
unfoldable use Rattle.changeback.specs.Rerouting.{rerouted}
unfoldable use Rattle.changeback.specs.Return.{changes_of, changes}

-- ---- lists of changes

changes-both : (one more : List Change) (w : NetworkState) → after_changes beside (one ++ more) w ≡ after_changes beside more (after_changes beside one w)
changes-both [] more w = refl
changes-both (change ∷ one) more w = changes-both one more _

-- nobody starts again, or gives up following
abbrev is_of_others : Change → Bool
is_of_others (Does step) = true
is_of_others (Restarts point) = false
is_of_others (GivesUp point link) = false
is_of_others (OpensOutside point link) = true
is_of_others (ComesOutside point link text) = true

abbrev are_of_others : List Change → Bool
are_of_others [] = true
are_of_others (change ∷ more) = is_of_others change && are_of_others more

others-so : (all : List Change) → are_of_others all ≡ true → AreOfOthers 1 2 all
others-so [] e = tt
others-so (Does step ∷ more) e = (tt, others-so more e)
others-so (Restarts point ∷ more) e = absurd cc
others-so (GivesUp point link ∷ more) e = absurd cc
others-so (OpensOutside point link ∷ more) e = (tt, others-so more e)
others-so (ComesOutside point link text ∷ more) e = (tt, others-so more e)

-- ---- the states, each computed from the one before

abbrev first_four : Four
first_four = seen (first_network beside)

abbrev opened_from : Four → Four
opened_from t = changes_in beside opening t

abbrev submitting : Four → Four
submitting t = record t { one = queued_at near_settings message_three t.one }

abbrev failed_from : Four → Four
failed_from t = changes_in beside (leading_out ++ failing) (submitting (opened_from t))

abbrev come_from : Four → Four
come_from t = changes_in beside (changing_over ++ at_near (sends between)) (failed_from t)

begun-is : begun ≡ network_of first_four
begun-is = sym (network-seen (first_network beside))

opened-is : after_changes beside opening begun ≡ network_of (opened_from first_four)
opened-is = ap (after_changes beside opening) begun-is ∙ changes-in-is beside opening first_four

three-out : GoesOutAt near_settings message_three
unfolding apply
three-out = record { handles = λ n. refl; submits = λ n. refl; enters = λ o n. refl }

three-free : Free 1 0 (opened_from first_four).one.node.parts.holds
unfolding apply tell_owed first_sets links_below status_of set_timer clear_timer start_unless_running clear_set due_name after_due due_count names_of choice_among link_by changes_of changes take_back_each owes_nothing any_flow flows rerouted order_each
three-free = free-none 1 0 3 2 2

submits-on : (w : NetworkState) (t : Four) → w ≡ network_of t → waits near_settings t.one.node.parts.holds message_three ≡ false → (more : List Change)
    → after_changes beside (Does (submits message_three) ∷ more) w ≡ network_of (changes_in beside more (submitting t))
submits-on w t same f more =
    ap (after_changes beside (Does (submits message_three) ∷ more)) same
    ∙ ap (after_changes beside more) (placing 1 (did_here (Submits message_three) near_settings) (queued_at near_settings message_three t.one) t (is-queued near_settings message_three three-out t.one f))
    ∙ changes-in-is beside more (submitting t)

failed-is : on_its_own ≡ network_of (failed_from first_four)
failed-is =
    changes-both opening (Does (submits message_three) ∷ leading_out ++ failing) begun
    ∙ submits-on (after_changes beside opening begun) (opened_from first_four) opened-is (none-held 1 0 (opened_from first_four).one.node.parts.holds three-free) (leading_out ++ failing)

come-is : come ≡ network_of (come_from first_four)
come-is =
    changes-both to_changeover (changing_over ++ at_near (sends between)) begun
    ∙ ap (after_changes beside (changing_over ++ at_near (sends between))) failed-is
    ∙ changes-in-is beside (changing_over ++ at_near (sends between)) (failed_from first_four)

-- ---- what they show

record Failed : Type 0 where
  down : Bool
  incomplete : Bool
  awaited : Bool

abbrev failed : NetworkState → Failed
failed w = record {
  down = down (w.node 1).node.parts 0;
  incomplete = (changeover_of (w.node 1).node.parts 0).incomplete;
  awaited = (changeover_of (w.node 1).node.parts 0).awaited;
}

abbrev so_failed : Failed
so_failed = record { down = true; incomplete = true; awaited = true }

failed-shown : failed (network_of (failed_from first_four)) ≡ so_failed
unfolding apply tell_owed first_sets links_below status_of set_timer clear_timer start_unless_running clear_set due_name after_due due_count names_of choice_among link_by changes_of changes take_back_each owes_nothing any_flow flows rerouted order_each
failed-shown = refl

failed-so : failed on_its_own ≡ so_failed
failed-so = ap failed failed-is ∙ failed-shown

record Come : Type 0 where
  near_broken : ℕ
  far_broken : ℕ
  near_lost : ℕ
  far_lost : ℕ
  by_second : List Word
  by_first : List Word
  opens : Bool
  accepted : List Message
  came : List Fate

abbrev come_of : NetworkState → Come
come_of w = record {
  near_broken = (w.node 1).node.parts.times_broken;
  far_broken = (w.node 2).node.parts.times_broken;
  near_lost = (w.node 1).node.parts.times_lost;
  far_lost = (w.node 2).node.parts.times_lost;
  by_second = words (messages_of ((w.node 1).came 1));
  by_first = words (messages_of ((w.node 1).came 0));
  opens = may_restart (changeover_of (w.node 1).node.parts 0);
  accepted = users (w.node 1).accepted;
  came = users_in ((w.node 2).came 0);
}

abbrev so_come : Come
so_come = record {
  near_broken = 0;
  far_broken = 0;
  near_lost = 0;
  far_lost = 0;
  by_second = AnOrder ∷ AnAnswer ∷ [];
  by_first = [];
  opens = true;
  accepted = message_three ∷ [];
  came = delivered message_three ∷ [];
}

come-shown : come_of (network_of (come_from first_four)) ≡ so_come
unfolding apply tell_owed first_sets links_below status_of set_timer clear_timer start_unless_running clear_set due_name after_due due_count names_of choice_among link_by changes_of changes take_back_each owes_nothing any_flow flows rerouted order_each
come-shown = refl

come-so : come_of come ≡ so_come
come-so = ap come_of come-is ∙ come-shown

beside-hop : IsHop beside 1 2
beside-hop = record {
  near_set = 1;
  far_set = 0;
  near_leads = record { adjacent = refl; only = refl };
  far_leads = record { adjacent = refl; only = refl };
}

stays : {n : ℕ} → n ≡ 0 → Stays 0 n
stays e = record { countable = omega arith; same = e }

pub by-another : ComesByAnotherLink
by-another = record {
  theirs = beside-placed;
  hop = beside-hop;
  left = begin-quietly beside 1 2;
  others = others-so run_beside refl;
  unbroken = record { near_whole = stays (ap (λ (s : Come). s.near_broken) come-so); far_whole = stays (ap (λ (s : Come). s.far_broken) come-so) };
  none_lost = record { near_none = stays (ap (λ (s : Come). s.near_lost) come-so); far_none = stays (ap (λ (s : Come). s.far_lost) come-so) };
  first_leads_out = refl;
  second_leads_out = refl;
  fails = ap (λ (s : Failed). s.down) failed-so;
  goes_on = ap (λ (s : Failed). s.incomplete) failed-so;
  awaits = ap (λ (s : Failed). s.awaited) failed-so;
  words_by_second = ap (λ (s : Come). s.by_second) come-so;
  words_by_first = ap (λ (s : Come). s.by_first) come-so;
  opens = ap (λ (s : Come). s.opens) come-so;
  accepted = ap (λ (s : Come). s.accepted) come-so;
  comes = ap (λ (s : Come). s.came) come-so;
}
