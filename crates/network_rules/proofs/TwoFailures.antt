-- The states of the run in which a message crosses two failures, computed: but for whether it waits, which is looked at
-- four times. Each is a function of the first nodes: as a constant it would cost the kernel far more.
use Rattle.pair_rules.proofs.Basics.{◌≡◌, ℕ, false, true, [], ◌∷◌, ◌++◌, Some, is_some, slice_get, refl, ap, sym, ◌∙◌}
use Rattle.pair_rules.proofs.Definitions.{set_timer, start_unless_running, clear_timer, clear_set, due_name, after_due, due_count, first_sets, choice_among, link_by, any_flow, flows, no_holds, waits, whole, deliver, receive, apply, take_back_each, in_flight}
use Rattle.timers.specs.Timers.{names_of}
use Rattle.routes.specs.Routes.{links_below}
use Rattle.route_management.specs.Told.{owes_nothing}
use Rattle.m2pa_codec.specs.Frames.{status_of}
use Rattle.changeback.specs.Rerouting.{rerouted}
use Rattle.changeback.specs.Return.{changes_of, changes}
use Rattle.flow_hold.specs.declared.procedure.Procedure.TheVariants.{Changeover, Code}
use Rattle.exchange_rules.specs.Telling.{tell_owed}
use Rattle.pair_rules.specs.Pairs.{Submits, Takes, Delivers}
use Rattle.neighbour_rules.specs.ThirdNode.{the_message}
use Rattle.neighbour_rules.proofs.Delivered.{delivers}
use Rattle.network_rules.specs.Networks.{NetworkState, first_network}
use Rattle.network_rules.specs.TwoFailures.{answering, come, done_at, failed, failed_on, fails, first_line, fourth_line, middle_settings, moved, moved_on, opening, ordering, passed, row, second_line, sends, sent, sent_on, served, settling, submitted, third_line, turned}
use Rattle.network_rules.proofs.LaidOut.{Three, network-seen, network_of, node_at, run, seen}
use Rattle.network_rules.proofs.Unheld.{Free, none-held, free-none, free-flows, free-less, free-ended}
use Rattle.network_rules.proofs.Offering.{message-on, ComesOn, Completes, ends, is-next, new_of, completing, next_accepted, next_text, passing, submitting, third, runs-on, submits-on, passes-on, completes-on}
use Rattle.network_rules.proofs.AllRuns.{steps-keep}

-- ---- the states, each computed from the one before

abbrev pub first_three : Three
first_three = seen (first_network row)

abbrev pub served_from : Three → Three
served_from t = run (opening ++ settling) t

abbrev pub submitted_from : Three → Three
submitted_from t = submitting the_message (served_from t)

abbrev pub sent_from : Three → Three
sent_from t = run (done_at first_line.here Takes ∷ []) (submitted_from t)

abbrev pub failed_from : Three → Three
failed_from t = run (fails first_line ++ ordering second_line) (sent_from t)

abbrev pub moved_from : Three → Three
moved_from t = run (answering second_line) (completing 3 1 third (failed_from t))

abbrev pub passed_from : Three → Three
passed_from t = passing the_message (moved_from t)

abbrev pub sent_on_from : Three → Three
sent_on_from t = run (done_at third_line.here Takes ∷ []) (passed_from t)

abbrev pub failed_on_from : Three → Three
failed_on_from t = run (fails third_line ++ ordering fourth_line) (sent_on_from t)

abbrev pub moved_on_from : Three → Three
moved_on_from t = run (answering fourth_line) (completing 1 3 middle_settings (failed_on_from t))

abbrev pub come_from : Three → Three
come_from t = run (done_at fourth_line.there Delivers ∷ sends (turned fourth_line) ++ sends (turned second_line)) (moved_on_from t)

-- ---- settings stay

served-keeps : (point : ℕ) → (served.node point).exchange.settings ≡ row point
served-keeps point = steps-keep (opening ++ settling) (first_network row) point

failed-keeps : (point : ℕ) → (failed.node point).exchange.settings ≡ row point
failed-keeps point =
    steps-keep (fails first_line ++ ordering second_line) sent point
    ∙ steps-keep (done_at first_line.here Takes ∷ []) submitted point
    ∙ steps-keep (record { point = 3; what = Submits the_message } ∷ []) served point
    ∙ served-keeps point

moved-keeps : (point : ℕ) → (moved.node point).exchange.settings ≡ row point
moved-keeps point = steps-keep (done_at second_line.here Delivers ∷ answering second_line) failed point ∙ failed-keeps point

failed_on-keeps : (point : ℕ) → (failed_on.node point).exchange.settings ≡ row point
failed_on-keeps point =
    steps-keep (fails third_line ++ ordering fourth_line) sent_on point
    ∙ steps-keep (done_at third_line.here Takes ∷ []) passed point
    ∙ steps-keep (done_at second_line.there Delivers ∷ []) moved point
    ∙ moved-keeps point

pub come-keeps : (point : ℕ) → (come.node point).exchange.settings ≡ row point
come-keeps point =
    steps-keep (done_at fourth_line.there Delivers ∷ sends (turned fourth_line) ++ sends (turned second_line)) moved_on point
    ∙ steps-keep (done_at fourth_line.here Delivers ∷ answering fourth_line) failed_on point
    ∙ failed_on-keeps point

pub kept : (point : ℕ) (w : NetworkState) (s : Three) → w ≡ network_of s → (w.node point).exchange.settings ≡ row point → (node_at s point).exchange.settings ≡ row point
kept point w s same e = sym (ap (λ (v : NetworkState). (v.node point).exchange.settings) same) ∙ e

-- ---- the message is submitted

third-free : Free 1 0 (served_from first_three).third.exchange.node.parts.holds
unfolding apply tell_owed first_sets links_below status_of set_timer clear_timer start_unless_running clear_set due_name after_due due_count names_of choice_among link_by changes_of changes take_back_each owes_nothing any_flow flows rerouted
third-free = free-less 1 0 _ _ (free-flows 1 0 (no_holds 2 1 2) (Code 0 0) _ (free-none 1 0 2 1 2) refl)

pub third-unheld : waits third (served_from first_three).third.exchange.node.parts.holds the_message ≡ false
third-unheld = none-held 1 0 (served_from first_three).third.exchange.node.parts.holds third-free

pub served-is : served ≡ network_of (served_from first_three)
served-is = runs-on (first_network row) first_three (sym (network-seen (first_network row))) (opening ++ settling)

pub third-settings : (served_from first_three).third.exchange.settings ≡ third
third-settings = kept 3 served (served_from first_three) served-is (served-keeps 3)

submitted-is : submitted ≡ network_of (submitted_from first_three)
submitted-is = submits-on served (served_from first_three) served-is the_message message-on third-settings third-unheld

pub sent-is : sent ≡ network_of (sent_from first_three)
sent-is = runs-on submitted (submitted_from first_three) submitted-is (done_at first_line.here Takes ∷ [])

pub failed-is : failed ≡ network_of (failed_from first_three)
failed-is = runs-on sent (sent_from first_three) sent-is (fails first_line ++ ordering second_line)

-- ---- its changeover completes at point 3

third-there : is_some (slice_get (in_flight (failed_from first_three).third.incoming.user_data 1) 0) ≡ true
unfolding apply tell_owed first_sets links_below status_of set_timer clear_timer start_unless_running clear_set due_name after_due due_count names_of choice_among link_by changes_of changes take_back_each owes_nothing any_flow flows rerouted
third-there = refl

third-held : (ends 1 (next_text 1 (failed_from first_three).third) third (failed_from first_three).third).left.queues.held ≡ the_message ∷ []
unfolding apply tell_owed first_sets links_below status_of set_timer clear_timer start_unless_running clear_set due_name after_due due_count names_of choice_among link_by changes_of changes take_back_each owes_nothing any_flow flows rerouted
third-held = refl

third-ended : Free 1 0 (ends 1 (next_text 1 (failed_from first_three).third) third (failed_from first_three).third).left.parts.holds
unfolding apply tell_owed first_sets links_below status_of set_timer clear_timer start_unless_running clear_set due_name after_due due_count names_of choice_among link_by changes_of changes take_back_each owes_nothing any_flow flows rerouted
third-ended = free-ended 1 0 _ (Changeover 0) _ _ (free-less 1 0 _ _ (free-flows 1 0 (no_holds 2 1 2) (Code 0 0) _ (free-none 1 0 2 1 2) refl)) refl

third-completes : Completes 1 (next_text 1 (failed_from first_three).third) third (failed_from first_three).third
third-completes = record {
  settings = kept 3 failed (failed_from first_three) failed-is (failed-keeps 3);
  there = is-next 1 (failed_from first_three).third third-there;
  held = third-held;
  unheld = none-held 1 0 (ends 1 (next_text 1 (failed_from first_three).third) third (failed_from first_three).third).left.parts.holds third-ended;
}

pub moved-is : moved ≡ network_of (moved_from first_three)
moved-is = completes-on failed (failed_from first_three) failed-is 3 1 third third-completes (answering second_line)

-- ---- it comes to point 1

near-there : is_some (slice_get (in_flight (moved_from first_three).first.incoming.user_data 1) 0) ≡ true
unfolding apply tell_owed first_sets links_below status_of set_timer clear_timer start_unless_running clear_set due_name after_due due_count names_of choice_among link_by changes_of changes take_back_each owes_nothing any_flow flows rerouted
near-there = refl

near-new : new_of 1 (next_text 1 (moved_from first_three).first) middle_settings (moved_from first_three).first.exchange.node ≡ Some the_message
unfolding apply tell_owed first_sets links_below status_of set_timer clear_timer start_unless_running clear_set due_name after_due due_count names_of choice_among link_by changes_of changes take_back_each owes_nothing any_flow flows rerouted
near-new = refl

near-goes : receive whole middle_settings 1 (next_text 1 (moved_from first_three).first) (moved_from first_three).first.exchange.node ≡ deliver whole middle_settings 1 the_message (next_accepted (moved_from first_three).first)
near-goes = delivers middle_settings 1 the_message (next_text 1 (moved_from first_three).first) (moved_from first_three).first.exchange.node near-new

near-free : Free 1 0 (next_accepted (moved_from first_three).first).parts.holds
unfolding apply tell_owed first_sets links_below status_of set_timer clear_timer start_unless_running clear_set due_name after_due due_count names_of choice_among link_by changes_of changes take_back_each owes_nothing any_flow flows rerouted
near-free =
    free-ended 1 0 _ (Changeover 0) _ _
    (free-less 1 0 _ _ (free-less 1 0 _ _ (free-flows 1 0 _ (Code 0 0) _ (free-flows 1 0 (no_holds 4 2 2) (Code 1 0) _ (free-none 1 0 4 2 2) refl) refl))) refl

comes-on : ComesOn the_message (next_text 1 (moved_from first_three).first) (next_accepted (moved_from first_three).first) (moved_from first_three).first
comes-on = record {
  settings = kept 1 moved (moved_from first_three) moved-is (moved-keeps 1);
  there = is-next 1 (moved_from first_three).first near-there;
  is_new = near-new;
  goes = near-goes;
  unheld = none-held 1 0 (next_accepted (moved_from first_three).first).parts.holds near-free;
}

pub passed-is : passed ≡ network_of (passed_from first_three)
passed-is = passes-on moved (moved_from first_three) moved-is the_message message-on comes-on []

pub sent_on-is : sent_on ≡ network_of (sent_on_from first_three)
sent_on-is = runs-on passed (passed_from first_three) passed-is (done_at third_line.here Takes ∷ [])

pub failed_on-is : failed_on ≡ network_of (failed_on_from first_three)
failed_on-is = runs-on sent_on (sent_on_from first_three) sent_on-is (fails third_line ++ ordering fourth_line)

-- ---- the next changeover completes there

near-next : is_some (slice_get (in_flight (failed_on_from first_three).first.incoming.user_data 3) 0) ≡ true
unfolding apply tell_owed first_sets links_below status_of set_timer clear_timer start_unless_running clear_set due_name after_due due_count names_of choice_among link_by changes_of changes take_back_each owes_nothing any_flow flows rerouted
near-next = refl

near-held : (ends 3 (next_text 3 (failed_on_from first_three).first) middle_settings (failed_on_from first_three).first).left.queues.held ≡ the_message ∷ []
unfolding apply tell_owed first_sets links_below status_of set_timer clear_timer start_unless_running clear_set due_name after_due due_count names_of choice_among link_by changes_of changes take_back_each owes_nothing any_flow flows rerouted
near-held = refl

near-ended : Free 1 0 (ends 3 (next_text 3 (failed_on_from first_three).first) middle_settings (failed_on_from first_three).first).left.parts.holds
unfolding apply tell_owed first_sets links_below status_of set_timer clear_timer start_unless_running clear_set due_name after_due due_count names_of choice_among link_by changes_of changes take_back_each owes_nothing any_flow flows rerouted
near-ended =
    free-ended 1 0 _ (Changeover 2) _ _
    (free-ended 1 0 _ (Changeover 0) _ _
    (free-less 1 0 _ _ (free-less 1 0 _ _ (free-flows 1 0 _ (Code 0 0) _ (free-flows 1 0 (no_holds 4 2 2) (Code 1 0) _ (free-none 1 0 4 2 2) refl) refl))) refl) refl

near-completes : Completes 3 (next_text 3 (failed_on_from first_three).first) middle_settings (failed_on_from first_three).first
near-completes = record {
  settings = kept 1 failed_on (failed_on_from first_three) failed_on-is (failed_on-keeps 1);
  there = is-next 3 (failed_on_from first_three).first near-next;
  held = near-held;
  unheld = none-held 1 0 (ends 3 (next_text 3 (failed_on_from first_three).first) middle_settings (failed_on_from first_three).first).left.parts.holds near-ended;
}

pub moved_on-is : moved_on ≡ network_of (moved_on_from first_three)
moved_on-is = completes-on failed_on (failed_on_from first_three) failed_on-is 1 3 middle_settings near-completes (answering fourth_line)

pub come-is : come ≡ network_of (come_from first_three)
come-is = runs-on moved_on (moved_on_from first_three) moved_on-is (done_at fourth_line.there Delivers ∷ sends (turned fourth_line) ++ sends (turned second_line))
