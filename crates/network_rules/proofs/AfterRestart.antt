-- The states of the run in which a message comes after a restart, computed, each as a function of the first nodes; but
-- for whether the message waits, which is looked at twice.
use Rattle.pair_rules.proofs.Basics.{◌≡◌, ℕ, false, true, [], ◌∷◌, ◌++◌, Some, is_some, slice_get, map, refl, ap, sym, ◌∙◌}
use Rattle.pair_rules.proofs.Definitions.{set_timer, start_unless_running, clear_timer, clear_set, due_name, after_due, due_count, first_sets, choice_among, link_by, any_flow, flows, no_holds, waits, whole, deliver, receive, apply, take_back_each, in_flight}
use Rattle.timers.specs.Timers.{names_of}
use Rattle.routes.specs.Routes.{links_below}
use Rattle.route_management.specs.Told.{owes_nothing}
use Rattle.m2pa_codec.specs.Frames.{status_of}
use Rattle.changeback.specs.Rerouting.{rerouted}
use Rattle.changeback.specs.Return.{changes_of, changes}
use Rattle.flow_hold.specs.declared.procedure.Procedure.TheVariants.{Changeover}
use Rattle.exchange_rules.specs.Telling.{tell_owed}
use Rattle.pair_rules.specs.Pairs.{Submits, Takes}
use Rattle.neighbour_rules.specs.ThirdNode.{the_message}
use Rattle.neighbour_rules.proofs.Delivered.{delivers}
use Rattle.network_rules.specs.Networks.{NetworkState, first_network}
use Rattle.network_rules.specs.Anew.{Steps, after_all, begun_anew}
use Rattle.network_rules.specs.TwoFailures.{done_at, middle_settings, row, second_line, sends, third_line, turned}
use Rattle.network_rules.specs.AfterRestart.{breaking, broken, come, opening, passed, returned, returning, sent, submitted}
use Rattle.network_rules.proofs.LaidOut.{Three, network-seen, network_of, node_at, run, seen}
use Rattle.network_rules.proofs.Renewed.{anew, anew-is, changes-are, run_changes}
use Rattle.network_rules.proofs.Unheld.{Free, none-held, free-none, free-ended}
use Rattle.network_rules.proofs.Offering.{message-on, ComesOn, is-next, new_of, next_accepted, next_text, passing, submitting, third, runs-on, submits-on, passes-on}
use Rattle.network_rules.proofs.AllRuns.{steps-keep}
use Rattle.network_rules.proofs.Reached.{changes-keep}

abbrev pub first_three : Three
first_three = seen (first_network row)

abbrev pub broken_from : Three → Three
broken_from t = run_changes (map Steps opening ++ breaking) t

abbrev pub returned_from : Three → Three
returned_from t = run returning (anew (broken_from t))

abbrev pub submitted_from : Three → Three
submitted_from t = submitting the_message (returned_from t)

abbrev pub sent_from : Three → Three
sent_from t = run (done_at second_line.here Takes ∷ []) (submitted_from t)

abbrev pub passed_from : Three → Three
passed_from t = passing the_message (sent_from t)

abbrev pub come_from : Three → Three
come_from t = run (sends third_line ++ sends (turned third_line) ++ sends (turned second_line)) (passed_from t)

-- ---- settings stay

pub broken-keeps : (point : ℕ) → (broken.node point).exchange.settings ≡ row point
broken-keeps point = changes-keep (map Steps opening ++ breaking) (first_network row) point

returned-keeps : (point : ℕ) → (returned.node point).exchange.settings ≡ row point
returned-keeps point = steps-keep returning (begun_anew broken) point ∙ broken-keeps point

sent-keeps : (point : ℕ) → (sent.node point).exchange.settings ≡ row point
sent-keeps point =
    steps-keep (done_at second_line.here Takes ∷ []) submitted point
    ∙ steps-keep (record { point = 3; what = Submits the_message } ∷ []) returned point
    ∙ returned-keeps point

kept : (point : ℕ) (w : NetworkState) (s : Three) → w ≡ network_of s → (w.node point).exchange.settings ≡ row point → (node_at s point).exchange.settings ≡ row point
kept point w s same e = sym (ap (λ (v : NetworkState). (v.node point).exchange.settings) same) ∙ e

-- ---- the network returns

pub broken-is : broken ≡ network_of (broken_from first_three)
broken-is = ap (after_all (map Steps opening ++ breaking)) (sym (network-seen (first_network row))) ∙ changes-are (map Steps opening ++ breaking) first_three

pub returned-is : returned ≡ network_of (returned_from first_three)
returned-is = runs-on (begun_anew broken) (anew (broken_from first_three)) (ap begun_anew broken-is ∙ anew-is (broken_from first_three)) returning

-- ---- the message is submitted

third-free : Free 1 0 (returned_from first_three).third.exchange.node.parts.holds
unfolding apply tell_owed first_sets links_below status_of set_timer clear_timer start_unless_running clear_set due_name after_due due_count names_of choice_among link_by changes_of changes take_back_each owes_nothing any_flow flows rerouted
third-free = free-ended 1 0 (no_holds 2 1 2) (Changeover 1) _ _ (free-none 1 0 2 1 2) refl

third-unheld : waits third (returned_from first_three).third.exchange.node.parts.holds the_message ≡ false
third-unheld = none-held 1 0 (returned_from first_three).third.exchange.node.parts.holds third-free

third-settings : (returned_from first_three).third.exchange.settings ≡ third
third-settings = kept 3 returned (returned_from first_three) returned-is (returned-keeps 3)

submitted-is : submitted ≡ network_of (submitted_from first_three)
submitted-is = submits-on returned (returned_from first_three) returned-is the_message message-on third-settings third-unheld

sent-is : sent ≡ network_of (sent_from first_three)
sent-is = runs-on submitted (submitted_from first_three) submitted-is (done_at second_line.here Takes ∷ [])

-- ---- it comes to point 1

near-there : is_some (slice_get (in_flight (sent_from first_three).first.incoming.user_data 1) 0) ≡ true
unfolding apply tell_owed first_sets links_below status_of set_timer clear_timer start_unless_running clear_set due_name after_due due_count names_of choice_among link_by changes_of changes take_back_each owes_nothing any_flow flows rerouted
near-there = refl

near-new : new_of 1 (next_text 1 (sent_from first_three).first) middle_settings (sent_from first_three).first.exchange.node ≡ Some the_message
unfolding apply tell_owed first_sets links_below status_of set_timer clear_timer start_unless_running clear_set due_name after_due due_count names_of choice_among link_by changes_of changes take_back_each owes_nothing any_flow flows rerouted
near-new = refl

near-goes : receive whole middle_settings 1 (next_text 1 (sent_from first_three).first) (sent_from first_three).first.exchange.node ≡ deliver whole middle_settings 1 the_message (next_accepted (sent_from first_three).first)
near-goes = delivers middle_settings 1 the_message (next_text 1 (sent_from first_three).first) (sent_from first_three).first.exchange.node near-new

near-free : Free 1 0 (next_accepted (sent_from first_three).first).parts.holds
unfolding apply tell_owed first_sets links_below status_of set_timer clear_timer start_unless_running clear_set due_name after_due due_count names_of choice_among link_by changes_of changes take_back_each owes_nothing any_flow flows rerouted
near-free = free-none 1 0 4 2 2

comes-on : ComesOn the_message (next_text 1 (sent_from first_three).first) (next_accepted (sent_from first_three).first) (sent_from first_three).first
comes-on = record {
  settings = kept 1 sent (sent_from first_three) sent-is (sent-keeps 1);
  there = is-next 1 (sent_from first_three).first near-there;
  is_new = near-new;
  goes = near-goes;
  unheld = none-held 1 0 (next_accepted (sent_from first_three).first).parts.holds near-free;
}

passed-is : passed ≡ network_of (passed_from first_three)
passed-is = passes-on sent (sent_from first_three) sent-is the_message message-on comes-on []

pub come-is : come ≡ network_of (come_from first_three)
come-is = runs-on passed (passed_from first_three) passed-is (sends third_line ++ sends (turned third_line) ++ sends (turned second_line))
