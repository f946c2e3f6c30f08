-- The states of the run in which the next message follows, computed as those of `TwoFailures`, and what it shows.
use Rattle.pair_rules.proofs.Basics.{◌≡◌, ℕ, Bool, false, true, List, [], ◌∷◌, Some, is_some, slice_get, refl, ap, sym, ◌∙◌, map}
use Rattle.std.specs.List.{list_any}
use Rattle.pair_rules.proofs.Definitions.{Message, flow_of, set_timer, start_unless_running, clear_timer, clear_set, due_name, after_due, due_count, first_sets, choice_among, link_by, any_flow, flows, no_holds, waits, whole, deliver, receive, apply, take_back_each, in_flight, lost_any, late_any}
use Rattle.timers.specs.Timers.{names_of}
use Rattle.routes.specs.Routes.{links_below}
use Rattle.route_management.specs.Told.{owes_nothing}
use Rattle.m2pa_codec.specs.Frames.{status_of}
use Rattle.changeback.specs.Rerouting.{rerouted}
use Rattle.changeback.specs.Return.{changes_of, changes}
use Rattle.flow_hold.specs.declared.procedure.Procedure.TheVariants.{Changeover, Code}
use Rattle.exchange_rules.specs.Telling.{tell_owed}
use Rattle.pair_rules.specs.Pairs.{Submits, Takes, Delivers}
use Rattle.pair_rules.specs.Promises.{of_flow}
use Rattle.neighbour_rules.specs.Beyond.{tells_of}
use Rattle.neighbour_rules.specs.ThirdNode.{the_message}
use Rattle.neighbour_rules.proofs.Delivered.{delivers}
use Rattle.network_rules.specs.Networks.{Arrival, NetworkState}
use Rattle.network_rules.specs.Pairs.{came_from}
use Rattle.network_rules.specs.Paths.{EachOnlyPasses, came_over}
use Rattle.network_rules.specs.Hops.{AreOpenHops}
use Rattle.network_rules.specs.TwoFailures.{come, done_at, fourth_line, middle_settings, row, second_line, sends, users_come}
use Rattle.network_rules.specs.NextMessage.{BothComeInOrder, both_arrivals, both_come, passed, queued, sent, the_next}
use Rattle.network_rules.proofs.LaidOut.{Three, network_of, run}
use Rattle.network_rules.proofs.Unheld.{Free, none-held, free-none, free-flows, free-less, free-ended}
use Rattle.network_rules.proofs.Offering.{ComesOn, GoesOn, is-next, new_of, next_accepted, next_text, passing, submitting, third, runs-on, submits-on, passes-on}
use Rattle.network_rules.proofs.AllRuns.{steps-keep}
use Rattle.network_rules.proofs.CrossedPath.{IsReached, by-law, come-reached, hops-open, on-by}
use Rattle.network_rules.proofs.TwoFailures.{come-is, come-keeps, come_from, first_three, kept}

next-on : GoesOn the_next
unfolding apply
next-on = record { submits = λ n. refl; enters = λ o n. refl; comes = λ o n. refl; offers = λ n. refl }

-- ---- the states, each computed from the one before

abbrev queued_from : Three → Three
queued_from t = submitting the_next (come_from t)

abbrev sent_from : Three → Three
sent_from t = run (done_at second_line.here Takes ∷ []) (queued_from t)

abbrev passed_from : Three → Three
passed_from t = passing the_next (sent_from t)

abbrev both_from : Three → Three
both_from t = run (sends fourth_line) (passed_from t)

sent-keeps : (point : ℕ) → (sent.node point).exchange.settings ≡ row point
sent-keeps point =
    steps-keep (done_at second_line.here Takes ∷ []) queued point ∙ steps-keep (record { point = 3; what = Submits the_next } ∷ []) come point ∙ come-keeps point

-- ---- it is submitted

third-free : Free 1 0 (come_from first_three).third.exchange.node.parts.holds
unfolding apply tell_owed first_sets links_below status_of set_timer clear_timer start_unless_running clear_set due_name after_due due_count names_of choice_among link_by changes_of changes take_back_each owes_nothing any_flow flows rerouted
third-free = free-ended 1 0 _ (Changeover 0) _ _ (free-less 1 0 _ _ (free-flows 1 0 (no_holds 2 1 2) (Code 0 0) _ (free-none 1 0 2 1 2) refl)) refl

third-unheld : waits third (come_from first_three).third.exchange.node.parts.holds the_next ≡ false
third-unheld = none-held 1 0 (come_from first_three).third.exchange.node.parts.holds third-free

queued-is : queued ≡ network_of (queued_from first_three)
queued-is = submits-on come (come_from first_three) come-is the_next next-on (kept 3 come (come_from first_three) come-is (come-keeps 3)) third-unheld

sent-is : sent ≡ network_of (sent_from first_three)
sent-is = runs-on queued (queued_from first_three) queued-is (done_at second_line.here Takes ∷ [])

-- ---- it comes to point 1

near-there : is_some (slice_get (in_flight (sent_from first_three).first.incoming.user_data 1) 0) ≡ true
unfolding apply tell_owed first_sets links_below status_of set_timer clear_timer start_unless_running clear_set due_name after_due due_count names_of choice_among link_by changes_of changes take_back_each owes_nothing any_flow flows rerouted
near-there = refl

near-new : new_of 1 (next_text 1 (sent_from first_three).first) middle_settings (sent_from first_three).first.exchange.node ≡ Some the_next
unfolding apply tell_owed first_sets links_below status_of set_timer clear_timer start_unless_running clear_set due_name after_due due_count names_of choice_among link_by changes_of changes take_back_each owes_nothing any_flow flows rerouted
near-new = refl

near-goes : receive whole middle_settings 1 (next_text 1 (sent_from first_three).first) (sent_from first_three).first.exchange.node ≡ deliver whole middle_settings 1 the_next (next_accepted (sent_from first_three).first)
near-goes = delivers middle_settings 1 the_next (next_text 1 (sent_from first_three).first) (sent_from first_three).first.exchange.node near-new

near-free : Free 1 0 (next_accepted (sent_from first_three).first).parts.holds
unfolding apply tell_owed first_sets links_below status_of set_timer clear_timer start_unless_running clear_set due_name after_due due_count names_of choice_among link_by changes_of changes take_back_each owes_nothing any_flow flows rerouted
near-free =
    free-ended 1 0 _ (Changeover 2) _ _
    (free-ended 1 0 _ (Changeover 0) _ _
    (free-less 1 0 _ _ (free-less 1 0 _ _ (free-flows 1 0 _ (Code 0 0) _ (free-flows 1 0 (no_holds 4 2 2) (Code 1 0) _ (free-none 1 0 4 2 2) refl) refl))) refl) refl

comes-on : ComesOn the_next (next_text 1 (sent_from first_three).first) (next_accepted (sent_from first_three).first) (sent_from first_three).first
comes-on = record {
  settings = kept 1 sent (sent_from first_three) sent-is (sent-keeps 1);
  there = is-next 1 (sent_from first_three).first near-there;
  is_new = near-new;
  goes = near-goes;
  unheld = none-held 1 0 (next_accepted (sent_from first_three).first).parts.holds near-free;
}

passed-is : passed ≡ network_of (passed_from first_three)
passed-is = passes-on sent (sent_from first_three) sent-is the_next next-on comes-on []

both-is : both_come ≡ network_of (both_from first_three)
both-is = runs-on passed (passed_from first_three) passed-is (sends fourth_line)

-- ---- what it shows

record Shown : Type 0 where
  come : List Arrival
  accepted : List Message
  entered : List Message
  of_its_flow : List Message
  from_third : List Message
  told : Bool
  lost : Bool
  late : Bool

-- a node, and one next to it
abbrev shown : NetworkState → (point other : ℕ) → Shown
shown w point other = record {
  come = users_come (w.node point);
  accepted = (w.node point).accepted;
  entered = (w.node point).entered;
  of_its_flow = of_flow (flow_of the_message) (map (λ a. a.message) (w.node point).arrived);
  from_third = came_over (flow_of the_message) w 3 point;
  told = list_any (tells_of 2) (came_from (w.node point).exchange.settings (w.node other).exchange.settings (w.node point).arrived);
  lost = lost_any (w.node point).exchange.node.parts;
  late = late_any (w.node point).exchange.node.parts;
}

abbrev shows : List Arrival → (accepted entered of_its_flow from_third : List Message) → (told : Bool) → Shown
shows come accepted entered of_its_flow from_third told =
    record { come = come; accepted = accepted; entered = entered; of_its_flow = of_its_flow; from_third = from_third; told = told; lost = false; late = false }

abbrev both : List Message
both = the_message ∷ the_next ∷ []

abbrev third_shown : Shown
third_shown = shows [] both both [] [] false

abbrev near_shown : Shown
near_shown = shows both_arrivals both [] both both true

abbrev far_shown : Shown
far_shown = shows both_arrivals [] [] both [] false

third-shows : shown (network_of (both_from first_three)) 3 1 ≡ third_shown
unfolding apply tell_owed first_sets links_below status_of set_timer clear_timer start_unless_running clear_set due_name after_due due_count names_of choice_among link_by changes_of changes take_back_each owes_nothing any_flow flows rerouted
third-shows = refl

near-shows : shown (network_of (both_from first_three)) 1 3 ≡ near_shown
unfolding apply tell_owed first_sets links_below status_of set_timer clear_timer start_unless_running clear_set due_name after_due due_count names_of choice_among link_by changes_of changes take_back_each owes_nothing any_flow flows rerouted
near-shows = refl

far-shows : shown (network_of (both_from first_three)) 2 1 ≡ far_shown
unfolding apply tell_owed first_sets links_below status_of set_timer clear_timer start_unless_running clear_set due_name after_due due_count names_of choice_among link_by changes_of changes take_back_each owes_nothing any_flow flows rerouted
far-shows = refl

third-is : shown both_come 3 1 ≡ third_shown
third-is = ap (λ (w : NetworkState). shown w 3 1) both-is ∙ third-shows

near-is : shown both_come 1 3 ≡ near_shown
near-is = ap (λ (w : NetworkState). shown w 1 3) both-is ∙ near-shows

far-is : shown both_come 2 1 ≡ far_shown
far-is = ap (λ (w : NetworkState). shown w 2 1) both-is ∙ far-shows

-- ---- its path

passes-only : EachOnlyPasses (flow_of the_message) both_come 3 (1 ∷ 2 ∷ [])
passes-only = (
  record {
    comes = ap (λ (s : Shown). s.of_its_flow) near-is ∙ sym (ap (λ (s : Shown). s.from_third) near-is);
    enters = ap (λ (s : Shown). of_flow (flow_of the_message) s.entered) near-is;
  },
  tt,
)

open-hops : AreOpenHops row both_come (flow_of the_message) 3 (1 ∷ 2 ∷ [])
open-hops = hops-open both_come (ap (λ (s : Shown). s.told) third-is) (record {
  first_lossless = ap (λ (s : Shown). s.lost) third-is;
  middle_lossless = ap (λ (s : Shown). s.lost) near-is;
  last_lossless = ap (λ (s : Shown). s.lost) far-is;
  first_punctual = ap (λ (s : Shown). s.late) third-is;
  middle_punctual = ap (λ (s : Shown). s.late) near-is;
})

both-reached : IsReached both_come
both-reached =
    on-by (sends fourth_line) passed
    (on-by (done_at second_line.there Delivers ∷ []) sent
    (on-by (done_at second_line.here Takes ∷ []) queued (on-by (record { point = 3; what = Submits the_next } ∷ []) come come-reached)))

pub both-in-order : BothComeInOrder
both-in-order = record {
  same_flow = refl;
  flow_accepted = ap (λ (s : Shown). of_flow (flow_of the_message) s.accepted) third-is;
  flow_comes = ap (λ (s : Shown). s.of_its_flow) far-is;
  accepted = ap (λ (s : Shown). s.accepted) third-is;
  comes_through = ap (λ (s : Shown). s.come) near-is;
  comes = ap (λ (s : Shown). s.come) far-is;
  hops = open-hops;
  passes_only = passes-only;
  in_order = by-law both_come both-reached open-hops passes-only;
}
