-- What the run shows in which a message crosses two failures, by computation.
use Rattle.pair_rules.proofs.Basics.{◌≡◌, ℕ, Bool, false, true, List, [], ◌∷◌, ◌++◌, None, ap, map, refl, sym, ◌∙◌}
use Rattle.pair_rules.proofs.Definitions.{Message, flow_of, set_timer, start_unless_running, clear_timer, clear_set, due_name, after_due, due_count, first_sets, choice_among, link_by, any_flow, flows, lost_any, late_any, whole, apply, outcome_of, Submitted, take_back_each, in_flight, is_down_at}
use Rattle.timers.specs.Timers.{names_of}
use Rattle.routes.specs.Routes.{links_below}
use Rattle.route_management.specs.Told.{owes_nothing}
use Rattle.m2pa_codec.specs.Frames.{status_of}
use Rattle.changeback.specs.Rerouting.{rerouted}
use Rattle.changeback.specs.Return.{changes_of, changes}
use Rattle.signalling_types.specs.declared.outcome.Outcome.TheVariants.{Queued}
use Rattle.exchange_rules.specs.Conserving.{standing}
use Rattle.exchange_rules.specs.Telling.{tell_owed}
use Rattle.pair_rules.specs.Promises.{of_flow}
use Rattle.neighbour_rules.specs.ThirdNode.{the_message}
use Rattle.network_rules.specs.Networks.{Arrival, NetworkNode, NetworkState, end_of}
use Rattle.network_rules.specs.Paths.{EachOnlyPasses, KeepsInOrder, OnlyPasses, came_over, waits_over}
use Rattle.network_rules.specs.Hops.{AreOpenHops}
use Rattle.network_rules.specs.TwoFailures.{CrossesTwoFailures, IsDone, come, its_text, row, users_come}
use Rattle.network_rules.proofs.CrossedPath.{by-law, come-reached, hears-none, hops-open}
use Rattle.network_rules.proofs.LaidOut.{network_of}
use Rattle.network_rules.proofs.Offering.{message-on, offered, outcome-is, third}
use Rattle.network_rules.proofs.RowSettings.{first-sharing, joined, of-three, points, second-sharing, well}
use Rattle.network_rules.proofs.TwoFailures.{come-is, come_from, failed-is, failed_from, failed_on-is, failed_on_from, first_three, moved-is, moved_from, moved_on-is, moved_on_from, passed-is, passed_from, sent-is, sent_from, sent_on-is, sent_on_from, served-is, served_from, third-settings, third-unheld}

its-outcome : (offered the_message third None false (served_from first_three).third.exchange.node).outcome ≡ Queued 0
unfolding apply tell_owed first_sets links_below status_of set_timer clear_timer start_unless_running clear_set due_name after_due due_count names_of choice_among link_by changes_of changes take_back_each owes_nothing any_flow flows rerouted
its-outcome = refl

it-flies : in_flight (sent_from first_three).first.incoming.user_data 0 ≡ its_text 0 2 ∷ []
unfolding apply tell_owed first_sets links_below status_of set_timer clear_timer start_unless_running clear_set due_name after_due due_count names_of choice_among link_by changes_of changes take_back_each owes_nothing any_flow flows rerouted
it-flies = refl

it-third_down : is_down_at (end_of (failed_from first_three).third) 0 ≡ true
unfolding apply tell_owed first_sets links_below status_of set_timer clear_timer start_unless_running clear_set due_name after_due due_count names_of choice_among link_by changes_of changes take_back_each owes_nothing any_flow flows rerouted
it-third_down = refl

it-near_down : is_down_at (end_of (failed_from first_three).first) 0 ≡ true
unfolding apply tell_owed first_sets links_below status_of set_timer clear_timer start_unless_running clear_set due_name after_due due_count names_of choice_among link_by changes_of changes take_back_each owes_nothing any_flow flows rerouted
it-near_down = refl

it-missing : users_come (moved_from first_three).first ≡ []
unfolding apply tell_owed first_sets links_below status_of set_timer clear_timer start_unless_running clear_set due_name after_due due_count names_of choice_among link_by changes_of changes take_back_each owes_nothing any_flow flows rerouted
it-missing = refl

it-passes : users_come (passed_from first_three).first ≡ record { link = 1; message = the_message } ∷ []
unfolding apply tell_owed first_sets links_below status_of set_timer clear_timer start_unless_running clear_set due_name after_due due_count names_of choice_among link_by changes_of changes take_back_each owes_nothing any_flow flows rerouted
it-passes = refl

it-flies_on : in_flight (sent_on_from first_three).second.incoming.user_data 0 ≡ its_text 1 3 ∷ []
unfolding apply tell_owed first_sets links_below status_of set_timer clear_timer start_unless_running clear_set due_name after_due due_count names_of choice_among link_by changes_of changes take_back_each owes_nothing any_flow flows rerouted
it-flies_on = refl

it-near_down_on : is_down_at (end_of (failed_on_from first_three).first) 2 ≡ true
unfolding apply tell_owed first_sets links_below status_of set_timer clear_timer start_unless_running clear_set due_name after_due due_count names_of choice_among link_by changes_of changes take_back_each owes_nothing any_flow flows rerouted
it-near_down_on = refl

it-far_down : is_down_at (end_of (failed_on_from first_three).second) 0 ≡ true
unfolding apply tell_owed first_sets links_below status_of set_timer clear_timer start_unless_running clear_set due_name after_due due_count names_of choice_among link_by changes_of changes take_back_each owes_nothing any_flow flows rerouted
it-far_down = refl

it-missing_on : users_come (moved_on_from first_three).second ≡ []
unfolding apply tell_owed first_sets links_below status_of set_timer clear_timer start_unless_running clear_set due_name after_due due_count names_of choice_among link_by changes_of changes take_back_each owes_nothing any_flow flows rerouted
it-missing_on = refl

-- ---- in the end

record Shown : Type 0 where
  come : List Arrival
  accepted : List Message
  entered : List Message
  refused : List Message
  lost : Bool
  late : Bool
  waiting : ℕ

abbrev shown : NetworkNode → Shown
shown x = record {
  come = users_come x;
  accepted = x.accepted;
  entered = x.entered;
  refused = x.refused;
  lost = lost_any x.exchange.node.parts;
  late = late_any x.exchange.node.parts;
  waiting = standing (λ m. true) x.exchange.node.queues;
}

-- a node at which all is done
abbrev shows : List Arrival → (accepted entered : List Message) → Shown
shows arrivals accepted entered = record { come = arrivals; accepted = accepted; entered = entered; refused = []; lost = false; late = false; waiting = 0 }

abbrev its_arrival : Arrival
its_arrival = record { link = 1; message = the_message }

third-shows : shown (come_from first_three).third ≡ shows [] (the_message ∷ []) (the_message ∷ [])
unfolding apply tell_owed first_sets links_below status_of set_timer clear_timer start_unless_running clear_set due_name after_due due_count names_of choice_among link_by changes_of changes take_back_each owes_nothing any_flow flows rerouted
third-shows = refl

near-shows : shown (come_from first_three).first ≡ shows (its_arrival ∷ []) (the_message ∷ []) []
unfolding apply tell_owed first_sets links_below status_of set_timer clear_timer start_unless_running clear_set due_name after_due due_count names_of choice_among link_by changes_of changes take_back_each owes_nothing any_flow flows rerouted
near-shows = refl

far-shows : shown (come_from first_three).second ≡ shows (its_arrival ∷ []) [] []
unfolding apply tell_owed first_sets links_below status_of set_timer clear_timer start_unless_running clear_set due_name after_due due_count names_of choice_among link_by changes_of changes take_back_each owes_nothing any_flow flows rerouted
far-shows = refl

third-is : shown (come.node 3) ≡ shows [] (the_message ∷ []) (the_message ∷ [])
third-is = ap (λ (w : NetworkState). shown (w.node 3)) come-is ∙ third-shows

near-is : shown (come.node 1) ≡ shows (its_arrival ∷ []) (the_message ∷ []) []
near-is = ap (λ (w : NetworkState). shown (w.node 1)) come-is ∙ near-shows

far-is : shown (come.node 2) ≡ shows (its_arrival ∷ []) [] []
far-is = ap (λ (w : NetworkState). shown (w.node 2)) come-is ∙ far-shows

done : (x : NetworkNode) (arrivals : List Arrival) (accepted entered : List Message) → shown x ≡ shows arrivals accepted entered → IsDone x
done x arrivals accepted entered e = record {
  lost_nothing = ap (λ (s : Shown). s.lost) e;
  punctual = ap (λ (s : Shown). s.late) e;
  refused = ap (λ (s : Shown). s.refused) e;
  none_waits = ap (λ (s : Shown). s.waiting) e;
}

-- ---- its path

came-first : came_over (flow_of the_message) (network_of (come_from first_three)) 3 1 ≡ the_message ∷ []
unfolding apply tell_owed first_sets links_below status_of set_timer clear_timer start_unless_running clear_set due_name after_due due_count names_of choice_among link_by changes_of changes take_back_each owes_nothing any_flow flows rerouted
came-first = refl

came-next : came_over (flow_of the_message) (network_of (come_from first_three)) 1 2 ≡ the_message ∷ []
unfolding apply tell_owed first_sets links_below status_of set_timer clear_timer start_unless_running clear_set due_name after_due due_count names_of choice_among link_by changes_of changes take_back_each owes_nothing any_flow flows rerouted
came-next = refl

waits-first : waits_over (flow_of the_message) (network_of (come_from first_three)) 3 1 ≡ []
unfolding apply tell_owed first_sets links_below status_of set_timer clear_timer start_unless_running clear_set due_name after_due due_count names_of choice_among link_by changes_of changes take_back_each owes_nothing any_flow flows rerouted
waits-first = refl

waits-next : waits_over (flow_of the_message) (network_of (come_from first_three)) 1 2 ≡ []
unfolding apply tell_owed first_sets links_below status_of set_timer clear_timer start_unless_running clear_set due_name after_due due_count names_of choice_among link_by changes_of changes take_back_each owes_nothing any_flow flows rerouted
waits-next = refl

all-first : of_flow (flow_of the_message) (map (λ a. a.message) (come_from first_three).first.arrived) ≡ the_message ∷ []
unfolding apply tell_owed first_sets links_below status_of set_timer clear_timer start_unless_running clear_set due_name after_due due_count names_of choice_among link_by changes_of changes take_back_each owes_nothing any_flow flows rerouted
all-first = refl

of-both : (accepted came waits : List Message) → accepted ≡ the_message ∷ [] → came ≡ the_message ∷ [] → waits ≡ [] → of_flow (flow_of the_message) accepted ≡ came ++ waits
of-both accepted came waits e f g =
    ap (of_flow (flow_of the_message)) e ∙ sym (ap (λ (ms : List Message). ms ++ waits) f ∙ ap (λ (ms : List Message). the_message ∷ ms) g)

keeps-first : KeepsInOrder (flow_of the_message) come 3 1
keeps-first =
    of-both (come.node 3).accepted (came_over (flow_of the_message) come 3 1) (waits_over (flow_of the_message) come 3 1) (ap (λ (s : Shown). s.accepted) third-is)
    (ap (λ (w : NetworkState). came_over (flow_of the_message) w 3 1) come-is ∙ came-first)
    (ap (λ (w : NetworkState). waits_over (flow_of the_message) w 3 1) come-is ∙ waits-first)

keeps-next : KeepsInOrder (flow_of the_message) come 1 2
keeps-next =
    of-both (come.node 1).accepted (came_over (flow_of the_message) come 1 2) (waits_over (flow_of the_message) come 1 2) (ap (λ (s : Shown). s.accepted) near-is)
    (ap (λ (w : NetworkState). came_over (flow_of the_message) w 1 2) come-is ∙ came-next)
    (ap (λ (w : NetworkState). waits_over (flow_of the_message) w 1 2) come-is ∙ waits-next)

passes-first : OnlyPasses (flow_of the_message) come 3 1
passes-first = record {
  comes =
      ap (λ (w : NetworkState). of_flow (flow_of the_message) (map (λ a. a.message) (w.node 1).arrived)) come-is ∙ all-first
      ∙ sym (ap (λ (w : NetworkState). came_over (flow_of the_message) w 3 1) come-is ∙ came-first);
  enters = ap (of_flow (flow_of the_message)) (ap (λ (s : Shown). s.entered) near-is);
}

passes-only : EachOnlyPasses (flow_of the_message) come 3 (1 ∷ 2 ∷ [])
passes-only = (passes-first, tt)

open-hops : AreOpenHops row come (flow_of the_message) 3 (1 ∷ 2 ∷ [])
open-hops = hops-open come hears-none (record {
  first_lossless = ap (λ (s : Shown). s.lost) third-is;
  middle_lossless = ap (λ (s : Shown). s.lost) near-is;
  last_lossless = ap (λ (s : Shown). s.lost) far-is;
  first_punctual = ap (λ (s : Shown). s.late) third-is;
  middle_punctual = ap (λ (s : Shown). s.late) near-is;
})

pub crosses : CrossesTwoFailures
crosses = record {
  points = points;
  well = well;
  first_sharing = first-sharing;
  second_sharing = second-sharing;
  joined = joined;
  kept =
      of-three (λ point. lost_any (come.node point).exchange.node.parts ≡ false)
      (ap (λ (s : Shown). s.lost) near-is) (ap (λ (s : Shown). s.lost) far-is) (ap (λ (s : Shown). s.lost) third-is);
  outcome = ap (λ (w : NetworkState). outcome_of whole (Submitted the_message) (w.node 3).exchange) served-is ∙ outcome-is the_message message-on (served_from first_three).third third-settings third-unheld ∙ its-outcome;
  flies = ap (λ (w : NetworkState). in_flight (w.node 1).incoming.user_data 0) sent-is ∙ it-flies;
  third_down = ap (λ (w : NetworkState). is_down_at (end_of (w.node 3)) 0) failed-is ∙ it-third_down;
  near_down = ap (λ (w : NetworkState). is_down_at (end_of (w.node 1)) 0) failed-is ∙ it-near_down;
  missing = ap (λ (w : NetworkState). users_come (w.node 1)) moved-is ∙ it-missing;
  passes = ap (λ (w : NetworkState). users_come (w.node 1)) passed-is ∙ it-passes;
  flies_on = ap (λ (w : NetworkState). in_flight (w.node 2).incoming.user_data 0) sent_on-is ∙ it-flies_on;
  near_down_on = ap (λ (w : NetworkState). is_down_at (end_of (w.node 1)) 2) failed_on-is ∙ it-near_down_on;
  far_down = ap (λ (w : NetworkState). is_down_at (end_of (w.node 2)) 0) failed_on-is ∙ it-far_down;
  missing_on = ap (λ (w : NetworkState). users_come (w.node 2)) moved_on-is ∙ it-missing_on;
  comes = ap (λ (s : Shown). s.come) far-is;
  comes_through = ap (λ (s : Shown). s.come) near-is;
  goes_in = ap (λ (s : Shown). s.come) third-is;
  third_entered = ap (λ (s : Shown). s.entered) third-is;
  near_entered = ap (λ (s : Shown). s.entered) near-is;
  far_entered = ap (λ (s : Shown). s.entered) far-is;
  third_accepted = ap (λ (s : Shown). s.accepted) third-is;
  near_accepted = ap (λ (s : Shown). s.accepted) near-is;
  far_accepted = ap (λ (s : Shown). s.accepted) far-is;
  hops = (keeps-first, (keeps-next, tt));
  passes_only = passes-only;
  open_hops = open-hops;
  in_order = by-law come come-reached open-hops passes-only;
  third_done = done (come.node 3) [] (the_message ∷ []) (the_message ∷ []) third-is;
  near_done = done (come.node 1) (its_arrival ∷ []) (the_message ∷ []) [] near-is;
  far_done = done (come.node 2) (its_arrival ∷ []) [] [] far-is;
}
