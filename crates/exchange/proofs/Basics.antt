-- Words and lemmas of std and of the crates below that the proofs here use, and the definitions that they are about.
pub use Rattle.exchange_rules.proofs.Basics.{Bool, Contains, Err, List, None, Ok, Option, Result, Some, [], ap, append-nil, append_assoc, arith, cases_eq, cases_lt, count_by, drop, drop-append-le, eq-eqb, eqb-true, false, filter, get_or, get_or-map, get_or-set_other, get_or-set_same, get_or_past, if◌then◌else◌, inl, inr, is_some, length, length-append, length-map, length-replicate, length-set, list_any, map, map-set, nat_eq, nat_lt, nat_tests, not, option_eq, option_map, option_or, refl, replicate, set, set-get_or, slice_get, slice_index_or, slice_set, subst, suc, sum_by-cons, sym, take, true, zero, ℕ, ⊎_elim, ◌&&◌, ◌++◌, ◌+◌, ◌-◌, ◌<◌, ◌||◌, ◌∙◌, ◌∷◌, ◌≡◌, ◌≢◌, ◌≤◌, ◌⊎◌}
pub use Rattle.exchange_rules.proofs.Definitions.{begin_test, test_if, Abstract, Action, Alignment, Allowed, AreQueues, Asking, AsksWants, Carrying, Cause, Changeover, Codes, Configuration, DestinationEntry, Done, Facts, Found, Handled, Happening, Happens, HasCodes, HasHoldsFor, HasPlacesFor, HoldSet, IsAnyFlow, IsQueue, IsSameNode, IsSound, Link, LostUnconfirmed, Message, NoRoute, Node, Notice, Outcome, Owed, Parts, Procedure, Queue, QueueKind, Refused, Reroute, RouteStatus, Running, SELECTIONS, SeqFault, SetEntry, Standing, Takes, TitleEntry, ToldTable, Transition, UserData, WINDOW, WholeQueues, accept_answer, accepted_count, act_by_data, action_at, add_title_unless, advance, after_failure, all_wait, begun_anew_if, change_back, chosen_link, code_for, conclude, concluded, count_confirmed, counts_in, declare_by, destination_place, down_link, facts, fail, first_queue, first_routes, first_shape, first_state, flagged, flow_of, free_code, go, go_by, go_each, go_on, goes_by, handle, handle_by, has_other, hold_flows, holds, in_service, is_failed, is_in_service, is_link, is_management, is_of_flow, is_outstanding, is_own_point, is_reachable, is_taken_back, keep, lifted_parts, link_at, link_of, links_with, lose, lose_each, loses_flows, lost, may_hold, may_parts, may_tell, moved, no_changeover, no_codes, no_holds, opened, owed_at, procedure_by, queue_at, receive_data, release, reset_shape, return_if, row_of, run_next, run_times, send, send_anew, send_each, set_at, set_of, shape_of, sound-accepted, sound-appended, sound-emptied, sound-first, sound-sent_one, status_to_advertise, step_on, stepped, suspended, take_back, tell, tell_each, tell_if, told_at, told_shape, unconfirmed, unconfirmed-accepted, unconfirmed-appended, unconfirmed-sent_one, usable, users_of, waits, whole, with_hold, with_node, with_parts, with_queue, with_status_over, with_titles, with_told}
pub use Rattle.std.proofs.Common.{add-one}
pub use Rattle.std.proofs.lemmas.Bool.Decides.{eqb_tells, leb_tells}
pub use Rattle.std.proofs.lemmas.Grind.{common_steps}
pub use Rattle.std.proofs.lemmas.List.{drop-drop, drop_all, set-set, set_comm, take-append-le, take_all, take_more}
pub use Rattle.std.proofs.lemmas.Option.{slice_get_past}
pub use Rattle.std.specs.Prelude.{IfErr, IfOk, OnErr, OnOk, unwrap_or}
pub use Rattle.cell_pool.proofs.Moving.{before-kept}
pub use Rattle.cell_pool.specs.Lanes.{dropped, is_user_picked, lane_at, managements_in, pushed, users_in}
pub use Rattle.cell_pool.specs.Moves.{first_behind}
pub use Rattle.cell_pool.specs.Stored.{Stored}
pub use Rattle.changeback.proofs.Held.{came, change_pairs, changes-same_node, pairs-stay}
pub use Rattle.changeback.proofs.Moved.{each_found, moved_of}
pub use Rattle.changeback.specs.Laws.{IsMoved, IsToHold}
pub use Rattle.changeback.specs.Rerouting.{rerouted}
pub use Rattle.changeback.specs.Return.{FlowChange, gives_up, held_by, returned, with_change}
pub use Rattle.changeover.proofs.Finishing.{behind-done}
pub use Rattle.changeover.proofs.Keeping.{alike, counted-some}
pub use Rattle.changeover.specs.Kept.{kept_accepted_count, kept_done_with, kept_doubted, kept_in_doubt, kept_lost, kept_queued_anew}
pub use Rattle.changeover.specs.Lanes.{spliced}
pub use Rattle.exchange.specs.Calls.{asked, asked_each, happened, is_memory_refused, Kept, StandsFor, kept_of, kept_queues_of}
pub use Rattle.exchange.specs.Carried.{carrying}
pub use Rattle.exchange.specs.Counting.{behind_number, kept_behind_number}
pub use Rattle.exchange.specs.Draining.{Fate, GoesTo, IsDropped, anew, drained, fate_on, first_gone, gone, gone_by, lose_first, lose_one, lose_users, onward, onward_by, placed, placed_each, spliced_queues, without_first}
pub use Rattle.exchange.specs.Entering.{entered, is_first_in, stepped_by, taken_back_if}
pub use Rattle.exchange.specs.Head.{with_head, with_holds}
pub use Rattle.exchange.specs.KeptQueues.{KeptQueues, counts_at, held_lane, kept, lane_of, link_lane, without_lane}
pub use Rattle.exchange.specs.Pending.{OwesNone, OwesNoneBefore, OwesNoneBetween, OwesNoneBut}
pub use Rattle.exchange.specs.Relaying.{handled_or_refused}
pub use Rattle.exchange.specs.Room.{HasRoom, kept_in}
pub use Rattle.exchange.specs.Runs.{after_call, after_calls, answer_to_call, answers_to}
pub use Rattle.exchange.specs.Suspending.{with_flow, with_flow_to, with_message, with_messages}
unfoldable pub use Rattle.exchange.specs.Suspending.{with_destinations, with_selections}
pub use Rattle.exchange.specs.TakingOver.{declare, holder, take_over}
unfoldable pub use Rattle.exchange.specs.TakingOver.{declare_each, holders}
pub use Rattle.exchange.specs.Telling.{known, tell_at, told_at_place, told_set}
pub use Rattle.exchange.specs.Views.{link_shown, link_view}
pub use Rattle.exchange.specs.declared.event.Answer.{Answer}
pub use Rattle.exchange.specs.declared.event.Answer.TheVariants.{Stepped, Wanted}
pub use Rattle.exchange.specs.declared.event.Call.{Call}
pub use Rattle.exchange.specs.declared.exchange.Exchange.TheInside.{Inside}
pub use Rattle.exchange.specs.declared.view.LinkView.{LinkView}
pub use Rattle.exchange_rules.proofs.Belonging.{chosen_there}
pub use Rattle.exchange_rules.proofs.Combining.{IsKeeping, IsKept, Keeps}
pub use Rattle.exchange_rules.proofs.Entering.{known_before, known_links}
pub use Rattle.exchange_rules.proofs.Keeping.{after_take-kept, apply-kept, frame_taken-kept}
pub use Rattle.exchange_rules.proofs.Lists.{each-replicate, each-set, map-replicate, map-set_alike, sum_by-map}
pub use Rattle.exchange_rules.proofs.Places.{freed_codes-fits, freed_holds-fits, held_for-fits, lifted-fits, no_codes-fits, no_holds-fits, with_hold-fits}
pub use Rattle.exchange_rules.proofs.Settling.{left-true, one_more, right-true, take-waits}
pub use Rattle.exchange_rules.proofs.Sound.{done-told, done-waits, first-told, take-told}
pub use Rattle.exchange_rules.proofs.TakenBack.{holder_may, loses-so, other_loses, some_lost, taken-so, went}
pub use Rattle.exchange_rules.proofs.TakenPairs.{IsTakenFrom, alike_before, holder_of, pair_added, pair_was, pairs_stay, take_back_each-alike}
pub use Rattle.exchange_rules.proofs.Telling.{no_room_told, none_told, nothing_told, tell-facts, tell-told, tell_each-adjacents, tell_each-facts, tell_each-row}
unfoldable pub use Rattle.exchange_rules.specs.ChangingBack.{take_back_each}
pub use Rattle.exchange_rules.specs.ChangingOver.{with_losses}
pub use Rattle.exchange_rules.specs.Exchange.{Ends, after, frame_to_take, outcome_of, taken, wants_of}
unfoldable pub use Rattle.exchange_rules.specs.Exchange.{apply}
pub use Rattle.exchange_rules.specs.Telling.{unsent}
pub use Rattle.exchange_rules.specs.Routing.{first_network_of}
pub use Rattle.exchange_rules.specs.State.{State}
pub use Rattle.exchange_rules.specs.Opening.{opened_by}
pub use Rattle.exchange_rules.specs.Frames.{act_by}
unfoldable pub use Rattle.exchange_rules.specs.Telling.{tell_owed}
pub use Rattle.exchange_rules.specs.declared.wants.Wants.{Wants}
pub use Rattle.flow_hold.proofs.Adding.{Adds, added_flows, adds-alike, adds-more, adds-none, adds-one}
pub use Rattle.flow_hold.proofs.Flows.{same_holds}
pub use Rattle.link.proofs.Kept.{counts-accepted, counts-sent_one, kept-accept_answer, kept-last_accepted, kept-last_sent, kept-newly_confirmed, kept-to_send}
pub use Rattle.link.proofs.Naming.{finds_named}
pub use Rattle.link.specs.Counts.{Counts, counts_of, kept_after_answer, kept_emptied, kept_first}
pub use Rattle.link.specs.Queue.{named_count}
pub use Rattle.link.specs.declared.alignment.Alignment.TheVariants.{Aligned, AlignedReady, Down, InService, NotAligned, Proving}
pub use Rattle.node_links.proofs.Serving.{facts_alike}
pub use Rattle.node_links.specs.NodeLinks.{carries_traffic, after_action, Network, facts_of, link_in, serving, with_state, with_route_status}
pub use Rattle.route_management.proofs.Listing.{still}
pub use Rattle.route_management.proofs.Owing.{after_status, none_owed, once, owed_by}
pub use Rattle.route_management.proofs.Settled.{nothing_is_listed, owes_nothing_from_none}
pub use Rattle.route_management.proofs.Shape.{row_by_shape, rows_by_shape}
pub use Rattle.route_management.proofs.Walking.{later_stay_owed, next_is_not_owed, next_is_owed, next_set, others_stay_owed, owed_are_to, unreached_is_owed_nothing}
pub use Rattle.route_management.specs.Marks.{is_marked}
pub use Rattle.route_management.specs.Told.{owed_by_sets, owed_from, owed_to, first_told}
pub use Rattle.route_management.specs.Updates.{Updates, first_updates, has_all_from, is_any, is_from, is_within, with_all, with_destination, with_mark, with_none, without_before}
pub use Rattle.route_management.specs.declared.updates.Extent.{Extent}
pub use Rattle.route_management.specs.declared.updates.Extent.TheVariants.{From, Marked, Nothing}
pub use Rattle.routes.specs.Routes.{with_link, with_status, has_link}
pub use Rattle.sccp_relay.specs.Rows.{add_refusal, has_row, row_place, with_row}
pub use Rattle.sccp_relay.specs.Statuses.{TitlesValue, first_titles}
pub use Rattle.signalling_types.specs.Message.{lent}
pub use Rattle.signalling_types.specs.declared.cause.Cause.TheVariants.{NoMemory}
pub use Rattle.signalling_types.specs.declared.limits.TheConstants.Limits.{LINKS}
pub use Rattle.timers.specs.Timers.{none_running}
