-- Definitions that the proofs here are about, and lemmas of the crates below.
pub use Rattle.changeback.specs.Codes.{Codes, codes_of, free_code, is_outstanding, with_code, no_codes}
pub use Rattle.changeover.specs.Changeover.{is_unasked, with_order, is_barred, awaits_incomplete, stays_awaited, expired, managements_of, accepted_count, behind, moved, in_doubt, lost, users_of, Standing, may_restart, completed, no_changeover, acknowledged, failed, begun_by_peer}
pub use Rattle.exchange_rules.specs.Messages.{is_destination, no_room_for, offer, transfer, sccp, do_kind, do_test, test_answer, is_adjacent, local, manage, do_acknowledgement, do_management, do_order, link_with_code, distribute, is_user, cause_of, on_unavailable, from_afar, says_unavailable, link_in_set, whither_goes, deliver_to, submit, submit_to, deliver, own_of, subsystems_ticked, in_place_of, send_udts, return_unitdata, add_title_unless, title_refusal, title_set_refusal, with_rows, with_titles, on_unitdata, relay_by, return_outcome, return_refusal, add_title, set_title, remove_title}
pub use Rattle.exchange_rules.specs.LinkTests.{testing, test_message, own_pattern, own_test, link_test, tests_links, answer_ticks, pause_ticks, answers_test, is_test_awaited, passes_test, awaiting_test, with_test_failed, test_passed, queue_if, send_test, begin_test, repeat_test, test_unanswered, on_test_answer, with_test_passed, is_first_test, pass_test}
pub use Rattle.exchange_rules.specs.ChangingBack.{loses_flows, code_for, declare_by, hold_flows, change_back, code_in_use, declaration, freed, on_changeback_acknowledgement, if_room, procedure_by, with_flows_held, usable, take_back, changeback_acknowledgement, late_time, late_code, is_taken_back}
unfoldable pub use Rattle.exchange_rules.specs.ChangingBack.{take_back_each}
unfoldable pub use Rattle.exchange_rules.specs.ChangingOver.{order_each}
pub use Rattle.exchange_rules.specs.ChangingOver.{fail_by_order, send_each, complete_if, concluded, on_changeover_order, on_changeover_timer, with_changeover_acknowledged, with_expiry, is_late, asking, order_late, order_if_late, order_all, bar, barred, timed_bar, bars, expiry_notice, ends_wait, unbarred, judged, lifted_parts, lose, lose_each, changeover_acknowledgement, conclude, complete_by_order, acknowledge_changeover, on_changeover_acknowledgement, has_other, has_way, is_ordered, begin, begin_by_peer, change_over, changing, fail, fail_by_peer, make_unavailable, changeover_of, with_changeover, changeover_order, fail_link, without_tests_if_last, timed_changeover, is_of_flow, is_failed, suspended}
pub use Rattle.exchange_rules.specs.Conserving.{only_accepted, gone_that, users_that, standing, Gone, both_gone, brought_by, brought_here, brought_in, brought_to, confirmed_at, confirmed_by, confirmed_in, confirmed_of, gone, gone_by, gone_by_message, gone_by_new, gone_by_release, gone_by_tick, gone_by_word, nothing_gone, taken_in, gone_by_answer, gone_by_completion, gone_by_expiry, gone_by_order, gone_by_timer, gone_by_timers, is_stranded, answered_in, relayed_in, returned_in, unitdata_in}
pub use Rattle.exchange_rules.specs.Exchange.{handle_event, late_by, ordered_late, settled, release, go, go_by, go_each, go_on, with_timers, count_subsystems, run_all, run_next, tick, run_due, run_times, run_timer}
unfoldable pub use Rattle.exchange_rules.specs.Exchange.{apply}
pub use Rattle.exchange_rules.specs.First.{first_state, counts_in, first_parts, Abstract, AreQueues, IsSound}
pub use Rattle.exchange_rules.specs.Entering.{begun_anew_if, begun_anew, return_if, begin_traffic}
pub use Rattle.exchange_rules.specs.Opening.{opened_by}
pub use Rattle.exchange_rules.specs.Frames.{Carrying, empty_data, message_data, numbers, leave_aside, accept, act_by_data, carries, carry, handle_by, read, receive_data, owing, timed_parts, handle, receive_frame, receive, data_of, enters, enters_traffic, moved_on, advance, step_on, act_by_status, act_by_timer, on_link_status, run_out, serve_status, become_busy, end_busy, step_by_status, is_outage, is_recovery, in_outage, tells_outage, tells_recovery, put_out, let_back, hear_busy_ended, begin_outage, hear_outage, end_outage, take_step, test_if}
pub use Rattle.exchange_rules.specs.State.{in_traffic, Asking, AsksWants, Happens, Takes, Happening, Activated, CameUp, Deactivated, Released, FrameCame, Submitted, Ticked, TitleAdded, TitleSet, TitleRemoved, WentDown, in_service, link_at, is_link, down, links_with, with_link, noted, noted_all, note_refusal, note, flagged, counted_lost, broken_if, once_more, flagged_late, note_outcome, Parts, Node, with_parts, refuse, Done, answer, QueueKind, keep, Noted, Found, lost_any, late_any, with_node}
pub use Rattle.exchange_rules.specs.Routing.{is_held_at, is_flow_held, waits, all_wait, hold, set_of, adjacent_of, entry_of, peer_of, point_of, route_about, no_room, is_share_full, no_room_on, queue_on, facts, link_of, sets_in, goes_by, network_of}
pub use Rattle.exchange_rules.specs.Lasting.{HasAllPlaces, after_asking, after_each, AreNoted, IsWithinLimits, new_notices_are_the_last, notices_made_are_counted, notices_keep_their_limits, losses_stay, lateness_stays, tells_of_loss, tells_of_lateness, AreFlagsRaised, notices_raise_flags, unreasonable_numbers_raise_it, HasTimersFor, places_at_first, places_stay}
pub use Rattle.exchange_rules.specs.LastingLinks.{AreLinksSteady, IsSteady, is_l7_running, links_first_steady, links_stay_steady, l7_watches}
pub use Rattle.exchange_rules.specs.Laws.{declared_by_test_in_traffic, tested_in_service, answered_by, answered, no_part_answered, carried_message, accept_data, accept_frame, accept_text, GivesInTraffic, declared_in_traffic, queued_anew_in_traffic, routed_in_traffic, settled_in_traffic, refusals_leave, queued_in_traffic, goes_on_by, completion_leaves_others, release_keeps_order, moved_before_held}
pub use Rattle.exchange_rules.specs.LawsOfMessages.{all_brought, all_gone, all_that_came_adds_up, brought_by_asking, gone_by_asking, takes_leave_user_messages, user_messages_are_conserved, carried_messages_have_a_fate, has_fate, submissions_have_a_fate}
pub use Rattle.exchange_rules.specs.LawsOfLosses.{takes_flag_nothing, naming, AreAccounted, counted, events_account_for_losses, losses_of, names_a_message, names_none, others_of, released, rules_run}
pub use Rattle.exchange_rules.specs.LawsOfReturns.{entries_hold_changed_flows, HasReturned, HasLost, IsChosen, IsReturn, flows_return_by_their_procedures, entries_are_returns, changed_flows_are_held, returns_keep_holds}
pub use Rattle.exchange_rules.specs.Telling.{is_led, management_to, send, send_anew, send_routed, send_on, own_sio, told_below, is_all_told, answer_no_route, answer_no_user_part, is_unequipped_told, send_if, tell_unavailable, unavailable, unequipped_counted, unequipped_from, answered_parts, inhibited, is_inhibited, may_tell, on_route_test, prohibit, send_route_status, tell_each, tell_if, telling, told_parts, route_message, prohibit_if, answer_route_test, tell, timed_telling}
pub use Rattle.exchange_rules.specs.Opening.{period_of, activate, release_bar, association_down, deactivate, end_association, fail_if_up, set_active, may_open, open_link, begun, association_up, with_active, without_association}
pub use Rattle.exchange_rules.specs.Places.{HasPlacesFor, HasHoldsFor, HasCodes}
pub use Rattle.exchange_rules.specs.Queues.{WholeQueues, whole, queue_at, with_queue}
pub use Rattle.exchange_rules.specs.Receiving.{new_by, new_at, new_of, new_message, new_in, received, received_is_counted, takes_receive_nothing, is_idle, nothing_new_is_delivered}
pub use Rattle.exchange_rules.specs.Rerouting.{apply_route_status, ask_again, ask_by, on_route_status, with_next_test, without_tests, with_status_heard, prohibited_test, restricted_test, rerouting_ended, with_set_reset, timed_status, forced, held_by_rerouting, controlled, rerouted_by, ask}
pub use Rattle.exchange_rules.specs.Sending.{after_take, Acknowledges, Outgoing, SendsMessage, SendsNothing, SendsStatus, after_sending, goes_out, carried, frame_taken, without_owed, may_send, next_message, if_owed, message_first, status_first}
unfoldable pub use Rattle.exchange_rules.specs.Telling.{tell_owed}
pub use Rattle.exchange_rules.specs.Timing.{paced, without_timers, timer_name, ticks_of, without_timer, with_timer, without_timer_if, with_timer_if, timed, timed_sending, timed_confirming, timed_busy, timed_busy_ended}
pub use Rattle.flow_hold.proofs.Flows.{flows_leave, IsSameNode, flows-same_node, flows_of_node, flows_add, some_passes}
pub use Rattle.flow_hold.proofs.Holding.{hold_of_node, may_parts, holds_its_flow}
pub use Rattle.flow_hold.proofs.Pairing.{first_of_node, lifted_of_node, held_by, none_at_first, may-alike}
pub use Rattle.flow_hold.specs.Holds.{any_flow, HoldSet, is_held, holds, may_hold, no_holds, with_hold, lifted}
unfoldable pub use Rattle.flow_hold.specs.Holds.{with_flows}
pub use Rattle.flow_hold.specs.Pairs.{IsAnyFlow}
pub use Rattle.flow_hold.specs.declared.procedure.Procedure.{Procedure}
pub use Rattle.flow_hold.specs.declared.procedure.Procedure.TheVariants.{Changeover, Code, Reroute, Time}
pub use Rattle.link.proofs.Kept.{unconfirmed-accepted, unconfirmed-sent_one, unconfirmed-appended}
pub use Rattle.link.proofs.Sound.{sound-accepted, sound-appended, sound-emptied, sound-first, sound-sent_one}
pub use Rattle.link.specs.Queue.{first_queue, unconfirmed, Queue, appended, count_confirmed, IsQueue, emptied, Sending, after_answer, accept_answer, to_send, sent_one, accepted}
pub use Rattle.link.specs.Table.{action_at, opening, Effect, Fails, Remembers, Enters, EntersServing, BeginsAgain, Serves, Passes, Cell, table, period_after, timer_of, state_number, is_same_input, effect_in, action_of, staying}
pub use Rattle.link.specs.declared.action.Action.{Action}
pub use Rattle.link.specs.declared.action.Action.TheVariants.{Fail, Go}
pub use Rattle.link.specs.declared.action.Input.{Input}
pub use Rattle.link.specs.declared.action.Input.TheVariants.{UserData, Expiry, Status}
pub use Rattle.link.specs.declared.action.LinkTimer.{LinkTimer}
pub use Rattle.link.specs.declared.action.Transition.{Transition}
pub use Rattle.link.specs.declared.alignment.Alignment.{Alignment}
pub use Rattle.link.specs.declared.period.Period.{Period}
pub use Rattle.link.specs.declared.fault.SeqFault.{SeqFault}
pub use Rattle.m2pa_codec.specs.Frames.{FrameValue, EmptyFrame, MessageFrame, StatusFrame, read_frame}
pub use Rattle.m2pa_codec.specs.declared.status.LinkStatus.{LinkStatus}
pub use Rattle.mtp3_codec.specs.Headings.{label_at, label_octets}
pub use Rattle.mtp3_codec.specs.Management.{LinkTestValue, read_link_test, read_management, IsManagement, link_code_of, field_octets}
pub use Rattle.mtp3_codec.specs.declared.discrimination.Discrimination.{Discrimination}
pub use Rattle.mtp3_codec.specs.declared.fault.MgmtFault.{MgmtFault}
pub use Rattle.mtp3_codec.specs.declared.link_test.TestKind.{TestKind}
pub use Rattle.mtp3_codec.specs.declared.link_test.TestKind.TheVariants.{Acknowledgement, Test}
pub use Rattle.mtp3_codec.specs.declared.management.Management.{Management}
pub use Rattle.mtp3_codec.specs.declared.unavailability.UnavailabilityCause.TheVariants.{Unequipped}
pub use Rattle.mtp3_codec.specs.declared.management.Management.TheVariants.{ChangebackDeclaration, ExtendedChangeoverOrder, RouteSetTestProhibited, RouteSetTestRestricted, ChangebackAcknowledgement, EmergencyChangeoverAcknowledgement, EmergencyChangeoverOrder, ExtendedChangeoverAcknowledgement, TrafficRestartAllowed, TransferAllowed, TransferProhibited, TransferRestricted, UserPartUnavailable}
pub use Rattle.node_links.specs.NodeLinks.{acts_on, Link, is_down, is_in_service, stepped, down_link, after_failure, opened, recovered, with_ready, sent_first, carries_traffic}
pub use Rattle.route_management.proofs.Shape.{reset_shape, first_shape, told_shape}
pub use Rattle.route_management.specs.Told.{owes_nothing, Owed, owed, is_unlike, status_to_advertise, is_reachable, owed_at, all_told, ToldTable, shape_of, is_number, is_own_point, told_at, row_of, with_told}
pub use Rattle.route_management.specs.declared.heard.Heard.{Heard}
pub use Rattle.route_management.specs.declared.heard.RouteTest.{RouteTest}
pub use Rattle.routes.specs.Routes.{chosen_link, Facts, set_at, routes_to, with_status_over, first_routes, first_route, with_second_joined, status_of, with_statuses_reset, leads_by}
unfoldable pub use Rattle.routes.specs.Routes.{choice_among, link_by, first_sets}
pub use Rattle.routes.specs.declared.route.Route.{Route}
pub use Rattle.routes.specs.declared.route.RouteStatus.{RouteStatus}
pub use Rattle.routes.specs.declared.route.RouteStatus.TheVariants.{Allowed, Restricted, Prohibited}
pub use Rattle.sccp_codec.specs.declared.title.TitleKey.{TitleKey}
pub use Rattle.sccp_relay.specs.Relay.{RelayedValue, relay}
pub use Rattle.sccp_relay.specs.Statuses.{TitlesValue}
pub use Rattle.sccp_relay.specs.Returning.{returned}
pub use Rattle.sccp_relay.specs.Rows.{has_row, place_of, without_row}
pub use Rattle.settings.specs.Readings.{destination_place, set_place}
pub use Rattle.settings.specs.Well.{IsWell, IsLink, is_same_code, is_same_point, is_set_to_same_point, IsDestination, IsSet, IsFarPoint}
pub use Rattle.settings.specs.Configuration.{Configuration, LinkEntry, TitleEntry, DestinationEntry, SetEntry}
pub use Rattle.signalling_types.specs.Message.{Message, flow_of, is_management, dpc_of, service_indicator, opc_of, network_indicator}
pub use Rattle.signalling_types.specs.declared.cause.Cause.{Cause}
pub use Rattle.signalling_types.specs.declared.cause.Cause.TheVariants.{LostUnconfirmed, NoRoute, NoSuchName, ManagementFull}
pub use Rattle.signalling_types.specs.declared.limits.TheConstants.Limits.{NOTICES, SELECTIONS, WINDOW, MANAGEMENT_MESSAGES, SIF_OCTETS, CHANGEBACK_CODES}
pub use Rattle.signalling_types.specs.declared.notice.ChangeoverTimer.{ChangeoverTimer}
pub use Rattle.signalling_types.specs.declared.notice.FailureReason.{FailureReason}
pub use Rattle.signalling_types.specs.declared.notice.FrameFault.{FrameFault}
pub use Rattle.signalling_types.specs.declared.notice.Notice.{Notice}
pub use Rattle.signalling_types.specs.declared.outcome.Outcome.{Outcome}
pub use Rattle.signalling_types.specs.declared.outcome.Outcome.TheVariants.{Handled, Ignored, Local, Queued, Held, Refused}
pub use Rattle.timers.proofs.Dues.{counts-after, due-left, after-clear, after-none}
pub use Rattle.timers.proofs.Maps.{left-none, left-set_other, left-clear_other, counts-set, counts-clear, left-clear, left-ticked, left-clear_set_other, counts-clear_set, left-set}
pub use Rattle.timers.specs.Timers.{key_of, is_same, has_name, is_of_set, ticked, after_due, due_count, due_name, Running, is_due, no_tick_left, is_running, one_less}
unfoldable pub use Rattle.timers.specs.Timers.{set_timer, start_unless_running, clear_set, clear_timer}
pub use Rattle.timers.specs.declared.name.NodeCounts.{NodeCounts}
pub use Rattle.timers.specs.declared.name.TimerName.{TimerName}
pub use Rattle.timers.specs.declared.name.TimerName.TheVariants.{L7, L6}
