-- Definitions that the proofs here are about, and lemmas of the crates below.
pub use Rattle.changeback.specs.Codes.{is_outstanding, with_code, no_codes, Codes, codes_of}
pub use Rattle.changeover.specs.Changeover.{behind, managements_of, accepted_count, users_of, Standing, acknowledged, completed, no_changeover, standing_at, with_standing, failed, begun_by_peer, may_restart}
pub use Rattle.exchange_rules.proofs.Fitting.{Fits, fit-steps, StaysFit, handed-fit, ticked-fit}
pub use Rattle.exchange_rules.proofs.Lists.{alike-at, each-set, each-replicate}
pub use Rattle.exchange_rules.proofs.MadeManagement.{made-indicator, made-dpc, made-opc, made-says, code-fits, comes-here}
pub use Rattle.exchange_rules.proofs.OwnManagement.{made-management}
pub use Rattle.exchange_rules.proofs.Serving.{data-serves, each-step, serves-in}
pub use Rattle.exchange_rules.proofs.Sound.{done-waits}
pub use Rattle.exchange_rules.proofs.SteppingEvents.{owing-steps, run_timer-steps, go_by-steps, take-steps}
pub use Rattle.exchange_rules.proofs.SteppingFailures.{concluded-steps, fail-links, failing_by_peer-steps, fell-steps, timed_changeover-timed}
pub use Rattle.exchange_rules.proofs.SteppingEntries.{anew-steps}
pub use Rattle.exchange_rules.proofs.SteppingLinks.{advance-serves, stepped-at, stepped-other, stepping-there, failed_if_up-down, set_active-steps}
pub use Rattle.exchange_rules.proofs.Steps.{IsOfSteps, AreRerouted, AreOwnAllowed, any_status, ways_of, status_over, confirming, with_busy, without_busy}
pub use Rattle.exchange_rules.proofs.TakenPairs.{IsAlike, take_back_each-alike}
pub use Rattle.exchange_rules.specs.Conserving.{answered_in, brought_by, brought_here, brought_in, brought_to, taken_in, unitdata_in}
pub use Rattle.exchange_rules.specs.ChangingBack.{code_for, declaration, hold_flows, loses_flows, on_changeback_acknowledgement, changeback_acknowledgement, freed, late_code, late_time, on_changeback_declaration, change_back, is_taken_back}
unfoldable pub use Rattle.exchange_rules.specs.ChangingBack.{take_back_each}
pub use Rattle.exchange_rules.specs.ChangingOver.{acknowledge_changeover, changeover_acknowledgement, complete_by_order, complete_if, fail_by_order, on_changeover_order, on_changeover_acknowledgement, send_each, with_changeover_acknowledged, concluded, lose, lose_each, on_changeover_timer, with_expiry, begin_by_peer, changeover_of, fail_by_peer, make_unavailable, with_changeover, fail, begin, change_over, changeover_order, changing, fail_link, has_other, is_ordered}
pub use Rattle.exchange_rules.specs.Exchange.{settled, handle_event, wants_of, outcome_of, after, frame_to_take, release, go, go_by, go_each, go_on}
unfoldable pub use Rattle.exchange_rules.specs.Exchange.{apply}
pub use Rattle.exchange_rules.specs.Entering.{begun_anew_if, begun_anew, return_if, begin_traffic}
pub use Rattle.exchange_rules.specs.Opening.{opened_by}
pub use Rattle.exchange_rules.specs.State.{in_traffic}
pub use Rattle.exchange_rules.specs.Frames.{Carrying, accept, act_by_data, empty_data, handle_by, message_data, numbers, owing, data_of, receive, receive_frame, read, carries, carry, advance, enters, enters_traffic, step_on, act_by_status, act_by_timer, on_link_status, run_out, serve_status}
pub use Rattle.exchange_rules.specs.State.{CameUp, Happening, FrameCame, Submitted, down, is_link, in_service, link_at, links_with, flagged, flagged_late, note_outcome, Node, Done, answer, Parts, with_parts, Found, refuse, lost_any, Noted, late_any}
pub use Rattle.exchange_rules.specs.Routing.{all_wait, waits, is_held_at, is_flow_held, entry_of, peer_of, set_of, no_room, is_share_full, no_room_on, queue_on, link_of, facts, network_of, goes_by, sets_in}
pub use Rattle.exchange_rules.specs.Laws.{accept_data, accept_frame, accept_text}
pub use Rattle.exchange_rules.specs.Messages.{no_room_for, is_user, local, do_test, distribute, do_management, do_order, do_acknowledgement, is_adjacent, manage, on_management, sccp, link_with_code, submit_to, whither_goes, deliver, deliver_to, on_unitdata, with_titles, add_title, set_title, add_title_unless, remove_title, title_refusal, title_set_refusal}
pub use Rattle.exchange_rules.specs.LinkTests.{testing}
pub use Rattle.exchange_rules.specs.Telling.{send, management_to, send_anew, send_routed}
pub use Rattle.exchange_rules.specs.Opening.{period_of, open_link, wanted, association_up, may_open, wanted_down, activate, association_down, deactivate, end_association, fail_if_up, set_active}
pub use Rattle.exchange_rules.specs.Queues.{WholeQueues, whole, queue_at, with_queue}
pub use Rattle.exchange_rules.specs.Receiving.{new_message, new_of, new_by, new_at, new_in, is_idle}
pub use Rattle.exchange_rules.specs.Rerouting.{without_tests, rerouting_ended, ask_by}
pub use Rattle.exchange_rules.specs.Sending.{SendsStatus, SendsMessage, Acknowledges, message_first, status_first, after_take, frame_from, frame_taken, may_send, Outgoing, SendsNothing, after_sending, carried, goes_out, next_message, without_owed}
pub use Rattle.exchange_rules.specs.declared.wants.Wants.TheVariants.{Nothing, Open, Close}
pub use Rattle.flow_hold.proofs.Flows.{flows_add, flows_leave}
pub use Rattle.flow_hold.proofs.Pairing.{leaves_others, held_by, contains-lifted, none_at_first}
pub use Rattle.flow_hold.specs.Holds.{with_flows, lifted, HoldSet, by_numbers, holds, is_held, is_same, may_hold, no_holds}
unfoldable pub use Rattle.flow_hold.specs.Holds.{any_flow, flows}
pub use Rattle.flow_hold.specs.declared.procedure.Procedure.{Procedure}
pub use Rattle.link.specs.Queue.{count_confirmed, Queue, appended, emptied, first_queue, named_count, last_accepted, IsQueue, accept_answer, after_answer, Sending, forward_number, numbered, to_send, sent_one, last_sent}
pub use Rattle.link.specs.Table.{action_at, Effect, Fails, Remembers, Enters, EntersServing, BeginsAgain, Serves, Passes, Cell, table, period_after, state_number, is_same_input, effect_in, action_of}
pub use Rattle.link.specs.declared.action.Action.{Action}
pub use Rattle.link.specs.declared.action.Input.{Input}
pub use Rattle.link.specs.declared.action.Input.TheVariants.{UserData, Status, Expiry}
pub use Rattle.link.specs.declared.alignment.Alignment.{Alignment}
pub use Rattle.link.specs.declared.period.Period.{Period}
pub use Rattle.link.specs.declared.alignment.Alignment.TheVariants.{Down, NotAligned, Aligned, Proving, AlignedReady, InService}
pub use Rattle.link.specs.declared.fault.SeqFault.{SeqFault}
pub use Rattle.m2pa_codec.specs.Frames.{FrameValue, EmptyFrame, MessageFrame, StatusFrame, spelled, IsSayable, read_frame}
pub use Rattle.m2pa_codec.specs.declared.status.LinkStatus.{LinkStatus}
pub use Rattle.mtp3_codec.specs.Management.{read_management, IsManagement}
pub use Rattle.mtp3_codec.specs.declared.discrimination.Discrimination.{Discrimination}
pub use Rattle.mtp3_codec.specs.declared.fault.MgmtFault.{MgmtFault}
pub use Rattle.mtp3_codec.specs.declared.label.Label.{Label}
pub use Rattle.mtp3_codec.specs.declared.management.Management.{Management}
pub use Rattle.mtp3_codec.specs.declared.management.Management.TheVariants.{ExtendedChangeoverAcknowledgement, ChangebackDeclaration, ExtendedChangeoverOrder, ChangebackAcknowledgement}
pub use Rattle.node_links.proofs.Serving.{serving_none, serving_alike, facts_alike, serving_set}
pub use Rattle.node_links.specs.NodeLinks.{acts_on, Link, after_failure, carries_traffic, down_link, is_down, is_in_service, opened, stepped, link_in}
pub use Rattle.pair_moves.specs.Ends.{Pair, LinkEnd, Line, Side, closed_end, first_side, Frame}
pub use Rattle.pair_moves.specs.Failing.{without_wait, ChangesOnly, with_completion, with_failure, Suspends}
pub use Rattle.pair_moves.specs.Passing.{BecomeAt, MayGo}
pub use Rattle.pair_moves.specs.Returning.{MayOpen, opened_end, AddsOnly, StaysOrIsHeld}
pub use Rattle.pair_moves.specs.Sayings.{Reading, Saying, Order, Answer, Declaration, is_user_message, is_answer, is_order, is_untrue, UserMessage, Confirmation, is_of_flow, is_same_flow}
pub use Rattle.pair_rules.specs.Laws.{messages_in, Word, is_down_at, is_incomplete_at, word_of, SayTheirWord, about, word_in, word_read, words_are_read}
pub use Rattle.pair_rules.specs.Pairs.{AddsTitle, SetsTitle, DeliversStatus, Doing, DoublesStatus, LosesStatus, RemovesTitle, Streams, Submits, Takes, Delivers, Loses, Ticks, Activates, Deactivates, Releases, OpensFirst, OpensSecond, PairState, Step, AtNear, AtFar, after_steps, did, may_follow, may_open_at, opens_first, opens_second, turn, turned, in_flight, first_pair, deliver_frame, without_data, without_status, End, happens, change_statuses, take_frame}
pub use Rattle.pair_rules.specs.Promises.{LostNothing, queue_of, AreJoined, waiting_on}
pub use Rattle.route_management.specs.Told.{ToldTable, is_own_point, told_at, adjacent_place}
pub use Rattle.routes.specs.Routes.{chosen_link, Choice, taken_by, sets_of, members, first_route, Facts, with_link, first_routes, routes_to, with_second_joined}
unfoldable pub use Rattle.routes.specs.Routes.{choice_among, link_by, first_sets}
pub use Rattle.routes.specs.declared.route.Route.{Route}
pub use Rattle.routes.specs.declared.route.RouteStatus.{RouteStatus}
pub use Rattle.settings.specs.Facing.{IsFacing, LeadsOnlyTo}
pub use Rattle.settings.specs.Readings.{destination_place, set_place}
pub use Rattle.settings.specs.Well.{IsWell, IsDestination, IsLink, IsSet, IsTitle, IsWithin, all_ticks, is_led_first}
pub use Rattle.settings.specs.Configuration.{Configuration, DestinationEntry, LinkEntry, TitleEntry, SetEntry}
pub use Rattle.signalling_types.specs.Message.{Message, flow_of, is_management, dpc_of, service_indicator, opc_of, label_number, network_indicator}
pub use Rattle.signalling_types.specs.declared.cause.Cause.{Cause}
pub use Rattle.signalling_types.specs.declared.limits.TheConstants.Limits.{SELECTIONS, CHANGEBACK_CODES, LINKS, SETS, DESTINATIONS, POOL, WINDOW, TICKS, SIF_OCTETS}
pub use Rattle.signalling_types.specs.declared.notice.FailureReason.{FailureReason}
pub use Rattle.signalling_types.specs.declared.outcome.Outcome.{Outcome}
pub use Rattle.signalling_types.specs.declared.outcome.Outcome.TheVariants.{Handled, Ignored, Local, Refused, Queued, Held}
pub use Rattle.signalling_types.specs.declared.point.Flow.{Flow}
pub use Rattle.timers.specs.Timers.{Running, ticked}
unfoldable pub use Rattle.timers.specs.Timers.{clear_timer, set_timer, start_unless_running, clear_set, due_name, after_due, due_count}
