-- What the abstract exchange does whatever the event: laws.
use Rattle.settings.specs.Configuration.{Configuration}
use Rattle.std.specs.Prelude.{◌≡◌, ◌≢◌, ◌<◌, ◌&&◌, ◌++◌, ℕ, Bool, true, not, nat_eq, length, filter, Option, Some, None, Result, Ok, Err, if◌then◌else◌}
use Rattle.signalling_types.specs.declared.cause.Cause.{Cause}
use Rattle.signalling_types.specs.declared.cause.Cause.TheVariants.{NoRoute, NoUserPart}
use Rattle.signalling_types.specs.declared.notice.Notice.TheVariants as notices
use Rattle.signalling_types.specs.declared.notice.FrameFault.{FrameFault}
use Rattle.signalling_types.specs.declared.outcome.Outcome.TheVariants.{Queued, Refused}
use Rattle.m2pa_codec.specs.Frames.{FrameValue, read_frame}
use Rattle.link.specs.declared.action.Action.{Action}
use Rattle.link.specs.declared.action.Action.TheVariants as act
use Rattle.link.specs.declared.action.Input.TheVariants.{UserData}
use Rattle.link.specs.Queue.{count_confirmed}
use Rattle.exchange_rules.specs.State.{Parts, Node, with_parts, is_link, link_at, in_service, in_traffic, note, Happening, CameUp, WentDown, FrameCame, Ticked, Submitted, Activated, Deactivated, Released, TitleAdded, TitleSet, TitleRemoved}
use Rattle.link.specs.declared.action.Transition.{Transition}
use Rattle.node_links.specs.NodeLinks.{acts_on}
use Rattle.exchange_rules.specs.ChangingOver.{complete_if}
use Rattle.exchange_rules.specs.Telling.{send_routed, is_all_told, answer_no_route, answer_no_user_part, tell_owed}
use Rattle.exchange_rules.specs.LinkTests.{pass_test}
use Rattle.exchange_rules.specs.Frames.{advance, Carrying, numbers, accept, data_of}
use Rattle.mtp3_codec.specs.declared.discrimination.Discrimination.{Discrimination}
use Rattle.mtp3_codec.specs.declared.discrimination.Discrimination.TheVariants as whither
use Rattle.exchange_rules.specs.Messages.{sccp, whither_goes, return_unitdata}
use Rattle.std.specs.Option.{option_and_then}
use Rattle.signalling_types.specs.Message.{Message, service_indicator, dpc_of, opc_of, flow_of}
use Rattle.settings.specs.Readings.{destination_place}
use Rattle.changeover.specs.Changeover.{moved}
use Rattle.exchange_rules.specs.Routing.{link_of, goes_by, waits}
use Rattle.exchange_rules.specs.Exchange.{leaving, release, outcome_of, after, frame_to_take, taken}
use Rattle.exchange_rules.specs.Queues.{WholeQueues, queue_at, whole}
use Rattle.exchange_rules.specs.First.{Abstract, IsSound, first_state}

-- the node after User Data was accepted on a link in service
abbrev pub accepted_here : ℕ → Carrying → Configuration → Node WholeQueues → Node WholeQueues
accepted_here link d c node = accept whole c link d (count_confirmed (numbers whole c link d node)) node

-- the node after a link did so about it: it may enter service first
abbrev pub accept_data : Action → ℕ → Carrying → Configuration → Node WholeQueues → Node WholeQueues
accept_data act.Ignored link d c node = node
accept_data act.Fail link d c node = node
accept_data (act.Go step) link d c node =
    accepted_here link d c (advance whole c link step node)

abbrev pub accept_frame : Option Carrying → ℕ → Configuration → Node WholeQueues → Node WholeQueues
accept_frame None link c node = node
accept_frame (Some d) link c node =
    accept_data (acts_on (link_at node.parts link) UserData) link d c node

-- the node after what was read of a text was accepted; what isn't User Data isn't
abbrev pub accept_read : ℕ → Result FrameValue FrameFault → Configuration → Node WholeQueues → Node WholeQueues
accept_read link (Ok frame) c node = accept_frame (data_of frame) link c node
accept_read link (Err fault) c node = node

-- the node of a state after the frame of a text that was read so was accepted; a text that isn't User Data isn't
abbrev pub accept_text : ℕ → Result FrameValue FrameFault → Abstract → Node WholeQueues
accept_text link read a = accept_read link read a.settings a.node

-- the message that a frame of this text carries
abbrev pub carried_message : Result FrameValue FrameFault → Option Message
carried_message (Ok frame) = option_and_then (λ d. d.message) (data_of frame)
carried_message (Err fault) = None

-- what answers a message that was refused here: one for a user part that isn't here, if it came by a link
abbrev pub no_part_answered : Cause → (from : Option ℕ) → Message → Configuration → Node WholeQueues → Node WholeQueues
no_part_answered NoUserPart from m c node =
    answer_no_user_part whole c from (destination_place c (opc_of m)) m node
no_part_answered cause from m c node = node

-- what answers a message that was refused, by where it goes. One for SCCP here is returned, if it can be. If one that
-- came by a link is for a user part that isn't here, or found no route to another point, its sender is told. Nothing
-- answers any other
abbrev pub answered_by : Discrimination → Cause → (from : Option ℕ) → Message → Configuration → Node WholeQueues
    → Node WholeQueues
answered_by (whither.Refused fault) cause from m c node = node
answered_by (whither.Here label) cause from m c node =
    if nat_eq (service_indicator m) sccp then return_unitdata whole c cause m node
    else no_part_answered cause from m c node
answered_by (whither.Transfer label) NoRoute from m c node =
    answer_no_route whole c from (destination_place c (dpc_of m)) node
answered_by (whither.Transfer label) cause from m c node = node

abbrev pub answered : Cause → (from : Option ℕ) → Option Message → Configuration → Node WholeQueues → Node WholeQueues
answered cause from (Some m) c node = answered_by (whither_goes c m) cause from m c node
answered cause from None c node = node

-- and the refusal is noted
abbrev pub noted : Cause → ℕ → Node WholeQueues → Node WholeQueues
noted cause link node = with_parts node (note (notices.Refused cause link) node.parts)

-- the state after a refused event. A message in a frame leaves what accepting its frame did, what answered it, a
-- notice, and what there was then room to tell. A submission leaves what answered it. Any other event changes nothing
abbrev pub after_refusal : Happening → Cause → Abstract → Abstract
after_refusal (CameUp link) cause a = a
after_refusal (WentDown link) cause a = a
after_refusal Ticked cause a = a
after_refusal (Submitted message) cause a =
    leaving a (answered cause None (Some message) a.settings a.node)
after_refusal (Activated link emergency) cause a = a
after_refusal (Deactivated link) cause a = a
after_refusal (Released link) cause a = a
after_refusal (TitleAdded row is_memory_refused) cause a = a
after_refusal (TitleSet row is_memory_refused) cause a = a
after_refusal (TitleRemoved key digits) cause a = a
after_refusal (FrameCame link text) cause a =
    let node : Node WholeQueues = accept_text link (read_frame text) a in
    let left : Node WholeQueues = answered cause (Some link) (carried_message (read_frame text)) a.settings node in
    if is_link a.node.parts link
    then leaving a (tell_owed whole a.settings (noted cause link left))
    else a

abbrev pub refusals_leave : Type 0
refusals_leave =
    (what : Happening) (a : Abstract) (cause : Cause) → IsSound a → outcome_of whole what a ≡ Refused cause →
    after whole what a ≡ after_refusal what cause a

-- at first, after each event and after each frame that goes out, nothing is owed that finds room
abbrev pub first_is_told : Type 0
first_is_told = (c : Configuration) → is_all_told whole c (first_state c).node ≡ true

abbrev pub events_tell_all : Type 0
events_tell_all =
    (what : Happening) (a : Abstract) → is_all_told whole a.settings (after whole what a).node ≡ true

abbrev pub takes_owe_nothing : Type 0
takes_owe_nothing =
    (a : Abstract) (link : ℕ) → is_all_told whole a.settings a.node ≡ true →
    is_all_told whole a.settings (taken whole a link).node ≡ true

-- a take that gives nothing changes nothing
abbrev pub nothing_taken_leaves : Type 0
nothing_taken_leaves = (a : Abstract) (link : ℕ) → frame_to_take whole a link ≡ None → taken whole a link ≡ a

-- a message is queued on a link that carries traffic
abbrev pub queued_in_traffic : Type 0
queued_in_traffic = (what : Happening) (a : Abstract) (link : ℕ) → outcome_of whole what a ≡ Queued link →
    in_traffic (after whole what a).node.parts link ≡ true

-- the same for every other message: if a rule changes the queue of a link, that link carries traffic afterwards
abbrev pub GivesInTraffic : (link : ℕ) → (before after : Node WholeQueues) → Type 0
GivesInTraffic link before after =
    queue_at after.queues link ≢ queue_at before.queues link → in_traffic after.parts link ≡ true

-- management that is made here goes out on the link of its flow
abbrev pub routed_in_traffic : Type 0
routed_in_traffic =
    (c : Configuration) (m : Message) (node : Node WholeQueues) (link : ℕ) →
    GivesInTraffic link node (send_routed whole c m node)

-- a link that takes a step of its alignment, or passes a test, declares to others that it is back
abbrev pub declared_in_traffic : Type 0
declared_in_traffic =
    (c : Configuration) (its : ℕ) (step : Transition) (node : Node WholeQueues) (link : ℕ) → link ≢ its →
    GivesInTraffic link node (advance whole c its step node)

abbrev pub declared_by_test_in_traffic : Type 0
declared_by_test_in_traffic =
    (c : Configuration) (its : ℕ) (node : Node WholeQueues) (link : ℕ) →
    GivesInTraffic link node (pass_test whole c its node)

-- its own queue changes by a step only in service, where it is tested
abbrev pub tested_in_service : Type 0
tested_in_service =
    (c : Configuration) (its : ℕ) (step : Transition) (node : Node WholeQueues) →
    queue_at (advance whole c its step node).queues its ≢ queue_at node.queues its →
    in_service (advance whole c its step node).parts its ≡ true

-- a completion puts management of its link on the queues of others again
abbrev pub queued_anew_in_traffic : Type 0
queued_anew_in_traffic =
    (c : Configuration) (failed : ℕ) (number : Option ℕ) (node : Node WholeQueues) (link : ℕ) → link ≢ failed →
    GivesInTraffic link node (complete_if whole c true failed number node)

-- at the end of each event what is no longer held goes on, and adjacent points are told what they are owed
abbrev pub settled_in_traffic : Type 0
settled_in_traffic =
    (c : Configuration) (node : Node WholeQueues) (link : ℕ) →
    GivesInTraffic link node (tell_owed whole c (release whole c node))

-- ---- changeovers

-- moving the messages of a completion touches the queue of no other link, and in Held each flow's messages that move
-- come before those that were held
abbrev pub completion_leaves_others : Type 0
completion_leaves_others =
    (qs : WholeQueues) (link : ℕ) (number : Option ℕ) →
    ((other : ℕ) → other ≢ link → queue_at (whole.completed qs link number) other ≡ queue_at qs other)
    × ((of_flow : Message → Bool) → filter of_flow (whole.completed qs link number).held
    ≡ filter of_flow (moved (queue_at qs link) number) ++ filter of_flow qs.held)

-- whether a release sends a message to this link
abbrev pub goes_on_by : Configuration → Parts → ℕ → Message → Bool
goes_on_by c p link m = not (waits c p.holds m) && goes_by (link_of c p (flow_of m)) link

-- a release leaves in Held what waits, and puts what goes to a link after what is there, each in the order of Held; so
-- each flow keeps its order
abbrev pub release_keeps_order : Type 0
release_keeps_order =
    (c : Configuration) (node : Node WholeQueues) →
    ((release whole c node).queues.held ≡ filter (waits c node.parts.holds) node.queues.held)
    × ((link : ℕ) → link < length node.queues.links →
    (queue_at (release whole c node).queues link).all
    ≡ (queue_at node.queues link).all ++ filter (goes_on_by c node.parts link) node.queues.held)

-- a changeover meets a changeback: when messages of a flow go on by a link, those that a completion moves come before
-- those that were held
abbrev pub moved_before_held : Type 0
moved_before_held =
    (c : Configuration) (p : Parts) (qs : WholeQueues) (failed link : ℕ) (number : Option ℕ)
    (of_flow : Message → Bool) → link ≢ failed → link < length qs.links →
    ((m : Message) → of_flow m ≡ true → goes_on_by c p link m ≡ true) →
    filter of_flow
    (queue_at (release whole c (record { queues = whole.completed qs failed number; parts = p })).queues link).all
    ≡ filter of_flow (queue_at qs link).all
    ++ (filter of_flow (moved (queue_at qs failed) number) ++ filter of_flow qs.held)
