-- Which user messages an event brings in, and which ones are gone for good.
use Rattle.std.specs.Prelude.{Bool, Err, List, None, Ok, Option, Result, Some, [], count_by, false, filter, if◌then◌else◌, is_some, nat_eq, not, suc, sum_by, take, true, zero, ℕ, ◌&&◌, ◌++◌, ◌+◌, ◌-◌, ◌∷◌}
use Rattle.changeover.specs.Changeover.{accepted_count, users_of}
use Rattle.changeover.specs.Laws.{count_in_the_end}
use Rattle.link.specs.declared.action.Action.{Action}
use Rattle.link.specs.declared.action.Input.TheVariants.{UserData}
use Rattle.link.specs.Queue.{Queue, count_confirmed, unconfirmed}
use Rattle.link.specs.declared.fault.SeqFault.{SeqFault}
use Rattle.m2pa_codec.specs.Frames.{FrameValue, read_frame}
use Rattle.mtp3_codec.specs.Management.{read_management}
use Rattle.mtp3_codec.specs.declared.fault.MgmtFault.{MgmtFault}
use Rattle.mtp3_codec.specs.declared.management.Management.{Management}
use Rattle.mtp3_codec.specs.declared.management.Management.TheVariants.{EmergencyChangeoverAcknowledgement, EmergencyChangeoverOrder, ExtendedChangeoverAcknowledgement, ExtendedChangeoverOrder}
use Rattle.mtp3_codec.specs.declared.discrimination.Discrimination.{Discrimination}
use Rattle.sccp_relay.specs.Relay.{RelayedValue, relay}
use Rattle.sccp_relay.specs.Returning.{returned}
use Rattle.settings.specs.Configuration.{Configuration}
use Rattle.signalling_types.specs.Message.{Message, flow_of, is_management, opc_of, service_indicator}
use Rattle.signalling_types.specs.declared.notice.FrameFault.{FrameFault}
use Rattle.signalling_types.specs.declared.outcome.Outcome.{Outcome}
use Rattle.signalling_types.specs.declared.outcome.Outcome.TheVariants.{Handled, Held, Ignored, Local, Queued, Refused}
use Rattle.timers.specs.Timers.{after_due, due_count, due_name, ticked}
use Rattle.timers.specs.declared.name.TimerName.{TimerName}
use Rattle.timers.specs.declared.name.TimerName.TheVariants.{T1, T2}
use Rattle.exchange_rules.specs.Messages.{transfer, is_adjacent, link_with_code, sccp, whither_goes, in_place_of, own_of}
use Rattle.exchange_rules.specs.LinkTests.{testing}
use Rattle.exchange_rules.specs.ChangingOver.{fail_by_order, changeover_of}
use Rattle.exchange_rules.specs.Exchange.{handle_event, outcome_of, run_next, with_timers}
use Rattle.exchange_rules.specs.Frames.{Carrying, data_of, numbers, advance}
use Rattle.exchange_rules.specs.State.{FrameCame, Happening, Submitted, Ticked, down, is_link, link_at, Found, Node, Parts}
use Rattle.exchange_rules.specs.Routing.{waits, link_of}
use Rattle.exchange_rules.specs.Laws.{accept_text}
use Rattle.exchange_rules.specs.Queues.{WholeQueues, queue_at, whole}
use Rattle.exchange_rules.specs.Receiving.{new_message}
use Rattle.exchange_rules.specs.First.{Abstract}
use Rattle.link.specs.declared.action.Action.TheVariants as act
use Rattle.node_links.specs.NodeLinks.{acts_on}
use Rattle.sccp_relay.specs.Relay as relays
use Rattle.mtp3_codec.specs.declared.discrimination.Discrimination.TheVariants as whither

-- ---- how many

-- how many user messages of a list satisfy a test
abbrev pub users_that : (of : Message → Bool) → List Message → ℕ
users_that of ms = count_by of (users_of ms)

-- of the messages in Held and the unconfirmed ones in queues, how many satisfy a test
abbrev pub standing : (of : Message → Bool) → WholeQueues → ℕ
standing of qs = users_that of qs.held + sum_by (λ q. users_that of (unconfirmed q)) qs.links

-- ---- what comes in

-- the message itself, if the outcome is that it is queued or held
abbrev pub taken_in : Outcome → Message → List Message
taken_in (Queued link) m = m ∷ []
taken_in Held m = m ∷ []
taken_in Local m = []
taken_in Handled m = []
taken_in Ignored m = []
taken_in (Refused cause) m = []

-- a message written here goes the way of any message for another point, and is taken in if it finds its way
abbrev pub entering : Configuration → Message → Node WholeQueues → List Message
entering c m node = taken_in (transfer whole c None m node).outcome m

-- an SCCP message for this point goes on as its relay writes it, if it goes on
abbrev pub relayed_in : RelayedValue → Outcome → Message → List Message
relayed_in relays.Delivered outcome m = []
relayed_in (relays.Onward sif) outcome m = taken_in outcome (in_place_of m sif)
relayed_in (relays.Heard news) outcome m = []
relayed_in (relays.Refused cause) outcome m = []

-- the UDTS or XUDTS that returns it, if one does
abbrev pub returned_in : Option (List ℕ) → Configuration → Message → Node WholeQueues → List Message
returned_in (Some sif) c m node = entering c (in_place_of m sif) node
returned_in None c m node = []

-- it is returned if it is refused
abbrev pub answered_in : Outcome → Configuration → Message → Node WholeQueues → List Message
answered_in (Refused cause) c m node =
    returned_in (returned (own_of c node.parts) node.parts.titles m.sif cause) c m node
answered_in (Queued link) c m node = []
answered_in Held c m node = []
answered_in Local c m node = []
answered_in Handled c m node = []
answered_in Ignored c m node = []

-- what an SCCP message for this point brings: itself, as it goes on, and what answers it
abbrev pub unitdata_in : Outcome → Configuration → Message → Node WholeQueues → List Message
unitdata_in outcome c m node =
    relayed_in (relay (own_of c node.parts) node.parts.titles m.sif) outcome m ++ answered_in outcome c m node

-- a message for this point brings only what SCCP makes of it
abbrev pub brought_here : Outcome → Configuration → Message → Node WholeQueues → List Message
brought_here outcome c m node = if nat_eq (service_indicator m) sccp then unitdata_in outcome c m node else []

-- what a message brings, by where it goes; one for another point brings itself, as it came
abbrev pub brought_to : Discrimination → Outcome → Configuration → Message → Node WholeQueues → List Message
brought_to (whither.Refused fault) outcome c m node = []
brought_to (whither.Here label) outcome c m node = brought_here outcome c m node
brought_to (whither.Transfer label) outcome c m node = taken_in outcome m

abbrev pub brought_by : Option Message → Outcome → Configuration → Node WholeQueues → List Message
brought_by (Some m) outcome c node = brought_to (whither_goes c m) outcome c m node
brought_by None outcome c node = []

-- what an event brings: by the message that its frame newly carries, or that was submitted
abbrev pub brought_in : Happening → Abstract → List Message
brought_in (FrameCame link text) a =
    brought_by (new_message link text a) (outcome_of whole (FrameCame link text) a) a.settings
    (accept_text link (read_frame text) a)
brought_in (Submitted m) a = brought_by (Some m) (outcome_of whole (Submitted m) a) a.settings a.node
brought_in what a = []

-- ---- what goes for good

pub record Gone : Type 0 where
  -- the messages that the peer accepted, and those that are named as lost
  pub accepted : List Message
  pub lost : List Message
  -- the management messages that a completion queues again on other links
  pub queued_anew : List Message
  -- how many completions had no reasonable number, and how many of these had one that names no count
  pub doubts : ℕ
  pub wrong : ℕ

abbrev pub only_accepted : List Message → Gone
only_accepted ms = record { accepted = ms; lost = []; queued_anew = []; doubts = 0; wrong = 0 }

abbrev pub nothing_gone : Gone
nothing_gone = only_accepted []

abbrev pub both_gone : Gone → Gone → Gone
both_gone one other = record {
  accepted = one.accepted ++ other.accepted;
  lost = one.lost ++ other.lost;
  queued_anew = one.queued_anew ++ other.queued_anew;
  doubts = one.doubts + other.doubts;
  wrong = one.wrong + other.wrong;
}

-- the oldest messages of a queue, as many as the numbers of User Data confirm
abbrev pub confirmed_by : Result ℕ SeqFault → Queue → List Message
confirmed_by numbers q = take (count_confirmed numbers) (unconfirmed q)

-- none if the link ignores User Data, or fails because of it
abbrev pub confirmed_at : Action → ℕ → Carrying → Configuration → Node WholeQueues → List Message
confirmed_at act.Ignored link d c node = []
confirmed_at act.Fail link d c node = []
confirmed_at (act.Go step) link d c node =
    let next : Node WholeQueues = advance whole c link step node in
    confirmed_by (numbers whole c link d next) (queue_at next.queues link)

abbrev pub confirmed_in : Option Carrying → ℕ → Configuration → Node WholeQueues → List Message
confirmed_in None link c node = []
confirmed_in (Some d) link c node =
    confirmed_at (acts_on (link_at node.parts link) UserData) link d c node

abbrev pub confirmed_of : Result FrameValue FrameFault → ℕ → Configuration → Node WholeQueues → List Message
confirmed_of (Ok frame) link c node = confirmed_in (data_of frame) link c node
confirmed_of (Err fault) link c node = []

-- what a frame confirms of the queue of its link
abbrev pub confirmed : ℕ → List ℕ → Abstract → List Message
confirmed link text a =
    if is_link a.node.parts link && not (down a.node.parts link)
    then confirmed_of (read_frame text) link a.settings a.node
    else []

-- by a completion, if the changeover isn't complete: what the peer accepted, by the number that it gave, and what is
-- named as lost
abbrev pub gone_by_completion : (incomplete : Bool) → ℕ → Option ℕ → WholeQueues → Gone
gone_by_completion true link number queues =
    let q : Queue = queue_at queues link in
    let found : Found = whole.found queues link number in
    record {
      accepted = take (count_in_the_end q (accepted_count q number) - q.confirmed) (unconfirmed q);
      lost = found.lost;
      queued_anew = found.queued_anew;
      doubts = if found.is_reasonable then 0 else 1;
      wrong = if found.is_wrong then 1 else 0;
    }
gone_by_completion false link number queues = nothing_gone

-- the peer orders a changeover: the link fails first, if it isn't down
abbrev pub gone_by_order : Option ℕ → Option ℕ → Configuration → Node WholeQueues → Gone
gone_by_order (Some link) number c node =
    let fallen : Node WholeQueues = fail_by_order whole c link node in
    gone_by_completion (changeover_of fallen.parts link).incomplete link number fallen.queues
gone_by_order None number c node = nothing_gone

-- the peer answers an order; only an answer that is awaited counts
abbrev pub gone_by_answer : Option ℕ → Option ℕ → Node WholeQueues → Gone
gone_by_answer (Some link) number node =
    if (changeover_of node.parts link).awaited
    then gone_by_completion (changeover_of node.parts link).incomplete link number node.queues
    else nothing_gone
gone_by_answer None number node = nothing_gone

-- of all management, only these messages complete changeovers
abbrev pub gone_by_management : Management → ℕ → Configuration → Node WholeQueues → Gone
gone_by_management (ExtendedChangeoverOrder slc number) point c node =
    gone_by_order (link_with_code c point slc) (Some number) c node
gone_by_management (EmergencyChangeoverOrder slc) point c node =
    gone_by_order (link_with_code c point slc) None c node
gone_by_management (ExtendedChangeoverAcknowledgement slc number) point c node =
    gone_by_answer (link_with_code c point slc) (Some number) node
gone_by_management (EmergencyChangeoverAcknowledgement slc) point c node =
    gone_by_answer (link_with_code c point slc) None node
gone_by_management other point c node = nothing_gone

abbrev pub gone_by_word : Result Management MgmtFault → ℕ → Configuration → Node WholeQueues → Gone
gone_by_word (Ok word) point c node = gone_by_management word point c node
gone_by_word (Err fault) point c node = nothing_gone

-- whether a message for this point is management from an adjacent one, and no test
abbrev pub is_word : Configuration → Message → Bool
is_word c m = is_management m && (is_adjacent c (opc_of m) && not (nat_eq (service_indicator m) testing))

abbrev pub gone_by_message : Discrimination → Configuration → Message → Node WholeQueues → Gone
gone_by_message (whither.Refused fault) c m node = nothing_gone
gone_by_message (whither.Here label) c m node =
    if is_word c m then gone_by_word (read_management m.sif) (opc_of m) c node else nothing_gone
gone_by_message (whither.Transfer label) c m node = nothing_gone

abbrev pub gone_by_new : Option Message → Configuration → Node WholeQueues → Gone
gone_by_new (Some m) c node = gone_by_message (whither_goes c m) c m node
gone_by_new None c node = nothing_gone

-- T1 or T2 of a link runs out: its changeover is completed without a number
abbrev pub gone_by_expiry : ℕ → Node WholeQueues → Gone
gone_by_expiry link node =
    if is_link node.parts link
    then gone_by_completion (changeover_of node.parts link).incomplete link None node.queues
    else nothing_gone

abbrev pub gone_by_timer : Option TimerName → Node WholeQueues → Gone
gone_by_timer (Some (T1 link)) node = gone_by_expiry link node
gone_by_timer (Some (T2 link)) node = gone_by_expiry link node
gone_by_timer other node = nothing_gone

-- by the timers that run at a tick, each as it runs
abbrev pub gone_by_timers : ℕ → Configuration → Node WholeQueues → Gone
gone_by_timers zero c node = nothing_gone
gone_by_timers (suc more) c node =
    both_gone (gone_by_timer (due_name node.parts.timers) (with_timers node (after_due node.parts.timers)))
    (gone_by_timers more c (run_next whole c node))

abbrev pub gone_by_tick : Configuration → Node WholeQueues → Gone
gone_by_tick c node =
    gone_by_timers (due_count (ticked node.parts.timers)) c (with_timers node (ticked node.parts.timers))

-- by an event, before the release at its end
abbrev pub gone_by : Happening → Abstract → Gone
gone_by (FrameCame link text) a =
    both_gone (only_accepted (confirmed link text a))
    (gone_by_new (new_message link text a) a.settings (accept_text link (read_frame text) a))
gone_by Ticked a = gone_by_tick a.settings a.node
gone_by what a = nothing_gone

-- by the release: the messages of Held that no longer have a hold or a link; they are named as lost, too
abbrev pub is_stranded : Configuration → Parts → Message → Bool
is_stranded c p m = not (waits c p.holds m) && not (is_some (link_of c p (flow_of m)))

abbrev pub gone_by_release : Configuration → Node WholeQueues → Gone
gone_by_release c node =
    record nothing_gone { lost = filter (is_stranded c node.parts) node.queues.held }

abbrev pub gone : Happening → Abstract → Gone
gone what a =
    both_gone (gone_by what a) (gone_by_release a.settings (handle_event whole a.settings what a.node).left)

abbrev pub gone_that : (of : Message → Bool) → Gone → ℕ
gone_that of g = users_that of g.accepted + users_that of g.lost
