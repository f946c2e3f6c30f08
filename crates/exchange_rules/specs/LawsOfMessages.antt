-- User messages are conserved: laws.
use Rattle.std.specs.Prelude.{Bool, Err, List, Ok, Result, Some, [], drop, false, is_some, length, nat_eq, not, true, ℕ}
use Rattle.std.specs.Prelude.{◌&&◌, ◌++◌, ◌+◌, ◌∷◌, ◌≡◌, ◌≤◌}
use Rattle.settings.specs.Configuration.{Configuration}
use Rattle.mtp3_codec.specs.Headings.{label_at}
use Rattle.mtp3_codec.specs.declared.discrimination.Discrimination.{Discrimination}
use Rattle.mtp3_codec.specs.declared.discrimination.Discrimination.TheVariants as whither
use Rattle.sccp_codec.specs.declared.fault.SccpFault.{SccpFault}
use Rattle.sccp_codec.specs.Management.{ManagementValue, read_management}
use Rattle.sccp_codec.specs.Messages.{UdtValue, UdtsValue, is_by_ssn}
use Rattle.sccp_relay.specs.Relay as relays
use Rattle.sccp_relay.specs.Relay.{is_status}
use Rattle.sccp_relay.specs.Sccp.{Extended, Plain, SccpValue, is_class_connectionless, read_sccp}
use Rattle.signalling_types.specs.Message.{Message, is_management, service_indicator}
use Rattle.signalling_types.specs.declared.limits.TheConstants.Limits.{LINKS, WINDOW}
use Rattle.signalling_types.specs.declared.outcome.Outcome.{Outcome}
use Rattle.signalling_types.specs.declared.outcome.Outcome.TheVariants.{Handled, Held, Ignored, Local, Queued, Refused}
use Rattle.exchange_rules.specs.Exchange.{after, outcome_of, taken}
use Rattle.exchange_rules.specs.First.{first_state, Abstract}
use Rattle.exchange_rules.specs.State.{Asking, AsksWants, Happens, Takes, FrameCame, Happening, Submitted}
use Rattle.exchange_rules.specs.Messages.{sccp, whither_goes}
use Rattle.exchange_rules.specs.Lasting.{HasAllPlaces, after_asking, after_each}
use Rattle.exchange_rules.specs.LastingLinks.{AreLinksSteady}
use Rattle.exchange_rules.specs.Queues.{whole}
use Rattle.exchange_rules.specs.Receiving.{new_message}
use Rattle.exchange_rules.specs.Conserving.{Gone, both_gone, brought_in, gone, gone_that, nothing_gone, standing}
use Rattle.exchange_rules.specs.Conserving.{users_that}

-- By any test: of the user messages that were there before an event or came by it, as many are there after it, were
-- accepted by a peer, or are named as lost. None is doubled, and none is gone in any other way
abbrev pub user_messages_are_conserved : Type 0
user_messages_are_conserved =
    (what : Happening) (a : Abstract) (of : Message → Bool) → HasAllPlaces a.settings a.node →
    AreLinksSteady a.settings.window a.node →
    standing of a.node.queues + users_that of (brought_in what a)
    ≡ standing of (after whole what a).node.queues + gone_that of (gone what a)

-- and a take leaves all of them
abbrev pub takes_leave_user_messages : Type 0
takes_leave_user_messages =
    (a : Abstract) (link : ℕ) (of : Message → Bool) →
    standing of (taken whole a link).node.queues ≡ standing of a.node.queues

-- whether a message for this point says something of a subsystem at another point, and is heard: a UDT of a class
-- without a connection, for SCCP management by its subsystem number, with an SSP or an SSA, from another point
abbrev pub says_in : Configuration → (sender : ℕ) → Result ManagementValue SccpFault → Bool
says_in c sender (Err fault) = false
says_in c sender (Ok about) = is_status about.kind && not (nat_eq sender c.own)

abbrev pub says_status : Configuration → (sender : ℕ) → Result SccpValue SccpFault → Bool
says_status c sender (Ok (Plain (UdtValue class_octet parts))) =
    is_class_connectionless class_octet && is_by_ssn parts.called.routing
    && (relays.is_management parts.called.ssn && says_in c sender (read_management parts.data))
says_status c sender (Ok (Plain (UdtsValue return_cause parts))) = false
says_status c sender (Ok (Extended extended)) = false
says_status c sender (Err fault) = false

abbrev pub is_heard_here : Configuration → Message → Bool
is_heard_here c m =
    nat_eq (service_indicator m) sccp
    && (is_some c.timers.sst && says_status c (label_at m.sif).opc (read_sccp c.extended_unitdata (drop 4 m.sif)))

abbrev pub goes_here : Discrimination → Bool
goes_here (whither.Refused cause) = false
goes_here (whither.Here label) = true
goes_here (whither.Transfer label) = false

abbrev pub is_heard : Configuration → Message → Bool
is_heard c m = goes_here (whither_goes c m) && is_heard_here c m

-- whether a message is queued, held, delivered or refused; or handled, if it is heard
abbrev pub has_fate : (is_heard : Bool) → Outcome → Bool
has_fate is_heard (Queued link) = true
has_fate is_heard Held = true
has_fate is_heard Local = true
has_fate is_heard (Refused cause) = true
has_fate is_heard Handled = is_heard
has_fate is_heard Ignored = false

-- one of these becomes of each user message that a frame newly carries, and of each that is submitted
abbrev pub carried_messages_have_a_fate : Type 0
carried_messages_have_a_fate =
    (a : Abstract) (link : ℕ) (text : List ℕ) (m : Message) → new_message link text a ≡ Some m →
    is_management m ≡ false → has_fate (is_heard a.settings m) (outcome_of whole (FrameCame link text) a) ≡ true

abbrev pub submissions_have_a_fate : Type 0
submissions_have_a_fate =
    (a : Abstract) (m : Message) → has_fate (is_heard a.settings m) (outcome_of whole (Submitted m) a) ≡ true

-- ---- over every event and every take

abbrev pub brought_by_asking : Asking → Abstract → List Message
brought_by_asking (Happens what) a = brought_in what a
brought_by_asking (Takes link) a = []
brought_by_asking (AsksWants link) a = []

abbrev pub gone_by_asking : Asking → Abstract → Gone
gone_by_asking (Happens what) a = gone what a
gone_by_asking (Takes link) a = nothing_gone
gone_by_asking (AsksWants link) a = nothing_gone

-- everything that came in and everything that went, as an exchange was asked all of this
abbrev pub all_brought : List Asking → Abstract → List Message
all_brought [] a = []
all_brought (asking ∷ others) a = brought_by_asking asking a ++ all_brought others (after_asking asking a)

abbrev pub all_gone : List Asking → Abstract → Gone
all_gone [] a = nothing_gone
all_gone (asking ∷ others) a = both_gone (gone_by_asking asking a) (all_gone others (after_asking asking a))

-- so in each state reached from the first, everything that ever came in is still there, was accepted by a peer, or is
-- named as lost
abbrev pub all_that_came_adds_up : Type 0
all_that_came_adds_up =
    (c : Configuration) (asked : List Asking) (of : Message → Bool) → length c.links ≤ LINKS → c.window ≤ WINDOW →
    users_that of (all_brought asked (first_state c))
    ≡ standing of (after_each asked (first_state c)).node.queues + gone_that of (all_gone asked (first_state c))
