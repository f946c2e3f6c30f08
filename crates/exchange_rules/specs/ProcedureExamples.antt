-- Laws of procedures at a node of one link to point 2: wrong definitions make them false here.
use Rattle.std.specs.Prelude.{◌≡◌, ℕ, true, false, List, [], ◌∷◌, Some}
use Rattle.signalling_types.specs.Message.{Message}
use Rattle.signalling_types.specs.declared.cause.Cause.TheVariants.{NotFromAdjacent, ShareFull}
use Rattle.signalling_types.specs.declared.outcome.Outcome.TheVariants.{Refused}
use Rattle.settings.specs.Configuration.{Configuration}
use Rattle.m2pa_codec.specs.declared.status.LinkStatus.TheVariants.{BusyEnded, ProvingNormal}
use Rattle.link.specs.declared.alignment.Alignment.TheVariants.{InService, NotAligned}
use Rattle.link.specs.declared.period.Period.TheVariants.{Emergency}
use Rattle.node_links.specs.NodeLinks.{Link, down_link}
use Rattle.timers.specs.declared.name.TimerName.TheVariants.{L4}
use Rattle.sccp_relay.specs.Relay.{Onward, relay}
use Rattle.exchange_rules.specs.State.{Node, link_at}
use Rattle.exchange_rules.specs.Queues.{WholeQueues, queue_at, whole}
use Rattle.exchange_rules.specs.Routing.{no_room_on}
use Rattle.exchange_rules.specs.Messages.{distribute, own_of}
use Rattle.exchange_rules.specs.Frames.{on_link_status}
use Rattle.exchange_rules.specs.RuleExamples.{booted, message, node_with, nothing_held, settings, the_routes, ticks}

-- the node, with its link in a state, and messages that weren't sent on it
abbrev pub with_link : Link → (unsent : List Message) → Node WholeQueues
with_link l unsent =
    let node : Node WholeQueues = node_with nothing_held the_routes [] unsent in
    record node { parts = record node.parts { links = l ∷ [] } }

-- ---- an outage

-- the link is in service, and its peer's processor is out: Busy Ended leaves the peer busy
abbrev pub out_link : Link
out_link = record down_link { alignment = InService; association = true; peer_busy = true; peer_outage = true }

abbrev pub outage_outlasts_busy : Type 0
outage_outlasts_busy =
    (link_at (on_link_status whole settings 0 BusyEnded (with_link out_link [])).left.parts 0).peer_busy ≡ true

-- ---- emergency proving

-- the link opened for emergency, and its peer asks for normal proving: L4 runs for emergency
abbrev pub with_emergency : Configuration
with_emergency = record settings { timers = record ticks { l4 = 8; l4e = Some 2 } }

abbrev pub hurried_link : Link
hurried_link = record down_link { alignment = NotAligned; association = true; period = Emergency }

abbrev pub emergency_has_its_ticks : Type 0
emergency_has_its_ticks =
    (on_link_status whole with_emergency 0 ProvingNormal (with_link hurried_link [])).left.parts.timers.left (L4 0)
    ≡ Some 2

-- ---- a share

-- the link has a share of one message, and one on it isn't confirmed
abbrev pub with_share : Configuration
with_share = record settings { links = record { name = []; set = 0; slc = 0; share = Some 1 } ∷ [] }

abbrev pub share_is_full : Type 0
share_is_full =
    no_room_on whole with_share (Some 0) false message (with_link down_link (message ∷ [])).queues ≡ Some ShareFull

-- ---- link tests

-- SLTM from point 2, with the pattern SLTM, and the SLTA that answers it (Q.707 §5.4, §5.5)
abbrev pub link_test : Message
link_test = record { sio = 129; sif = 1 ∷ 128 ∷ 0 ∷ 0 ∷ 17 ∷ 64 ∷ 83 ∷ 76 ∷ 84 ∷ 77 ∷ [] }

abbrev pub acknowledgement : Message
acknowledgement = record { sio = 129; sif = 2 ∷ 64 ∷ 0 ∷ 0 ∷ 33 ∷ 64 ∷ 83 ∷ 76 ∷ 84 ∷ 77 ∷ [] }

abbrev pub link_test_is_answered : Type 0
link_test_is_answered =
    (queue_at (distribute whole settings 0 link_test (with_link down_link [])).left.queues 0).all
    ≡ acknowledgement ∷ []

-- ---- subsystem tests

-- SST from point 2 about subsystem 8 here, whose multiplicity indicator is 1, and the SSA that answers it (Q.713 §5)
abbrev pub with_subsystem : Configuration
with_subsystem = record settings { subsystem_tests = true; subsystems = 8 ∷ [] }

abbrev pub subsystem_test : List ℕ
subsystem_test =
    1 ∷ 128 ∷ 0 ∷ 0 ∷ 9 ∷ 0 ∷ 3 ∷ 5 ∷ 7 ∷ 2 ∷ 66 ∷ 1 ∷ 2 ∷ 66 ∷ 1 ∷ 5 ∷ 3 ∷ 8 ∷ 1 ∷ 0 ∷ 1 ∷ []

abbrev pub subsystem_allowed : List ℕ
subsystem_allowed =
    2 ∷ 64 ∷ 0 ∷ 0 ∷ 9 ∷ 0 ∷ 3 ∷ 5 ∷ 7 ∷ 2 ∷ 66 ∷ 1 ∷ 2 ∷ 66 ∷ 1 ∷ 5 ∷ 1 ∷ 8 ∷ 1 ∷ 0 ∷ 0 ∷ []

abbrev pub subsystem_test_is_answered : Type 0
subsystem_test_is_answered =
    relay (own_of with_subsystem booted.node.parts) booted.node.parts.titles subsystem_test ≡ Onward subsystem_allowed

-- ---- UPU

-- what says in a test message (SI 1) from point 5 that user part 5 isn't there is no UPU
abbrev pub with_upu : Configuration
with_upu = record settings { user_part_unavailable = true }

abbrev pub upu_as_test : Message
upu_as_test = record { sio = 129; sif = 1 ∷ 64 ∷ 1 ∷ 0 ∷ 26 ∷ 5 ∷ 0 ∷ 21 ∷ [] }

abbrev pub test_from_afar_is_refused : Type 0
test_from_afar_is_refused =
    (distribute whole with_upu 0 upu_as_test booted.node).outcome ≡ Refused NotFromAdjacent
