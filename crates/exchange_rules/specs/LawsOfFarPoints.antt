-- Management and tests that come for this point: from which points they are accepted, and what answers a link test:
-- laws (Q.704 §2.4, §11.2.7, Q.707 §2.2).
use Rattle.std.specs.Prelude.{◌≡◌, ◌≤◌, ◌<◌, ◌⊎◌, ◌^◌, ℕ, true, false, is_some, None, Ok}
use Rattle.signalling_types.specs.Message.{Message, dpc_of, is_management, network_indicator, opc_of, service_indicator}
use Rattle.signalling_types.specs.declared.cause.Cause.TheVariants.{ManagementFull, NotFromAdjacent, NotInProfile}
use Rattle.signalling_types.specs.declared.outcome.Outcome.TheVariants.{Handled}
use Rattle.settings.specs.Configuration.{Configuration}
use Rattle.settings.specs.Readings.{set_place}
use Rattle.mtp3_codec.specs.Management.{LinkTestValue, read_link_test, read_management}
use Rattle.mtp3_codec.specs.declared.link_test.TestKind.TheVariants.{Acknowledgement, Test}
use Rattle.mtp3_codec.specs.declared.management.Management.TheVariants.{UserPartUnavailable}
use Rattle.mtp3_codec.specs.declared.unavailability.UnavailabilityCause.{UnavailabilityCause}
use Rattle.exchange_rules.specs.State.{Node, Done, answer, refuse, with_parts}
use Rattle.exchange_rules.specs.Routing.{queue_on}
use Rattle.exchange_rules.specs.Telling.{unsent}
use Rattle.exchange_rules.specs.Messages.{distribute}
use Rattle.exchange_rules.specs.Queues.{WholeQueues, whole}

-- ---- that a user part isn't there

-- a management message says that a user part isn't at its sender (UPU)
pub record SaysUnavailable (m : Message) : Type 0 where
  pub indicator : service_indicator m ≡ 0
  pub point : ℕ
  pub user_part : ℕ
  pub cause : UnavailabilityCause
  pub says : read_management m.sif ≡ Ok (UserPartUnavailable point user_part cause)

-- it is handled where the settings ask for that, whoever says it, and else refused; nothing changes
pub record IsHeardOf (c : Configuration) (link : ℕ) (m : Message) (node : Node WholeQueues) : Type 0 where
  pub asked : c.user_part_unavailable ≡ true → distribute whole c link m node ≡ answer Handled node
  pub unasked : c.user_part_unavailable ≡ false → is_some (set_place c (opc_of m)) ≡ true →
      distribute whole c link m node ≡ refuse NotInProfile node

abbrev pub upu_is_heard_where_asked_for : Type 0
upu_is_heard_where_asked_for =
    (c : Configuration) (link : ℕ) (m : Message) (node : Node WholeQueues) → SaysUnavailable m →
    IsHeardOf c link m node

-- all other management, and every test, is refused from a point that isn't adjacent, and so is UPU where it isn't asked
-- for
abbrev pub nothing_else_comes_from_afar : Type 0
nothing_else_comes_from_afar =
    (c : Configuration) (link : ℕ) (m : Message) (node : Node WholeQueues) → is_management m ≡ true →
    set_place c (opc_of m) ≡ None → (c.user_part_unavailable ≡ false) ⊎ (SaysUnavailable m → ⊥) →
    distribute whole c link m node ≡ refuse NotFromAdjacent node

-- ---- a link test

-- a message is a link test (SLTM) of an adjacent point
pub record IsLinkTest (c : Configuration) (m : Message) (test : LinkTestValue) : Type 0 where
  pub indicator : service_indicator m ≡ 1
  pub adjacent : is_some (set_place c (opc_of m)) ≡ true
  pub says : read_link_test m.sif ≡ Ok test
  pub kind : test.kind ≡ Test

-- a message answers it (SLTA): it goes from this point to the sender, in this network, with the code and the pattern of
-- the test
pub record Acknowledges (c : Configuration) (m : Message) (test : LinkTestValue) (reply : Message) : Type 0 where
  pub indicator : service_indicator reply ≡ 1
  pub network : network_indicator reply ≡ c.network
  pub from : opc_of reply ≡ c.own
  pub to : dpc_of reply ≡ opc_of m
  pub says : read_link_test reply.sif ≡ Ok (record test { kind = Acknowledgement })

-- each link test is answered, by one message at the end of the queue of the link by which it came, if fewer than 256
-- management messages wait; else the answer is named as unsent
pub record IsAcknowledged (c : Configuration) (link : ℕ) (m : Message) (test : LinkTestValue)
    (node : Node WholeQueues) (done : Done WholeQueues) : Type 0 where
  pub reply : Message
  pub acknowledges : Acknowledges c m test reply
  pub sent : whole.managements node.queues < 256 → done ≡ answer Handled (queue_on whole c link reply node)
  pub full : 256 ≤ whole.managements node.queues →
      done ≡ answer Handled (with_parts node (unsent ManagementFull reply node.parts))

abbrev pub link_tests_are_answered : Type 0
link_tests_are_answered =
    (c : Configuration) (link : ℕ) (m : Message) (test : LinkTestValue) (node : Node WholeQueues) → c.own < 2 ^ 14 →
    IsLinkTest c m test → IsAcknowledged c link m test node (distribute whole c link m node)
