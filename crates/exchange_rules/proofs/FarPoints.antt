-- Whose management is accepted, and how a link test is answered.
use Rattle.exchange_rules.proofs.Basics.{◌≡◌, ◌<◌, ◌⊎◌, ◌&&◌, ◌^◌, ◌*◌, ◌+◌, ◌/◌, ◌%◌, ℕ, Bool, true, false, List, [], ◌∷◌, ◌++◌, length, Option, Some, None, Result, Ok, Err, refl, ap, sym, ◌∙◌, arith, nat_tests, nat_eq, nat_lt, nat_le, is_some, and_parts, and_from, eqb-true, eq-eqb, false_from_ne_true as not-so, inl, inr, subst, drop, take, if◌then◌else◌}
use Rattle.exchange_rules.proofs.Definitions.{Configuration, Message, is_management, service_indicator, opc_of, set_place, Cause, ManagementFull, Handled, Refused, Management, MgmtFault, LinkTestValue, TestKind, read_link_test, read_management, label_at, label_octets, Node, Done, answer, refuse, distribute, manage, local, is_adjacent, from_afar, says_unavailable, on_unavailable, do_test, do_kind, do_management, test_answer, testing, send, no_room, WholeQueues, whole, TrafficRestartAllowed, ExtendedChangeoverOrder, ExtendedChangeoverAcknowledgement, EmergencyChangeoverOrder, EmergencyChangeoverAcknowledgement, ChangebackDeclaration, ChangebackAcknowledgement, TransferProhibited, TransferRestricted, TransferAllowed, RouteSetTestProhibited, RouteSetTestRestricted, UserPartUnavailable}
use Rattle.signalling_types.specs.Message.{label_number}
use Rattle.signalling_types.specs.declared.cause.Cause.TheVariants as causes
use Rattle.mtp3_codec.specs.declared.fault.MgmtFault.TheVariants as faults
use Rattle.mtp3_codec.specs.Headings.{IsLabel, kind_of, kind_heading}
use Rattle.mtp3_codec.specs.Management.{answer_to, test_in, test_of_kind}
use Rattle.mtp3_codec.specs.declared.label.Label.{Label}
use Rattle.mtp3_codec.specs.declared.unavailability.UnavailabilityCause.{UnavailabilityCause}
use Rattle.mtp3_codec.proofs.Labels.{label-back}
use Rattle.mtp3_codec.proofs.TestKinds.{test-back}
use Rattle.exchange_rules.specs.Messages.{is_unavailability}
use Rattle.exchange_rules.specs.LawsOfFarPoints.{SaysUnavailable, IsHeardOf, upu_is_heard_where_asked_for, nothing_else_comes_from_afar, IsLinkTest, Acknowledges, IsAcknowledged, link_tests_are_answered}
use Rattle.exchange_rules.proofs.OwnManagement.{tested-indicator, answer-management}

-- ---- that a user part isn't there

record IsUpu (r : Result Management MgmtFault) : Type 0 where
  point : ℕ
  user_part : ℕ
  cause : UnavailabilityCause
  is : r ≡ Ok (UserPartUnavailable point user_part cause)

upu-is : (r : Result Management MgmtFault) → is_unavailability r ≡ true → IsUpu r
upu-is (Ok (UserPartUnavailable point user_part cause)) e = record { point = point; user_part = user_part; cause = cause; is = refl }
upu-is (Ok TrafficRestartAllowed) e = absurd cc
upu-is (Ok (ExtendedChangeoverOrder slc number)) e = absurd cc
upu-is (Ok (ExtendedChangeoverAcknowledgement slc number)) e = absurd cc
upu-is (Ok (EmergencyChangeoverOrder slc)) e = absurd cc
upu-is (Ok (EmergencyChangeoverAcknowledgement slc)) e = absurd cc
upu-is (Ok (ChangebackDeclaration slc code)) e = absurd cc
upu-is (Ok (ChangebackAcknowledgement slc code)) e = absurd cc
upu-is (Ok (TransferProhibited point)) e = absurd cc
upu-is (Ok (TransferRestricted point)) e = absurd cc
upu-is (Ok (TransferAllowed point)) e = absurd cc
upu-is (Ok (RouteSetTestProhibited point)) e = absurd cc
upu-is (Ok (RouteSetTestRestricted point)) e = absurd cc
upu-is (Err fault) e = absurd cc

says-is : (m : Message) → says_unavailable m ≡ true → SaysUnavailable m
says-is m e =
    let parts = and_parts (nat_eq (service_indicator m) 0) (is_unavailability (read_management m.sif)) e in
    let its = upu-is (read_management m.sif) parts.1 in
    record { indicator = eqb-true (service_indicator m) 0 parts.0; point = its.point; user_part = its.user_part; cause = its.cause; says = its.is }

is-said : (m : Message) → SaysUnavailable m → says_unavailable m ≡ true
is-said m s =
    and_from (nat_eq (service_indicator m) 0) (is_unavailability (read_management m.sif)) (eq-eqb (service_indicator m) 0 s.indicator)
    (ap is_unavailability s.says)

module _ (c : Configuration) (link : ℕ) (m : Message) (node : Node WholeQueues) where
  abbrev near : Done WholeQueues
  near =
      if nat_eq (service_indicator m) testing
      then do_test whole c (read_link_test m.sif) link (opc_of m) node
      else do_management whole c (read_management m.sif) (opc_of m) node

  pub managed : is_management m ≡ true → (b : Bool) → is_adjacent c (opc_of m) ≡ b → distribute whole c link m node ≡ (if b then near else answer (from_afar c m) node)
  managed e b adjacent =
      ap (λ (x : Bool). if x then manage whole c link m node else local whole c (Some link) m node) e
      ∙ ap (λ (x : Bool). if x then near else answer (from_afar c m) node) adjacent

  upu-near : SaysUnavailable m → near ≡ answer (on_unavailable c) node
  upu-near s =
      ap (λ (x : ℕ). if nat_eq x testing then do_test whole c (read_link_test m.sif) link (opc_of m) node else do_management whole c (read_management m.sif) (opc_of m) node) s.indicator
      ∙ ap (λ (r : Result Management MgmtFault). do_management whole c r (opc_of m) node) s.says

  pub heard : SaysUnavailable m → IsHeardOf c link m node
  heard s = record {
    asked = λ on. by on (is_adjacent c (opc_of m)) refl;
    unasked = λ off adjacent.
        managed is true adjacent ∙ upu-near s
        ∙ ap (λ (b : Bool). answer (if b then Handled else Refused causes.NotInProfile) node) off;
  }
    where
      is : is_management m ≡ true
      is = ap (λ (x : ℕ). nat_lt x 2) s.indicator

      by : c.user_part_unavailable ≡ true → (b : Bool) → is_adjacent c (opc_of m) ≡ b → distribute whole c link m node ≡ answer Handled node
      by on true adjacent =
          managed is true adjacent ∙ upu-near s
          ∙ ap (λ (b : Bool). answer (if b then Handled else Refused causes.NotInProfile) node) on
      by on false adjacent =
          managed is false adjacent
          ∙ ap (λ (b : Bool). answer (if b && says_unavailable m then Handled else Refused causes.NotFromAdjacent) node) on
          ∙ ap (λ (b : Bool). answer (if b then Handled else Refused causes.NotFromAdjacent) node) (is-said m s)

  pub refused : is_management m ≡ true → set_place c (opc_of m) ≡ None → (c.user_part_unavailable ≡ false) ⊎ (SaysUnavailable m → ⊥)
      → distribute whole c link m node ≡ refuse causes.NotFromAdjacent node
  refused is afar why =
      managed is false (ap is_some afar)
      ∙ ap (λ (b : Bool). answer (if b then Handled else Refused causes.NotFromAdjacent) node) (silent why)
    where
      and-false : (b : Bool) → (b && false) ≡ false
      and-false true = refl
      and-false false = refl

      silent : (c.user_part_unavailable ≡ false) ⊎ (SaysUnavailable m → ⊥) → (c.user_part_unavailable && says_unavailable m) ≡ false
      silent (inl off) = ap (λ (b : Bool). b && says_unavailable m) off
      silent (inr other) =
          ap (λ (b : Bool). c.user_part_unavailable && b) (not-so (says_unavailable m) (λ e. other (says-is m e)))
          ∙ and-false c.user_part_unavailable

pub is-heard : upu_is_heard_where_asked_for
is-heard c link m node s = heard c link m node s

pub from-afar : nothing_else_comes_from_afar
from-afar c link m node is afar why = refused c link m node is afar why

-- ---- a link test

abbrev code_or : Result LinkTestValue MgmtFault → ℕ
code_or (Ok test) = test.slc
code_or (Err fault) = 0

abbrev shape : TestKind → (slc count : ℕ) → (rest : List ℕ) → Bool → Result LinkTestValue MgmtFault
shape kind slc count rest b = if b then Err faults.Short else Ok (record { kind = kind; slc = slc; pattern = take (count / 16) rest })

code-of-kind : (kind : Option TestKind) (slc : ℕ) (rest : List ℕ) (test : LinkTestValue) → test_of_kind kind slc rest ≡ Ok test → slc ≡ test.slc
code-of-kind None slc rest test e = absurd cc
code-of-kind (Some kind) slc [] test e = absurd cc
code-of-kind (Some kind) slc (count ∷ rest) test e = by (nat_lt (length rest) (count / 16)) refl
  where
    by : (b : Bool) → nat_lt (length rest) (count / 16) ≡ b → slc ≡ test.slc
    by true short = absurd (let no : Err faults.Short ≡ Ok test = sym (ap (shape kind slc count rest) short) ∙ e in cc)
    by false long = ap code_or (sym (ap (shape kind slc count rest) long) ∙ e)

code-in : (slc : ℕ) (text : List ℕ) (test : LinkTestValue) → test_in slc text ≡ Ok test → slc ≡ test.slc
code-in slc [] test e = absurd cc
code-in slc (octet ∷ rest) test e = code-of-kind (kind_of octet) slc rest test e

code-fits : (n : ℕ) → n % 2 ^ 4 < 2 ^ 4
code-fits n = omega arith

point-fits : (n : ℕ) → n % 2 ^ 14 < 2 ^ 14
point-fits n = omega arith

its-network : (network : ℕ) → (network * 64 + 1) / 64 ≡ network
its-network network = omega arith

module _ (c : Configuration) (link : ℕ) (m : Message) (test : LinkTestValue) (node : Node WholeQueues) (own : c.own < 2 ^ 14) (is : IsLinkTest c m test) where
  abbrev reply : Message
  reply = test_answer c (opc_of m) test

  abbrev label : Label
  label = record { dpc = opc_of m; opc = c.own; sls = test.slc }

  abbrev rest : List ℕ
  rest = kind_heading (answer_to test).kind ∷ length test.pattern * 16 ∷ test.pattern

  labelled : IsLabel label
  labelled = record {
    dpc = point-fits (label_number m.sif / 2 ^ 14);
    opc = own;
    sls = subst (λ (x : ℕ). x < 2 ^ 4) (code-in (label_at m.sif).sls (drop 4 m.sif) test is.says) (code-fits (label_number m.sif / 2 ^ 28));
  }

  back : label_at (label_octets label ++ rest) ≡ label
  back = label-back label rest labelled

  replied : Acknowledges c m test reply
  replied = record {
    indicator = tested-indicator c.network;
    network = its-network c.network;
    from = ap (λ (l : Label). l.opc) back;
    to = ap (λ (l : Label). l.dpc) back;
    says = test-back (opc_of m) c.own (answer_to test) labelled;
  }

  done : distribute whole c link m node ≡ answer Handled (send whole c (no_room whole c reply node.queues) (Some link) reply node)
  done =
      managed c link m node (ap (λ (x : ℕ). nat_lt x 2) is.indicator) true is.adjacent
      ∙ ap (λ (x : ℕ). if nat_eq x testing then do_test whole c (read_link_test m.sif) link (opc_of m) node else do_management whole c (read_management m.sif) (opc_of m) node) is.indicator
      ∙ ap (λ (r : Result LinkTestValue MgmtFault). do_test whole c r link (opc_of m) node) is.says
      ∙ ap (λ (kind : TestKind). do_kind whole c kind link (opc_of m) test node) is.kind

  room : (b : Bool) → nat_le 256 (whole.managements node.queues) ≡ b → no_room whole c reply node.queues ≡ (if b then Some ManagementFull else None)
  room b e =
      ap (λ (x : Bool). if x then (if nat_le 256 (whole.managements node.queues) then Some ManagementFull else None) else (if nat_le c.pool (whole.users node.queues) then Some causes.PoolFull else None))
      (answer-management c (opc_of m) test)
      ∙ ap (λ (x : Bool). if x then Some ManagementFull else None) e

  pub acknowledged : IsAcknowledged c link m test node (distribute whole c link m node)
  acknowledged = record {
    reply = reply;
    acknowledges = replied;
    sent = λ few. done ∙ ap (λ (cause : Option Cause). answer Handled (send whole c cause (Some link) reply node)) (room false (grind (arith, nat_tests, few)));
    full = λ many. done ∙ ap (λ (cause : Option Cause). answer Handled (send whole c cause (Some link) reply node)) (room true (grind (arith, nat_tests, many)));
  }

pub are-answered : link_tests_are_answered
are-answered c link m test node own is = acknowledged c link m test node own is
