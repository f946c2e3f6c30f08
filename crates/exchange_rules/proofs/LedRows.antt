-- Where translation rows lead, and how a message goes back by one; and how a subsystem test is answered.
use Rattle.std.proofs.Common.{◌≡◌, ◌⊎◌, ◌<◌, ◌^◌, ◌/◌, ◌%◌, ℕ, Bool, true, false, not, List, ◌++◌, drop, Option, Some, None, Result, Ok, refl, ap, ◌∙◌, arith, inl, inr}
use Rattle.std.proofs.lemmas.Bool.{and_parts, and_from, eqb-true, eq-eqb}
use Rattle.std.proofs.lemmas.List.Folds.{list_any_at}
use Rattle.std.specs.List.{list_any}
use Rattle.std.specs.Prelude.{◌&&◌, ◌||◌, if◌then◌else◌, nat_eq, is_some, Contains}
use Rattle.signalling_types.specs.declared.cause.Cause.{Cause}
use Rattle.signalling_types.specs.declared.cause.Cause.TheVariants.{NoUserPart, NotInProfile}
use Rattle.signalling_types.specs.declared.outcome.Outcome.TheVariants.{Local}
use Rattle.signalling_types.specs.Message.{Message, label_number, opc_of, service_indicator}
use Rattle.settings.specs.Readings.{destination_place}
use Rattle.settings.specs.Configuration.{Configuration, TitleEntry}
use Rattle.settings.specs.declared.title_row.TitleRoute.{TitleRoute}
use Rattle.settings.specs.declared.title_row.TitleRoute.TheVariants as route
use Rattle.mtp3_codec.specs.declared.label.Label.{Label}
use Rattle.mtp3_codec.specs.Headings.{label_at, label_octets}
use Rattle.mtp3_codec.proofs.Labels.{label-back}
use Rattle.sccp_codec.specs.declared.address.Routing.{Routing}
use Rattle.sccp_codec.specs.declared.fault.SccpFault.{SccpFault}
use Rattle.sccp_codec.specs.declared.management.ManagementKind.{ManagementKind}
use Rattle.sccp_codec.specs.declared.management.ManagementKind.TheVariants.{SubsystemAllowed}
use Rattle.sccp_codec.specs.Management.{ManagementValue, management_octets, read_management}
use Rattle.sccp_codec.specs.Messages.{PartsValue, UdtValue}
use Rattle.sccp_codec.proofs.ManagementTexts.{read_management-written}
use Rattle.sccp_relay.specs.Points.{OwnValue, is_open, point_by, unless_barred}
use Rattle.sccp_relay.specs.Relay as relays
use Rattle.sccp_relay.specs.Relay.{RelayedValue, relay, management_address, translated}
use Rattle.sccp_relay.specs.Returning.{return_by, return_by_row, return_led, return_read, returned}
use Rattle.sccp_relay.specs.Sccp.{SccpValue, Plain, read_sccp, sccp_octets, sccp_parts}
use Rattle.sccp_relay.specs.Statuses.{TitlesValue, is_backup, is_for, leads_to}
use Rattle.sccp_relay.specs.declared.subsystem.Subsystem.{Subsystem}
use Rattle.sccp_relay.specs.declared.subsystem.SubsystemNews.{SubsystemNews}
use Rattle.sccp_relay.proofs.SaidMessages.{octets-back}
use Rattle.exchange_rules.specs.LawsOfSubsystems.{IsChoice}
use Rattle.exchange_rules.specs.LawsOfRows.{LeadsTo, rows_lead_to_point_and_backup, rows_have_room, GoesToTitle, sent_back_to, GoesBackByRow, messages_go_back_by_rows, IsSubsystemTest, ReadsAsAnswer, IsAllowedBack, subsystem_tests_are_answered}
use Rattle.exchange_rules.specs.Messages.{is_user, local, on_unitdata, own_of, relay_by, return_refusal}
use Rattle.exchange_rules.specs.Telling.{answer_no_user_part}
use Rattle.exchange_rules.specs.Queues.{WholeQueues, whole}
use Rattle.exchange_rules.specs.State.{Done, Node, answer, refuse}
use Rattle.exchange_rules.proofs.RowChoices.{choices}

-- ---- which subsystems rows lead to

numbered : (to : TitleRoute) (ssn : ℕ) → is_for to ssn ≡ true → to ≡ route.Ssn ssn
numbered (route.Title number) ssn e = absurd cc
numbered (route.Ssn number) ssn e = ap route.Ssn (eqb-true number ssn e)

backed : (backup : Option ℕ) (point : ℕ) → is_backup backup point ≡ true → backup ≡ Some point
backed None point e = absurd cc
backed (Some backup) point e = ap Some (eqb-true backup point e)

same : (n : ℕ) → nat_eq n n ≡ true
same n = eq-eqb n n refl

module _ (s : Subsystem) (row : TitleEntry) where
  placed : (here there : Bool) → nat_eq row.point s.point ≡ here → is_backup row.backup s.point ≡ there → (here || there) ≡ true
      → (row.point ≡ s.point) ⊎ (row.backup ≡ Some s.point)
  placed true b e f g = inl (eqb-true row.point s.point e)
  placed false true e f g = inr (backed row.backup s.point f)
  placed false false e f g = absurd cc

  leads-so : leads_to s row ≡ true → LeadsTo s row
  leads-so e =
      let parts = and_parts (is_for row.route s.ssn) (nat_eq row.point s.point || is_backup row.backup s.point) e in
      record {
        by_number = numbered row.route s.ssn parts.0;
        there = placed (nat_eq row.point s.point) (is_backup row.backup s.point) refl refl parts.1;
      }

  or-true : (b : Bool) → (b || true) ≡ true
  or-true true = refl
  or-true false = refl

  its-place : (row.point ≡ s.point) ⊎ (row.backup ≡ Some s.point) → (nat_eq row.point s.point || is_backup row.backup s.point) ≡ true
  its-place (inl here) =
      ap (λ (b : Bool). b || is_backup row.backup s.point) (eq-eqb row.point s.point here)
  its-place (inr there) =
      ap (λ (o : Option ℕ). nat_eq row.point s.point || is_backup o s.point) there
      ∙ ap (λ (b : Bool). nat_eq row.point s.point || b) (same s.point)
      ∙ or-true (nat_eq row.point s.point)

  so-leads : LeadsTo s row → leads_to s row ≡ true
  so-leads l =
      and_from (is_for row.route s.ssn) (nat_eq row.point s.point || is_backup row.backup s.point)
      (ap (λ (to : TitleRoute). is_for to s.ssn) l.by_number ∙ same s.ssn) (its-place l.there)

pub lead-to : rows_lead_to_point_and_backup
lead-to s row = (leads-so s row, so-leads s row)

pub have-room : rows_have_room
have-room prohibited = refl

-- ---- how a message goes back to a title

open-backup : (b : Bool) → b ≡ true → (b && not false) ≡ true
open-backup true e = refl
open-backup false e = absurd cc

shut-backup : (b : Bool) → b ≡ false → (b && not false) ≡ false
shut-backup false e = refl
shut-backup true e = absurd cc

module _ (own : OwnValue) (titles : TitlesValue) (sif : List ℕ) (cause : Cause) (g : GoesToTitle own titles sif cause) where
  abbrev asked : Label
  asked = label_at sif

  abbrev choice : IsChoice own titles.prohibited None asked.sls g.row
  choice = choices own titles.prohibited None asked.sls g.row

  -- whatever keeps a row that isn't barred from leading there
  goes : (point : ℕ) → (unless_barred own titles.prohibited None asked.sls (Ok g.row) ≡ Ok g.row) × (point_by own titles.prohibited None asked.sls g.row ≡ point)
      → returned own titles sif cause ≡ sent_back_to own sif g.number g.came g.row point
  unfolding returned
  goes point led =
      ap (λ (number : Option ℕ). return_read own titles asked number (read_sccp own.extended (drop 4 sif))) g.caused
      ∙ ap (λ (r : Result SccpValue SccpFault). return_read own titles asked (Some g.number) r) g.reads
      ∙ ap (λ (b : Bool). if b then return_by (sccp_parts g.came).calling.routing own titles asked g.number g.came else None) g.asks
      ∙ ap (λ (r : Routing). return_by r own titles asked g.number g.came) g.titled
      ∙ ap (λ (r : Result TitleEntry Cause). return_by_row own titles.prohibited asked g.number g.came (unless_barred own titles.prohibited None asked.sls r)) g.finds
      ∙ ap (λ (r : Result TitleEntry Cause). return_by_row own titles.prohibited asked g.number g.came r) led.0
      ∙ ap (λ (p : ℕ). return_led own asked g.number g.came p (translated g.row (sccp_parts g.came).calling)) led.1

  pub goes-back : GoesBackByRow own titles sif cause g
  goes-back = record {
    first = λ taken. goes g.row.point (choice.first taken);
    second = λ backup has closed taken.
        goes backup (choice.second backup has closed (open-backup (is_open own titles.prohibited asked.sls g.row.route backup) taken));
    neither = λ free others.
        goes g.row.point (choice.neither free (λ backup has.
        (shut-backup (is_open own titles.prohibited asked.sls g.row.route backup) (others backup has).0, (others backup has).1)));
  }

pub go-back : messages_go_back_by_rows
go-back own titles sif cause g = goes-back own titles sif cause g

-- ---- how a subsystem test is answered

code-fits : (n : ℕ) → n % 2 ^ 4 < 2 ^ 4
code-fits n = omega arith

point-fits : (n : ℕ) → n % 2 ^ 14 < 2 ^ 14
point-fits n = omega arith

listed : (ssn : ℕ) (subsystems : List ℕ) → Contains subsystems ssn → list_any (λ subsystem. nat_eq subsystem ssn) subsystems ≡ true
listed ssn subsystems (k, l, e) =
    list_any_at (λ subsystem. nat_eq subsystem ssn) subsystems k ssn l (ap (λ (n : ℕ). nat_eq n ssn) e ∙ same ssn)

none-or : {A : Type 0} (b : Bool) (x : A) → (if b && true then x else x) ≡ x
none-or true x = refl
none-or false x = refl

or-listed : (a b : Bool) → b ≡ true → (a || b) ≡ true
or-listed true b e = refl
or-listed false b e = e

module _ (c : Configuration) (m : Message) (about : ManagementValue) (node : Node WholeQueues) (fits : c.own < 2 ^ 14) (s : IsSubsystemTest c m about) where
  abbrev its : Label
  its = label_at m.sif

  abbrev own : OwnValue
  own = own_of c node.parts

  abbrev titles : TitlesValue
  titles = node.parts.titles

  abbrev message : SccpValue
  message = Plain (UdtValue s.class_octet s.parts)

  abbrev reply : ManagementValue
  reply = record about { kind = SubsystemAllowed; multiplicity = 0 }

  abbrev parts : PartsValue
  parts = record { called = management_address; calling = management_address; «data» = management_octets 0 reply }

  abbrev back : Label
  back = record { dpc = its.opc; opc = c.own; sls = its.sls }

  abbrev field : List ℕ
  field = label_octets back ++ sccp_octets (relays.said reply)

  -- it is no news
  no-news : relays.news own its.opc message s.parts.called.ssn ≡ None
  no-news =
      ap (λ (ssn : Option ℕ). if is_some c.timers.sst && relays.is_management ssn then relays.news_in own its.opc (read_management s.parts.data) else None) s.management
      ∙ ap (λ (r : Result ManagementValue SccpFault). if is_some c.timers.sst && true then relays.news_in own its.opc r else None) s.says
      ∙ ap (λ (b : Bool). if is_some c.timers.sst && true then (if b && not (nat_eq its.opc c.own) then Some (relays.news_from its.opc about) else None) else None) (ap relays.is_status s.test)
      ∙ none-or (is_some c.timers.sst) None

  equipped : relays.is_equipped own (Some about.ssn) ≡ true
  equipped = by s.equipped
    where
      by : (about.ssn ≡ 1) ⊎ Contains c.subsystems about.ssn → relays.is_equipped own (Some about.ssn) ≡ true
      by (inl one) =
          ap (λ (b : Bool). b && nat_eq about.ssn 1 || list_any (λ subsystem. nat_eq subsystem about.ssn) c.subsystems) s.answered
          ∙ ap (λ (n : ℕ). nat_eq n 1 || list_any (λ subsystem. nat_eq subsystem about.ssn) c.subsystems) one
      by (inr has) =
          or-listed (c.subsystem_tests && nat_eq about.ssn 1) (list_any (λ subsystem. nat_eq subsystem about.ssn) c.subsystems) (listed about.ssn c.subsystems has)

  its-answer : relays.answer own its message s.parts.called.ssn ≡ Some field
  its-answer =
      ap (λ (ssn : Option ℕ). if c.subsystem_tests && relays.is_management ssn then relays.answer_to own its (read_management s.parts.data) else None) s.management
      ∙ ap (λ (b : Bool). if b && true then relays.answer_to own its (read_management s.parts.data) else None) s.answered
      ∙ ap (λ (r : Result ManagementValue SccpFault). relays.answer_to own its r) s.says
      ∙ ap (λ (k : ManagementKind). if relays.is_test k && nat_eq about.point c.own && relays.is_equipped own (Some about.ssn) && not (nat_eq its.opc c.own) then Some field else None) s.test
      ∙ ap (λ (p : ℕ). if nat_eq p c.own && relays.is_equipped own (Some about.ssn) && not (nat_eq its.opc c.own) then Some field else None) s.point
      ∙ ap (λ (b : Bool). if b && relays.is_equipped own (Some about.ssn) && not (nat_eq its.opc c.own) then Some field else None) (same c.own)
      ∙ ap (λ (b : Bool). if b && not (nat_eq its.opc c.own) then Some field else None) equipped
      ∙ ap (λ (b : Bool). if not b then Some field else None) s.elsewhere

  its-relay : relay own titles m.sif ≡ relays.Onward field
  unfolding relay
  its-relay =
      ap (λ (r : Result SccpValue SccpFault). relays.relay_read own titles its r) s.reads
      ∙ ap (λ (b : Bool). if not b then relays.Refused NotInProfile else relays.relay_by_routing s.parts.called.routing own titles its message) s.connectionless
      ∙ ap (λ (r : Routing). relays.relay_by_routing r own titles its message) s.routed
      ∙ ap (λ (o : Option SubsystemNews). relays.heard_or o (relays.for_subsystem own its message s.parts.called.ssn)) no-news
      ∙ ap (λ (o : Option (List ℕ)). relays.answered_or o (relays.to_subsystem own s.parts.called.ssn)) its-answer

  its-own : (from : Option ℕ) → local whole c from m node ≡ return_refusal whole c m (relay_by whole c (relays.Onward field) m node)
  its-own from =
      let absent : Done WholeQueues = refuse NoUserPart (answer_no_user_part whole c from (destination_place c (opc_of m)) m node) in
      ap (λ (b : Bool). if b then on_unitdata whole c m node else if is_user c (service_indicator m) then answer Local node else absent) s.of_sccp
      ∙ ap (λ (v : RelayedValue). return_refusal whole c m (relay_by whole c v m node)) its-relay

  reads-so : ReadsAsAnswer c its about field
  reads-so = record {
    label = label-back back (sccp_octets (relays.said reply)) (record { dpc = point-fits (label_number m.sif / 2 ^ 14); opc = fits; sls = code-fits (label_number m.sif / 2 ^ 28) });
    parts = parts;
    reads = λ extended. octets-back extended (relays.said reply) tt (record {
      called = record { title_indicator = omega arith; point = tt; ssn = omega arith };
      calling = record { title_indicator = omega arith; point = tt; ssn = omega arith };
    });
    called = record { routed = refl; ssn = refl; point = refl; untitled = refl };
    calling = record { routed = refl; ssn = refl; point = refl; untitled = refl };
    says = read_management-written reply (rw s.point fits);
  }

  pub allowed-back : (from : Option ℕ) → IsAllowedBack c from m about node
  allowed-back from = record { field = field; answers = reads-so; sent = its-own from }

pub tests-answered : subsystem_tests_are_answered
tests-answered c from m about node fits s = allowed-back c m about node fits s from
