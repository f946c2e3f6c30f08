-- A message that says something of a subsystem at another point, and is heard, changes what is known by that alone.
use Rattle.exchange_rules.proofs.Basics.{◌≡◌, ℕ, Bool, true, false, ◌&&◌, not, nat_eq, Option, Some, None, Result, Ok, Err, refl, ap, sym, subst, ◌∙◌, ⊎_elim, arith, nat_tests, and_parts, eqb-true, if◌then◌else◌, drop, is_some}
use Rattle.exchange_rules.proofs.Definitions.{acts_on, Action, UserData, SeqFault, EmptyFrame, FrameValue, MessageFrame, StatusFrame, read_frame, Discrimination, Configuration, TitlesValue, Message, is_management, service_indicator, FrameFault, Ignored, Carrying, accept, act_by_data, carry, empty_data, handle_by, message_data, numbers, read, timed_parts, down, is_link, link_at, distribute, local, manage, sccp, deliver_to, submit_to, whither_goes, WholeQueues, whole, new_at, new_by, new_of, Parts, Done, Node, answer, refuse, note_refusal, owing, advance, FrameCame, Submitted, receive}
use Rattle.link.specs.declared.action.Action.TheVariants as act
use Rattle.mtp3_codec.specs.declared.discrimination.Discrimination.TheVariants as whither
use Rattle.mtp3_codec.specs.Headings.{label_at}
use Rattle.signalling_types.specs.declared.cause.Cause.TheVariants as causes
use Rattle.sccp_codec.specs.declared.address.Routing.{Routing}
use Rattle.sccp_codec.specs.declared.address.Routing.TheVariants.{Ssn, Title}
use Rattle.sccp_codec.specs.declared.fault.SccpFault.{SccpFault}
use Rattle.sccp_codec.specs.Management.{ManagementValue, read_management}
use Rattle.sccp_codec.specs.Messages.{PartsValue, UdtValue, UdtsValue, is_by_ssn}
use Rattle.sccp_relay.specs.Relay as relays
use Rattle.sccp_relay.specs.Relay.{is_status, news_from, prohibits}
use Rattle.sccp_relay.specs.Sccp.{Extended, Plain, SccpValue, is_class_connectionless, read_sccp}
use Rattle.sccp_relay.specs.Statuses.{heard}
use Rattle.exchange_rules.specs.LawsOfMessages.{goes_here, is_heard_here, says_in, says_status}
use Rattle.exchange_rules.specs.LawsOfSubsystems.{Says, news_say_what_came, what_is_heard_changes_titles}
use Rattle.exchange_rules.specs.Messages.{sst_ticks}
use Rattle.exchange_rules.proofs.KeptTitles.{after-same, alters-deeds, late-same}
use Rattle.exchange_rules.proofs.Steps.{Deed}
use Rattle.exchange_rules.proofs.SteppingLinks.{advance-steps}
use Rattle.exchange_rules.proofs.Subsystems.{is-heard}

-- ---- what news say

pub say-what-came : news_say_what_came
say-what-came sender about = record {
  from = refl;
  subsystem = refl;
  ssp = λ e. ap prohibits e;
  ssa = λ e. ap prohibits e;
}

-- ---- a message that is heard says something

record Speaks (c : Configuration) (m : Message) : Type 0 where
  about : ManagementValue
  says : Says c m about

module _ (c : Configuration) (m : Message) (on : is_some c.timers.sst ≡ true) (its : nat_eq (service_indicator m) sccp ≡ true) where
  by-number : (routing : Routing) → is_by_ssn routing ≡ true → routing ≡ Ssn
  by-number Ssn e = refl
  by-number Title e = absurd cc

  to-management : (ssn : Option ℕ) → relays.is_management ssn ≡ true → ssn ≡ Some 1
  to-management None e = absurd cc
  to-management (Some ssn) e = ap (λ (n : ℕ). Some n) (eqb-true ssn 1 e)

  not-so : (b : Bool) → not b ≡ true → b ≡ false
  not-so false e = refl
  not-so true e = absurd cc

  in-unitdata : (class_octet : ℕ) (parts : PartsValue) (r : Result ManagementValue SccpFault)
      → read_sccp c.extended_unitdata (drop 4 m.sif) ≡ Ok (Plain (UdtValue class_octet parts)) → read_management parts.data ≡ r
      → ((is_class_connectionless class_octet && is_by_ssn parts.called.routing) && (relays.is_management parts.called.ssn && says_in c (label_at m.sif).opc r)) ≡ true
      → Speaks c m
  in-unitdata class_octet parts (Err fault) e f g =
      let one = and_parts (is_class_connectionless class_octet && is_by_ssn parts.called.routing) (relays.is_management parts.called.ssn && false) g in
      let two = and_parts (relays.is_management parts.called.ssn) false one.1 in
      (let no : false ≡ true = two.1 in absurd cc)
  in-unitdata class_octet parts (Ok about) e f g =
      let one = and_parts (is_class_connectionless class_octet && is_by_ssn parts.called.routing) (relays.is_management parts.called.ssn && says_in c (label_at m.sif).opc (Ok about)) g in
      let two = and_parts (is_class_connectionless class_octet) (is_by_ssn parts.called.routing) one.0 in
      let three = and_parts (relays.is_management parts.called.ssn) (says_in c (label_at m.sif).opc (Ok about)) one.1 in
      let four = and_parts (is_status about.kind) (not (nat_eq (label_at m.sif).opc c.own)) three.1 in
      record {
        about = about;
        says = record {
          heard_here = on;
          of_sccp = its;
          class_octet = class_octet;
          parts = parts;
          reads = e;
          connectionless = two.0;
          routed = by-number parts.called.routing two.1;
          management = to-management parts.called.ssn three.0;
          elsewhere = not-so (nat_eq (label_at m.sif).opc c.own) four.1;
          says = f;
          status = four.0;
        };
      }

  in-message : (r : Result SccpValue SccpFault) → read_sccp c.extended_unitdata (drop 4 m.sif) ≡ r → says_status c (label_at m.sif).opc r ≡ true → Speaks c m
  in-message (Ok (Plain (UdtValue class_octet parts))) e f = in-unitdata class_octet parts (read_management parts.data) e refl f
  in-message (Ok (Plain (UdtsValue return_cause parts))) e f = absurd cc
  in-message (Ok (Extended extended)) e f = absurd cc
  in-message (Err fault) e f = absurd cc

speaks : (c : Configuration) (m : Message) → is_heard_here c m ≡ true → Speaks c m
speaks c m e =
    let r : Result SccpValue SccpFault = read_sccp c.extended_unitdata (drop 4 m.sif) in
    let one = and_parts (nat_eq (service_indicator m) sccp) (is_some c.timers.sst && says_status c (label_at m.sif).opc r) e in
    let two = and_parts (is_some c.timers.sst) (says_status c (label_at m.sif).opc r) one.1 in
    in-message c m two.0 one.0 r refl two.1

-- ---- and it is handled by what it says

-- anything but rows and subsystems may change
abbrev Nothing : Deed → Type 0
Nothing deed = ⊥

module _ (c : Configuration) (m : Message) (about : ManagementValue) (says : Says c m about) where
  abbrev known : TitlesValue → TitlesValue
  known titles = heard (sst_ticks c) (news_from (label_at m.sif).opc about) titles

  abbrev Knows : Node WholeQueues → Node WholeQueues → Type 0
  Knows n o = o.parts.titles ≡ known n.parts.titles

  -- it is no management
  user : is_management m ≡ false
  user =
      let is : service_indicator m ≡ 3 = eqb-true (service_indicator m) 3 says.of_sccp in
      grind (arith, nat_tests, is)

  local-knows : (from : Option ℕ) (n : Node WholeQueues) → Knows n (local whole c from m n).left
  local-knows from n = ap (λ (d : Done WholeQueues). d.left.parts.titles) (is-heard c from m about n says)

  here-knows : (link : ℕ) (n : Node WholeQueues) → Knows n (note_refusal link (distribute whole c link m n)).left
  here-knows link n =
      ap (λ (b : Bool). (note_refusal link (if b then manage whole c link m n else local whole c (Some link) m n)).left.parts.titles) user
      ∙ ap (λ (d : Done WholeQueues). (note_refusal link d).left.parts.titles) (is-heard c (Some link) m about n says)

  deliver-knows : (d : Discrimination) (link : ℕ) (n : Node WholeQueues) → goes_here d ≡ true → Knows n (note_refusal link (deliver_to whole c d link m n)).left
  deliver-knows (whither.Refused cause) link n e = absurd cc
  deliver-knows (whither.Here label) link n e = here-knows link n
  deliver-knows (whither.Transfer label) link n e = absurd cc

  submit-knows : (d : Discrimination) (n : Node WholeQueues) → goes_here d ≡ true → Knows n (submit_to whole c d m n).left
  submit-knows (whither.Refused cause) n e = absurd cc
  submit-knows (whither.Here label) n e =
      ap (λ (b : Bool). (if b then refuse causes.NotInProfile n else local whole c None m n).left.parts.titles) user ∙ local-knows None n
  submit-knows (whither.Transfer label) n e = absurd cc

  module _ (link : ℕ) (here : goes_here (whither_goes c m) ≡ true) where
    carry-knows : (o : Option Message) (n : Node WholeQueues) → o ≡ Some m → Knows n (carry whole c link o n).left
    carry-knows None n e = absurd cc
    carry-knows (Some x) n e =
        let same : x ≡ m = ap (λ (o : Option Message). as_message x o) e in
        subst (λ (y : Message). Knows n (carry whole c link (Some y) n).left) (sym same) (deliver-knows (whither_goes c m) link n here)
      where
        as_message : Message → Option Message → Message
        as_message other (Some its) = its
        as_message other None = other

    owing-same : (o : Option Message) (p : Parts) → (owing link o p).titles ≡ p.titles
    owing-same None p = refl
    owing-same (Some x) p = refl

    handle-knows : (r : Result ℕ SeqFault) (d : Carrying) (n : Node WholeQueues) → new_by r d ≡ Some m → Knows n (handle_by whole c r link d n).left
    handle-knows (Ok count) d n e =
        let next : Node WholeQueues = accept whole c link d count n in
        carry-knows d.message next e ∙ ap known (owing-same d.message (timed_parts c link count (whole.outstanding next.queues link) n.parts))
    handle-knows (Err fault) d n e = absurd cc

    act-knows : (a : Action) (d : Carrying) (n : Node WholeQueues) → acts_on (link_at n.parts link) UserData ≡ a → new_at a link d c n ≡ Some m
        → Knows n (act_by_data whole c a link d n).left
    act-knows act.Ignored d n e f = absurd cc
    act-knows act.Fail d n e f = absurd cc
    act-knows (act.Go step) d n e f =
        let next : Node WholeQueues = advance whole c link step n in
        let same : next.parts.titles ≡ n.parts.titles =
        ⊎_elim (λ (no : ⊥). absurd no) (λ (e : next.parts.titles ≡ n.parts.titles). e) (advance-steps (alters-deeds c Nothing) link UserData step n tt e).is in
        handle-knows (numbers whole c link d next) d next f ∙ ap known same

    frame-knows : (r : Result FrameValue FrameFault) (n : Node WholeQueues) → new_of r link c n ≡ Some m → Knows n (read whole c link r n).left
    frame-knows (Ok (EmptyFrame bsn fsn)) n e = act-knows (acts_on (link_at n.parts link) UserData) (empty_data bsn fsn) n refl e
    frame-knows (Ok (MessageFrame bsn fsn sio sif)) n e = act-knows (acts_on (link_at n.parts link) UserData) (message_data bsn fsn sio sif) n refl e
    frame-knows (Ok (StatusFrame bsn fsn status)) n e = absurd cc
    frame-knows (Err fault) n e = absurd cc

    receive-knows : (is_there is_down : Bool) (r : Result FrameValue FrameFault) (n : Node WholeQueues) → (if is_there && not is_down then new_of r link c n else None) ≡ Some m
        → Knows n (if is_there then (if is_down then answer Ignored n else read whole c link r n) else refuse causes.NoSuchName n).left
    receive-knows false is_down r n e = absurd cc
    receive-knows true true r n e = absurd cc
    receive-knows true false r n e = frame-knows r n e

pub heard-changes : what_is_heard_changes_titles
heard-changes m a is =
    let c : Configuration = a.settings in
    let n : Node WholeQueues = a.node in
    let parts = and_parts (goes_here (whither_goes c m)) (is_heard_here c m) is in
    let s : Speaks c m = speaks c m parts.1 in
    record {
      framed = λ link text e. record {
        about = s.about;
        says = s.says;
        is = after-same c (FrameCame link text) n ∙ late-same c (receive whole c link text n).outcome (receive whole c link text n).left ∙ receive-knows c m s.about s.says link parts.0 (is_link n.parts link) (down n.parts link) (read_frame text) n e;
      };
      submitted = record {
        about = s.about;
        says = s.says;
        is = after-same c (Submitted m) n ∙ submit-knows c m s.about s.says (whither_goes c m) n parts.0;
      };
    }
