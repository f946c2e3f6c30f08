-- A frame that newly carries a message: what it leads to, and the node that the message comes to.
use Rattle.exchange_rules.specs.Reroutings.{first_reroutings}
use Rattle.pair_rules.proofs.Basics.{◌≡◌, ◌&&◌, ℕ, zero, suc, Bool, true, false, not, List, length, Option, Some, None, Result, Ok, Err, refl, subst, ◌∙◌, if◌then◌else◌, sym}
use Rattle.pair_rules.proofs.Definitions.{Message, Ignored, Configuration, FrameValue, EmptyFrame, MessageFrame, StatusFrame, read_frame, Action, UserData, acts_on, SeqFault, Facts, Node, Done, answer, refuse, down, is_link, link_at, WholeQueues, whole, Carrying, accept, accept_data, accept_frame, accept_text, act_by_data, carry, data_of, empty_data, handle_by, message_data, numbers, read, receive, receive_frame, deliver, new_at, new_by, new_in, new_message, new_of, advance, begun_anew_if, enters, enters_traffic, return_if, step_on, loses_flows, hold_flows, code_for, take_back_each, count_confirmed, facts, owing, Parts, with_parts, has_other, in_service, Cause, no_room}
use Rattle.sccp_relay.specs.Statuses.{TitlesValue}
use Rattle.signalling_types.specs.declared.cause.Cause.TheVariants as causes
use Rattle.signalling_types.specs.declared.notice.FrameFault.{FrameFault}
use Rattle.link.specs.declared.action.Action.TheVariants as act
use Rattle.link.specs.declared.action.Transition.{Transition}
use Rattle.exchange_rules.specs.ChangingBack.{declare_by}
use Rattle.exchange_rules.specs.Frames.{moved_on, take_step, test_if}
use Rattle.exchange_rules.specs.LinkTests.{awaiting_test, link_test, queue_if, send_test, tests_links}
use Rattle.exchange_rules.specs.First.{Abstract}

module _ (c : Configuration) (link : ℕ) where
  -- ---- what it comes to is what its message comes to

  module _ (m : Message) (P : Done WholeQueues → Node WholeQueues → Type 0) (delivers : (n : Node WholeQueues) → P (deliver whole c link m n) n) where
    handled-as : (r : Result ℕ SeqFault) (d : Carrying) (n : Node WholeQueues) → new_by r d ≡ Some m → numbers whole c link d n ≡ r
        → P (handle_by whole c r link d n) (accept whole c link d (count_confirmed (numbers whole c link d n)) n)
    handled-as (Ok confirmed) d n e f =
        subst (λ (r : Result ℕ SeqFault). P (handle_by whole c (Ok confirmed) link d n) (accept whole c link d (count_confirmed r) n)) (sym f)
        (subst (λ (o : Option Message). P (carry whole c link o (accept whole c link d confirmed n)) (accept whole c link d confirmed n)) (sym e)
        (delivers (accept whole c link d confirmed n)))
    handled-as (Err fault) d n e f = absurd cc

    acted-as : (a : Action) (d : Carrying) (n : Node WholeQueues) → new_at a link d c n ≡ Some m → P (act_by_data whole c a link d n) (accept_data a link d c n)
    acted-as act.Ignored d n e = absurd cc
    acted-as act.Fail d n e = absurd cc
    acted-as (act.Go step) d n e =
        handled-as (numbers whole c link d (advance whole c link step n)) d (advance whole c link step n) e refl

    framed-as : (frame : FrameValue) (n : Node WholeQueues) → new_in (data_of frame) link c n ≡ Some m → P (receive_frame whole c link frame n) (accept_frame (data_of frame) link c n)
    framed-as (EmptyFrame bsn fsn) n e = acted-as (acts_on (link_at n.parts link) UserData) (empty_data bsn fsn) n e
    framed-as (MessageFrame bsn fsn sio sif) n e = acted-as (acts_on (link_at n.parts link) UserData) (message_data bsn fsn sio sif) n e
    framed-as (StatusFrame bsn fsn status) n e = absurd cc

    abbrev at_rest : Node WholeQueues → Abstract
    at_rest n = record { settings = c; node = n; reroutings = first_reroutings c }

    read-as : (r : Result FrameValue FrameFault) (n : Node WholeQueues) → new_of r link c n ≡ Some m → P (read whole c link r n) (accept_text link r (at_rest n))
    read-as (Ok frame) n e = framed-as frame n e
    read-as (Err fault) n e = absurd cc

    received-by : (l b : Bool) (r : Result FrameValue FrameFault) (n : Node WholeQueues) → (if l && not b then new_of r link c n else None) ≡ Some m
        → P (if l then (if b then answer Ignored n else read whole c link r n) else refuse causes.NoSuchName n) (accept_text link r (at_rest n))
    received-by true true r n e = absurd cc
    received-by true false r n e = read-as r n e
    received-by false b r n e = absurd cc

    pub received-as : (text : List ℕ) (n : Node WholeQueues) → new_message link text (at_rest n) ≡ Some m
        → P (receive whole c link text n) (accept_text link (read_frame text) (at_rest n))
    received-as text n e = received-by (is_link n.parts link) (down n.parts link) (read_frame text) n e

  -- ---- the translation rows stay as they are

  either-titles : (b : Bool) (n o : Node WholeQueues) (rows : TitlesValue) → n.parts.titles ≡ rows → o.parts.titles ≡ rows → (if b then n else o).parts.titles ≡ rows
  either-titles true n o rows e f = e
  either-titles false n o rows e f = f

  declared-titles : (code : Option ℕ) (other : ℕ) (n : Node WholeQueues) → (declare_by whole c code link other n).parts.titles ≡ n.parts.titles
  declared-titles (Some code) other n = refl
  declared-titles None other n = refl

  taken_back-titles : (before after : Facts) (many : ℕ) (n : Node WholeQueues) → (take_back_each whole c before after link many n).parts.titles ≡ n.parts.titles
  unfolding take_back_each
  taken_back-titles before after zero n = refl
  taken_back-titles before after (suc other) n =
      let one : Node WholeQueues = take_back_each whole c before after link other n in
      let e : one.parts.titles ≡ n.parts.titles = taken_back-titles before after other n in
      either-titles (loses_flows c before after other link) (hold_flows whole c before after (code_for whole c link other one) link other one) one n.parts.titles
      (declared-titles (code_for whole c link other one) other one ∙ e) e

  returned-titles : (entered : Bool) (before : Facts) (n : Node WholeQueues) → (return_if whole c entered link before n).parts.titles ≡ n.parts.titles
  returned-titles true before n = taken_back-titles before (facts c n.parts) (length c.links) n
  returned-titles false before n = refl

  queue_if-titles : (room : Option Cause) (n : Node WholeQueues) → (queue_if whole c room link (link_test c link) n).parts.titles ≡ n.parts.titles
  queue_if-titles (Some cause) n = refl
  queue_if-titles None n = refl

  tested-titles : (entered : Bool) (n : Node WholeQueues) → (test_if whole c entered link n).parts.titles ≡ n.parts.titles
  tested-titles true n =
      either-titles (tests_links c && in_service n.parts link) (send_test whole c link n) n n.parts.titles
      (queue_if-titles (no_room whole c (link_test c link) n.queues) (with_parts n (awaiting_test c link n.parts))) refl
  tested-titles false n = refl

  anew-titles : (again : Bool) (step : Transition) (n : Node WholeQueues) → (begun_anew_if again c link (step_on c link step n.parts)).titles ≡ n.parts.titles
  anew-titles true step n = refl
  anew-titles false step n = refl

  owed-titles : (message : Option Message) (p : Parts) → (owing link message p).titles ≡ p.titles
  owed-titles (Some m) p = refl
  owed-titles None p = refl

  acted-titles : (a : Action) (d : Carrying) (n : Node WholeQueues) → (accept_data a link d c n).parts.titles ≡ n.parts.titles
  acted-titles act.Ignored d n = refl
  acted-titles act.Fail d n = refl
  acted-titles (act.Go step) d n =
      owed-titles d.message _
      ∙ tested-titles (enters link step n.parts) (take_step whole c link step n)
      ∙ returned-titles (enters_traffic link step n.parts) (facts c n.parts) (with_parts n (moved_on c link step n.parts))
      ∙ anew-titles (enters_traffic link step n.parts && not (has_other c link n.parts)) step n

  pub accepted-titles : (r : Result FrameValue FrameFault) (n : Node WholeQueues) → (accept_text link r (record { settings = c; node = n; reroutings = first_reroutings c })).parts.titles ≡ n.parts.titles
  accepted-titles (Ok (EmptyFrame bsn fsn)) n = acted-titles (acts_on (link_at n.parts link) UserData) (empty_data bsn fsn) n
  accepted-titles (Ok (MessageFrame bsn fsn sio sif)) n = acted-titles (acts_on (link_at n.parts link) UserData) (message_data bsn fsn sio sif) n
  accepted-titles (Ok (StatusFrame bsn fsn status)) n = refl
  accepted-titles (Err fault) n = refl
