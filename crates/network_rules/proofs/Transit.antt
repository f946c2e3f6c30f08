-- A message for another point is queued, held or refused by the node to which it comes.
use Rattle.exchange_rules.specs.Reroutings.{first_reroutings}
use Rattle.exchange_rules.proofs.Basics.{◌≡◌, ◌&&◌, ℕ, Bool, true, false, not, List, [], ◌∷◌, ◌++◌, Option, Some, None, Result, Ok, Err, refl, ap, sym, subst, ◌∙◌, if◌then◌else◌, option_to_list, append-nil}
use Rattle.std.proofs.Common.{map}
use Rattle.exchange_rules.proofs.Definitions.{acts_on, Action, UserData, SeqFault, EmptyFrame, FrameValue, MessageFrame, StatusFrame, read_frame, Discrimination, Configuration, Message, dpc_of, flow_of, Cause, FrameFault, is_destination, offer, transfer, apply, Carrying, accept, act_by_data, carry, empty_data, handle_by, message_data, numbers, read, waits, down, is_link, link_at, deliver_to, whither_goes, no_room_for, WholeQueues, whole, new_at, new_by, new_of, new_message, link_of, Done, Node, answer, refuse, advance, FrameCame, brought_in, brought_by, brought_to, taken_in, accept_text}
use Rattle.changeover.specs.Changeover.{users_of}
use Rattle.link.specs.declared.action.Action.TheVariants as act
use Rattle.signalling_types.specs.declared.cause.Cause.TheVariants as causes
use Rattle.signalling_types.specs.declared.outcome.Outcome.{Outcome}
use Rattle.signalling_types.specs.declared.outcome.Outcome.TheVariants.{Handled, Held, Ignored, Local, Queued, Refused}
use Rattle.mtp3_codec.specs.declared.discrimination.Discrimination.TheVariants as whither
use Rattle.mtp3_codec.specs.declared.label.Label.{Label}
use Rattle.exchange_rules.specs.Exchange.{outcome_of}
use Rattle.pair_rules.specs.Pairs.{Delivers, without_data}
use Rattle.network_rules.specs.Networks.{NetworkNode, deliver_frame, did_here, entered_by, is_onward, is_refused, refused_by}
use Rattle.network_rules.specs.Transit.{IsTakenOn, PassesThrough, messages_pass_through}
use Rattle.network_rules.proofs.Places.{node-same}
use Rattle.network_rules.proofs.Texts.{same-some}

-- queued, held or refused
abbrev pub goes_on : Outcome → Bool
goes_on (Queued link) = true
goes_on Held = true
goes_on (Refused cause) = true
goes_on Local = false
goes_on Handled = false
goes_on Ignored = false

module _ (c : Configuration) (n : Node WholeQueues) where
  offer-goes : (room : Option Cause) (waiting : Bool) (link from : Option ℕ) (m : Message) → goes_on (offer whole c room waiting link from m n).outcome ≡ true
  offer-goes (Some cause) waiting link from m = refl
  offer-goes None true link from m = refl
  offer-goes None false None from m = refl
  offer-goes None false (Some link) from m = refl

  either-goes : (b : Bool) (d e : Done WholeQueues) → goes_on d.outcome ≡ true → goes_on e.outcome ≡ true → goes_on (if b then d else e).outcome ≡ true
  either-goes true d e f g = f
  either-goes false d e f g = g

  transfer-goes : (from : Option ℕ) (m : Message) → goes_on (transfer whole c from m n).outcome ≡ true
  transfer-goes from m =
      let link : Option ℕ = link_of c n.parts (flow_of m) in
      let offered : Done WholeQueues = offer whole c (no_room_for whole c m n) (waits c n.parts.holds m) link from m n in
      either-goes (is_destination c (dpc_of m)) offered (refuse causes.UnknownDestination n)
      (offer-goes (no_room_for whole c m n) (waits c n.parts.holds m) link from m) refl

-- ---- a frame that newly carries it

module _ (c : Configuration) (link : ℕ) (m : Message) (label : Label) (away : whither_goes c m ≡ whither.Transfer label) where
  carry-goes : (o : Option Message) (n : Node WholeQueues) → o ≡ Some m → goes_on (carry whole c link o n).outcome ≡ true
  carry-goes None n e = absurd cc
  carry-goes (Some x) n e =
      subst (λ (y : Message). goes_on (carry whole c link (Some y) n).outcome ≡ true) (sym (same-some x m e))
      (ap (λ (d : Discrimination). goes_on (deliver_to whole c d link m n).outcome) away ∙ transfer-goes c n (Some link) m)

  handle-goes : (r : Result ℕ SeqFault) (d : Carrying) (n : Node WholeQueues) → new_by r d ≡ Some m → goes_on (handle_by whole c r link d n).outcome ≡ true
  handle-goes (Ok count) d n e = carry-goes d.message (accept whole c link d count n) e
  handle-goes (Err fault) d n e = absurd cc

  act-goes : (a : Action) (d : Carrying) (n : Node WholeQueues) → new_at a link d c n ≡ Some m → goes_on (act_by_data whole c a link d n).outcome ≡ true
  act-goes act.Ignored d n e = absurd cc
  act-goes act.Fail d n e = absurd cc
  act-goes (act.Go step) d n e = (let next : Node WholeQueues = advance whole c link step n in handle-goes (numbers whole c link d next) d next e)

  frame-goes : (r : Result FrameValue FrameFault) (n : Node WholeQueues) → new_of r link c n ≡ Some m → goes_on (read whole c link r n).outcome ≡ true
  frame-goes (Ok (EmptyFrame bsn fsn)) n e = act-goes (acts_on (link_at n.parts link) UserData) (empty_data bsn fsn) n e
  frame-goes (Ok (MessageFrame bsn fsn sio sif)) n e = act-goes (acts_on (link_at n.parts link) UserData) (message_data bsn fsn sio sif) n e
  frame-goes (Ok (StatusFrame bsn fsn status)) n e = absurd cc
  frame-goes (Err fault) n e = absurd cc

  receive-goes : (is_there is_down : Bool) (r : Result FrameValue FrameFault) (n : Node WholeQueues) → (if is_there && not is_down then new_of r link c n else None) ≡ Some m
      → goes_on (if is_there then (if is_down then answer Ignored n else read whole c link r n) else refuse causes.NoSuchName n).outcome ≡ true
  receive-goes false is_down r n e = absurd cc
  receive-goes true true r n e = absurd cc
  receive-goes true false r n e = frame-goes r n e

  pub frame-outcome : (n : Node WholeQueues) (text : List ℕ) → new_message link text (record { settings = c; node = n; reroutings = first_reroutings c }) ≡ Some m
      → goes_on (outcome_of whole (FrameCame link text) (record { settings = c; node = n; reroutings = first_reroutings c })) ≡ true
  unfolding apply
  frame-outcome n text e = receive-goes (is_link n.parts link) (down n.parts link) (read_frame text) n e

-- ---- what is booked

taken-by : (o : Outcome) (m : Message) (ms : List Message) → goes_on o ≡ true → IsTakenOn o m ms (ms ++ taken_in o m)
taken-by (Queued link) m ms e = refl
taken-by Held m ms e = refl
taken-by (Refused cause) m ms e = append-nil ms
taken-by Local m ms e = absurd cc
taken-by Handled m ms e = absurd cc
taken-by Ignored m ms e = absurd cc

module _ (x : NetworkNode) (link : ℕ) (text : List ℕ) (m : Message) (label : Label) (new : new_message link text x.exchange ≡ Some m)
    (away : whither_goes x.exchange.settings m ≡ whither.Transfer label) where
  abbrev outcome : Outcome
  outcome = outcome_of whole (FrameCame link text) x.exchange

  brings : brought_in (FrameCame link text) x.exchange ≡ taken_in outcome m
  brings =
      ap (λ (o : Option Message). brought_by o outcome x.exchange.settings (accept_text link (read_frame text) x.exchange)) new
      ∙ ap (λ (d : Discrimination). brought_to d outcome x.exchange.settings m (accept_text link (read_frame text) x.exchange)) away

  passes : PassesThrough outcome link m x (deliver_frame (Some text) link (without_data link x.incoming) x)
  passes = record {
    arrived = ap (λ (o : Option Message). x.arrived ++ map (λ (k : Message). record { link = link; message = k }) (option_to_list o)) new;
    accepted =
        subst (λ (ms : List Message). IsTakenOn outcome m x.accepted (x.accepted ++ ms)) (sym brings)
        (taken-by outcome m x.accepted (frame-outcome x.exchange.settings link m label away x.exchange.node text new));
    entered =
        ap (λ (o : Option Message). x.entered ++ entered_by o x.exchange.settings (brought_in (FrameCame link text) x.exchange)) new
        ∙ ap (λ (d : Discrimination). x.entered ++ (if is_onward d then [] else brought_in (FrameCame link text) x.exchange)) away
        ∙ append-nil x.entered;
    refused =
        ap (λ (o : Option Message). x.refused ++ refused_by o x.exchange.settings outcome) new
        ∙ ap (λ (d : Discrimination). x.refused ++ (if is_onward d && is_refused outcome then users_of (m ∷ []) else [])) away;
  }

pub through : messages_pass_through
through w point link text m label e new away =
    let x : NetworkNode = w.node point in
    subst (PassesThrough (outcome_of whole (FrameCame link text) x.exchange) link m x) (sym (node-same point (did_here (Delivers link)) w))
    (subst (λ (o : Option (List ℕ)). PassesThrough (outcome_of whole (FrameCame link text) x.exchange) link m x (deliver_frame o link (without_data link x.incoming) x)) (sym e)
    (passes x link text m label new away))
