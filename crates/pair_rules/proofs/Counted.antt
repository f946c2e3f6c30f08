-- A message that SCCP refuses adds to the user messages after a number: one, if the UDTS that returns it is in a queue
-- or in Held.
use Rattle.exchange_rules.specs.Exchange.{leaving}
use Rattle.exchange_rules.specs.Reroutings.{first_reroutings}
use Rattle.pair_rules.proofs.Basics.{◌≡◌, ◌≤◌, ◌<◌, ◌+◌, ◌-◌, ◌&&◌, ℕ, Bool, true, false, not, List, [], ◌∷◌, ◌++◌, length, drop, Option, Some, None, Result, Ok, Err, refl, ap, sym, subst, ◌∙◌, nat_eq, arith, if◌then◌else◌, get_or-set_other, get_or-set_same}
use Rattle.pair_rules.proofs.Definitions.{Message, dpc_of, flow_of, service_indicator, Cause, Refused, Configuration, FrameValue, EmptyFrame, MessageFrame, StatusFrame, read_frame, Action, UserData, acts_on, SeqFault, Queue, IsQueue, after_answer, appended, count_confirmed, first_queue, named_count, Discrimination, Node, FrameCame, Submitted, WholeQueues, whole, queue_at, queue_on, no_room_for, link_of, waits, Carrying, Fits, accept, accept_data, accept_text, carries, empty_data, message_data, numbers, is_link, down, link_at, new_at, new_by, new_message, new_of, advance, outcome_of, after, sccp, whither_goes, taken_in, Done, refuse, fit-steps, in_service, confirming, owing-steps, advance-serves, data-serves}
use Rattle.std.specs.Option.{option_map}
use Rattle.std.specs.Prelude.{unwrap_or}
use Rattle.signalling_types.specs.declared.cause.Cause.TheVariants as causes
use Rattle.link.specs.declared.fault.SeqFault.TheVariants.{BadFsn}
use Rattle.exchange_rules.proofs.Moves.{serving-there}
use Rattle.exchange_rules.proofs.Rules.{rules-of}
use Rattle.exchange_rules.proofs.SteppingLinks.{advance-steps}
use Rattle.signalling_types.specs.declared.notice.FrameFault.{FrameFault}
use Rattle.link.specs.declared.action.Action.TheVariants as act
use Rattle.link.proofs.Naming.{finds_named}
use Rattle.link.specs.Queue.{Names, newly_confirmed, confirmation, expected}
use Rattle.link.specs.Queue as queue
use Rattle.mtp3_codec.specs.declared.discrimination.Discrimination.TheVariants as whither
use Rattle.mtp3_codec.specs.declared.label.Label.{Label}
use Rattle.sccp_relay.specs.Returning.{returned}
use Rattle.exchange_rules.specs.Messages.{is_destination, offer, transfer, in_place_of, own_of, return_unitdata, send_udts}
use Rattle.exchange_rules.specs.Conserving.{returned_in}
use Rattle.exchange_rules.specs.Laws.{answered, answered_by, no_part_answered, carried_message, noted}
use Rattle.exchange_rules.specs.Telling.{tell_owed}
use Rattle.exchange_rules.specs.First.{Abstract, IsSound}
use Rattle.exchange_rules.proofs.CarriedMessages.{new-carried}
use Rattle.exchange_rules.proofs.Leaving.{refused_leaves}
use Rattle.exchange_rules.proofs.LeavingMessages.{chosen_serves}
use Rattle.exchange_rules.proofs.Lists.{alike-at}
use Rattle.pair_moves.specs.Laws.{sum_to}
use Rattle.pair_moves.proofs.Counts.{count-append, sum-but}
use Rattle.pair_rules.specs.Promises.{user}
use Rattle.pair_rules.proofs.Behind.{Same, T, advance-same, as-many, behind_at, behind_number, both, links, on, one-more, standing_behind, tell_owed-same, users}

module _ (number : ℕ) (c : Configuration) where
  -- ---- a message for another point is one more, where it is taken in

  queued-more : (link : ℕ) (m : Message) (n : Node WholeQueues) (w : ℕ) → link < links number c → link < length n.queues.links → IsQueue w (queue_at n.queues link) → T number c (queue_on whole c link m n) ≡ T number c n + users (m ∷ [])
  queued-more link m n w l there h =
      let q : Queue = queue_at n.queues link in
      let o : Node WholeQueues = queue_on whole c link m n in
      let here : behind_at number o.queues link ≡ behind_at number n.queues link + users (m ∷ []) =
      ap (on number c) (get_or-set_same n.queues.links link (appended q m) first_queue there)
      ∙ one-more (unwrap_or (named_count q number) q.confirmed) q.all m (within q w h (named_count q number) refl) in
      let others : sum_to (behind_at number o.queues) (links number c) + behind_at number n.queues link ≡ sum_to (behind_at number n.queues) (links number c) + behind_at number o.queues link =
      sum-but (behind_at number n.queues) (behind_at number o.queues) (links number c) link l
      (λ k d. ap (on number c) (get_or-set_other n.queues.links link k (appended q m) first_queue d)) in
      sums (sum_to (behind_at number o.queues) (links number c)) (sum_to (behind_at number n.queues) (links number c)) (behind_at number n.queues link) (behind_at number o.queues link) (users (m ∷ [])) (users n.queues.held) here others
    where
      sums : (s t x y k h : ℕ) → y ≡ x + k → s + x ≡ t + y → s + h ≡ t + h + k
      sums s t x y k h e f = omega (arith, e, f)

      within : (q : Queue) (w : ℕ) → IsQueue w q → (o : Option ℕ) → named_count q number ≡ o → unwrap_or o q.confirmed ≤ length q.all
      within q w h (Some k) e = omega (arith, ((finds_named w q number k h).0 e).to_sent, h.sent)
      within q w h None e = omega (arith, h.confirmed, h.sent)

  held-more : (m : Message) (n : Node WholeQueues) → sum_to (behind_at number n.queues) (links number c) + users (n.queues.held ++ m ∷ []) ≡ T number c n + users (m ∷ [])
  held-more m n = omega (arith, count-append (user (λ x. true)) n.queues.held (m ∷ []))

  none-more : (k : ℕ) → k ≡ k + 0
  none-more k = omega arith

  offer-more : (room : Option Cause) (b : Bool) (link : Option ℕ) (m : Message) (n : Node WholeQueues) → Fits c n → link_of c n.parts (flow_of m) ≡ link
      → T number c (offer whole c room b link None m n).left ≡ T number c n + users (taken_in (offer whole c room b link None m n).outcome m)
  offer-more (Some cause) b link m n f e = none-more (T number c n)
  offer-more None true link m n f e = held-more m n
  offer-more None false None m n f e = none-more (T number c n)
  offer-more None false (Some link) m n f e =
      let there : link < length n.parts.links = serving-there n.parts link (chosen_serves c n.parts (flow_of m) link e) in
      queued-more link m n c.window (subst (λ (k : ℕ). link < k) f.places.parts.links there) (omega (arith, there, f.places.parts.links, f.places.queues)) (f.queues.each link)

  transfer-more : (m : Message) (n : Node WholeQueues) → Fits c n → T number c (transfer whole c None m n).left ≡ T number c n + users (taken_in (transfer whole c None m n).outcome m)
  transfer-more m n f = by (is_destination c (dpc_of m))
    where
      into : Done WholeQueues
      into = offer whole c (no_room_for whole c m n) (waits c n.parts.holds m) (link_of c n.parts (flow_of m)) None m n

      by : (b : Bool) → T number c (if b then into else refuse causes.UnknownDestination n).left ≡ T number c n + users (taken_in (if b then into else refuse causes.UnknownDestination n).outcome m)
      by true = offer-more (no_room_for whole c m n) (waits c n.parts.holds m) (link_of c n.parts (flow_of m)) m n f refl
      by false = none-more (T number c n)

  udts-more : (udts : Option (List ℕ)) (m : Message) (n : Node WholeQueues) → Fits c n → T number c (send_udts whole c udts m n) ≡ T number c n + users (returned_in udts c m n)
  udts-more (Some sif) m n f = transfer-more (in_place_of m sif) n f
  udts-more None m n f = none-more (T number c n)

  -- what answers a message of SCCP for this point that is refused for a cause
  answered-more : (cause : Cause) (from : Option ℕ) (m : Message) (label : Label) (n : Node WholeQueues) → Fits c n → whither_goes c m ≡ whither.Here label → nat_eq (service_indicator m) sccp ≡ true
      → T number c (answered cause from (Some m) c n) ≡ T number c n + users (returned_in (returned (own_of c n.parts) n.parts.titles m.sif cause) c m n)
  answered-more cause from m label n f here is =
      ap (λ (d : Discrimination). T number c (answered_by d cause from m c n)) here
      ∙ ap (λ (b : Bool). T number c (if b then return_unitdata whole c cause m n else no_part_answered cause from m c n)) is
      ∙ udts-more (returned (own_of c n.parts) n.parts.titles m.sif cause) m n f

-- ---- a submission

pub submission-counts : (number : ℕ) (a : Abstract) (cause : Cause) (m : Message) (label : Label) → IsSound a → Fits a.settings a.node → outcome_of whole (Submitted m) a ≡ Refused cause
    → whither_goes a.settings m ≡ whither.Here label → nat_eq (service_indicator m) sccp ≡ true
    → standing_behind number (length a.settings.links) (after whole (Submitted m) a).node.queues
    ≡ standing_behind number (length a.settings.links) a.node.queues + users (returned_in (returned (own_of a.settings a.node.parts) a.node.parts.titles m.sif cause) a.settings m a.node)
submission-counts number a cause m label sound f e here is =
    ap (λ (x : Abstract). standing_behind number (length a.settings.links) x.node.queues) (refused_leaves (Submitted m) a cause sound e)
    ∙ answered-more number a.settings cause None m label a.node f here is

-- ---- a frame

-- the number with which a frame confirms
abbrev pub confirming_number : Result FrameValue FrameFault → ℕ
confirming_number (Ok (EmptyFrame bsn fsn)) = bsn
confirming_number (Ok (MessageFrame bsn fsn sio sif)) = bsn
confirming_number (Ok (StatusFrame bsn fsn status)) = bsn
confirming_number (Err fault) = 0

-- a number that names a count names it still, once that is confirmed
module _ (w : ℕ) (q : Queue) (h : IsQueue w q) (bsn : ℕ) (carries : Bool) where
  confirmed-behind : (o : Option ℕ) (count : ℕ) → named_count q bsn ≡ o → confirmation (option_map (λ n. n - q.confirmed) o) ≡ Ok count
      → behind_number bsn (after_answer q carries (Ok count)) ≡ behind_number bsn q
  confirmed-behind None count e f = absurd cc
  confirmed-behind (Some n) count e f =
      let names : Names q bsn n = (finds_named w q bsn n h).0 e in
      let same : n - q.confirmed ≡ count = cc in
      let now : q.confirmed + count ≡ n = omega (arith, names.from_confirmed, same) in
      let next : Queue = after_answer q carries (Ok count) in
      let sound : IsQueue w next = record { confirmed = omega (arith, now, names.to_sent); sent = h.sent; window = omega (arith, now, names.from_confirmed, h.window); limit = h.limit } in
      let still : named_count next bsn ≡ Some n =
      (finds_named w next bsn n sound).1 (record { from_confirmed = omega (arith, now); to_sent = names.to_sent; number = names.number }) in
      ap (λ (o : Option ℕ). drop (unwrap_or o next.confirmed) q.all) still ∙ ap (λ (o : Option ℕ). drop (unwrap_or o q.confirmed) q.all) (sym e)

  accepted-behind : (b : Bool) (count : ℕ) (fsn : ℕ) → (if b then confirmation (newly_confirmed q bsn) else Err BadFsn) ≡ Ok count
      → behind_number bsn (after_answer q carries (Ok count)) ≡ behind_number bsn q
  accepted-behind true count fsn e = confirmed-behind (named_count q bsn) count refl e
  accepted-behind false count fsn e = absurd cc

module _ (c : Configuration) (link : ℕ) where
  accept-same : (d : Carrying) (r : Result ℕ SeqFault) (m : Message) (n : Node WholeQueues) → IsQueue c.window (queue_at n.queues link) → numbers whole c link d n ≡ r → new_by r d ≡ Some m
      → Same d.bsn c n (accept whole c link d (count_confirmed (numbers whole c link d n)) n)
  accept-same d (Ok count) m n h e f = record {
    held = refl;
    each = λ other.
        let q : Queue = queue_at n.queues link in
        alike-at (λ (x : Queue). users (behind_number d.bsn x)) n.queues.links link other (queue.accepted q d.fsn d.bsn (carries d)) first_queue
        (ap (λ (r : Result ℕ SeqFault). users (behind_number d.bsn (after_answer q (carries d) r))) e
        ∙ ap users (accepted-behind c.window q h d.bsn (carries d) (nat_eq d.fsn (expected q (carries d))) count d.fsn e));
  }
  accept-same d (Err fault) m n h e f = absurd cc

  data-same : (a : Action) (d : Carrying) (m : Message) (n : Node WholeQueues) → Fits c n → acts_on (link_at n.parts link) UserData ≡ a → new_at a link d c n ≡ Some m
      → Same d.bsn c n (accept_data a link d c n)
  data-same act.Ignored d m n f at e = absurd cc
  data-same act.Fail d m n f at e = absurd cc
  data-same (act.Go step) d m n f at e =
      let next : Node WholeQueues = advance whole c link step n in
      both d.bsn c n next (accept_data (act.Go step) link d c n) (advance-same d.bsn c link step n)
      (accept-same d (numbers whole c link d next) m next (((advance-steps (rules-of (fit-steps c)) link UserData step n tt at).stay f).queues.each link) refl e)

  handled-fits : (r : Result ℕ SeqFault) (d : Carrying) (m : Message) (n : Node WholeQueues) → Fits c n → in_service n.parts link ≡ true → numbers whole c link d n ≡ r → new_by r d ≡ Some m
      → Fits c (accept whole c link d (count_confirmed (numbers whole c link d n)) n)
  handled-fits (Ok count) d m n f serves e g =
      subst (λ (r : Result ℕ SeqFault). Fits c (accept whole c link d (count_confirmed r) n)) (sym e)
      ((owing-steps (rules-of (fit-steps c)) link d.message (confirming c link d count n)).stay (((fit-steps c).accepted link d count n tt serves e).stay f))
  handled-fits (Err fault) d m n f serves e g = absurd cc

  data-fits : (a : Action) (d : Carrying) (m : Message) (n : Node WholeQueues) → Fits c n → acts_on (link_at n.parts link) UserData ≡ a → new_at a link d c n ≡ Some m
      → Fits c (accept_data a link d c n)
  data-fits act.Ignored d m n f at e = absurd cc
  data-fits act.Fail d m n f at e = absurd cc
  data-fits (act.Go step) d m n f at e =
      let next : Node WholeQueues = advance whole c link step n in
      handled-fits (numbers whole c link d next) d m next ((advance-steps (rules-of (fit-steps c)) link UserData step n tt at).stay f)
      (advance-serves c link UserData step n at ∙ data-serves (link_at n.parts link).period (link_at n.parts link).alignment step at) refl e

  read-same : (r : Result FrameValue FrameFault) (m : Message) (n : Node WholeQueues) → Fits c n → new_of r link c n ≡ Some m
      → Same (confirming_number r) c n (accept_text link r (record { settings = c; node = n; reroutings = first_reroutings c }))
  read-same (Ok (EmptyFrame bsn fsn)) m n f e = data-same (acts_on (link_at n.parts link) UserData) (empty_data bsn fsn) m n f refl e
  read-same (Ok (MessageFrame bsn fsn sio sif)) m n f e = data-same (acts_on (link_at n.parts link) UserData) (message_data bsn fsn sio sif) m n f refl e
  read-same (Ok (StatusFrame bsn fsn status)) m n f e = absurd cc
  read-same (Err fault) m n f e = absurd cc

  -- the node that the message comes to has its places
  read-fits : (r : Result FrameValue FrameFault) (m : Message) (n : Node WholeQueues) → Fits c n → new_of r link c n ≡ Some m → Fits c (accept_text link r (record { settings = c; node = n; reroutings = first_reroutings c }))
  read-fits (Ok (EmptyFrame bsn fsn)) m n f e = data-fits (acts_on (link_at n.parts link) UserData) (empty_data bsn fsn) m n f refl e
  read-fits (Ok (MessageFrame bsn fsn sio sif)) m n f e = data-fits (acts_on (link_at n.parts link) UserData) (message_data bsn fsn sio sif) m n f refl e
  read-fits (Ok (StatusFrame bsn fsn status)) m n f e = absurd cc
  read-fits (Err fault) m n f e = absurd cc

module _ (a : Abstract) (link : ℕ) (text : List ℕ) (cause : Cause) (m : Message) (label : Label) (sound : IsSound a) (f : Fits a.settings a.node) (e : outcome_of whole (FrameCame link text) a ≡ Refused cause)
    (new : new_message link text a ≡ Some m) (here : whither_goes a.settings m ≡ whither.Here label) (is : nat_eq (service_indicator m) sccp ≡ true) where
  abbrev number : ℕ
  number = confirming_number (read_frame text)

  abbrev mid : Node WholeQueues
  mid = accept_text link (read_frame text) a

  abbrev count : Node WholeQueues → ℕ
  count n = standing_behind number (length a.settings.links) n.queues

  -- its link is there, and isn't down
  guarded : (b : Bool) (o : Option Message) → (if b then o else None) ≡ Some m → (b ≡ true) × (o ≡ Some m)
  guarded true o h = (refl, h)
  guarded false o h = absurd cc

  first-true : (b d : Bool) → (b && d) ≡ true → b ≡ true
  first-true true d h = refl
  first-true false d h = absurd cc

  read-new : (is_link a.node.parts link ≡ true) × (new_of (read_frame text) link a.settings a.node ≡ Some m)
  read-new =
      let g : ((is_link a.node.parts link && not (down a.node.parts link)) ≡ true) × (new_of (read_frame text) link a.settings a.node ≡ Some m) =
      guarded (is_link a.node.parts link && not (down a.node.parts link)) (new_of (read_frame text) link a.settings a.node) new in
      (first-true (is_link a.node.parts link) (not (down a.node.parts link)) g.0, g.1)

  abbrev left : Node WholeQueues
  left = answered cause (Some link) (carried_message (read_frame text)) a.settings mid

  pub frame-counts : count (after whole (FrameCame link text) a).node ≡ count a.node + users (returned_in (returned (own_of a.settings mid.parts) mid.parts.titles m.sif cause) a.settings m mid)
  frame-counts =
      ap (λ (x : Abstract). count x.node) (refused_leaves (FrameCame link text) a cause sound e)
      ∙ ap (λ (b : Bool). count (if b then leaving a (tell_owed whole a.settings (noted cause link left)) else a).node) read-new.0
      ∙ as-many number a.settings (noted cause link left) (tell_owed whole a.settings (noted cause link left)) (tell_owed-same number a.settings (noted cause link left))
      ∙ ap (λ (o : Option Message). count (answered cause (Some link) o a.settings mid)) (new-carried link text a m new)
      ∙ answered-more number a.settings cause (Some link) m label mid (read-fits a.settings link (read_frame text) m a.node f read-new.1) here is
      ∙ ap (λ (k : ℕ). k + users (returned_in (returned (own_of a.settings mid.parts) mid.parts.titles m.sif cause) a.settings m mid))
      (as-many number a.settings a.node mid (read-same a.settings link (read_frame text) m a.node f read-new.1))
