-- Changeovers that are completed, by the peer's messages and by timers, and the release: what each loses is named and
-- counted.
use Rattle.exchange_rules.proofs.Basics.{Bool, Err, List, None, Ok, Option, Result, Some, [], ap, append-nil, arith, false, filter, filter_agree, is_some, length, length-append, map, nat_eq, not, refl, suc, sym, true, zero, ℕ, ◌&&◌, ◌*◌, ◌+◌, ◌++◌, ◌∙◌, ◌∷◌, ◌≡◌, ◌≤◌, if◌then◌else◌}
use Rattle.exchange_rules.proofs.Definitions.{AreAccounted, naming, LostUnconfirmed, completed, changeover_of, complete_by_order, concluded, judged, lose, lose_each, changeover_acknowledgement, changeback_acknowledgement, on_changeover_order, on_changeover_timer, with_changeover, with_changeover_acknowledged, with_expiry, complete_if, fail_by_order, read_link_test, read_management, MgmtFault, Management, ChangebackAcknowledgement, ChangebackDeclaration, EmergencyChangeoverAcknowledgement, EmergencyChangeoverOrder, ExtendedChangeoverAcknowledgement, ExtendedChangeoverOrder, RouteSetTestProhibited, RouteSetTestRestricted, TrafficRestartAllowed, TransferAllowed, TransferProhibited, TransferRestricted, Allowed, Prohibited, Restricted, Configuration, Message, flow_of, is_management, opc_of, service_indicator, ChangeoverTimer, Handled, Ignored, destination_place, set_place, after_due, due_count, due_name, ticked, TimerName, Gone, both_gone, gone_by_answer, gone_by_completion, gone_by_expiry, gone_by_message, gone_by_order, gone_by_tick, gone_by_timer, gone_by_timers, gone_by_word, is_stranded, nothing_gone, only_accepted, waits, is_link, do_acknowledgement, do_management, do_order, do_test, is_adjacent, link_with_code, local, manage, testing, deliver_to, route_about, WholeQueues, whole, go, go_by, go_each, go_on, link_of, Found, Node, Parts, answer, with_parts, run_due, run_next, run_times, tick, with_timers, Discrimination, from_afar, UserPartUnavailable, run_all, bar, barred, bars, expiry_notice, broken_if, once_more, note}
use Rattle.std.proofs.lemmas.List.{map-append}
use Rattle.exchange_rules.proofs.Departing.{go_by-strands}
use Rattle.signalling_types.specs.declared.cause.Cause.TheVariants as causes
use Rattle.signalling_types.specs.declared.notice.Notice.{Notice}
use Rattle.signalling_types.specs.declared.notice.Notice.TheVariants as notices
use Rattle.signalling_types.specs.declared.notice.Unbarring.TheVariants as unbarring
use Rattle.signalling_types.specs.declared.notice.LateTimer.TheVariants as late_timer
use Rattle.timers.specs.declared.name.TimerName.TheVariants as name
use Rattle.signalling_types.specs.declared.notice.ChangeoverTimer.TheVariants as which
use Rattle.route_management.specs.declared.heard.RouteTest.TheVariants as tests
use Rattle.mtp3_codec.specs.declared.discrimination.Discrimination.TheVariants as whither
use Rattle.link.specs.declared.action.LinkTimer.TheVariants as timer
use Rattle.exchange_rules.specs.LawsOfLosses.{Reasons, ends_a_wait, waits_ended, late_by_timer, late_by_timers, late_by_tick}
use Rattle.exchange_rules.specs.GivingUp.{unsent, unsent_by_answer, unsent_by_expiry, unsent_by_message, unsent_by_order, unsent_by_test, unsent_by_word, unsent_completing, unsent_local, unsent_managing, unsent_transferring}
use Rattle.exchange_rules.specs.GivingUpEvents.{expired_by_timer, expired_by_timers, unsent_by_timer, unsent_by_timers}
use Rattle.exchange_rules.proofs.Naming.{Does, Quiet, Sends, counts-append, accounted-as, after-same, any-quiet, both, both-accounted, both-quiet, fewer, more-does, none, one-does, same-quiet, sending}
use Rattle.exchange_rules.proofs.QuietMessages.{anew-sends, answered_back-quiet, ask_again-sends, do_test-sends, local-sends, on_route_status-quiet, on_route_test-sends, routed-sends, transfer-sends}
use Rattle.exchange_rules.proofs.QuietLinks.{test_unanswered-sends, begin_test-quiet, fail_by_order-quiet, run_out-sends}

-- the reasons of a rule by which these messages go: what it sends in vain, T2 that ran out, and lateness
abbrev pub reasons_by : (bars : Bool) → Gone → (us expired late : List Notice) → Reasons
reasons_by bars g us expired late = record {
  lost = map (naming LostUnconfirmed) g.lost;
  unsent = us;
  expired = expired;
  late = late;
  doubts = g.doubts;
  breaks = waits_ended bars expired + g.wrong;
}

-- what goes by a rule is named and counted, and so many other notices are made beside those of what is queued anew
pub record Names (bars : Bool) (g : Gone) (us expired late : List Notice) (most : ℕ) (n m : Node WholeQueues) : Type 0 where
  pub is : AreAccounted (reasons_by bars g us expired late) (length g.queued_anew + most) n.parts m.parts

pub sends-names : {bars : Bool} (us : List Notice) (k : ℕ) (n m : Node WholeQueues) → Sends us k n m → Names bars nothing_gone us [] [] k n m
sends-names us k n m a = record { is = fewer (sending us) k (length {A = Message} [] + k) n.parts m.parts (omega arith) a.is }

module _ {bars : Bool} (g : Gone) (us expired late : List Notice) where
  pub more-names : (k j : ℕ) (n m : Node WholeQueues) → k ≤ j → Names bars g us expired late k n m → Names bars g us expired late j n m
  more-names k j n m l a = record { is = fewer (reasons_by bars g us expired late) (length g.queued_anew + k) (length g.queued_anew + j) n.parts m.parts (omega (arith, l)) a.is }

  -- a rule before it that sends something in vain, and one after it
  pub first-names : (vs : List Notice) (k j : ℕ) (n m o : Node WholeQueues) → Sends vs k n m → Names bars g us expired late j m o → Names bars g (vs ++ us) expired late (k + j) n o
  first-names vs k j n m o a b = record {
    is = accounted-as (both (sending vs) (reasons_by bars g us expired late)) (reasons_by bars g (vs ++ us) expired late) (k + (length g.queued_anew + j)) (length g.queued_anew + (k + j)) n.parts o.parts
        refl refl refl refl (omega arith) (omega arith) (omega arith) (both-accounted (sending vs) (reasons_by bars g us expired late) k (length g.queued_anew + j) n.parts m.parts o.parts a.is b.is);
  }

  pub then-names : (vs : List Notice) (k j : ℕ) (n m o : Node WholeQueues) → Names bars g us expired late k n m → Sends vs j m o → Names bars g (us ++ vs) expired late (k + j) n o
  then-names vs k j n m o a b = record {
    is = accounted-as (both (reasons_by bars g us expired late) (sending vs)) (reasons_by bars g (us ++ vs) expired late) (length g.queued_anew + k + j) (length g.queued_anew + (k + j)) n.parts o.parts
        (append-nil (reasons_by bars g us expired late).lost) refl (append-nil expired) (append-nil late) (omega arith) (omega arith) (omega arith) (both-accounted (reasons_by bars g us expired late) (sending vs) (length g.queued_anew + k) j n.parts m.parts o.parts a.is b.is);
  }

  both-names : (h : Gone) (vs expired' late' : List Notice) (k j : ℕ) (n m o : Node WholeQueues) → Names bars g us expired late k n m → Names bars h vs expired' late' j m o
      → Names bars (both_gone g h) (us ++ vs) (expired ++ expired') (late ++ late') (k + j) n o
  both-names h vs expired' late' k j n m o a b =
      let all : ℕ = length (g.queued_anew ++ h.queued_anew) in
      let size : all ≡ length g.queued_anew + length h.queued_anew = length-append g.queued_anew h.queued_anew in
      let others : Reasons = reasons_by bars h vs expired' late' in
      record {
        is = accounted-as (both (reasons_by bars g us expired late) others) (reasons_by bars (both_gone g h) (us ++ vs) (expired ++ expired') (late ++ late')) (length g.queued_anew + k + (length h.queued_anew + j)) (all + (k + j)) n.parts o.parts
            (sym (map-append (naming LostUnconfirmed) g.lost h.lost)) refl refl refl refl (omega (arith, counts-append (ends_a_wait bars) expired expired')) (omega (arith, size))
            (both-accounted (reasons_by bars g us expired late) others (length g.queued_anew + k) (length h.queued_anew + j) n.parts m.parts o.parts a.is b.is);
      }

  -- what a peer accepts changes no notice
  pub accepted-names : (ms : List Message) (k : ℕ) (n m : Node WholeQueues) → Names bars g us expired late k n m → Names bars (both_gone (only_accepted ms) g) us expired late k n m
  accepted-names ms k n m a = record {
    is = accounted-as (reasons_by bars g us expired late) (reasons_by bars (both_gone (only_accepted ms) g) us expired late) (length g.queued_anew + k) (length g.queued_anew + k) n.parts m.parts
        refl refl refl refl (omega arith) (omega arith) (omega arith) a.is;
  }

either-names : {bars : Bool} (g h : Gone) (us vs expired : List Notice) (k : ℕ) (b : Bool) (o n m : Node WholeQueues) → Names bars g us expired [] k o n → Names bars h vs [] [] k o m
    → Names bars (if b then g else h) (if b then us else vs) (if b then expired else []) [] k o (if b then n else m)
either-names g h us vs expired k true o n m e f = e
either-names g h us vs expired k false o n m e f = f

-- messages are lost, or a completion is in doubt, and no flag rises for another reason
abbrev pub losing : List Notice → Reasons
losing lost = record { lost = lost; unsent = []; expired = []; late = []; doubts = 0; breaks = 0 }

abbrev doubting : (is_reasonable : Bool) → Reasons
doubting is_reasonable = record { lost = []; unsent = []; expired = []; late = []; doubts = if is_reasonable then 0 else 1; breaks = 0 }

-- so isn't what the other end has, where its number names no count
abbrev breaking : (is_wrong : Bool) → Reasons
breaking is_wrong = record { lost = []; unsent = []; expired = []; late = []; doubts = 0; breaks = if is_wrong then 1 else 0 }

-- T2 or a timer of lateness ran out
abbrev pub expired_alone : (bars : Bool) → List Notice → Reasons
expired_alone bars expired = record { lost = []; unsent = []; expired = expired; late = []; doubts = 0; breaks = waits_ended bars expired }

abbrev late_alone : List Notice → Reasons
late_alone late = record { lost = []; unsent = []; expired = []; late = late; doubts = 0; breaks = 0 }

module _ (c : Configuration) where
  -- ---- a changeover is completed

  loses-accounted : (ms : List Message) (p : Parts) → AreAccounted (losing (map (naming LostUnconfirmed) ms)) 0 p (lose_each ms p)
  loses-accounted [] p = record { made = []; noted = refl; names = refl; unsent = refl; expired = refl; lates = refl; few = omega arith; times_lost = refl; times_late = refl; messages_lost = refl; times_broken = refl }
  loses-accounted (m ∷ ms) p =
      let one : Parts = lose LostUnconfirmed m p in
      let it : Reasons = losing (naming LostUnconfirmed m ∷ []) in
      let others : Reasons = losing (map (naming LostUnconfirmed) ms) in
      both-accounted it others 0 0 p one (lose_each ms one)
      (record { made = naming LostUnconfirmed m ∷ []; noted = refl; names = refl; unsent = refl; expired = refl; lates = refl; few = omega arith; times_lost = refl; times_late = refl; messages_lost = refl; times_broken = refl }) (loses-accounted ms one)

  judged-accounted : (reasonable : Bool) (p : Parts) → AreAccounted (doubting reasonable) 0 p (judged reasonable p)
  judged-accounted true p = record { made = []; noted = refl; names = refl; unsent = refl; expired = refl; lates = refl; few = omega arith; times_lost = refl; times_late = refl; messages_lost = refl; times_broken = refl }
  judged-accounted false p = record { made = []; noted = refl; names = refl; unsent = refl; expired = refl; lates = refl; few = omega arith; times_lost = refl; times_late = refl; messages_lost = refl; times_broken = refl }

  broken-accounted : (is_wrong : Bool) (p : Parts) → AreAccounted (breaking is_wrong) 0 p (broken_if is_wrong p)
  broken-accounted true p = record { made = []; noted = refl; names = refl; unsent = refl; expired = refl; lates = refl; few = omega arith; times_lost = refl; times_late = refl; messages_lost = refl; times_broken = refl }
  broken-accounted false p = record { made = []; noted = refl; names = refl; unsent = refl; expired = refl; lates = refl; few = omega arith; times_lost = refl; times_late = refl; messages_lost = refl; times_broken = refl }

  concluded-names : (link : ℕ) (number : Option ℕ) (n : Node WholeQueues)
      → Names (bars c) (gone_by_completion true link number n.queues) (unsent_completing c true link number n) [] [] 0 n (complete_if whole c true link number n)
  concluded-names link number n =
      let found : Found = whole.found n.queues link number in
      let loses : Reasons = losing (map (naming LostUnconfirmed) found.lost) in
      let doubts : Reasons = doubting found.is_reasonable in
      let us : List Notice = unsent_completing c true link number n in
      let many : ℕ = length found.queued_anew in
      let lost : Parts = lose_each found.lost n.parts in
      let judges : Parts = judged found.is_reasonable lost in
      let breaks : Reasons = breaking found.is_wrong in
      let broke : Parts = broken_if found.is_wrong judges in
      let done : Node WholeQueues = record { queues = whole.completed n.queues link number; parts = concluded link found n.parts } in
      let last : Parts = (complete_if whole c true link number n).parts in
      let anew : AreAccounted (sending us) many broke last = after-same (sending us) many broke done.parts last refl refl refl refl refl (anew-sends c found.queued_anew done).is in
      record {
        is = accounted-as (both loses (both doubts (both breaks (sending us)))) (reasons_by (bars c) (gone_by_completion true link number n.queues) us [] []) (0 + (0 + (0 + many))) (many + 0) n.parts last
            (append-nil loses.lost) refl refl refl (omega arith) (omega arith) (omega arith)
            (both-accounted loses (both doubts (both breaks (sending us))) 0 (0 + (0 + many)) n.parts lost last (loses-accounted found.lost n.parts)
            (both-accounted doubts (both breaks (sending us)) 0 (0 + many) lost judges last (judged-accounted found.is_reasonable lost)
            (both-accounted breaks (sending us) 0 many judges broke last (broken-accounted found.is_wrong judges) anew)));
      }

  complete-names : (incomplete : Bool) (link : ℕ) (number : Option ℕ) (n : Node WholeQueues)
      → Names (bars c) (gone_by_completion incomplete link number n.queues) (unsent_completing c incomplete link number n) [] [] 0 n (complete_if whole c incomplete link number n)
  complete-names true link number n = concluded-names link number n
  complete-names false link number n = sends-names [] 0 n n (any-quiet 0 n)

  -- ---- by words of the peer

  order-names : (link : ℕ) (number : Option ℕ) (n : Node WholeQueues)
      → Names (bars c) (gone_by_order (Some link) number c n) (unsent_by_order c (Some link) number n) [] [] 2 n (on_changeover_order whole c link number n).left
  order-names link number n =
      let g : Gone = gone_by_order (Some link) number c n in
      let fallen : Node WholeQueues = fail_by_order whole c link n in
      let fell : Node WholeQueues = bar whole c link fallen in
      let stood : Node WholeQueues = with_parts fell (with_changeover link (completed (changeover_of fell.parts link)) fell.parts) in
      let done : Node WholeQueues = complete_by_order whole c link number fell in
      let us : List Notice = unsent_completing c (changeover_of fell.parts link).incomplete link number stood in
      let answer : Message = changeover_acknowledgement c link (whole.last_accepted done.queues link) in
      then-names g us [] [] (unsent c answer done) (1 + 0) 1 n done (on_changeover_order whole c link number n).left
      (first-names g us [] [] [] 1 0 n stood done (both-quiet 1 0 n fallen stood (fail_by_order-quiet c link n) (same-quiet fallen stood refl refl refl refl refl))
      (complete-names (changeover_of fell.parts link).incomplete link number stood))
      (routed-sends c answer done)

  answer-names : (awaited : Bool) (link : ℕ) (number : Option ℕ) (n : Node WholeQueues)
      → Names (bars c) (if awaited then gone_by_completion (changeover_of n.parts link).incomplete link number n.queues else nothing_gone)
      (if awaited then unsent_completing c (changeover_of n.parts link).incomplete link number (with_parts n (with_changeover_acknowledged link n.parts)) else []) [] [] 2 n
      (if awaited then answer Handled (complete_if whole c (changeover_of n.parts link).incomplete link number (with_parts n (with_changeover_acknowledged link n.parts))) else answer Ignored n).left
  answer-names true link number n =
      let g : Gone = gone_by_completion (changeover_of n.parts link).incomplete link number n.queues in
      let next : Node WholeQueues = with_parts n (with_changeover_acknowledged link n.parts) in
      let us : List Notice = unsent_completing c (changeover_of n.parts link).incomplete link number next in
      more-names g us [] [] (0 + 0) 2 n _ (omega arith) (first-names g us [] [] [] 0 0 n next _ (same-quiet n next refl refl refl refl refl) (complete-names (changeover_of n.parts link).incomplete link number next))
  answer-names false link number n = sends-names [] 2 n n (any-quiet 2 n)

  do_order-names : (link number : Option ℕ) (n : Node WholeQueues) → Names (bars c) (gone_by_order link number c n) (unsent_by_order c link number n) [] [] 2 n (do_order whole c link number n).left
  do_order-names (Some link) number n = order-names link number n
  do_order-names None number n = sends-names [] 2 n n (any-quiet 2 n)

  do_answer-names : (link number : Option ℕ) (n : Node WholeQueues) → Names (bars c) (gone_by_answer link number n) (unsent_by_answer c link number n) [] [] 2 n (do_acknowledgement whole c link number n).left
  do_answer-names (Some link) number n = answer-names (changeover_of n.parts link).awaited link number n
  do_answer-names None number n = sends-names [] 2 n n (any-quiet 2 n)

  -- any other word loses nothing
  one-word : (us : List Notice) (n m : Node WholeQueues) → Sends us 1 n m → Names (bars c) nothing_gone us [] [] 2 n m
  one-word us n m a = sends-names us 2 n m (more-does (sending us) 1 2 n m (omega arith) a)

  no-word : (n m : Node WholeQueues) → Quiet 0 n m → Names (bars c) nothing_gone [] [] [] 2 n m
  no-word n m a = sends-names [] 2 n m (more-does none 0 2 n m (omega arith) a)

  word-names : (r : Result Management MgmtFault) (point : ℕ) (n : Node WholeQueues) → Names (bars c) (gone_by_word r point c n) (unsent_by_word c r point n) [] [] 2 n (do_management whole c r point n).left
  word-names (Err fault) point n = no-word n n (any-quiet 0 n)
  word-names (Ok TrafficRestartAllowed) point n = no-word n n (any-quiet 0 n)
  word-names (Ok (ExtendedChangeoverOrder slc number)) point n = do_order-names (link_with_code c point slc) (Some number) n
  word-names (Ok (EmergencyChangeoverOrder slc)) point n = do_order-names (link_with_code c point slc) None n
  word-names (Ok (ExtendedChangeoverAcknowledgement slc number)) point n = do_answer-names (link_with_code c point slc) (Some number) n
  word-names (Ok (EmergencyChangeoverAcknowledgement slc)) point n = do_answer-names (link_with_code c point slc) None n
  word-names (Ok (ChangebackDeclaration slc code)) point n = one-word _ n _ (routed-sends c (changeback_acknowledgement c point slc code) n)
  word-names (Ok (ChangebackAcknowledgement slc code)) point n = no-word n _ (answered_back-quiet c (set_place c point) code n)
  word-names (Ok (TransferProhibited about)) point n = no-word n _ (on_route_status-quiet c Prohibited (route_about (set_place c point) (destination_place c about)) n)
  word-names (Ok (TransferRestricted about)) point n = no-word n _ (on_route_status-quiet c Restricted (route_about (set_place c point) (destination_place c about)) n)
  word-names (Ok (TransferAllowed about)) point n = no-word n _ (on_route_status-quiet c Allowed (route_about (set_place c point) (destination_place c about)) n)
  word-names (Ok (RouteSetTestProhibited about)) point n = one-word _ n _ (on_route_test-sends c tests.Prohibited (route_about (set_place c point) (destination_place c about)) n)
  word-names (Ok (RouteSetTestRestricted about)) point n = one-word _ n _ (on_route_test-sends c tests.Restricted (route_about (set_place c point) (destination_place c about)) n)
  word-names (Ok (UserPartUnavailable about user_part cause)) point n = no-word n n (any-quiet 0 n)

  manage-by : (adjacent test : Bool) (link : ℕ) (m : Message) (n : Node WholeQueues)
      → Names (bars c) (if adjacent && not test then gone_by_word (read_management m.sif) (opc_of m) c n else nothing_gone)
      (if adjacent then (if test then unsent_by_test c (read_link_test m.sif) link (opc_of m) n else unsent_by_word c (read_management m.sif) (opc_of m) n) else []) [] [] 2 n
      (if adjacent then (if test then do_test whole c (read_link_test m.sif) link (opc_of m) n else do_management whole c (read_management m.sif) (opc_of m) n) else answer (from_afar c m) n).left
  manage-by true true link m n = one-word _ n _ (do_test-sends c (read_link_test m.sif) link (opc_of m) n)
  manage-by true false link m n = word-names (read_management m.sif) (opc_of m) n
  manage-by false test link m n = no-word n n (any-quiet 0 n)

  here-by : (management : Bool) (link : ℕ) (m : Message) (n : Node WholeQueues)
      → Names (bars c) (if management && (is_adjacent c (opc_of m) && not (nat_eq (service_indicator m) testing)) then gone_by_word (read_management m.sif) (opc_of m) c n else nothing_gone)
      (if management then unsent_managing c link m n else unsent_local c m n) [] [] 2 n
      (if management then manage whole c link m n else local whole c (Some link) m n).left
  here-by true link m n = manage-by (is_adjacent c (opc_of m)) (nat_eq (service_indicator m) testing) link m n
  here-by false link m n = sends-names (unsent_local c m n) 2 n _ (local-sends c link m n)

  pub deliver_to-names : (d : Discrimination) (link : ℕ) (m : Message) (n : Node WholeQueues) → Names (bars c) (gone_by_message d c m n) (unsent_by_message c d link m n) [] [] 2 n (deliver_to whole c d link m n).left
  deliver_to-names (whither.Refused cause) link m n = no-word n n (any-quiet 0 n)
  deliver_to-names (whither.Here label) link m n = here-by (is_management m) link m n
  deliver_to-names (whither.Transfer label) link m n = one-word (unsent_transferring c link m n) n _ (transfer-sends c link m n)

  -- ---- by timers

  abbrev expiring : ChangeoverTimer → ℕ → Node WholeQueues → List Notice
  expiring which.T1 link n = []
  expiring which.T2 link n = expiry_notice c which.T2 (changeover_of n.parts link) link ∷ []

  -- the notice of T2, by whether links are barred, and whether the changeover was incomplete
  abbrev of_t2 : (barring incomplete : Bool) → ℕ → Notice
  of_t2 barring incomplete link = if barring && not incomplete then notices.Unbarred unbarring.T2 link else notices.Expired which.T2 link

  t2-does : (barring incomplete : Bool) (link : ℕ) (n m : Node WholeQueues) → m.parts.notices ≡ (note (of_t2 barring incomplete link) n.parts).notices
      → m.parts.times_lost ≡ once_more n.parts.times_lost → m.parts.times_late ≡ n.parts.times_late → m.parts.messages_lost ≡ n.parts.messages_lost
      → m.parts.times_broken ≡ (broken_if (not (barring && incomplete)) n.parts).times_broken → Does (expired_alone barring (of_t2 barring incomplete link ∷ [])) 1 n m
  t2-does true true link n m e f g h i = one-does (expired_alone true (of_t2 true true link ∷ [])) (of_t2 true true link) n m refl refl refl refl e f g h i
  t2-does true false link n m e f g h i = one-does (expired_alone true (of_t2 true false link ∷ [])) (of_t2 true false link) n m refl refl refl refl e f g h i
  t2-does false true link n m e f g h i = one-does (expired_alone false (of_t2 false true link ∷ [])) (of_t2 false true link) n m refl refl refl refl e f g h i
  t2-does false false link n m e f g h i = one-does (expired_alone false (of_t2 false false link ∷ [])) (of_t2 false false link) n m refl refl refl refl e f g h i

  expiry-does : (expired : ChangeoverTimer) (link : ℕ) (n : Node WholeQueues) → Does (expired_alone (bars c) (expiring expired link n)) 1 n (with_parts n (with_expiry c expired link (barred c link n.parts)))
  expiry-does which.T1 link n = one-does none (notices.Expired which.T1 link) n _ refl refl refl refl refl refl refl refl refl
  expiry-does which.T2 link n = t2-does (bars c) (changeover_of n.parts link).incomplete link n _ refl refl refl refl refl

  expires-names : (expired : ChangeoverTimer) (link : ℕ) (n : Node WholeQueues)
      → Names (bars c) (gone_by_expiry link n) (unsent_by_expiry c expired link n) (if is_link n.parts link then expiring expired link n else []) [] 3 n (on_changeover_timer whole c expired link n)
  expires-names expired link n =
      let incomplete : Bool = (changeover_of n.parts link).incomplete in
      let g : Gone = gone_by_completion incomplete link None n.queues in
      let next : Node WholeQueues = with_parts n (with_expiry c expired link (barred c link n.parts)) in
      let done : Node WholeQueues = complete_if whole c incomplete link None next in
      let us : List Notice = unsent_completing c incomplete link None next in
      let ex : List Notice = expiring expired link n in
      let ran : Reasons = expired_alone (bars c) ex in
      let ends : Names (bars c) g us [] [] 0 next done = complete-names incomplete link None next in
      let all : Names (bars c) g us ex [] 3 n done =
      record {
        is = accounted-as (both ran (reasons_by (bars c) g us [] [])) (reasons_by (bars c) g us ex []) (1 + (length g.queued_anew + 0)) (length g.queued_anew + 3) n.parts done.parts
            refl refl (append-nil ex) refl (omega arith) (omega arith) (omega arith)
            (both-accounted ran (reasons_by (bars c) g us [] []) 1 (length g.queued_anew + 0) n.parts next.parts done.parts (expiry-does expired link n).is ends.is);
      } in
      either-names g nothing_gone us [] ex 3 (is_link n.parts link) n done n all (sends-names [] 3 n n (any-quiet 3 n))

  some-names : (us : List Notice) (k : ℕ) (n m : Node WholeQueues) → k ≤ 3 → Sends us k n m → Names (bars c) nothing_gone us [] [] 3 n m
  some-names us k n m l a = sends-names us 3 n m (more-does (sending us) k 3 n m l a)

  -- a notice of lateness
  late-one : (notice : Notice) (n m : Node WholeQueues) → Does (late_alone (notice ∷ [])) 1 n m → Names (bars c) nothing_gone [] [] (notice ∷ []) 3 n m
  late-one notice n m a = record { is = fewer (late_alone (notice ∷ [])) 1 (length {A = Message} [] + 3) n.parts m.parts (omega arith) a.is }

  timer-names : (due : Option TimerName) (n : Node WholeQueues) → Names (bars c) (gone_by_timer due n) (unsent_by_timer c due n) (expired_by_timer c due n) (late_by_timer due) 3 n (run_due whole c due n)
  timer-names None n = some-names [] 0 n n (omega arith) (any-quiet 0 n)
  timer-names (Some (name.L1 link)) n = some-names _ 2 n _ (omega arith) (run_out-sends c timer.L1 link n)
  timer-names (Some (name.L2 link)) n = some-names _ 2 n _ (omega arith) (run_out-sends c timer.L2 link n)
  timer-names (Some (name.L3 link)) n = some-names _ 2 n _ (omega arith) (run_out-sends c timer.L3 link n)
  timer-names (Some (name.L4 link)) n = some-names _ 2 n _ (omega arith) (run_out-sends c timer.L4 link n)
  timer-names (Some (name.L6 link)) n = some-names _ 2 n _ (omega arith) (run_out-sends c timer.L6 link n)
  timer-names (Some (name.L7 link)) n = some-names _ 2 n _ (omega arith) (run_out-sends c timer.L7 link n)
  timer-names (Some (name.T1 link)) n = no-t1 (is_link n.parts link) (expires-names which.T1 link n)
    where
      no-t1 : (b : Bool) → Names (bars c) (gone_by_expiry link n) (unsent_by_expiry c which.T1 link n) (if b then [] else []) [] 3 n (on_changeover_timer whole c which.T1 link n)
          → Names (bars c) (gone_by_expiry link n) (unsent_by_expiry c which.T1 link n) [] [] 3 n (on_changeover_timer whole c which.T1 link n)
      no-t1 true a = a
      no-t1 false a = a
  timer-names (Some (name.T2 link)) n = expires-names which.T2 link n
  timer-names (Some (name.T3 link)) n = late-one (notices.Late late_timer.T3 link) n _ (one-does (late_alone (notices.Late late_timer.T3 link ∷ [])) (notices.Late late_timer.T3 link) n _ refl refl refl refl refl refl refl refl refl)
  timer-names (Some (name.T4 set code)) n = late-one (notices.Late late_timer.T4 code) n _ (one-does (late_alone (notices.Late late_timer.T4 code ∷ [])) (notices.Late late_timer.T4 code) n _ refl refl refl refl refl refl refl refl refl)
  timer-names (Some (name.T6 destination)) n = some-names [] 0 n _ (omega arith) (same-quiet n _ refl refl refl refl refl)
  timer-names (Some (name.T8 set destination)) n = some-names [] 0 n n (omega arith) (any-quiet 0 n)
  timer-names (Some (name.T10 set destination)) n = some-names _ 1 n _ (omega arith) (ask_again-sends c set destination n)
  timer-names (Some (name.Slt1 link)) n = some-names _ 2 n _ (omega arith) (test_unanswered-sends c link n)
  timer-names (Some (name.Slt2 link)) n = some-names [] 0 n _ (omega arith) (begin_test-quiet c link n)

  timers-names : (many : ℕ) (n : Node WholeQueues)
      → Names (bars c) (gone_by_timers many c n) (unsent_by_timers c many n) (expired_by_timers c many n) (late_by_timers many c n) (3 * many) n (run_times whole c many n)
  timers-names zero n = sends-names [] (3 * zero) n n (any-quiet (3 * zero) n)
  timers-names (suc more) n =
      let due : Option TimerName = due_name n.parts.timers in
      let handed : Node WholeQueues = with_timers n (after_due n.parts.timers) in
      let ran : Node WholeQueues = run_next whole c n in
      let g : Gone = gone_by_timer due handed in
      let h : Gone = gone_by_timers more c ran in
      let us : List Notice = unsent_by_timer c due handed in
      let vs : List Notice = unsent_by_timers c more ran in
      let ex : List Notice = expired_by_timer c due handed in
      let fx : List Notice = expired_by_timers c more ran in
      let late : List Notice = late_by_timer due in
      let later : List Notice = late_by_timers more c ran in
      more-names (both_gone g h) (us ++ vs) (ex ++ fx) (late ++ later) (0 + 3 + 3 * more) (3 * suc more) n _ (omega arith)
      (both-names g us ex late h vs fx later (0 + 3) (3 * more) n ran _ (first-names g us ex late [] 0 3 n handed ran (same-quiet n handed refl refl refl refl refl) (timer-names due handed)) (timers-names more ran))

  pub tick-names : (n : Node WholeQueues)
      → Names (bars c) (gone_by_tick c n) (unsent_by_timers c (due_count (ticked n.parts.timers)) (with_timers n (ticked n.parts.timers)))
      (expired_by_timers c (due_count (ticked n.parts.timers)) (with_timers n (ticked n.parts.timers))) (late_by_tick c n) (3 * due_count (ticked n.parts.timers)) n (tick whole c n).left
  tick-names n =
      let begun : Node WholeQueues = with_timers n (ticked n.parts.timers) in
      let count : ℕ = due_count (ticked n.parts.timers) in
      let many : ℕ = 3 * count in
      let ran : Node WholeQueues = run_all whole c begun in
      let g : Gone = gone_by_tick c n in
      let us : List Notice = unsent_by_timers c count begun in
      let ex : List Notice = expired_by_timers c count begun in
      let late : List Notice = late_by_tick c n in
      let last : Node WholeQueues = (tick whole c n).left in
      record {
        is = accounted-as (both (reasons_by (bars c) g us ex late) none) (reasons_by (bars c) g us ex late) (length g.queued_anew + many + 0) (length g.queued_anew + many) n.parts last.parts
            (append-nil (reasons_by (bars c) g us ex late).lost) (append-nil us) (append-nil ex) (append-nil late) (omega arith) (omega arith) (omega arith)
            (both-accounted (reasons_by (bars c) g us ex late) none (length g.queued_anew + many) 0 n.parts ran.parts last.parts
            (after-same (reasons_by (bars c) g us ex late) (length g.queued_anew + many) n.parts begun.parts ran.parts refl refl refl refl refl (timers-names count begun).is) (same-quiet ran last refl refl refl refl refl).is);
      }

  -- ---- by the release

  go_on-accounted : (link : Option ℕ) (m : Message) (n : Node WholeQueues)
      → AreAccounted (losing (map (naming causes.NoRoute) (if not (is_some link) then m ∷ [] else []))) 0 n.parts (go_on whole c link m n).parts
  go_on-accounted (Some link) m n = (same-quiet n (go_on whole c (Some link) m n) refl refl refl refl refl).is
  go_on-accounted None m n = record { made = naming causes.NoRoute m ∷ []; noted = refl; names = refl; unsent = refl; expired = refl; lates = refl; few = omega arith; times_lost = refl; times_late = refl; messages_lost = refl; times_broken = refl }

  go_by-accounted : (waiting : Bool) (m : Message) (n : Node WholeQueues)
      → AreAccounted (losing (map (naming causes.NoRoute) (if not waiting && not (is_some (link_of c n.parts (flow_of m))) then m ∷ [] else []))) 0 n.parts (go_by whole c waiting m n).parts
  go_by-accounted true m n = (same-quiet n (go_by whole c true m n) refl refl refl refl refl).is
  go_by-accounted false m n = go_on-accounted (link_of c n.parts (flow_of m)) m n

  one-first : (b : Bool) (m : Message) (ms : List Message) → map (naming causes.NoRoute) (if b then m ∷ [] else []) ++ map (naming causes.NoRoute) ms ≡ map (naming causes.NoRoute) (if b then m ∷ ms else ms)
  one-first true m ms = refl
  one-first false m ms = refl

  pub go_each-accounted : (ms : List Message) (n : Node WholeQueues) → AreAccounted (losing (map (naming causes.NoRoute) (filter (is_stranded c n.parts) ms))) 0 n.parts (go_each whole c ms n).parts
  go_each-accounted [] n = (any-quiet 0 n).is
  go_each-accounted (m ∷ ms) n =
      let one : Node WholeQueues = go whole c m n in
      let b : Bool = is_stranded c n.parts m in
      let it : Reasons = losing (map (naming causes.NoRoute) (if b then m ∷ [] else [])) in
      let others : Reasons = losing (map (naming causes.NoRoute) (filter (is_stranded c one.parts) ms)) in
      accounted-as (both it others) (losing (map (naming causes.NoRoute) (filter (is_stranded c n.parts) (m ∷ ms)))) 0 0 n.parts (go_each whole c ms one).parts
      (ap (λ (xs : List Message). it.lost ++ map (naming causes.NoRoute) xs)
      (filter_agree (is_stranded c one.parts) (is_stranded c n.parts) (λ x. go_by-strands c (waits c n.parts.holds m) m x n) ms)
      ∙ one-first b m (filter (is_stranded c n.parts) ms)) refl refl refl refl refl (omega arith)
      (both-accounted it others 0 0 n.parts one.parts (go_each whole c ms one).parts (go_by-accounted (waits c n.parts.holds m) m n) (go_each-accounted ms one))
