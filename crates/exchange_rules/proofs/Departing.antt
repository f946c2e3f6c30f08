-- Changeovers that are completed, by the peer's messages and by timers, and the release: how many user messages leave
-- for good.
use Rattle.exchange_rules.proofs.Basics.{Bool, Err, List, None, Ok, Option, Result, Some, [], ap, arith, false, nat_eq, not, refl, subst, suc, sym, true, zero, ℕ, ◌&&◌, ◌+◌, ◌∙◌, ◌∷◌, ◌≡◌, filter_agree, filter, if◌then◌else◌, is_some}
use Rattle.exchange_rules.proofs.Definitions.{accepted_count, behind, completed, IsQueue, Queue, read_link_test, read_management, MgmtFault, Management, ChangebackAcknowledgement, ChangebackDeclaration, EmergencyChangeoverAcknowledgement, EmergencyChangeoverOrder, ExtendedChangeoverAcknowledgement, ExtendedChangeoverOrder, RouteSetTestProhibited, RouteSetTestRestricted, TrafficRestartAllowed, TransferAllowed, TransferProhibited, TransferRestricted, Allowed, Prohibited, Restricted, Configuration, Message, flow_of, opc_of, service_indicator, ChangeoverTimer, Handled, Ignored, destination_place, set_place, after_due, due_count, due_name, ticked, TimerName, complete_if, concluded, fail_by_order, on_changeover_order, on_changeover_timer, with_changeover_acknowledged, with_expiry, Gone, both_gone, gone_by_answer, gone_by_completion, gone_by_expiry, gone_by_order, gone_by_release, gone_by_tick, gone_by_timer, gone_by_timers, gone_by_word, gone_that, is_stranded, nothing_gone, standing, users_that, changeover_of, with_changeover, hold, waits, is_link, do_acknowledgement, do_management, do_order, do_test, is_adjacent, link_with_code, manage, testing, entry_of, peer_of, route_about, queue_on, WholeQueues, queue_at, whole, go, go_by, go_each, go_on, release, link_of, Found, Node, answer, with_parts, run_due, run_next, run_times, tick, with_timers, from_afar, UserPartUnavailable, bar, barred}
use Rattle.exchange_rules.proofs.Changes.{anew-stand, answered_back-stand, ask_again-stand, do_test-stand, fail_by_order-queues, made-stand, on_route_status-stand, on_route_test-stand, run_out-stand, stands, test_unanswered-stand, begin_test-stand}
use Rattle.exchange_rules.proofs.Fitting.{Fits, fit-steps, handed-fit, next-fit, ticked-fit}
use Rattle.exchange_rules.proofs.Moves.{completed-lets, queued-more}
use Rattle.exchange_rules.proofs.SteppingEvents.{go_by-steps}
use Rattle.exchange_rules.proofs.Tallies.{append, held-more-by, held-taken-out, none-first, none-more, one-first}
use Rattle.exchange_rules.proofs.Rules.{rules-of}
use Rattle.timers.specs.declared.name.TimerName.TheVariants as name
use Rattle.signalling_types.specs.declared.notice.ChangeoverTimer.TheVariants as which
use Rattle.route_management.specs.declared.heard.RouteTest.TheVariants as tests
use Rattle.link.specs.declared.action.LinkTimer.TheVariants as timer

-- both parts of what goes
pub both-that : (of : Message → Bool) (g h : Gone) → gone_that of (both_gone g h) ≡ gone_that of g + gone_that of h
both-that of g h = add (users_that of g.accepted) (users_that of h.accepted) (users_that of g.lost) (users_that of h.lost) _ _ (append of g.accepted h.accepted) (append of g.lost h.lost)
  where
    add : (a b k l s t : ℕ) → s ≡ a + b → t ≡ k + l → s + t ≡ a + k + (b + l)
    add a b k l s t e f = omega (arith, e, f)

module _ (c : Configuration) where
  -- which of the others are stranded doesn't change as a message goes
  go_on-strands : (link : Option ℕ) (m x : Message) (n : Node WholeQueues) → is_stranded c (go_on whole c link m n).parts x ≡ is_stranded c n.parts x
  go_on-strands (Some link) m x n = refl
  go_on-strands None m x n = refl

  pub go_by-strands : (waiting : Bool) (m x : Message) (n : Node WholeQueues) → is_stranded c (go_by whole c waiting m n).parts x ≡ is_stranded c n.parts x
  go_by-strands true m x n = refl
  go_by-strands false m x n = go_on-strands (link_of c n.parts (flow_of m)) m x n

module _ (of : Message → Bool) (c : Configuration) where
  -- ---- a changeover is completed

  conclude-lets : (link : ℕ) (number : Option ℕ) (n : Node WholeQueues) → IsQueue c.window (queue_at n.queues link)
      → stands of n ≡ stands of (complete_if whole c true link number n) + gone_that of (gone_by_completion true link number n.queues)
  conclude-lets link number n h =
      let q : Queue = queue_at n.queues link in
      let found : Found = whole.found n.queues link number in
      let done : Node WholeQueues = record { queues = whole.completed n.queues link number; parts = concluded link found n.parts } in
      completed-lets of c link number n h
      ∙ ap (λ (k : ℕ). k + gone_that of (gone_by_completion true link number n.queues)) (sym (anew-stand of c (behind q (accepted_count q number)) done))

  pub complete-lets : (incomplete : Bool) (link : ℕ) (number : Option ℕ) (n : Node WholeQueues) → IsQueue c.window (queue_at n.queues link)
      → stands of n ≡ stands of (complete_if whole c incomplete link number n) + gone_that of (gone_by_completion incomplete link number n.queues)
  complete-lets true link number n h = conclude-lets link number n h
  complete-lets false link number n h = none-more (stands of n)

  -- ---- by words of the peer

  order-lets : (link : ℕ) (number : Option ℕ) (n : Node WholeQueues) → IsQueue c.window (queue_at n.queues link)
      → stands of n ≡ stands of (on_changeover_order whole c link number n).left + gone_that of (gone_by_order (Some link) number c n)
  order-lets link number n h =
      let fell : Node WholeQueues = bar whole c link (fail_by_order whole c link n) in
      let same : fell.queues ≡ n.queues = fail_by_order-queues of c link n in
      let stood : Node WholeQueues = with_parts fell (with_changeover link (completed (changeover_of fell.parts link)) fell.parts) in
      let done : Node WholeQueues = complete_if whole c (changeover_of fell.parts link).incomplete link number stood in
      let more : ℕ = gone_that of (gone_by_completion (changeover_of fell.parts link).incomplete link number stood.queues) in
      ap (standing of) (sym same)
      ∙ complete-lets (changeover_of fell.parts link).incomplete link number stood (subst (λ (qs : WholeQueues). IsQueue c.window (queue_at qs link)) (sym same) h)
      ∙ ap (λ (k : ℕ). k + more)
      (sym (made-stand of c (peer_of c link) (ExtendedChangeoverAcknowledgement (entry_of c link).slc (whole.last_accepted done.queues link)) done))

  answer-by : (awaited : Bool) (link : ℕ) (number : Option ℕ) (n : Node WholeQueues) → IsQueue c.window (queue_at n.queues link)
      → stands of n
      ≡ stands of (if awaited then answer Handled (complete_if whole c (changeover_of n.parts link).incomplete link number (with_parts n (with_changeover_acknowledged link n.parts))) else answer Ignored n).left
      + gone_that of (if awaited then gone_by_completion (changeover_of n.parts link).incomplete link number n.queues else nothing_gone)
  answer-by true link number n h = complete-lets (changeover_of n.parts link).incomplete link number (with_parts n (with_changeover_acknowledged link n.parts)) h
  answer-by false link number n h = none-more (stands of n)

  do_order-lets : (link number : Option ℕ) (n : Node WholeQueues) → Fits c n → stands of n ≡ stands of (do_order whole c link number n).left + gone_that of (gone_by_order link number c n)
  do_order-lets (Some link) number n f = order-lets link number n (f.queues.each link)
  do_order-lets None number n f = none-more (stands of n)

  do_answer-lets : (link number : Option ℕ) (n : Node WholeQueues) → Fits c n → stands of n ≡ stands of (do_acknowledgement whole c link number n).left + gone_that of (gone_by_answer link number n)
  do_answer-lets (Some link) number n f = answer-by (changeover_of n.parts link).awaited link number n (f.queues.each link)
  do_answer-lets None number n f = none-more (stands of n)

  -- any other word lets none go
  none-let : {k l : ℕ} → l ≡ k → k ≡ l + 0
  none-let {k} {l} e = sym e ∙ none-more l

  word-lets : (r : Result Management MgmtFault) (point : ℕ) (n : Node WholeQueues) → Fits c n
      → stands of n ≡ stands of (do_management whole c r point n).left + gone_that of (gone_by_word r point c n)
  word-lets (Err fault) point n f = none-more (stands of n)
  word-lets (Ok TrafficRestartAllowed) point n f = none-more (stands of n)
  word-lets (Ok (ExtendedChangeoverOrder slc number)) point n f = do_order-lets (link_with_code c point slc) (Some number) n f
  word-lets (Ok (EmergencyChangeoverOrder slc)) point n f = do_order-lets (link_with_code c point slc) None n f
  word-lets (Ok (ExtendedChangeoverAcknowledgement slc number)) point n f = do_answer-lets (link_with_code c point slc) (Some number) n f
  word-lets (Ok (EmergencyChangeoverAcknowledgement slc)) point n f = do_answer-lets (link_with_code c point slc) None n f
  word-lets (Ok (ChangebackDeclaration slc code)) point n f = none-let (made-stand of c point (ChangebackAcknowledgement slc code) n)
  word-lets (Ok (ChangebackAcknowledgement slc code)) point n f = none-let (answered_back-stand of c (set_place c point) code n)
  word-lets (Ok (TransferProhibited about)) point n f = none-let (on_route_status-stand of c Prohibited (route_about (set_place c point) (destination_place c about)) n)
  word-lets (Ok (TransferRestricted about)) point n f = none-let (on_route_status-stand of c Restricted (route_about (set_place c point) (destination_place c about)) n)
  word-lets (Ok (TransferAllowed about)) point n f = none-let (on_route_status-stand of c Allowed (route_about (set_place c point) (destination_place c about)) n)
  word-lets (Ok (RouteSetTestProhibited about)) point n f = none-let (on_route_test-stand of c tests.Prohibited (route_about (set_place c point) (destination_place c about)) n)
  word-lets (Ok (RouteSetTestRestricted about)) point n f = none-let (on_route_test-stand of c tests.Restricted (route_about (set_place c point) (destination_place c about)) n)
  word-lets (Ok (UserPartUnavailable about user_part cause)) point n f = none-more (stands of n)

  manage-by : (adjacent test : Bool) (link : ℕ) (m : Message) (n : Node WholeQueues) → Fits c n
      → stands of n
      ≡ stands of (if adjacent then (if test then do_test whole c (read_link_test m.sif) link (opc_of m) n else do_management whole c (read_management m.sif) (opc_of m) n) else answer (from_afar c m) n).left
      + gone_that of (if adjacent && not test then gone_by_word (read_management m.sif) (opc_of m) c n else nothing_gone)
  manage-by true true link m n f = none-let (do_test-stand of c (read_link_test m.sif) link (opc_of m) n)
  manage-by true false link m n f = word-lets (read_management m.sif) (opc_of m) n f
  manage-by false test link m n f = none-more (stands of n)

  pub manage-lets : (link : ℕ) (m : Message) (n : Node WholeQueues) → Fits c n
      → stands of n ≡ stands of (manage whole c link m n).left
      + gone_that of (if is_adjacent c (opc_of m) && not (nat_eq (service_indicator m) testing) then gone_by_word (read_management m.sif) (opc_of m) c n else nothing_gone)
  manage-lets link m n f = manage-by (is_adjacent c (opc_of m)) (nat_eq (service_indicator m) testing) link m n f

  -- ---- by timers

  expiry-by : (is_there : Bool) (expired : ChangeoverTimer) (link : ℕ) (n : Node WholeQueues) → IsQueue c.window (queue_at n.queues link)
      → stands of n
      ≡ stands of (if is_there then complete_if whole c (changeover_of n.parts link).incomplete link None (with_parts n (with_expiry c expired link (barred c link n.parts))) else n)
      + gone_that of (if is_there then gone_by_completion (changeover_of n.parts link).incomplete link None n.queues else nothing_gone)
  expiry-by true expired link n h = complete-lets (changeover_of n.parts link).incomplete link None (with_parts n (with_expiry c expired link (barred c link n.parts))) h
  expiry-by false expired link n h = none-more (stands of n)

  expiry-lets : (expired : ChangeoverTimer) (link : ℕ) (n : Node WholeQueues) → Fits c n
      → stands of n ≡ stands of (on_changeover_timer whole c expired link n) + gone_that of (gone_by_expiry link n)
  expiry-lets expired link n f = expiry-by (is_link n.parts link) expired link n (f.queues.each link)

  timer-lets : (due : Option TimerName) (n : Node WholeQueues) → Fits c n → stands of n ≡ stands of (run_due whole c due n) + gone_that of (gone_by_timer due n)
  timer-lets None n f = none-more (stands of n)
  timer-lets (Some (name.L1 link)) n f = none-let (run_out-stand of c link timer.L1 n)
  timer-lets (Some (name.L2 link)) n f = none-let (run_out-stand of c link timer.L2 n)
  timer-lets (Some (name.L3 link)) n f = none-let (run_out-stand of c link timer.L3 n)
  timer-lets (Some (name.L4 link)) n f = none-let (run_out-stand of c link timer.L4 n)
  timer-lets (Some (name.L6 link)) n f = none-let (run_out-stand of c link timer.L6 n)
  timer-lets (Some (name.L7 link)) n f = none-let (run_out-stand of c link timer.L7 n)
  timer-lets (Some (name.T1 link)) n f = expiry-lets which.T1 link n f
  timer-lets (Some (name.T2 link)) n f = expiry-lets which.T2 link n f
  timer-lets (Some (name.T3 link)) n f = none-more (stands of n)
  timer-lets (Some (name.T4 set code)) n f = none-more (stands of n)
  timer-lets (Some (name.T6 destination)) n f = none-more (stands of n)
  timer-lets (Some (name.T8 set destination)) n f = none-more (stands of n)
  timer-lets (Some (name.T10 set destination)) n f = none-let (ask_again-stand of c set destination n)
  timer-lets (Some (name.Slt1 link)) n f = none-let (test_unanswered-stand of c link n)
  timer-lets (Some (name.Slt2 link)) n f = none-let (begin_test-stand of c link n)

  later-let : (n m o g h b : ℕ) → n ≡ m + g → m ≡ o + h → b ≡ g + h → n ≡ o + b
  later-let n m o g h b e f i = omega (arith, e, f, i)

  timers-let : (many : ℕ) (n : Node WholeQueues) → Fits c n → stands of n ≡ stands of (run_times whole c many n) + gone_that of (gone_by_timers many c n)
  timers-let zero n f = none-more (stands of n)
  timers-let (suc more) n f =
      let due : Option TimerName = due_name n.parts.timers in
      let handed : Node WholeQueues = with_timers n (after_due n.parts.timers) in
      let ran : Node WholeQueues = run_next whole c n in
      later-let (stands of n) (stands of ran) (stands of (run_times whole c more ran)) (gone_that of (gone_by_timer due handed)) (gone_that of (gone_by_timers more c ran)) _
      (timer-lets due handed ((handed-fit c n).stay f)) (timers-let more ran ((next-fit c n).stay f)) (both-that of (gone_by_timer due handed) (gone_by_timers more c ran))

  pub tick-lets : (n : Node WholeQueues) → Fits c n → stands of n ≡ stands of (tick whole c n).left + gone_that of (gone_by_tick c n)
  tick-lets n f =
      let begun : Node WholeQueues = with_timers n (ticked n.parts.timers) in
      timers-let (due_count (ticked n.parts.timers)) begun ((ticked-fit c n).stay f)

  -- ---- by the release

  -- what a message comes to that leaves Held
  go_on-lets : (link : Option ℕ) (m : Message) (n : Node WholeQueues) → Fits c n → link_of c n.parts (flow_of m) ≡ link
      → stands of n + users_that of (m ∷ []) ≡ stands of (go_on whole c link m n) + users_that of (if not (is_some link) then m ∷ [] else [])
  go_on-lets (Some link) m n f e = sym (queued-more of c link m n f e) ∙ none-more (stands of (queue_on whole c link m n))
  go_on-lets None m n f e = refl

  go_by-lets : (waiting : Bool) (m : Message) (n : Node WholeQueues) → Fits c n
      → stands of n + users_that of (m ∷ [])
      ≡ stands of (go_by whole c waiting m n) + users_that of (if not waiting && not (is_some (link_of c n.parts (flow_of m))) then m ∷ [] else [])
  go_by-lets true m n f = sym (held-more-by of n.queues m) ∙ none-more (stands of (hold whole m n))
  go_by-lets false m n f = go_on-lets (link_of c n.parts (flow_of m)) m n f refl

  both-let : (n m o a b k l s t : ℕ) → n + a ≡ m + k → m + b ≡ o + l → s ≡ a + b → t ≡ k + l → n + s ≡ o + t
  both-let n m o a b k l s t e f g h = omega (arith, e, f, g, h)

  go_each-lets : (ms : List Message) (n : Node WholeQueues) → Fits c n
      → stands of n + users_that of ms ≡ stands of (go_each whole c ms n) + users_that of (filter (is_stranded c n.parts) ms)
  go_each-lets [] n f = refl
  go_each-lets (m ∷ ms) n f =
      let one : Node WholeQueues = go whole c m n in
      let left : Bool = is_stranded c n.parts m in
      both-let (stands of n) (stands of one) (stands of (go_each whole c ms one)) (users_that of (m ∷ [])) (users_that of ms)
      (users_that of (if left then m ∷ [] else [])) (users_that of (filter (is_stranded c one.parts) ms)) (users_that of (m ∷ ms)) (users_that of (filter (is_stranded c n.parts) (m ∷ ms)))
      (go_by-lets (waits c n.parts.holds m) m n f)
      (go_each-lets ms one ((go_by-steps (rules-of (fit-steps c)) (waits c n.parts.holds m) m n refl).stay f))
      (append of (m ∷ []) ms)
      (one-first of left m (filter (is_stranded c n.parts) ms)
      ∙ ap (λ (xs : List Message). users_that of (if left then m ∷ [] else []) + users_that of xs)
      (sym (filter_agree (is_stranded c one.parts) (is_stranded c n.parts) (λ x. go_by-strands c (waits c n.parts.holds m) m x n) ms)))

  out-first : (n h o l s : ℕ) → o + h ≡ n → o + h ≡ s + l → n ≡ s + l
  out-first n h o l s e f = omega (arith, e, f)

  pub release-lets : (n : Node WholeQueues) → Fits c n → stands of n ≡ stands of (release whole c n) + gone_that of (gone_by_release c n)
  release-lets n f =
      let out : Node WholeQueues = record n { queues = whole.without_held n.queues } in
      out-first (stands of n) (users_that of n.queues.held) (stands of out) (users_that of (filter (is_stranded c n.parts) n.queues.held)) (stands of (release whole c n))
      (held-taken-out of n.queues) (go_each-lets n.queues.held out (((fit-steps c).taken_out n).stay f))
      ∙ ap (λ (k : ℕ). stands of (release whole c n) + k) (sym (none-first (users_that of (filter (is_stranded c n.parts) n.queues.held))))
