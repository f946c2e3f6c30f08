-- Where nothing but ticks happens no link test goes on for ever: one that isn't answered is repeated once, and then its
-- link fails.
use Rattle.exchange_rules.proofs.Basics.{◌≡◌, ◌≢◌, ◌⊎◌, inl, inr, ◌≤◌, ◌<◌, ◌-◌, ◌+◌, ℕ, zero, suc, Bool, true, false, ◌&&◌, Option, Some, None, refl, ap, sym, ◌∙◌, subst, arith, max, ⊎_elim, cases_eq, cases_lt, length, nat_lt, if◌then◌else◌, get_or-set_same, get_or-set_other, get_or_past}
use Rattle.exchange_rules.proofs.Definitions.{Configuration, Cause, Action, link_test, answer_ticks, tests_links, awaiting_test, with_test_failed, queue_if, send_test, repeat_test, Link, down_link, is_in_service, TimerName, Running, key_of, has_name, set_timer, counts-set, left-set, left-set_other, due_name, NodeCounts, after_due, due-left, left-ticked, one_less, ticked, Parts, Node, with_parts, is_link, link_at, in_service, no_room, tell_owed, release, act_by_timer, run_timer, run_due, run_next, run_times, with_timers, WholeQueues, whole, count_subsystems, order_all}
use Rattle.std.specs.Prelude.{unwrap_or}
use Rattle.timers.specs.declared.name.TimerName.TheVariants as name
use Rattle.signalling_types.specs.declared.notice.ChangeoverTimer.TheVariants as which
use Rattle.signalling_types.specs.declared.notice.FailureReason.TheVariants as reasons
use Rattle.link.specs.declared.action.Action.TheVariants as act
use Rattle.timers.specs.Timers.{due_count}
use Rattle.exchange_rules.proofs.Steps.{takes_links, moves_links}
use Rattle.exchange_rules.proofs.Eased.{ran-eased, idle-l1, idle-l2, idle-l3, eased-same}
use Rattle.exchange_rules.proofs.WithinTimes.{handed_out-eased}
use Rattle.exchange_rules.proofs.LinkTimes.{kept-same, kept-eased, Turned}
use Rattle.exchange_rules.proofs.LinkTurns.{times-kept}
use Rattle.exchange_rules.proofs.CalmTests.{calms-of, none-some, expired-links, asks-links, settled-calms, late_all-calms, fail-calms, Calms}

module _ (c : Configuration) where
  -- ---- a timer that runs out, but those by which a link enters service or leaves it

  acts-calms : (a : Action) (link : ℕ) (n : Node WholeQueues) → (a ≡ act.Ignored) ⊎ ((a ≡ act.Fail) × (in_service n.parts link ≡ false)) → Calms n (act_by_timer whole c a link n)
  acts-calms a link n how =
      ⊎_elim (λ (e : a ≡ act.Ignored). subst (λ (x : Action). Calms n (act_by_timer whole c x link n)) (sym e) (calms-of n n refl (kept-same n n refl)))
      (λ (e : (a ≡ act.Fail) × (in_service n.parts link ≡ false)). subst (λ (x : Action). Calms n (act_by_timer whole c x link n)) (sym e.0) (fail-calms c link reasons.Timer n)) how

  eased-calms : (its : TimerName) (n : Node WholeQueues) → moves_links its ≡ false → (run_timer whole c its n).parts.links ≡ n.parts.links → Calms n (run_timer whole c its n)
  eased-calms its n e same = calms-of n _ same (kept-eased n _ (ran-eased c its n e))

  ran-calms : (its : TimerName) (n : Node WholeQueues) → moves_links its ≡ false → Calms n (run_timer whole c its n)
  ran-calms (name.L1 link) n e = acts-calms _ link n (idle-l1 (link_at n.parts link).period (link_at n.parts link).alignment)
  ran-calms (name.L2 link) n e = acts-calms _ link n (idle-l2 (link_at n.parts link).period (link_at n.parts link).alignment)
  ran-calms (name.L3 link) n e = acts-calms _ link n (idle-l3 (link_at n.parts link).period (link_at n.parts link).alignment)
  ran-calms (name.L4 link) n e = absurd cc
  ran-calms (name.L6 link) n e = absurd cc
  ran-calms (name.L7 link) n e = absurd cc
  ran-calms (name.T1 link) n e = eased-calms (name.T1 link) n refl (expired-links c (is_link n.parts link) which.T1 link n)
  ran-calms (name.T2 link) n e = eased-calms (name.T2 link) n refl (expired-links c (is_link n.parts link) which.T2 link n)
  ran-calms (name.T3 link) n e = eased-calms (name.T3 link) n refl refl
  ran-calms (name.T4 set code) n e = eased-calms (name.T4 set code) n refl refl
  ran-calms (name.T6 destination) n e = eased-calms (name.T6 destination) n refl refl
  ran-calms (name.T8 set destination) n e = eased-calms (name.T8 set destination) n refl refl
  ran-calms (name.T10 set destination) n e =
      eased-calms (name.T10 set destination) n refl (asks-links c (nat_lt set (length c.sets) && nat_lt destination (length c.destinations)) set destination n)
  ran-calms (name.Slt1 link) n e = absurd cc
  ran-calms (name.Slt2 link) n e = absurd cc

  -- ---- how long tests may go on that aren't answered

  -- how long one answer is awaited, and the repeated test's where none failed yet
  abbrev pub awaits : ℕ
  awaits = max 1 (answer_ticks c)

  abbrev pub again : Bool → ℕ
  again true = 0
  again false = awaits

  pub record Unanswered (most : ℕ) (p : Parts) : Type 0 where
    pub first : (link x : ℕ) → p.timers.left (name.Slt1 link) ≡ Some x → x + again (link_at p link).test_failed ≤ most
    pub second : (link x : ℕ) → p.timers.left (name.Slt2 link) ≡ Some x → x + (awaits + awaits) ≤ most

  calmed : (most : ℕ) (n m : Node WholeQueues) → Calms n m → Unanswered most n.parts → Unanswered most m.parts
  calmed most n m e u = record {
    first = λ link x h. subst (λ (b : Bool). x + again b ≤ most) (sym (e.first link x h).1) (u.first link x (e.first link x h).0);
    second = λ link x h. u.second link x (e.second link x h);
  }

  set-ticks : (its : TimerName) (ticks : ℕ) (r : Running) (x : ℕ) → (set_timer its ticks r).left its ≡ Some x → x ≡ max 1 ticks
  set-ticks its ticks r x h = by (has_name r.counts its) refl
    where
      same-ticks : (m n : ℕ) → Some m ≡ Some n → n ≡ m
      same-ticks m n e = cc

      by : (has : Bool) → has_name r.counts its ≡ has → x ≡ max 1 ticks
      by true e = same-ticks (max 1 ticks) x (sym (left-set its ticks r e) ∙ h)
      by false e = none-some ((set_timer its ticks r).left its) x ((set_timer its ticks r).only its (ap (λ (k : NodeCounts). has_name k its) (counts-set its ticks r) ∙ e)) h

  other-first : (link other : ℕ) → other ≢ link → name.Slt1 link ≢ name.Slt1 other
  other-first link other apart e = apart (sym (ap (λ (x : TimerName). (key_of x).row) e))

  awaiting : (most link : ℕ) (p : Parts) → Unanswered most p → awaits + again (link_at p link).test_failed ≤ most → Unanswered most (awaiting_test c link p)
  awaiting most link p u l = record {
    first = λ other x h. by other x h (cases_eq other link);
    second = λ other x h. u.second other x (sym (left-set_other (name.Slt1 link) (name.Slt2 other) (answer_ticks c) p.timers (λ e. cc)) ∙ h);
  }
    where
      by : (other x : ℕ) → (set_timer (name.Slt1 link) (answer_ticks c) p.timers).left (name.Slt1 other) ≡ Some x → (other ≡ link) ⊎ (other ≢ link)
          → x + again (link_at p other).test_failed ≤ most
      by other x h (inl same) =
          let ticks : x ≡ awaits = set-ticks (name.Slt1 link) (answer_ticks c) p.timers x (subst (λ (k : ℕ). (set_timer (name.Slt1 link) (answer_ticks c) p.timers).left (name.Slt1 k) ≡ Some x) same h) in
          subst (λ (k : ℕ). x + again (link_at p k).test_failed ≤ most) (sym same) (subst (λ (k : ℕ). k + again (link_at p link).test_failed ≤ most) (sym ticks) l)
      by other x h (inr apart) = u.first other x (sym (left-set_other (name.Slt1 link) (name.Slt1 other) (answer_ticks c) p.timers (other-first link other apart)) ∙ h)

  queued : (most : ℕ) (room : Option Cause) (link : ℕ) (n : Node WholeQueues) → Unanswered most n.parts → Unanswered most (queue_if whole c room link (link_test c link) n).parts
  queued most (Some cause) link n u = u
  queued most None link n u = u

  begun : (most : ℕ) (begins : Bool) (link : ℕ) (n : Node WholeQueues) → Unanswered most n.parts → awaits + again (link_at n.parts link).test_failed ≤ most
      → Unanswered most (if begins then send_test whole c link n else n).parts
  begun most true link n u l = queued most (no_room whole c (link_test c link) n.queues) link (with_parts n (awaiting_test c link n.parts)) (awaiting most link n.parts u l)
  begun most false link n u l = u

  serves-there : (p : Parts) (link : ℕ) → in_service p link ≡ true → link < length p.links
  serves-there p link e =
      ⊎_elim (λ (there : link < length p.links). there)
      (λ (past : length p.links ≤ link). (let no : true ≡ false = sym e ∙ ap (λ (l : Link). is_in_service l.alignment) (get_or_past p.links link down_link past) in absurd cc))
      (cases_lt link (length p.links))

  -- a test failed: less is left
  failed : (most link : ℕ) (p : Parts) → link < length p.links → Unanswered most p → Unanswered most (with_test_failed true link p)
  failed most link p there u = record { first = λ other x h. by other x h (cases_eq other link); second = u.second }
    where
      by : (other x : ℕ) → p.timers.left (name.Slt1 other) ≡ Some x → (other ≡ link) ⊎ (other ≢ link) → x + again (link_at (with_test_failed true link p) other).test_failed ≤ most
      by other x h (inl same) =
          subst (λ (b : Bool). x + again b ≤ most)
          (sym (ap (λ (k : ℕ). (link_at (with_test_failed true link p) k).test_failed) same ∙ ap (λ (l : Link). l.test_failed) (get_or-set_same p.links link (record (link_at p link) { test_failed = true }) down_link there)))
          (omega (arith, u.first other x h))
      by other x h (inr apart) =
          subst (λ (b : Bool). x + again b ≤ most) (sym (ap (λ (l : Link). l.test_failed) (get_or-set_other p.links link other (record (link_at p link) { test_failed = true }) down_link apart))) (u.first other x h)

  repeated : (most : ℕ) (serves fails : Bool) (link : ℕ) (n : Node WholeQueues) → in_service n.parts link ≡ serves → again fails ≤ most → Unanswered most n.parts
      → Unanswered most (if serves then repeat_test whole c fails link n else n).parts
  repeated most false fails link n e l u = u
  repeated most true true link n e l u = calmed most n _ (fail-calms c link reasons.Test n) u
  repeated most true false link n e l u =
      let there : link < length n.parts.links = serves-there n.parts link e in
      let next : Node WholeQueues = with_parts n (with_test_failed true link n.parts) in
      begun most (tests_links c && in_service next.parts link) link next (failed most link n.parts there u)
      (subst (λ (b : Bool). awaits + again b ≤ most) (sym (ap (λ (x : Link). x.test_failed) (get_or-set_same n.parts.links link (record (link_at n.parts link) { test_failed = true }) down_link there))) (omega (arith, l)))

  -- ---- in a tick in which no L4, L6 or L7 runs

  pub record Still (r : Running) : Type 0 where
    pub none : (timer : TimerName) → takes_links timer ≡ true → (x : ℕ) → r.left timer ≡ Some x → ⊥

  handed : (due : Option TimerName) (n : Node WholeQueues) → due_name n.parts.timers ≡ due → Calms n (with_timers n (after_due n.parts.timers))
  handed due n e = calms-of n _ refl (kept-eased n _ (handed_out-eased c due n e))

  less-again : (failed : Bool) (most : ℕ) → 0 + (awaits + awaits) ≤ most → awaits + again failed ≤ most
  less-again true most l = omega (arith, l)
  less-again false most l = omega (arith, l)

  other : (most : ℕ) (its : TimerName) (n : Node WholeQueues) → due_name n.parts.timers ≡ Some its → moves_links its ≡ false → Unanswered most n.parts
      → Unanswered most (run_timer whole c its (with_timers n (after_due n.parts.timers))).parts
  other most its n e moves u =
      let h : Node WholeQueues = with_timers n (after_due n.parts.timers) in
      calmed most h _ (ran-calms its h moves) (calmed most n h (handed (Some its) n e) u)

  next-by : (most : ℕ) (its : TimerName) (n : Node WholeQueues) → due_name n.parts.timers ≡ Some its → (takes_links its ≡ true → ⊥) → Unanswered most n.parts
      → Unanswered most (run_timer whole c its (with_timers n (after_due n.parts.timers))).parts
  next-by most (name.Slt1 link) n e still u =
      let h : Node WholeQueues = with_timers n (after_due n.parts.timers) in
      repeated most (in_service n.parts link) (link_at n.parts link).test_failed link h refl
      (let l : 0 + again (link_at n.parts link).test_failed ≤ most = u.first link 0 (due-left (name.Slt1 link) n.parts.timers e) in omega (arith, l))
      (calmed most n h (handed (Some (name.Slt1 link)) n e) u)
  next-by most (name.Slt2 link) n e still u =
      let h : Node WholeQueues = with_timers n (after_due n.parts.timers) in
      begun most (tests_links c && in_service n.parts link) link h (calmed most n h (handed (Some (name.Slt2 link)) n e) u)
      (less-again (link_at n.parts link).test_failed most (u.second link 0 (due-left (name.Slt2 link) n.parts.timers e)))
  next-by most (name.L1 link) n e still u = other most (name.L1 link) n e refl u
  next-by most (name.L2 link) n e still u = other most (name.L2 link) n e refl u
  next-by most (name.L3 link) n e still u = other most (name.L3 link) n e refl u
  next-by most (name.L4 link) n e still u = absurd (still refl)
  next-by most (name.L6 link) n e still u = absurd (still refl)
  next-by most (name.L7 link) n e still u = absurd (still refl)
  next-by most (name.T1 link) n e still u = other most (name.T1 link) n e refl u
  next-by most (name.T2 link) n e still u = other most (name.T2 link) n e refl u
  next-by most (name.T3 link) n e still u = other most (name.T3 link) n e refl u
  next-by most (name.T4 set code) n e still u = other most (name.T4 set code) n e refl u
  next-by most (name.T6 destination) n e still u = other most (name.T6 destination) n e refl u
  next-by most (name.T8 set destination) n e still u = other most (name.T8 set destination) n e refl u
  next-by most (name.T10 set destination) n e still u = other most (name.T10 set destination) n e refl u

  next : (most : ℕ) (due : Option TimerName) (n : Node WholeQueues) → due_name n.parts.timers ≡ due → Still n.parts.timers → Unanswered most n.parts
      → Unanswered most (run_due whole c due (with_timers n (after_due n.parts.timers))).parts
  next most None n e still u = calmed most n _ (handed None n e) u
  next most (Some its) n e still u = next-by most its n e (λ takes. still.none its takes 0 (due-left its n.parts.timers e)) u

  turned-still : (n m : Node WholeQueues) → Turned n m → Still n.parts.timers → Still m.parts.timers
  turned-still n m e s = record { none = λ timer takes x h. s.none timer takes x (e.timers timer takes x h) }

  pub times : (most many : ℕ) (n : Node WholeQueues) → Still n.parts.timers → Unanswered most n.parts → Unanswered most (run_times whole c many n).parts
  times most zero n still u = u
  times most (suc many) n still u =
      times most many (run_next whole c n) (turned-still n (run_next whole c n) (times-kept c 1 n) still) (next most (due_name n.parts.timers) n refl still u)

  lowered-by : (o : Option ℕ) (x most extra : ℕ) → ((y : ℕ) → o ≡ Some y → y + extra ≤ most) → o ≢ Some 0 → one_less o ≡ Some x → x + extra ≤ most - 1
  lowered-by None x most extra f rested e = absurd cc
  lowered-by (Some zero) x most extra f rested e = absurd (rested refl)
  lowered-by (Some (suc y)) x most extra f rested e = (let less : suc y - 1 ≡ x = ap (λ (p : Option ℕ). unwrap_or p 0) e in omega (arith, f (suc y) refl, less))

  -- a whole tick, of a node where nothing is due
  pub tick-unanswered : (most : ℕ) (n : Node WholeQueues) → ((timer : TimerName) → n.parts.timers.left timer ≢ Some 0) → Still n.parts.timers → Unanswered most n.parts
      → Unanswered (most - 1)
      (tell_owed whole c (release whole c (order_all whole c (count_subsystems c (run_times whole c (due_count (ticked n.parts.timers)) (with_timers n (ticked n.parts.timers))))))).parts
  tick-unanswered most n rested still u =
      let began : Node WholeQueues = with_timers n (ticked n.parts.timers) in
      let timed : Node WholeQueues = run_times whole c (due_count (ticked n.parts.timers)) began in
      let ran : Node WholeQueues = count_subsystems c timed in
      let ordered : Node WholeQueues = order_all whole c ran in
      calmed (most - 1) ordered _ (settled-calms c ordered)
      (calmed (most - 1) ran ordered (late_all-calms c ran)
      (calmed (most - 1) timed ran (calms-of timed ran refl (kept-eased timed ran (eased-same timed ran refl refl (λ d. refl))))
      (times (most - 1) (due_count (ticked n.parts.timers)) began
      (record { none = λ timer takes x h. was-running (n.parts.timers.left timer) x (sym (left-ticked timer n.parts.timers) ∙ h) (still.none timer takes) })
      (record {
        first = λ link x h. lowered-by (n.parts.timers.left (name.Slt1 link)) x most (again (link_at n.parts link).test_failed) (u.first link) (rested (name.Slt1 link)) (sym (left-ticked (name.Slt1 link) n.parts.timers) ∙ h);
        second = λ link x h. lowered-by (n.parts.timers.left (name.Slt2 link)) x most (awaits + awaits) (u.second link) (rested (name.Slt2 link)) (sym (left-ticked (name.Slt2 link) n.parts.timers) ∙ h);
      }))))
    where
      was-running : (o : Option ℕ) (x : ℕ) → one_less o ≡ Some x → ((y : ℕ) → o ≡ Some y → ⊥) → ⊥
      was-running None x e none = absurd cc
      was-running (Some y) x e none = none y refl
