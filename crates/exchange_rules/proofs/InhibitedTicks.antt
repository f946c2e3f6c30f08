-- Over ticks and all events T8 of a set and a destination runs until it runs out, or its set comes back.
use Rattle.exchange_rules.proofs.Basics.{◌≡◌, ◌≢◌, ◌⊎◌, inl, inr, ℕ, zero, suc, Bool, true, false, List, Option, Some, None, refl, ap, sym, subst, ◌∙◌, ⊎_elim, cases_eq, is_some, get_or-set_other, false_from_ne_true as not-so, if◌then◌else◌}
use Rattle.exchange_rules.proofs.Definitions.{Period, Configuration, Action, Alignment, Expiry, action_at, acts_on, LinkTimer, TimerName, Running, Link, down_link, carries_traffic, Node, is_link, link_at, down, in_traffic, set_of, advance, start_unless_running, is_running, is_due, ticked, due_name, after_due, due_count, after-clear, after-none, due-left, left-clear, left-clear_other, left-set_other, left-ticked, one_less, set_timer, clear_timer, L7, after_failure, act_by_timer, run_out, read_frame, receive, with_timers, run_timer, run_due, run_next, run_times, tick, Outgoing, SendsMessage, SendsStatus, Acknowledges, SendsNothing, after_sending, goes_out, Happening, CameUp, WentDown, FrameCame, Ticked, Submitted, Activated, Deactivated, TitleAdded, TitleSet, TitleRemoved, apply, association_up, release, tell_owed, WholeQueues, whole, Released, Done, late_by, order_all}
use Rattle.signalling_types.specs.declared.notice.FailureReason.TheVariants as reasons
use Rattle.link.specs.declared.action.Action.TheVariants as act
use Rattle.link.specs.declared.action.LinkTimer.TheVariants as timer
use Rattle.link.specs.declared.alignment.Alignment.TheVariants.{Proving, InService}
use Rattle.timers.specs.Timers.{is_before, no_tick_left}
use Rattle.timers.specs.declared.name.TimerName.TheVariants as name
use Rattle.timers.specs.declared.name.TimerName.TheVariants.{T8}
use Rattle.timers.proofs.Dues.{due-first, no_ticks}
use Rattle.node_links.specs.NodeLinks.{link_in}
use Rattle.exchange_rules.specs.Aligning.{RunsOut, state_of}
use Rattle.exchange_rules.specs.LawsOfAnswers.{ComesBack, t8_runs_its_time, takes_leave_t8}
use Rattle.exchange_rules.specs.Testing.{serves_set}
use Rattle.exchange_rules.proofs.DueTimers.{next-dues, ran-dues, was-due}
use Rattle.exchange_rules.proofs.ProvedAll.{due-climbs, no-link}
use Rattle.exchange_rules.specs.Reroutings.{first_reroutings}
use Rattle.exchange_rules.proofs.SteppingEvents.{IsOf, AllowsEvent, apply-deeds, run_timer-deeds, settled-steps}
use Rattle.node_links.proofs.Chosen.{carrying-serves}
use Rattle.exchange_rules.proofs.SteppingFailures.{fail-links}
use Rattle.exchange_rules.proofs.SteppingLinks.{association_up-steps, moved-at, advance-links, stepped-other}
use Rattle.exchange_rules.proofs.Serving.{fails-up}
use Rattle.exchange_rules.proofs.Steps.{is_of_link}
use Rattle.exchange_rules.proofs.Tested.{serves-before}
use Rattle.exchange_rules.proofs.TimerSettings.{cases-name}
use Rattle.exchange_rules.proofs.Inhibited.{no-way, serving-is, by-timer, Runs, Kept, rules, runs-on, Enters, advance-runs, Returns, receive-runs}
use Rattle.exchange_rules.proofs.SteppingLate.{late_by-steps, order_all-steps}

module _ (c : Configuration) where
  -- L1 to L4 take no traffic from a link
  out-serves : (link other : ℕ) (its : LinkTimer) (n : Node WholeQueues) → ((period : Period) → action_at period InService (Expiry its) ≡ act.Ignored) → in_traffic n.parts other ≡ true
      → in_traffic (run_out whole c link its n).parts other ≡ true
  out-serves link other its n idle h = by (acts_on (link_at n.parts link) (Expiry its)) refl (cases_eq other link)
    where
      here : (a : Action) → acts_on (link_at n.parts link) (Expiry its) ≡ a → other ≡ link → a ≡ act.Ignored
      here a e same =
          sym e ∙ ap (λ (x : Alignment). action_at (link_at n.parts link).period x (Expiry its)) (serving-is (state_of n.parts link) (carrying-serves (link_at n.parts link) (subst (λ (k : ℕ). in_traffic n.parts k ≡ true) same h))) ∙ idle (link_at n.parts link).period

      by : (a : Action) → acts_on (link_at n.parts link) (Expiry its) ≡ a → (other ≡ link) ⊎ (other ≢ link) → in_traffic (act_by_timer whole c a link n).parts other ≡ true
      by act.Ignored e cases = h
      by act.Fail e (inl same) = (let no : act.Fail ≡ act.Ignored = here act.Fail e same in absurd cc)
      by act.Fail e (inr apart) =
          ap (λ (links : List Link). carries_traffic (link_in links other)) (fail-links c link reasons.Timer n)
          ∙ ap carries_traffic (get_or-set_other n.parts.links link other (after_failure (link_at n.parts link)) down_link apart)
          ∙ h
      by (act.Go step) e (inl same) = (let no : act.Go step ≡ act.Ignored = here (act.Go step) e same in absurd cc)
      by (act.Go step) e (inr apart) =
          ap (λ (links : List Link). carries_traffic (link_in links other))
          (advance-links c link step n)
          ∙ ap carries_traffic (moved-at c link other step n.parts ∙ stepped-other c link other step n.parts apart)
          ∙ h

  -- nor does what runs out before an L4, in the order of names
  next-serves : (its : TimerName) (link other : ℕ) (n : Node WholeQueues) → is_before its (name.L4 link) ≡ true → in_traffic n.parts other ≡ true
      → in_traffic (run_timer whole c its n).parts other ≡ true
  next-serves (name.L1 its) link other n e h = out-serves its other timer.L1 n (λ period. refl) h
  next-serves (name.L2 its) link other n e h = out-serves its other timer.L2 n (λ period. refl) h
  next-serves (name.L3 its) link other n e h = out-serves its other timer.L3 n (λ period. refl) h
  next-serves (name.L4 its) link other n e h = out-serves its other timer.L4 n (λ period. refl) h
  next-serves (name.L6 its) link other n e h = absurd cc
  next-serves (name.L7 its) link other n e h = absurd cc
  next-serves (name.T1 its) link other n e h = absurd cc
  next-serves (name.T2 its) link other n e h = absurd cc
  next-serves (name.T3 its) link other n e h = absurd cc
  next-serves (name.T4 set code) link other n e h = absurd cc
  next-serves (name.T6 destination) link other n e h = absurd cc
  next-serves (name.T8 set destination) link other n e h = absurd cc
  next-serves (name.T10 set destination) link other n e h = absurd cc
  next-serves (name.Slt1 its) link other n e h = absurd cc
  next-serves (name.Slt2 its) link other n e h = absurd cc

module _ (c : Configuration) (s d : ℕ) (first : Node WholeQueues) where
  -- ---- a tick that began like this

  -- the set comes back
  record Proved : Type 0 where
    link : ℕ
    of_set : set_of c link ≡ s
    due : is_due first.parts.timers (name.L4 link) ≡ true
    ready : state_of first.parts link ≡ Proving true
    none : serves_set c first.parts s ≡ false

  -- in the midst of it: links that are to enter service were to do so before, and while L4 is due none ceased to carry
  -- traffic
  record Midst (n : Node WholeQueues) : Type 0 where
    proving : (link : ℕ) → state_of n.parts link ≡ Proving true → state_of first.parts link ≡ Proving true
    dues : (its : TimerName) → is_due n.parts.timers its ≡ true → is_due first.parts.timers its ≡ true
    serving : (link : ℕ) → is_due n.parts.timers (name.L4 link) ≡ true → (other : ℕ) → in_traffic first.parts other ≡ true → in_traffic n.parts other ≡ true
    due : is_due n.parts.timers (T8 s d) ≡ false

  none-before : (n : Node WholeQueues) → ((other : ℕ) → in_traffic first.parts other ≡ true → in_traffic n.parts other ≡ true) → serves_set c n.parts s ≡ false
      → serves_set c first.parts s ≡ false
  none-before n h e = not-so (serves_set c first.parts s) (λ f. no-way (serves_set c n.parts s) (serves-before c n.parts first.parts s h f) e)

  module _ (n : Node WholeQueues) (h : Midst n) where
    abbrev handed : Node WholeQueues
    handed = with_timers n (after_due n.parts.timers)

    own-runs : (a : Action) (link : ℕ) (its : LinkTimer) → (its ≡ timer.L4 → is_due n.parts.timers (name.L4 link) ≡ true) → acts_on (link_at n.parts link) (Expiry its) ≡ a
        → Runs c s d handed → Runs c s d (act_by_timer whole c a link handed) ⊎ Proved
    own-runs act.Ignored link its due e r = inl r
    own-runs act.Fail link its due e r = inl (runs-on c s d handed _ ((rules c s d).fails link reasons.Timer handed tt (fails-up (link_at n.parts link).period (link_at n.parts link).alignment (Expiry its) e)) r)
    own-runs (act.Go step) link its due e r =
        ⊎_elim (λ (k : Runs c s d (advance whole c link step handed)). inl k)
        (λ (k : Enters c s d link step handed).
        let from = by-timer (link_at n.parts link).period (state_of n.parts link) its step e k.enters in
        inr (record {
          link = link;
          of_set = k.of_set;
          due = h.dues (name.L4 link) (due from.0);
          ready = h.proving link from.1;
          none = none-before n (h.serving link (due from.0)) (ap (serves_set c n.parts) (sym k.of_set) ∙ k.first);
        }))
        (advance-runs c s d link (Expiry its) step handed e r)

    out-runs : (link : ℕ) (its : LinkTimer) → (its ≡ timer.L4 → is_due n.parts.timers (name.L4 link) ≡ true) → Runs c s d handed → Runs c s d (run_out whole c link its handed) ⊎ Proved
    out-runs link its due r = own-runs (acts_on (link_at n.parts link) (Expiry its)) link its due refl r

    rest-runs : (its : TimerName) → is_of_link its ≡ false → Runs c s d handed → Runs c s d (run_timer whole c its handed) ⊎ Proved
    rest-runs its none r = inl (runs-on c s d handed _ (run_timer-deeds (rules c s d) its handed (λ link t e. absurd (no-link its link t none e)) (record { ends = λ procedure e. tt; fails = λ link t e f. tt; tests = λ link e. tt; waits = λ link e. tt })) r)

    due-runs : (due : Option TimerName) → due_name n.parts.timers ≡ due → Runs c s d handed → Runs c s d (run_due whole c due handed) ⊎ Proved
    due-runs None e r = inl r
    due-runs (Some (name.L1 link)) e r = out-runs link timer.L1 (λ no. absurd cc) r
    due-runs (Some (name.L2 link)) e r = out-runs link timer.L2 (λ no. absurd cc) r
    due-runs (Some (name.L3 link)) e r = out-runs link timer.L3 (λ no. absurd cc) r
    due-runs (Some (name.L4 link)) e r = out-runs link timer.L4 (λ same. ap no_tick_left (due-left (name.L4 link) n.parts.timers e)) r
    due-runs (Some (name.L6 link)) e r = out-runs link timer.L6 (λ no. absurd cc) r
    due-runs (Some (name.L7 link)) e r = out-runs link timer.L7 (λ no. absurd cc) r
    due-runs (Some (name.T1 link)) e r = rest-runs (name.T1 link) refl r
    due-runs (Some (name.T2 link)) e r = rest-runs (name.T2 link) refl r
    due-runs (Some (name.T3 link)) e r = rest-runs (name.T3 link) refl r
    due-runs (Some (name.T4 set code)) e r = rest-runs (name.T4 set code) refl r
    due-runs (Some (name.T6 destination)) e r = rest-runs (name.T6 destination) refl r
    due-runs (Some (name.T8 set destination)) e r = rest-runs (name.T8 set destination) refl r
    due-runs (Some (name.T10 set destination)) e r = rest-runs (name.T10 set destination) refl r
    due-runs (Some (name.Slt1 link)) e r = rest-runs (name.Slt1 link) refl r
    due-runs (Some (name.Slt2 link)) e r = rest-runs (name.Slt2 link) refl r

    -- T8 isn't due, so it isn't the timer that is handed out
    handed-runs : (due : Option TimerName) → due_name n.parts.timers ≡ due → Runs c s d n → Runs c s d handed
    handed-runs None e r = ap (λ (t : Running). is_running (T8 s d) t) (after-none n.parts.timers e) ∙ r
    handed-runs (Some its) e r =
        ap (λ (t : Running). is_running (T8 s d) t) (after-clear its n.parts.timers e)
        ∙ ⊎_elim
        (λ (same : its ≡ T8 s d).
        no-way (is_due n.parts.timers (T8 s d)) (ap no_tick_left (ap (λ (x : TimerName). n.parts.timers.left x) (sym same) ∙ due-left its n.parts.timers e)) h.due)
        (λ (apart : its ≢ T8 s d). ap is_some (left-clear_other its (T8 s d) n.parts.timers apart) ∙ r)
        (cases-name its (T8 s d))

    next-runs : Runs c s d n → Runs c s d (run_next whole c n) ⊎ Proved
    next-runs r = due-runs (due_name n.parts.timers) refl (handed-runs (due_name n.parts.timers) refl r)

    served : (due : Option TimerName) → due_name n.parts.timers ≡ due → (link : ℕ) → is_due handed.parts.timers (name.L4 link) ≡ true → (other : ℕ) → in_traffic n.parts other ≡ true
        → in_traffic (run_due whole c due handed).parts other ≡ true
    served None e link f other g = g
    served (Some its) e link f other g =
        next-serves c its link other handed
        (due-first its (name.L4 link) n.parts.timers e (no_ticks (n.parts.timers.left (name.L4 link)) (was-due n.parts.timers (name.L4 link) f)) apart) g
      where
        apart : its ≢ name.L4 link
        apart same =
            no-way (is_due handed.parts.timers (name.L4 link)) f
            (ap (λ (t : Running). is_due t (name.L4 link)) (after-clear its n.parts.timers e)
            ∙ ap no_tick_left (ap (λ (x : TimerName). (clear_timer its n.parts.timers).left x) (sym same) ∙ left-clear its n.parts.timers))

    midst-next : Midst (run_next whole c n)
    midst-next = record {
      proving = λ link e. h.proving link ((due-climbs c link Unit (due_name n.parts.timers) handed (λ f. tt)).proving true e);
      dues = λ its e. h.dues its (next-dues c n its e);
      serving = λ link e other f. served (due_name n.parts.timers) refl link (ran-dues c n (name.L4 link) e) other (h.serving link (next-dues c n (name.L4 link) e) other f);
      due = not-so (is_due (run_next whole c n).parts.timers (T8 s d)) (λ e. no-way (is_due n.parts.timers (T8 s d)) (next-dues c n (T8 s d) e) h.due);
    }

  times-run : (many : ℕ) (n : Node WholeQueues) → Midst n → Runs c s d n → Runs c s d (run_times whole c many n) ⊎ Proved
  times-run zero n h r = inl r
  times-run (suc more) n h r =
      ⊎_elim (λ (k : Runs c s d (run_next whole c n)). times-run more (run_next whole c n) (midst-next n h) k) (λ (p : Proved). inr p) (next-runs n h r)

-- ---- events

still-running : (o : Option ℕ) → is_some (one_less o) ≡ is_some o
still-running None = refl
still-running (Some n) = refl

module _ (c : Configuration) (s d : ℕ) (n : Node WholeQueues) where
  -- it stops as it should
  abbrev Ends : Happening → Type 0
  Ends what = RunsOut (T8 s d) what n.parts.timers ⊎ ComesBack c what s n.parts

  settled-runs : (m : Node WholeQueues) → Runs c s d m → Runs c s d (tell_owed whole c (release whole c m))
  settled-runs m r = runs-on c s d m _ (settled-steps (rules c s d) m) r

  tick-runs : (due : Bool) → is_due (ticked n.parts.timers) (T8 s d) ≡ due → Runs c s d n → Runs c s d (apply whole c Ticked n).left ⊎ Ends Ticked
  unfolding apply
  tick-runs true e r = inr (inl (refl, e))
  tick-runs false e r =
      let begun : Node WholeQueues = with_timers n (ticked n.parts.timers) in
      let ran : Node WholeQueues = (tick whole c n).left in
      ⊎_elim (λ (k : Runs c s d ran). inl (settled-runs (order_all whole c ran) (runs-on c s d ran _ (order_all-steps (rules c s d) ran) k)))
      (λ (p : Proved c s d begun). inr (inr (record { link = p.link; of_set = p.of_set; begins = inl (inl ((refl, p.due), p.ready)); first = p.none })))
      (times-run c s d begun (due_count (ticked n.parts.timers)) begun (record { proving = λ link f. f; dues = λ its f. f; serving = λ link f other g. g; due = e })
      (ap is_some (left-ticked (T8 s d) n.parts.timers) ∙ still-running (n.parts.timers.left (T8 s d)) ∙ r))

  frame-runs : (link : ℕ) (text : List ℕ) → Runs c s d n → Runs c s d (apply whole c (FrameCame link text) n).left ⊎ Ends (FrameCame link text)
  unfolding apply
  frame-runs link text r =
      let x : Done WholeQueues = receive whole c link text n in
      ⊎_elim (λ (k : Runs c s d x.left). inl (settled-runs (late_by whole c x.outcome x.left) (runs-on c s d x.left _ (late_by-steps (rules c s d) x.outcome x.left) k)))
      (λ (b : Returns c s d link text n).
      inr (inr (record { link = link; of_set = b.of_set; begins = ⊎_elim (λ h. inl (inr h)) (λ h. inr h) b.said; first = ap (serves_set c n.parts) (sym b.of_set) ∙ b.first })))
      (receive-runs c s d link text (is_link n.parts link) (down n.parts link) (read_frame text) n refl refl r)

  up-runs : (link : ℕ) → Runs c s d n → Runs c s d (apply whole c (CameUp link) n).left
  unfolding apply
  up-runs link r = settled-runs (association_up whole c link n).left (runs-on c s d n _ (association_up-steps (rules c s d) link n tt tt) r)

  allowed : (what : Happening) → ((link : ℕ) → IsOf what link → ⊥) → AllowsEvent c (Kept c s d) what n (first_reroutings c)
  allowed what none = record {
    opens = λ link e. tt;
    lost = λ link e. tt;
    ordered = λ link e. tt;
    released = λ link e. tt;
    frame = λ link text e. absurd (none link (subst (λ (w : Happening). IsOf w link) (sym e) refl));
    words = λ word e. record { ends = λ procedure f. tt; fails = λ link f. tt; answers = λ link f. tt };
    lacking = λ e. tt;
    titles = λ e. tt;
  }

  other-runs : (what : Happening) → ((link : ℕ) → IsOf what link → ⊥) → (what ≡ Ticked → ⊥) → Runs c s d n → Runs c s d (apply whole c what n).left
  other-runs what none unlike r = runs-on c s d n _ (apply-deeds (rules c s d) what n (λ link is. absurd (none link is)) (λ link is. tt) (allowed what none) (λ is. absurd (unlike is))) r

  event-runs : (what : Happening) → Runs c s d n → Runs c s d (apply whole c what n).left ⊎ Ends what
  event-runs Ticked r = tick-runs (is_due (ticked n.parts.timers) (T8 s d)) refl r
  event-runs (FrameCame link text) r = frame-runs link text r
  event-runs (CameUp link) r = inl (up-runs link r)
  event-runs (WentDown link) r = inl (other-runs (WentDown link) (λ k is. is) (λ no. cc) r)
  event-runs (Submitted m) r = inl (other-runs (Submitted m) (λ k is. is) (λ no. cc) r)
  event-runs (Activated link emergency) r = inl (other-runs (Activated link emergency) (λ k is. is) (λ no. cc) r)
  event-runs (Deactivated link) r = inl (other-runs (Deactivated link) (λ k is. is) (λ no. cc) r)
  event-runs (Released link) r = inl (other-runs (Released link) (λ k is. is) (λ no. cc) r)
  event-runs (TitleAdded row refused) r = inl (other-runs (TitleAdded row refused) (λ k is. is) (λ no. cc) r)
  event-runs (TitleSet row refused) r = inl (other-runs (TitleSet row refused) (λ k is. is) (λ no. cc) r)
  event-runs (TitleRemoved key digits) r = inl (other-runs (TitleRemoved key digits) (λ k is. is) (λ no. cc) r)

pub t8-runs : t8_runs_its_time
t8-runs what a set destination r = event-runs a.settings set destination a.node what r

-- ---- what goes out sets no timer but L7

sent-left : (c : Configuration) (s d link : ℕ) (next : Outgoing) (n : Node WholeQueues) → (after_sending whole c link n next).parts.timers.left (T8 s d) ≡ n.parts.timers.left (T8 s d)
unfolding start_unless_running
sent-left c s d link (SendsStatus status) n = refl
sent-left c s d link Acknowledges n = refl
sent-left c s d link SendsNothing n = refl
sent-left c s d link (SendsMessage next) n = by (is_running (L7 link) n.parts.timers)
  where
    by : (b : Bool) → (if b then n.parts.timers else set_timer (L7 link) c.timers.l7 n.parts.timers).left (T8 s d) ≡ n.parts.timers.left (T8 s d)
    by true = refl
    by false = left-set_other (L7 link) (T8 s d) c.timers.l7 n.parts.timers (λ e. cc)

pub takes-leave : takes_leave_t8
takes-leave a link set destination = sent-left a.settings set destination link (goes_out whole a.settings link a.node) a.node
