-- Associations and orders, statuses and timers of links: what is kept of the node that a rule leaves is what the rule
-- leaves of what was kept, and it stays sound. Over any two kinds of queues P and Q of which h keeps one as the other.
use Rattle.exchange_rules.proofs.Basics.{ℕ, Bool, zero, suc, true, false, Option, Some, None, refl, ap, if◌then◌else◌, List, ◌∙◌}
use Rattle.exchange_rules.proofs.Definitions.{Configuration, Handled, Ignored, FailureReason, LinkStatus, Action, Status, Expiry, LinkTimer, Transition, acts_on, TimerName, ticked, due_name, due_count, after_due, may_restart, Node, Done, QueueKind, keep, with_parts, answer, refuse, is_link, link_at, down, may_open, begun, open_link, association_up, fail_if_up, end_association, association_down, with_active, set_active, activate, deactivate, without_association, changeover_of, fail, advance, end_busy, serve_status, step_by_status, act_by_status, on_link_status, act_by_timer, run_out, with_timers, run_timer, run_due, run_next, run_times, tick, tells_outage, tells_recovery, begin_outage, hear_outage, end_outage, hear_busy_ended, put_out, become_busy, let_back, Message, run_all, count_subsystems, release_bar, is_barred, unbarred}
use Rattle.signalling_types.specs.declared.cause.Cause.TheVariants as causes
use Rattle.signalling_types.specs.declared.notice.FailureReason.TheVariants as reasons
use Rattle.m2pa_codec.specs.declared.status.LinkStatus.TheVariants as says
use Rattle.link.specs.declared.action.Action.TheVariants as act
use Rattle.link.specs.declared.action.LinkTimer.TheVariants as timer
use Rattle.timers.specs.declared.name.TimerName.TheVariants as name
use Rattle.signalling_types.specs.declared.notice.ChangeoverTimer.TheVariants as changeover
use Rattle.exchange_rules.proofs.Combining.{IsKeeping, KeepsNode, Keeps, changed, answered, parted, either, parts-kept, either_node, behind_node}
use Rattle.exchange_rules.proofs.KeepingMessages.{ask_again-kept}
use Rattle.exchange_rules.proofs.KeepingLinkTests.{advance-kept, begin_test-kept, test_unanswered-kept}
use Rattle.exchange_rules.proofs.KeepingChangeover.{fail-kept, on_changeover_timer-kept}

module _ {P Q : Type 0} (p : QueueKind P) (q : QueueKind Q) (h : P → Q) (IsFit : P → Type 0) (c : Configuration) (k : IsKeeping p q h IsFit c.window) where
  -- ---- links

  pub association_up-kept : (l : ℕ) (n : Node P) → IsFit n.queues → Keeps h IsFit (association_up q c l (keep h n)) (association_up p c l n)
  association_up-kept l n f =
      let opened : Done P = answer Handled (open_link p c l n) in
      let restarted : Done P = if may_restart (changeover_of n.parts l) then opened else refuse causes.ChangeoverPending n in
      either (is_link n.parts l) _ _ (if may_open (link_at n.parts l) then restarted else refuse causes.LinkNotReady n) (refuse causes.NoSuchName n)
      (either (may_open (link_at n.parts l)) _ _ restarted (refuse causes.LinkNotReady n)
      (either (may_restart (changeover_of n.parts l)) _ _ opened (refuse causes.ChangeoverPending n)
      (answered _ _ _ (changed _ _ (begun c l n.parts) (k.started n.queues l f))) (parted _ n.parts n.queues f))
      (parted _ n.parts n.queues f))
      (parted _ n.parts n.queues f)

  fail_if_up-kept : (l : ℕ) (why : FailureReason) (n : Node P) → IsFit n.queues → KeepsNode h IsFit (fail_if_up q c l why (keep h n)) (fail_if_up p c l why n)
  fail_if_up-kept l why n f = either_node (down n.parts l) _ _ n (fail p c l why n) (record { same = refl; fit = f }) (fail-kept p q h IsFit c k l why n f)

  pub association_down-kept : (l : ℕ) (n : Node P) → IsFit n.queues → Keeps h IsFit (association_down q c l (keep h n)) (association_down p c l n)
  association_down-kept l n f =
      either (is_link n.parts l) _ _
      (if (link_at n.parts l).association then answer Handled (end_association p c l (fail_if_up p c l reasons.Association n)) else answer Ignored n) (refuse causes.NoSuchName n)
      (either (link_at n.parts l).association _ _ (answer Handled (end_association p c l (fail_if_up p c l reasons.Association n))) (answer Ignored n)
      (answered _ _ _ (parts-kept (without_association l) _ _ (fail_if_up-kept l reasons.Association n f))) (parted _ n.parts n.queues f))
      (parted _ n.parts n.queues f)

  pub activate-kept : (emergency : Bool) (l : ℕ) (n : Node P) → IsFit n.queues → Keeps h IsFit (activate q c emergency l (keep h n)) (activate p c emergency l n)
  activate-kept emergency l n f =
      either (is_link n.parts l) _ _ (answer Handled (set_active p c true emergency l n)) (refuse causes.NoSuchName n) (parted _ _ n.queues f) (parted _ n.parts n.queues f)

  pub release_bar-kept : (l : ℕ) (n : Node P) → IsFit n.queues → Keeps h IsFit (release_bar q c l (keep h n)) (release_bar p c l n)
  release_bar-kept l n f =
      let freed : Done P = answer Handled (with_parts n (unbarred l n.parts)) in
      either (is_link n.parts l) _ _ (if is_barred (changeover_of n.parts l) then freed else answer Ignored n) (refuse causes.NoSuchName n)
      (either (is_barred (changeover_of n.parts l)) _ _ freed (answer Ignored n) (parted _ _ n.queues f) (parted _ n.parts n.queues f))
      (parted _ n.parts n.queues f)

  pub deactivate-kept : (l : ℕ) (n : Node P) → IsFit n.queues → Keeps h IsFit (deactivate q c l (keep h n)) (deactivate p c l n)
  deactivate-kept l n f =
      either (is_link n.parts l) _ _ (answer Handled (set_active p c false false l (fail_if_up p c l reasons.Operator n))) (refuse causes.NoSuchName n)
      (answered _ _ _ (parts-kept (with_active false false l) _ _ (fail_if_up-kept l reasons.Operator n f))) (parted _ n.parts n.queues f)

  -- ---- statuses and timers

  serve_status-kept : (l : ℕ) (status : LinkStatus) (n : Node P) → IsFit n.queues → KeepsNode h IsFit (serve_status q c l status (keep h n)) (serve_status p c l status n)
  serve_status-kept l says.Busy n f = record { same = refl; fit = f }
  serve_status-kept l says.BusyEnded n f =
      record { same = ap (λ (o : ℕ). with_parts (keep h n) (hear_busy_ended c l o n.parts)) (k.outstanding n.queues l); fit = f }
  serve_status-kept l says.Alignment n f = record { same = refl; fit = f }
  serve_status-kept l says.ProvingNormal n f = record { same = refl; fit = f }
  serve_status-kept l says.ProvingEmergency n f = record { same = refl; fit = f }
  serve_status-kept l says.Ready n f = record { same = refl; fit = f }
  serve_status-kept l says.ProcessorOutage n f = record { same = refl; fit = f }
  serve_status-kept l says.ProcessorRecovered n f = record { same = refl; fit = f }
  serve_status-kept l says.OutOfService n f = record { same = refl; fit = f }

  step_by_status-kept : (l : ℕ) (status : LinkStatus) (step : Transition) (n : Node P) → IsFit n.queues
      → KeepsNode h IsFit (step_by_status q c l status step (keep h n)) (step_by_status p c l status step n)
  step_by_status-kept l status step n f =
      let next : Node P = advance p c l step n in
      let e : KeepsNode h IsFit (advance q c l step (keep h n)) next = advance-kept p q h IsFit c k l step n f in
      either_node step.serve _ _ (serve_status p c l status next) next
      (behind_node (λ (z : Node Q). serve_status q c l status z) (serve_status p c l status next) _ next e.same (serve_status-kept l status next e.fit)) e

  act_by_status-kept : (a : Action) (l : ℕ) (status : LinkStatus) (n : Node P) → IsFit n.queues → Keeps h IsFit (act_by_status q c a l status (keep h n)) (act_by_status p c a l status n)
  act_by_status-kept act.Ignored l status n f = parted _ n.parts n.queues f
  act_by_status-kept act.Fail l status n f = answered _ _ _ (fail-kept p q h IsFit c k l _ n f)
  act_by_status-kept (act.Go step) l status n f = answered _ _ _ (step_by_status-kept l status step n f)

  begin_outage-kept : (l : ℕ) (n : Node P) → IsFit n.queues → KeepsNode h IsFit (begin_outage q c l (keep h n)) (begin_outage p c l n)
  begin_outage-kept l n f = record {
    same =
        ap (λ (o : ℕ). with_parts (keep h n) (put_out c l (q.unconfirmed (h n.queues) l) (become_busy c l (end_busy c l o n.parts)))) (k.outstanding n.queues l)
        ∙ ap (λ (ms : List Message). with_parts (keep h n) (put_out c l ms (become_busy c l (end_busy c l (p.outstanding n.queues l) n.parts)))) (k.unconfirmed n.queues l);
    fit = f;
  }

  end_outage-kept : (l : ℕ) (n : Node P) → IsFit n.queues → KeepsNode h IsFit (end_outage q c l (keep h n)) (end_outage p c l n)
  end_outage-kept l n f = record { same = ap (λ (o : ℕ). with_parts (keep h n) (end_busy c l o (let_back l n.parts))) (k.outstanding n.queues l); fit = f }

  pub on_link_status-kept : (l : ℕ) (status : LinkStatus) (n : Node P) → IsFit n.queues → Keeps h IsFit (on_link_status q c l status (keep h n)) (on_link_status p c l status n)
  on_link_status-kept l status n f =
      let back : Done P = answer Handled (end_outage p c l n) in
      let acted : Done P = act_by_status p c (acts_on (link_at n.parts l) (Status status)) l status n in
      either (tells_outage c l status n.parts) _ _ (answer Handled (hear_outage p c l n)) (if tells_recovery l status n.parts then back else acted)
      (answered _ _ _ (either_node (link_at n.parts l).peer_outage _ _ n (begin_outage p c l n) (record { same = refl; fit = f }) (begin_outage-kept l n f)))
      (either (tells_recovery l status n.parts) _ _ back acted (answered _ _ _ (end_outage-kept l n f))
      (act_by_status-kept (acts_on (link_at n.parts l) (Status status)) l status n f))

  act_by_timer-kept : (a : Action) (l : ℕ) (n : Node P) → IsFit n.queues → KeepsNode h IsFit (act_by_timer q c a l (keep h n)) (act_by_timer p c a l n)
  act_by_timer-kept act.Ignored l n f = record { same = refl; fit = f }
  act_by_timer-kept act.Fail l n f = fail-kept p q h IsFit c k l _ n f
  act_by_timer-kept (act.Go step) l n f = advance-kept p q h IsFit c k l step n f

  run_out-kept : (l : ℕ) (t : LinkTimer) (n : Node P) → IsFit n.queues → KeepsNode h IsFit (run_out q c l t (keep h n)) (run_out p c l t n)
  run_out-kept l t n f = act_by_timer-kept (acts_on (link_at n.parts l) (Expiry t)) l n f

  run_timer-kept : (t : TimerName) (n : Node P) → IsFit n.queues → KeepsNode h IsFit (run_timer q c t (keep h n)) (run_timer p c t n)
  run_timer-kept (name.L1 l) n f = run_out-kept l timer.L1 n f
  run_timer-kept (name.L2 l) n f = run_out-kept l timer.L2 n f
  run_timer-kept (name.L3 l) n f = run_out-kept l timer.L3 n f
  run_timer-kept (name.L4 l) n f = run_out-kept l timer.L4 n f
  run_timer-kept (name.L6 l) n f = run_out-kept l timer.L6 n f
  run_timer-kept (name.L7 l) n f = run_out-kept l timer.L7 n f
  run_timer-kept (name.T1 l) n f = on_changeover_timer-kept p q h IsFit c k changeover.T1 l n f
  run_timer-kept (name.T2 l) n f = on_changeover_timer-kept p q h IsFit c k changeover.T2 l n f
  run_timer-kept (name.T3 l) n f = record { same = refl; fit = f }
  run_timer-kept (name.T4 s code) n f = record { same = refl; fit = f }
  run_timer-kept (name.T6 d) n f = record { same = refl; fit = f }
  run_timer-kept (name.T8 s d) n f = record { same = refl; fit = f }
  run_timer-kept (name.T10 s d) n f = ask_again-kept p q h IsFit c k s d n f
  run_timer-kept (name.Slt1 l) n f = test_unanswered-kept p q h IsFit c k l n f
  run_timer-kept (name.Slt2 l) n f = begin_test-kept p q h IsFit c k l n f

  run_due-kept : (due : Option TimerName) (n : Node P) → IsFit n.queues → KeepsNode h IsFit (run_due q c due (keep h n)) (run_due p c due n)
  run_due-kept None n f = record { same = refl; fit = f }
  run_due-kept (Some t) n f = run_timer-kept t n f

  run_next-kept : (n : Node P) → IsFit n.queues → KeepsNode h IsFit (run_next q c (keep h n)) (run_next p c n)
  run_next-kept n f = run_due-kept (due_name n.parts.timers) (with_timers n (after_due n.parts.timers)) f

  run_times-kept : (many : ℕ) (n : Node P) → IsFit n.queues → KeepsNode h IsFit (run_times q c many (keep h n)) (run_times p c many n)
  run_times-kept zero n f = record { same = refl; fit = f }
  run_times-kept (suc more) n f =
      let e : KeepsNode h IsFit (run_next q c (keep h n)) (run_next p c n) = run_next-kept n f in
      behind_node (λ (z : Node Q). run_times q c more z) (run_times p c more (run_next p c n)) _ (run_next p c n) e.same (run_times-kept more (run_next p c n) e.fit)

  pub tick-kept : (n : Node P) → IsFit n.queues → Keeps h IsFit (tick q c (keep h n)) (tick p c n)
  tick-kept n f =
      let m : Node P = with_timers n (ticked n.parts.timers) in
      let e : KeepsNode h IsFit (run_all q c (keep h m)) (run_all p c m) = run_times-kept (due_count m.parts.timers) m f in
      answered _ _ _
      (behind_node (λ (z : Node Q). count_subsystems c z) (count_subsystems c (run_all p c m)) _ (run_all p c m) e.same (record { same = refl; fit = e.fit }))
