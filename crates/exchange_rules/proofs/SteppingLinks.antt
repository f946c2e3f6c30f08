-- Links that open, align, fail and go, and a tick: each rule is made of steps.
use Rattle.exchange_rules.proofs.Basics.{◌≡◌, ◌≢◌, ◌<◌, ◌≤◌, ℕ, Bool, true, false, ◌&&◌, not, List, length, refl, ap, ◌∙◌, arith, if◌then◌else◌, ⊎_elim, cases_lt, get_or_past, get_or-set_same, get_or-set_other, length-set, inl, sym, subst}
use Rattle.exchange_rules.proofs.Definitions.{Configuration, Handled, Ignored, FailureReason, LinkStatus, Action, Input, Status, Expiry, LinkTimer, Transition, acts_on, Link, down_link, is_down, is_in_service, stepped, after_failure, may_restart, may_open, open_link, association_up, fail_if_up, end_association, association_down, set_active, activate, deactivate, Parts, Node, Done, with_parts, answer, refuse, is_link, link_at, links_with, down, in_service, facts, set_of, with_set_reset, has_other, changeover_of, fail, step_on, enters, enters_traffic, begun_anew_if, moved_on, advance, serve_status, act_by_status, on_link_status, act_by_timer, run_out, WholeQueues, whole, become_busy, end_busy, in_outage, tells_outage, tells_recovery, let_back, begin_outage, hear_outage, end_outage, Changeover, take_step, test_if, release_bar, is_barred, unbarred}
use Rattle.signalling_types.specs.declared.cause.Cause.TheVariants as causes
use Rattle.signalling_types.specs.declared.notice.FailureReason.TheVariants as reasons
use Rattle.m2pa_codec.specs.declared.status.LinkStatus.TheVariants as says
use Rattle.link.specs.declared.action.Action.TheVariants as act
use Rattle.node_links.specs.NodeLinks.{link_in}
use Rattle.exchange_rules.specs.LawsOfCauses.{fails_by}
use Rattle.exchange_rules.proofs.Serving.{serves-in, fails-up, failing-timer}
use Rattle.exchange_rules.proofs.Steps.{with_busy, without_busy, either_done-steps, Deed, IsOfDeeds, LinkFails, LinkOpens, HoldsEnd, WaitEnds}
use Rattle.exchange_rules.proofs.Outages.{ended-serves, begun-serves, becomes-busy, back-serves, back-in, outage-set, outage-serves, recovery-out, out-serves}
use Rattle.exchange_rules.proofs.OwnRoutes.{reset-sure}
use Rattle.exchange_rules.proofs.ResetFirst.{reset-first}
use Rattle.exchange_rules.proofs.SteppingFailures.{fail-links}
use Rattle.exchange_rules.proofs.SteppingEntries.{front, anew-link, returned-links, set_reset-steps, returned-steps}
use Rattle.exchange_rules.proofs.SteppingTests.{begin_test-links, begin_test-steps}

-- ---- a link that takes a step of its alignment is there

pub stepping-there : (p : Parts) (link : ℕ) (input : Input) (step : Transition) → acts_on (link_at p link) input ≡ act.Go step → link < length p.links
stepping-there p link input step e =
    ⊎_elim
    (λ (there : link < length p.links). there)
    (λ (past : length p.links ≤ link).
    let gone : acts_on (link_at p link) input ≡ act.Ignored = ap (λ (l : Link). acts_on l input) (get_or_past p.links link down_link past) in
    absurd cc)
    (cases_lt link (length p.links))

-- it has the state that the step leads to
pub stepped-at : (c : Configuration) (link : ℕ) (step : Transition) (p : Parts) → link < length p.links → link_at (step_on c link step p) link ≡ stepped step (link_at p link)
stepped-at c link step p there = get_or-set_same p.links link (stepped step (link_at p link)) down_link there

-- and no other link changes
pub stepped-other : (c : Configuration) (link other : ℕ) (step : Transition) (p : Parts) → other ≢ link → link_at (step_on c link step p) other ≡ link_at p other
stepped-other c link other step p apart = get_or-set_other p.links link other (stepped step (link_at p link)) down_link apart

pub moved-at : (c : Configuration) (link other : ℕ) (step : Transition) (p : Parts) → link_at (moved_on c link step p) other ≡ link_at (step_on c link step p) other
moved-at c link other step p = anew-link (enters_traffic link step p && not (has_other c link p)) c link other (step_on c link step p)

-- links are unchanged as a test goes out
pub tested-links : (entered : Bool) (c : Configuration) (link : ℕ) (n : Node WholeQueues) → (test_if whole c entered link n).parts.links ≡ n.parts.links
tested-links true c link n = begin_test-links c link n
tested-links false c link n = refl

pub advance-links : (c : Configuration) (link : ℕ) (step : Transition) (n : Node WholeQueues) → (advance whole c link step n).parts.links ≡ (moved_on c link step n.parts).links
advance-links c link step n =
    tested-links (enters link step n.parts) c link (take_step whole c link step n)
    ∙ returned-links (enters_traffic link step n.parts) c link (facts c n.parts) (with_parts n (moved_on c link step n.parts))

pub advance-at : (c : Configuration) (link : ℕ) (input : Input) (step : Transition) (n : Node WholeQueues) → acts_on (link_at n.parts link) input ≡ act.Go step
    → (link_at (advance whole c link step n).parts link).alignment ≡ step.state
advance-at c link input step n e =
    ap (λ (links : List Link). (link_in links link).alignment) (advance-links c link step n)
    ∙ ap (λ (l : Link). l.alignment) (moved-at c link link step n.parts ∙ stepped-at c link step n.parts (stepping-there n.parts link input step e))

pub advance-serves : (c : Configuration) (link : ℕ) (input : Input) (step : Transition) (n : Node WholeQueues) → acts_on (link_at n.parts link) input ≡ act.Go step
    → in_service (advance whole c link step n).parts link ≡ is_in_service step.state
advance-serves c link input step n e = ap is_in_service (advance-at c link input step n e)

-- a link that fails is down
failed-down : (c : Configuration) (link : ℕ) (why : FailureReason) (n : Node WholeQueues) → down (fail whole c link why n).parts link ≡ true
failed-down c link why n =
    ap (λ (links : List Link). is_down (link_in links link).alignment) (fail-links c link why n)
    ∙ ⊎_elim
    (λ (there : link < length n.parts.links).
    ap (λ (l : Link). is_down l.alignment) (get_or-set_same n.parts.links link (after_failure (link_at n.parts link)) down_link there))
    (λ (past : length n.parts.links ≤ link).
    ap (λ (l : Link). is_down l.alignment)
    (get_or_past (links_with n.parts link (after_failure (link_at n.parts link))) link down_link
    (omega (arith, past, length-set n.parts.links link (after_failure (link_at n.parts link))))))
    (cases_lt link (length n.parts.links))

pub failed_if_up-down : (c : Configuration) (is : Bool) (link : ℕ) (why : FailureReason) (n : Node WholeQueues) → down n.parts link ≡ is
    → down (if is then n else fail whole c link why n).parts link ≡ true
failed_if_up-down c true link why n e = e
failed_if_up-down c false link why n e = failed-down c link why n

-- what a status of the peer may do
pub record AllowsStatus (c : Configuration) (May : Deed → Type 0) (link : ℕ) (status : LinkStatus) (n : Node WholeQueues) : Type 0 where
  pub fails : tells_outage c link status n.parts ≡ false → acts_on (link_at n.parts link) (Status status) ≡ act.Fail → May (LinkFails link reasons.Status)
  pub recovers : tells_recovery link status n.parts ≡ true → May (HoldsEnd (Changeover link))

module _ {c : Configuration} {Own Counts : ℕ → Type 0} {May : Deed → Type 0} {R : Node WholeQueues → Node WholeQueues → Type 0} (s : IsOfDeeds c Own Counts May R) where
  -- ---- a step of an alignment

  -- a link that carries traffic by its step takes its flows back
  pub entered-steps : (link : ℕ) (step : Transition) (n : Node WholeQueues) → link < length n.parts.links
      → R (with_parts n (moved_on c link step n.parts)) (take_step whole c link step n)
  entered-steps link step n there =
      returned-steps s (enters_traffic link step n.parts) link (step_on c link step n.parts) n (record {
        serves = λ e. ap (λ (l : Link). is_in_service l.alignment) (stepped-at c link step n.parts there)
            ∙ front (is_in_service step.state) (not (in_service n.parts link)) (front (enters link step n.parts) (not (link_at n.parts link).untested) e);
        others = λ other apart serves. ap (λ (l : Link). is_in_service l.alignment) (stepped-other c link other step n.parts apart) ∙ serves;
      })

  -- it takes the step, and comes after a reset if it is the first of its set
  moved-steps : (first : Bool) (link : ℕ) (input : Input) (step : Transition) (n : Node WholeQueues) → Own link → acts_on (link_at n.parts link) input ≡ act.Go step
      → (enters_traffic link step n.parts && not (has_other c link n.parts)) ≡ first → R n (with_parts n (begun_anew_if first c link (step_on c link step n.parts)))
  moved-steps false link input step n own e f =
      s.stepped link input step n own e (record { clean = λ is destination. (let no : true ≡ false = sym is ∙ f in absurd cc) })
  moved-steps true link input step n own e f =
      let set : ℕ = set_of c link in
      let reset : Node WholeQueues = with_parts n (with_set_reset c set n.parts) in
      subst (λ (p : Parts). R n (with_parts n p)) (sym (reset-first c set link step n.parts))
      (s.sends.both _ _ _ (set_reset-steps s set n (inl (record { link = link; own = own; is = refl })))
      (s.stepped link input step reset own e (record { clean = λ is destination. reset-sure n.parts.routes set destination })))

  take_step-steps : (link : ℕ) (input : Input) (step : Transition) (n : Node WholeQueues) → Own link → acts_on (link_at n.parts link) input ≡ act.Go step
      → R n (take_step whole c link step n)
  take_step-steps link input step n own e =
      s.sends.both _ _ _ (moved-steps (enters_traffic link step n.parts && not (has_other c link n.parts)) link input step n own e refl)
      (entered-steps link step n (stepping-there n.parts link input step e))

  tested-steps : (entered : Bool) (link : ℕ) (n : Node WholeQueues) → R n (test_if whole c entered link n)
  tested-steps true link n = begin_test-steps s link n
  tested-steps false link n = s.sends.none n

  -- a link that took a step, and its flows back, is tested
  pub tested_if-steps : (link : ℕ) (step : Transition) (n : Node WholeQueues) → R (take_step whole c link step n) (advance whole c link step n)
  tested_if-steps link step n = tested-steps (enters link step n.parts) link (take_step whole c link step n)

  pub advance-steps : (link : ℕ) (input : Input) (step : Transition) (n : Node WholeQueues) → Own link → acts_on (link_at n.parts link) input ≡ act.Go step
      → R n (advance whole c link step n)
  advance-steps link input step n own e =
      s.sends.both _ _ _ (take_step-steps link input step n own e) (tested_if-steps link step n)

  -- ---- statuses and timers of a link

  busy-steps : (busy : Bool) (link : ℕ) (n : Node WholeQueues) → Own link → in_service n.parts link ≡ true → (link_at n.parts link).peer_busy ≡ busy
      → R n (with_parts n (if busy then n.parts else with_busy c link n.parts))
  busy-steps true link n own e f = s.sends.none n
  busy-steps false link n own e f = s.busied link n own e f

  resuming-steps : (busy : Bool) (link : ℕ) (n : Node WholeQueues) → Own link → in_service n.parts link ≡ true → (link_at n.parts link).peer_busy ≡ busy
      → (link_at n.parts link).peer_outage ≡ false → R n (with_parts n (if busy then without_busy c link (whole.outstanding n.queues link) n.parts else n.parts))
  resuming-steps true link n own e f o = s.resumed link n own e f o
  resuming-steps false link n own e f o = s.sends.none n

  ended-steps : (out : Bool) (link : ℕ) (n : Node WholeQueues) → Own link → in_service n.parts link ≡ true → (link_at n.parts link).peer_outage ≡ out
      → R n (with_parts n (if out then n.parts else end_busy c link (whole.outstanding n.queues link) n.parts))
  ended-steps true link n own e o = s.sends.none n
  ended-steps false link n own e o = resuming-steps (link_at n.parts link).peer_busy link n own e refl o

  serve_status-steps : (link : ℕ) (status : LinkStatus) (n : Node WholeQueues) → Own link → in_service n.parts link ≡ true → R n (serve_status whole c link status n)
  serve_status-steps link says.Busy n own e = busy-steps (link_at n.parts link).peer_busy link n own e refl
  serve_status-steps link says.BusyEnded n own e = ended-steps (link_at n.parts link).peer_outage link n own e refl
  serve_status-steps link says.Alignment n own e = s.sends.none n
  serve_status-steps link says.ProvingNormal n own e = s.sends.none n
  serve_status-steps link says.ProvingEmergency n own e = s.sends.none n
  serve_status-steps link says.Ready n own e = s.sends.none n
  serve_status-steps link says.ProcessorOutage n own e = s.sends.none n
  serve_status-steps link says.ProcessorRecovered n own e = s.sends.none n
  serve_status-steps link says.OutOfService n own e = s.sends.none n

  served-steps : (serve : Bool) (link : ℕ) (status : LinkStatus) (n : Node WholeQueues) → Own link → (serve ≡ true → in_service n.parts link ≡ true)
      → R n (if serve then serve_status whole c link status n else n)
  served-steps true link status n own e = serve_status-steps link status n own (e refl)
  served-steps false link status n own e = s.sends.none n

  act_by_status-steps : (a : Action) (link : ℕ) (status : LinkStatus) (n : Node WholeQueues) → Own link → acts_on (link_at n.parts link) (Status status) ≡ a
      → (a ≡ act.Fail → May (LinkFails link reasons.Status)) → R n (act_by_status whole c a link status n).left
  act_by_status-steps act.Ignored link status n own e may = s.sends.none n
  act_by_status-steps act.Fail link status n own e may = s.fails link reasons.Status n (may refl) (fails-up (link_at n.parts link).period (link_at n.parts link).alignment (Status status) e)
  act_by_status-steps (act.Go step) link status n own e may =
      s.sends.both _ _ _ (advance-steps link (Status status) step n own e)
      (served-steps step.serve link status (advance whole c link step n) own
      (λ h. advance-serves c link (Status status) step n e ∙ serves-in (link_at n.parts link).period (link_at n.parts link).alignment (Status status) step e h))

  -- ---- the peer's processor

  begin_outage-steps : (link : ℕ) (n : Node WholeQueues) → Own link → c.processor_outage ≡ true → in_service n.parts link ≡ true → (link_at n.parts link).peer_outage ≡ false
      → R n (begin_outage whole c link n)
  begin_outage-steps link n own set e o =
      let one : Node WholeQueues = with_parts n (end_busy c link (whole.outstanding n.queues link) n.parts) in
      let two : Node WholeQueues = with_parts n (become_busy c link one.parts) in
      let e1 : in_service one.parts link ≡ true = ended-serves c link (whole.outstanding n.queues link) n.parts link ∙ e in
      let e2 : in_service two.parts link ≡ true = begun-serves c link one.parts link ∙ e1 in
      s.sends.both n one _ (resuming-steps (link_at n.parts link).peer_busy link n own e refl o)
      (s.sends.both one two _ (busy-steps (link_at one.parts link).peer_busy link one own e1 refl) (s.put link two set e2 (becomes-busy c link one.parts e1)))

  hear_outage-steps : (out : Bool) (link : ℕ) (n : Node WholeQueues) → Own link → c.processor_outage ≡ true → in_service n.parts link ≡ true → (link_at n.parts link).peer_outage ≡ out
      → R n (if out then n else begin_outage whole c link n)
  hear_outage-steps true link n own set e o = s.sends.none n
  hear_outage-steps false link n own set e o = begin_outage-steps link n own set e o

  end_outage-steps : (link : ℕ) (n : Node WholeQueues) → Own link → in_outage n.parts link ≡ true → May (HoldsEnd (Changeover link)) → R n (end_outage whole c link n)
  end_outage-steps link n own out may =
      let e : in_service n.parts link ≡ true = out-serves n.parts link out in
      let back : Node WholeQueues = with_parts n (let_back link n.parts) in
      s.sends.both n back _ (s.back link n out may)
      (resuming-steps (link_at back.parts link).peer_busy link back own (back-serves link n.parts link ∙ e) refl (back-in link n.parts e))

  pub on_link_status-steps : (link : ℕ) (status : LinkStatus) (n : Node WholeQueues) → Own link → AllowsStatus c May link status n → R n (on_link_status whole c link status n).left
  on_link_status-steps link status n own allows = told (tells_outage c link status n.parts) (tells_recovery link status n.parts) refl refl
    where
      told : (out back : Bool) → tells_outage c link status n.parts ≡ out → tells_recovery link status n.parts ≡ back
          → R n (if out then answer Handled (hear_outage whole c link n) else if back then answer Handled (end_outage whole c link n)
          else act_by_status whole c (acts_on (link_at n.parts link) (Status status)) link status n).left
      told true back e f = hear_outage-steps (link_at n.parts link).peer_outage link n own (outage-set c link status n.parts e) (outage-serves c link status n.parts e) refl
      told false true e f = end_outage-steps link n own (recovery-out link status n.parts f) (allows.recovers f)
      told false false e f = act_by_status-steps (acts_on (link_at n.parts link) (Status status)) link status n own refl (allows.fails e)

  act_by_timer-steps : (a : Action) (link : ℕ) (timer : LinkTimer) (n : Node WholeQueues) → Own link → acts_on (link_at n.parts link) (Expiry timer) ≡ a
      → (fails_by timer ≡ true → May (LinkFails link reasons.Timer)) → R n (act_by_timer whole c a link n)
  act_by_timer-steps act.Ignored link timer n own e may = s.sends.none n
  act_by_timer-steps act.Fail link timer n own e may = s.fails link reasons.Timer n (may (failing-timer (link_at n.parts link).period (link_at n.parts link).alignment timer e))
      (fails-up (link_at n.parts link).period (link_at n.parts link).alignment (Expiry timer) e)
  act_by_timer-steps (act.Go step) link timer n own e may = advance-steps link (Expiry timer) step n own e

  pub run_out-steps : (link : ℕ) (timer : LinkTimer) (n : Node WholeQueues) → Own link → (fails_by timer ≡ true → May (LinkFails link reasons.Timer)) → R n (run_out whole c link timer n)
  run_out-steps link timer n own may = act_by_timer-steps (acts_on (link_at n.parts link) (Expiry timer)) link timer n own refl may

  -- ---- associations, and the operator's word

  opened-steps : (opens restarts : Bool) (link : ℕ) (n : Node WholeQueues) → Counts link → is_link n.parts link ≡ true → may_open (link_at n.parts link) ≡ opens
      → may_restart (changeover_of n.parts link) ≡ restarts → May (LinkOpens link)
      → R n (if opens then (if restarts then answer Handled (open_link whole c link n) else refuse causes.ChangeoverPending n) else refuse causes.LinkNotReady n).left
  opened-steps true true link n own there e f may = s.opened link n own there e f may
  opened-steps true false link n own there e f may = s.sends.none n
  opened-steps false restarts link n own there e f may = s.sends.none n

  known-steps : (there : Bool) (link : ℕ) (n : Node WholeQueues) → Counts link → is_link n.parts link ≡ there → May (LinkOpens link)
      → R n (if there then (if may_open (link_at n.parts link)
      then (if may_restart (changeover_of n.parts link) then answer Handled (open_link whole c link n) else refuse causes.ChangeoverPending n)
      else refuse causes.LinkNotReady n) else refuse causes.NoSuchName n).left
  known-steps true link n own e may = opened-steps (may_open (link_at n.parts link)) (may_restart (changeover_of n.parts link)) link n own e refl refl may
  known-steps false link n own e may = s.sends.none n

  pub association_up-steps : (link : ℕ) (n : Node WholeQueues) → Counts link → May (LinkOpens link) → R n (association_up whole c link n).left
  association_up-steps link n own may = known-steps (is_link n.parts link) link n own refl may

  fail_if_up-steps : (link : ℕ) (why : FailureReason) (n : Node WholeQueues) → May (LinkFails link why) → R n (fail_if_up whole c link why n)
  fail_if_up-steps link why n may = by (down n.parts link) refl
    where
      by : (gone : Bool) → down n.parts link ≡ gone → R n (if gone then n else fail whole c link why n)
      by true e = s.sends.none n
      by false e = s.fails link why n may e

  pub association_down-steps : (link : ℕ) (n : Node WholeQueues) → May (LinkFails link reasons.Association) → R n (association_down whole c link n).left
  association_down-steps link n may =
      let gone : Node WholeQueues = fail_if_up whole c link reasons.Association n in
      let ended : Done WholeQueues = answer Handled (end_association whole c link gone) in
      either_done-steps s.sends (is_link n.parts link) n (if (link_at n.parts link).association then ended else answer Ignored n) (refuse causes.NoSuchName n)
      (either_done-steps s.sends (link_at n.parts link).association n ended (answer Ignored n)
      (s.sends.both _ _ _ (fail_if_up-steps link reasons.Association n may)
      (s.parted link gone (failed_if_up-down c (down n.parts link) link reasons.Association n refl))) (s.sends.none n)) (s.sends.none n)

  pub set_active-steps : (active emergency : Bool) (link : ℕ) (n : Node WholeQueues) → R n (set_active whole c active emergency link n)
  set_active-steps active emergency link n =
      s.linked link (record (link_at n.parts link) { active = active; emergency = emergency }) n (record { alignment = refl; period = refl; association = refl; busy = refl; waits = inl refl; untested = refl }) refl

  pub activate-steps : (emergency : Bool) (link : ℕ) (n : Node WholeQueues) → R n (activate whole c emergency link n).left
  activate-steps emergency link n =
      either_done-steps s.sends (is_link n.parts link) n (answer Handled (set_active whole c true emergency link n)) (refuse causes.NoSuchName n) (set_active-steps true emergency link n) (s.sends.none n)

  pub release_bar-steps : (link : ℕ) (n : Node WholeQueues) → May (WaitEnds link) → R n (release_bar whole c link n).left
  release_bar-steps link n may =
      either_done-steps s.sends (is_link n.parts link) n (if is_barred (changeover_of n.parts link) then freed else answer Ignored n) (refuse causes.NoSuchName n)
      (by (is_barred (changeover_of n.parts link)) refl) (s.sends.none n)
    where
      freed : Done WholeQueues
      freed = answer Handled (with_parts n (unbarred link n.parts))

      by : (barred : Bool) → is_barred (changeover_of n.parts link) ≡ barred → R n (if barred then freed else answer Ignored n).left
      by true e = s.releases link n e may
      by false e = s.sends.none n

  pub deactivate-steps : (link : ℕ) (n : Node WholeQueues) → May (LinkFails link reasons.Operator) → R n (deactivate whole c link n).left
  deactivate-steps link n may =
      let gone : Node WholeQueues = fail_if_up whole c link reasons.Operator n in
      either_done-steps s.sends (is_link n.parts link) n (answer Handled (set_active whole c false false link gone)) (refuse causes.NoSuchName n)
      (s.sends.both _ _ _ (fail_if_up-steps link reasons.Operator n may) (set_active-steps false false link gone)) (s.sends.none n)
