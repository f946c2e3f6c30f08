-- What lets a link go on, and what doesn't: rules, ticks and frames.
use Rattle.exchange_rules.proofs.Basics.{◌≡◌, ◌≢◌, ◌⊎◌, inl, inr, ℕ, zero, suc, Bool, true, false, Option, Some, None, Result, Ok, Err, refl, ap, sym, subst, ◌∙◌, cases_eq, if◌then◌else◌}
use Rattle.exchange_rules.proofs.Definitions.{Configuration, Action, Alignment, Input, Expiry, Status, UserData, Go, Transition, acts_on, LinkStatus, LinkTimer, TimerName, Running, is_due, due-left, SeqFault, Parts, Node, with_parts, link_at, in_service, after_due, due_name, timer_name, timed_parts, Carrying, numbers, accept, owing, handle_by, act_by_data, act_by_status, act_by_timer, run_out, serve_status, advance, with_timers, run_timer, run_due, run_next, run_times, WholeQueues, whole, Message, begin_outage, hear_outage, end_outage, answer, Handled, become_busy, end_busy, let_back}
use Rattle.signalling_types.specs.declared.notice.FailureReason.TheVariants as reasons
use Rattle.m2pa_codec.specs.declared.status.LinkStatus.TheVariants as says
use Rattle.link.specs.declared.action.Action.TheVariants as act
use Rattle.link.specs.declared.action.LinkTimer.TheVariants as timer
use Rattle.timers.specs.declared.name.TimerName.TheVariants as name
use Rattle.exchange_rules.specs.Aligning.{state_of}
use Rattle.exchange_rules.proofs.LeftAll.{but}
use Rattle.exchange_rules.proofs.Serving.{data-serves, fails-up, serves-up}
use Rattle.exchange_rules.proofs.Steps.{IsOfSteps, IsOfRules, is_of_link, with_busy, without_busy}
use Rattle.exchange_rules.proofs.Rules.{rules-of}
use Rattle.exchange_rules.proofs.SteppingLinks.{advance-at, advance-serves, run_out-steps}
use Rattle.exchange_rules.proofs.SteppingEvents.{carry-steps, owing-serves, run_timer-steps}
use Rattle.exchange_rules.proofs.ProvedFirst.{aligned-from, Climbs, Hears, both-climb, each-leads, frame-hears, heard-climbs, kind_of, no-timer, same-hears, timer-climbs}
use Rattle.exchange_rules.proofs.ProvedKeeps.{Keeps, alike-keeps, both-keep, down-keeps, keeps-climbs, other-keeps, same-keeps}
use Rattle.exchange_rules.proofs.DueTimers.{next-dues}
use Rattle.m2pa_codec.specs.Frames.{status_number}
use Rattle.timers.specs.Timers.{no_tick_left}

-- a timer of no link
pub no-link : (due : TimerName) (link : ℕ) (its : LinkTimer) → is_of_link due ≡ false → due ≡ timer_name link its → ⊥
no-link due link its e f = (let no : is_of_link (timer_name link its) ≡ false = ap is_of_link (sym f) ∙ e in is-one its no)
  where
    is-one : (t : LinkTimer) → is_of_link (timer_name link t) ≡ false → ⊥
    is-one timer.L1 h = absurd cc
    is-one timer.L2 h = absurd cc
    is-one timer.L3 h = absurd cc
    is-one timer.L4 h = absurd cc
    is-one timer.L6 h = absurd cc
    is-one timer.L7 h = absurd cc

module _ (c : Configuration) (l : ℕ) where
  keep-steps : IsOfSteps c (but l) (but l) (Keeps l)
  keep-steps = record {
    none = λ n. same-keeps l n n refl;
    both = both-keep l;
    routed = λ link m n e. same-keeps l n _ refl;
    declared = λ link other code n e f. same-keeps l n _ refl;
    tested = λ link point test n e f. same-keeps l n _ refl;
    probed = λ link n e. same-keeps l n _ refl;
    held = λ m n e. same-keeps l n _ refl;
    taken_out = λ n. same-keeps l n _ refl;
    noted = λ notice n e. same-keeps l n _ refl;
    lost = λ n. same-keeps l n _ refl;
    counted = λ messages broken n. same-keeps l n _ refl;
    asked = λ link n e. same-keeps l n _ refl;
    late = λ n. same-keeps l n _ refl;
    timed = λ r n e. same-keeps l n _ refl;
    holding = λ h n e. same-keeps l n _ refl;
    coded = λ set code awaited n. same-keeps l n _ refl;
    rerouted = λ routes n e. same-keeps l n _ refl;
    told = λ t n e. same-keeps l n _ refl;
    titled = λ rows n. same-keeps l n _ refl;
    unequipped = λ counts n e. same-keeps l n _ refl;
    failed = λ link why st n e f. down-keeps l link _ n _ refl refl;
    dropped = λ link why n e. down-keeps l link _ n _ refl refl;
    completed = λ link number st n e f. same-keeps l n _ refl;
    answered = λ link st n e f w. same-keeps l n _ refl;
    linked = λ link x n e o. alike-keeps l link x n _ refl e.alignment;
    parted = λ link n e. alike-keeps l link _ n _ refl refl;
    opened = λ link n own there e f. other-keeps l link _ n _ refl own;
    stepped = λ link input step n own e. other-keeps l link _ n _ refl own;
    passed = λ link n e. alike-keeps l link _ n _ refl refl;
    busied = λ link n own e f. alike-keeps l link _ n _ refl refl;
    resumed = λ link n own e f. alike-keeps l link _ n _ refl refl;
    accepted = λ link d confirmed n own e f. same-keeps l n _ refl;
    sent = λ link next n own e. alike-keeps l link _ n _ refl refl;
  }

  pub keeps : IsOfRules c (but l) (but l) (Keeps l)
  keeps = rules-of keep-steps

  -- ---- a tick

  -- by D L4 of the link runs out
  abbrev pub Climbing : (D : Type 0) (n m : Node WholeQueues) → Type 0
  Climbing D n m = Climbs D (state_of n.parts l) (state_of m.parts l)

  run_own-climbs : (D : Type 0) (a : Action) (its : LinkTimer) (n : Node WholeQueues) → (its ≡ timer.L4 → D) → acts_on (link_at n.parts l) (Expiry its) ≡ a → Climbing D n (act_by_timer whole c a l n)
  run_own-climbs D act.Ignored its n d e = keeps-climbs D l n n (same-keeps l n n refl)
  run_own-climbs D act.Fail its n d e = keeps-climbs D l n _ (keeps.fails l reasons.Timer n tt (fails-up (link_at n.parts l).period (link_at n.parts l).alignment (Expiry its) e))
  run_own-climbs D (act.Go step) its n d e =
      subst (λ (y : Alignment). Climbs D (state_of n.parts l) y) (sym (advance-at c l (Expiry its) step n e))
      (timer-climbs D its (state_of n.parts l) step.state d (each-leads (link_at n.parts l).period (state_of n.parts l) (Expiry its) step e))

  run_out-climbs : (D : Type 0) (link : ℕ) (its : LinkTimer) (n : Node WholeQueues) → (link ≡ l → its ≡ timer.L4 → D) → Climbing D n (run_out whole c link its n)
  run_out-climbs D link its n d = by (cases_eq link l)
    where
      by : (link ≡ l) ⊎ (link ≢ l) → Climbing D n (run_out whole c link its n)
      by (inl same) =
          subst (λ (k : ℕ). Climbing D n (run_out whole c k its n)) (sym same) (run_own-climbs D (acts_on (link_at n.parts l) (Expiry its)) its n (d same) refl)
      by (inr apart) = keeps-climbs D l n _ (run_out-steps keeps link its n apart (λ e. tt))

  other-climbs : (D : Type 0) (due : TimerName) (n : Node WholeQueues) → is_of_link due ≡ false → Climbing D n (run_timer whole c due n)
  other-climbs D due n e = keeps-climbs D l n _ (run_timer-steps keeps due n (λ link its f. absurd (no-link due link its e f)))

  pub due-climbs : (D : Type 0) (due : Option TimerName) (n : Node WholeQueues) → (due ≡ Some (name.L4 l) → D) → Climbing D n (run_due whole c due n)
  due-climbs D None n d = keeps-climbs D l n n (same-keeps l n n refl)
  due-climbs D (Some (name.L1 link)) n d = run_out-climbs D link timer.L1 n (λ same no. absurd cc)
  due-climbs D (Some (name.L2 link)) n d = run_out-climbs D link timer.L2 n (λ same no. absurd cc)
  due-climbs D (Some (name.L3 link)) n d = run_out-climbs D link timer.L3 n (λ same no. absurd cc)
  due-climbs D (Some (name.L4 link)) n d = run_out-climbs D link timer.L4 n (λ same is. d (ap (λ (k : ℕ). Some (name.L4 k)) same))
  due-climbs D (Some (name.L6 link)) n d = run_out-climbs D link timer.L6 n (λ same no. absurd cc)
  due-climbs D (Some (name.L7 link)) n d = run_out-climbs D link timer.L7 n (λ same no. absurd cc)
  due-climbs D (Some (name.T1 link)) n d = other-climbs D (name.T1 link) n refl
  due-climbs D (Some (name.T2 link)) n d = other-climbs D (name.T2 link) n refl
  due-climbs D (Some (name.T3 link)) n d = other-climbs D (name.T3 link) n refl
  due-climbs D (Some (name.T4 set code)) n d = other-climbs D (name.T4 set code) n refl
  due-climbs D (Some (name.T6 destination)) n d = other-climbs D (name.T6 destination) n refl
  due-climbs D (Some (name.T8 set destination)) n d = other-climbs D (name.T8 set destination) n refl
  due-climbs D (Some (name.T10 set destination)) n d = other-climbs D (name.T10 set destination) n refl
  due-climbs D (Some (name.Slt1 link)) n d = other-climbs D (name.Slt1 link) n refl
  due-climbs D (Some (name.Slt2 link)) n d = other-climbs D (name.Slt2 link) n refl

  -- of a tick that began with these timers due: none becomes due in the midst of it
  pub times-climb : (r : Running) (many : ℕ) (n : Node WholeQueues) → ((its : TimerName) → is_due n.parts.timers its ≡ true → is_due r its ≡ true) → Climbing (is_due r (name.L4 l) ≡ true) n (run_times whole c many n)
  times-climb r zero n dues = keeps-climbs _ l n n (same-keeps l n n refl)
  times-climb r (suc more) n dues =
      let handed : Node WholeQueues = with_timers n (after_due n.parts.timers) in
      let ran : Node WholeQueues = run_next whole c n in
      both-climb (is_due r (name.L4 l) ≡ true) (state_of n.parts l) (state_of ran.parts l) (state_of (run_times whole c more ran).parts l)
      (due-climbs _ (due_name n.parts.timers) handed (λ e. dues (name.L4 l) (ap no_tick_left (due-left (name.L4 l) n.parts.timers e))))
      (times-climb r more ran (λ its e. dues its (next-dues c n its e)))

  -- ---- a frame of the link

  abbrev pub Hearing : (k : ℕ) (n m : Node WholeQueues) → Type 0
  Hearing k n m = Hears k (link_at n.parts l).period (state_of n.parts l) (state_of m.parts l)

  pub keeps-hears : (k : ℕ) (n m o : Node WholeQueues) → Hearing k n m → Keeps l m o → Hearing k n o
  keeps-hears k n m o e f = heard-climbs k (link_at n.parts l).period (state_of n.parts l) (state_of m.parts l) (state_of o.parts l) e (keeps-climbs ⊥ l m o f)

  pub kept-hears : (k : ℕ) (n m : Node WholeQueues) → Keeps l n m → Hearing k n m
  kept-hears k n m f = keeps-hears k n n m (same-hears k (link_at n.parts l).period (state_of n.parts l)) f

  advance-hears : (input : Input) (step : Transition) (n : Node WholeQueues) → (kind_of input ≡ 10 → ⊥) → acts_on (link_at n.parts l) input ≡ Go step
      → Hearing (kind_of input) n (advance whole c l step n)
  advance-hears input step n frame e =
      subst (λ (y : Alignment). Hears (kind_of input) (link_at n.parts l).period (state_of n.parts l) y) (sym (advance-at c l input step n e))
      (frame-hears (kind_of input) (link_at n.parts l).period (state_of n.parts l) step.state frame (each-leads (link_at n.parts l).period (state_of n.parts l) input step e)
      (aligned-from (link_at n.parts l).period (state_of n.parts l) input step e))

  begun-busy : (n : Node WholeQueues) → Keeps l n (with_parts n (become_busy c l n.parts))
  begun-busy n = by (link_at n.parts l).peer_busy
    where
      by : (busy : Bool) → Keeps l n (with_parts n (if busy then n.parts else with_busy c l n.parts))
      by true = same-keeps l n _ refl
      by false = alike-keeps l l _ n _ refl refl

  ended-busy : (n : Node WholeQueues) → Keeps l n (with_parts n (end_busy c l (whole.outstanding n.queues l) n.parts))
  ended-busy n = by (link_at n.parts l).peer_busy
    where
      by : (busy : Bool) → Keeps l n (with_parts n (if busy then without_busy c l (whole.outstanding n.queues l) n.parts else n.parts))
      by true = alike-keeps l l _ n _ refl refl
      by false = same-keeps l n _ refl

  serve-keeps : (status : LinkStatus) (n : Node WholeQueues) → Keeps l n (serve_status whole c l status n)
  serve-keeps says.Busy n = begun-busy n
  serve-keeps says.BusyEnded n = by (link_at n.parts l).peer_outage
    where
      by : (out : Bool) → Keeps l n (with_parts n (if out then n.parts else end_busy c l (whole.outstanding n.queues l) n.parts))
      by true = same-keeps l n _ refl
      by false = ended-busy n
  serve-keeps says.Alignment n = same-keeps l n n refl
  serve-keeps says.ProvingNormal n = same-keeps l n n refl
  serve-keeps says.ProvingEmergency n = same-keeps l n n refl
  serve-keeps says.Ready n = same-keeps l n n refl
  serve-keeps says.ProcessorOutage n = same-keeps l n n refl
  serve-keeps says.ProcessorRecovered n = same-keeps l n n refl
  serve-keeps says.OutOfService n = same-keeps l n n refl

  served-keeps : (serve : Bool) (status : LinkStatus) (n : Node WholeQueues) → Keeps l n (if serve then serve_status whole c l status n else n)
  served-keeps true status n = serve-keeps status n
  served-keeps false status n = same-keeps l n n refl

  status-hears : (a : Action) (status : LinkStatus) (n : Node WholeQueues) → acts_on (link_at n.parts l) (Status status) ≡ a
      → Hearing (status_number status) n (act_by_status whole c a l status n).left
  status-hears act.Ignored status n e = same-hears (status_number status) (link_at n.parts l).period (state_of n.parts l)
  status-hears act.Fail status n e = kept-hears (status_number status) n _ (keeps.fails l reasons.Status n tt (fails-up (link_at n.parts l).period (link_at n.parts l).alignment (Status status) e))
  status-hears (act.Go step) status n e =
      let next : Node WholeQueues = advance whole c l step n in
      let served : Node WholeQueues = if step.serve then serve_status whole c l status next else next in
      keeps-hears (status_number status) n next served (advance-hears (Status status) step n (no-timer status) e) (served-keeps step.serve status next)

  hear_outage-keeps : (out : Bool) (n : Node WholeQueues) → Keeps l n (if out then n else begin_outage whole c l n)
  hear_outage-keeps true n = same-keeps l n n refl
  hear_outage-keeps false n =
      let one : Node WholeQueues = with_parts n (end_busy c l (whole.outstanding n.queues l) n.parts) in
      let two : Node WholeQueues = with_parts n (become_busy c l one.parts) in
      both-keep l n one _ (ended-busy n) (both-keep l one two _ (begun-busy one) (alike-keeps l l _ two _ refl refl))

  end_outage-keeps : (n : Node WholeQueues) → Keeps l n (end_outage whole c l n)
  end_outage-keeps n =
      let back : Node WholeQueues = with_parts n (let_back l n.parts) in
      both-keep l n back _ (alike-keeps l l _ n back refl refl) (ended-busy back)

  pub told-hears : (out back : Bool) (status : LinkStatus) (n : Node WholeQueues)
      → Hearing (status_number status) n
      (if out then answer Handled (hear_outage whole c l n) else if back then answer Handled (end_outage whole c l n)
      else act_by_status whole c (acts_on (link_at n.parts l) (Status status)) l status n).left
  told-hears true back status n = kept-hears (status_number status) n _ (hear_outage-keeps (link_at n.parts l).peer_outage n)
  told-hears false true status n = kept-hears (status_number status) n _ (end_outage-keeps n)
  told-hears false false status n = status-hears (acts_on (link_at n.parts l) (Status status)) status n refl

  owing-keeps : (d : Carrying) (count : ℕ) (n : Node WholeQueues) → Keeps l n (accept whole c l d count n)
  owing-keeps d count n = by d.message
    where
      took : Node WholeQueues
      took = accept whole c l d count n

      timed : Parts
      timed = timed_parts c l count (whole.outstanding took.queues l) n.parts

      by : (m : Option Message) → Keeps l n (with_parts took (owing l m timed))
      by None = same-keeps l n _ refl
      by (Some m) = alike-keeps l l _ n _ refl refl

  handle-keeps : (r : Result ℕ SeqFault) (d : Carrying) (n : Node WholeQueues) → in_service n.parts l ≡ true → Keeps l n (handle_by whole c r l d n).left
  handle-keeps (Ok count) d n e =
      let took : Node WholeQueues = accept whole c l d count n in
      both-keep l n took _ (owing-keeps d count n)
      (carry-steps keeps l d.message took (owing-serves l d.message (timed_parts c l count (whole.outstanding took.queues l) n.parts) ∙ e))
  handle-keeps (Err fault) d n e = keeps.fails l reasons.Sequence n tt (serves-up (link_at n.parts l).alignment e)

  pub data-hears : (a : Action) (d : Carrying) (n : Node WholeQueues) → acts_on (link_at n.parts l) UserData ≡ a → Hearing 0 n (act_by_data whole c a l d n).left
  data-hears act.Ignored d n e = same-hears 0 (link_at n.parts l).period (state_of n.parts l)
  data-hears act.Fail d n e = kept-hears 0 n _ (keeps.fails l reasons.Sequence n tt (fails-up (link_at n.parts l).period (link_at n.parts l).alignment UserData e))
  data-hears (act.Go step) d n e =
      let next : Node WholeQueues = advance whole c l step n in
      let done : Node WholeQueues = (handle_by whole c (numbers whole c l d next) l d next).left in
      keeps-hears 0 n next done (advance-hears UserData step n (λ no. cc) e)
      (handle-keeps (numbers whole c l d next) d next (advance-serves c l UserData step n e ∙ data-serves (link_at n.parts l).period (link_at n.parts l).alignment step e))
