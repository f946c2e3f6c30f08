-- As time passes, L4, L6 and L7 run down and none is set. In each state none has more ticks left than it is set to.
use Rattle.exchange_rules.proofs.Basics.{◌≡◌, ◌⊎◌, inl, inr, ◌≤◌, ℕ, zero, suc, Bool, true, false, nat_eq, Option, Some, None, refl, sym, ◌∙◌, subst, arith, max, ⊎_elim, if◌then◌else◌}
use Rattle.exchange_rules.proofs.Definitions.{Period, period_of, paced, period_after, Configuration, Alignment, Action, Expiry, LinkTimer, Transition, action_at, opening, TimerName, Running, timer_name, ticks_of, timed, timed_busy_ended, timed_confirming, timed_sending, without_timer, without_timer_if, with_timer, with_timer_if, is_running, due_name, after_due, Node, link_at, in_service, changeover_of, act_by_timer, run_timer, run_due, run_next, run_times, with_timers, is_link, carries, left-ticked, left-none, first_state, WholeQueues, whole}
use Rattle.timers.specs.Timers.{start_unless_running}
use Rattle.timers.specs.declared.name.TimerName.TheVariants as name
use Rattle.signalling_types.specs.declared.notice.FailureReason.TheVariants as reasons
use Rattle.link.specs.declared.action.Action.TheVariants as act
use Rattle.link.specs.declared.action.LinkTimer.TheVariants as timer
use Rattle.link.specs.declared.alignment.Alignment.TheVariants.{Down, NotAligned, Aligned, Proving, AlignedReady, InService}
use Rattle.exchange_rules.specs.TickingAlone.{longest_turn}
use Rattle.exchange_rules.proofs.Steps.{IsOfSends, IsOfRules, takes_links, moves_links, is_of_link}
use Rattle.exchange_rules.proofs.Asked.{any, IsOfAll}
use Rattle.exchange_rules.proofs.Eased.{less-clear, expired-eased, ran-eased, link-waited}
use Rattle.exchange_rules.proofs.WithinTimes.{Within, within-set, handed_out-eased, lower}
use Rattle.exchange_rules.proofs.LinkTimes.{kept-eased, Turned, turned-of, turned-both, turned-same, turned-set, fails-kept, orders-kept, acknowledges-kept, asks-kept, returns-kept, reroutes-kept, advanced-turned, begin_test-turned, test_unanswered-turned}
use Rattle.m2pa_codec.specs.declared.status.LinkStatus.TheVariants.{Ready}
use Rattle.link.specs.Table.{entering}
use Rattle.link.specs.declared.period.Period.TheVariants.{Fixed, Normal, Hurried, Emergency}
use Rattle.std.specs.Option.{unwrap_or}

taking-link : (its : TimerName) → takes_links its ≡ true → is_of_link its ≡ true
taking-link (name.L4 link) e = refl
taking-link (name.L6 link) e = refl
taking-link (name.L7 link) e = refl
taking-link (name.L1 link) e = refl
taking-link (name.L2 link) e = refl
taking-link (name.L3 link) e = refl
taking-link (name.T1 link) e = absurd cc
taking-link (name.T2 link) e = absurd cc
taking-link (name.T3 link) e = absurd cc
taking-link (name.T4 set code) e = absurd cc
taking-link (name.T6 destination) e = absurd cc
taking-link (name.T8 set destination) e = absurd cc
taking-link (name.T10 set destination) e = absurd cc
taking-link (name.Slt1 link) e = absurd cc
taking-link (name.Slt2 link) e = absurd cc

-- ---- by the table of the alignment: as L6 or L7 runs out, nothing happens or a link fails; as L4 does, one goes on,
-- and no such timer starts

abbrev MayFail : Action → Type 0
MayFail a = (a ≡ act.Ignored) ⊎ (a ≡ act.Fail)

record Goes (a : Action) : Type 0 where
  pub step : Transition
  pub is : a ≡ act.Go step
  pub slow : (c : Configuration) (link : ℕ) (r : Running) (its : TimerName) → takes_links its ≡ true → (x : ℕ) → (timed c link step r).left its ≡ Some x → r.left its ≡ Some x

l4-ends : (period : Period) (a : Alignment) → (action_at period a (Expiry timer.L4) ≡ act.Ignored) ⊎ Goes (action_at period a (Expiry timer.L4))
l4-ends period Down = inl refl
l4-ends period NotAligned = inl refl
l4-ends period Aligned = inl refl
l4-ends period AlignedReady = inl refl
l4-ends period InService = inl refl
l4-ends period (Proving true) = inr (record { step = entering (Proving true) InService (period_after period (Expiry timer.L4)) (Some Ready) None; is = refl; slow = λ c link r its t x h. less-clear (name.L4 link) r its (link-waited its t) x h })
l4-ends period (Proving false) = inr (record {
  step = entering (Proving false) AlignedReady (period_after period (Expiry timer.L4)) (Some Ready) (Some timer.L1);
  is = refl;
  slow = λ c link r its t x h. less-clear (name.L4 link) r its (link-waited its t) x (turned-set (name.L1 link) (ticks_of (paced (period_after period (Expiry timer.L4)) c.timers) timer.L1) (without_timer link timer.L4 r) refl its t x h);
})

l6-ends : (period : Period) (a : Alignment) → MayFail (action_at period a (Expiry timer.L6))
l6-ends period Down = inl refl
l6-ends period NotAligned = inl refl
l6-ends period Aligned = inl refl
l6-ends period (Proving true) = inl refl
l6-ends period (Proving false) = inl refl
l6-ends period AlignedReady = inl refl
l6-ends period InService = inr refl

l7-ends : (period : Period) (a : Alignment) → MayFail (action_at period a (Expiry timer.L7))
l7-ends period Down = inl refl
l7-ends period NotAligned = inl refl
l7-ends period Aligned = inl refl
l7-ends period (Proving true) = inl refl
l7-ends period (Proving false) = inl refl
l7-ends period AlignedReady = inl refl
l7-ends period InService = inr refl

module _ (c : Configuration) where
  failed-kept : (a : Action) (link : ℕ) (n : Node WholeQueues) → MayFail a → Turned n (act_by_timer whole c a link n)
  failed-kept a link n how =
      ⊎_elim (λ (e : a ≡ act.Ignored). subst (λ (x : Action). Turned n (act_by_timer whole c x link n)) (sym e) (turned-same n n refl))
      (λ (e : a ≡ act.Fail). subst (λ (x : Action). Turned n (act_by_timer whole c x link n)) (sym e) (turned-of n _ (fails-kept c (in_service n.parts link) link reasons.Timer n))) how

  proved-kept : (a : Action) (link : ℕ) (n : Node WholeQueues) → (a ≡ act.Ignored) ⊎ Goes a → Turned n (act_by_timer whole c a link n)
  proved-kept a link n how =
      ⊎_elim (λ (e : a ≡ act.Ignored). subst (λ (x : Action). Turned n (act_by_timer whole c x link n)) (sym e) (turned-same n n refl))
      (λ (g : Goes a). subst (λ (x : Action). Turned n (act_by_timer whole c x link n)) (sym g.is)
      (advanced-turned c link g.step n (record { timers = λ its t x h. g.slow c link n.parts.timers its t x h }))) how

  turns-kept : (its : TimerName) (n : Node WholeQueues) → moves_links its ≡ true → Turned n (run_timer whole c its n)
  turns-kept (name.L4 link) n e = proved-kept _ link n (l4-ends (link_at n.parts link).period (link_at n.parts link).alignment)
  turns-kept (name.L6 link) n e = failed-kept _ link n (l6-ends (link_at n.parts link).period (link_at n.parts link).alignment)
  turns-kept (name.L7 link) n e = failed-kept _ link n (l7-ends (link_at n.parts link).period (link_at n.parts link).alignment)
  turns-kept (name.L1 link) n e = absurd cc
  turns-kept (name.L2 link) n e = absurd cc
  turns-kept (name.L3 link) n e = absurd cc
  turns-kept (name.T1 link) n e = absurd cc
  turns-kept (name.T2 link) n e = absurd cc
  turns-kept (name.T3 link) n e = absurd cc
  turns-kept (name.T4 set code) n e = absurd cc
  turns-kept (name.T6 destination) n e = absurd cc
  turns-kept (name.T8 set destination) n e = absurd cc
  turns-kept (name.T10 set destination) n e = absurd cc
  turns-kept (name.Slt1 link) n e = test_unanswered-turned c link n
  turns-kept (name.Slt2 link) n e = begin_test-turned c link n

  ran-kept : (moves : Bool) (its : TimerName) (n : Node WholeQueues) → moves_links its ≡ moves → Turned n (run_timer whole c its n)
  ran-kept true its n e = turns-kept its n e
  ran-kept false its n e = turned-of n _ (kept-eased n _ (ran-eased c its n e))

  next-kept : (due : Option TimerName) (n : Node WholeQueues) → due_name n.parts.timers ≡ due → Turned n (run_due whole c due (with_timers n (after_due n.parts.timers)))
  next-kept None n e = turned-of n _ (kept-eased n _ (handed_out-eased c None n e))
  next-kept (Some its) n e =
      turned-both n (with_timers n (after_due n.parts.timers)) _ (turned-of n _ (kept-eased n _ (handed_out-eased c (Some its) n e))) (ran-kept (moves_links its) its (with_timers n (after_due n.parts.timers)) refl)

  -- all that a tick hands out
  pub times-kept : (k : ℕ) (n : Node WholeQueues) → Turned n (run_times whole c k n)
  times-kept zero n = turned-same n n refl
  times-kept (suc k) n = turned-both n (run_next whole c n) _ (next-kept (due_name n.parts.timers) n refl) (times-kept k (run_next whole c n))

  -- ---- in each state they have no more ticks left than the longest of them is set to

  abbrev most : ℕ
  most = longest_turn c.timers

  abbrev Bounded : Running → Type 0
  Bounded r = Within takes_links most r

  pub record Bounds (n m : Node WholeQueues) : Type 0 where
    pub stay : Bounded n.parts.timers → Bounded m.parts.timers

  bounds-kept : (n m : Node WholeQueues) → Turned n m → Bounds n m
  bounds-kept n m e = record { stay = λ w. record { each = λ its t x h. w.each its t x (e.timers its t x h) } }

  bounds-as : (n m : Node WholeQueues) → m.parts.timers ≡ n.parts.timers → Bounds n m
  bounds-as n m e = bounds-kept n m (turned-same n m e)

  ticks-within : (link : ℕ) (its : LinkTimer) → takes_links (timer_name link its) ≡ true → max 1 (ticks_of c.timers its) ≤ most
  ticks-within link timer.L4 e = omega arith
  ticks-within link timer.L6 e = omega arith
  ticks-within link timer.L7 e = omega arith
  ticks-within link timer.L1 e = absurd cc
  ticks-within link timer.L2 e = absurd cc
  ticks-within link timer.L3 e = absurd cc

  set-within : (link : ℕ) (its : LinkTimer) (r : Running) → Bounded r → Bounded (with_timer c link its r)
  set-within link its r w = within-set takes_links most (timer_name link its) (ticks_of c.timers its) r (ticks-within link its) w

  stopped-within : (link : ℕ) (its : LinkTimer) (r : Running) → Bounded r → Bounded (without_timer link its r)
  stopped-within link its r w = record { each = λ other t x h. w.each other t x (less-clear (timer_name link its) r other (link-waited other t) x h) }

  either-within : (b : Bool) (r s : Running) → Bounded r → Bounded s → Bounded (if b then r else s)
  either-within true r s v w = v
  either-within false r s v w = w

  stopped_if-within : (link : ℕ) (its : Option LinkTimer) (r : Running) → Bounded r → Bounded (without_timer_if link its r)
  stopped_if-within link None r w = w
  stopped_if-within link (Some its) r w = stopped-within link its r w

  -- the same by the ticks of the emergency period
  short-within : (link : ℕ) (its : LinkTimer) → takes_links (timer_name link its) ≡ true → max 1 (ticks_of (paced Emergency c.timers) its) ≤ most
  short-within link timer.L4 e = by c.timers.l4e refl
    where
      by : (l4e : Option ℕ) → c.timers.l4e ≡ l4e → max 1 (unwrap_or l4e c.timers.l4) ≤ max 1 (max (max c.timers.l4 (unwrap_or l4e 0)) (max c.timers.l6 c.timers.l7))
      by None f = omega arith
      by (Some ticks) f = omega arith
  short-within link timer.L6 e = ticks-within link timer.L6 e
  short-within link timer.L7 e = ticks-within link timer.L7 e
  short-within link timer.L1 e = absurd cc
  short-within link timer.L2 e = absurd cc
  short-within link timer.L3 e = absurd cc

  -- and by those of each
  paced-within : (period : Period) (link : ℕ) (its : LinkTimer) → takes_links (timer_name link its) ≡ true → max 1 (ticks_of (paced period c.timers) its) ≤ most
  paced-within Fixed link its e = ticks-within link its e
  paced-within Normal link its e = ticks-within link its e
  paced-within Hurried link its e = short-within link its e
  paced-within Emergency link its e = short-within link its e

  set_if-within : (period : Period) (link : ℕ) (its : Option LinkTimer) (r : Running) → Bounded r → Bounded (with_timer_if (paced period c.timers) link its r)
  set_if-within period link None r w = w
  set_if-within period link (Some its) r w = within-set takes_links most (timer_name link its) (ticks_of (paced period c.timers) its) r (paced-within period link its) w

  timed-within : (link : ℕ) (step : Transition) (r : Running) → Bounded r → Bounded (timed c link step r)
  timed-within link step r w = set_if-within step.period link step.start (without_timer_if link step.stop r) (stopped_if-within link step.stop r w)

  sending-within : (link : ℕ) (r : Running) → Bounded r → Bounded (timed_sending c link r)
  unfolding start_unless_running
  sending-within link r w = either-within (is_running (name.L7 link) r) r (with_timer c link timer.L7 r) w (set-within link timer.L7 r w)

  confirming-within : (busy : Bool) (link confirmed outstanding : ℕ) (r : Running) → Bounded r → Bounded (timed_confirming c link busy confirmed outstanding r)
  confirming-within busy link confirmed outstanding r w =
      let anew : Running = with_timer c link timer.L7 r in
      either-within (nat_eq confirmed 0) r (if nat_eq outstanding 0 then without_timer link timer.L7 r else if busy then r else anew) w
      (either-within (nat_eq outstanding 0) (without_timer link timer.L7 r) (if busy then r else anew) (stopped-within link timer.L7 r w) (either-within busy r anew w (set-within link timer.L7 r w)))

  resumed-within : (link outstanding : ℕ) (r : Running) → Bounded r → Bounded (timed_busy_ended c link outstanding r)
  resumed-within link outstanding r w =
      let stopped : Running = without_timer link timer.L6 r in
      either-within (nat_eq outstanding 0) stopped (with_timer c link timer.L7 stopped) (stopped-within link timer.L6 r w) (set-within link timer.L7 stopped (stopped-within link timer.L6 r w))

  bounds-sends : IsOfSends c Bounds
  bounds-sends = record {
    none = λ n. bounds-as n n refl;
    both = λ n m o e f. record { stay = λ w. f.stay (e.stay w) };
    routed = λ link m n e. bounds-as n _ refl;
    noted = λ notice n e. bounds-as n _ refl;
    lost = λ notice n e. bounds-as n _ refl;
    counted = λ messages broken n. bounds-as n _ refl;
  }

  bounds-rules : IsOfRules c any any Bounds
  bounds-rules = record {
    sends = bounds-sends;
    tested = λ link point test n e f. bounds-as n _ refl;
    probed = λ link n e. bounds-as n _ refl;
    held = λ m n e. bounds-as n _ refl;
    taken_out = λ n. bounds-as n _ refl;
    late = λ notice n e. bounds-as n _ refl;
    timed = λ r n e k. record { stay = λ w. record { each = λ its t x h. w.each its t x (sym (e.links its (taking-link its t)) ∙ h) } };
    rerouted = λ routes n e k. bounds-as n _ refl;
    told = λ t n e. bounds-as n _ refl;
    titled = λ rows n may. bounds-as n _ refl;
    unequipped = λ counts n e may. bounds-as n _ refl;
    linked = λ link x n e o. bounds-as n _ refl;
    parted = λ link n e. bounds-as n _ refl;
    opened = λ link n own there e f may. record { stay = timed-within link (opening (period_of c link n.parts)) n.parts.timers };
    stepped = λ link input step n own e k. record { stay = timed-within link step n.parts.timers };
    passed = λ link n e k. bounds-as n _ refl;
    busied = λ link n own e f. record { stay = λ w. set-within link timer.L6 (without_timer link timer.L7 n.parts.timers) (stopped-within link timer.L7 n.parts.timers w) };
    resumed = λ link n own e f o. record { stay = resumed-within link (whole.outstanding n.queues link) n.parts.timers };
    accepted = λ link d confirmed n own e f. record {
      stay = confirming-within (link_at n.parts link).peer_busy link confirmed (whole.outstanding (whole.accepted n.queues link d.fsn d.bsn (carries d)) link) n.parts.timers;
    };
    sent = λ link next n own e. record { stay = sending-within link n.parts.timers };
    put = λ link n set e b. bounds-as n _ refl;
    back = λ link n e may. bounds-as n _ refl;
    fails = λ link why n may up. bounds-kept n _ (turned-of n _ (fails-kept c (in_service n.parts link) link why n));
    orders = λ link number n falls ends. bounds-kept n _ (turned-of n _ (orders-kept c link number n));
    acknowledges = λ link number n may wait. bounds-kept n _ (turned-of n _ (acknowledges-kept c (changeover_of n.parts link).awaited link number n));
    expires = λ expiry link n may wait. bounds-kept n _ (turned-of n _ (kept-eased n _ (expired-eased c (is_link n.parts link) expiry link n)));
    releases = λ link n e wait. bounds-kept n _ (record { timers = λ its t x h. less-clear (name.T2 link) n.parts.timers its (link-waited its t) x h });
    asks = λ link n e. bounds-kept n _ (turned-of n _ (asks-kept c link n));
    returns = λ before after code link other n e f. bounds-kept n _ (turned-of n _ (returns-kept c before after code link other n));
    frees = λ set code n may. bounds-kept n _ (record { timers = λ its t x h. less-clear (name.T4 set code) n.parts.timers its (link-waited its t) x h });
    reroutes = λ destination selections n. bounds-kept n _ (turned-of n _ (reroutes-kept c destination selections n));
    lifts = λ procedure n may. bounds-as n _ refl;
  }

  pub bounds-all : IsOfAll c Bounds
  bounds-all = record {
    rules = bounds-rules;
    ticks = λ n. record {
      stay = λ w. record { each = λ its t x h. lower c most x (n.parts.timers.left its) (λ y e. w.each its t y e) (sym (left-ticked its n.parts.timers) ∙ h) };
    };
    next = λ n. bounds-kept n _ (next-kept (due_name n.parts.timers) n refl);
  }

  pub first-bounded : Bounded (first_state c).node.parts.timers
  first-bounded = record { each = λ its t x h. (let no : None ≡ Some x = sym (left-none its (first_state c).node.parts.timers.counts) ∙ h in absurd cc) }
