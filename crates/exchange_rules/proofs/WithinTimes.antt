-- No timer that completes a changeover or ends holds has more ticks left than the longest of them is set to.
use Rattle.exchange_rules.proofs.Basics.{inr, and_parts, cases_eq, ◌≡◌, ◌≢◌, ◌≤◌, ◌-◌, ℕ, Bool, true, false, List, [], ◌∷◌, Option, Some, None, refl, ap, sym, ◌∙◌, subst, arith, max, ⊎_elim, if◌then◌else◌}
use Rattle.exchange_rules.proofs.Definitions.{period_of, Configuration, FailureReason, Facts, opening, completed, TimerName, Running, has_name, set_timer, after_due, after-clear, after-none, due_name, one_less, left-set, left-set_other, left-ticked, left-none, Parts, Node, with_parts, answer, Handled, Ignored, link_at, in_service, down, set_of, suspended, fail_link, has_other, is_ordered, make_unavailable, changing, begin, change_over, begin_by_peer, fail_by_peer, changeover_order, changeover_of, with_changeover, complete_if, fail_by_order, complete_by_order, changeover_acknowledgement, on_changeover_order, with_changeover_acknowledged, hold_flows, held_by_rerouting, carries, is_link, with_timers, first_state, WholeQueues, whole, bar, timed_bar, awaits_incomplete, failed, begun_by_peer, acknowledged, Standing, no_changeover, left-clear_other, clear_timer, counts-set, NodeCounts, asking, with_order, order_late}
use Rattle.timers.proofs.Maps.{set-absent}
use Rattle.timers.specs.declared.name.TimerName.TheVariants as name
use Rattle.signalling_types.specs.declared.notice.FailureReason.TheVariants as reasons
use Rattle.exchange_rules.specs.TickingAlone.{longest_wait}
use Rattle.exchange_rules.proofs.Steps.{IsOfSends, IsOfRules, ends_holds}
use Rattle.exchange_rules.proofs.LinkTimers.{timed-for, without_timers-for, timed_busy-for, timed_busy_ended-for, timed_confirming-for, timed_sending-for}
use Rattle.exchange_rules.proofs.Asked.{any, IsOfAll}
use Rattle.exchange_rules.proofs.SteppingMessages.{send_routed-steps}
use Rattle.exchange_rules.proofs.SteppingEvents.{run_next-steps}
use Rattle.exchange_rules.proofs.WillEnding.{untested-alike, Alike, its-standing, its-wait, other-standing}
use Rattle.exchange_rules.proofs.Eased.{Eased, is_waited_for, eased-same, less-clear, completed-eased, expired-eased, eased-by, cleared-left, closed-apart, closed-waits}
use Rattle.exchange_rules.proofs.TimerSettings.{cases-name}

-- the timers that complete changeovers and end holds, but T2: that does so only of an answer that is awaited while the
-- changeover isn't complete
abbrev pub ends_alone : TimerName → Bool
ends_alone (name.T1 link) = true
ends_alone (name.T3 link) = true
ends_alone (name.T4 set code) = true
ends_alone (name.T6 destination) = true
ends_alone _ = false

-- such a timer is waited for
waited : (timer : TimerName) → ends_alone timer ≡ true → is_waited_for timer ≡ true
waited (name.T1 link) e = refl
waited (name.T2 link) e = absurd cc
waited (name.T3 link) e = refl
waited (name.T4 set code) e = refl
waited (name.T6 destination) e = refl
waited (name.L1 link) e = absurd cc
waited (name.L2 link) e = absurd cc
waited (name.L3 link) e = absurd cc
waited (name.L4 link) e = refl
waited (name.L6 link) e = refl
waited (name.L7 link) e = refl
waited (name.T8 set destination) e = absurd cc
waited (name.T10 set destination) e = absurd cc
waited (name.Slt1 link) e = absurd cc
waited (name.Slt2 link) e = absurd cc

-- and ends holds
ends-too : (timer : TimerName) → ends_alone timer ≡ true → ends_holds timer ≡ true
ends-too (name.T1 link) e = refl
ends-too (name.T2 link) e = refl
ends-too (name.T3 link) e = refl
ends-too (name.T4 set code) e = refl
ends-too (name.T6 destination) e = refl
ends-too (name.L1 link) e = absurd cc
ends-too (name.L2 link) e = absurd cc
ends-too (name.L3 link) e = absurd cc
ends-too (name.L4 link) e = absurd cc
ends-too (name.L6 link) e = absurd cc
ends-too (name.L7 link) e = absurd cc
ends-too (name.T8 set destination) e = absurd cc
ends-too (name.T10 set destination) e = absurd cc
ends-too (name.Slt1 link) e = absurd cc
ends-too (name.Slt2 link) e = absurd cc

-- those of a kind have at most n ticks left
pub record Within (kind : TimerName → Bool) (most : ℕ) (r : Running) : Type 0 where
  pub each : (timer : TimerName) → kind timer ≡ true → (x : ℕ) → r.left timer ≡ Some x → x ≤ most

-- so it is with those that end holds, and with T2 of each link whose answer is awaited before its changeover is complete
pub record Ends (most : ℕ) (p : Parts) : Type 0 where
  pub timers : Within ends_alone most p.timers
  pub waits : (link : ℕ) → awaits_incomplete (changeover_of p link) ≡ true → (x : ℕ) → p.timers.left (name.T2 link) ≡ Some x → x ≤ most

-- from one node to another
pub record Bounds (most : ℕ) (n m : Node WholeQueues) : Type 0 where
  pub stay : Ends most n.parts → Ends most m.parts

-- a changeover as it was
still-awaits : (link : ℕ) (n m : Node WholeQueues) → m.parts.changeovers ≡ n.parts.changeovers → awaits_incomplete (changeover_of m.parts link) ≡ true → awaits_incomplete (changeover_of n.parts link) ≡ true
still-awaits link n m same i = sym (ap (λ (all : List Standing). awaits_incomplete (changeover_of (record n.parts { changeovers = all }) link)) same) ∙ i

bounds-same : (most : ℕ) (n m : Node WholeQueues) → ((timer : TimerName) → ends_holds timer ≡ true → m.parts.timers.left timer ≡ n.parts.timers.left timer)
    → m.parts.changeovers ≡ n.parts.changeovers → Bounds most n m
bounds-same most n m e same = record {
  stay = λ w. record {
    timers = record { each = λ timer ends x h. w.timers.each timer ends x (sym (e timer (ends-too timer ends)) ∙ h) };
    waits = λ link i x h. w.waits link (still-awaits link n m same i) x (sym (e (name.T2 link) refl) ∙ h);
  };
}

bounds-as : (most : ℕ) (n m : Node WholeQueues) → m.parts.timers ≡ n.parts.timers → m.parts.changeovers ≡ n.parts.changeovers → Bounds most n m
bounds-as most n m e same = bounds-same most n m (λ timer ends. ap (λ (r : Running). r.left timer) e) same

pub bounds-eased : (most : ℕ) (n m : Node WholeQueues) → Eased n m → Bounds most n m
bounds-eased most n m e = record {
  stay = λ w. record {
    timers = record { each = λ timer ends x h. w.timers.each timer ends x (e.timers timer (waited timer ends) x h) };
    waits = λ link i x h. (let before = e.waits link i in w.waits link before.0 x (before.1 x h));
  };
}

bounds-both : (most : ℕ) (n m o : Node WholeQueues) → Bounds most n m → Bounds most m o → Bounds most n o
bounds-both most n m o e f = record { stay = λ w. f.stay (e.stay w) }

-- the changeover of a link is complete now, its T2 may be set, and nothing else changes
bounds-closed : (most link : ℕ) (s : Standing) (n m : Node WholeQueues) → s.incomplete ≡ false → m.parts.changeovers ≡ (with_changeover link s n.parts).changeovers
    → ((timer : TimerName) → ends_holds timer ≡ true → timer ≢ name.T2 link → m.parts.timers.left timer ≡ n.parts.timers.left timer) → Bounds most n m
bounds-closed most link s n m done same e = record {
  stay = λ w. record {
    timers = record { each = λ timer ends x h. w.timers.each timer ends x (sym (e timer (ends-too timer ends) (alone timer ends)) ∙ h) };
    waits = λ other i x h. (
        let before = closed-waits link s n m done same (λ its y apart g. sym (e (name.T2 its) refl (λ is. its-wait link its apart (inr is))) ∙ g) other i in
        w.waits other before.0 x (before.1 x h));
  };
}
  where
    alone : (timer : TimerName) → ends_alone timer ≡ true → timer ≢ name.T2 link
    alone timer ends is = (let no : true ≡ false = sym ends ∙ ap ends_alone is in cc)

same-ticks : (m n : ℕ) → Some m ≡ Some n → m ≡ n
same-ticks m n e = cc

-- a timer is set
pub within-set : (kind : TimerName → Bool) (most : ℕ) (its : TimerName) (ticks : ℕ) (r : Running) → (kind its ≡ true → max 1 ticks ≤ most) → Within kind most r → Within kind most (set_timer its ticks r)
within-set kind most its ticks r l w = by (has_name r.counts its) refl
  where
    by : (has : Bool) → has_name r.counts its ≡ has → Within kind most (set_timer its ticks r)
    by false e = subst (Within kind most) (sym (set-absent its ticks r e)) w
    by true e = record {
      each = λ timer of x h. ⊎_elim
          (λ (same : its ≡ timer).
          let left : max 1 ticks ≡ x = same-ticks (max 1 ticks) x (sym (left-set its ticks r e) ∙ ap (λ (y : TimerName). (set_timer its ticks r).left y) same ∙ h) in
          omega (arith, l (ap kind same ∙ of), left))
          (λ (d : its ≢ timer). w.each timer of x (sym (left-set_other its timer ticks r d) ∙ h)) (cases-name its timer);
    }

-- what is left of a timer that is set
set-ticks : (its : TimerName) (ticks : ℕ) (r : Running) (x : ℕ) → (set_timer its ticks r).left its ≡ Some x → x ≡ max 1 ticks
set-ticks its ticks r x h = by (has_name r.counts its) refl
  where
    by : (has : Bool) → has_name r.counts its ≡ has → x ≡ max 1 ticks
    by true e = sym (same-ticks (max 1 ticks) x (sym (left-set its ticks r e) ∙ h))
    by false e = (let no : None ≡ Some x = sym ((set_timer its ticks r).only its (ap (λ (k : NodeCounts). has_name k its) (counts-set its ticks r) ∙ e)) ∙ h in absurd cc)

module _ (c : Configuration) where
  abbrev most : ℕ
  most = longest_wait c.timers

  t1-within : max 1 c.timers.t1 ≤ most
  t1-within = omega (arith)

  t2-within : max 1 c.timers.t2 ≤ most
  t2-within = omega (arith)

  t3-within : max 1 c.timers.t3 ≤ most
  t3-within = omega (arith)

  t4-within : max 1 c.timers.t4 ≤ most
  t4-within = omega (arith)

  t6-within : max 1 c.timers.t6 ≤ most
  t6-within = omega (arith)

  bounds-sends : IsOfSends c (Bounds most)
  bounds-sends = record {
    none = λ n. bounds-as most n n refl refl;
    both = bounds-both most;
    routed = λ link m n e. bounds-as most n _ refl refl;
    noted = λ notice n e. bounds-as most n _ refl refl;
    lost = λ notice n e. bounds-as most n _ refl refl;
    counted = λ messages broken n. bounds-as most n _ refl refl;
  }

  -- another timer is set that ends holds
  bounds-set : (its : TimerName) (ticks : ℕ) (n m : Node WholeQueues) → ((link : ℕ) → its ≢ name.T2 link) → max 1 ticks ≤ most → m.parts.timers ≡ set_timer its ticks n.parts.timers
      → m.parts.changeovers ≡ n.parts.changeovers → Bounds most n m
  bounds-set its ticks n m other few e same = record {
    stay = λ w. record {
      timers = subst (Within ends_alone most) (sym e) (within-set ends_alone most its ticks n.parts.timers (λ f. few) w.timers);
      waits = λ link i x h. w.waits link (still-awaits link n m same i) x
          (sym (ap (λ (r : Running). r.left (name.T2 link)) e ∙ left-set_other its (name.T2 link) ticks n.parts.timers (other link)) ∙ h);
    };
  }

  gone-bounds : (link : ℕ) (why : FailureReason) (n : Node WholeQueues) → Bounds most n (make_unavailable whole c true link why n)
  gone-bounds link why n =
      let failed : Parts = fail_link link why (suspended c link (whole.unconfirmed n.queues link) n.parts) in
      bounds-same most n _ (λ timer ends. (untested-alike (has_other c link failed) (set_of c link) failed).timers timer ends ∙ (without_timers-for link n.parts.timers).endings timer ends)
      (untested-alike (has_other c link failed) (set_of c link) failed).changeovers

  begun-bounds : (ordered : Bool) (link : ℕ) (n : Node WholeQueues) → Bounds most n (begin whole c ordered link n)
  begun-bounds true link n =
      let next : Node WholeQueues = with_parts n (changing c true link n.parts) in
      bounds-both most n next _ (record { stay = λ w. waiting w }) (send_routed-steps bounds-sends (changeover_order c link (whole.last_accepted n.queues link)) next)
    where
      its : Standing
      its = failed true (changeover_of n.parts link)

      waiting : Ends most n.parts → Ends most (changing c true link n.parts)
      waiting w = record {
        timers = within-set ends_alone most (name.T2 link) c.timers.t2 n.parts.timers (λ e. absurd cc) w.timers;
        waits = λ other i x h. ⊎_elim
            (λ (is : other ≡ link). omega (
              arith,
              t2-within,
              set-ticks (name.T2 link) c.timers.t2 n.parts.timers x (ap (λ (k : ℕ). (set_timer (name.T2 link) c.timers.t2 n.parts.timers).left (name.T2 k)) (sym is) ∙ h),
            ))
            (λ (apart : other ≢ link). w.waits other (sym (ap awaits_incomplete (other-standing n.parts.changeovers link other its n.parts apart)) ∙ i) x
            (sym (left-set_other (name.T2 link) (name.T2 other) c.timers.t2 n.parts.timers (λ e. its-wait link other apart (inr (sym e)))) ∙ h))
            (cases_eq other link);
      }
  begun-bounds false link n =
      let next : Node WholeQueues = with_parts n (changing c false link n.parts) in
      record {
        stay = λ w. record {
          timers = within-set ends_alone most (name.T1 link) c.timers.t1 n.parts.timers (λ e. t1-within) w.timers;
          waits = λ other i x h. ⊎_elim
              (λ (is : other ≡ link). absurd (unasked (subst (λ (k : ℕ). awaits_incomplete (changeover_of next.parts k) ≡ true) is i)))
              (λ (apart : other ≢ link). w.waits other (sym (ap awaits_incomplete (other-standing n.parts.changeovers link other its n.parts apart)) ∙ i) x
              (sym (left-set_other (name.T1 link) (name.T2 other) c.timers.t1 n.parts.timers (λ e. cc)) ∙ h))
              (cases_eq other link);
        };
      }
    where
      its : Standing
      its = failed false (changeover_of n.parts link)

      -- no order goes out, so that no answer is awaited
      unasked : awaits_incomplete (changeover_of (with_changeover link its n.parts) link) ≡ true → ⊥
      unasked i =
          (let awaited : (changeover_of (with_changeover link its n.parts) link).awaited ≡ true =
          (and_parts (changeover_of (with_changeover link its n.parts) link).incomplete (changeover_of (with_changeover link its n.parts) link).awaited i).1 in
          ⊎_elim
          (λ (is : changeover_of (with_changeover link its n.parts) link ≡ its). (let no : false ≡ true = sym (ap (λ (x : Standing). x.awaited) is) ∙ awaited in cc))
          (λ (none : changeover_of (with_changeover link its n.parts) link ≡ no_changeover). (let no : false ≡ true = sym (ap (λ (x : Standing). x.awaited) none) ∙ awaited in cc))
          (its-standing link its n.parts))

  fails-bounds : (served : Bool) (link : ℕ) (why : FailureReason) (n : Node WholeQueues) → Bounds most n (change_over whole c served link (make_unavailable whole c served link why n))
  fails-bounds false link why n = bounds-same most n _ (without_timers-for link n.parts.timers).endings refl
  fails-bounds true link why n =
      let gone : Node WholeQueues = make_unavailable whole c true link why n in
      bounds-both most n gone _ (gone-bounds link why n) (begun-bounds (is_ordered c link gone.parts) link gone)

  -- a link that fails by the peer's order: its changeover is completed at once
  record Falls (link : ℕ) (n m : Node WholeQueues) : Type 0 where
    timers : (timer : TimerName) → ends_holds timer ≡ true → m.parts.timers.left timer ≡ n.parts.timers.left timer
    others : (other : ℕ) → other ≢ link → changeover_of m.parts other ≡ changeover_of n.parts other

  falls-as : (link : ℕ) (n m : Node WholeQueues) → ((timer : TimerName) → ends_holds timer ≡ true → m.parts.timers.left timer ≡ n.parts.timers.left timer)
      → m.parts.changeovers ≡ n.parts.changeovers → Falls link n m
  falls-as link n m e same = record { timers = e; others = λ other apart. ap (λ (all : List Standing). changeover_of (record n.parts { changeovers = all }) other) same }

  by_peer-falls : (served : Bool) (link : ℕ) (n : Node WholeQueues) → Falls link n (begin_by_peer whole c served link (make_unavailable whole c served link reasons.Changeover n))
  by_peer-falls false link n = falls-as link n _ (without_timers-for link n.parts.timers).endings refl
  by_peer-falls true link n =
      let failed : Parts = fail_link link reasons.Changeover (suspended c link (whole.unconfirmed n.queues link) n.parts) in
      let gone : Node WholeQueues = make_unavailable whole c true link reasons.Changeover n in
      let same : Alike failed gone.parts = untested-alike (has_other c link failed) (set_of c link) failed in
      record {
        timers = λ timer ends. same.timers timer ends ∙ (without_timers-for link n.parts.timers).endings timer ends;
        others = λ other apart. other-standing gone.parts.changeovers link other (begun_by_peer (changeover_of gone.parts link)) gone.parts apart
            ∙ ap (λ (all : List Standing). changeover_of (record n.parts { changeovers = all }) other) same.changeovers;
      }

  ordered-falls : (is_down : Bool) (link : ℕ) (n : Node WholeQueues) → Falls link n (if is_down then n else fail_by_peer whole c link n)
  ordered-falls true link n = falls-as link n n (λ timer ends. refl) refl
  ordered-falls false link n = by_peer-falls (in_service n.parts link) link n

  bar-others : (ticks : Option ℕ) (is_barred : Bool) (link : ℕ) (r : Running) (timer : TimerName) → timer ≢ name.T2 link → (timed_bar ticks is_barred link r).left timer ≡ r.left timer
  bar-others (Some ticks) true link r timer apart = left-set_other (name.T2 link) timer ticks r (λ e. apart (sym e))
  bar-others (Some ticks) false link r timer apart = refl
  bar-others None is_barred link r timer apart = refl

  -- so T2 of that link is set for the bar at most
  completed-bounds : (link : ℕ) (n fallen : Node WholeQueues) → Falls link n fallen
      → Bounds most n (with_parts fallen (with_changeover link (completed (changeover_of fallen.parts link)) (bar whole c link fallen).parts))
  completed-bounds link n fallen f = record {
    stay = λ w. record {
      timers = record {
        each = λ timer ends x h. w.timers.each timer ends x (sym (left timer (ends-too timer ends) (λ is. (let no : true ≡ false = sym ends ∙ ap ends_alone is in cc))) ∙ h);
      };
      waits = λ other i x h. (
          let apart : other ≢ link = λ is. closed-apart link done fallen.parts refl (subst (λ (k : ℕ). awaits_incomplete (changeover_of (with_changeover link done fallen.parts) k) ≡ true) is i) in
          w.waits other (sym (ap awaits_incomplete (other-standing fallen.parts.changeovers link other done fallen.parts apart ∙ f.others other apart)) ∙ i) x
          (sym (left (name.T2 other) refl (λ is. its-wait link other apart (inr is))) ∙ h));
    };
  }
    where
      done : Standing
      done = completed (changeover_of fallen.parts link)

      left : (timer : TimerName) → ends_holds timer ≡ true → timer ≢ name.T2 link → (bar whole c link fallen).parts.timers.left timer ≡ n.parts.timers.left timer
      left timer ends apart = bar-others c.timers.t2_bar (awaits_incomplete (changeover_of fallen.parts link)) link fallen.parts.timers timer apart ∙ f.timers timer ends

  orders-bounds : (link : ℕ) (number : Option ℕ) (n : Node WholeQueues) → Bounds most n (on_changeover_order whole c link number n).left
  orders-bounds link number n =
      let fallen : Node WholeQueues = fail_by_order whole c link n in
      let one : Node WholeQueues = bar whole c link fallen in
      let standing : Node WholeQueues = with_parts one (with_changeover link (completed (changeover_of one.parts link)) one.parts) in
      let two : Node WholeQueues = complete_by_order whole c link number one in
      bounds-both most n two _
      (bounds-both most n standing two (completed-bounds link n fallen (ordered-falls (down n.parts link) link n))
      (bounds-eased most standing two (completed-eased c (changeover_of one.parts link).incomplete link number standing)))
      (send_routed-steps bounds-sends (changeover_acknowledgement c link (whole.last_accepted two.queues link)) two)

  -- the answer came, or isn't awaited any more: T2 stops
  stopped-bounds : (link : ℕ) (n m : Node WholeQueues) → m.parts.timers ≡ clear_timer (name.T2 link) n.parts.timers
      → m.parts.changeovers ≡ (with_changeover link (acknowledged (changeover_of n.parts link)) n.parts).changeovers → Bounds most n m
  stopped-bounds link n m e same =
      bounds-closed most link (acknowledged (changeover_of n.parts link)) n m refl same
      (λ timer ends apart. ap (λ (r : Running). r.left timer) e ∙ left-clear_other (name.T2 link) timer n.parts.timers (λ is. apart (sym is)))

  acknowledges-bounds : (awaited : Bool) (link : ℕ) (number : Option ℕ) (n : Node WholeQueues)
      → Bounds most n (if awaited then answer Handled (complete_if whole c (changeover_of n.parts link).incomplete link number (with_parts n (with_changeover_acknowledged link n.parts)))
      else answer Ignored n).left
  acknowledges-bounds false link number n = bounds-as most n n refl refl
  acknowledges-bounds true link number n =
      let next : Node WholeQueues = with_parts n (with_changeover_acknowledged link n.parts) in
      bounds-both most n next _ (stopped-bounds link n next refl refl) (bounds-eased most next _ (completed-eased c (changeover_of n.parts link).incomplete link number next))

  -- an order goes out late: T1 stops, and T2 is set
  asks-bounds : (link : ℕ) (n : Node WholeQueues) → Bounds most n (order_late whole c link n)
  asks-bounds link n =
      let asks : Node WholeQueues = with_parts n (asking c link n.parts) in
      bounds-both most n asks _ (record { stay = λ w. waiting w }) (send_routed-steps bounds-sends (changeover_order c link (whole.last_accepted n.queues link)) asks)
    where
      its : Standing
      its = with_order (changeover_of n.parts link)

      stopped : Running
      stopped = clear_timer (name.T1 link) n.parts.timers

      waiting : Ends most n.parts → Ends most (asking c link n.parts)
      waiting w = record {
        timers = within-set ends_alone most (name.T2 link) c.timers.t2 stopped (λ e. absurd cc)
            (record { each = λ timer of x h. w.timers.each timer of x (less-clear (name.T1 link) n.parts.timers timer (waited timer of) x h) });
        waits = λ other i x h. ⊎_elim
            (λ (is : other ≡ link). omega (
              arith,
              t2-within,
              set-ticks (name.T2 link) c.timers.t2 stopped x (ap (λ (k : ℕ). (set_timer (name.T2 link) c.timers.t2 stopped).left (name.T2 k)) (sym is) ∙ h),
            ))
            (λ (apart : other ≢ link). w.waits other (sym (ap awaits_incomplete (other-standing n.parts.changeovers link other its n.parts apart)) ∙ i) x
            (sym (left-set_other (name.T2 link) (name.T2 other) c.timers.t2 stopped (λ e. its-wait link other apart (inr (sym e)))
            ∙ left-clear_other (name.T1 link) (name.T2 other) n.parts.timers (λ e. cc)) ∙ h))
            (cases_eq other link);
      }

  returns-bounds : (before after : Facts) (code : Option ℕ) (link other : ℕ) (n : Node WholeQueues) → Bounds most n (hold_flows whole c before after code link other n)
  returns-bounds before after (Some code) link other n = bounds-set (name.T4 (set_of c link) code) c.timers.t4 n _ (λ its e. cc) t4-within refl refl
  returns-bounds before after None link other n = bounds-set (name.T3 link) c.timers.t3 n _ (λ its e. cc) t3-within refl refl

  reroutes-bounds : (destination : ℕ) (selections : List ℕ) (n : Node WholeQueues) → Bounds most n (with_parts n (held_by_rerouting c destination selections n.parts))
  reroutes-bounds destination [] n = bounds-as most n n refl refl
  reroutes-bounds destination (sls ∷ others) n = bounds-set (name.T6 destination) c.timers.t6 n _ (λ its e. cc) t6-within refl refl

  bounds-rules : IsOfRules c any any (Bounds most)
  bounds-rules = record {
    sends = bounds-sends;
    tested = λ link point test n e f. bounds-as most n _ refl refl;
    probed = λ link n e. bounds-as most n _ refl refl;
    held = λ m n e. bounds-as most n _ refl refl;
    taken_out = λ n. bounds-as most n _ refl refl;
    late = λ notice n e. bounds-as most n _ refl refl;
    timed = λ r n e k. bounds-same most n _ e.endings refl;
    rerouted = λ routes n e k. bounds-as most n _ refl refl;
    told = λ t n e. bounds-as most n _ refl refl;
    titled = λ rows n may. bounds-as most n _ refl refl;
    unequipped = λ counts n e may. bounds-as most n _ refl refl;
    linked = λ link x n e o. bounds-as most n _ refl refl;
    parted = λ link n e. bounds-as most n _ refl refl;
    opened = λ link n own there e f may. bounds-same most n _ (timed-for link c (opening (period_of c link n.parts)) n.parts.timers).endings refl;
    stepped = λ link input step n own e k. bounds-same most n _ (timed-for link c step n.parts.timers).endings refl;
    passed = λ link n e k. bounds-as most n _ refl refl;
    busied = λ link n own e f. bounds-same most n _ (timed_busy-for link c n.parts.timers).endings refl;
    resumed = λ link n own e f o. bounds-same most n _ (timed_busy_ended-for link c (whole.outstanding n.queues link) n.parts.timers).endings refl;
    accepted = λ link d confirmed n own e f.
        bounds-same most n _
        (timed_confirming-for link c (link_at n.parts link).peer_busy confirmed (whole.outstanding (whole.accepted n.queues link d.fsn d.bsn (carries d)) link) n.parts.timers).endings refl;
    sent = λ link next n own e. bounds-same most n _ (timed_sending-for link c n.parts.timers).endings refl;
    put = λ link n set e b. bounds-as most n _ refl refl;
    back = λ link n e may. bounds-as most n _ refl refl;
    fails = λ link why n may up. fails-bounds (in_service n.parts link) link why n;
    orders = λ link number n falls ends. orders-bounds link number n;
    acknowledges = λ link number n may wait. acknowledges-bounds (changeover_of n.parts link).awaited link number n;
    expires = λ timer link n may wait. bounds-eased most n _ (expired-eased c (is_link n.parts link) timer link n);
    returns = λ before after code link other n e f. returns-bounds before after code link other n;
    releases = λ link n e wait. stopped-bounds link n _ refl refl;
    asks = λ link n e. asks-bounds link n;
    frees = λ set code n may. bounds-eased most n _ (eased-by n _ (less-clear (name.T4 set code) n.parts.timers) (λ link x h. cleared-left (name.T4 set code) n.parts.timers (name.T2 link) x h) refl (λ d. refl));
    reroutes = reroutes-bounds;
    lifts = λ procedure n may. bounds-as most n _ refl refl;
  }

  -- a tick lowers each, and one that is handed out runs no longer

  pub lower : (most x : ℕ) (o : Option ℕ) → ((y : ℕ) → o ≡ Some y → y ≤ most) → one_less o ≡ Some x → x ≤ most
  lower most x None all e = absurd cc
  lower most x (Some y) all e = omega (arith, all y refl, same-ticks (y - 1) x e)

  pub handed_out-eased : (due : Option TimerName) (n : Node WholeQueues) → due_name n.parts.timers ≡ due → Eased n (with_timers n (after_due n.parts.timers))
  handed_out-eased None n e = eased-same n _ (after-none n.parts.timers e) refl (λ d. refl)
  handed_out-eased (Some timer) n e =
      eased-by n _ (λ other w x h. handed other x h) (λ link x h. handed (name.T2 link) x h) refl (λ d. refl)
    where
      handed : (other : TimerName) (x : ℕ) → (after_due n.parts.timers).left other ≡ Some x → n.parts.timers.left other ≡ Some x
      handed other x h = cleared-left timer n.parts.timers other x (sym (ap (λ (r : Running). r.left other) (after-clear timer n.parts.timers e)) ∙ h)

  pub bounds-all : IsOfAll c (Bounds most)
  bounds-all = record {
    rules = bounds-rules;
    ticks = λ n. record {
      stay = λ w. record {
        timers = record { each = λ timer ends x h. lower most x (n.parts.timers.left timer) (λ y e. w.timers.each timer ends y e) (sym (left-ticked timer n.parts.timers) ∙ h) };
        waits = λ link i x h. lower most x (n.parts.timers.left (name.T2 link)) (λ y e. w.waits link i y e) (sym (left-ticked (name.T2 link) n.parts.timers) ∙ h);
      };
    };
    next = λ n. run_next-steps bounds-rules n (bounds-eased most n _ (handed_out-eased (due_name n.parts.timers) n refl)) (λ link. tt);
  }

  none-first : (timer : TimerName) (x : ℕ) → (first_state c).node.parts.timers.left timer ≡ Some x → ⊥
  none-first timer x h = (let no : None ≡ Some x = sym (left-none timer (first_state c).node.parts.timers.counts) ∙ h in cc)

  pub first-within : Ends most (first_state c).node.parts
  first-within = record { timers = record { each = λ timer ends x h. absurd (none-first timer x h) }; waits = λ link i x h. absurd (none-first (name.T2 link) x h) }
