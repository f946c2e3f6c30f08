-- What lasts of a wait for an answer at a tick: it goes on, and while the changeover is complete T2 isn't due.
use Rattle.exchange_rules.proofs.Basics.{◌≡◌, ◌≢◌, ◌⊎◌, inl, inr, ℕ, Bool, true, false, ◌&&◌, not, List, Option, Some, None, is_some, max, arith, nat_tests, refl, ap, sym, subst, ◌∙◌, ⊎_elim, cases_eq, and_parts, if◌then◌else◌}
use Rattle.exchange_rules.proofs.Definitions.{Configuration, FailureReason, ChangeoverTimer, Standing, no_changeover, acknowledged, completed, expired, failed, with_order, is_unasked, bars, barred, timed_bar, TimerName, Running, NodeCounts, has_name, is_due, no_tick_left, set_timer, left-set, counts-set, Node, with_parts, answer, Handled, Ignored, in_service, is_link, down, make_unavailable, is_ordered, begin, change_over, changeover_of, is_late, has_way, order_late, changeover_order, asking, no_room, link_of, flow_of, with_changeover, with_changeover_acknowledged, complete_if, with_expiry, on_changeover_timer, on_changeover_acknowledgement, Message, WholeQueues, whole}
use Rattle.signalling_types.specs.declared.notice.ChangeoverTimer.TheVariants as which
use Rattle.signalling_types.specs.declared.notice.FailureReason.TheVariants as reasons
use Rattle.timers.specs.declared.name.TimerName.TheVariants as name
use Rattle.timers.proofs.Maps.{exists}
use Rattle.exchange_rules.proofs.AnsweredOrders.{complete_if-changeovers}
use Rattle.exchange_rules.proofs.Asked.{any}
use Rattle.exchange_rules.proofs.DueTimers.{Dues, dues-steps}
use Rattle.exchange_rules.proofs.EndedWaits.{begin-changeovers}
use Rattle.exchange_rules.proofs.EndingChangeovers.{gone-alike}
use Rattle.exchange_rules.proofs.EndingWaits.{complete_if-t2}
use Rattle.exchange_rules.proofs.Lists.{alike-at}
use Rattle.exchange_rules.proofs.OrdersByAnyRoute.{send-changeovers}
use Rattle.exchange_rules.proofs.RestingLinks.{Rested, Rests, rests-rules}
use Rattle.exchange_rules.proofs.Rules.{rules-of}
use Rattle.exchange_rules.proofs.Steps.{Deed, LinkOpens, SetReturns, LinkFails, HoldsEnd, WaitEnds, Lacking, TitlesChange, IsOfRules}
use Rattle.exchange_rules.proofs.WillEnding.{no-way, other-standing}

-- ---- a timer that is set isn't due

some-left : (ticks : ℕ) → no_tick_left (Some (max 1 ticks)) ≡ false
some-left ticks = grind (arith, nat_tests)

set-later : (timer : TimerName) (ticks : ℕ) (r : Running) → is_due (set_timer timer ticks r) timer ≡ false
set-later timer ticks r = by (has_name r.counts timer) refl
  where
    s : Running
    s = set_timer timer ticks r

    none : (o : Option ℕ) → s.left timer ≡ o → has_name r.counts timer ≡ false → no_tick_left o ≡ false
    none None e lacks = refl
    none (Some left) e lacks = no-way (has_name r.counts timer) lacks (sym (ap (λ (n : NodeCounts). has_name n timer) (counts-set timer ticks r)) ∙ exists s timer left e)

    by : (there : Bool) → has_name r.counts timer ≡ there → is_due s timer ≡ false
    by true e = ap no_tick_left (left-set timer ticks r e) ∙ some-left ticks
    by false e = none (s.left timer) refl e

-- ---- what lasts

-- the answer about a link is awaited; and its changeover isn't complete, or its T2 isn't due
pub record Lasts (link : ℕ) (n : Node WholeQueues) : Type 0 where
  pub awaited : (changeover_of n.parts link).awaited ≡ true
  pub later : ((changeover_of n.parts link).incomplete ≡ true) ⊎ (is_due n.parts.timers (name.T2 link) ≡ false)

pub record Lasting (link : ℕ) (n m : Node WholeQueues) : Type 0 where
  pub rests : Rests n m
  pub dues : Dues n m
  pub lasts : Rested n → Lasts link n → Lasts link m

-- what a tick may do: neither an order nor an answer comes, and T2 of this link is looked at by itself
abbrev pub is_no_order : FailureReason → Type 0
is_no_order reasons.Changeover = ⊥
is_no_order other = Unit {0}

abbrev pub May : (link : ℕ) → Deed → Type 0
May link (WaitEnds other) = other ≢ link
May link (LinkFails other why) = is_no_order why
May link (LinkOpens other) = Unit {0}
May link (SetReturns set) = Unit {0}
May link (HoldsEnd procedure) = Unit {0}
May link Lacking = Unit {0}
May link TitlesChange = Unit {0}

none-later : (r s : Running) (timer : TimerName) → (is_due s timer ≡ true → is_due r timer ≡ true) → is_due r timer ≡ false → is_due s timer ≡ false
none-later r s timer e f = by (is_due s timer) refl
  where
    by : (b : Bool) → is_due s timer ≡ b → is_due s timer ≡ false
    by true g = no-way (is_due r timer) f (e g)
    by false g = g

module _ (c : Configuration) (link : ℕ) where
  abbrev pub rests : IsOfRules c any any Rests
  rests = rests-rules c

  pub dues : IsOfRules c any any Dues
  dues = rules-of (dues-steps c)

  -- its changeover is as it was, or only completed while T2 isn't due
  pub kept-lasts : (n m : Node WholeQueues) → Rests n m → Dues n m → (Rested n → (changeover_of n.parts link).awaited ≡ true → changeover_of m.parts link ≡ changeover_of n.parts link) → Lasting link n m
  kept-lasts n m k d e = record {
    rests = k;
    dues = d;
    lasts = λ h l. record {
      awaited = ap (λ (s : Standing). s.awaited) (e h l.awaited) ∙ l.awaited;
      later = ⊎_elim (λ (i : (changeover_of n.parts link).incomplete ≡ true). inl (ap (λ (s : Standing). s.incomplete) (e h l.awaited) ∙ i))
          (λ (f : is_due n.parts.timers (name.T2 link) ≡ false). inr (none-later n.parts.timers m.parts.timers (name.T2 link) (d.due (name.T2 link)) f)) l.later;
    };
  }

  pub same-lasts : (n m : Node WholeQueues) → Rests n m → Dues n m → m.parts.changeovers ≡ n.parts.changeovers → Lasting link n m
  same-lasts n m k d e = kept-lasts n m k d (λ h a. ap (λ (all : List Standing). changeover_of (record n.parts { changeovers = all }) link) e)

  -- that of another link changes
  pub other-lasts : (other : ℕ) (s : Standing) (n m : Node WholeQueues) → Rests n m → Dues n m → other ≢ link → m.parts.changeovers ≡ (with_changeover other s n.parts).changeovers → Lasting link n m
  other-lasts other s n m k d apart e =
      kept-lasts n m k d
      (λ h a. ap (λ (all : List Standing). changeover_of (record n.parts { changeovers = all }) link) e ∙ other-standing n.parts.changeovers other link s n.parts (λ is. apart (sym is)))

  pub both-last : (n m o : Node WholeQueues) → Lasting link n m → Lasting link m o → Lasting link n o
  both-last n m o e f = record {
    rests = record { stay = λ h. f.rests.stay (e.rests.stay h) };
    dues = record { counts = f.dues.counts ∙ e.dues.counts; due = λ timer h. e.dues.due timer (f.dues.due timer h) };
    lasts = λ h l. f.lasts (e.rests.stay h) (e.lasts h l);
  }

  -- ---- a link fails

  pub fails-last : (served : Bool) (other : ℕ) (why : FailureReason) (n : Node WholeQueues) → in_service n.parts other ≡ served → down n.parts other ≡ false → Rested n
      → (changeover_of n.parts link).awaited ≡ true
      → changeover_of (change_over whole c served other (make_unavailable whole c served other why n)).parts link ≡ changeover_of n.parts link
  fails-last false other why n e up h a = refl
  fails-last true other why n e up h a = by (cases_eq link other)
    where
      gone : Node WholeQueues
      gone = make_unavailable whole c true other why n

      ordered : Bool
      ordered = is_ordered c other gone.parts

      by : (link ≡ other) ⊎ (link ≢ other) → changeover_of (begin whole c ordered other gone).parts link ≡ changeover_of n.parts link
      by (inl is) = no-way (down n.parts other) up (subst (λ (k : ℕ). down n.parts k ≡ true) is (h.each link (inr a)))
      by (inr apart) =
          ap (λ (all : List Standing). changeover_of (record n.parts { changeovers = all }) link) (begin-changeovers (May link) c ordered other gone)
          ∙ other-standing gone.parts.changeovers other link (failed ordered (changeover_of gone.parts other)) gone.parts apart
          ∙ ap (λ (all : List Standing). changeover_of (record n.parts { changeovers = all }) link) (gone-alike c other why n).changeovers

  -- ---- an answer about another link comes

  pub acknowledged-last : (other : ℕ) (number : Option ℕ) (n : Node WholeQueues) → other ≢ link → Rests n (on_changeover_acknowledgement whole c other number n).left
      → Dues n (on_changeover_acknowledgement whole c other number n).left → Lasting link n (on_changeover_acknowledgement whole c other number n).left
  acknowledged-last other number n apart k d = by (changeover_of n.parts other).awaited k d
    where
      next : Node WholeQueues
      next = with_parts n (with_changeover_acknowledged other n.parts)

      done : Node WholeQueues
      done = complete_if whole c (changeover_of n.parts other).incomplete other number next

      by : (b : Bool) → Rests n (if b then answer Handled done else answer Ignored n).left → Dues n (if b then answer Handled done else answer Ignored n).left
          → Lasting link n (if b then answer Handled done else answer Ignored n).left
      by true r t = other-lasts other (acknowledged (changeover_of n.parts other)) n done r t apart (complete_if-changeovers c (changeover_of n.parts other).incomplete other number next)
      by false r t = same-lasts n n r t refl

  -- ---- T1 or T2 runs out

  module _ (timer : ChangeoverTimer) (other : ℕ) (n : Node WholeQueues) where
    abbrev its : Standing
    its = changeover_of n.parts other

    abbrev next : Node WholeQueues
    next = with_parts n (with_expiry c timer other (barred c other n.parts))

    abbrev pub done : Node WholeQueues
    done = complete_if whole c its.incomplete other None next

    done-changeovers : done.parts.changeovers ≡ (with_changeover other (expired (bars c) timer its) n.parts).changeovers
    done-changeovers = by timer
      where
        by : (t : ChangeoverTimer) → (complete_if whole c its.incomplete other None (with_parts n (with_expiry c t other (barred c other n.parts)))).parts.changeovers
            ≡ (with_changeover other (expired (bars c) t its) n.parts).changeovers
        by which.T1 = complete_if-changeovers c its.incomplete other None (with_parts n (with_expiry c which.T1 other (barred c other n.parts)))
        by which.T2 = complete_if-changeovers c its.incomplete other None (with_parts n (with_expiry c which.T2 other (barred c other n.parts)))

    done-t2 : done.parts.timers.left (name.T2 other) ≡ (barred c other n.parts).timers.left (name.T2 other)
    done-t2 = by timer
      where
        by : (t : ChangeoverTimer) → (complete_if whole c its.incomplete other None (with_parts n (with_expiry c t other (barred c other n.parts)))).parts.timers.left (name.T2 other)
            ≡ (barred c other n.parts).timers.left (name.T2 other)
        by which.T1 = complete_if-t2 c its.incomplete other other None (with_parts n (with_expiry c which.T1 other (barred c other n.parts)))
        by which.T2 = complete_if-t2 c its.incomplete other other None (with_parts n (with_expiry c which.T2 other (barred c other n.parts)))

  -- where the changeover isn't complete, the link is barred from now on: T2 is set anew
  pub barred-later : (timer : ChangeoverTimer) (n : Node WholeQueues) → bars c ≡ true → (changeover_of n.parts link).awaited ≡ true → (changeover_of n.parts link).incomplete ≡ true
      → is_due (done timer link n).parts.timers (name.T2 link) ≡ false
  barred-later timer n asks a i =
      ap no_tick_left (done-t2 timer link n)
      ∙ ap (λ (b : Bool). is_due (timed_bar c.timers.t2_bar (b && (changeover_of n.parts link).awaited) link n.parts.timers) (name.T2 link)) i
      ∙ ap (λ (b : Bool). is_due (timed_bar c.timers.t2_bar b link n.parts.timers) (name.T2 link)) a
      ∙ by c.timers.t2_bar asks
    where
      by : (ticks : Option ℕ) → is_some ticks ≡ true → is_due (timed_bar ticks true link n.parts.timers) (name.T2 link) ≡ false
      by (Some ticks) e = set-later (name.T2 link) ticks n.parts.timers
      by None e = absurd cc

  pub completed-awaits : (timer : ChangeoverTimer) (n : Node WholeQueues) → expired (bars c) timer (changeover_of n.parts link) ≡ completed (changeover_of n.parts link)
      → (changeover_of (done timer link n).parts link).awaited ≡ (changeover_of n.parts link).awaited
  completed-awaits timer n e =
      ap (λ (all : List Standing). (changeover_of (record n.parts { changeovers = all }) link).awaited) (done-changeovers timer link n)
      ∙ alike-at (λ (s : Standing). s.awaited) n.parts.changeovers link link (expired (bars c) timer (changeover_of n.parts link)) no_changeover (ap (λ (s : Standing). s.awaited) e)

  pub expires-last : (timer : ChangeoverTimer) (other : ℕ) (n : Node WholeQueues) → bars c ≡ true → (timer ≡ which.T2 → other ≢ link) → Rests n (on_changeover_timer whole c timer other n)
      → Dues n (on_changeover_timer whole c timer other n) → Lasting link n (on_changeover_timer whole c timer other n)
  expires-last timer other n asks wait k d = by (is_link n.parts other) k d
    where
      own : (t : ChangeoverTimer) → t ≡ timer → other ≡ link → Rests n (done t link n) → Dues n (done t link n) → Lasting link n (done t link n)
      own which.T1 is same r t = record {
        rests = r;
        dues = t;
        lasts = λ h l. record {
          awaited = completed-awaits which.T1 n refl ∙ l.awaited;
          later = inr (⊎_elim (λ (i : (changeover_of n.parts link).incomplete ≡ true). barred-later which.T1 n asks l.awaited i)
              (λ (f : is_due n.parts.timers (name.T2 link) ≡ false). none-later n.parts.timers (done which.T1 link n).parts.timers (name.T2 link) (t.due (name.T2 link)) f) l.later);
        };
      }
      own which.T2 is same r t = absurd (wait (sym is) same)

      ends : (other ≡ link) ⊎ (other ≢ link) → Rests n (done timer other n) → Dues n (done timer other n) → Lasting link n (done timer other n)
      ends (inl same) r t =
          subst (λ (l : ℕ). Lasting link n (done timer l n)) (sym same)
          (own timer refl same (subst (λ (l : ℕ). Rests n (done timer l n)) same r) (subst (λ (l : ℕ). Dues n (done timer l n)) same t))
      ends (inr apart) r t = other-lasts other (expired (bars c) timer (changeover_of n.parts other)) n (done timer other n) r t apart (done-changeovers timer other n)

      by : (there : Bool) → Rests n (if there then done timer other n else n) → Dues n (if there then done timer other n else n) → Lasting link n (if there then done timer other n else n)
      by true r t = ends (cases_eq other link) r t
      by false r t = same-lasts n n r t refl

  -- ---- an order goes out late

  pub asks-last : (other : ℕ) (n : Node WholeQueues) → is_late c other n.parts ≡ true → (changeover_of n.parts link).awaited ≡ true
      → changeover_of (order_late whole c other n).parts link ≡ changeover_of n.parts link
  asks-last other n late a = by (cases_eq link other)
    where
      m : Message
      m = changeover_order c other (whole.last_accepted n.queues other)

      asks : Node WholeQueues
      asks = with_parts n (asking c other n.parts)

      unasked : is_unasked (changeover_of n.parts other) ≡ true
      unasked = (and_parts (is_unasked (changeover_of n.parts other)) (has_way c other n.parts) late).0

      not-both : (b : Bool) → not b ≡ true → b ≡ true → ⊥
      not-both true e f = cc
      not-both false e f = cc

      by : (link ≡ other) ⊎ (link ≢ other) → changeover_of (order_late whole c other n).parts link ≡ changeover_of n.parts link
      by (inl is) =
          absurd (not-both (changeover_of n.parts other).awaited (and_parts (changeover_of n.parts other).incomplete (not (changeover_of n.parts other).awaited) unasked).1
          (subst (λ (k : ℕ). (changeover_of n.parts k).awaited ≡ true) is a))
      by (inr apart) =
          ap (λ (all : List Standing). changeover_of (record n.parts { changeovers = all }) link)
          (send-changeovers c (no_room whole c m asks.queues) (link_of c asks.parts (flow_of m)) m asks)
          ∙ other-standing n.parts.changeovers other link (with_order (changeover_of n.parts other)) n.parts apart
