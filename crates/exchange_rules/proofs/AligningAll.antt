-- Through ticks, too: a timer that runs out takes its link out of the state in which it runs.
use Rattle.exchange_rules.proofs.Basics.{◌≡◌, ◌≢◌, ◌<◌, ◌≤◌, ℕ, Bool, true, false, ◌&&◌, not, nat_lt, length, Option, Some, None, refl, ap, sym, subst, ◌∙◌, arith, ⊎_elim, cases_eq, cases_lt, is_some, nat_tests, get_or_past, length-replicate}
use Rattle.exchange_rules.proofs.Definitions.{enters_traffic, Period, paced, Configuration, Alignment, Action, Expiry, Fail, Go, Transition, action_at, is_in_service, LinkTimer, TimerName, NodeCounts, Running, one_less, due_name, after_due, after-clear, after-none, due-left, counts-clear, left-clear_other, left-clear, left-ticked, left-none, clear_timer, timer_name, timed, with_timer_if, enters, has_other, begun_anew_if, return_if, advance, act_by_timer, run_out, links_with, stepped, Link, down_link, Node, with_parts, link_at, in_service, facts, with_timers, run_timer, run_due, first_state, counts_in, after_each, HasAllPlaces, WholeQueues, whole, test_if}
use Rattle.timers.specs.OneMap.{one_map}
use Rattle.timers.specs.declared.name.TimerName.TheVariants as name
use Rattle.link.specs.declared.action.LinkTimer.TheVariants as timer
use Rattle.link.specs.declared.action.Action.TheVariants as act
use Rattle.link.specs.declared.alignment.Alignment.TheVariants.{Down, NotAligned, Aligned, Proving, AlignedReady, InService}
use Rattle.signalling_types.specs.declared.notice.FailureReason.TheVariants as reasons
use Rattle.exchange_rules.specs.Aligning.{waiting_in, is_that, is_of_waits, links_have_their_timers}
use Rattle.exchange_rules.proofs.Lists.{each-replicate}
use Rattle.exchange_rules.proofs.TimerSettings.{cases-name}
use Rattle.exchange_rules.proofs.LinkWaits.{other-link}
use Rattle.exchange_rules.proofs.Waiting.{Waits, waits-as, waits-but_seven}
use Rattle.exchange_rules.proofs.Aligning.{At, Keeps, same-alike, alike, both, of-link, fails-at, keeps-rules}
use Rattle.exchange_rules.proofs.Steps.{is_of_link}
use Rattle.exchange_rules.proofs.SteppingLinks.{advance-steps}
use Rattle.exchange_rules.proofs.SteppingEvents.{run_timer-steps}
use Rattle.exchange_rules.proofs.LastingPlaces.{places-first, places-stay}
use Rattle.exchange_rules.proofs.Asked.{IsOfAll, asked-all}

-- ---- the state of a link whose timer runs out

-- a link fails by the timer of its state, unless that is L4
abbrev FailsBy : LinkTimer → Period → Alignment → Type 0
FailsBy its period a = action_at period a (Expiry its) ≡ act.Fail

fails-l1 : (period : Period) (a : Alignment) → is_that (waiting_in a) timer.L1 ≡ true → FailsBy timer.L1 period a
fails-l1 period Down e = absurd cc
fails-l1 period NotAligned e = absurd cc
fails-l1 period Aligned e = absurd cc
fails-l1 period (Proving ready) e = absurd cc
fails-l1 period AlignedReady e = refl
fails-l1 period InService e = absurd cc

fails-l2 : (period : Period) (a : Alignment) → is_that (waiting_in a) timer.L2 ≡ true → FailsBy timer.L2 period a
fails-l2 period Down e = absurd cc
fails-l2 period NotAligned e = refl
fails-l2 period Aligned e = absurd cc
fails-l2 period (Proving ready) e = absurd cc
fails-l2 period AlignedReady e = absurd cc
fails-l2 period InService e = absurd cc

fails-l3 : (period : Period) (a : Alignment) → is_that (waiting_in a) timer.L3 ≡ true → FailsBy timer.L3 period a
fails-l3 period Down e = absurd cc
fails-l3 period NotAligned e = absurd cc
fails-l3 period Aligned e = refl
fails-l3 period (Proving ready) e = absurd cc
fails-l3 period AlignedReady e = absurd cc
fails-l3 period InService e = absurd cc

fails-l6 : (period : Period) (a : Alignment) (busy : Bool) → (is_in_service a && busy) ≡ true → FailsBy timer.L6 period a
fails-l6 period Down busy e = absurd cc
fails-l6 period NotAligned busy e = absurd cc
fails-l6 period Aligned busy e = absurd cc
fails-l6 period (Proving ready) busy e = absurd cc
fails-l6 period AlignedReady busy e = absurd cc
fails-l6 period InService busy e = refl

-- L4 takes it on, and stops by that
record Goes (period : Period) (a : Alignment) : Type 0 where
  pub step : Transition
  pub is : action_at period a (Expiry timer.L4) ≡ act.Go step
  pub stop : step.stop ≡ Some timer.L4

goes-l4 : (period : Period) (a : Alignment) → is_that (waiting_in a) timer.L4 ≡ true → Goes period a
goes-l4 period Down e = absurd cc
goes-l4 period NotAligned e = absurd cc
goes-l4 period Aligned e = absurd cc
goes-l4 period (Proving true) e = record { step = _; is = refl; stop = refl }
goes-l4 period (Proving false) e = record { step = _; is = refl; stop = refl }
goes-l4 period AlignedReady e = absurd cc
goes-l4 period InService e = absurd cc

-- a timer that is stopped twice
cleared-twice : (its : TimerName) (r : Running) → clear_timer its (clear_timer its r) ≡ clear_timer its r
cleared-twice its r = one_map _ _ (counts-clear its (clear_timer its r)) (λ other. ⊎_elim (λ (e : its ≡ other). subst (λ (x : TimerName). (clear_timer its (clear_timer its r)).left x ≡ (clear_timer its r).left x) e
    (left-clear its (clear_timer its r) ∙ sym (left-clear its r))) (λ (apart : its ≢ other). left-clear_other its other (clear_timer its r) apart) (cases-name its other))

module _ (c : Configuration) (l : ℕ) where
  -- a link takes a step that stops its timer, which was handed out
  advanced-alike : (step : Transition) (n : Node WholeQueues) → step.stop ≡ Some timer.L4
      → advance whole c l step (with_timers n (clear_timer (name.L4 l) n.parts.timers)) ≡ advance whole c l step n
  advanced-alike step n e = ap goes_on (same step.stop e)
    where
      goes_on : Running → Node WholeQueues
      goes_on r =
          test_if whole c (enters l step n.parts) l
          (return_if whole c (enters_traffic l step n.parts) l (facts c n.parts)
          (with_parts n (begun_anew_if (enters_traffic l step n.parts && not (has_other c l n.parts)) c l
          (record n.parts { links = links_with n.parts l (stepped step (link_at n.parts l)); timers = r }))))

      same : (stop : Option LinkTimer) → stop ≡ Some timer.L4
          → timed c l (record step { stop = stop }) (clear_timer (name.L4 l) n.parts.timers) ≡ timed c l (record step { stop = stop }) n.parts.timers
      same stop f =
          subst (λ (o : Option LinkTimer). timed c l (record step { stop = o }) (clear_timer (name.L4 l) n.parts.timers) ≡ timed c l (record step { stop = o }) n.parts.timers) (sym f)
          (ap (with_timer_if (paced step.period c.timers) l step.start) (cleared-twice (name.L4 l) n.parts.timers))

  -- ---- one timer is handed out

  abbrev handed : TimerName → Node WholeQueues → Node WholeQueues
  handed its n = with_timers n (clear_timer its n.parts.timers)

  -- of no link, of another link, or L7
  other-keeps : (its : TimerName) (n : Node WholeQueues) → ((t : LinkTimer) → is_that (Some timer.L7) t ≡ false → its ≢ timer_name l t) → Keeps l n (handed its n)
  other-keeps its n apart = record {
    stay = λ h. record {
      there = h.there;
      named = ap (λ (k : NodeCounts). nat_lt l k.links) (counts-clear its n.parts.timers) ∙ h.named;
      waits = waits-but_seven l c (link_at n.parts l) n.parts.timers _ (λ t e. ap is_some (left-clear_other its (timer_name l t) n.parts.timers (apart t e))) h.waits;
    };
  }

  ran-keeps : (its : TimerName) (n : Node WholeQueues) → ((t : LinkTimer) → is_that (Some timer.L7) t ≡ false → its ≢ timer_name l t) → Keeps l n (run_timer whole c its (handed its n))
  ran-keeps its n apart = both l n (handed its n) _ (other-keeps its n apart) (run_timer-steps (keeps-rules l c) its (handed its n) (λ link t e. tt))

  -- its own, by which it fails
  failing : (its : LinkTimer) (n : Node WholeQueues) → FailsBy its (link_at n.parts l).period (link_at n.parts l).alignment → At l n → At l (run_out whole c l its (handed (timer_name l its) n))
  failing its n e h =
      subst (λ (a : Action). At l (act_by_timer whole c a l (handed (timer_name l its) n))) (sym e)
      (fails-at l c (in_service n.parts l) reasons.Timer (handed (timer_name l its) n) h.there
      (ap (λ (k : NodeCounts). nat_lt l k.links) (counts-clear (timer_name l its) n.parts.timers) ∙ h.named))

  going : (n : Node WholeQueues) → Goes (link_at n.parts l).period (link_at n.parts l).alignment → At l n → At l (run_out whole c l timer.L4 (handed (name.L4 l) n))
  going n g h =
      subst (λ (a : Action). At l (act_by_timer whole c a l (handed (name.L4 l) n))) (sym g.is)
      (subst (λ (m : Node WholeQueues). At l m) (sym (advanced-alike g.step n g.stop)) ((advance-steps (keeps-rules l c) l (Expiry timer.L4) g.step n tt g.is).stay h))

  -- it ran until then
  waited : (its : LinkTimer) (n : Node WholeQueues) → is_of_waits its ≡ true → due_name n.parts.timers ≡ Some (timer_name l its) → At l n → is_that (waiting_in (link_at n.parts l).alignment) its ≡ true
  waited its n w e h = sym (h.waits.timed.waits its w) ∙ ap is_some (due-left (timer_name l its) n.parts.timers e)

  was_busy : (n : Node WholeQueues) → due_name n.parts.timers ≡ Some (name.L6 l) → At l n → (is_in_service (link_at n.parts l).alignment && (link_at n.parts l).peer_busy) ≡ true
  was_busy n e h = sym h.waits.timed.busy ∙ ap is_some (due-left (name.L6 l) n.parts.timers e)

  own-runs_out : (its : LinkTimer) (n : Node WholeQueues) → due_name n.parts.timers ≡ Some (timer_name l its) → Keeps l n (run_timer whole c (timer_name l its) (handed (timer_name l its) n))
  own-runs_out timer.L1 n e = record { stay = λ h. failing timer.L1 n (fails-l1 (link_at n.parts l).period (link_at n.parts l).alignment (waited timer.L1 n refl e h)) h }
  own-runs_out timer.L2 n e = record { stay = λ h. failing timer.L2 n (fails-l2 (link_at n.parts l).period (link_at n.parts l).alignment (waited timer.L2 n refl e h)) h }
  own-runs_out timer.L3 n e = record { stay = λ h. failing timer.L3 n (fails-l3 (link_at n.parts l).period (link_at n.parts l).alignment (waited timer.L3 n refl e h)) h }
  own-runs_out timer.L4 n e = record { stay = λ h. going n (goes-l4 (link_at n.parts l).period (link_at n.parts l).alignment (waited timer.L4 n refl e h)) h }
  own-runs_out timer.L6 n e = record { stay = λ h. failing timer.L6 n (fails-l6 (link_at n.parts l).period (link_at n.parts l).alignment (link_at n.parts l).peer_busy (was_busy n e h)) h }
  own-runs_out timer.L7 n e = ran-keeps (name.L7 l) n (λ t f same. apart-seven t f same)
    where
      apart-seven : (t : LinkTimer) → is_that (Some timer.L7) t ≡ false → name.L7 l ≢ timer_name l t
      apart-seven timer.L1 f same = cc
      apart-seven timer.L2 f same = cc
      apart-seven timer.L3 f same = cc
      apart-seven timer.L4 f same = cc
      apart-seven timer.L6 f same = cc
      apart-seven timer.L7 f same = absurd cc

  link-runs_out : (link : ℕ) (its : LinkTimer) (n : Node WholeQueues) → due_name n.parts.timers ≡ Some (timer_name link its)
      → Keeps l n (run_timer whole c (timer_name link its) (handed (timer_name link its) n))
  link-runs_out link its n e =
      ⊎_elim
      (λ (same : link ≡ l).
      subst (λ (k : ℕ). due_name n.parts.timers ≡ Some (timer_name k its) → Keeps l n (run_timer whole c (timer_name k its) (handed (timer_name k its) n))) (sym same) (own-runs_out its n) e)
      (λ (apart : link ≢ l). ran-keeps (timer_name link its) n (λ t f. other-link l link t its apart))
      (cases_eq link l)

  no-link : (its : TimerName) (n : Node WholeQueues) → is_of_link its ≡ false → Keeps l n (run_timer whole c its (handed its n))
  no-link its n e = ran-keeps its n (λ t f same. (let no : true ≡ false = sym (of-link l t) ∙ sym (ap is_of_link same) ∙ e in cc))

  runs_out-keeps : (its : TimerName) (n : Node WholeQueues) → due_name n.parts.timers ≡ Some its → Keeps l n (run_timer whole c its (handed its n))
  runs_out-keeps (name.L1 link) n e = link-runs_out link timer.L1 n e
  runs_out-keeps (name.L2 link) n e = link-runs_out link timer.L2 n e
  runs_out-keeps (name.L3 link) n e = link-runs_out link timer.L3 n e
  runs_out-keeps (name.L4 link) n e = link-runs_out link timer.L4 n e
  runs_out-keeps (name.L6 link) n e = link-runs_out link timer.L6 n e
  runs_out-keeps (name.L7 link) n e = link-runs_out link timer.L7 n e
  runs_out-keeps (name.T1 link) n e = no-link (name.T1 link) n refl
  runs_out-keeps (name.T2 link) n e = no-link (name.T2 link) n refl
  runs_out-keeps (name.T3 link) n e = no-link (name.T3 link) n refl
  runs_out-keeps (name.T4 set code) n e = no-link (name.T4 set code) n refl
  runs_out-keeps (name.T6 destination) n e = no-link (name.T6 destination) n refl
  runs_out-keeps (name.T8 set destination) n e = no-link (name.T8 set destination) n refl
  runs_out-keeps (name.T10 set destination) n e = no-link (name.T10 set destination) n refl
  runs_out-keeps (name.Slt1 link) n e = no-link (name.Slt1 link) n refl
  runs_out-keeps (name.Slt2 link) n e = no-link (name.Slt2 link) n refl

  due-keeps : (due : Option TimerName) (n : Node WholeQueues) → due_name n.parts.timers ≡ due → Keeps l n (run_due whole c due (with_timers n (after_due n.parts.timers)))
  due-keeps None n e = alike l n _ (same-alike n _ refl (after-none n.parts.timers e))
  due-keeps (Some its) n e =
      subst (λ (r : Running). Keeps l n (run_timer whole c its (with_timers n r))) (sym (after-clear its n.parts.timers e)) (runs_out-keeps its n e)

  -- ---- all

  still-running : (o : Option ℕ) → is_some (one_less o) ≡ is_some o
  still-running None = refl
  still-running (Some n) = refl

  keeps-all : IsOfAll c (Keeps l)
  keeps-all = record {
    rules = keeps-rules l c;
    ticks = λ n. record {
      stay = λ h. record {
        there = h.there;
        named = h.named;
        waits = waits-as l _ _ _ _ refl (λ t. ap is_some (left-ticked (timer_name l t) n.parts.timers) ∙ still-running (n.parts.timers.left (timer_name l t))) h.waits;
      };
    };
    next = λ n. due-keeps (due_name n.parts.timers) n refl;
  }

-- ---- from the first state on

-- a link that is down has none
idle : (l : ℕ) (r : Running) → ((t : LinkTimer) → r.left (timer_name l t) ≡ None) → Waits l down_link r
idle l r none = record { timed = record { waits = λ t w. ap is_some (none t); busy = ap is_some (none timer.L6) }; calm = λ out. refl; down = λ alone. refl }

first-at : (c : Configuration) (l : ℕ) → l < length c.links → At l (first_state c).node
first-at c l there = record {
  there = omega (arith, there, length-replicate (length c.links) down_link);
  named = grind (arith, nat_tests, there);
  waits = waits-as l _ _ _ _ (each-replicate (λ (x : Link). x ≡ down_link) (length c.links) l down_link refl) (λ t. refl)
      (idle l (first_state c).node.parts.timers (λ t. left-none (timer_name l t) (counts_in c)));
}

no-name : (l : ℕ) (t : LinkTimer) (r : Running) → nat_lt l r.counts.links ≡ false → r.left (timer_name l t) ≡ None
no-name l timer.L1 r e = r.only (name.L1 l) e
no-name l timer.L2 r e = r.only (name.L2 l) e
no-name l timer.L3 r e = r.only (name.L3 l) e
no-name l timer.L4 r e = r.only (name.L4 l) e
no-name l timer.L6 r e = r.only (name.L6 l) e
no-name l timer.L7 r e = r.only (name.L7 l) e

absent : (c : Configuration) (n : Node WholeQueues) (l : ℕ) → HasAllPlaces c n → length c.links ≤ l → Waits l (link_at n.parts l) n.parts.timers
absent c n l h past =
    let gone : nat_lt l n.parts.timers.counts.links ≡ false = (let far : n.parts.timers.counts.links ≤ l = omega (arith, past, h.timers.links) in grind (arith, nat_tests, far)) in
    waits-as l _ _ _ _ (get_or_past n.parts.links l down_link (omega (arith, past, h.parts.links))) (λ t. refl) (idle l n.parts.timers (λ t. no-name l t n.parts.timers gone))

pub links-have : links_have_their_timers
links-have c asked l few =
    ⊎_elim
    (λ (there : l < length c.links). ((asked-all (keeps-all c l) asked (first_state c) refl).stay (first-at c l there)).waits.timed)
    (λ (past : length c.links ≤ l). (absent c (after_each asked (first_state c)).node l (places-stay asked (first_state c) (places-first c few)) past).timed)
    (cases_lt l (length c.links))
