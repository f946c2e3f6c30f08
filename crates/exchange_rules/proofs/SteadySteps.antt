-- Each step leaves each link steady.
use Rattle.exchange_rules.proofs.Basics.{◌≡◌, ◌≢◌, ◌<◌, ℕ, Bool, true, false, length, Option, refl, sym, subst, arith, slice_set, ⊎_elim, cases_eq}
use Rattle.exchange_rules.proofs.Definitions.{with_test_passed, Configuration, Message, FailureReason, Input, Go, Transition, acts_on, Queue, emptied, NodeCounts, L7, Running, is_running, Link, stepped, after_failure, Standing, Node, with_parts, link_at, with_link, down, in_service, queue_on, changeover_of, with_changeover, fail_link, without_association, step_on, WholeQueues, queue_at, whole, is_l7_running, with_order, is_unasked}
use Rattle.link.specs.Queue as queue
use Rattle.exchange_rules.proofs.Serving.{IsStep, each-step}
use Rattle.exchange_rules.proofs.LinkTimers.{AreTimedFor, same-for, timed-for, timed_busy-for, timed_busy_ended-for}
use Rattle.exchange_rules.proofs.WatchedLink.{l7-without_timers, l7-timed, l7-busy, l7-busy_ended}
use Rattle.exchange_rules.proofs.OnLink.{OnLink, queued-on, failed-on, dropped-on, completed-on, answered-on, link-on}
use Rattle.exchange_rules.proofs.SteadyLinks.{Stands, stands-appended, stands-failed, stands-dropped, stands-completed, stands-answered, stands-linked, stands-parted, stands-asked}
use Rattle.exchange_rules.proofs.SteadyChanges.{stands-stepped, stands-busied, stands-resumed}
use Rattle.exchange_rules.proofs.Steps.{IsSameLink, with_busy, without_busy}

-- a link that is there is steady
pub record At (exact : Bool) (c : Configuration) (l : ℕ) (n : Node WholeQueues) : Type 0 where
  pub there : l < length n.parts.links
  pub changes_over : l < length n.parts.changeovers
  pub queues : l < length n.queues.links
  pub named : l < n.parts.timers.counts.links
  pub stands : Stands exact c.window (link_at n.parts l) (changeover_of n.parts l) (queue_at n.queues l) (is_l7_running n l)

-- it stays so from one node to another
pub record Keeps (exact : Bool) (c : Configuration) (l : ℕ) (n m : Node WholeQueues) : Type 0 where
  pub stay : At exact c l n → At exact c l m

module _ (exact : Bool) (c : Configuration) where
  pub stands-as : (x y : Link) (s t : Standing) (q p : Queue) (b d : Bool) → y ≡ x → t ≡ s → p ≡ q → d ≡ b → Stands exact c.window x s q b → Stands exact c.window y t p d
  stands-as x y s t q p b d e f g k h =
      subst (λ (z : Link). Stands exact c.window z t p d) (sym e)
      (subst (λ (z : Standing). Stands exact c.window x z p d) (sym f)
      (subst (λ (z : Queue). Stands exact c.window x s z d) (sym g) (subst (λ (z : Bool). Stands exact c.window x s q z) (sym k) h)))

  names-stay : (l k : ℕ) (r t : Running) → AreTimedFor k r t → l < r.counts.links → l < t.counts.links
  names-stay l k r t e h = subst (λ (n : NodeCounts). l < n.links) (sym e.counts) h

  -- ---- a change of one link

  here : (k : ℕ) (x : Link) (s : Standing) (q : Queue) (n m : Node WholeQueues) → OnLink k x s q n m
      → (At exact c k n → Stands exact c.window x s q (is_l7_running m k)) → At exact c k n → At exact c k m
  here k x s q n m o f h = record {
    there = omega (arith, h.there, o.links.size);
    changes_over = omega (arith, h.changes_over, o.changeovers.size);
    queues = omega (arith, h.queues, o.queues.size);
    named = names-stay k k n.parts.timers m.parts.timers o.timers h.named;
    stands = stands-as _ _ _ _ _ _ _ _ (o.links.here h.there) (o.changeovers.here h.changes_over) (o.queues.here h.queues) refl (f h);
  }

  elsewhere : (l k : ℕ) (x : Link) (s : Standing) (q : Queue) (n m : Node WholeQueues) → l ≢ k → OnLink k x s q n m → At exact c l n → At exact c l m
  elsewhere l k x s q n m apart o h = record {
    there = omega (arith, h.there, o.links.size);
    changes_over = omega (arith, h.changes_over, o.changeovers.size);
    queues = omega (arith, h.queues, o.queues.size);
    named = names-stay l k n.parts.timers m.parts.timers o.timers h.named;
    stands = stands-as _ _ _ _ _ _ _ _ (o.links.others l apart) (o.changeovers.others l apart) (o.queues.others l apart) (o.timers.others l apart) h.stands;
  }

  pub on-link : (l k : ℕ) (x : Link) (s : Standing) (q : Queue) (n m : Node WholeQueues) → OnLink k x s q n m
      → (At exact c k n → Stands exact c.window x s q (is_l7_running m k)) → Keeps exact c l n m
  on-link l k x s q n m o f = record {
    stay = λ h. ⊎_elim
        (λ (e : l ≡ k). subst (λ (i : ℕ). At exact c i m) (sym e) (here k x s q n m o f (subst (λ (i : ℕ). At exact c i n) e h)))
        (λ (apart : l ≢ k). elsewhere l k x s q n m apart o h)
        (cases_eq l k);
  }

  -- ---- one more message is on a link in service

  pub queued-keeps : (l k : ℕ) (m : Message) (n : Node WholeQueues) → in_service n.parts k ≡ true → Keeps exact c l n (queue_on whole c k m n)
  queued-keeps l k m n e =
      on-link l k (link_at n.parts k) (changeover_of n.parts k) (queue.appended (queue_at n.queues k) m) n (queue_on whole c k m n)
      (queued-on k c m n)
      (λ h. stands-appended exact c.window _ _ _ _ h.stands m e)

  -- ---- failures and changeovers

  pub failed-keeps : (l k : ℕ) (why : FailureReason) (s : Standing) (n : Node WholeQueues) → s.incomplete ≡ true
      → Keeps exact c l n (with_parts n (with_changeover k s (fail_link k why n.parts)))
  failed-keeps l k why s n i =
      on-link l k (after_failure (link_at n.parts k)) s (queue_at n.queues k) n (with_parts n (with_changeover k s (fail_link k why n.parts)))
      (failed-on k why s n)
      (λ h. stands-as _ _ _ _ _ _ _ _ refl refl refl (l7-without_timers k n.parts.timers) (stands-failed exact c.window _ _ _ _ h.stands s i))

  pub dropped-keeps : (l k : ℕ) (why : FailureReason) (n : Node WholeQueues) → in_service n.parts k ≡ false → Keeps exact c l n (with_parts n (fail_link k why n.parts))
  dropped-keeps l k why n e =
      on-link l k (after_failure (link_at n.parts k)) (changeover_of n.parts k) (queue_at n.queues k) n (with_parts n (fail_link k why n.parts))
      (dropped-on k why n)
      (λ h. stands-as _ _ _ _ _ _ _ _ refl refl refl (l7-without_timers k n.parts.timers) (stands-dropped exact c.window _ _ _ _ h.stands e))

  pub completed-keeps : (l k : ℕ) (number : Option ℕ) (s : Standing) (n : Node WholeQueues) → (changeover_of n.parts k).incomplete ≡ true → s.incomplete ≡ false
      → Keeps exact c l n (record { queues = whole.completed n.queues k number; parts = with_changeover k s n.parts })
  completed-keeps l k number s n e f =
      on-link l k (link_at n.parts k) s (emptied (queue_at n.queues k)) n (record { queues = whole.completed n.queues k number; parts = with_changeover k s n.parts })
      (completed-on k number s n)
      (λ h. stands-completed exact c.window _ _ _ _ h.stands s e f)

  pub answered-keeps : (l k : ℕ) (s : Standing) (n : Node WholeQueues) → (changeover_of n.parts k).incomplete ≡ false → s.incomplete ≡ false
      → (s.awaited ≡ true → (changeover_of n.parts k).awaited ≡ true) → Keeps exact c l n (with_parts n (with_changeover k s n.parts))
  answered-keeps l k s n e f w =
      on-link l k (link_at n.parts k) s (queue_at n.queues k) n (with_parts n (with_changeover k s n.parts))
      (answered-on k s n)
      (λ h. stands-answered exact c.window _ _ _ _ h.stands s e f w)

  pub asked-keeps : (l k : ℕ) (n : Node WholeQueues) → is_unasked (changeover_of n.parts k) ≡ true → Keeps exact c l n (with_parts n (with_changeover k (with_order (changeover_of n.parts k)) n.parts))
  asked-keeps l k n e =
      on-link l k (link_at n.parts k) (with_order (changeover_of n.parts k)) (queue_at n.queues k) n (with_parts n (with_changeover k (with_order (changeover_of n.parts k)) n.parts))
      (answered-on k (with_order (changeover_of n.parts k)) n)
      (λ h. stands-asked exact c.window _ _ _ _ h.stands e)

  -- ---- a link changes, and its timers with it

  link-keeps : (l k : ℕ) (x : Link) (r : Running) (n : Node WholeQueues) → AreTimedFor k n.parts.timers r
      → (At exact c k n → Stands exact c.window x (changeover_of n.parts k) (queue_at n.queues k) (is_running (L7 k) r))
      → Keeps exact c l n (with_parts n (record n.parts { links = slice_set n.parts.links k x; timers = r }))
  link-keeps l k x r n t f =
      on-link l k x (changeover_of n.parts k) (queue_at n.queues k) n (with_parts n (record n.parts { links = slice_set n.parts.links k x; timers = r }))
      (link-on k x r n t) f

  pub linked-keeps : (l k : ℕ) (x : Link) (n : Node WholeQueues) → IsSameLink (link_at n.parts k) x → Keeps exact c l n (with_parts n (with_link n.parts k x))
  linked-keeps l k x n e =
      link-keeps l k x n.parts.timers n (same-for k n.parts.timers) (λ h. stands-linked exact c.window _ _ _ _ h.stands x e.alignment e.association e.busy)

  pub passed-keeps : (l k : ℕ) (n : Node WholeQueues) → Keeps exact c l n (with_parts n (with_test_passed k n.parts))
  passed-keeps l k n =
      link-keeps l k _ n.parts.timers n (same-for k n.parts.timers) (λ h. stands-linked exact c.window _ _ _ _ h.stands _ refl refl refl)

  pub parted-keeps : (l k : ℕ) (n : Node WholeQueues) → down n.parts k ≡ true → Keeps exact c l n (with_parts n (without_association k n.parts))
  parted-keeps l k n e = link-keeps l k _ n.parts.timers n (same-for k n.parts.timers) (λ h. stands-parted exact c.window _ _ _ _ h.stands e)

  pub stepped-keeps : (l k : ℕ) (input : Input) (step : Transition) (n : Node WholeQueues) → acts_on (link_at n.parts k) input ≡ Go step
      → Keeps exact c l n (with_parts n (step_on c k step n.parts))
  stepped-keeps l k input step n e =
      let known : IsStep (link_at n.parts k).alignment step = each-step (link_at n.parts k).period (link_at n.parts k).alignment input step e in
      link-keeps l k (stepped step (link_at n.parts k)) _ n (timed-for k c step n.parts.timers)
      (λ h. stands-as _ _ _ _ _ _ _ _ refl refl refl (l7-timed k c step n.parts.timers known.stop known.start) (stands-stepped exact c.window _ _ _ _ h.stands input step e))

  pub busied-keeps : (l k : ℕ) (n : Node WholeQueues) → in_service n.parts k ≡ true → Keeps exact c l n (with_parts n (with_busy c k n.parts))
  busied-keeps l k n e =
      link-keeps l k _ _ n (timed_busy-for k c n.parts.timers)
      (λ h. stands-as _ _ _ _ _ _ _ _ refl refl refl (l7-busy k c n.parts.timers) (stands-busied exact c.window _ _ _ _ h.stands e))

  pub resumed-keeps : (l k : ℕ) (n : Node WholeQueues) → in_service n.parts k ≡ true → (link_at n.parts k).peer_busy ≡ true
      → Keeps exact c l n (with_parts n (without_busy c k (whole.outstanding n.queues k) n.parts))
  resumed-keeps l k n e f =
      link-keeps l k _ _ n (timed_busy_ended-for k c (whole.outstanding n.queues k) n.parts.timers)
      (λ h. stands-as _ _ _ _ _ _ _ _ refl refl refl (l7-busy_ended k c (whole.outstanding n.queues k) n.parts.timers h.named)
      (stands-resumed exact c.window _ _ _ _ h.stands e f))
