-- A link that an event isn't about: while it is in service messages are appended to its queue, a completion empties the
-- queue, and nothing else touches it.
use Rattle.exchange_rules.proofs.Basics.{◌≡◌, ◌≢◌, ◌<◌, ◌≤◌, ◌⊎◌, inl, inr, ℕ, Bool, true, false, List, [], ◌∷◌, ◌++◌, length, Option, refl, ap, sym, subst, ◌∙◌, arith, slice_set, ⊎_elim, cases_eq, cases_lt, append-nil, append_assoc, get_or_past, get_or-set_same, length-set}
use Rattle.exchange_rules.proofs.Definitions.{Message, FailureReason, Configuration, Queue, first_queue, emptied, TimerName, is_due, Link, down_link, is_in_service, after_failure, Standing, no_changeover, Node, with_parts, link_at, in_service, with_link, queue_on, changeover_of, with_changeover, fail_link, WholeQueues, queue_at, whole, with_order, is_unasked}
use Rattle.link.specs.Queue as queue
use Rattle.exchange_rules.specs.Touching.{IsGrown, IsEmptied, IsUntouched, IsCompleted, HadChangeover, IsLeft}
use Rattle.exchange_rules.proofs.Lists.{alike-at}
use Rattle.exchange_rules.proofs.LinkTimers.{same-for}
use Rattle.exchange_rules.proofs.OnLink.{OnLink, queued-on, failed-on, dropped-on, completed-on, answered-on, link-on}

-- ---- a queue

same-grown : (q p : Queue) → p ≡ q → IsGrown q p
same-grown q p e = record { behind = []; grown = e ∙ ap (λ (ms : List Message). record q { all = ms }) (sym (append-nil q.all)) }

both-grown : (q p r : Queue) → IsGrown q p → IsGrown p r → IsGrown q r
both-grown q p r e f = record {
  behind = e.behind ++ f.behind;
  grown = f.grown ∙ ap (λ (x : Queue). record x { all = x.all ++ f.behind }) e.grown
      ∙ ap (λ (ms : List Message). record q { all = ms }) (append_assoc q.all e.behind f.behind);
}

-- what is left of a queue is left of it once it has grown
left-grown : (q p : Queue) → IsGrown q p → emptied p ≡ emptied q
left-grown q p e = ap emptied e.grown

-- a link in service was so before, where out of service it stays so
served-before : (b d : Bool) → (b ≡ false → d ≡ false) → d ≡ true → b ≡ true
served-before true d f e = refl
served-before false d f e = (let no : false ≡ true = sym (f refl) ∙ e in absurd cc)

-- ---- a link

module _ (l : ℕ) where
  pub same-left : (n m : Node WholeQueues) → queue_at m.queues l ≡ queue_at n.queues l → in_service m.parts l ≡ in_service n.parts l
      → (changeover_of m.parts l).incomplete ≡ (changeover_of n.parts l).incomplete → IsLeft l n m
  same-left n m e f g = record {
    queue = inl (same-grown _ _ e);
    begins = λ h. inl (sym g ∙ h);
    service = λ h. f ∙ h;
    waits = λ h. inl (record { changeover = g; queue = e });
  }

  waiting-both : (n m o : Node WholeQueues) → IsUntouched l n m ⊎ IsCompleted l n m → IsUntouched l m o ⊎ IsCompleted l m o → IsUntouched l n o ⊎ IsCompleted l n o
  waiting-both n m o (inl e) (inl f) = inl (record { changeover = f.changeover ∙ e.changeover; queue = f.queue ∙ e.queue })
  waiting-both n m o (inl e) (inr f) = inr (record { was = sym e.changeover ∙ f.was; is = f.is; emptied = f.emptied ∙ ap emptied e.queue })
  waiting-both n m o (inr e) (inl f) = inr (record { was = e.was; is = f.changeover ∙ e.is; emptied = f.queue ∙ e.emptied })
  waiting-both n m o (inr e) (inr f) = absurd (let no : false ≡ true = sym e.is ∙ f.was in cc)

  -- a changeover that was under way in the first part of an event, and one in the second
  had-first : (n m o : Node WholeQueues) → IsLeft l m o → HadChangeover l n m → HadChangeover l n o
  had-first n m o f (inl was) = inl was
  had-first n m o f (inr (served, gone)) = inr (served, f.service gone)

  had-second : (n m o : Node WholeQueues) → IsLeft l n m → IsLeft l m o → HadChangeover l m o → HadChangeover l n o
  had-second n m o e f (inl was) = had-first n m o f (e.begins was)
  had-second n m o e f (inr (served, gone)) = inr (served-before (in_service n.parts l) (in_service m.parts l) e.service served, gone)

  both-queues : (n m o : Node WholeQueues) → IsLeft l n m → IsLeft l m o → IsGrown (queue_at n.queues l) (queue_at m.queues l) ⊎ IsEmptied l n m
      → IsGrown (queue_at m.queues l) (queue_at o.queues l) ⊎ IsEmptied l m o → IsGrown (queue_at n.queues l) (queue_at o.queues l) ⊎ IsEmptied l n o
  both-queues n m o e f (inl g) (inl h) = inl (both-grown _ _ _ g h)
  both-queues n m o e f (inl g) (inr h) = inr (record {
    queue = subst (λ (x : Queue). IsGrown x (queue_at o.queues l)) (left-grown _ _ g) h.queue;
    changeover = had-second n m o e f h.changeover;
  })
  both-queues n m o e f (inr g) (inl h) = inr (record {
    queue = both-grown _ _ _ g.queue h;
    changeover = had-first n m o f g.changeover;
  })
  both-queues n m o e f (inr g) (inr h) = inr (record {
    queue = subst (λ (x : Queue). IsGrown x (queue_at o.queues l)) (left-grown _ _ g.queue) h.queue;
    changeover = had-first n m o f g.changeover;
  })

  pub both-left : (n m o : Node WholeQueues) → IsLeft l n m → IsLeft l m o → IsLeft l n o
  both-left n m o e f = record {
    queue = both-queues n m o e f e.queue f.queue;
    begins = λ h. had-second n m o e f (f.begins h);
    service = λ h. f.service (e.service h);
    waits = λ h. waiting-both n m o (e.waits h) (f.waits (e.service h));
  }

-- ---- steps: by `dues` no timer becomes due, either

pub record Left (dues : Bool) (l : ℕ) (n m : Node WholeQueues) : Type 0 where
  pub due : dues ≡ true → (name : TimerName) → is_due m.parts.timers name ≡ true → is_due n.parts.timers name ≡ true
  pub left : IsLeft l n m

no-way : (b : Bool) → b ≡ true → b ≡ false → ⊥
no-way b e f = (let no : true ≡ false = sym e ∙ f in cc)

module _ (dues : Bool) (l : ℕ) where
  pub both-lefts : (n m o : Node WholeQueues) → Left dues l n m → Left dues l m o → Left dues l n o
  both-lefts n m o e f = record { due = λ x name h. e.due x name (f.due x name h); left = both-left l n m o e.left f.left }

  -- links, changeovers and queues are what they were
  pub alike : (n m : Node WholeQueues) → m.parts.links ≡ n.parts.links → m.parts.changeovers ≡ n.parts.changeovers → m.queues.links ≡ n.queues.links
      → ((name : TimerName) → is_due m.parts.timers name ≡ true → is_due n.parts.timers name ≡ true) → Left dues l n m
  alike n m e f g d = record {
    due = λ x. d;
    left = same-left l n m (ap (λ (xs : List Queue). queue_at (record n.queues { links = xs }) l) g)
        (ap (λ (xs : List Link). in_service (record n.parts { links = xs }) l) e)
        (ap (λ (xs : List Standing). (changeover_of (record n.parts { changeovers = xs }) l).incomplete) f);
  }

  -- another link changes, or this one so
  on-left : (k : ℕ) (x : Link) (s : Standing) (q : Queue) (n m : Node WholeQueues) → OnLink k x s q n m → (l ≡ k → IsLeft l n m) → Left dues l n m
  on-left k x s q n m o f = record {
    due = λ x. o.timers.due;
    left = ⊎_elim f
        (λ (apart : l ≢ k).
        same-left l n m (o.queues.others l apart) (ap (λ (y : Link). is_in_service y.alignment) (o.links.others l apart))
        (ap (λ (t : Standing). t.incomplete) (o.changeovers.others l apart)))
        (cases_eq l k);
  }

  -- of this link the event isn't
  pub other-left : (k : ℕ) (x : Link) (s : Standing) (q : Queue) (n m : Node WholeQueues) → OnLink k x s q n m → k ≢ l → Left dues l n m
  other-left k x s q n m o apart = on-left k x s q n m o (λ e. absurd (apart (sym e)))

  grown-at : (k : ℕ) (m : Message) (n : Node WholeQueues) → IsGrown (queue_at n.queues k) (queue_at (whole.appended n.queues k m) k)
  grown-at k m n =
      ⊎_elim
      (λ (there : k < length n.queues.links). record {
        behind = m ∷ [];
        grown = get_or-set_same n.queues.links k (queue.appended (queue_at n.queues k) m) first_queue there;
      })
      (λ (past : length n.queues.links ≤ k).
      same-grown _ _ (get_or_past (slice_set n.queues.links k (queue.appended (queue_at n.queues k) m)) k first_queue
      (omega (arith, past, length-set n.queues.links k (queue.appended (queue_at n.queues k) m))) ∙ sym (get_or_past n.queues.links k first_queue past)))
      (cases_lt k (length n.queues.links))

  pub queued-left : (c : Configuration) (k : ℕ) (m : Message) (n : Node WholeQueues) → in_service n.parts k ≡ true → Left dues l n (queue_on whole c k m n)
  queued-left c k m n e =
      on-left k _ _ _ n (queue_on whole c k m n) (queued-on k c m n)
      (λ (same : l ≡ k). subst (λ (i : ℕ). IsLeft i n (queue_on whole c k m n)) (sym same)
      (record { queue = inl (grown-at k m n); begins = λ h. inl h; service = λ h. h; waits = λ h. absurd (no-way (in_service n.parts k) e h) }))

  failed-service : (k : ℕ) (n : Node WholeQueues) → in_service n.parts k ≡ false
      → in_service (record n.parts { links = slice_set n.parts.links k (after_failure (link_at n.parts k)) }) k ≡ false
  failed-service k n e =
      alike-at (λ (x : Link). is_in_service x.alignment) n.parts.links k k (after_failure (link_at n.parts k)) down_link (sym e) ∙ e

  -- a link that failed isn't in service
  failed-off : (k : ℕ) (n : Node WholeQueues) → in_service (record n.parts { links = slice_set n.parts.links k (after_failure (link_at n.parts k)) }) k ≡ false
  failed-off k n =
      ⊎_elim
      (λ (there : k < length n.parts.links). ap (λ (x : Link). is_in_service x.alignment) (get_or-set_same n.parts.links k (after_failure (link_at n.parts k)) down_link there))
      (λ (past : length n.parts.links ≤ k).
      ap (λ (x : Link). is_in_service x.alignment)
      (get_or_past (slice_set n.parts.links k (after_failure (link_at n.parts k))) k down_link (omega (arith, past, length-set n.parts.links k (after_failure (link_at n.parts k))))))
      (cases_lt k (length n.parts.links))

  pub failed-left : (k : ℕ) (why : FailureReason) (s : Standing) (n : Node WholeQueues) → in_service n.parts k ≡ true
      → Left dues l n (with_parts n (with_changeover k s (fail_link k why n.parts)))
  failed-left k why s n e =
      on-left k _ _ _ n _ (failed-on k why s n)
      (λ (same : l ≡ k). subst (λ (i : ℕ). IsLeft i n (with_parts n (with_changeover k s (fail_link k why n.parts)))) (sym same)
      (record {
        queue = inl (same-grown _ _ refl);
        begins = λ h. inr (e, failed-off k n);
        service = λ h. absurd (no-way (in_service n.parts k) e h);
        waits = λ h. absurd (no-way (in_service n.parts k) e h);
      }))

  pub dropped-left : (k : ℕ) (why : FailureReason) (n : Node WholeQueues) → in_service n.parts k ≡ false → Left dues l n (with_parts n (fail_link k why n.parts))
  dropped-left k why n e =
      on-left k _ _ _ n _ (dropped-on k why n)
      (λ (same : l ≡ k). subst (λ (i : ℕ). IsLeft i n (with_parts n (fail_link k why n.parts))) (sym same)
      (same-left k n _ refl (failed-service k n e ∙ sym e) refl))

  emptied-at : (k : ℕ) (number : Option ℕ) (n : Node WholeQueues) → queue_at (whole.completed n.queues k number) k ≡ emptied (queue_at n.queues k)
  emptied-at k number n =
      ⊎_elim
      (λ (there : k < length n.queues.links). get_or-set_same n.queues.links k (emptied (queue_at n.queues k)) first_queue there)
      (λ (past : length n.queues.links ≤ k).
      get_or_past (slice_set n.queues.links k (emptied (queue_at n.queues k))) k first_queue (omega (arith, past, length-set n.queues.links k (emptied (queue_at n.queues k))))
      ∙ sym (ap emptied (get_or_past n.queues.links k first_queue past)))
      (cases_lt k (length n.queues.links))

  complete-at : (k : ℕ) (s : Standing) (n : Node WholeQueues) → s.incomplete ≡ false → (changeover_of (with_changeover k s n.parts) k).incomplete ≡ false
  complete-at k s n e =
      ⊎_elim
      (λ (there : k < length n.parts.changeovers). ap (λ (t : Standing). t.incomplete) (get_or-set_same n.parts.changeovers k s no_changeover there) ∙ e)
      (λ (past : length n.parts.changeovers ≤ k).
      ap (λ (t : Standing). t.incomplete) (get_or_past (slice_set n.parts.changeovers k s) k no_changeover (omega (arith, past, length-set n.parts.changeovers k s))))
      (cases_lt k (length n.parts.changeovers))

  pub completed-left : (k : ℕ) (number : Option ℕ) (s : Standing) (n : Node WholeQueues) → (changeover_of n.parts k).incomplete ≡ true → s.incomplete ≡ false
      → Left dues l n (record { queues = whole.completed n.queues k number; parts = with_changeover k s n.parts })
  completed-left k number s n e f =
      let m : Node WholeQueues = record { queues = whole.completed n.queues k number; parts = with_changeover k s n.parts } in
      on-left k _ _ _ n m (completed-on k number s n)
      (λ (same : l ≡ k). subst (λ (i : ℕ). IsLeft i n m) (sym same)
      (record {
        queue = inr (record { queue = same-grown _ _ (emptied-at k number n); changeover = inl e });
        begins = λ h. inl e;
        service = λ h. h;
        waits = λ h. inr (record { was = e; is = complete-at k s n f; emptied = emptied-at k number n });
      }))

  pub answered-left : (k : ℕ) (s : Standing) (n : Node WholeQueues) → (changeover_of n.parts k).incomplete ≡ false → s.incomplete ≡ false
      → Left dues l n (with_parts n (with_changeover k s n.parts))
  answered-left k s n e f =
      on-left k _ _ _ n _ (answered-on k s n)
      (λ (same : l ≡ k). subst (λ (i : ℕ). IsLeft i n (with_parts n (with_changeover k s n.parts))) (sym same)
      (same-left k n _ refl refl (complete-at k s n f ∙ sym e)))

  -- an order goes out late
  asked-at : (k : ℕ) (n : Node WholeQueues) → (changeover_of (with_changeover k (with_order (changeover_of n.parts k)) n.parts) k).incomplete ≡ (changeover_of n.parts k).incomplete
  asked-at k n = alike-at (λ (t : Standing). t.incomplete) n.parts.changeovers k k (with_order (changeover_of n.parts k)) no_changeover refl

  pub asked-left : (k : ℕ) (n : Node WholeQueues) → is_unasked (changeover_of n.parts k) ≡ true
      → Left dues l n (with_parts n (with_changeover k (with_order (changeover_of n.parts k)) n.parts))
  asked-left k n e =
      on-left k _ _ _ n _ (answered-on k (with_order (changeover_of n.parts k)) n)
      (λ (same : l ≡ k). subst (λ (i : ℕ). IsLeft i n (with_parts n (with_changeover k (with_order (changeover_of n.parts k)) n.parts))) (sym same)
      (same-left k n _ refl refl (asked-at k n)))

  -- a link is in service as before
  pub linked-left : (k : ℕ) (x : Link) (n : Node WholeQueues) → x.alignment ≡ (link_at n.parts k).alignment → Left dues l n (with_parts n (with_link n.parts k x))
  linked-left k x n e =
      on-left k _ _ _ n _ (link-on k x n.parts.timers n (same-for k n.parts.timers))
      (λ (same : l ≡ k). subst (λ (i : ℕ). IsLeft i n (with_parts n (with_link n.parts k x))) (sym same)
      (same-left k n _ refl (alike-at (λ (y : Link). is_in_service y.alignment) n.parts.links k k x down_link (ap is_in_service e)) refl))
