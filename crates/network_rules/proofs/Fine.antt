-- What keeps all messages of a node fine: what rules do, a completion, and what frames confirm.
use Rattle.exchange_rules.proofs.Basics.{◌≡◌, ℕ, zero, suc, Bool, true, false, not, List, [], ◌∷◌, ◌++◌, Option, Some, None, refl, sym, subst, filter, drop, slice_set, list_all, and_from as pair}
use Rattle.exchange_rules.proofs.Definitions.{Message, is_management, Configuration, ExtendedChangeoverAcknowledgement, ChangeoverTimer, Node, Parts, with_parts, answer, WholeQueues, queue_at, whole, queue_on, Queue, first_queue, emptied, appended, behind, moved, accepted_count, is_link, set_of, peer_of, entry_of}
use Rattle.exchange_rules.proofs.Definitions.{fail_by_order, conclude, complete_if, concluded, complete_by_order, on_changeover_order, on_changeover_acknowledgement, on_changeover_timer, changeover_acknowledgement, changeover_of, with_changeover, completed, with_changeover_acknowledged, with_expiry}
use Rattle.exchange_rules.specs.ChangingOver.{bar, barred}
use Rattle.exchange_rules.proofs.Lists.{each-set}
use Rattle.exchange_rules.proofs.Settling.{left-true, right-true}
use Rattle.signalling_types.specs.declared.outcome.Outcome.TheVariants.{Handled, Ignored}
use Rattle.network_rules.proofs.Passing.{IsFine, IsPassing, AllFine, joined, one-more, either-all, either, either_done, stays, routed, each-sent, by_order-keeps}

module _ (c : Configuration) (fine : Message → Bool) (f : IsFine c fine) where
  pub record AreFine (qs : WholeQueues) : Type 0 where
    pub held : AllFine fine qs.held
    pub links : (link : ℕ) → AllFine fine (queue_at qs link).all

  -- ---- lists

  filtered : (test : Message → Bool) (ms : List Message) → AllFine fine ms → AllFine fine (filter test ms)
  filtered test [] e = refl
  filtered test (m ∷ ms) e =
      let others : AllFine fine (filter test ms) = filtered test ms (right-true (fine m) (list_all fine ms) e) in
      either-all fine (test m) (m ∷ filter test ms) (filter test ms) (pair (fine m) (list_all fine (filter test ms)) (left-true (fine m) (list_all fine ms) e) others) others

  dropped : (n : ℕ) (ms : List Message) → AllFine fine ms → AllFine fine (drop n ms)
  dropped zero ms e = e
  dropped (suc n) [] e = e
  dropped (suc n) (m ∷ ms) e = dropped n ms (right-true (fine m) (list_all fine ms) e)

  behind-fine : (q : Queue) (count : Option ℕ) → AllFine fine q.all → AllFine fine (behind q count)
  behind-fine q (Some n) e = dropped n q.all e
  behind-fine q None e = dropped q.sent q.all e

  -- ---- what keeps all fine

  pub record Keeps (n m : Node WholeQueues) : Type 0 where
    pub stay : AreFine n.queues → AreFine m.queues

  pub same : (n m : Node WholeQueues) → m.queues ≡ n.queues → Keeps n m
  same n m e = record { stay = λ h. subst AreFine (sym e) h }

  pub and-then : (n m o : Node WholeQueues) → Keeps n m → Keeps m o → Keeps n o
  and-then n m o e g = record { stay = λ h. g.stay (e.stay h) }

  -- the queue of one link changes, and Held with it
  pub queue-keeps : (n m : Node WholeQueues) (held : List Message) (link : ℕ) (q : Queue) → m.queues ≡ record { held = held; links = slice_set n.queues.links link q }
      → (AreFine n.queues → AllFine fine held) → (AreFine n.queues → AllFine fine q.all) → Keeps n m
  queue-keeps n m held link q e g k = record {
    stay = λ h. subst AreFine (sym e) (record {
      held = g h;
      links = λ l. each-set (λ (p : Queue). AllFine fine p.all) n.queues.links link l q first_queue h.links (k h);
    });
  }

  pub queued : (link : ℕ) (m : Message) (n : Node WholeQueues) → fine m ≡ true → Keeps n (queue_on whole c link m n)
  queued link m n e = queue-keeps n _ n.queues.held link (appended (queue_at n.queues link) m) refl (λ h. h.held) (λ h. one-more fine (queue_at n.queues link).all m (h.links link) e)

  pub keeping : IsPassing c fine Keeps
  keeping = record {
    same = same;
    both = and-then;
    queued = queued;
    held = λ m n e. record { stay = λ h. record { held = one-more fine n.queues.held m h.held e; links = h.links } };
  }

  -- ---- a changeover ends

  conclude-keeps : (link : ℕ) (number : Option ℕ) (n : Node WholeQueues) → Keeps n (conclude whole c (whole.found n.queues link number) link number n)
  conclude-keeps link number n = record {
    stay = λ h.
        let q : Queue = queue_at n.queues link in
        let left : List Message = behind q (accepted_count q number) in
        let fine_left : AllFine fine left = behind-fine q (accepted_count q number) (h.links link) in
        let done : Node WholeQueues = record { queues = whole.completed n.queues link number; parts = concluded link (whole.found n.queues link number) n.parts } in
        let completes : Keeps n done =
        queue-keeps n done (moved q number ++ n.queues.held) link (emptied q) refl (λ i. joined fine (moved q number) n.queues.held (filtered (λ m. not (is_management m)) left fine_left) i.held) (λ i. refl) in
        (each-sent c fine f keeping (whole.found n.queues link number).queued_anew done (filtered is_management left fine_left)).stay (completes.stay h);
  }

  complete-keeps : (incomplete : Bool) (link : ℕ) (number : Option ℕ) (n : Node WholeQueues) (p : Parts) → Keeps n (complete_if whole c incomplete link number (with_parts n p))
  complete-keeps true link number n p = and-then n (with_parts n p) _ (same n _ refl) (conclude-keeps link number (with_parts n p))
  complete-keeps false link number n p = same n _ refl

  pub order-keeps : (link : ℕ) (number : Option ℕ) (n : Node WholeQueues) → Keeps n (on_changeover_order whole c link number n).left
  order-keeps link number n =
      let fallen : Node WholeQueues = fail_by_order whole c link n in
      let one : Node WholeQueues = bar whole c link fallen in
      let two : Node WholeQueues = complete_by_order whole c link number one in
      and-then n one _ (and-then n fallen one (by_order-keeps c fine f keeping link n) (same fallen one refl))
      (and-then one two _ (complete-keeps (changeover_of one.parts link).incomplete link number one (with_changeover link (completed (changeover_of one.parts link)) one.parts))
      (routed c fine f keeping (changeover_acknowledgement c link (whole.last_accepted two.queues link)) two (f.made (peer_of c link) (ExtendedChangeoverAcknowledgement (entry_of c link).slc (whole.last_accepted two.queues link)) (f.adjacent (set_of c link)))))

  pub acknowledged-keeps : (link : ℕ) (number : Option ℕ) (n : Node WholeQueues) → Keeps n (on_changeover_acknowledgement whole c link number n).left
  acknowledged-keeps link number n =
      let done : Node WholeQueues = complete_if whole c (changeover_of n.parts link).incomplete link number (with_parts n (with_changeover_acknowledged link n.parts)) in
      either_done c fine f keeping (changeover_of n.parts link).awaited n (answer Handled done) (answer Ignored n)
      (complete-keeps (changeover_of n.parts link).incomplete link number n (with_changeover_acknowledged link n.parts)) (stays c fine f keeping n)

  pub expired-keeps : (timer : ChangeoverTimer) (link : ℕ) (n : Node WholeQueues) → Keeps n (on_changeover_timer whole c timer link n)
  expired-keeps timer link n =
      let done : Node WholeQueues = complete_if whole c (changeover_of n.parts link).incomplete link None (with_parts n (with_expiry c timer link (barred c link n.parts))) in
      either c fine f keeping (is_link n.parts link) n done n (complete-keeps (changeover_of n.parts link).incomplete link None n (with_expiry c timer link (barred c link n.parts))) (stays c fine f keeping n)
