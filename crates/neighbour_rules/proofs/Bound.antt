-- All that is in queues and in Held is for other points, and the user messages among it for destinations; this stays
-- so.
use Rattle.pair_rules.proofs.Basics.{◌≡◌, ◌⊎◌, inl, inr, ℕ, Bool, true, false, List, [], ◌∷◌, ◌++◌, length, Option, Some, None, refl, subst, sym, is_some, option_and_then, slice_set, ◌&&◌, not}
use Rattle.pair_rules.proofs.Definitions.{Message, dpc_of, flow_of, is_management, Configuration, IsWell, destination_place, Queue, first_queue, behind, accepted_count, IsOfSteps, Node, WholeQueues, whole, queue_at, declaration, link_of, waits, Parts, HoldSet, chosen_link, facts, each-set, each-replicate}
use Rattle.link.specs.Queue as queue
use Rattle.link.specs.Queue.{appended, emptied, to_send}
use Rattle.changeover.specs.Changeover.{moved}
use Rattle.exchange_rules.specs.First.{first_state}
use Rattle.exchange_rules.specs.LastingMessages.{is_onward}
use Rattle.exchange_rules.specs.Messages.{is_destination, test_answer}
use Rattle.exchange_rules.specs.Frames.{carries}
use Rattle.exchange_rules.specs.Routing.{entry_of, is_flow_held, is_held_at, peer_of, queue_on}
use Rattle.mtp3_codec.specs.declared.management.Management.TheVariants.{ChangebackDeclaration}
use Rattle.exchange_rules.proofs.LastingMessages.{accepted-all, sent-all}
use Rattle.exchange_rules.proofs.MadeManagement.{made-management}
use Rattle.exchange_rules.specs.LinkTests.{link_test}
use Rattle.exchange_rules.proofs.Onward.{answer-onward, declaration-onward, test-onward, routed-onward, waiting-onward}
use Rattle.exchange_rules.proofs.OwnManagement.{answer-management, test-management}
use Rattle.pair_rules.proofs.Good.{Each, each-behind}
use Rattle.pair_rules.proofs.UserLists.{each-drop, each-filter}

pub record IsBound (c : Configuration) (m : Message) : Type 0 where
  pub onward : is_onward c m ≡ true
  pub known : (is_management m ≡ true) ⊎ (is_destination c (dpc_of m) ≡ true)

pub record AreBound (c : Configuration) (n : Node WholeQueues) : Type 0 where
  pub held : Each (IsBound c) n.queues.held
  pub queued : (link : ℕ) → Each (IsBound c) (queue_at n.queues link).all

-- ---- what comes to a queue, or to Held

some-of : {A : Type 0} (f : ℕ → Option A) (place : Option ℕ) (x : A) → option_and_then f place ≡ Some x → is_some place ≡ true
some-of f (Some place) x e = refl
some-of f None x e = absurd cc

held-place : (h : HoldSet) (place : Option ℕ) (sls : ℕ) → is_held_at h place sls ≡ true → is_some place ≡ true
held-place h (Some place) sls e = refl
held-place h None sls e = absurd cc

both-true : (a b : Bool) → (a && b) ≡ true → b ≡ true
both-true true b e = e
both-true false b e = absurd cc

module _ (c : Configuration) (well : IsWell c) where
  routed-bound : (p : Parts) (m : Message) (link : ℕ) → link_of c p (flow_of m) ≡ Some link → IsBound c m
  routed-bound p m link e = record {
    onward = routed-onward c well p m link e;
    known = inr (some-of (λ place. chosen_link (facts c p) place (flow_of m).sls) (destination_place c (dpc_of m)) link e);
  }

  waiting-bound : (h : HoldSet) (m : Message) → waits c h m ≡ true → IsBound c m
  waiting-bound h m e = record {
    onward = waiting-onward c well h m e;
    known = inr (held-place h (destination_place c (dpc_of m)) (flow_of m).sls (both-true (not (is_management m)) (is_flow_held c h m) e));
  }

-- ---- steps

pub record KeepsBound (c : Configuration) (n m : Node WholeQueues) : Type 0 where
  pub stay : AreBound c n → AreBound c m

module _ (c : Configuration) (well : IsWell c) where
  same-queues : (n m : Node WholeQueues) → m.queues ≡ n.queues → KeepsBound c n m
  same-queues n m e = record {
    stay = λ h. record {
      held = subst (λ (q : WholeQueues). Each (IsBound c) q.held) (sym e) h.held;
      queued = λ link. subst (λ (q : WholeQueues). Each (IsBound c) (queue_at q link).all) (sym e) (h.queued link);
    };
  }

  -- one queue changes, and Held with it
  queue-keeps : (n m : Node WholeQueues) (held : List Message) (link : ℕ) (q : Queue) → m.queues ≡ record { held = held; links = slice_set n.queues.links link q }
      → (AreBound c n → Each (IsBound c) held) → (AreBound c n → Each (IsBound c) q.all) → KeepsBound c n m
  queue-keeps n m held link q e f g = record {
    stay = λ h. record {
      held = subst (λ (x : WholeQueues). Each (IsBound c) x.held) (sym e) (f h);
      queued = λ l. subst (λ (x : WholeQueues). Each (IsBound c) (queue_at x l).all) (sym e)
          (each-set (λ (p : Queue). Each (IsBound c) p.all) n.queues.links link l q first_queue h.queued (g h));
    };
  }

  queued-keeps : (link : ℕ) (x : Message) (n : Node WholeQueues) → IsBound c x → KeepsBound c n (queue_on whole c link x n)
  queued-keeps link x n e =
      queue-keeps n _ n.queues.held link (appended (queue_at n.queues link) x) refl (λ h. h.held) (λ h. each-behind (IsBound c) (queue_at n.queues link).all (x ∷ []) (h.queued link) (e, tt))

  behind-bound : (q : Queue) (count : Option ℕ) → Each (IsBound c) q.all → Each (IsBound c) (behind q count)
  behind-bound q (Some count) e = each-drop (IsBound c) count q.all e
  behind-bound q None e = each-drop (IsBound c) q.sent q.all e

  pub bound-steps : IsOfSteps c (λ link. Unit {0}) (λ link. Unit {0}) (KeepsBound c)
  bound-steps = record {
    none = λ n. same-queues n n refl;
    both = λ n m o e f. record { stay = λ h. f.stay (e.stay h) };
    routed = λ link m n e. queued-keeps link m n (routed-bound c well n.parts m link e);
    declared = λ link other code n e f. queued-keeps other (declaration c link code) n
        (record { onward = declaration-onward c well link code; known = inl (made-management c well (peer_of c link) (ChangebackDeclaration (entry_of c link).slc code)) });
    tested = λ link point test n e f. queued-keeps link (test_answer c point test) n
        (record { onward = answer-onward c well point test f; known = inl (answer-management c point test) });
    probed = λ link n e. queued-keeps link (link_test c link) n
        (record { onward = test-onward c well link; known = inl (test-management c link) });
    held = λ m n e. record { stay = λ h. record { held = each-behind (IsBound c) n.queues.held (m ∷ []) h.held (waiting-bound c well n.parts.holds m e, tt); queued = h.queued } };
    taken_out = λ n. record { stay = λ h. record { held = tt; queued = h.queued } };
    noted = λ notice n e. same-queues n _ refl;
    lost = λ n. same-queues n _ refl;
    counted = λ messages broken n. same-queues n _ refl;
    asked = λ link n e. same-queues n _ refl;
    late = λ n. same-queues n _ refl;
    timed = λ r n e. same-queues n _ refl;
    holding = λ h n e. same-queues n _ refl;
    coded = λ its code awaited n. same-queues n _ refl;
    rerouted = λ routes n e. same-queues n _ refl;
    told = λ t n e. same-queues n _ refl;
    titled = λ rows n. same-queues n _ refl;
    unequipped = λ counts n e. same-queues n _ refl;
    failed = λ link why st n e f. same-queues n _ refl;
    dropped = λ link why n e. same-queues n _ refl;
    completed = λ link number st n e f.
        let q : Queue = queue_at n.queues link in
        queue-keeps n _ (moved q number ++ n.queues.held) link (emptied q) refl
        (λ h.
        each-behind (IsBound c) (moved q number) n.queues.held
        (each-filter (IsBound c) (λ (m : Message). not (is_management m)) (behind q (accepted_count q number)) (behind-bound q (accepted_count q number) (h.queued link))) h.held)
        (λ h. tt);
    answered = λ link st n e f w. same-queues n _ refl;
    linked = λ link x n e o. same-queues n _ refl;
    parted = λ link n e. same-queues n _ refl;
    opened = λ link n own e f g. queue-keeps n _ n.queues.held link first_queue refl (λ h. h.held) (λ h. tt);
    stepped = λ link input step n own e. same-queues n _ refl;
    passed = λ link n e. same-queues n _ refl;
    busied = λ link n own e f. same-queues n _ refl;
    resumed = λ link n own e f. same-queues n _ refl;
    accepted = λ link d confirmed n own e f.
        let q : Queue = queue_at n.queues link in
        queue-keeps n _ n.queues.held link (queue.accepted q d.fsn d.bsn (carries d)) refl (λ h. h.held)
        (λ h. subst (Each (IsBound c)) (sym (accepted-all q (carries d) (queue.accept_answer q d.fsn d.bsn (carries d)))) (h.queued link));
    sent = λ link next n own e.
        let q : Queue = queue_at n.queues link in
        queue-keeps n _ n.queues.held link (queue.sent_one q c.window) refl (λ h. h.held) (λ h. subst (Each (IsBound c)) (sym (sent-all q (to_send q c.window))) (h.queued link));
  }

pub first-bound : (c : Configuration) → AreBound c (first_state c).node
first-bound c = record { held = tt; queued = λ l. each-replicate (λ (q : Queue). Each (IsBound c) q.all) (length c.links) l first_queue tt }
