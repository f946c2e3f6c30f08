-- No message for this point is in Held or in a queue: this holds at first, and stays so.
use Rattle.exchange_rules.proofs.Basics.{◌≡◌, ℕ, Bool, true, false, ◌&&◌, not, List, [], ◌∷◌, ◌++◌, zero, suc, Option, Some, None, Result, Ok, Err, refl, ap, sym, subst, ◌∙◌, if◌then◌else◌, filter, drop, slice_set, and_from as pair}
use Rattle.exchange_rules.proofs.Definitions.{link_test, Message, is_management, Configuration, IsWell, Queue, Sending, first_queue, emptied, after_answer, accept_answer, to_send, appended, SeqFault, behind, moved, accepted_count, Node, queue_on, declaration, test_answer, carries, WholeQueues, queue_at, whole}
use Rattle.std.specs.Prelude.{length}
use Rattle.std.proofs.lemmas.List.Folds.{list_all-append}
use Rattle.link.specs.Queue as queue
use Rattle.link.specs.Queue.{after_sending}
use Rattle.exchange_rules.specs.LastingMessages.{is_onward, all_onward, AreOnward, first_is_onward, messages_stay_onward}
use Rattle.exchange_rules.proofs.Lists.{each-set, each-replicate}
use Rattle.exchange_rules.proofs.Onward.{declaration-onward, answer-onward, test-onward, routed-onward, waiting-onward}
use Rattle.exchange_rules.proofs.Steps.{IsOfSteps}
use Rattle.exchange_rules.proofs.Asked.{any, IsOfAll, all-of, asked-all}

-- ---- lists

front : (a b : Bool) → (a && b) ≡ true → a ≡ true
front true b e = refl
front false b e = absurd cc

rest : (a b : Bool) → (a && b) ≡ true → b ≡ true
rest true b e = e
rest false b e = absurd cc

module _ (c : Configuration) where
  joined : (ms ks : List Message) → all_onward c ms ≡ true → all_onward c ks ≡ true → all_onward c (ms ++ ks) ≡ true
  joined ms ks e f = list_all-append (is_onward c) ms ks ∙ pair (all_onward c ms) (all_onward c ks) e f

  one-more : (ms : List Message) (m : Message) → all_onward c ms ≡ true → is_onward c m ≡ true → all_onward c (ms ++ m ∷ []) ≡ true
  one-more ms m e f = joined ms (m ∷ []) e (pair (is_onward c m) true f refl)

  either-all : (b : Bool) (ms ks : List Message) → all_onward c ms ≡ true → all_onward c ks ≡ true → all_onward c (if b then ms else ks) ≡ true
  either-all true ms ks e f = e
  either-all false ms ks e f = f

  filtered : (f : Message → Bool) (ms : List Message) → all_onward c ms ≡ true → all_onward c (filter f ms) ≡ true
  filtered f [] e = refl
  filtered f (m ∷ ms) e =
      let others : all_onward c (filter f ms) ≡ true = filtered f ms (rest (is_onward c m) (all_onward c ms) e) in
      either-all (f m) (m ∷ filter f ms) (filter f ms) (pair (is_onward c m) (all_onward c (filter f ms)) (front (is_onward c m) (all_onward c ms) e) others) others

  dropped : (n : ℕ) (ms : List Message) → all_onward c ms ≡ true → all_onward c (drop n ms) ≡ true
  dropped zero ms e = e
  dropped (suc n) [] e = e
  dropped (suc n) (m ∷ ms) e = dropped n ms (rest (is_onward c m) (all_onward c ms) e)

  behind-onward : (q : Queue) (count : Option ℕ) → all_onward c q.all ≡ true → all_onward c (behind q count) ≡ true
  behind-onward q (Some n) e = dropped n q.all e
  behind-onward q None e = dropped q.sent q.all e

  moved-onward : (q : Queue) (number : Option ℕ) → all_onward c q.all ≡ true → all_onward c (moved q number) ≡ true
  moved-onward q number e = filtered (λ m. not (is_management m)) (behind q (accepted_count q number)) (behind-onward q (accepted_count q number) e)

-- what is accepted or sent is where it was
pub accepted-all : (q : Queue) (carries : Bool) (answer : Result ℕ SeqFault) → (after_answer q carries answer).all ≡ q.all
accepted-all q carries (Ok count) = refl
accepted-all q carries (Err fault) = refl

pub sent-all : (q : Queue) (next : Option Sending) → (after_sending q next).all ≡ q.all
sent-all q (Some next) = refl
sent-all q None = refl

-- ---- steps

record Keeps (c : Configuration) (n m : Node WholeQueues) : Type 0 where
  pub stay : AreOnward c n.queues → AreOnward c m.queues

module _ (c : Configuration) where
  -- no queue changes
  same-queues : (n m : Node WholeQueues) → m.queues ≡ n.queues → Keeps c n m
  same-queues n m e = record { stay = λ h. subst (AreOnward c) (sym e) h }

  -- one does, and Held with it
  queue-keeps : (n m : Node WholeQueues) (held : List Message) (link : ℕ) (q : Queue) → m.queues ≡ record { held = held; links = slice_set n.queues.links link q }
      → (AreOnward c n.queues → all_onward c held ≡ true) → (AreOnward c n.queues → all_onward c q.all ≡ true) → Keeps c n m
  queue-keeps n m held link q e f g = record {
    stay = λ h. subst (AreOnward c) (sym e) (record {
      held = f h;
      links = λ l. each-set (λ (p : Queue). all_onward c p.all ≡ true) n.queues.links link l q first_queue h.links (g h);
    });
  }

  queued-keeps : (link : ℕ) (x : Message) (n : Node WholeQueues) → is_onward c x ≡ true → Keeps c n (queue_on whole c link x n)
  queued-keeps link x n e =
      queue-keeps n _ n.queues.held link (appended (queue_at n.queues link) x) refl (λ h. h.held) (λ h. one-more c (queue_at n.queues link).all x (h.links link) e)

  onward-steps : IsWell c → IsOfSteps c any any (Keeps c)
  onward-steps well = record {
    none = λ n. same-queues n n refl;
    both = λ n m o e f. record { stay = λ h. f.stay (e.stay h) };
    routed = λ link m n e. queued-keeps link m n (routed-onward c well n.parts m link e);
    declared = λ link other code n e f. queued-keeps other (declaration c link code) n (declaration-onward c well link code);
    tested = λ link point test n e f. queued-keeps link (test_answer c point test) n (answer-onward c well point test f);
    probed = λ link n e. queued-keeps link (link_test c link) n (test-onward c well link);
    held = λ m n e. record {
      stay = λ h. record { held = one-more c n.queues.held m h.held (waiting-onward c well n.parts.holds m e); links = h.links };
    };
    taken_out = λ n. record { stay = λ h. record { held = refl; links = h.links } };
    noted = λ notice n e. same-queues n _ refl;
    lost = λ n. same-queues n _ refl;
    counted = λ messages broken n. same-queues n _ refl;
    asked = λ link n e. same-queues n _ refl;
    late = λ n. same-queues n _ refl;
    timed = λ r n e. same-queues n _ refl;
    holding = λ h n e. same-queues n _ refl;
    coded = λ set code awaited n. same-queues n _ refl;
    rerouted = λ routes n e. same-queues n _ refl;
    told = λ t n e. same-queues n _ refl;
    titled = λ rows n. same-queues n _ refl;
    unequipped = λ counts n e. same-queues n _ refl;
    failed = λ link why st n e f. same-queues n _ refl;
    dropped = λ link why n e. same-queues n _ refl;
    completed = λ link number st n e f.
        queue-keeps n _ (moved (queue_at n.queues link) number ++ n.queues.held) link (emptied (queue_at n.queues link)) refl
        (λ h. joined c (moved (queue_at n.queues link) number) n.queues.held (moved-onward c (queue_at n.queues link) number (h.links link)) h.held) (λ h. refl);
    answered = λ link st n e f w. same-queues n _ refl;
    linked = λ link x n e o. same-queues n _ refl;
    parted = λ link n e. same-queues n _ refl;
    opened = λ link n own e f g. queue-keeps n _ n.queues.held link first_queue refl (λ h. h.held) (λ h. refl);
    stepped = λ link input step n own e. same-queues n _ refl;
    passed = λ link n e. same-queues n _ refl;
    busied = λ link n own e f. same-queues n _ refl;
    resumed = λ link n own e f. same-queues n _ refl;
    accepted = λ link d confirmed n own e f.
        let q : Queue = queue_at n.queues link in
        queue-keeps n _ n.queues.held link (queue.accepted q d.fsn d.bsn (carries d)) refl (λ h. h.held)
        (λ h. ap (all_onward c) (accepted-all q (carries d) (accept_answer q d.fsn d.bsn (carries d))) ∙ h.links link);
    sent = λ link next n own e.
        let q : Queue = queue_at n.queues link in
        queue-keeps n _ n.queues.held link (queue.sent_one q c.window) refl (λ h. h.held) (λ h. ap (all_onward c) (sent-all q (to_send q c.window)) ∙ h.links link);
  }

onward-all : (c : Configuration) → IsWell c → IsOfAll c (Keeps c)
onward-all c well = all-of (onward-steps c well) (λ n. same-queues c n _ refl) (λ n. same-queues c n _ refl)

pub messages-stay : messages_stay_onward
messages-stay asked a well h = (asked-all (onward-all a.settings well) asked a refl).stay h

pub first-onward : first_is_onward
first-onward c = record { held = refl; links = λ l. each-replicate (λ (q : Queue). all_onward c q.all ≡ true) (length c.links) l first_queue refl }
