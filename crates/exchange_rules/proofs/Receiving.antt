-- What was received on a link is counted: by one for each frame that newly carries a message, and by nothing else.
use Rattle.exchange_rules.proofs.Basics.{◌≡◌, ◌≢◌, ℕ, List, Option, Some, None, refl, ap, sym, ◌∙◌, slice_set, get_or-set_other}
use Rattle.exchange_rules.proofs.Definitions.{Configuration, Queue, Sending, first_queue, emptied, appended, to_send, Node, carries, WholeQueues, queue_at, received}
use Rattle.link.specs.Queue as queue
use Rattle.link.specs.Queue.{after_sending}
use Rattle.exchange_rules.proofs.Lists.{alike-at}
use Rattle.exchange_rules.proofs.Steps.{IsOfSteps}
use Rattle.exchange_rules.proofs.Asked.{any}

-- as much was received on a link
pub record Same (l : ℕ) (n m : Node WholeQueues) : Type 0 where
  pub same : received m l ≡ received n l

-- any link but this
abbrev pub but : ℕ → ℕ → Type 0
but l k = k ≢ l

sent-received : (q : Queue) (next : Option Sending) → (after_sending q next).received ≡ q.received
sent-received q (Some next) = refl
sent-received q None = refl

module _ (l : ℕ) where
  pub same-queues : (n m : Node WholeQueues) → m.queues.links ≡ n.queues.links → Same l n m
  same-queues n m e = record { same = ap (λ (qs : List Queue). received (record n { queues = record n.queues { links = qs } }) l) e }

  -- the queue of a link changes, but not what was received there
  one-queue : (k : ℕ) (q : Queue) (n m : Node WholeQueues) → q.received ≡ (queue_at n.queues k).received → m.queues.links ≡ slice_set n.queues.links k q → Same l n m
  one-queue k q n m e f = record {
    same = ap (λ (qs : List Queue). received (record n { queues = record n.queues { links = qs } }) l) f
        ∙ alike-at (λ (x : Queue). x.received) n.queues.links k l q first_queue e;
  }

  -- that of another link
  other-queue : (k : ℕ) (q : Queue) (n m : Node WholeQueues) → k ≢ l → m.queues.links ≡ slice_set n.queues.links k q → Same l n m
  other-queue k q n m apart f = record {
    same = ap (λ (qs : List Queue). received (record n { queues = record n.queues { links = qs } }) l) f
        ∙ ap (λ (x : Queue). x.received) (get_or-set_other n.queues.links k l q first_queue (λ e. apart (sym e)));
  }

  pub same-steps : (c : Configuration) → IsOfSteps c any (but l) (Same l)
  same-steps c = record {
    none = λ n. same-queues n n refl;
    both = λ n m o e f. record { same = f.same ∙ e.same };
    routed = λ link m n e. one-queue link (appended (queue_at n.queues link) m) n _ refl refl;
    declared = λ link other code n e f. one-queue other (appended (queue_at n.queues other) _) n _ refl refl;
    tested = λ link point test n e f. one-queue link (appended (queue_at n.queues link) _) n _ refl refl;
    probed = λ link n e. one-queue link (appended (queue_at n.queues link) _) n _ refl refl;
    held = λ m n e. same-queues n _ refl;
    taken_out = λ n. same-queues n _ refl;
    noted = λ notice n e. same-queues n _ refl;
    lost = λ n. same-queues n _ refl;
    counted = λ messages broken n. same-queues n _ refl;
    asked = λ link n e. same-queues n _ refl;
    late = λ n. same-queues n _ refl;
    timed = λ r n e. same-queues n _ refl;
    holding = λ h n e. same-queues n _ refl;
    coded = λ set code awaited n. same-queues n _ refl;
    rerouted = λ routes n e. same-queues n _ refl;
    told = λ t n e. same-queues n _ refl;
    titled = λ rows n. same-queues n _ refl;
    unequipped = λ counts n e. same-queues n _ refl;
    failed = λ link why st n e f. same-queues n _ refl;
    dropped = λ link why n e. same-queues n _ refl;
    completed = λ link number st n e f. one-queue link (emptied (queue_at n.queues link)) n _ refl refl;
    answered = λ link st n e f w. same-queues n _ refl;
    linked = λ link x n e o. same-queues n _ refl;
    parted = λ link n e. same-queues n _ refl;
    opened = λ link n own e f g. other-queue link first_queue n _ own refl;
    stepped = λ link input step n own e. same-queues n _ refl;
    passed = λ link n e. same-queues n _ refl;
    busied = λ link n own e f. same-queues n _ refl;
    resumed = λ link n own e f. same-queues n _ refl;
    accepted = λ link d confirmed n own e f. other-queue link (queue.accepted (queue_at n.queues link) d.fsn d.bsn (carries d)) n _ own refl;
    sent = λ link next n own e.
        one-queue link (queue.sent_one (queue_at n.queues link) c.window) n _ (sent-received (queue_at n.queues link) (to_send (queue_at n.queues link) c.window)) refl;
  }
