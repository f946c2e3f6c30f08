-- A change of one link: each other link keeps its state, its changeover, its queue and its L7.
use Rattle.exchange_rules.proofs.Basics.{◌≡◌, ◌≢◌, ◌<◌, ℕ, List, length, Option, refl, slice_set, get_or-set_same, get_or-set_other, length-set}
use Rattle.exchange_rules.proofs.Definitions.{period_of, Message, FailureReason, Configuration, opening, Queue, Sending, first_queue, emptied, Running, Link, down_link, opened_by, after_failure, Standing, no_changeover, Node, with_parts, link_at, queue_on, changeover_of, with_changeover, fail_link, Carrying, carries, open_link, SendsMessage, without_owed, after_sending, WholeQueues, queue_at, whole}
use Rattle.std.specs.Prelude.{get_or}
use Rattle.link.specs.Queue as queue
use Rattle.exchange_rules.proofs.LinkTimers.{AreTimedFor, same-for, without_timers-for, timed-for, timed_sending-for, timed_confirming-for}
use Rattle.exchange_rules.proofs.Steps.{confirming}

-- ---- lists of which one element changes, or none

pub record IsSet {A : Type 0} (i : ℕ) (x d : A) (xs ys : List A) : Type 0 where
  pub size : length ys ≡ length xs
  pub others : (j : ℕ) → j ≢ i → get_or ys j d ≡ get_or xs j d
  pub here : i < length xs → get_or ys i d ≡ x

pub is-set : {A : Type 0} (xs : List A) (i : ℕ) (x d : A) → IsSet i x d xs (slice_set xs i x)
is-set xs i x d = record {
  size = length-set xs i x;
  others = λ j apart. get_or-set_other xs i j x d apart;
  here = λ there. get_or-set_same xs i x d there;
}

pub is-same : {A : Type 0} (xs : List A) (i : ℕ) (d : A) → IsSet i (get_or xs i d) d xs xs
is-same xs i d = record { size = refl; others = λ j apart. refl; here = λ there. refl }

-- ---- nodes

-- from one node to another a link changes to this, and no other
pub record OnLink (k : ℕ) (x : Link) (s : Standing) (q : Queue) (n m : Node WholeQueues) : Type 0 where
  pub links : IsSet k x down_link n.parts.links m.parts.links
  pub changeovers : IsSet k s no_changeover n.parts.changeovers m.parts.changeovers
  pub queues : IsSet k q first_queue n.queues.links m.queues.links
  pub timers : AreTimedFor k n.parts.timers m.parts.timers

module _ (k : ℕ) where
  -- ---- a message more, failures and changeovers

  pub queued-on : (c : Configuration) (m : Message) (n : Node WholeQueues)
      → OnLink k (link_at n.parts k) (changeover_of n.parts k) (queue.appended (queue_at n.queues k) m) n (queue_on whole c k m n)
  queued-on c m n = record {
    links = is-same n.parts.links k down_link;
    changeovers = is-same n.parts.changeovers k no_changeover;
    queues = is-set n.queues.links k (queue.appended (queue_at n.queues k) m) first_queue;
    timers = same-for k n.parts.timers;
  }

  pub failed-on : (why : FailureReason) (s : Standing) (n : Node WholeQueues)
      → OnLink k (after_failure (link_at n.parts k)) s (queue_at n.queues k) n (with_parts n (with_changeover k s (fail_link k why n.parts)))
  failed-on why s n = record {
    links = is-set n.parts.links k (after_failure (link_at n.parts k)) down_link;
    changeovers = is-set n.parts.changeovers k s no_changeover;
    queues = is-same n.queues.links k first_queue;
    timers = without_timers-for k n.parts.timers;
  }

  pub dropped-on : (why : FailureReason) (n : Node WholeQueues)
      → OnLink k (after_failure (link_at n.parts k)) (changeover_of n.parts k) (queue_at n.queues k) n (with_parts n (fail_link k why n.parts))
  dropped-on why n = record {
    links = is-set n.parts.links k (after_failure (link_at n.parts k)) down_link;
    changeovers = is-same n.parts.changeovers k no_changeover;
    queues = is-same n.queues.links k first_queue;
    timers = without_timers-for k n.parts.timers;
  }

  pub completed-on : (number : Option ℕ) (s : Standing) (n : Node WholeQueues)
      → OnLink k (link_at n.parts k) s (emptied (queue_at n.queues k)) n (record { queues = whole.completed n.queues k number; parts = with_changeover k s n.parts })
  completed-on number s n = record {
    links = is-same n.parts.links k down_link;
    changeovers = is-set n.parts.changeovers k s no_changeover;
    queues = is-set n.queues.links k (emptied (queue_at n.queues k)) first_queue;
    timers = same-for k n.parts.timers;
  }

  pub answered-on : (s : Standing) (n : Node WholeQueues) → OnLink k (link_at n.parts k) s (queue_at n.queues k) n (with_parts n (with_changeover k s n.parts))
  answered-on s n = record {
    links = is-same n.parts.links k down_link;
    changeovers = is-set n.parts.changeovers k s no_changeover;
    queues = is-same n.queues.links k first_queue;
    timers = same-for k n.parts.timers;
  }

  -- ---- a link, and its timers with it

  pub link-on : (x : Link) (r : Running) (n : Node WholeQueues) → AreTimedFor k n.parts.timers r
      → OnLink k x (changeover_of n.parts k) (queue_at n.queues k) n (with_parts n (record n.parts { links = slice_set n.parts.links k x; timers = r }))
  link-on x r n t = record {
    links = is-set n.parts.links k x down_link;
    changeovers = is-same n.parts.changeovers k no_changeover;
    queues = is-same n.queues.links k first_queue;
    timers = t;
  }

  module _ (c : Configuration) where
    pub opened-on : (n : Node WholeQueues) → OnLink k (opened_by c (period_of c k n.parts) (link_at n.parts k)) (changeover_of n.parts k) first_queue n (open_link whole c k n)
    opened-on n = record {
      links = is-set n.parts.links k (opened_by c (period_of c k n.parts) (link_at n.parts k)) down_link;
      changeovers = is-same n.parts.changeovers k no_changeover;
      queues = is-set n.queues.links k first_queue first_queue;
      timers = timed-for k c (opening (period_of c k n.parts)) n.parts.timers;
    }

    pub accepted-on : (d : Carrying) (count : ℕ) (n : Node WholeQueues)
        → OnLink k (link_at n.parts k) (changeover_of n.parts k) (queue.accepted (queue_at n.queues k) d.fsn d.bsn (carries d)) n (confirming c k d count n)
    accepted-on d count n = record {
      links = is-same n.parts.links k down_link;
      changeovers = is-same n.parts.changeovers k no_changeover;
      queues = is-set n.queues.links k (queue.accepted (queue_at n.queues k) d.fsn d.bsn (carries d)) first_queue;
      timers =
          timed_confirming-for k c (link_at n.parts k).peer_busy count (whole.outstanding (whole.accepted n.queues k d.fsn d.bsn (carries d)) k) n.parts.timers;
    }

    pub sent-on : (next : Sending) (n : Node WholeQueues)
        → OnLink k (without_owed (link_at n.parts k)) (changeover_of n.parts k) (queue.sent_one (queue_at n.queues k) c.window) n (after_sending whole c k n (SendsMessage next))
    sent-on next n = record {
      links = is-set n.parts.links k (without_owed (link_at n.parts k)) down_link;
      changeovers = is-same n.parts.changeovers k no_changeover;
      queues = is-set n.queues.links k (queue.sent_one (queue_at n.queues k) c.window) first_queue;
      timers = timed_sending-for k c n.parts.timers;
    }
