-- Whole queues: the messages of each link's epoch, as the definitions have them.
use Rattle.std.specs.Prelude.{ℕ, ◌+◌, ◌-◌, List, [], ◌∷◌, ◌++◌, is_some, sum_by, slice_index_or, slice_set}
use Rattle.signalling_types.specs.Message.{Message}
use Rattle.cell_pool.specs.Lanes.{users_in, managements_in}
use Rattle.link.specs.Queue as queue
use Rattle.link.specs.Queue.{Queue, first_queue}
use Rattle.changeover.specs.Changeover.{accepted_count, held_after, is_unreasonable, lost, queued_anew}
use Rattle.exchange_rules.specs.State.{QueueKind}

-- the messages that are held, and the queue of each link
pub record WholeQueues : Type 0 where
  pub held : List Message
  pub links : List Queue

abbrev pub queue_at : WholeQueues → ℕ → Queue
queue_at qs link = slice_index_or qs.links link first_queue

-- one link's queue in another state
abbrev pub with_queue : WholeQueues → ℕ → Queue → WholeQueues
with_queue qs link q = record qs { links = slice_set qs.links link q }

-- all messages of each link's epoch, with counts that have no bound
abbrev pub whole : QueueKind WholeQueues
whole = record {
  started = λ qs link. with_queue qs link first_queue;
  appended = λ qs link m. with_queue qs link (queue.appended (queue_at qs link) m);
  accept_answer = λ qs link fsn bsn carries. queue.accept_answer (queue_at qs link) fsn bsn carries;
  accepted = λ qs link fsn bsn carries. with_queue qs link (queue.accepted (queue_at qs link) fsn bsn carries);
  to_send = λ qs link window. queue.to_send (queue_at qs link) window;
  sent_one = λ qs link window. with_queue qs link (queue.sent_one (queue_at qs link) window);
  unconfirmed = λ qs link. queue.unconfirmed (queue_at qs link);
  found = λ qs link number. record {
    is_reasonable = is_some (accepted_count (queue_at qs link) number);
    is_wrong = is_unreasonable number (accepted_count (queue_at qs link) number);
    lost = lost (queue_at qs link) number;
    queued_anew = queued_anew (queue_at qs link) number;
  };
  completed = λ qs link number. record {
    held = held_after (queue_at qs link) number qs.held;
    links = slice_set qs.links link (queue.emptied (queue_at qs link));
  };
  held = λ qs. qs.held;
  holding = λ qs m. record qs { held = qs.held ++ m ∷ [] };
  without_held = λ qs. record qs { held = [] };
  outstanding = λ qs link. (queue_at qs link).sent - (queue_at qs link).confirmed;
  last_sent = λ qs link. queue.last_sent (queue_at qs link);
  last_accepted = λ qs link. queue.last_accepted (queue_at qs link);
  users = λ qs. users_in qs.held + sum_by (λ q. users_in (queue.unconfirmed q)) qs.links;
  managements = λ qs. managements_in qs.held + sum_by (λ q. managements_in (queue.unconfirmed q)) qs.links;
}
