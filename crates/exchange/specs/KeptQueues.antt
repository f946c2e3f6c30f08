-- Queues as the code keeps them.
use Rattle.std.specs.Prelude.{ℕ, suc, List, [], ◌++◌, is_some, slice_index_or, slice_set}
use Rattle.signalling_types.specs.Message.{Message}
use Rattle.cell_pool.specs.Lanes.{lane_at, pushed, dropped, users, managements}
use Rattle.link.specs.Queue.{count_confirmed}
use Rattle.link.specs.Counts.{Counts, kept_first, kept_accept_answer, kept_accepted}
use Rattle.link.specs.Counts.{kept_to_send, kept_sent_one, kept_emptied, kept_last_sent, kept_last_accepted}
use Rattle.changeover.specs.Changeover.{is_unreasonable}
use Rattle.changeover.specs.Kept.{kept_accepted_count, kept_moved, kept_lost, kept_queued_anew}
use Rattle.exchange_rules.specs.State.{QueueKind}

-- The messages of Held, then for each link those that aren't confirmed; and for each link three numbers.
pub record KeptQueues : Type 0 where
  pub lanes : List (List Message)
  pub counts : List Counts

abbrev pub held_lane : ℕ
held_lane = 0

abbrev pub lane_of : ℕ → ℕ
lane_of link = suc link

abbrev pub counts_at : List Counts → ℕ → Counts
counts_at cs link = slice_index_or cs link kept_first

-- the messages of one link
abbrev pub link_lane : KeptQueues → ℕ → List Message
link_lane k link = lane_at k.lanes (lane_of link)

-- one list in another state
abbrev pub with_lane : KeptQueues → ℕ → List Message → KeptQueues
with_lane k lane messages = record k { lanes = slice_set k.lanes lane messages }

-- the messages of one link are gone
abbrev pub without_lane : KeptQueues → ℕ → KeptQueues
without_lane k link = with_lane k (lane_of link) []

abbrev pub kept : QueueKind KeptQueues
kept = record {
  started = λ k link. record (without_lane k link) { counts = slice_set k.counts link kept_first };
  appended = λ k link m. record k { lanes = pushed k.lanes (lane_of link) m };
  accept_answer = λ k link fsn bsn carries. kept_accept_answer (counts_at k.counts link) fsn bsn carries;
  accepted = λ k link fsn bsn carries. record {
    lanes = dropped k.lanes (lane_of link)
        (count_confirmed (kept_accept_answer (counts_at k.counts link) fsn bsn carries));
    counts = slice_set k.counts link (kept_accepted (counts_at k.counts link) fsn bsn carries);
  };
  to_send = λ k link window. kept_to_send (counts_at k.counts link) (link_lane k link) window;
  sent_one = λ k link window. record k {
    counts = slice_set k.counts link (kept_sent_one (counts_at k.counts link) (link_lane k link) window);
  };
  unconfirmed = λ k link. link_lane k link;
  found = λ k link number. record {
    is_reasonable = is_some (kept_accepted_count (counts_at k.counts link) number);
    is_wrong = is_unreasonable number (kept_accepted_count (counts_at k.counts link) number);
    lost = kept_lost (counts_at k.counts link) (link_lane k link) number;
    queued_anew = kept_queued_anew (counts_at k.counts link) (link_lane k link) number;
  };
  completed = λ k link number. record {
    lanes = slice_set (slice_set k.lanes (lane_of link) []) held_lane
        (kept_moved (counts_at k.counts link) (link_lane k link) number ++ lane_at k.lanes held_lane);
    counts = slice_set k.counts link (kept_emptied (counts_at k.counts link));
  };
  held = λ k. lane_at k.lanes held_lane;
  holding = λ k m. record k { lanes = pushed k.lanes held_lane m };
  without_held = λ k. with_lane k held_lane [];
  outstanding = λ k link. (counts_at k.counts link).outstanding;
  last_sent = λ k link. kept_last_sent (counts_at k.counts link);
  last_accepted = λ k link. kept_last_accepted (counts_at k.counts link);
  users = λ k. users k.lanes;
  managements = λ k. managements k.lanes;
}
