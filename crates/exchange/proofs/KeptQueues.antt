-- What the code keeps of whole queues, it still keeps after each operation on them.
use Rattle.exchange.proofs.Basics.{◌≡◌, ◌&&◌, ◌≤◌, ◌+◌, ◌++◌, ◌∷◌, ℕ, Bool, List, [], Option, map, get_or, is_some, not, refl, sym, ap, ◌∙◌, sum_by-cons, set, get_or-map, map-set, Message, users_in, managements_in, Queue, IsQueue, first_queue, unconfirmed, Counts, counts_of, kept_emptied, kept-accept_answer, counts-accepted, unconfirmed-accepted, kept-to_send, counts-sent_one, unconfirmed-sent_one, unconfirmed-appended, kept-last_sent, kept-last_accepted, sound-first, sound-appended, sound-accepted, sound-sent_one, sound-emptied, WINDOW, accepted_count, moved, lost, kept_accepted_count, kept_lost, kept_queued_anew, alike, counted-some, WholeQueues, queue_at, with_queue, whole, KeptQueues, counts_at, kept, AreQueues, kept_queues_of, IsKept, IsKeeping, map-set_alike, sum_by-map, each-set}
use Rattle.changeover.specs.Changeover.{is_unreasonable}
use Rattle.link.specs.Queue as queue
use Rattle.link.specs.Keeps.{Keeps}

-- one link's counts, and its messages
pub counts_at-kept : (qs : WholeQueues) (l : ℕ) → counts_at (map counts_of qs.links) l ≡ counts_of (queue_at qs l)
counts_at-kept qs l = get_or-map counts_of qs.links l first_queue

pub lane_at-kept : (qs : WholeQueues) (l : ℕ) → get_or (map unconfirmed qs.links) l [] ≡ unconfirmed (queue_at qs l)
lane_at-kept qs l = get_or-map unconfirmed qs.links l first_queue

-- one queue changes: its messages and its counts do
pub kept-set : (qs : WholeQueues) (l : ℕ) (q : Queue) (held lane : List Message) (counts : Counts) → lane ≡ unconfirmed q → counts ≡ counts_of q
    → record { lanes = held ∷ set (map unconfirmed qs.links) l lane; counts = set (map counts_of qs.links) l counts }
    ≡ kept_queues_of (record { held = held; links = set qs.links l q })
kept-set qs l q held lane counts e d = rw (e, d, map-set unconfirmed qs.links l q, map-set counts_of qs.links l q)

-- only its messages do
pub kept-set_lane : (qs : WholeQueues) (l : ℕ) (q : Queue) (lane : List Message) → lane ≡ unconfirmed q → counts_of q ≡ counts_of (queue_at qs l)
    → record { lanes = qs.held ∷ set (map unconfirmed qs.links) l lane; counts = map counts_of qs.links } ≡ kept_queues_of (with_queue qs l q)
kept-set_lane qs l q lane e d = rw (e, map-set unconfirmed qs.links l q, ← map-set_alike counts_of qs.links l q first_queue d)

-- only its counts do
pub kept-set_counts : (qs : WholeQueues) (l : ℕ) (q : Queue) (counts : Counts) → counts ≡ counts_of q → unconfirmed q ≡ unconfirmed (queue_at qs l)
    → record { lanes = qs.held ∷ map unconfirmed qs.links; counts = set (map counts_of qs.links) l counts } ≡ kept_queues_of (with_queue qs l q)
kept-set_counts qs l q counts e d = rw (e, map-set counts_of qs.links l q, ← map-set_alike unconfirmed qs.links l q first_queue d)

pub accept_answer-kept : {w : ℕ} (qs : WholeQueues) (l f b : ℕ) (c : Bool) → AreQueues w qs → kept.accept_answer (kept_queues_of qs) l f b c ≡ whole.accept_answer qs l f b c
accept_answer-kept qs l f b c s = rw (counts_at-kept qs l) (kept-accept_answer (queue_at qs l) f b c (s.each l))

pub accepted-kept : {w : ℕ} (qs : WholeQueues) (l f b : ℕ) (c : Bool) → AreQueues w qs → kept.accepted (kept_queues_of qs) l f b c ≡ kept_queues_of (whole.accepted qs l f b c)
accepted-kept qs l f b c s =
    kept-set qs l (queue.accepted (queue_at qs l) f b c) qs.held _ _
    (rw (accept_answer-kept qs l f b c s, lane_at-kept qs l) (sym (unconfirmed-accepted (queue_at qs l) f b c)))
    (rw (counts_at-kept qs l) (sym (counts-accepted (queue_at qs l) f b c (s.each l))))

pub to_send-kept : (w : ℕ) (qs : WholeQueues) (l : ℕ) → AreQueues w qs → kept.to_send (kept_queues_of qs) l w ≡ whole.to_send qs l w
to_send-kept w qs l s = rw (counts_at-kept qs l, lane_at-kept qs l) (kept-to_send (queue_at qs l) w (s.each l))

pub sent_one-kept : (w : ℕ) (qs : WholeQueues) (l : ℕ) → AreQueues w qs → kept.sent_one (kept_queues_of qs) l w ≡ kept_queues_of (whole.sent_one qs l w)
sent_one-kept w qs l s =
    kept-set_counts qs l (queue.sent_one (queue_at qs l) w) _
    (rw (counts_at-kept qs l, lane_at-kept qs l) (sym (counts-sent_one (queue_at qs l) w (s.each l))))
    (unconfirmed-sent_one (queue_at qs l) w)

pub are_queues-set : {w : ℕ} (qs : WholeQueues) (l : ℕ) (q : Queue) → AreQueues w qs → (held : List Message) → IsQueue w q → AreQueues w (record { held = held; links = set qs.links l q })
are_queues-set {w} qs l q s held h = record { each = λ j. each-set (IsQueue w) qs.links l j q first_queue s.each h }

-- queues in which one was replaced are kept as such
kept-replaced : {w : ℕ} (qs : WholeQueues) (l : ℕ) (q : Queue) (y : KeptQueues) → AreQueues w qs → IsQueue w q → y ≡ kept_queues_of (with_queue qs l q)
    → IsKept kept_queues_of (AreQueues w) y (with_queue qs l q)
kept-replaced qs l q y s h e = record { same = e; fit = are_queues-set qs l q s qs.held h }

limit-kept : {w : ℕ} (qs : WholeQueues) → AreQueues w qs → w ≤ WINDOW
limit-kept qs s = (s.each 0).limit

-- ---- a completion

keeps : {w : ℕ} (qs : WholeQueues) (l : ℕ) → AreQueues w qs → Keeps w (counts_of (queue_at qs l)) (unconfirmed (queue_at qs l)) (queue_at qs l)
keeps qs l s = record { sound = s.each l; counts = refl; messages = refl }

found-kept : {w : ℕ} (qs : WholeQueues) (l : ℕ) (number : Option ℕ) → AreQueues w qs → kept.found (kept_queues_of qs) l number ≡ whole.found qs l number
found-kept {w} qs l number s =
    let q : Queue = queue_at qs l in
    let a = alike w (counts_of q) (unconfirmed q) q number (keeps qs l s) in
    let r : is_some (kept_accepted_count (counts_of q) number) ≡ is_some (accepted_count q number) = counted-some q number (s.each l) in
    rw (counts_at-kept qs l, lane_at-kept qs l)
    (ap (λ (b : Bool). record { is_reasonable = b; is_wrong = not b && is_some number; lost = kept_lost (counts_of q) (unconfirmed q) number; queued_anew = kept_queued_anew (counts_of q) (unconfirmed q) number }) r
    ∙ ap (λ (ms : List Message). record {
      is_reasonable = is_some (accepted_count q number);
      is_wrong = is_unreasonable number (accepted_count q number);
      lost = ms;
      queued_anew = kept_queued_anew (counts_of q) (unconfirmed q) number;
    }) a.2
    ∙ ap (λ (ms : List Message). record {
      is_reasonable = is_some (accepted_count q number);
      is_wrong = is_unreasonable number (accepted_count q number);
      lost = lost q number;
      queued_anew = ms;
    }) a.1)

completed-kept : {w : ℕ} (qs : WholeQueues) (l : ℕ) (number : Option ℕ) → AreQueues w qs → kept.completed (kept_queues_of qs) l number ≡ kept_queues_of (whole.completed qs l number)
completed-kept {w} qs l number s =
    let q : Queue = queue_at qs l in
    let a = alike w (counts_of q) (unconfirmed q) q number (keeps qs l s) in
    rw (counts_at-kept qs l, lane_at-kept qs l, a.0)
    (kept-set qs l (queue.emptied q) (moved q number ++ qs.held) [] (kept_emptied (counts_of q)) refl refl)

-- the code's kind of queues keeps whole queues
pub keeps_whole : (w : ℕ) → IsKeeping whole kept kept_queues_of (AreQueues w) w
keeps_whole w = record {
  started = λ qs l s. kept-replaced qs l first_queue _ s (sound-first w (limit-kept qs s)) (kept-set qs l first_queue qs.held _ _ refl refl);
  appended = λ qs l m s. kept-replaced qs l (queue.appended (queue_at qs l) m) _ s (sound-appended (queue_at qs l) m (s.each l))
      (kept-set_lane qs l (queue.appended (queue_at qs l) m) _ (rw (lane_at-kept qs l) (sym (unconfirmed-appended (queue_at qs l) m (s.each l)))) refl);
  accept_answer = λ qs l f b c s. accept_answer-kept qs l f b c s;
  accepted = λ qs l f b c s. kept-replaced qs l (queue.accepted (queue_at qs l) f b c) _ s (sound-accepted (queue_at qs l) f b c (s.each l)) (accepted-kept qs l f b c s);
  to_send = to_send-kept w;
  sent_one = λ qs l s. kept-replaced qs l (queue.sent_one (queue_at qs l) w) _ s (sound-sent_one (queue_at qs l) w (s.each l)) (sent_one-kept w qs l s);
  unconfirmed = λ qs l. lane_at-kept qs l;
  found = λ qs l number s. found-kept qs l number s;
  completed = λ qs l number s. record {
    same = completed-kept qs l number s;
    fit = are_queues-set qs l (queue.emptied (queue_at qs l)) s _ (sound-emptied w (queue_at qs l) (limit-kept qs s));
  };
  held = λ qs. refl;
  holding = λ qs m s. record { same = refl; fit = record { each = s.each } };
  without_held = λ qs s. record { same = refl; fit = record { each = s.each } };
  outstanding = λ qs l. rw (counts_at-kept qs l);
  last_sent = λ qs l s. rw (counts_at-kept qs l) (kept-last_sent (queue_at qs l) (s.each l));
  last_accepted = λ qs l. rw (counts_at-kept qs l) (kept-last_accepted (queue_at qs l));
  users = λ qs. sum_by-cons users_in qs.held (map unconfirmed qs.links) ∙ ap (λ (n : ℕ). users_in qs.held + n) (sum_by-map users_in unconfirmed qs.links);
  managements = λ qs. sum_by-cons managements_in qs.held (map unconfirmed qs.links) ∙ ap (λ (n : ℕ). managements_in qs.held + n) (sum_by-map managements_in unconfirmed qs.links);
}
