-- What is kept after a number is what waits after it.
use Rattle.exchange.proofs.Basics.{◌≡◌, ◌≤◌, ◌+◌, ◌-◌, ℕ, Option, Some, None, drop, refl, ap, ◌∙◌, arith, unwrap_or, option_map, drop-drop, Queue, IsQueue, named_count, unconfirmed, counts_of, kept-newly_confirmed, finds_named, queue_at, Abstract, behind_number, kept_behind_number, counts_at, link_lane, Kept, StandsFor}
use Rattle.exchange.proofs.KeptQueues.{counts_at-kept, lane_at-kept}

behind-by : (q : Queue) (count : Option ℕ) → ((n : ℕ) → count ≡ Some n → q.confirmed ≤ n)
    → drop (unwrap_or (option_map (λ n. n - q.confirmed) count) 0) (unconfirmed q) ≡ drop (unwrap_or count q.confirmed) q.all
behind-by q (Some n) from =
    let sum : q.confirmed + (n - q.confirmed) ≡ n = omega (arith, from n refl) in
    drop-drop (n - q.confirmed) q.confirmed q.all ∙ ap (λ (i : ℕ). drop i q.all) sum
behind-by q None from = refl

behind-kept : {w : ℕ} (q : Queue) (number : ℕ) → IsQueue w q → kept_behind_number (counts_of q) (unconfirmed q) number ≡ behind_number q number
behind-kept {w} q number h =
    ap (λ (count : Option ℕ). drop (unwrap_or count 0) (unconfirmed q)) (kept-newly_confirmed q number h)
    ∙ behind-by q (named_count q number) (λ n e. ((finds_named w q number n h).0 e).from_confirmed)

pub stands-behind : (link number : ℕ) (k : Kept) (a : Abstract) → StandsFor k a
    → kept_behind_number (counts_at k.node.queues.counts link) (link_lane k.node.queues link) number ≡ behind_number (queue_at a.node.queues link) number
stands-behind link number k a s =
    ap (λ (x : Kept). kept_behind_number (counts_at x.node.queues.counts link) (link_lane x.node.queues link) number) s.kept
    ∙ rw (counts_at-kept a.node.queues link, lane_at-kept a.node.queues link) (behind-kept (queue_at a.node.queues link) number (s.sound.queues.each link))
