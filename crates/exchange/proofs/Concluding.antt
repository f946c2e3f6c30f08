-- What a completion leaves, once the management messages that it left have gone out again.
use Rattle.exchange.proofs.Basics.{◌≡◌, ◌≢◌, ◌<◌, ℕ, not, List, [], ◌++◌, drop, length, ap, sym, ◌∙◌, arith, Option, filter, set, set-set, get_or-set_same, get_or-set_other, Message, is_management, lane_at, dropped, before-kept, Counts, kept_emptied, users_of, kept_accepted_count, kept_done_with, spliced, behind-done, State, Node, Found, with_node, KeptQueues, kept, lane_of, held_lane, counts_at, link_lane, without_lane, concluded, conclude, anew, drained, placed_each, spliced_queues}
use Rattle.exchange.proofs.Draining.{all_out, send_each-placed}

apart : (link : ℕ) → lane_of link ≢ held_lane
apart link e = absurd (omega (arith, e))

-- the list of a link is emptied after its user messages went before all of Held
emptied-lists : (lists : List (List Message)) (link count : ℕ) → lane_of link < length lists
    → set (spliced lists (lane_of link) count held_lane) (lane_of link) []
    ≡ set (set lists (lane_of link) []) held_lane (users_of (drop count (lane_at lists (lane_of link))) ++ lane_at lists held_lane)
emptied-lists lists link count h =
    let lane : ℕ = lane_of link in
    let cut : List (List Message) = dropped lists lane count in
    let left : List Message = filter (λ m. not (not (is_management m))) (lane_at cut lane) in
    let emptied : set cut lane [] ≡ set lists lane [] = set-set lists lane (drop count (lane_at lists lane)) [] in
    before-kept cut lane held_lane left (users_of (lane_at cut lane)) [] (apart link)
    ∙ ap (λ (ls : List (List Message)). set ls held_lane (users_of (lane_at cut lane) ++ lane_at ls held_lane)) emptied
    ∙ ap (λ (ms : List Message). set (set lists lane []) held_lane (users_of ms ++ lane_at (set lists lane []) held_lane))
    (get_or-set_same lists lane (drop count (lane_at lists lane)) [] h)
    ∙ ap (λ (ms : List Message). set (set lists lane []) held_lane (users_of (drop count (lane_at lists lane)) ++ ms))
    (get_or-set_other lists lane held_lane [] [] (λ e. absurd (omega (arith, e))))

pub completed-lists : (k : KeptQueues) (link : ℕ) (number : Option ℕ) → lane_of link < length k.lanes
    → without_lane (spliced_queues k link number) link ≡ kept.completed k link number
completed-lists k link number h =
    let counts : Counts = counts_at k.counts link in
    let lane : List Message = link_lane k link in
    ap (λ (ls : List (List Message)). record { lanes = ls; counts = set k.counts link (kept_emptied counts) })
    (emptied-lists k.lanes link (kept_done_with counts number) h
    ∙ ap (λ (ms : List Message). set (set k.lanes (lane_of link) []) held_lane (users_of ms ++ lane_at k.lanes held_lane))
    (behind-done counts lane (kept_accepted_count counts number)))

pub concluding : (s0 s3 : State KeptQueues) (found : Found) (link : ℕ) (number : Option ℕ) (k : KeptQueues)
    → s3 ≡ with_node s0 (record { queues = k; parts = concluded link found s0.node.parts })
    → link_lane k link ≡ found.queued_anew → without_lane k link ≡ kept.completed s0.node.queues link number
    → with_node s3 (drained (anew s3.settings) (length (link_lane s3.node.queues link)) (lane_of link) s3.node)
    ≡ with_node s0 (conclude kept s0.settings found link number s0.node)
concluding s0 s3 found link number k e queued others =
    let n3 : Node KeptQueues = record { queues = k; parts = concluded link found s0.node.parts } in
    ap (λ (s : State KeptQueues). with_node s (drained (anew s.settings) (length (link_lane s.node.queues link)) (lane_of link) s.node)) e
    ∙ ap (λ (n : Node KeptQueues). with_node s0 n)
    (all_out (anew s0.settings) (lane_of link) n3
    ∙ ap (λ (ms : List Message). placed_each (anew s0.settings) ms (record { queues = without_lane k link; parts = n3.parts })) queued
    ∙ ap (λ (q : KeptQueues). placed_each (anew s0.settings) found.queued_anew (record { queues = q; parts = n3.parts })) others
    ∙ sym (send_each-placed s0.settings found.queued_anew (record { queues = kept.completed s0.node.queues link number; parts = n3.parts })))
