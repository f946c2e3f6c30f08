-- What is counted of messages is the same of two networks that are alike.
use Rattle.std.proofs.Common.{◌≡◌, ◌<◌, ◌+◌, ◌-◌, ℕ, zero, suc, Bool, true, false, ◌&&◌, List, [], ◌∷◌, length, map, Option, Some, None, nat_eq, refl, ap, sym, ◌∙◌, arith}
use Rattle.std.specs.Prelude.{count_by, drop, filter, if◌then◌else◌}
use Rattle.signalling_types.specs.Message.{Message}
use Rattle.settings.specs.Configuration.{Configuration}
use Rattle.exchange_rules.specs.Queues.{WholeQueues, queue_at}
use Rattle.exchange_rules.specs.State.{Node}
use Rattle.network_moves.specs.Networks.{sum_to}
use Rattle.network_moves.proofs.Counts.{count-append, sum-added, sum-alike, sum-none, sum-one}
use Rattle.node_moves.specs.Laws as law
use Rattle.node_moves.specs.Laws.{any_fate, fates_that, is_user, users_that}
use Rattle.node_moves.specs.Fates.{came_to}
use Rattle.node_moves.specs.Networks as nodes
use Rattle.node_moves.specs.Networks.{IsNode, LinkEnd}
use Rattle.node_moves.proofs.FateCounts.{counted-messages}
use Rattle.pair_moves.specs.Order.{join_to}
use Rattle.network_rules.specs.Networks.{Arrival, NetworkState, Place, other_end}
use Rattle.network_rules.specs.Totals.{IsPlaced, received_there, waiting_on}
use Rattle.network_rules.proofs.Booked.{texts_of}
use Rattle.network_rules.proofs.Joined.{end_at, ends-are}
use Rattle.node_law.specs.Alike.{came_by}
use Rattle.node_law.specs.Ends.{accepted_at, came_from, came_there, gone_at, waits_at}
use Rattle.node_law.proofs.Places.{end-node, ends-agree, led}
use Rattle.node_law.proofs.Same.{AreWithin}
use Rattle.node_law.proofs.Steps.{AreKept, AreSame}

join-count : (test : Message → Bool) (f : ℕ → List Message) (n : ℕ) → count_by test (join_to f n) ≡ sum_to (λ k. count_by test (f k)) n
join-count test f zero = refl
join-count test f (suc n) = count-append test (join_to f n) (f n) ∙ ap (λ (k : ℕ). k + count_by test (f n)) (join-count test f n)

-- all that came by some link
module _ (test : Message → Bool) (links : ℕ) where
  first-apart : (a : Arrival) (arrived : List Arrival) (link : ℕ) → count_by test (came_by link (a ∷ arrived)) ≡ (if nat_eq a.link link then count_by test (a.message ∷ []) else 0) + count_by test (came_by link arrived)
  first-apart a arrived link = by (nat_eq a.link link) refl
    where
      none : (n : ℕ) → n ≡ 0 + n
      none n = omega arith

      by : (b : Bool) → nat_eq a.link link ≡ b → count_by test (came_by link (a ∷ arrived)) ≡ (if b then count_by test (a.message ∷ []) else 0) + count_by test (came_by link arrived)
      by true e =
          ap (λ (b : Bool). count_by test (map (λ (i : Arrival). i.message) (if b then a ∷ filter (λ i. nat_eq i.link link) arrived else filter (λ i. nat_eq i.link link) arrived))) e
          ∙ count-append test (a.message ∷ []) (came_by link arrived)
      by false e =
          ap (λ (b : Bool). count_by test (map (λ (i : Arrival). i.message) (if b then a ∷ filter (λ i. nat_eq i.link link) arrived else filter (λ i. nat_eq i.link link) arrived))) e
          ∙ none (count_by test (came_by link arrived))

  pub by-links : (arrived : List Arrival) → AreWithin links arrived → sum_to (λ link. count_by test (came_by link arrived)) links ≡ count_by test (texts_of arrived)
  by-links [] h = sum-none (λ link. 0) links (λ link. refl)
  by-links (a ∷ arrived) h =
      sum-added (λ link. count_by test (came_by link (a ∷ arrived))) (λ link. if nat_eq a.link link then count_by test (a.message ∷ []) else 0) (λ link. count_by test (came_by link arrived)) links (first-apart a arrived)
      ∙ ap (λ (n : ℕ). n + sum_to (λ link. count_by test (came_by link arrived)) links) (sum-one a.link links (count_by test (a.message ∷ [])) h.0)
      ∙ ap (λ (n : ℕ). count_by test (a.message ∷ []) + n) (by-links arrived h.1)
      ∙ sym (count-append test (a.message ∷ []) (texts_of arrived))

module _ (settings : (point : ℕ) → Configuration) (numbers : List ℕ) (placed : IsPlaced settings numbers) (w : NetworkState) (v : nodes.NetworkState) (kept : AreKept settings w) (s : AreSame settings w v) where
  pub node-same-at : (x : ℕ) → IsNode settings x → (w.node x).exchange.node ≡ (v.node x).node
  node-same-at x fx = (s.each x fx).exchange.node

  pub broken-same : (x : ℕ) → IsNode settings x → (v.node x).node.parts.times_broken ≡ (w.node x).exchange.node.parts.times_broken
  broken-same x fx = ap (λ (n : Node WholeQueues). n.parts.times_broken) (sym (node-same-at x fx))

  pub lost-same : (x : ℕ) → IsNode settings x → (v.node x).node.parts.messages_lost ≡ (w.node x).exchange.node.parts.messages_lost
  lost-same x fx = ap (λ (n : Node WholeQueues). n.parts.messages_lost) (sym (node-same-at x fx))

  module _ (test : Message → Bool) where
    pub accepted-same : (x : ℕ) → IsNode settings x → accepted_at w test x ≡ law.accepted_at settings v test x
    accepted-same x fx = ap (users_that test) (s.each x fx).books.taken

    came-there : (x link : ℕ) (there : Option Place) → end_at settings x link ≡ there → users_that test (came_there w there) ≡ fates_that any_fate test (law.came_by settings v (led there))
    came-there x link None e = refl
    came-there x link (Some there) e =
        ap (users_that test) ((s.each there.point (end-node settings numbers placed x link there e)).books.came there.link)
        ∙ sym (counted-messages (λ m. is_user m && test m) ((v.node there.point).came there.link))

    -- over one link
    pub came-by-same : (x link : ℕ) → link < length (settings x).links → users_that test (came_there w (other_end w x link)) ≡ fates_that any_fate test (law.came_by settings v (nodes.other_end settings x link))
    came-by-same x link inside =
        ap (λ (o : Option Place). users_that test (came_there w o)) (ends-are settings w kept x link)
        ∙ came-there x link (end_at settings x link) refl
        ∙ ap (λ (o : Option LinkEnd). fates_that any_fate test (law.came_by settings v o)) (ends-agree settings numbers placed x link inside)

    pub came-same : (x : ℕ) → IsNode settings x → came_from w test x ≡ law.came_from settings v test x
    came-same x fx =
        ap (λ (c : Configuration). sum_to (λ link. users_that test (came_there w (other_end w x link))) (length c.links)) (kept x)
        ∙ sum-alike (λ link. fates_that any_fate test (law.came_by settings v (nodes.other_end settings x link))) (λ link. users_that test (came_there w (other_end w x link))) (length (settings x).links)
        (came-by-same x)

    received-same : (x link : ℕ) (there : Option Place) → end_at settings x link ≡ there → received_there w there ≡ law.received_by settings v (led there)
    received-same x link None e = refl
    received-same x link (Some there) e =
        ap (λ (n : Node WholeQueues). (queue_at n.queues there.link).received) (node-same-at there.point (end-node settings numbers placed x link there e))

    pub waits-on-same : (x link : ℕ) → IsNode settings x → link < length (settings x).links → waiting_on w x link ≡ law.waiting_on settings v x link
    waits-on-same x link fx inside =
        ap (λ (o : Option Place). drop (received_there w o) (queue_at (w.node x).exchange.node.queues link).all) (ends-are settings w kept x link)
        ∙ ap (λ (k : ℕ). drop k (queue_at (w.node x).exchange.node.queues link).all)
        (received-same x link (end_at settings x link) refl ∙ ap (law.received_by settings v) (ends-agree settings numbers placed x link inside))
        ∙ ap (λ (n : Node WholeQueues). drop (law.received_by settings v (nodes.other_end settings x link)) (queue_at n.queues link).all) (node-same-at x fx)

    pub waits-same : (x : ℕ) → IsNode settings x → waits_at w test x ≡ law.waits_at settings v test x
    waits-same x fx =
        count-append (λ m. is_user m && test m) (join_to (waiting_on w x) (length (w.node x).exchange.settings.links)) (w.node x).exchange.node.queues.held
        ∙ turn (users_that test (join_to (waiting_on w x) (length (w.node x).exchange.settings.links))) (users_that test (w.node x).exchange.node.queues.held)
        ∙ ap (λ (n : Node WholeQueues). users_that test n.queues.held + users_that test (join_to (waiting_on w x) (length (w.node x).exchange.settings.links))) (node-same-at x fx)
        ∙ ap (λ (k : ℕ). users_that test (v.node x).node.queues.held + k)
        (ap (λ (c : Configuration). users_that test (join_to (waiting_on w x) (length c.links))) (kept x)
        ∙ join-count (λ m. is_user m && test m) (waiting_on w x) (length (settings x).links)
        ∙ sum-alike (λ link. users_that test (law.waiting_on settings v x link)) (λ link. users_that test (waiting_on w x link)) (length (settings x).links)
        (λ link inside. ap (users_that test) (waits-on-same x link fx inside)))
      where
        turn : (a b : ℕ) → a + b ≡ b + a
        turn a b = omega arith

    pub gone-same : (x : ℕ) → IsNode settings x → gone_at w test x ≡ law.gone_at settings v test x
    gone-same x fx =
        ap (λ (k : ℕ). k - (came_from w test x + waits_at w test x)) (accepted-same x fx)
        ∙ ap (λ (k : ℕ). law.accepted_at settings v test x - (k + waits_at w test x)) (came-same x fx)
        ∙ ap (λ (k : ℕ). law.accepted_at settings v test x - (law.came_from settings v test x + k)) (waits-same x fx)

    -- all that came to a node
    pub arrived-same : (x : ℕ) → IsNode settings x → users_that test (texts_of (w.node x).arrived) ≡ came_to settings v any_fate test x
    arrived-same x fx =
        sym (by-links (λ m. is_user m && test m) (length (settings x).links) (w.node x).arrived (s.each x fx).books.within)
        ∙ sum-alike (λ link. fates_that any_fate test ((v.node x).came link)) (λ link. users_that test (came_by link (w.node x).arrived)) (length (settings x).links)
        (λ link inside. ap (users_that test) ((s.each x fx).books.came link) ∙ sym (counted-messages (λ m. is_user m && test m) ((v.node x).came link)))
