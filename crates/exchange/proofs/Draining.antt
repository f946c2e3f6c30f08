-- Messages that leave a list one after another are taken out in order, and each meets its fate.
use Rattle.exchange.proofs.Basics.{◌≡◌, ◌≢◌, ◌⊎◌, ℕ, zero, suc, ◌+◌, ◌-◌, ◌<◌, ◌≤◌, Bool, true, false, List, [], ◌∷◌, ◌++◌, length, take, drop, refl, ap, sym, subst, ◌∙◌, arith, Option, Some, None, slice_get, set, ⊎_elim, cases_eq, set-set, set_comm, set-get_or, get_or-set_same, get_or-set_other, drop-append-le, take-append-le, take_all, drop_all, length-set, length-append, Message, flow_of, Configuration, lane_at, pushed, dropped, first_behind, Parts, Node, State, with_node, KeptQueues, kept, held_lane, link_of, waits, NoRoute, unsent, send_anew, send, lose, send_each, go_on, go_by, go, go_each, release, Fate, GoesTo, IsDropped, fate_on, anew, onward, onward_by, placed, placed_each, without_first, drained, gone, gone_by, first_gone}

abbrev Lists : Type 0
Lists = List (List Message)

-- ---- the first of a list goes to the end of a list, also of its own

-- the same list
same-lists : (lists : Lists) (lane : ℕ) (m : Message) (rest : List Message) (n : ℕ) → lane_at lists lane ≡ m ∷ rest → n ≤ length rest → lane < length lists
    → pushed (dropped lists lane (suc n)) lane m ≡ dropped (first_behind lists lane lane) lane n
same-lists lists lane m rest n e h k =
    let cut : List Message = drop n rest in
    let inside : lane < length (set lists lane rest) = omega (arith, k, length-set lists lane rest) in
    let left : pushed (dropped lists lane (suc n)) lane m ≡ set lists lane (cut ++ m ∷ []) =
    ap (λ (xs : List Message). pushed (set lists lane (drop (suc n) xs)) lane m) e
    ∙ ap (λ (xs : List Message). set (set lists lane cut) lane (xs ++ m ∷ [])) (get_or-set_same lists lane cut [] k)
    ∙ set-set lists lane cut (cut ++ m ∷ []) in
    let moved : first_behind lists lane lane ≡ set lists lane (rest ++ m ∷ []) =
    ap (λ (xs : List Message). set (set lists lane (drop 1 xs)) lane (lane_at (set lists lane (drop 1 xs)) lane ++ take 1 xs)) e
    ∙ ap (λ (xs : List Message). set (set lists lane rest) lane (xs ++ m ∷ [])) (get_or-set_same lists lane rest [] k)
    ∙ set-set lists lane rest (rest ++ m ∷ []) in
    let right : dropped (first_behind lists lane lane) lane n ≡ set lists lane (cut ++ m ∷ []) =
    ap (λ (ls : Lists). dropped ls lane n) moved
    ∙ ap (λ (xs : List Message). set (set lists lane (rest ++ m ∷ [])) lane (drop n xs)) (get_or-set_same lists lane (rest ++ m ∷ []) [] k)
    ∙ ap (λ (xs : List Message). set (set lists lane (rest ++ m ∷ [])) lane xs) (drop-append-le n rest (m ∷ []) h)
    ∙ set-set lists lane (rest ++ m ∷ []) (cut ++ m ∷ []) in
    left ∙ sym right

same-left : (lists : Lists) (lane : ℕ) (m : Message) (rest : List Message) → lane_at lists lane ≡ m ∷ rest → lane < length lists
    → lane_at (first_behind lists lane lane) lane ≡ rest ++ m ∷ []
same-left lists lane m rest e k =
    let inside : lane < length (set lists lane rest) = omega (arith, k, length-set lists lane rest) in
    ap (λ (xs : List Message). lane_at (set (set lists lane (drop 1 xs)) lane (lane_at (set lists lane (drop 1 xs)) lane ++ take 1 xs)) lane) e
    ∙ get_or-set_same (set lists lane rest) lane (lane_at (set lists lane rest) lane ++ m ∷ []) [] inside
    ∙ ap (λ (xs : List Message). xs ++ m ∷ []) (get_or-set_same lists lane rest [] k)

-- another list
other-left : (lists : Lists) (lane to : ℕ) (m : Message) (rest : List Message) → lane_at lists lane ≡ m ∷ rest → lane < length lists → to ≢ lane
    → lane_at (first_behind lists lane to) lane ≡ rest
other-left lists lane to m rest e k apart =
    get_or-set_other (set lists lane (drop 1 (lane_at lists lane))) to lane _ [] (λ x. apart (sym x))
    ∙ ap (λ (xs : List Message). lane_at (set lists lane (drop 1 xs)) lane) e
    ∙ get_or-set_same lists lane rest [] k

other-lists : (lists : Lists) (lane to : ℕ) (m : Message) (rest : List Message) (n : ℕ) → lane_at lists lane ≡ m ∷ rest → lane < length lists → to ≢ lane
    → pushed (dropped lists lane (suc n)) to m ≡ dropped (first_behind lists lane to) lane n
other-lists lists lane to m rest n e k apart =
    let cut : List Message = drop n rest in
    let far : lane ≢ to = λ x. apart (sym x) in
    let left : pushed (dropped lists lane (suc n)) to m ≡ set (set lists lane cut) to (lane_at lists to ++ m ∷ []) =
    ap (λ (xs : List Message). pushed (set lists lane (drop (suc n) xs)) to m) e
    ∙ ap (λ (xs : List Message). set (set lists lane cut) to (xs ++ m ∷ [])) (get_or-set_other lists lane to cut [] apart) in
    let moved : first_behind lists lane to ≡ set (set lists lane rest) to (lane_at lists to ++ m ∷ []) =
    ap (λ (xs : List Message). set (set lists lane (drop 1 xs)) to (lane_at (set lists lane (drop 1 xs)) to ++ take 1 xs)) e
    ∙ ap (λ (xs : List Message). set (set lists lane rest) to (xs ++ m ∷ [])) (get_or-set_other lists lane to rest [] apart) in
    let right : dropped (first_behind lists lane to) lane n ≡ set (set lists lane cut) to (lane_at lists to ++ m ∷ []) =
    ap (λ (xs : List Message). set (first_behind lists lane to) lane (drop n xs)) (other-left lists lane to m rest e k apart)
    ∙ ap (λ (ls : Lists). set ls lane cut) moved
    ∙ set_comm (set lists lane rest) to lane (lane_at lists to ++ m ∷ []) cut apart
    ∙ ap (λ (ls : Lists). set ls to (lane_at lists to ++ m ∷ [])) (set-set lists lane rest cut) in
    left ∙ sym right

-- what is so of a first message that goes to a list
record Moves (lists : Lists) (lane to : ℕ) (m : Message) (rest : List Message) (n : ℕ) : Type 0 where
  pub moved : pushed (dropped lists lane (suc n)) to m ≡ dropped (first_behind lists lane to) lane n
  pub front : take n (lane_at (first_behind lists lane to) lane) ≡ take n rest
  pub long : n ≤ length (lane_at (first_behind lists lane to) lane)

longer : (rest : List Message) (m : Message) (n : ℕ) → n ≤ length rest → n ≤ length (rest ++ m ∷ [])
longer rest m n h = omega (arith, h, length-append rest (m ∷ []))

moves : (lists : Lists) (lane to : ℕ) (m : Message) (rest : List Message) (n : ℕ) → lane_at lists lane ≡ m ∷ rest → n ≤ length rest → lane < length lists
    → (to ≡ lane) ⊎ (to ≢ lane) → Moves lists lane to m rest n
moves lists lane to m rest n e h k =
    ⊎_elim
    (λ (x : to ≡ lane). subst (λ (t : ℕ). Moves lists lane t m rest n) (sym x) (record {
      moved = same-lists lists lane m rest n e h k;
      front = ap (take n) (same-left lists lane m rest e k) ∙ take-append-le n rest (m ∷ []) h;
      long = subst (λ (xs : List Message). n ≤ length xs) (sym (same-left lists lane m rest e k)) (longer rest m n h);
    }))
    (λ (x : to ≢ lane). record {
      moved = other-lists lists lane to m rest n e k x;
      front = ap (take n) (other-left lists lane to m rest e k x);
      long = subst (λ (xs : List Message). n ≤ length xs) (sym (other-left lists lane to m rest e k x)) h;
    })

-- ---- the first is dropped

dropped-left : (lists : Lists) (lane : ℕ) (m : Message) (rest : List Message) → lane_at lists lane ≡ m ∷ rest → lane < length lists → lane_at (dropped lists lane 1) lane ≡ rest
dropped-left lists lane m rest e k =
    ap (λ (xs : List Message). lane_at (set lists lane (drop 1 xs)) lane) e ∙ get_or-set_same lists lane rest [] k

dropped-twice : (lists : Lists) (lane : ℕ) (m : Message) (rest : List Message) (n : ℕ) → lane_at lists lane ≡ m ∷ rest → lane < length lists
    → dropped lists lane (suc n) ≡ dropped (dropped lists lane 1) lane n
dropped-twice lists lane m rest n e k =
    ap (λ (xs : List Message). set lists lane (drop (suc n) xs)) e
    ∙ sym (ap (λ (xs : List Message). set (dropped lists lane 1) lane (drop n xs)) (dropped-left lists lane m rest e k) ∙ set-set lists lane _ (drop n rest))

-- ---- one more is gone, and one fewer is left

-- what is left to do after the first is gone
pub record OneFewer (fate : Message → Parts → Fate) (n lane : ℕ) (before after : Node KeptQueues) : Type 0 where
  pub left : drained fate n lane after ≡ drained fate (suc n) lane before
  pub there : n ≤ length (lane_at after.queues.lanes lane)

module _ (fate : Message → Parts → Fate) (n lane : ℕ) (node : Node KeptQueues) (m : Message) (rest : List Message) (e : lane_at node.queues.lanes lane ≡ m ∷ rest)
    (h : n ≤ length rest) (k : lane < length node.queues.lanes) where
  -- all but the first are taken out after it
  out : drained fate (suc n) lane node ≡ placed_each fate (take n rest) (placed (fate m node.parts) m (without_first (suc n) lane node))
  out = ap (λ (xs : List Message). placed_each fate (take (suc n) xs) (without_first (suc n) lane node)) e

  one-gone : (f : Fate) → fate m node.parts ≡ f → OneFewer fate n lane node (gone f lane node)
  one-gone (GoesTo to) met =
      let mv : Moves node.queues.lanes lane to m rest n = moves node.queues.lanes lane to m rest n e h k (cases_eq to lane) in
      record {
        left = ap (λ (xs : List Message). placed_each fate xs (without_first n lane (gone (GoesTo to) lane node))) mv.front
            ∙ ap (λ (ls : Lists). placed_each fate (take n rest) (record node { queues = record node.queues { lanes = ls } })) (sym mv.moved)
            ∙ sym (out ∙ ap (λ (f : Fate). placed_each fate (take n rest) (placed f m (without_first (suc n) lane node))) met);
        there = mv.long;
      }
  one-gone (IsDropped parts) met = record {
    left = ap (λ (xs : List Message). placed_each fate (take n xs) (without_first n lane (gone (IsDropped parts) lane node))) (dropped-left node.queues.lanes lane m rest e k)
        ∙ ap (λ (ls : Lists). placed_each fate (take n rest) (record { queues = record node.queues { lanes = ls }; parts = parts })) (sym (dropped-twice node.queues.lanes lane m rest n e k))
        ∙ sym (out ∙ ap (λ (f : Fate). placed_each fate (take n rest) (placed f m (without_first (suc n) lane node))) met);
    there = subst (λ (xs : List Message). n ≤ length xs) (sym (dropped-left node.queues.lanes lane m rest e k)) h;
  }

inside : (lists : Lists) (lane : ℕ) (m : Message) (rest : List Message) → lane_at lists lane ≡ m ∷ rest → lane < length lists
inside [] zero m rest e = absurd cc
inside [] (suc lane) m rest e = absurd cc
inside (xs ∷ lists) zero m rest e = omega arith
inside (xs ∷ lists) (suc lane) m rest e = omega (arith, inside lists lane m rest e)

by-list : (fate : Message → Parts → Fate) (n lane : ℕ) (node : Node KeptQueues) (xs : List Message) → lane_at node.queues.lanes lane ≡ xs → suc n ≤ length xs
    → OneFewer fate n lane node (first_gone fate lane node)
by-list fate n lane node [] e h = absurd (omega (arith, h))
by-list fate n lane node (m ∷ rest) e h =
    subst (λ (x : Node KeptQueues). OneFewer fate n lane node x) (sym (ap (λ (xs : List Message). gone_by fate (slice_get xs 0) lane node) e))
    (one-gone fate n lane node m rest e (omega (arith, h)) (inside node.queues.lanes lane m rest e) (fate m node.parts) refl)

pub one_fewer : (fate : Message → Parts → Fate) (n lane : ℕ) (node : Node KeptQueues) → suc n ≤ length (lane_at node.queues.lanes lane)
    → OneFewer fate n lane node (first_gone fate lane node)
one_fewer fate n lane node h = by-list fate n lane node (lane_at node.queues.lanes lane) refl h

-- nothing is left
pub none_left : (fate : Message → Parts → Fate) (lane : ℕ) (node : Node KeptQueues) → drained fate 0 lane node ≡ node
none_left fate lane node = ap (λ (ls : Lists). record { queues = record node.queues { lanes = ls }; parts = node.parts }) (set-get_or node.queues.lanes lane [])

-- all are taken out
pub all_out : (fate : Message → Parts → Fate) (lane : ℕ) (node : Node KeptQueues)
    → drained fate (length (lane_at node.queues.lanes lane)) lane node
    ≡ placed_each fate (lane_at node.queues.lanes lane) (record node { queues = record node.queues { lanes = set node.queues.lanes lane [] } })
all_out fate lane node =
    let xs : List Message = lane_at node.queues.lanes lane in
    ap (λ (ys : List Message). placed_each fate ys (without_first (length xs) lane node)) (take_all (length xs) xs (omega arith))
    ∙ ap (λ (ys : List Message). placed_each fate xs (record node { queues = record node.queues { lanes = set node.queues.lanes lane ys } })) (drop_all (length xs) xs (omega arith))

-- ---- the fates are those of the rules

send-placed : (c : Configuration) (link : Option ℕ) (m : Message) (n : Node KeptQueues) → send kept c None link m n ≡ placed (fate_on link (unsent NoRoute m n.parts)) m n
send-placed c (Some link) m n = refl
send-placed c None m n = refl

pub send_each-placed : (c : Configuration) (ms : List Message) (n : Node KeptQueues) → send_each kept c ms n ≡ placed_each (anew c) ms n
send_each-placed c [] n = refl
send_each-placed c (m ∷ ms) n =
    send_each-placed c ms (send_anew kept c m n)
    ∙ ap (λ (x : Node KeptQueues). placed_each (anew c) ms x) (send-placed c (link_of c n.parts (flow_of m)) m n)

go_on-placed : (c : Configuration) (link : Option ℕ) (m : Message) (n : Node KeptQueues) → go_on kept c link m n ≡ placed (fate_on link (lose NoRoute m n.parts)) m n
go_on-placed c (Some link) m n = refl
go_on-placed c None m n = refl

go_by-placed : (c : Configuration) (b : Bool) (m : Message) (n : Node KeptQueues) → go_by kept c b m n ≡ placed (onward_by b c m n.parts) m n
go_by-placed c true m n = refl
go_by-placed c false m n = go_on-placed c (link_of c n.parts (flow_of m)) m n

pub go_each-placed : (c : Configuration) (ms : List Message) (n : Node KeptQueues) → go_each kept c ms n ≡ placed_each (onward c) ms n
go_each-placed c [] n = refl
go_each-placed c (m ∷ ms) n =
    go_each-placed c ms (go kept c m n)
    ∙ ap (λ (x : Node KeptQueues). placed_each (onward c) ms x) (go_by-placed c (waits c n.parts.holds m) m n)

-- a release takes all out of Held
pub release-drained : (c : Configuration) (n : Node KeptQueues) → drained (onward c) (length (kept.held n.queues)) held_lane n ≡ release kept c n
release-drained c n =
    all_out (onward c) held_lane n
    ∙ sym (go_each-placed c (kept.held n.queues) (record n { queues = kept.without_held n.queues }))

-- ---- a loop that takes out one after the other

-- what is left to do of a node, and that as many messages are there
pub record Rest (fate : Configuration → Message → Parts → Fate) (s0 s : State KeptQueues) (n lane count : ℕ) : Type 0 where
  pub left : with_node s (drained (fate s0.settings) n lane s.node) ≡ with_node s0 (drained (fate s0.settings) count lane s0.node)
  pub there : n ≤ length (lane_at s.node.queues.lanes lane)

pub loop_step : (fate : Configuration → Message → Parts → Fate) (s0 s next : State KeptQueues) (end at lane count : ℕ) → at < end
    → next ≡ with_node s (first_gone (fate s.settings) lane s.node) → Rest fate s0 s (end - at) lane count → Rest fate s0 next (end - (at + 1)) lane count
loop_step fate s0 s next end at lane count below did r =
    let n : ℕ = end - (at + 1) in
    let more : end - at ≡ suc n = omega (arith, below) in
    let same : s.settings ≡ s0.settings = ap (λ (x : State KeptQueues). x.settings) r.left in
    let f : Message → Parts → Fate = fate s0.settings in
    let did_so : next ≡ with_node s (first_gone f lane s.node) = did ∙ ap (λ (c : Configuration). with_node s (first_gone (fate c) lane s.node)) same in
    let o : OneFewer f n lane s.node (first_gone f lane s.node) = one_fewer f n lane s.node (subst (λ (i : ℕ). i ≤ length (lane_at s.node.queues.lanes lane)) more r.there) in
    record {
      left = ap (λ (x : State KeptQueues). with_node x (drained f n lane x.node)) did_so
          ∙ ap (λ (y : Node KeptQueues). with_node s y) o.left
          ∙ ap (λ (i : ℕ). with_node s (drained f i lane s.node)) (sym more)
          ∙ r.left;
      there = subst (λ (x : State KeptQueues). n ≤ length (lane_at x.node.queues.lanes lane)) (sym did_so) o.there;
    }

pub loop_done : (fate : Configuration → Message → Parts → Fate) (s0 s : State KeptQueues) (n lane count : ℕ) → n ≡ 0
    → Rest fate s0 s n lane count → s ≡ with_node s0 (drained (fate s0.settings) count lane s0.node)
loop_done fate s0 s n lane count none r =
    ap (λ (y : Node KeptQueues). with_node s y) (sym (none_left (fate s0.settings) lane s.node))
    ∙ ap (λ (i : ℕ). with_node s (drained (fate s0.settings) i lane s.node)) (sym none)
    ∙ r.left

-- before the first
pub loop_begins : (fate : Configuration → Message → Parts → Fate) (s : State KeptQueues) (n lane : ℕ) → n ≡ length (lane_at s.node.queues.lanes lane)
    → Rest fate s s n lane (length (lane_at s.node.queues.lanes lane))
loop_begins fate s n lane e = record {
  left = ap (λ (i : ℕ). with_node s (drained (fate s.settings) i lane s.node)) e;
  there = omega (arith, e);
}
