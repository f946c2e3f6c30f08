-- The first free cell goes to the end of a list, the first cell of a list is freed, and a cell is used for the first
-- time.
use Rattle.cell_pool.proofs.Basics.{◌≡◌, ℕ, zero, suc, ◌+◌, ◌-◌, ◌<◌, ◌≤◌, Bool, true, false, cond, List, [], ◌∷◌, ◌++◌, length, get_or, take, drop, refl, ap, sym, ◌∙◌, arith, nat_lt, inl, inr, replicate, sum_by, set, cases_eq, eq-eqb, ne_eqb, nat_tests, get_or-set_same, get_or-replicate, length-replicate, length-map, length_push, sum_by-cons, sum_by-set, get_or-le-sum_by, uses, ring_at, SharesOut, Chained, no_cells, one_cell, walk, cells_of, rings_of, chain_at, joined, end_of, shortened, IsMarked, AreMarked}
use Rattle.std.proofs.lemmas.List.Folds.{sum_by-replicate}
use Rattle.cell_pool.proofs.Sharing.{use_of, uses-cons, uses-push, use_of-itself, below, below-next, below-none, shared-within}
use Rattle.cell_pool.proofs.Walks.{walk-set, walk-push, walk-first}
use Rattle.cell_pool.proofs.Chaining.{ring-cells, rings-relinked, marked-set, mark-of, end-none, end-some, positive, last-used, joined-cells, joined-marked}

at_most_one : (b : Bool) (n : ℕ) → n ≡ cond b 1 0 → n ≤ 1
at_most_one true n e = omega (arith, e)
at_most_one false n e = omega (arith, e)

-- no cell is used twice
pub used-once : (free : List ℕ) (rings : List (List ℕ)) (total n : ℕ) → SharesOut free rings total → uses n free + sum_by (uses n) rings ≤ 1
used-once free rings total n s = at_most_one (nat_lt n total) (uses n free + sum_by (uses n) rings) (s.once n)

-- each use in one list is a use in all
pub used-in : (next : List ℕ) (chains : List Chained) (i c : ℕ) → i < length chains → uses c (cells_of next (chain_at chains i)) ≤ sum_by (uses c) (rings_of next chains)
used-in next chains i c h =
    omega (arith, ap (uses c) (ring-cells next chains i h), get_or-le-sum_by (uses c) (rings_of next chains) i [] (omega (arith, h, length-map chains (cells_of next))))

pub mark-one : (next : List ℕ) (c : ℕ) → IsMarked (cells_of next (one_cell c)) (one_cell c)
mark-one next c = record { last = λ h. refl; within = λ h. omega arith; noted = λ h. refl }

-- ---- the first free cell goes to the end of a list

-- of the cell that is made to name it
pub record IsEnd (next : List ℕ) (spare : List ℕ) (rings : List (List ℕ)) (front back : Chained) : Type 0 where
  pub once : uses (end_of front back) (cells_of next front) + uses (end_of front back) (cells_of next back) ≡ 1
  pub alone : sum_by (uses (end_of front back)) rings ≡ uses (end_of front back) (cells_of next front)
  pub free : uses (end_of front back) spare ≡ 0
  pub within : end_of front back < length next

pub end-taken : (next : List ℕ) (chains : List Chained) (spare free ring : ℕ) → SharesOut (walk next spare free) (rings_of next chains) (length next) → AreMarked (rings_of next chains) chains → ring < length chains → 1 ≤ spare → IsEnd next (walk next (spare - 1) (get_or next free 0)) (rings_of next chains) (chain_at chains ring) (one_cell free)
end-taken next chains spare free ring s marks h some =
    let front : Chained = chain_at chains ring in
    let back : Chained = one_cell free in
    let rest : List ℕ = walk next (spare - 1) (get_or next free 0) in
    let rings : List (List ℕ) = rings_of next chains in
    let end : ℕ = end_of front back in
    let split : (n : ℕ) → uses n (walk next spare free) ≡ use_of n free + uses n rest = λ n. ap (uses n) (walk-first next spare free some) ∙ uses-cons n free rest in
    let one : (n : ℕ) → uses n (cells_of next back) ≡ use_of n free = λ n. omega (arith, uses-cons n free []) in
    let most : uses end (walk next spare free) + sum_by (uses end) rings ≤ 1 = used-once (walk next spare free) rings (length next) end s in
    let least : uses end (cells_of next front) ≤ sum_by (uses end) rings = used-in next chains ring end h in
    let within : 1 ≤ uses end (walk next spare free) + sum_by (uses end) rings → end < length next = shared-within (walk next spare free) rings (length next) end s in
    elim (cases_eq front.count 0) [
      | inl e ↦
          let is : end ≡ free = end-none front back e in
          let own : use_of end free ≡ 1 = ap (λ (k : ℕ). use_of k free) is ∙ use_of-itself free in
          let none : uses end (cells_of next front) ≡ 0 = ap (λ (n : ℕ). uses end (walk next n front.first)) e in
          record {
            once = omega (arith, one end, own, none);
            alone = omega (arith, most, split end, own, none);
            free = omega (arith, most, split end, own);
            within = within (omega (arith, split end, own));
          }
      | inr n ↦
          let is : end ≡ front.last = end-some front back n in
          let used : 1 ≤ uses end (cells_of next front) = omega (arith, last-used next front (mark-of next chains ring h marks) (positive front.count n), ap (λ (k : ℕ). uses k (cells_of next front)) is) in
          record {
            once = omega (arith, one end, most, split end, used, least);
            alone = omega (arith, most, used, least);
            free = omega (arith, most, split end, used, least);
            within = within (omega (arith, used, least));
          }
    ]

pub free-within : (next : List ℕ) (chains : List Chained) (spare free : ℕ) → SharesOut (walk next spare free) (rings_of next chains) (length next) → 1 ≤ spare → free < length next
free-within next chains spare free s some =
    let split : uses free (walk next spare free) ≡ use_of free free + uses free (walk next (spare - 1) (get_or next free 0)) = ap (uses free) (walk-first next spare free some) ∙ uses-cons free free (walk next (spare - 1) (get_or next free 0)) in
    shared-within (walk next spare free) (rings_of next chains) (length next) free s (omega (arith, split, use_of-itself free))

-- the first free cell is in no list
pub free-fresh : (next : List ℕ) (chains : List Chained) (spare free : ℕ) → SharesOut (walk next spare free) (rings_of next chains) (length next) → 1 ≤ spare → sum_by (uses free) (rings_of next chains) ≡ 0
free-fresh next chains spare free s some =
    let split : uses free (walk next spare free) ≡ use_of free free + uses free (walk next (spare - 1) (get_or next free 0)) = ap (uses free) (walk-first next spare free some) ∙ uses-cons free free (walk next (spare - 1) (get_or next free 0)) in
    omega (arith, split, use_of-itself free, used-once (walk next spare free) (rings_of next chains) (length next) free s)

pub free-taken : (next : List ℕ) (rings : List (List ℕ)) (front back : Chained) (spare free : ℕ) → 1 ≤ spare → IsEnd next (walk next (spare - 1) (get_or next free 0)) rings front back → walk (set next (end_of front back) free) (spare - 1) (get_or next free 0) ≡ drop 1 (walk next spare free)
free-taken next rings front back spare free some end =
    walk-set next (end_of front back) free (spare - 1) (get_or next free 0) end.free ∙ ap (λ (xs : List ℕ). drop 1 xs) (sym (walk-first next spare free some))

pub rings-taken : (next : List ℕ) (chains : List Chained) (spare free ring : ℕ) → AreMarked (rings_of next chains) chains → ring < length chains → 1 ≤ spare → IsEnd next (walk next (spare - 1) (get_or next free 0)) (rings_of next chains) (chain_at chains ring) (one_cell free) → rings_of (set next (end_of (chain_at chains ring) (one_cell free)) free) (set chains ring (joined (chain_at chains ring) (one_cell free))) ≡ set (rings_of next chains) ring (ring_at (rings_of next chains) ring ++ take 1 (walk next spare free))
rings-taken next chains spare free ring marks h some end =
    let front : Chained = chain_at chains ring in
    let back : Chained = one_cell free in
    rings-relinked next chains ring (end_of front back) free (joined front back) h end.alone
    ∙ ap (set (rings_of next chains) ring)
    (joined-cells next front back (mark-of next chains ring h marks) (mark-one next free) (omega arith) end.within end.once
    ∙ ap (λ (xs : List ℕ). xs ++ free ∷ []) (sym (ring-cells next chains ring h))
    ∙ ap (λ (xs : List ℕ). ring_at (rings_of next chains) ring ++ take 1 xs) (sym (walk-first next spare free some)))

pub shared-taken : (free rest : List ℕ) (rings : List (List ℕ)) (total ring k : ℕ) → SharesOut free rings total → free ≡ k ∷ rest → ring < length rings → SharesOut rest (set rings ring (ring_at rings ring ++ k ∷ [])) total
shared-taken free rest rings total ring k s e h = record {
  once = λ n. omega (arith, s.once n, ap (uses n) e, uses-cons n k rest, uses-push n k (ring_at rings ring), sum_by-set (uses n) rings ring (ring_at rings ring ++ k ∷ []) [] h);
  all = omega (arith, s.all, ap (length {A = ℕ}) e, length_push (ring_at rings ring) k, sum_by-set (length {A = ℕ}) rings ring (ring_at rings ring ++ k ∷ []) [] h);
}

pub marked-taken : (next : List ℕ) (chains : List Chained) (free ring : ℕ) → AreMarked (rings_of next chains) chains → ring < length chains → AreMarked (set (rings_of next chains) ring (ring_at (rings_of next chains) ring ++ free ∷ [])) (set chains ring (joined (chain_at chains ring) (one_cell free)))
marked-taken next chains free ring marks h =
    let front : Chained = chain_at chains ring in
    let mark : IsMarked (cells_of next front ++ free ∷ []) (joined front (one_cell free)) = joined-marked next front (one_cell free) (mark-of next chains ring h marks) (mark-one next free) (omega arith) in
    marked-set (rings_of next chains) chains ring _ (joined front (one_cell free)) (length-map chains (cells_of next)) marks (rw (ring-cells next chains ring h) mark)

-- ---- the first cell of a list is freed

pub record IsFirst (next : List ℕ) (spare : List ℕ) (rings : List (List ℕ)) (chain : Chained) : Type 0 where
  pub cells : cells_of next chain ≡ chain.first ∷ walk next (chain.count - 1) (get_or next chain.first 0)
  pub rest : uses chain.first (walk next (chain.count - 1) (get_or next chain.first 0)) ≡ 0
  pub alone : sum_by (uses chain.first) rings ≡ uses chain.first (cells_of next chain)
  pub free : uses chain.first spare ≡ 0
  pub within : chain.first < length next

pub first-freed : (next : List ℕ) (chains : List Chained) (free : List ℕ) (ring : ℕ) → SharesOut free (rings_of next chains) (length next) → ring < length chains → 1 ≤ (chain_at chains ring).count → IsFirst next free (rings_of next chains) (chain_at chains ring)
first-freed next chains free ring s h some =
    let chain : Chained = chain_at chains ring in
    let rest : List ℕ = walk next (chain.count - 1) (get_or next chain.first 0) in
    let cells : cells_of next chain ≡ chain.first ∷ rest = walk-first next chain.count chain.first some in
    let split : uses chain.first (cells_of next chain) ≡ use_of chain.first chain.first + uses chain.first rest = ap (uses chain.first) cells ∙ uses-cons chain.first chain.first rest in
    let own : use_of chain.first chain.first ≡ 1 = use_of-itself chain.first in
    let most : uses chain.first free + sum_by (uses chain.first) (rings_of next chains) ≤ 1 = used-once free (rings_of next chains) (length next) chain.first s in
    let least : uses chain.first (cells_of next chain) ≤ sum_by (uses chain.first) (rings_of next chains) = used-in next chains ring chain.first h in
    record {
      cells = cells;
      rest = omega (arith, split, own, most, least);
      alone = omega (arith, split, own, most, least);
      free = omega (arith, split, own, most, least);
      within = shared-within free (rings_of next chains) (length next) chain.first s (omega (arith, split, own, least));
    }

pub rings-freed : (next : List ℕ) (chains : List Chained) (free : List ℕ) (ring v : ℕ) → ring < length chains → IsFirst next free (rings_of next chains) (chain_at chains ring) → rings_of (set next (chain_at chains ring).first v) (set chains ring (shortened (chain_at chains ring) (get_or next (chain_at chains ring).first 0))) ≡ set (rings_of next chains) ring (drop 1 (ring_at (rings_of next chains) ring))
rings-freed next chains free ring v h first =
    let chain : Chained = chain_at chains ring in
    let second : ℕ = get_or next chain.first 0 in
    rings-relinked next chains ring chain.first v (shortened chain second) h first.alone
    ∙ ap (set (rings_of next chains) ring)
    (walk-set next chain.first v (chain.count - 1) second first.rest
    ∙ ap (λ (xs : List ℕ). drop 1 xs) (sym first.cells)
    ∙ ap (λ (xs : List ℕ). drop 1 xs) (sym (ring-cells next chains ring h)))

pub free-freed : (next : List ℕ) (chains : List Chained) (spare free ring : ℕ) → ring < length chains → IsFirst next (walk next spare free) (rings_of next chains) (chain_at chains ring) → walk (set next (chain_at chains ring).first free) (spare + 1) (chain_at chains ring).first ≡ take 1 (ring_at (rings_of next chains) ring) ++ walk next spare free
free-freed next chains spare free ring h first =
    let c : ℕ = (chain_at chains ring).first in
    let on : spare + 1 ≡ suc spare = omega arith in
    ap (λ (n : ℕ). walk (set next c free) n c) on
    ∙ ap (λ (k : ℕ). c ∷ walk (set next c free) spare k) (get_or-set_same next c free 0 first.within)
    ∙ ap (λ (xs : List ℕ). c ∷ xs) (walk-set next c free spare free first.free)
    ∙ ap (λ (xs : List ℕ). take 1 xs ++ walk next spare free) (sym first.cells)
    ∙ ap (λ (xs : List ℕ). take 1 xs ++ walk next spare free) (sym (ring-cells next chains ring h))

pub shared-freed : (free rest : List ℕ) (rings : List (List ℕ)) (total ring k : ℕ) → SharesOut free rings total → ring_at rings ring ≡ k ∷ rest → ring < length rings → SharesOut (k ∷ free) (set rings ring rest) total
shared-freed free rest rings total ring k s e h = record {
  once = λ n. omega (arith, s.once n, ap (uses n) e, uses-cons n k free, uses-cons n k rest, sum_by-set (uses n) rings ring rest [] h);
  all = omega (arith, s.all, ap (length {A = ℕ}) e, sum_by-set (length {A = ℕ}) rings ring rest [] h);
}

marked-shortened : (next : List ℕ) (chain : Chained) → 1 ≤ chain.count → IsMarked (cells_of next chain) chain → IsMarked (drop 1 (cells_of next chain)) (shortened chain (get_or next chain.first 0))
marked-shortened next chain some mark =
    let second : ℕ = get_or next chain.first 0 in
    let rest : List ℕ = walk next (chain.count - 1) second in
    let cells : cells_of next chain ≡ chain.first ∷ rest = walk-first next chain.count chain.first some in
    rw cells (record {
      last = λ h.
          let on : suc (chain.count - 1 - 1) ≡ chain.count - 1 = omega (arith, h) in
          ap (λ (i : ℕ). get_or (chain.first ∷ rest) i 0) on
          ∙ ap (λ (xs : List ℕ). get_or xs (chain.count - 1) 0) (sym cells)
          ∙ mark.last some;
      within = λ h. omega (arith, h, mark.within some);
      noted = λ h. elim (cases_eq chain.place 0) [
        | inl e ↦
            let back : chain.place - 1 ≡ 0 = omega (arith, e) in
            ap (λ (i : ℕ). get_or rest i 0) back
            ∙ ap (λ (xs : List ℕ). get_or xs 0 0) (walk-first next (chain.count - 1) second h)
            ∙ sym (ap (λ (b : Bool). cond b second chain.noted) (eq-eqb chain.place 0 e))
        | inr n ↦
            let on : suc (chain.place - 1) ≡ chain.place = omega (arith, positive chain.place n) in
            ap (λ (i : ℕ). get_or (chain.first ∷ rest) i 0) on
            ∙ ap (λ (xs : List ℕ). get_or xs chain.place 0) (sym cells)
            ∙ mark.noted some
            ∙ sym (ap (λ (b : Bool). cond b second chain.noted) (ne_eqb chain.place 0 n))
      ];
    })

pub marked-freed : (next : List ℕ) (chains : List Chained) (ring : ℕ) → AreMarked (rings_of next chains) chains → ring < length chains → 1 ≤ (chain_at chains ring).count → AreMarked (set (rings_of next chains) ring (drop 1 (ring_at (rings_of next chains) ring))) (set chains ring (shortened (chain_at chains ring) (get_or next (chain_at chains ring).first 0)))
marked-freed next chains ring marks h some =
    let chain : Chained = chain_at chains ring in
    let mark : IsMarked (drop 1 (cells_of next chain)) (shortened chain (get_or next chain.first 0)) = marked-shortened next chain some (mark-of next chains ring h marks) in
    marked-set (rings_of next chains) chains ring _ (shortened chain (get_or next chain.first 0)) (length-map chains (cells_of next)) marks (rw (ring-cells next chains ring h) mark)

-- ---- a cell is used for the first time

not_below : (n : ℕ) → below n n ≡ 0
not_below n = grind (arith, nat_tests)

pub rings-grown : (next : List ℕ) (chains : List Chained) (v : ℕ) → sum_by (uses (length next)) (rings_of next chains) ≡ 0 → rings_of (next ++ v ∷ []) chains ≡ rings_of next chains
rings-grown next [] v h = refl
rings-grown next (x ∷ chains) v h =
    let split : sum_by (uses (length next)) (rings_of next (x ∷ chains)) ≡ uses (length next) (cells_of next x) + sum_by (uses (length next)) (rings_of next chains) = sum_by-cons (uses (length next)) (cells_of next x) (rings_of next chains) in
    ap (λ (ring : List ℕ). ring ∷ rings_of (next ++ v ∷ []) chains) (walk-push next v x.count x.first (omega (arith, h, split)))
    ∙ ap (λ (rings : List (List ℕ)). cells_of next x ∷ rings) (rings-grown next chains v (omega (arith, h, split)))

pub new-unused : (free : List ℕ) (rings : List (List ℕ)) (total : ℕ) → SharesOut free rings total → sum_by (uses total) rings ≡ 0
new-unused free rings total s = omega (arith, s.once total, not_below total)

pub shared-grown : (free : List ℕ) (rings : List (List ℕ)) (total : ℕ) → free ≡ [] → SharesOut free rings total → SharesOut (total ∷ []) rings (total + 1)
shared-grown free rings total none s = record {
  once = λ n. omega (arith, s.once n, ap (uses n) none, uses-cons n total [], below-next n total);
  all = omega (arith, s.all, ap (length {A = ℕ}) none);
}

-- ---- at first no list has a cell, and none was used

pub rings-none : (next : List ℕ) (count : ℕ) → rings_of next (replicate count no_cells) ≡ replicate count []
rings-none next zero = refl
rings-none next (suc count) = ap (λ (rings : List (List ℕ)). [] ∷ rings) (rings-none next count)

pub shared-none : (count : ℕ) → SharesOut [] (replicate count []) 0
shared-none count = record {
  once = λ n. omega (arith, sum_by-replicate (uses n) count [], below-none n);
  all = omega (arith, sum_by-replicate (length {A = ℕ}) count []);
}

pub marked-none : (rings : List (List ℕ)) (count : ℕ) → AreMarked rings (replicate count no_cells)
marked-none rings count = record {
  each = λ i h. rw (get_or-replicate count i no_cells no_cells (omega (arith, h, length-replicate count no_cells))) (record { last = λ h. absurd (omega (arith, h)); within = λ h. absurd (omega (arith, h)); noted = λ h. absurd (omega (arith, h)) });
}
