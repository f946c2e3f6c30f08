-- What the lists are once a message is written into a cell that no list has, and once a cell leaves a list or moves.
use Rattle.cell_pool.proofs.Basics.{◌≡◌, ℕ, zero, suc, ◌<◌, ◌≢◌, List, [], ◌∷◌, ◌++◌, length, take, drop, replicate, refl, ap, sym, ◌∙◌, arith, sum_by, set, map-set, map-append, get_or-map, get_or-set_same, get_or-set_other, length-set, take-map, drop-map, sum_by-cons, get_or-le-sum_by, Message, uses, ring_at, lane_at, pushed, dropped, put_behind, first_behind, message_at, messages_at, lists_at}
use Rattle.cell_pool.proofs.Sharing.{use_of, uses-cons, use_of-itself}

-- a number that isn't used is another one
pub unused-apart : (n k : ℕ) → use_of n k ≡ 0 → k ≢ n
unused-apart n k h e = absurd (omega (arith, h, ap (use_of n) e, use_of-itself n))

-- a write into a cell leaves the messages of others
pub written-elsewhere : (cells : List Message) (n : ℕ) (m : Message) (numbers : List ℕ) → uses n numbers ≡ 0 → messages_at (set cells n m) numbers ≡ messages_at cells numbers
written-elsewhere cells n m [] h = refl
written-elsewhere cells n m (k ∷ numbers) h =
    let here : use_of n k ≡ 0 = omega (arith, uses-cons n k numbers) in
    let rest : uses n numbers ≡ 0 = omega (arith, uses-cons n k numbers) in
    let same : message_at (set cells n m) k ≡ message_at cells k = get_or-set_other cells n k m (record { sio = 0; sif = [] }) (unused-apart n k here) in
    ap (λ x. x ∷ messages_at (set cells n m) numbers) same ∙ ap (λ xs. message_at cells k ∷ xs) (written-elsewhere cells n m numbers rest)

pub written-unused : (cells : List Message) (n : ℕ) (m : Message) (rings : List (List ℕ)) → sum_by (uses n) rings ≡ 0 → lists_at (set cells n m) rings ≡ lists_at cells rings
written-unused cells n m [] h = refl
written-unused cells n m (ring ∷ rings) h =
    let here : uses n ring ≡ 0 = omega (arith, sum_by-cons (uses n) ring rings) in
    let rest : sum_by (uses n) rings ≡ 0 = omega (arith, sum_by-cons (uses n) ring rings) in
    ap (λ x. x ∷ lists_at (set cells n m) rings) (written-elsewhere cells n m ring here) ∙ ap (λ xs. messages_at cells ring ∷ xs) (written-unused cells n m rings rest)

-- one of the lists
pub list_at : (cells : List Message) (rings : List (List ℕ)) (i : ℕ) → i < length rings → lane_at (lists_at cells rings) i ≡ messages_at cells (ring_at rings i)
list_at cells rings i h = get_or-map (messages_at cells) rings i [] [] h

-- a message in a cell that no list has, at the end of a list
pub pushed-lists : (cells : List Message) (rings : List (List ℕ)) (i n : ℕ) (m : Message) → i < length rings → n < length cells → sum_by (uses n) rings ≡ 0 → lists_at (set cells n m) (set rings i (ring_at rings i ++ n ∷ [])) ≡ pushed (lists_at cells rings) i m
pushed-lists cells rings i n m h j f =
    let lone : uses n (ring_at rings i) ≡ 0 = omega (arith, get_or-le-sum_by (uses n) rings i [] h) in
    let itself : message_at (set cells n m) n ≡ m = get_or-set_same cells n m (record { sio = 0; sif = [] }) j in
    let list : messages_at (set cells n m) (ring_at rings i ++ n ∷ []) ≡ lane_at (lists_at cells rings) i ++ m ∷ [] = map-append (message_at (set cells n m)) (ring_at rings i) (n ∷ []) ∙ ap (λ xs. xs ++ message_at (set cells n m) n ∷ []) (written-elsewhere cells n m (ring_at rings i) lone ∙ sym (list_at cells rings i h)) ∙ ap (λ x. lane_at (lists_at cells rings) i ++ x ∷ []) itself in
    map-set (messages_at (set cells n m)) rings i (ring_at rings i ++ n ∷ []) ∙ ap (λ lists. set lists i (messages_at (set cells n m) (ring_at rings i ++ n ∷ []))) (written-unused cells n m rings f) ∙ ap (set (lists_at cells rings) i) list

-- a list without its first cells
pub dropped-lists : (cells : List Message) (rings : List (List ℕ)) (i count : ℕ) → i < length rings → lists_at cells (set rings i (drop count (ring_at rings i))) ≡ dropped (lists_at cells rings) i count
dropped-lists cells rings i count h =
    map-set (messages_at cells) rings i (drop count (ring_at rings i))
    ∙ ap (set (lists_at cells rings) i) (sym (drop-map (message_at cells) count (ring_at rings i)) ∙ ap (λ xs. drop count xs) (sym (list_at cells rings i h)))

pub lists_at-empty : (cells : List Message) (count : ℕ) → lists_at cells (replicate count []) ≡ replicate count []
lists_at-empty cells zero = refl
lists_at-empty cells (suc count) = ap (λ lists. [] ∷ lists) (lists_at-empty cells count)

-- ---- moves of cells are moves of their messages

pub moved-behind : (cells : List Message) (rings : List (List ℕ)) (from to : ℕ) (left gone : List ℕ) → to < length rings → lists_at cells (put_behind rings from left gone to) ≡ put_behind (lists_at cells rings) from (messages_at cells left) (messages_at cells gone) to
moved-behind cells rings from to left gone h =
    let kept : List (List ℕ) = set rings from left in
    let inside : to < length kept = omega (arith, h, length-set rings from left) in
    let there : messages_at cells (ring_at kept to ++ gone) ≡ lane_at (lists_at cells kept) to ++ messages_at cells gone = map-append (message_at cells) (ring_at kept to) gone ∙ ap (λ (ms : List Message). ms ++ messages_at cells gone) (sym (list_at cells kept to inside)) in
    map-set (messages_at cells) kept to (ring_at kept to ++ gone)
    ∙ ap (set (lists_at cells kept) to) there
    ∙ ap (λ (lists : List (List Message)). set lists to (lane_at lists to ++ messages_at cells gone)) (map-set (messages_at cells) rings from left)

pub first-lists : (cells : List Message) (rings : List (List ℕ)) (from to : ℕ) → from < length rings → to < length rings → lists_at cells (first_behind rings from to) ≡ first_behind (lists_at cells rings) from to
first-lists cells rings from to h k =
    let lists : List (List Message) = lists_at cells rings in
    let ring : List ℕ = ring_at rings from in
    let there : messages_at cells ring ≡ lane_at lists from = sym (list_at cells rings from h) in
    moved-behind cells rings from to (drop 1 ring) (take 1 ring) k
    ∙ ap (λ (ms : List Message). put_behind lists from ms (messages_at cells (take 1 ring)) to) (sym (drop-map (message_at cells) 1 ring))
    ∙ ap (λ (ms : List Message). put_behind lists from (drop 1 (messages_at cells ring)) ms to) (sym (take-map (message_at cells) 1 ring))
    ∙ ap (λ (ms : List Message). put_behind lists from (drop 1 ms) (take 1 ms) to) there
