-- Walks through linked cells: what a write to the links leaves as it was, and how two lists are joined.
use Rattle.cell_pool.proofs.Basics.{◌≡◌, ◌≢◌, ℕ, zero, suc, ◌+◌, ◌-◌, ◌<◌, ◌≤◌, List, [], ◌∷◌, ◌++◌, length, get_or, take, drop, refl, ap, sym, ◌∙◌, arith, set, get_or-set_same, get_or-set_other, uses, walk}
use Rattle.cell_pool.proofs.Sharing.{use_of, uses-cons, uses-get_or}
use Rattle.cell_pool.proofs.Reading.{unused-apart}

-- a list with one more element, read elsewhere
pub get_or-push_other : {A : Type 0} (xs : List A) (v : A) (i : ℕ) (d : A) → i ≢ length xs → get_or (xs ++ v ∷ []) i d ≡ get_or xs i d
get_or-push_other [] v zero d h = absurd (h refl)
get_or-push_other (x ∷ xs) v (suc i) d h = get_or-push_other xs v i d (λ e. h (ap (λ (k : ℕ). suc k) e))
get_or-push_other y v z d h = refl

-- what is read at a place of a list, whatever is read past its end
pub read-is : {A : Type 0} (xs : List A) (i : ℕ) (x d : A) → i < length xs → x ≡ get_or xs i x → x ≡ get_or xs i d
read-is [] i x d h e = absurd (omega (arith, h))
read-is (y ∷ xs) zero x d h e = e
read-is (y ∷ xs) (suc i) x d h e = read-is xs i x d (omega (arith, h)) e

pub length-walk : (next : List ℕ) (n f : ℕ) → length (walk next n f) ≡ n
length-walk next zero f = refl
length-walk next (suc n) f = omega (arith, length-walk next n (get_or next f 0))

-- a write of what one cell names leaves each walk that doesn't have that cell
pub walk-set : (next : List ℕ) (c v n f : ℕ) → uses c (walk next n f) ≡ 0 → walk (set next c v) n f ≡ walk next n f
walk-set next c v zero f h = refl
walk-set next c v (suc n) f h =
    let rest : List ℕ = walk next n (get_or next f 0) in
    let apart : f ≢ c = unused-apart c f (omega (arith, h, uses-cons c f rest)) in
    let same : get_or (set next c v) f 0 ≡ get_or next f 0 = get_or-set_other next c f v 0 apart in
    ap (λ (g : ℕ). f ∷ walk (set next c v) n g) same
    ∙ ap (λ (xs : List ℕ). f ∷ xs) (walk-set next c v n (get_or next f 0) (omega (arith, h, uses-cons c f rest)))

-- so does a cell more
pub walk-push : (next : List ℕ) (v n f : ℕ) → uses (length next) (walk next n f) ≡ 0 → walk (next ++ v ∷ []) n f ≡ walk next n f
walk-push next v zero f h = refl
walk-push next v (suc n) f h =
    let rest : List ℕ = walk next n (get_or next f 0) in
    let apart : f ≢ length next = unused-apart (length next) f (omega (arith, h, uses-cons (length next) f rest)) in
    let same : get_or (next ++ v ∷ []) f 0 ≡ get_or next f 0 = get_or-push_other next v f 0 apart in
    ap (λ (g : ℕ). f ∷ walk (next ++ v ∷ []) n g) same
    ∙ ap (λ (xs : List ℕ). f ∷ xs) (walk-push next v n (get_or next f 0) (omega (arith, h, uses-cons (length next) f rest)))

-- a walk of which the last cell is made to name the first one of another goes on there
walk-joined_suc : (next : List ℕ) (n f c g m : ℕ) → c < length next → uses c (walk next (suc n) f) ≡ 1 → get_or (walk next (suc n) f) n 0 ≡ c → uses c (walk next m g) ≡ 0 → walk (set next c g) (suc (n + m)) f ≡ walk next (suc n) f ++ walk next m g
walk-joined_suc next zero f c g m h once last none =
    let on : zero + m ≡ m = omega arith in
    let there : get_or (set next c g) f 0 ≡ g = ap (λ (k : ℕ). get_or (set next c g) k 0) last ∙ get_or-set_same next c g 0 h in
    ap (λ (k : ℕ). f ∷ walk (set next c g) k (get_or (set next c g) f 0)) on
    ∙ ap (λ (k : ℕ). f ∷ walk (set next c g) m k) there
    ∙ ap (λ (xs : List ℕ). f ∷ xs) (walk-set next c g m g none)
walk-joined_suc next (suc n) f c g m h once last none =
    let second : ℕ = get_or next f 0 in
    let rest : List ℕ = walk next (suc n) second in
    let inside : n < length rest = omega (arith, length-walk next (suc n) second) in
    let there : 1 ≤ uses c rest = omega (arith, uses-get_or rest n inside, ap (λ (k : ℕ). uses k rest) last) in
    let split : uses c (f ∷ rest) ≡ use_of c f + uses c rest = uses-cons c f rest in
    let apart : f ≢ c = unused-apart c f (omega (arith, once, there, split)) in
    let same : get_or (set next c g) f 0 ≡ second = get_or-set_other next c f g 0 apart in
    let on : suc n + m ≡ suc (n + m) = omega arith in
    ap (λ (k : ℕ). f ∷ walk (set next c g) k (get_or (set next c g) f 0)) on
    ∙ ap (λ (k : ℕ). f ∷ walk (set next c g) (suc (n + m)) k) same
    ∙ ap (λ (xs : List ℕ). f ∷ xs) (walk-joined_suc next n second c g m h (omega (arith, once, there, split)) last none)

pub walk-joined : (next : List ℕ) (n f c g m : ℕ) → 1 ≤ n → c < length next → uses c (walk next n f) ≡ 1 → get_or (walk next n f) (n - 1) 0 ≡ c → uses c (walk next m g) ≡ 0 → walk (set next c g) (n + m) f ≡ walk next n f ++ walk next m g
walk-joined next zero f c g m some h once last none = absurd (omega (arith, some))
walk-joined next (suc n) f c g m some h once last none =
    let on : suc n + m ≡ suc (n + m) = omega arith in
    let back : n ≡ suc n - 1 = omega arith in
    ap (λ (k : ℕ). walk (set next c g) k f) on
    ∙ walk-joined_suc next n f c g m h once (ap (λ (k : ℕ). get_or (walk next (suc n) f) k 0) back ∙ last) none

-- where a walk is cut in two
pub walk-drop : (next : List ℕ) (k m f : ℕ) → drop (suc k) (walk next (suc (k + m)) f) ≡ walk next m (get_or next (get_or (walk next (suc (k + m)) f) k 0) 0)
walk-drop next zero m f = ap (λ (i : ℕ). walk next i (get_or next f 0)) (omega arith)
walk-drop next (suc k) m f =
    let on : suc k + m ≡ suc (k + m) = omega arith in
    ap (λ (i : ℕ). drop (suc k) (walk next i (get_or next f 0))) on
    ∙ walk-drop next k m (get_or next f 0)
    ∙ ap (λ (i : ℕ). walk next m (get_or next (get_or (f ∷ walk next i (get_or next f 0)) (suc k) 0) 0)) (sym on)

pub walk-take : (next : List ℕ) (k m f : ℕ) → take k (walk next (k + m) f) ≡ walk next k f
walk-take next zero m f = refl
walk-take next (suc k) m f =
    let on : suc k + m ≡ suc (k + m) = omega arith in
    ap (λ (i : ℕ). take (suc k) (walk next i f)) on ∙ ap (λ (xs : List ℕ). f ∷ xs) (walk-take next k m (get_or next f 0))

-- the next one of a walk is the one that a cell names
pub walk-next : (next : List ℕ) (n i f : ℕ) → suc i < n → get_or (walk next n f) (suc i) 0 ≡ get_or next (get_or (walk next n f) i 0) 0
walk-next next (suc (suc n)) zero f h = refl
walk-next next (suc (suc n)) (suc i) f h = walk-next next (suc n) i (get_or next f 0) (omega (arith, h))
walk-next next x i f h = absurd (omega (arith, h))

-- the first cell of a walk, and the rest
pub walk-first : (next : List ℕ) (n f : ℕ) → 1 ≤ n → walk next n f ≡ f ∷ walk next (n - 1) (get_or next f 0)
walk-first next zero f h = absurd (omega (arith, h))
walk-first next (suc n) f h =
    let back : n ≡ suc n - 1 = omega arith in
    ap (λ (k : ℕ). f ∷ walk next k (get_or next f 0)) back
