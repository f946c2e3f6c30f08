-- Gap blocks, found one after another.
use Rattle.std.proofs.Common.{◌≡◌, ℕ, zero, suc, ◌+◌, ◌-◌, ◌≤◌, ◌<◌, Bool, true, false, List, [], ◌∷◌, ◌++◌, length, take}
use Rattle.std.proofs.Common.{refl, ap, sym, ◌∙◌, arith, append_assoc, length-append, min, Option, Some, None, ◌%◌, ◌^◌}
use Rattle.std.specs.Prelude.{◌&&◌, not, if◌then◌else◌, slice_index_or, is_some, sum_by}
use Rattle.std.proofs.lemmas.List.{take_all, take-append-le, append-nil, length-take}
use Rattle.std.proofs.lemmas.List.Sums.{sum_by-cons}
use Rattle.sctp_receiving.specs.declared.block.Block.{Block}
use Rattle.sctp_receiving.specs.Pieces.{Piece}
use Rattle.sctp_receiving.specs.Receiver.{Receiver}
use Rattle.sctp_receiving.specs.Sack.{is_held_ahead, run_from, block_from, blocks_from, blocks}
use Rattle.sctp_receiving.specs.Room.{held_count}

abbrev block : (start end : ℕ) → Block
block start end = record { start = start; end = end }

-- ---- the end of a block

run_on : (r : Receiver) (distance many : ℕ) → is_held_ahead r distance ≡ true →
    run_from r distance (suc many) ≡ 1 + run_from r (distance + 1) many
unfolding run_from
run_on r distance many h = rw h refl

run_ends : (r : Receiver) (distance many : ℕ) → is_held_ahead r distance ≡ false → run_from r distance (suc many) ≡ 0
unfolding run_from
run_ends r distance many h = rw h refl

no_run : (r : Receiver) (distance : ℕ) → run_from r distance 0 ≡ 0
unfolding run_from
no_run r distance = refl

-- one more is held
pub run_goes_on : (r : Receiver) (end : ℕ) → end < 256 → is_held_ahead r (end + 1) ≡ true →
    end + 1 + run_from r (end + 1 + 1) (256 - (end + 1)) ≡ end + run_from r (end + 1) (256 - end)
run_goes_on r end below h =
    let left : 256 - end ≡ suc (256 - (end + 1)) = omega arith in
    rw (left, run_on r (end + 1) (256 - (end + 1)) h) (omega arith)

-- the next one isn't
pub run_stops : (r : Receiver) (end : ℕ) → end < 256 → is_held_ahead r (end + 1) ≡ false →
    end + run_from r (end + 1) (256 - end) ≡ end
run_stops r end below h =
    let left : 256 - end ≡ suc (256 - (end + 1)) = omega arith in
    rw (left, run_ends r (end + 1) (256 - (end + 1)) h) (omega arith)

-- there is no next one
pub run_is_full : (r : Receiver) (end : ℕ) → end ≤ 256 → 256 ≤ end → end + run_from r (end + 1) (256 - end) ≡ end
run_is_full r end l m =
    let left : 256 - end ≡ 0 = omega arith in
    rw (left, no_run r (end + 1)) (omega arith)

-- so the block is found
pub block_is : (r : Receiver) (start end : ℕ) →
    end + run_from r (end + 1) (256 - end) ≡ start + run_from r (start + 1) (256 - start) →
    end + run_from r (end + 1) (256 - end) ≡ end → record { start = start; end = end } ≡ block_from r start (256 - start)
block_is r start end e f = ap (λ (n : ℕ). block start n) (sym f ∙ e)

-- ---- the blocks

blocks_on : (r : Receiver) (before : Bool) (distance many : ℕ) →
    blocks_from r before distance (suc many)
    ≡ (if is_held_ahead r distance && not before then block_from r distance many ∷ [] else [])
    ++ blocks_from r (is_held_ahead r distance) (distance + 1) many
unfolding blocks_from
blocks_on r before distance many = refl

no_blocks : (r : Receiver) (before : Bool) (distance : ℕ) → blocks_from r before distance 0 ≡ []
unfolding blocks_from
no_blocks r before distance = refl

take_again : {A : Type 0} → (n : ℕ) (xs ys : List A) → take n (take n xs ++ ys) ≡ take n (xs ++ ys)
take_again zero xs ys = refl
take_again (suc n) [] ys = refl
take_again {A} (suc n) (x ∷ xs) ys = ap (λ (more : List A). x ∷ more) (take_again n xs ys)

-- a block more, where there is a place
pub not_added : (b : Bool) (old more : List Block) → b ≡ false → length old ≤ 100 →
    old ≡ take 100 (old ++ (if b then more else []))
not_added true old more e l = absurd (cc)
not_added false old more e l = sym (ap (λ (bs : List Block). take 100 bs) (append-nil old) ∙ take_all 100 old l)

pub no_place : (old more : List Block) → length old ≤ 100 → 100 ≤ length old → old ≡ take 100 (old ++ more)
no_place old more l m = sym (take-append-le 100 old more m ∙ take_all 100 old l)

pub added : (b : Bool) (old : List Block) (one : Block) → b ≡ true → length old < 100 →
    old ++ one ∷ [] ≡ take 100 (old ++ (if b then one ∷ [] else []))
added true old one e l =
    let few : length (old ++ one ∷ []) ≤ 100 = omega (arith, l, length-append old (one ∷ [])) in
    sym (take_all 100 (old ++ one ∷ []) few)
added false old one e l = absurd (cc)

pub few_taken : (new all : List Block) → new ≡ take 100 all → length new ≤ 100
few_taken new all e =
    let long : length new ≡ min 100 (length all) = ap (λ (bs : List Block). length bs) e ∙ length-take 100 all in
    omega (arith, long)

-- a step of the walk
pub one_more : (r : Receiver) (before : Bool) (ahead : ℕ) (old new : List Block) → ahead ≤ 256 →
    new ≡ take 100 (old ++ (if is_held_ahead r ahead && not before then block_from r ahead (256 - ahead) ∷ [] else [])) →
    take 100 (new ++ blocks_from r (is_held_ahead r ahead) (ahead + 1) (257 - (ahead + 1)))
    ≡ take 100 (old ++ blocks_from r before ahead (257 - ahead))
one_more r before ahead old new l e =
    let left : 257 - ahead ≡ suc (256 - ahead) = omega arith in
    let rest : 257 - (ahead + 1) ≡ 256 - ahead = omega arith in
    let found : List Block = if is_held_ahead r ahead && not before then block_from r ahead (256 - ahead) ∷ [] else [] in
    let more : List Block = blocks_from r (is_held_ahead r ahead) (ahead + 1) (256 - ahead) in
    let here : blocks_from r before ahead (257 - ahead) ≡ found ++ more =
    ap (λ (n : ℕ). blocks_from r before ahead n) left ∙ blocks_on r before ahead (256 - ahead) in
    let there : blocks_from r (is_held_ahead r ahead) (ahead + 1) (257 - (ahead + 1)) ≡ more =
    ap (λ (n : ℕ). blocks_from r (is_held_ahead r ahead) (ahead + 1) n) rest in
    ap (λ (bs : List Block). take 100 (new ++ bs)) there
    ∙ ap (λ (bs : List Block). take 100 (bs ++ more)) e
    ∙ take_again 100 (old ++ found) more
    ∙ ap (λ (bs : List Block). take 100 bs) (append_assoc old found more)
    ∙ ap (λ (bs : List Block). take 100 (old ++ bs)) (sym here)

-- the end of the walk
pub walked : (r : Receiver) (before : Bool) (ahead : ℕ) (found : List Block) → 257 ≤ ahead → length found ≤ 100 →
    take 100 (found ++ blocks_from r before ahead (257 - ahead)) ≡ blocks r → found ≡ blocks r
walked r before ahead found l m e =
    let none : 257 - ahead ≡ 0 = omega arith in
    let over : blocks_from r before ahead (257 - ahead) ≡ [] =
    ap (λ (n : ℕ). blocks_from r before ahead n) none ∙ no_blocks r before ahead in
    sym (take_all 100 found m)
    ∙ sym (ap (λ (bs : List Block). take 100 bs) (append-nil found))
    ∙ sym (ap (λ (bs : List Block). take 100 (found ++ bs)) over)
    ∙ e

-- ---- where no place has a chunk

empty-at : (places : List (Option Piece)) (i : ℕ) → sum_by held_count places ≡ 0 → is_some (slice_index_or places i None) ≡ false
empty-at [] i e = refl
empty-at (None ∷ places) zero e = refl
empty-at (None ∷ places) (suc i) e = empty-at places i (omega (arith, e, sum_by-cons held_count None places))
empty-at (Some p ∷ places) i e = absurd (omega (arith, e, sum_by-cons held_count (Some p) places))

none_held : (r : Receiver) (before : Bool) (distance many : ℕ) →
    ((ahead : ℕ) → is_held_ahead r ahead ≡ false) → blocks_from r before distance many ≡ []
unfolding blocks_from
none_held r before distance zero h = refl
none_held r before distance (suc many) h = rw (h distance) (none_held r false (distance + 1) many h)

pub nothing_held : (r : Receiver) → sum_by held_count r.held ≡ 0 → [] ≡ blocks r
nothing_held r e =
    sym (ap (λ (bs : List Block). take 100 bs) (none_held r false 2 255 (λ ahead. empty-at r.held ((r.cumulative + ahead) % 2 ^ 32 % 256) e)))
