-- Counts of user and management messages, and lists that lose their first messages one at a time.
use Rattle.cell_pool.proofs.Basics.{◌≡◌, ℕ, ◌+◌, ◌<◌, ◌≤◌, Bool, true, false, not, cond, List, [], ◌∷◌, length, drop, refl, ap, ◌∙◌, arith, Some, None, slice_get, sum_by, nat_le, if◌then◌else◌, set, leb-false, set-set, get_or-set_same, drop-drop, sum_by-cons, get_or-le-sum_by, Message, is_management, users_in, managements_in, users, managements, lane_at, dropped, push_refusal}
use Rattle.signalling_types.specs.declared.cause.Cause.{Cause}
use Rattle.signalling_types.specs.declared.cause.Cause.TheVariants.{PoolFull, ManagementFull}

-- what one message adds to either count
abbrev pub as_management : Message → ℕ
as_management m = cond (is_management m) 1 0

abbrev pub as_user : Message → ℕ
as_user m = cond (not (is_management m)) 1 0

one_kind : (b : Bool) → cond (not b) 1 0 + cond b 1 0 ≡ 1
one_kind true = refl
one_kind false = refl

pub both_kinds_in : (ms : List Message) → users_in ms + managements_in ms ≡ length ms
both_kinds_in [] = refl
both_kinds_in (m ∷ ms) = omega (arith, one_kind (is_management m), sum_by-cons as_user m ms, sum_by-cons as_management m ms, both_kinds_in ms)

-- user and management messages together are all messages
pub both_kinds : (lists : List (List Message)) → users lists + managements lists ≡ sum_by (length {A = Message}) lists
both_kinds [] = refl
both_kinds (ms ∷ lists) = omega (arith, both_kinds_in ms, sum_by-cons users_in ms lists, sum_by-cons managements_in ms lists, sum_by-cons (length {A = Message}) ms lists, both_kinds lists)

first_counts : (count : Message → ℕ) (ms : List Message) (m : Message) → Some m ≡ slice_get ms 0 → count m ≤ sum_by count ms
first_counts count [] m e = cc
first_counts count (x ∷ ms) m e =
    let same : m ≡ x = cc in
    omega (arith, ap count same, sum_by-cons count x ms)

-- the first message of a list is counted
pub first_management : (lists : List (List Message)) (lane : ℕ) (m : Message) → lane < length lists → Some m ≡ slice_get (lane_at lists lane) 0 → is_management m ≡ true → 1 ≤ managements lists
first_management lists lane m h e b = omega (arith, ap (λ (t : Bool). cond {A = ℕ} t 1 0) b, first_counts as_management (lane_at lists lane) m e, get_or-le-sum_by managements_in lists lane [] h)

pub first_user : (lists : List (List Message)) (lane : ℕ) (m : Message) → lane < length lists → Some m ≡ slice_get (lane_at lists lane) 0 → is_management m ≡ false → 1 ≤ users lists
first_user lists lane m h e b = omega (arith, ap (λ (t : Bool). cond {A = ℕ} (not t) 1 0) b, first_counts as_user (lane_at lists lane) m e, get_or-le-sum_by users_in lists lane [] h)

-- a list loses its first messages one at a time
pub dropped-next : (lists : List (List Message)) (lane count : ℕ) → lane < length lists → dropped (dropped lists lane count) lane 1 ≡ dropped lists lane (count + 1)
dropped-next lists lane count h =
    let list : List Message = lane_at lists lane in
    set-set lists lane (drop count list) (drop 1 (lane_at (dropped lists lane count) lane))
    ∙ ap (λ (ms : List Message). set lists lane (drop 1 ms)) (get_or-set_same lists lane (drop count list) [] h)
    ∙ ap (set lists lane) (drop-drop 1 count list)

-- if a message isn't refused, there are fewer messages than cells
not_full : (full : Bool) (cause : Cause) → (if full then Some cause else None) ≡ None → full ≡ false
not_full true cause e = cc
not_full false cause e = refl

room_for_kind : (management : Bool) (pool u g : ℕ) → (if management then (if nat_le 256 g then Some ManagementFull else None) else (if nat_le pool u then Some PoolFull else None)) ≡ None → u ≤ pool → g ≤ 256 → u + g < pool + 256
room_for_kind true pool u g e h k = omega (arith, leb-false 256 g (not_full (nat_le 256 g) ManagementFull e))
room_for_kind false pool u g e h k = omega (arith, leb-false pool u (not_full (nat_le pool u) PoolFull e))

pub room_for : (pool : ℕ) (lists : List (List Message)) (m : Message) → push_refusal pool lists m ≡ None → users lists ≤ pool → managements lists ≤ 256 → sum_by (length {A = Message}) lists < pool + 256
room_for pool lists m e h k = omega (arith, both_kinds lists, room_for_kind (is_management m) pool (users lists) (managements lists) e h k)
