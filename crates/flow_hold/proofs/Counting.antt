-- The count of a flow is that of the rows which have it marked.
use Rattle.flow_hold.proofs.Basics.{◌≡◌, ℕ, zero, suc, ◌+◌, ◌-◌, ◌*◌, ◌<◌, ◌≤◌, Bool, true, false, ◌||◌, ◌&&◌, cond, List, [], ◌∷◌, ◌++◌, length, get_or, replicate, refl, ap, ◌∙◌, arith, nat_lt, nat_le, if◌then◌else◌, list_any, ltb-false, nat_tests, length-replicate, Marks, has_mark, first_row, marked_as_held, SELECTIONS, zero-add}
use Rattle.std.proofs.lemmas.List.Sums.{sum_by-cons, sum_by_push}

-- what one row adds to the count of a flow
abbrev pub mark_of : ℕ → Marks → ℕ
mark_of flow row = cond (has_mark flow row) 1 0

any-step : (b : Bool) (n : ℕ) (any : Bool) → nat_lt 0 n ≡ any → nat_lt 0 (cond b 1 0 + n) ≡ (b || any)
any-step true n any e = grind (arith, nat_tests)
any-step false n any e = ap (nat_lt 0) (zero-add n) ∙ e

-- some row has a flow marked where the count is above 0
pub any-counted : (rows : List Marks) (flow : ℕ) → nat_lt 0 (marked_as_held rows flow) ≡ list_any (has_mark flow) rows
any-counted [] flow = refl
any-counted (row ∷ rows) flow =
    ap (nat_lt 0) (sum_by-cons (mark_of flow) row rows) ∙ any-step (has_mark flow row) (marked_as_held rows flow) _ (any-counted rows flow)

-- ---- at first nothing is marked, and there is a count for each flow

pub all_same : {X : Type 0} (n i : ℕ) (x : X) → get_or (replicate n x) i x ≡ x
all_same zero i x = refl
all_same (suc n) zero x = refl
all_same (suc n) (suc i) x = all_same n i x

no-mark-of : (b : Bool) (n i : ℕ) → cond {A = ℕ} (b && get_or (replicate n false) i false) 1 0 ≡ 0
no-mark-of true n i = ap (λ (c : Bool). cond {A = ℕ} c 1 0) (all_same n i false)
no-mark-of false n i = refl

unmarked-case : (b : Bool) (shared destinations place flow : ℕ) →
    mark_of flow (if b then record { first = 0; marks = replicate (SELECTIONS * destinations) false } else record { first = SELECTIONS * (place - shared); marks = replicate SELECTIONS false }) ≡ 0
unmarked-case true shared destinations place flow = no-mark-of (nat_le 0 flow) (SELECTIONS * destinations) (flow - 0)
unmarked-case false shared destinations place flow = no-mark-of (nat_le (SELECTIONS * (place - shared)) flow) SELECTIONS (flow - SELECTIONS * (place - shared))

pub unmarked : (shared destinations place flow : ℕ) → mark_of flow (first_row shared destinations place) ≡ 0
unmarked shared destinations place flow = unmarked-case (nat_lt place shared) shared destinations place flow

pub unmarked-more : (rows : List Marks) (row : Marks) (flow : ℕ) → marked_as_held rows flow ≡ 0 → mark_of flow row ≡ 0 → marked_as_held (rows ++ row ∷ []) flow ≡ 0
unmarked-more rows row flow e f = omega (arith, e, f, sum_by_push (mark_of flow) rows row)

-- the flow after the last of a row
abbrev pub end_of : Marks → ℕ
end_of row = row.first + length row.marks

fits-case : (b : Bool) (shared destinations place : ℕ) → nat_lt place shared ≡ b → place < shared + destinations →
    end_of (if b then record { first = 0; marks = replicate (SELECTIONS * destinations) false } else record { first = SELECTIONS * (place - shared); marks = replicate SELECTIONS false }) ≤ SELECTIONS * destinations
fits-case true shared destinations place e h = omega (arith, length-replicate (SELECTIONS * destinations) false)
fits-case false shared destinations place e h = omega (arith, length-replicate SELECTIONS false, ltb-false place shared e, h)

pub fits-first : (row : Marks) (shared destinations place : ℕ) → row ≡ first_row shared destinations place → place < shared + destinations → end_of row ≤ SELECTIONS * destinations
fits-first row shared destinations place e h = omega (arith, ap end_of e, fits-case (nat_lt place shared) shared destinations place refl h)
