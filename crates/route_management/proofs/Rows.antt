-- What is read of rows, if one element of one of them is replaced.
use Rattle.route_management.proofs.Basics.{◌≡◌, ◌≢◌, ◌<◌, ◌+◌, ℕ, zero, suc, List, [], ◌∷◌, ◌++◌, length, map, take, drop, refl, ap, sym, arith, slice_get, slice_index_or, slice_set, option_map, common_steps, get_or-set_other, length-set, map_over_more}

get_back : {A : Type 0} (xs : List A) (i : ℕ) (x : A) → slice_get (slice_set xs i x) i ≡ option_map (λ old. x) (slice_get xs i)
get_back [] i x = refl
get_back (y ∷ ys) zero x = refl
get_back (y ∷ ys) (suc i) x = get_back ys i x

get_other : {A : Type 0} (xs : List A) (i j : ℕ) (x : A) → i ≢ j → slice_get (slice_set xs i x) j ≡ slice_get xs j
get_other [] i j x apart = refl
get_other (y ∷ ys) zero zero x apart = absurd (apart refl)
get_other (y ∷ ys) zero (suc j) x apart = refl
get_other (y ∷ ys) (suc i) zero x apart = refl
get_other (y ∷ ys) (suc i) (suc j) x apart = get_other ys i j x (λ e. apart (ap suc e))

get_alike : {A : Type 0} (xs : List A) (i : ℕ) (x : A) → slice_get (map (λ old. x) xs) i ≡ option_map (λ old. x) (slice_get xs i)
get_alike [] i x = refl
get_alike (y ∷ ys) zero x = refl
get_alike (y ∷ ys) (suc i) x = get_alike ys i x

-- the element itself
pub rows_back : {A : Type 0} (rows : List (List A)) (row i : ℕ) (x : A)
    → slice_get (slice_index_or (slice_set rows row (slice_set (slice_index_or rows row []) i x)) row []) i
    ≡ option_map (λ old. x) (slice_get (slice_index_or rows row []) i)
rows_back [] row i x = refl
rows_back (r ∷ rs) zero i x = get_back r i x
rows_back (r ∷ rs) (suc row) i x = rows_back rs row i x

-- another place in any row
pub rows_other : {A : Type 0} (rows : List (List A)) (row other i j : ℕ) (x : A) → i ≢ j
    → slice_get (slice_index_or (slice_set rows row (slice_set (slice_index_or rows row []) i x)) other []) j
    ≡ slice_get (slice_index_or rows other []) j
rows_other [] row other i j x apart = refl
rows_other (r ∷ rs) zero zero i j x apart = get_other r i j x apart
rows_other (r ∷ rs) zero (suc other) i j x apart = refl
rows_other (r ∷ rs) (suc row) zero i j x apart = refl
rows_other (r ∷ rs) (suc row) (suc other) i j x apart = rows_other rs row other i j x apart

-- any place in another row
pub rows_apart : {A : Type 0} (rows : List (List A)) (row other j : ℕ) (changed : List A) → row ≢ other
    → slice_get (slice_index_or (slice_set rows row changed) other []) j ≡ slice_get (slice_index_or rows other []) j
rows_apart rows row other j changed apart =
    ap (λ r. slice_get r j) (get_or-set_other rows row other changed [] (λ e. apart (sym e)))

-- each place of a row of which all elements are replaced
pub rows_alike : {A : Type 0} (rows : List (List A)) (row i : ℕ) (x : A)
    → slice_get (slice_index_or (slice_set rows row (map (λ old. x) (slice_index_or rows row []))) row []) i
    ≡ option_map (λ old. x) (slice_get (slice_index_or rows row []) i)
rows_alike [] row i x = refl
rows_alike (r ∷ rs) zero i x = get_alike r i x
rows_alike (r ∷ rs) (suc row) i x = rows_alike rs row i x

-- a loop that writes y over each element
pub alike_over_more : {A : Type 0} (y : A) (xs ys : List A) (i : ℕ) → i < length xs → ys ≡ map (λ old. y) (take i xs) ++ drop i xs
    → slice_set ys i y ≡ map (λ old. y) (take (i + 1) xs) ++ drop (i + 1) xs
alike_over_more y xs ys i l e =
    map_over_more (λ old. y) xs ys i (slice_index_or ys i y) l e (grind (arith, common_steps, l, e))

-- rows stay as long as they are
pub rows_as_long : {A : Type 0} (rows : List (List A)) (row other i : ℕ) (x : A)
    → length (slice_index_or (slice_set rows row (slice_set (slice_index_or rows row []) i x)) other []) ≡ length (slice_index_or rows other [])
rows_as_long [] row other i x = refl
rows_as_long (r ∷ rs) zero zero i x = length-set r i x
rows_as_long (r ∷ rs) zero (suc other) i x = refl
rows_as_long (r ∷ rs) (suc row) zero i x = refl
rows_as_long (r ∷ rs) (suc row) (suc other) i x = rows_as_long rs row other i x
