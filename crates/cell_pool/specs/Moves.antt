-- Moves of elements from one of several lists to another.
use Rattle.std.specs.Prelude.{ℕ, Bool, List, [], ◌++◌, take, drop, filter, not, slice_index_or, slice_set}

-- one of the lists
abbrev pub list_at : {A : Type 0} → List (List A) → ℕ → List A
list_at lists i = slice_index_or lists i []

-- one list keeps what is left of it, and what is gone from it is at the end of another
abbrev pub put_behind : {A : Type 0} → List (List A) → (from : ℕ) (left gone : List A) (to : ℕ) → List (List A)
put_behind lists from left gone to =
    slice_set (slice_set lists from left) to (list_at (slice_set lists from left) to ++ gone)

-- the same, but it is before all of the other
abbrev pub put_before : {A : Type 0} → List (List A) → (from : ℕ) (left gone : List A) (to : ℕ) → List (List A)
put_before lists from left gone to =
    slice_set (slice_set lists from left) to (gone ++ list_at (slice_set lists from left) to)

-- the first element of a list goes to the end of a list, which may be its own
abbrev pub first_behind : {A : Type 0} → List (List A) → (from to : ℕ) → List (List A)
first_behind lists from to = put_behind lists from (drop 1 (list_at lists from)) (take 1 (list_at lists from)) to

-- all of a list, in order, goes to the end of another
abbrev pub all_behind : {A : Type 0} → List (List A) → (from to : ℕ) → List (List A)
all_behind lists from to = put_behind lists from [] (list_at lists from) to

-- all of a list, in order, goes before all of another
abbrev pub all_before : {A : Type 0} → List (List A) → (from to : ℕ) → List (List A)
all_before lists from to = put_before lists from [] (list_at lists from) to

-- the elements that a test picks go in order to the end of another list; the others stay in order
abbrev pub picked_behind : {A : Type 0} → (A → Bool) → List (List A) → (from to : ℕ) → List (List A)
picked_behind picks lists from to =
    put_behind lists from (filter (λ x. not (picks x)) (list_at lists from)) (filter picks (list_at lists from)) to

-- the same, but they go before all of the other list
abbrev pub picked_before : {A : Type 0} → (A → Bool) → List (List A) → (from to : ℕ) → List (List A)
picked_before picks lists from to =
    put_before lists from (filter (λ x. not (picks x)) (list_at lists from)) (filter picks (list_at lists from)) to
