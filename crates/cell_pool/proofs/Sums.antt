-- What a move leaves as it is: every sum over all elements of all lists.
use Rattle.cell_pool.proofs.Basics.{◌≡◌, ℕ, ◌+◌, ◌<◌, Bool, not, List, [], ◌++◌, length, take, drop, refl, arith, sum_by, filter, set, length-set, length-append, sum_by-set, sum_by-append, sum_by-take-drop, Message, HasAsMany, list_at, put_behind, put_before, first_behind, all_behind, all_before, picked_behind, picked_before}
use Rattle.std.proofs.lemmas.List.Filters.{sum_by-filter_both}
use Rattle.cell_pool.proofs.Counting.{as_user, as_management}

module _ {A : Type 0} where
  -- ---- of what is written, where what is left and what is gone make up the list

  pub sum-behind : (g : A → ℕ) (lists : List (List A)) (from to : ℕ) (left gone : List A) → from < length lists → to < length lists →
      sum_by g left + sum_by g gone ≡ sum_by g (list_at lists from) → sum_by (sum_by g) (put_behind lists from left gone to) ≡ sum_by (sum_by g) lists
  sum-behind g lists from to left gone h k e =
      let rest : List (List A) = set lists from left in
      let inside : to < length rest = omega (arith, k, length-set lists from left) in
      omega (arith, e, sum_by-set (sum_by g) lists from left [] h, sum_by-set (sum_by g) rest to (list_at rest to ++ gone) [] inside, sum_by-append g (list_at rest to) gone)

  pub sum-before : (g : A → ℕ) (lists : List (List A)) (from to : ℕ) (left gone : List A) → from < length lists → to < length lists →
      sum_by g left + sum_by g gone ≡ sum_by g (list_at lists from) → sum_by (sum_by g) (put_before lists from left gone to) ≡ sum_by (sum_by g) lists
  sum-before g lists from to left gone h k e =
      let rest : List (List A) = set lists from left in
      let inside : to < length rest = omega (arith, k, length-set lists from left) in
      omega (arith, e, sum_by-set (sum_by g) lists from left [] h, sum_by-set (sum_by g) rest to (gone ++ list_at rest to) [] inside, sum_by-append g gone (list_at rest to))

  pub length-behind : (lists : List (List A)) (from to : ℕ) (left gone : List A) → from < length lists → to < length lists →
      length left + length gone ≡ length (list_at lists from) → sum_by (length {A = A}) (put_behind lists from left gone to) ≡ sum_by (length {A = A}) lists
  length-behind lists from to left gone h k e =
      let rest : List (List A) = set lists from left in
      let inside : to < length rest = omega (arith, k, length-set lists from left) in
      omega (arith, e, sum_by-set (length {A = A}) lists from left [] h, sum_by-set (length {A = A}) rest to (list_at rest to ++ gone) [] inside, length-append (list_at rest to) gone)

  -- ---- of one element

  sum-parts : (g : A → ℕ) (xs : List A) (i : ℕ) → sum_by g (drop i xs) + sum_by g (take i xs) ≡ sum_by g xs
  sum-parts g xs i = omega (arith, sum_by-take-drop g xs i)

  pub sum-first : (g : A → ℕ) (lists : List (List A)) (from to : ℕ) → from < length lists → to < length lists →
      sum_by (sum_by g) (first_behind lists from to) ≡ sum_by (sum_by g) lists
  sum-first g lists from to h k = sum-behind g lists from to _ _ h k (sum-parts g (list_at lists from) 1)

  -- ---- of all, and of those that are picked

  pub sum-all_behind : (g : A → ℕ) (lists : List (List A)) (from to : ℕ) → from < length lists → to < length lists →
      sum_by (sum_by g) (all_behind lists from to) ≡ sum_by (sum_by g) lists
  sum-all_behind g lists from to h k = sum-behind g lists from to [] (list_at lists from) h k (omega arith)

  pub sum-all_before : (g : A → ℕ) (lists : List (List A)) (from to : ℕ) → from < length lists → to < length lists →
      sum_by (sum_by g) (all_before lists from to) ≡ sum_by (sum_by g) lists
  sum-all_before g lists from to h k = sum-before g lists from to [] (list_at lists from) h k (omega arith)

  sum-filter : (picks : A → Bool) (g : A → ℕ) (xs : List A) → sum_by g (filter (λ x. not (picks x)) xs) + sum_by g (filter picks xs) ≡ sum_by g xs
  sum-filter picks g xs = omega (arith, sum_by-filter_both picks (λ x. not (picks x)) (λ x. refl) g xs)

  pub sum-picked_behind : (picks : A → Bool) (g : A → ℕ) (lists : List (List A)) (from to : ℕ) → from < length lists → to < length lists →
      sum_by (sum_by g) (picked_behind picks lists from to) ≡ sum_by (sum_by g) lists
  sum-picked_behind picks g lists from to h k = sum-behind g lists from to _ _ h k (sum-filter picks g (list_at lists from))

  pub sum-picked_before : (picks : A → Bool) (g : A → ℕ) (lists : List (List A)) (from to : ℕ) → from < length lists → to < length lists →
      sum_by (sum_by g) (picked_before picks lists from to) ≡ sum_by (sum_by g) lists
  sum-picked_before picks g lists from to h k = sum-before g lists from to _ _ h k (sum-filter picks g (list_at lists from))

-- ---- of messages

pub many-first : (lists : List (List Message)) (from to : ℕ) → from < length lists → to < length lists → HasAsMany lists (first_behind lists from to)
many-first lists from to h k = record { users = sum-first as_user lists from to h k; managements = sum-first as_management lists from to h k }

pub many-all_behind : (lists : List (List Message)) (from to : ℕ) → from < length lists → to < length lists → HasAsMany lists (all_behind lists from to)
many-all_behind lists from to h k = record { users = sum-all_behind as_user lists from to h k; managements = sum-all_behind as_management lists from to h k }

pub many-all_before : (lists : List (List Message)) (from to : ℕ) → from < length lists → to < length lists → HasAsMany lists (all_before lists from to)
many-all_before lists from to h k = record { users = sum-all_before as_user lists from to h k; managements = sum-all_before as_management lists from to h k }

pub many-picked_behind : (picks : Message → Bool) (lists : List (List Message)) (from to : ℕ) → from < length lists → to < length lists →
    HasAsMany lists (picked_behind picks lists from to)
many-picked_behind picks lists from to h k = record {
  users = sum-picked_behind picks as_user lists from to h k;
  managements = sum-picked_behind picks as_management lists from to h k;
}

pub many-picked_before : (picks : Message → Bool) (lists : List (List Message)) (from to : ℕ) → from < length lists → to < length lists →
    HasAsMany lists (picked_before picks lists from to)
many-picked_before picks lists from to h k = record {
  users = sum-picked_before picks as_user lists from to h k;
  managements = sum-picked_before picks as_management lists from to h k;
}
