-- The count that a number names: the search over counts in a row finds it by its distance.
use Rattle.link.proofs.Basics.{◌≡◌, ℕ, zero, suc, ◌+◌, ◌-◌, ◌%◌, ◌^◌, ◌<◌, ◌≤◌, arith, Some, None, nat_eq, nat_lt, nat_le, if◌then◌else◌, find, List, [], ◌∷◌, drop, slice_get, option_map, common_steps, nat_tests, steps_between, next_number, counts_from}

pub found : (base first many target : ℕ) → many ≤ 2 ^ 24 → target < 2 ^ 24 →
    find (λ n. nat_eq ((base + n) % 2 ^ 24) target) (counts_from first many)
    ≡ (if nat_lt (steps_between ((base + first) % 2 ^ 24) target) many then Some (first + steps_between ((base + first) % 2 ^ 24) target) else None)
found base first zero target h t = grind (arith, common_steps, nat_tests)
found base first (suc many) target h t = grind (arith, common_steps, nat_tests, found base (first + 1) many target (omega arith) t)

-- its distance from the first of them
pub ahead : (d first many : ℕ) →
    option_map (λ n. n - first) (if nat_lt d (many + 1) then Some (first + d) else None) ≡ (if nat_le d many then Some d else None)
ahead d first many = grind (arith, common_steps, nat_tests)

pub found_ahead : (base first many bsn : ℕ) → many < 2 ^ 24 →
    option_map (λ n. n - first) (find (λ n. nat_eq ((base + n) % 2 ^ 24) (next_number bsn)) (counts_from first (many + 1)))
    ≡ (if nat_le (steps_between ((base + first) % 2 ^ 24) (next_number bsn)) many then Some (steps_between ((base + first) % 2 ^ 24) (next_number bsn)) else None)
found_ahead base first many bsn h =
    rw (found base first (many + 1) (next_number bsn) (omega arith) (omega arith)) (ahead (steps_between ((base + first) % 2 ^ 24) (next_number bsn)) first many)

-- an element after others
pub slice_get-drop : {X : Type 0} (xs : List X) (n i : ℕ) → slice_get (drop n xs) i ≡ slice_get xs (n + i)
slice_get-drop [] n i = grind (arith, common_steps)
slice_get-drop (x ∷ xs) zero i = grind (arith, common_steps)
slice_get-drop (x ∷ xs) (suc n) i = grind (arith, common_steps, slice_get-drop xs n i)
