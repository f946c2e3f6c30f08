-- A list is walked once, message by message: each goes to another list or stays. Or a list is turned round.
use Rattle.std.specs.Prelude.{ℕ, Bool, List, Option, Some, None, false, ◌++◌, take, drop}
use Rattle.std.specs.Prelude.{slice_get, slice_set}
use Rattle.std.specs.Prelude.{if◌then◌else◌}
use Rattle.cell_pool.specs.Moves.{list_at, first_behind}

-- whether there is an element that a test picks
abbrev pub is_picked : {A : Type 0} → (A → Bool) → Option A → Bool
is_picked picks (Some x) = picks x
is_picked picks None = false

-- the first goes to the end of another list if it is picked, else to the end of its own
abbrev pub turned : {A : Type 0} → (A → Bool) → List (List A) → (from to : ℕ) → List (List A)
turned picks lists from to =
    first_behind lists from (if is_picked picks (slice_get (list_at lists from) 0) then to else from)

-- what comes after this many first elements of a list is put before these
abbrev pub cut_at : {A : Type 0} → ℕ → List (List A) → (list : ℕ) → List (List A)
cut_at count lists list = slice_set lists list (drop count (list_at lists list) ++ take count (list_at lists list))
