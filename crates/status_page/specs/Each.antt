-- Lists in a row.
use Rattle.std.specs.Prelude.{ℕ, zero, suc, List, [], ◌++◌}

-- those of the first numbers, from 0 on
abbrev pub each : {A : Type 0} → (ℕ → List A) → ℕ → List A
each f zero = []
each f (suc k) = each f k ++ f k
