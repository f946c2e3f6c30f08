-- Faults as they are noted, one after another.
use Rattle.std.specs.Prelude.{List, [], ◌∷◌, ◌++◌, Option, Some, None}

-- a fault that was found, behind those before it
abbrev pub noted : {F : Type 0} → List F → Option F → List F
noted faults None = faults
noted faults (Some fault) = faults ++ fault ∷ []

abbrev pub all_noted : {F : Type 0} → List F → List (Option F) → List F
all_noted faults [] = faults
all_noted faults (check ∷ rest) = all_noted (noted faults check) rest
