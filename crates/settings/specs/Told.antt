-- Faults as they are told, one after another.
use Rattle.std.specs.Prelude.{List, [], ◌∷◌, ◌++◌, Option, Some, None}
use Rattle.settings.specs.declared.fault.DraftFault.{DraftFault}

-- what a check found, behind the faults that were told before
abbrev pub tell : List DraftFault → Option DraftFault → List DraftFault
tell faults None = faults
tell faults (Some fault) = faults ++ fault ∷ []

-- what checks found, one after another
abbrev pub tell_all : List DraftFault → List (Option DraftFault) → List DraftFault
tell_all faults [] = faults
tell_all faults (check ∷ rest) = tell_all (tell faults check) rest
