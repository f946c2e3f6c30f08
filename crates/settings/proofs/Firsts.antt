-- The first fault of several.
use Rattle.settings.proofs.Basics.{◌≡◌, List, ◌∷◌, Option, Some, None, refl, first_of, DraftFault}

-- where all is well at the first, the fault is that of the rest
pub past : (a : Option DraftFault) (rest : List (Option DraftFault)) (r : Option DraftFault) → a ≡ None → first_of rest ≡ r → first_of (a ∷ rest) ≡ r
past a rest r e h = rw e h

pub there : (a : Option DraftFault) (rest : List (Option DraftFault)) (f : DraftFault) → a ≡ Some f → first_of (a ∷ rest) ≡ Some f
there a rest f e = rw e refl
