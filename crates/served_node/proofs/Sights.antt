-- What stays in a watch, whatever it sees.
use Rattle.std.proofs.Common.{◌≡◌, ◌∙◌, List, [], ◌∷◌, ap}
use Rattle.served_link.specs.Watching.{Sight, SeesEach}

-- what each sight leaves as it was is as it was after all of them
pub kept :
    {W X : Type 0} (part : W → X) (sees : W → Sight → W → Type 0) →
    ((old new : W) (sight : Sight) → sees old sight new → part new ≡ part old) →
    (sights : List Sight) (old new : W) → SeesEach sees sights old new → part new ≡ part old
kept part sees one [] old new seen = ap part seen
kept part sees one (sight ∷ sights) old new (next, first, rest) =
    kept part sees one sights next new rest ∙ one old next sight first
