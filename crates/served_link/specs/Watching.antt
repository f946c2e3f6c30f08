-- What the watch of an association sees.
use Rattle.std.specs.Prelude.{◌≡◌, ℕ, List, [], ◌∷◌}
use Rattle.signalling_types.specs.declared.outcome.Outcome.{Outcome}

pub data Sight : Type 0 where
  -- this frame came in on a link and was handed in, with this outcome
  CameIn : (link : ℕ) (frame : List ℕ) (outcome : Outcome) → Sight
  -- this frame was taken to go out on a link, after those before it
  WentOut : (link : ℕ) (frame : List ℕ) → Sight

-- a watch saw these one after another, and no others
abbrev pub SeesEach : {W : Type 0} → (W → Sight → W → Type 0) → List Sight → (old new : W) → Type 0
SeesEach sees [] old new = new ≡ old
SeesEach {W = W} sees (sight ∷ sights) old new = (next : W) × sees old sight next × SeesEach sees sights next new
