-- The points that were seen among destinations, as a row of truths by point code.
use Rattle.std.specs.Prelude.{◌≡◌, ◌<◌, ◌^◌, ℕ, ℤ, pos, negsuc, Bool, true, false, List, length}
use Rattle.std.specs.Prelude.{slice_set, slice_index_or}
use Rattle.settings.specs.AllFaults.{has_point}
use Rattle.settings.specs.declared.draft.DestinationDraft.{DestinationDraft}
use Rattle.settings.specs.declared.faults.points.SeenPoints.TheInside.{Inside}

-- there is a truth for each point code
pub record HasAllPoints (points : Inside) : Type 0 where
  pub all : length points.seen.items ≡ 2 ^ 14

-- whether a number is a point that was seen
abbrev pub seen_at : List Bool → ℤ → Bool
seen_at seen (pos n) = slice_index_or seen n false
seen_at seen (negsuc n) = false

-- a point is seen from now on, if the number is one
abbrev pub seen_with : List Bool → ℤ → List Bool
seen_with seen (pos n) = slice_set seen n true
seen_with seen (negsuc n) = seen

-- the points of these destinations were seen, and no other
pub record AreSeen (seen : List Bool) (destinations : List DestinationDraft) : Type 0 where
  pub all : length seen ≡ 2 ^ 14
  pub points : (n : ℕ) → n < 2 ^ 14 → slice_index_or seen n false ≡ has_point destinations (pos n)
