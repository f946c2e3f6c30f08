-- Which updates for adjacent points may be pending.
use Rattle.std.specs.Prelude.{◌≡◌, ◌≤◌, ◌<◌, ◌+◌, ℕ, Option, None, Some, false, length}
use Rattle.routes.specs.Routes.{Facts}
use Rattle.route_management.specs.Updates.{Updates, may_be_pending}
use Rattle.route_management.specs.Told.{ToldTable, owed_at}

-- no adjacent point is owed anything
abbrev pub OwesNone : Facts → ToldTable → Type 0
OwesNone f t = (set destination : ℕ) → owed_at f t set destination ≡ None

-- nothing is owed before a place, in the order of sets and then of destinations
pub record OwesNoneBefore (f : Facts) (t : ToldTable) (set destination : ℕ) : Type 0 where
  pub sets : (earlier about : ℕ) → earlier < set → owed_at f t earlier about ≡ None
  pub row : (about : ℕ) → about < destination → owed_at f t set about ≡ None

-- the point of a set is owed nothing of the destinations from one on up to another
abbrev pub OwesNoneBetween : Facts → ToldTable → (set from end : ℕ) → Type 0
OwesNoneBetween f t set from end = (about : ℕ) → from ≤ about → about < end → owed_at f t set about ≡ None

-- nothing is owed except what may be pending, for this many destinations
pub record OwesNoneBut (destinations : ℕ) (u : Updates) (f : Facts) (t : ToldTable) : Type 0 where
  pub marks : length u.marks ≡ destinations
  pub none : (set destination : ℕ) → may_be_pending u set destination ≡ false → owed_at f t set destination ≡ None

-- nothing is owed before the place where a walk over the destinations of a set stopped, or before the next set if it
-- didn't stop
abbrev pub OwesNoneUpTo : Option ℕ → Facts → ToldTable → ℕ → Type 0
OwesNoneUpTo (Some destination) f t set = OwesNoneBefore f t set destination
OwesNoneUpTo None f t set = OwesNoneBefore f t (set + 1) 0
