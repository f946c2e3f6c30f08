-- How points are found by their codes.
use Rattle.std.specs.Prelude.{◌≡◌, ◌<◌, ◌^◌, ℕ, List, Option, Some, length, nat_eq, position, slice_get}
use Rattle.settings.specs.declared.points.PointIndex.TheInside.{Inside}

abbrev pub points_in : Inside → List ℕ
points_in i = i.points.items

-- the entry of each point code is the place of that point, if it has one
abbrev pub Finds : (places : List (Option ℕ)) (points : List ℕ) → Type 0
Finds places points =
    (code : ℕ) → code < 2 ^ 14 → slice_get places code ≡ Some (position (nat_eq code) points)

-- the table has an entry for each point code
pub record IsIndexed (i : Inside) : Type 0 where
  pub codes : length i.places.items ≡ 2 ^ 14
  pub finds : Finds i.places.items i.points.items
