-- Marks of flows in a row: whether each is held.
use Rattle.std.specs.Prelude.{ℕ, ◌-◌, Bool, ◌&&◌, false, List, [], length, nat_le, nat_lt, slice_index_or}
use Rattle.std.specs.Prelude.{if◌then◌else◌, Option, Some, None}

-- the first flow, and the marks of it and of those after it
pub record Marks : Type 0 where
  pub first : ℕ
  pub marks : List Bool

-- one of several rows
abbrev pub marks_at : List Marks → ℕ → Marks
marks_at rows row = slice_index_or rows row (record { first = 0; marks = [] })

-- where a flow is in a row, if it does
abbrev pub place_of_flow : Marks → ℕ → Option ℕ
place_of_flow row flow =
    if nat_le row.first flow && nat_lt (flow - row.first) (length row.marks) then Some (flow - row.first) else None

-- whether a flow is marked as held
abbrev pub has_mark : ℕ → Marks → Bool
has_mark flow row = nat_le row.first flow && slice_index_or row.marks (flow - row.first) false

-- a mark as a count
abbrev pub as_count : Bool → ℕ
as_count held = if held then 1 else 0
