-- How lists of messages are kept in linked cells: a row of the cells that were used, and the cells of each list.
use Rattle.std.specs.Prelude.{◌≡◌, ℕ, ◌≤◌, List, [], ◌∷◌, ◌++◌, length, nat_lt, slice_set, vec_capacity, if◌then◌else◌}
use Rattle.signalling_types.specs.Message.{Message}
use Rattle.cell_pool.specs.Cells.{Occupied, lists_at}
use Rattle.cell_pool.specs.declared.linked_lists.LinkedLists.TheInside.{Inside}

abbrev pub occupied_in : Inside → Occupied
occupied_in s = record { lists = lists_at s.cells.items s.links.rings; cells = s.links.total }

-- the row has the cells that were used, and room for all
pub record HasRow (s : Inside) : Type 0 where
  pub row : length s.cells.items ≡ s.links.used
  pub room : s.links.total ≤ vec_capacity s.cells

-- a message in a cell of the row, or in the next one after it
abbrev pub written : List Message → (cell : ℕ) → Message → List Message
written cells cell m = if nat_lt cell (length cells) then slice_set cells cell m else cells ++ m ∷ []
