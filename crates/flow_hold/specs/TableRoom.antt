-- How a table of marks is kept: the rows, and for each flow how many procedures hold it.
use Rattle.std.specs.Prelude.{◌≡◌, ℕ, ◌+◌, ◌*◌, ◌≤◌, length, slice_index_or, All}
use Rattle.signalling_types.specs.declared.limits.TheConstants.Limits.{CHANGEBACK_CODES, LINKS, SETS, DESTINATIONS}
use Rattle.flow_hold.specs.Rows.{Marks}
use Rattle.flow_hold.specs.Table.{HoldTable, marked_as_held}
use Rattle.flow_hold.specs.declared.table.Table.TheInside.{Inside}

abbrev pub table_in : Inside → HoldTable
table_in s = record { links = s.links; sets = s.sets; destinations = s.destinations; rows = s.rows.items }

-- the counts are those of the rows, and there is a count for each flow and a row for each procedure
pub record AreCounted (s : Inside) : Type 0 where
  pub counts : (flow : ℕ) → slice_index_or s.counts.items flow 0 ≡ marked_as_held s.rows.items flow
  pub fits : All (λ (row : Marks). row.first + length row.marks ≤ length s.counts.items) s.rows.items
  pub rows : length s.rows.items ≡ 2 * s.links + CHANGEBACK_CODES * s.sets + s.destinations
  pub links : s.links ≤ LINKS
  pub sets : s.sets ≤ SETS
  pub destinations : s.destinations ≤ DESTINATIONS
