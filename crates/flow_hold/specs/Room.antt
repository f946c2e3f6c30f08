-- How holds are kept: in a table of marks, each of which is a pair.
use Rattle.std.specs.Prelude.{ℕ, zero, suc, ◌+◌, ◌-◌, ◌*◌, ◌/◌, ◌%◌, length, nat_lt, if◌then◌else◌}
use Rattle.std.specs.FinSet.{FinSet, empty, insert, union}
use Rattle.signalling_types.specs.declared.limits.TheConstants.Limits.{CHANGEBACK_CODES, SELECTIONS}
use Rattle.flow_hold.specs.declared.procedure.Procedure.{Procedure}
use Rattle.flow_hold.specs.declared.procedure.Procedure.TheVariants.{Changeover, Code, Time, Reroute}
use Rattle.flow_hold.specs.Rows.{marks_at, has_mark}
use Rattle.flow_hold.specs.Holds.{Hold, HoldSet, by_numbers}
use Rattle.flow_hold.specs.Table.{HoldTable, HasPlaces}
use Rattle.flow_hold.specs.declared.holds.Holds.TheInside.{Inside}

-- the procedure of a row
abbrev pub procedure_at : HoldTable → ℕ → Procedure
procedure_at t row =
    if nat_lt row t.links then Changeover row
    else if nat_lt row (2 * t.links) then Time (row - t.links)
    else if nat_lt row (2 * t.links + CHANGEBACK_CODES * t.sets)
    then Code ((row - 2 * t.links) / CHANGEBACK_CODES) ((row - 2 * t.links) % CHANGEBACK_CODES)
    else Reroute (row - (2 * t.links + CHANGEBACK_CODES * t.sets))

-- the pair of a row and a flow
abbrev pub hold_at : HoldTable → (row flow : ℕ) → Hold
hold_at t row flow =
    record { procedure = procedure_at t row; destination = flow / SELECTIONS; sls = flow % SELECTIONS }

-- the pairs of a row that are marked, among the first n flows
unfoldable pub pairs_of_row : HoldTable → (row count : ℕ) → FinSet by_numbers
pairs_of_row t row zero = empty
pairs_of_row t row (suc flow) =
    if has_mark flow (marks_at t.rows row)
    then insert (pairs_of_row t row flow) (hold_at t row flow)
    else pairs_of_row t row flow

-- and of the first n rows
unfoldable pub pairs_of_rows : HoldTable → (count : ℕ) → FinSet by_numbers
pairs_of_rows t zero = empty
pairs_of_rows t (suc row) = union (pairs_of_rows t row) (pairs_of_row t row (SELECTIONS * t.destinations))

-- a table stands for the pairs that it marks
abbrev pub set_of : HoldTable → HoldSet
set_of t = record {
  links = t.links;
  sets = t.sets;
  destinations = t.destinations;
  pairs = pairs_of_rows t (length t.rows);
}

abbrev pub holds_in : Inside → HoldSet
holds_in s = set_of s.table

-- each procedure has a row, with the flows that it may hold
pub record HasRows (s : Inside) : Type 0 where
  pub places : HasPlaces s.table
