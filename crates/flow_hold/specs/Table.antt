-- A table of marks, by which holds are kept: a row for each procedure, with a mark for each flow that it may hold.
use Rattle.std.specs.Prelude.{◌≡◌, ℕ, ◌+◌, ◌-◌, ◌*◌, Bool, ◌&&◌, true, false, List, length, map, replicate, nat_lt}
use Rattle.std.specs.Prelude.{slice_set, if◌then◌else◌, Option, Some, None, count_by}
use Rattle.std.specs.List.{range_with_len, list_any}
use Rattle.signalling_types.specs.declared.limits.TheConstants.Limits.{CHANGEBACK_CODES, SELECTIONS}
use Rattle.flow_hold.specs.declared.procedure.Procedure.{Procedure}
use Rattle.flow_hold.specs.declared.procedure.Procedure.TheVariants.{Changeover, Code, Time, Reroute}
use Rattle.flow_hold.specs.Rows.{Marks, marks_at, place_of_flow, has_mark}

-- how many links, sets and destinations there are, and the row of each procedure
pub record HoldTable : Type 0 where
  pub links : ℕ
  pub sets : ℕ
  pub destinations : ℕ
  pub rows : List Marks

-- the number of a flow, if its destination is there
abbrev pub flow_place : HoldTable → (destination sls : ℕ) → Option ℕ
flow_place t destination sls = if nat_lt destination t.destinations then Some (SELECTIONS * destination + sls) else None

-- the row of a procedure, if it is there: first the changeovers of all links, then their time-controlled holds, then
-- the codes of all sets, then the reroutings of all destinations
abbrev pub place_of : HoldTable → Procedure → Option ℕ
place_of t (Changeover link) = if nat_lt link t.links then Some link else None
place_of t (Time link) = if nat_lt link t.links then Some (t.links + link) else None
place_of t (Code set code) =
    if nat_lt set t.sets && nat_lt code CHANGEBACK_CODES
    then Some (2 * t.links + CHANGEBACK_CODES * set + code)
    else None
place_of t (Reroute destination) =
    if nat_lt destination t.destinations then Some (2 * t.links + CHANGEBACK_CODES * t.sets + destination) else None

-- ---- which pairs are marked

abbrev pub row_has : HoldTable → Option ℕ → Option ℕ → Bool
row_has t (Some row) (Some flow) = has_mark flow (marks_at t.rows row)
row_has t (Some row) None = false
row_has t None flow = false

-- whether a pair is marked
abbrev pub has_pair : HoldTable → Procedure → (destination sls : ℕ) → Bool
has_pair t procedure destination sls = row_has t (place_of t procedure) (flow_place t destination sls)

-- how many rows have a flow marked
abbrev pub marked_as_held : List Marks → ℕ → ℕ
marked_as_held rows flow = count_by (has_mark flow) rows

abbrev pub any_has : HoldTable → Option ℕ → Bool
any_has t (Some flow) = list_any (has_mark flow) t.rows
any_has t None = false

-- whether some row has a flow marked
abbrev pub has_flow : HoldTable → (destination sls : ℕ) → Bool
has_flow t destination sls = any_has t (flow_place t destination sls)

-- ---- how they begin

-- a rerouting holds only flows of its destination, each other procedure may hold all
abbrev pub first_row : (shared destinations place : ℕ) → Marks
first_row shared destinations place =
    if nat_lt place shared
    then record { first = 0; marks = replicate (SELECTIONS * destinations) false }
    else record { first = SELECTIONS * (place - shared); marks = replicate SELECTIONS false }

-- nothing is marked
abbrev pub no_marks : (links sets destinations : ℕ) → HoldTable
no_marks links sets destinations = record {
  links = links;
  sets = sets;
  destinations = destinations;
  rows = map (first_row (2 * links + CHANGEBACK_CODES * sets) destinations)
      (range_with_len 0 (2 * links + CHANGEBACK_CODES * sets + destinations));
}

-- ---- how they change

-- one mark of one row
abbrev pub with_mark : HoldTable → (row place : ℕ) → Bool → HoldTable
with_mark t row place held = record t {
  rows = slice_set t.rows row (record (marks_at t.rows row) {
    marks = slice_set (marks_at t.rows row).marks place held;
  });
}

abbrev pub with_mark_at : HoldTable → ℕ → Option ℕ → HoldTable
with_mark_at t row (Some place) = with_mark t row place true
with_mark_at t row None = t

abbrev pub with_flow_marked : HoldTable → Option ℕ → Option ℕ → HoldTable
with_flow_marked t (Some row) (Some flow) = with_mark_at t row (place_of_flow (marks_at t.rows row) flow)
with_flow_marked t (Some row) None = t
with_flow_marked t None flow = t

-- a pair is marked; what isn't there is ignored
abbrev pub with_pair : HoldTable → Procedure → (destination sls : ℕ) → HoldTable
with_pair t procedure destination sls = with_flow_marked t (place_of t procedure) (flow_place t destination sls)

-- no flow of one row is marked
abbrev pub cleared : HoldTable → ℕ → HoldTable
cleared t row = record t {
  rows = slice_set t.rows row (record (marks_at t.rows row) {
    marks = replicate (length (marks_at t.rows row).marks) false;
  });
}

abbrev pub with_row_cleared : HoldTable → Option ℕ → HoldTable
with_row_cleared t (Some row) = cleared t row
with_row_cleared t None = t

-- no pair of a procedure is marked
abbrev pub without_pairs : HoldTable → Procedure → HoldTable
without_pairs t procedure = with_row_cleared t (place_of t procedure)

-- ---- where the marks are

-- the first flow of a row, and how many flows it has
abbrev pub marks_shape : Marks → ℕ × ℕ
marks_shape row = (row.first, length row.marks)

-- there is a row for each procedure, with the flows that it may hold
pub record HasPlaces (t : HoldTable) : Type 0 where
  pub rows : map marks_shape t.rows ≡ map marks_shape (no_marks t.links t.sets t.destinations).rows
