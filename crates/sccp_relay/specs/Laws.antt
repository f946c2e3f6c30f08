-- What adding and removing a row leave of a translation table: laws.
use Rattle.std.specs.Prelude.{◌≡◌, ◌≢◌, ℕ, List, [], ◌∷◌, filter}
use Rattle.std.specs.declared.cmp.Ordering.TheVariants.{Equal}
use Rattle.settings.specs.Configuration.{TitleEntry}
use Rattle.sccp_relay.specs.Rows.{row_place, place_order, is_at, with_row, without_row}

-- the rows that are at a place
abbrev pub rows_at : List ℕ → List TitleEntry → List TitleEntry
rows_at place rows = filter (is_at place) rows

-- an added row is alone at its place
abbrev pub added_stands : Type 0
added_stands = (row : TitleEntry) (rows : List TitleEntry) → rows_at (row_place row) (with_row row rows) ≡ row ∷ []

-- and every other place has the rows that it had
abbrev pub added_leaves : Type 0
added_leaves =
    (place : List ℕ) (row : TitleEntry) (rows : List TitleEntry) → place_order (row_place row) place ≢ Equal →
    rows_at place (with_row row rows) ≡ rows_at place rows

-- no row is at the place of one that is removed
abbrev pub removed_is_gone : Type 0
removed_is_gone = (place : List ℕ) (rows : List TitleEntry) → rows_at place (without_row place rows) ≡ []

-- and every other place has the rows that it had
abbrev pub removed_leaves : Type 0
removed_leaves =
    (place other : List ℕ) (rows : List TitleEntry) → place_order other place ≢ Equal →
    rows_at other (without_row place rows) ≡ rows_at other rows
