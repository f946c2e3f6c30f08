-- The rows of a translation table, in their order (Q.714 §2.4; the order is this node's).
use Rattle.std.specs.Prelude.{◌≡◌, ℕ, Bool, not, if◌then◌else◌, nat_le, List, [], ◌∷◌, ◌++◌, length, filter, Option, Some, None, ⊤}
use Rattle.std.specs.List.{AllByRecursion, list_any}
use Rattle.std.specs.Str.{bytes_eq}
use Rattle.std.specs.Cmp.Lexicographic.{slice_cmp}
use Rattle.std.specs.Ordering.{nat_cmp, is_lt, is_eq, is_gt}
use Rattle.std.specs.declared.cmp.Ordering.{Ordering}
use Rattle.std.specs.declared.cmp.Ordering.TheVariants.{Less}
use Rattle.settings.specs.Configuration.{TitleEntry}
use Rattle.signalling_types.specs.declared.cause.Cause.{Cause}
use Rattle.signalling_types.specs.declared.cause.Cause.TheVariants.{DuplicateRow, TableFull}
use Rattle.signalling_types.specs.declared.limits.TheConstants.Limits.{TITLES}
use Rattle.sccp_codec.specs.declared.title.TitleKey.{TitleKey}

-- the place of a row with this key and these digits
abbrev pub place_of : TitleKey → List ℕ → List ℕ
place_of key digits = key.translation ∷ key.plan ∷ key.nature ∷ digits

-- the key of a row
abbrev pub key_of : TitleEntry → TitleKey
key_of row = record { translation = row.translation; plan = row.plan; nature = row.nature }

abbrev pub row_place : TitleEntry → List ℕ
row_place row = row.translation ∷ row.plan ∷ row.nature ∷ row.digits

-- the order of places: by translation type, plan, nature, then digit by digit; a prefix comes before what it begins
abbrev pub place_order : List ℕ → List ℕ → Ordering
place_order = slice_cmp nat_cmp

-- the row comes before the place, is at it, or comes after it
abbrev pub is_before : List ℕ → TitleEntry → Bool
is_before place row = is_lt (place_order (row_place row) place)

abbrev pub is_at : List ℕ → TitleEntry → Bool
is_at place row = is_eq (place_order (row_place row) place)

abbrev pub is_behind : List ℕ → TitleEntry → Bool
is_behind place row = is_gt (place_order (row_place row) place)

-- each row comes before all that follow it, so no two are at one place
abbrev pub IsOrdered : List TitleEntry → Type 0
IsOrdered [] = ⊤
IsOrdered (row ∷ rows) =
    AllByRecursion (λ other. place_order (row_place row) (row_place other) ≡ Less) rows × IsOrdered rows

-- whether a row is at the place
abbrev pub has_row : List TitleEntry → List ℕ → Bool
has_row rows place = list_any (is_at place) rows

-- the rows with this one at its place: one more, or in place of the one that was there
abbrev pub with_row : TitleEntry → List TitleEntry → List TitleEntry
with_row row rows = filter (is_before (row_place row)) rows ++ row ∷ filter (is_behind (row_place row)) rows

-- whether two rows are at one place
abbrev pub is_same_place : TitleEntry → TitleEntry → Bool
is_same_place row other = bytes_eq (row_place row) (row_place other)

-- the table of rows that are added one by one, the last one first
abbrev pub table_of : List TitleEntry → List TitleEntry
table_of [] = []
table_of (row ∷ rows) = with_row row (table_of rows)

-- the rows without the one at the place
abbrev pub without_row : List ℕ → List TitleEntry → List TitleEntry
without_row place rows = filter (λ row. not (is_at place row)) rows

-- why a row is refused: there is one at its place already; otherwise there are as many as there may be
abbrev pub add_refusal : List TitleEntry → TitleEntry → Option Cause
add_refusal rows row =
    if has_row rows (row_place row) then Some DuplicateRow
    else if nat_le TITLES (length rows) then Some TableFull
    else None

-- why a row that would replace the one at its place is refused: none is there, and it can't be added
abbrev pub set_refusal : List TitleEntry → TitleEntry → Option Cause
set_refusal rows row = if has_row rows (row_place row) then None else add_refusal rows row
