-- The index of a place's row among sorted rows, or the one that it would have.
use Rattle.std.specs.Prelude.{◌≡◌, ℕ, ◌<◌, ◌≤◌, true, false, List, length, slice_get, slice_set, insert, remove, Some}
use Rattle.settings.specs.Configuration.{TitleEntry}
use Rattle.sccp_relay.specs.Rows.{row_place, has_row, with_row, without_row}

-- the i-th row is at the place
pub record StandsAt (rows : List TitleEntry) (place : List ℕ) (i : ℕ) : Type 0 where
  pub within : i < length rows
  pub there : has_row rows place ≡ true
  pub removed : remove rows i ≡ without_row place rows
  pub replaced : (row : TitleEntry) → row_place row ≡ place → slice_set rows i row ≡ with_row row rows
  pub row : (row : TitleEntry) → slice_get rows i ≡ Some row → row_place row ≡ place

-- no row is at the place, and one that does would be the i-th
pub record FitsAt (rows : List TitleEntry) (place : List ℕ) (i : ℕ) : Type 0 where
  pub within : i ≤ length rows
  pub free : has_row rows place ≡ false
  pub inserted : (row : TitleEntry) → row_place row ≡ place → insert rows i row ≡ with_row row rows
