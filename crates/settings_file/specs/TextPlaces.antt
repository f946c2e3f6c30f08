-- Where a key stands in the text of a settings file.
use Rattle.std.specs.Prelude.{◌≡◌, ◌≢◌, ◌⊎◌, ◌==◌, ◌+◌, ℕ, Bool, true, List, [], ◌∷◌, ◌++◌, codes, if◌then◌else◌}
use Rattle.settings_file.specs.Places.{name_at, row_place, is_dot}
use Rattle.settings_file.specs.declared.key_rows.KeyRow.{KeyRow}
use Rattle.settings_file.specs.declared.text_places.TextPlace.{TextPlace}

-- the place behind an octet at this one: a line feed begins a line
abbrev pub place_after : TextPlace → ℕ → TextPlace
place_after place octet =
    if octet == 10
    then record { line = place.line + 1; column = 1 }
    else record { line = place.line; column = place.column + 1 }

-- the place behind octets from this one on
abbrev pub place_behind : TextPlace → List ℕ → TextPlace
place_behind place [] = place
place_behind place (octet ∷ rest) = place_behind (place_after place octet) rest

-- the place of the first octet
abbrev pub first_place : TextPlace
first_place = record { line = 1; column = 1 }

-- a word stands in a text at a place
pub record StandsAt (text : List ℕ) (place : TextPlace) (word : List ℕ) : Type 0 where
  pub before : List ℕ
  pub behind : List ℕ
  pub text_is : text ≡ before ++ (word ++ behind)
  pub place_is : place ≡ place_behind first_place before

-- octets of a path end where a name begins: there are none, or the last one is a dot
abbrev pub ends_from : Bool → List ℕ → Bool
ends_from is [] = is
ends_from is (octet ∷ rest) = ends_from (is_dot octet) rest

abbrev pub are_before_name : List ℕ → Bool
are_before_name octets = ends_from true octets

-- they begin where a name ends: there are none, or the first one is a dot
abbrev pub are_behind_name : List ℕ → Bool
are_behind_name [] = true
are_behind_name (octet ∷ rest) = is_dot octet

-- a word is a name of a path, or several in a row with the dots between them
pub record IsPartOf (word path : List ℕ) : Type 0 where
  pub before : List ℕ
  pub behind : List ℕ
  pub some : word ≢ []
  pub path_is : path ≡ before ++ (word ++ behind)
  pub begins : are_before_name before ≡ true
  pub ends : are_behind_name behind ≡ true

-- at a place a part of a path stands
pub record IsPlaceOfPart (text path : List ℕ) (place : TextPlace) : Type 0 where
  pub word : List ℕ
  pub part : IsPartOf word path
  pub stands : StandsAt text place word

-- the place of what a key of this path is in: there names of the path stand, as that of its table in a header, or the
-- brace that opens its entry
abbrev pub IsPlaceAround : (text path : List ℕ) → TextPlace → Type 0
IsPlaceAround text path place = IsPlaceOfPart text path place ⊎ StandsAt text place (codes "{")

-- the place of a key of this row: there the last name of its path stands; or that of what it is in
abbrev pub IsPlaceOf : List ℕ → KeyRow → TextPlace → Type 0
IsPlaceOf text row place =
    StandsAt text place (name_at (row_place row)) ⊎ IsPlaceAround text row.front.now place
