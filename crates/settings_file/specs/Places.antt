-- Where a key is in a settings file, and how its table has it.
use Rattle.std.specs.Prelude.{ℕ, List, [], ◌∷◌, ◌++◌, drop, length, Bool, ◌==◌, nat_lt, Option, None, Some, codes}
use Rattle.std.specs.Prelude.{if◌then◌else◌}
use Rattle.std.specs.List.{position_or_len, after_first}
use Rattle.settings.specs.Keys.{key_front, key_index, key_back}
use Rattle.settings.specs.declared.key.Key.{Key}
use Rattle.settings_file.specs.declared.key_rows.KeyRow.{KeyRow}

-- a key after a dot, or nothing
abbrev pub behind_dot : List ℕ → List ℕ
behind_dot [] = []
behind_dot (octet ∷ rest) = codes "." ++ (octet ∷ rest)

-- where a key is in a file: the key; or an array, the index of an entry, and a dot and a key in it
pub record KeyPlace : Type 0 where
  pub front : List ℕ
  pub entry : Option ℕ
  pub back : List ℕ

-- where a key of settings is
abbrev pub key_place : Key → KeyPlace
key_place key = record { front = key_front key; entry = key_index key; back = key_back key }

-- the same of the row of a key
abbrev pub row_place : KeyRow → KeyPlace
row_place row = record { front = row.front.now; entry = row.entry; back = behind_dot row.name.now }

-- the octet of a dot
abbrev pub is_dot : ℕ → Bool
is_dot octet = octet == 46

abbrev pub has_dot : List ℕ → Bool
has_dot path = nat_lt (position_or_len is_dot path) (length path)

-- a path without the table that it begins with, if it begins with one
abbrev pub behind_table : List ℕ → List ℕ
behind_table path = if has_dot path then after_first is_dot path else path

-- how a key is written in its table, whose path has two names at most, or in its entry of an array
abbrev pub name_in : (front : List ℕ) → (entry : Option ℕ) → (back : List ℕ) → List ℕ
name_in front None back = behind_table (behind_table front)
name_in front (Some i) back = drop 1 back

abbrev pub name_at : KeyPlace → List ℕ
name_at place = name_in place.front place.entry place.back

unfoldable pub key_name : Key → List ℕ
key_name key = name_at (key_place key)
