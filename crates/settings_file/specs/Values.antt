-- The value that a document has at a key.
use Rattle.std.specs.Prelude.{ℕ, List, [], ◌∷◌, Option, Some, None, option_and_then}
use Rattle.std.specs.Prelude.{if◌then◌else◌}
use Rattle.std.specs.List.{before_first, after_first}
use Rattle.toml.specs.Data.{Data, Members, get_member, get, at}
use Rattle.settings_file.specs.Places.{is_dot, has_dot}
use Rattle.settings_file.specs.declared.key_rows.KeyRow.{KeyRow}

-- the value of a key in a table; after a dot, that of a key in its table that is named before the dot
abbrev pub value_below : List ℕ → Data → Option Data
value_below path d =
    if has_dot path
    then option_and_then (get (after_first is_dot path)) (get (before_first is_dot path) d)
    else get path d

-- the same in a document, whose tables may have tables
abbrev pub value_at_path : List ℕ → Members → Option Data
value_at_path path t =
    if has_dot path
    then option_and_then (value_below (after_first is_dot path)) (get_member (before_first is_dot path) t)
    else get_member path t

-- an entry of an array
abbrev pub entry_at : List ℕ → ℕ → Members → Option Data
entry_at array i t = option_and_then (at i) (get_member array t)

-- the value of a key in an entry of an array; without a name there, the entry
abbrev pub value_in_entry : (name : List ℕ) → (entry : Option Data) → Option Data
value_in_entry [] entry = entry
value_in_entry (octet ∷ rest) entry = option_and_then (get (octet ∷ rest)) entry

abbrev pub value_of : (front : List ℕ) → (entry : Option ℕ) → (name : List ℕ) → Members → Option Data
value_of front None name t = value_at_path front t
value_of front (Some i) name t = value_in_entry name (entry_at front i t)

abbrev pub value_at : KeyRow → Members → Option Data
value_at row t = value_of row.front.now row.entry row.name.now t
