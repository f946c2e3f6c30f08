-- The values of the node's keys: each is missing, of another type, or what is read.
use Rattle.std.specs.Prelude.{ℕ, ℤ, Bool, false, List, [], ◌∷◌, Option, Some, None, Result, Ok, Err, if◌then◌else◌}
use Rattle.std.specs.Prelude.{◌&&◌, ◌||◌, nat_eq, nat_le, length, not, is_some}
use Rattle.std.specs.List.{list_all}
use Rattle.toml.specs.Data.{Data, Members, get_member, as_str}
use Rattle.settings.specs.declared.key.Key.{Key}
use Rattle.settings_file.specs.Places.{key_name}
use Rattle.settings_file.specs.PointTexts.{point_said}
use Rattle.settings_file.specs.declared.limits.TheConstants.{SHORT_NAME_OCTETS}
use Rattle.settings_file.specs.Shapes.{and_then, each, value_at, integer_in, truth_in, text_in, array_in}
use Rattle.settings_file.specs.declared.fault.SettingsFault.{SettingsFault}
use Rattle.settings_file.specs.declared.fault.SettingsFault.TheVariants.{Missing, Kind}

-- the value of a key, if it is there
abbrev pub found_at : Key → Members → Option Data
found_at key t = get_member (key_name key) t

-- the value of a required key
abbrev pub required_at : Key → Members → Result Data SettingsFault
required_at key t = value_at (key_name key) (Missing key) t

unfoldable pub integer_at : Key → Members → Result ℤ SettingsFault
integer_at key t = and_then (required_at key t) (integer_in (Kind key))

-- a truth value that may be left out, and is false then
abbrev pub truth_or_false : Key → Option Data → Result Bool SettingsFault
truth_or_false key None = Ok false
truth_or_false key (Some d) = truth_in (Kind key) d

-- the same at a key that the version of the file has, or doesn't have: there it is ignored
unfoldable pub truth_at : (has_key : Bool) → Key → Members → Result Bool SettingsFault
truth_at has_key key t = if has_key then truth_or_false key (found_at key t) else Ok false

-- an integer that may be left out
abbrev pub integer_if_any : Key → Option Data → Result (Option ℤ) SettingsFault
integer_if_any key None = Ok None
integer_if_any key (Some d) = and_then (integer_in (Kind key) d) (λ n. Ok (Some n))

unfoldable pub optional_integer_at : (has_key : Bool) → Key → Members → Result (Option ℤ) SettingsFault
optional_integer_at has_key key t = if has_key then integer_if_any key (found_at key t) else Ok None

-- the point that a value says: its integer; in a file that has texts of points, a text too
abbrev pub point_or_said : Key → Option (List ℕ) → Data → Result ℤ SettingsFault
point_or_said key (Some text) d = Ok (point_said text)
point_or_said key None d = integer_in (Kind key) d

unfoldable pub point_in : (has_texts : Bool) → Key → Data → Result ℤ SettingsFault
point_in has_texts key d = if has_texts then point_or_said key (as_str d) d else integer_in (Kind key) d

unfoldable pub point_at : (has_texts : Bool) → Key → Members → Result ℤ SettingsFault
point_at has_texts key t = and_then (required_at key t) (point_in has_texts key)

-- a point that may be left out, at a key that the version of the file has, or doesn't have: there it is ignored
abbrev pub point_if_any : (has_texts : Bool) → Key → Option Data → Result (Option ℤ) SettingsFault
point_if_any has_texts key None = Ok None
point_if_any has_texts key (Some d) = and_then (point_in has_texts key d) (λ n. Ok (Some n))

unfoldable pub optional_point_at : (has_key has_texts : Bool) → Key → Members → Result (Option ℤ) SettingsFault
optional_point_at has_key has_texts key t = if has_key then point_if_any has_texts key (found_at key t) else Ok None

-- a text that may be left out, and is empty then
abbrev pub text_or_empty : Key → Option Data → Result (List ℕ) SettingsFault
text_or_empty key None = Ok []
text_or_empty key (Some d) = text_in (Kind key) d

unfoldable pub optional_text_at : (has_key : Bool) → Key → Members → Result (List ℕ) SettingsFault
optional_text_at has_key key t = if has_key then text_or_empty key (found_at key t) else Ok []

unfoldable pub text_at : Key → Members → Result (List ℕ) SettingsFault
text_at key t = and_then (required_at key t) (text_in (Kind key))

-- a small letter, a digit or a dash
abbrev pub is_short_name_octet : ℕ → Bool
is_short_name_octet octet =
    (nat_le 97 octet && nat_le octet 122) || (nat_le 48 octet && nat_le octet 57) || nat_eq octet 45

-- a name that is no longer than those of the first versions, and made of what they were made of
abbrev pub is_short_name : List ℕ → Bool
is_short_name text = nat_le (length text) SHORT_NAME_OCTETS && list_all is_short_name_octet text

-- the name that a text says. In a file whose version has no longer names, one that is longer or has another octet is
-- read as the empty text, which is no name
abbrev pub name_said : (has_longer : Bool) → List ℕ → List ℕ
name_said has_longer text = if has_longer || is_short_name text then text else []

unfoldable pub name_in : (has_longer : Bool) → Key → Data → Result (List ℕ) SettingsFault
name_in has_longer key d = and_then (text_in (Kind key) d) (λ text. Ok (name_said has_longer text))

-- the name at a key
unfoldable pub name_at : (has_longer : Bool) → Key → Members → Result (List ℕ) SettingsFault
name_at has_longer key t = and_then (required_at key t) (name_in has_longer key)

-- the list of integers at a key; the fault of an entry is one of the list
unfoldable pub integers_at : Key → Members → Result (List ℤ) SettingsFault
integers_at key t =
    and_then (required_at key t) (λ d. and_then (array_in (Kind key) d) (each (λ _. integer_in (Kind key)) 0))

-- the same list at a key that may be left out, in some versions: it is empty then
unfoldable pub integers_if_any_at : (may_miss : Bool) → Key → Members → Result (List ℤ) SettingsFault
integers_if_any_at may_miss key t =
    if may_miss && not (is_some (found_at key t)) then Ok [] else integers_at key t

-- the list of names at a key; the fault of an entry is one of the list
unfoldable pub names_at : (has_longer : Bool) → Key → Members → Result (List (List ℕ)) SettingsFault
names_at has_longer key t =
    and_then (required_at key t) (λ d. and_then (array_in (Kind key) d) (each (λ _. name_in has_longer key) 0))

-- entries, at least one
abbrev pub some_in : Key → List Data → Result (List Data) SettingsFault
some_in key [] = Err (Missing key)
some_in key (d ∷ ds) = Ok (d ∷ ds)

-- the entries of the array at a key, at least one
unfoldable pub entries_at : Key → Members → Result (List Data) SettingsFault
entries_at key t = and_then (required_at key t) (λ d. and_then (array_in (Kind key) d) (some_in key))
