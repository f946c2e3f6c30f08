-- The shapes of values in a settings file, and the fault if a value has another.
use Rattle.std.specs.Prelude.{ℕ, ◌+◌, ℤ, Bool, List, [], ◌∷◌, Result, Ok, Err}
use Rattle.std.specs.Option.{ok_or, option_map}
use Rattle.toml.specs.Data.{Data, Items, no_items, item, Members, get_member, as_integer, as_bool, as_str, as_array}
use Rattle.toml.specs.Data.{as_table}

-- what is read next, if nothing was wrong so far
abbrev pub and_then : {A B F : Type 0} → Result A F → (A → Result B F) → Result B F
and_then (Ok a) next = next a
and_then (Err fault) next = Err fault

-- the entries of an array
abbrev pub listed : Items → List Data
listed no_items = []
listed (item d rest) = d ∷ listed rest

-- what each of several is read as, from number i on, or the first fault among them
abbrev pub each : {A B F : Type 0} → (ℕ → A → Result B F) → ℕ → List A → Result (List B) F
each read i [] = Ok []
each read i (a ∷ rest) = and_then (read i a) (λ b. and_then (each read (i + 1) rest) (λ bs. Ok (b ∷ bs)))

-- the value of a required key
unfoldable pub value_at : {F : Type 0} → List ℕ → (missing : F) → Members → Result Data F
value_at name missing t = ok_or (get_member name t) missing

-- the integer, the truth value, the text, the table and the entries of the array that a value must be
unfoldable pub integer_in : {F : Type 0} → (kind : F) → Data → Result ℤ F
integer_in kind d = ok_or (as_integer d) kind

unfoldable pub truth_in : {F : Type 0} → (kind : F) → Data → Result Bool F
truth_in kind d = ok_or (as_bool d) kind

unfoldable pub text_in : {F : Type 0} → (kind : F) → Data → Result (List ℕ) F
text_in kind d = ok_or (as_str d) kind

unfoldable pub table_in : {F : Type 0} → (kind : F) → Data → Result Members F
table_in kind d = ok_or (as_table d) kind

unfoldable pub array_in : {F : Type 0} → (kind : F) → Data → Result (List Data) F
array_in kind d = ok_or (option_map listed (as_array d)) kind
