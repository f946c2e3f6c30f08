-- JSON as tokens (RFC 8259): arrays and objects nest as they are written here.
use Rattle.std.specs.Prelude.{◌≡◌, ℕ, List, [], ◌∷◌, ◌++◌, Bool, decimal, Result, OnOk}
use Rattle.json.specs.Token.{Token, begin_object, end_object, begin_array, end_array, key, string, number, boolean}
use Rattle.json.specs.Written.{Written}

-- an object of these members
abbrev pub object : List Token → List Token
object members = begin_object ∷ members ++ end_object ∷ []

-- an array of these values
abbrev pub array : List Token → List Token
array values = begin_array ∷ values ++ end_array ∷ []

-- members of an object
abbrev pub text_member : (name text : List ℕ) → List Token
text_member name text = key name ∷ string text ∷ []

abbrev pub number_member : (name : List ℕ) → ℕ → List Token
number_member name n = key name ∷ number (decimal n) ∷ []

abbrev pub bool_member : (name : List ℕ) → Bool → List Token
bool_member name b = key name ∷ boolean b ∷ []

abbrev pub object_member : (name : List ℕ) → (members : List Token) → List Token
object_member name members = key name ∷ object members

abbrev pub array_member : (name : List ℕ) → (values : List Token) → List Token
array_member name values = key name ∷ array values

-- these tokens come after those that were written, if memory doesn't run out
abbrev pub Adds : {E : Type 0} → Result (Unit {0}) E → (old new : Written) → List Token → Type 0
Adds r old new tokens = OnOk r ((new.tokens ≡ old.tokens ++ tokens) × (new.before ≡ old.before))
