-- What the code that reads optional parameters answers.
use Rattle.std.specs.Prelude.{◌≡◌, ℕ, ◌+◌, List, length, Option, Some, None}
use Rattle.sccp_codec.specs.Extended.{ParameterValue, parameters_octets}

-- what the code answers, seen as a value, is what reading gives
abbrev pub OptionallyGives : {X V : Type 0} → (X → V) → Option X → Option V → Type 0
OptionallyGives view (Some x) read = read ≡ Some (view x)
OptionallyGives view None read = read ≡ None

-- where these parameters end, if they begin here
abbrev pub extent : ℕ → Option (List ParameterValue) → Option ℕ
extent at None = None
extent at (Some parameters) = Some (at + length (parameters_octets parameters))
