-- A text of some kind that was made is told, or there was no memory for it.
use Rattle.std.proofs.Common.{List, ℕ, Result, Ok, Err, string_bytes, inl, inr}
use Rattle.std.specs.Prelude.{String, IfOk}
use Rattle.std.specs.Global.{Global}
use Rattle.program.specs.Explaining.{IsToldMade, IsToldOf}
use Rattle.script.specs.Streams.{Output}

pub told-of : {F : Type 0} (made : Result (String Global) F) (IsText : List ℕ → Type 0) (errors errors_new : Output)
    → IfOk made (λ text. IsText (string_bytes text)) → IsToldMade made errors errors_new → IsToldOf IsText errors errors_new
told-of (Ok text) IsText errors errors_new is told = inl (string_bytes text, is, told)
told-of (Err fault) IsText errors errors_new is told = inr told
