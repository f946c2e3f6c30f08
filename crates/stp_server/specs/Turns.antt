-- What a turn of the page answers.
use Rattle.std.specs.Prelude.{ℕ, ◌≡◌, ◌⊎◌, IsTrue}
use Rattle.status_page.specs.Bounds.{counted, may_answer}
use Rattle.status_page.specs.declared.patience.Allowance.{Allowance}

-- one request at most, which is counted, and none if the second has had all its answers
abbrev pub AnswersOneAtMost : (now : ℕ) → (old new : Allowance) → Type 0
AnswersOneAtMost now old new = (new ≡ old) ⊎ (IsTrue (may_answer now old) × (new ≡ counted now old))
