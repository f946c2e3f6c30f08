-- What is copied comes first, and the zeros after it are left.
use Rattle.std.proofs.Common.{ap, ◌++◌, List, ℕ, length}
use Rattle.std.proofs.lemmas.List.{drop-replicate}
use Rattle.settings.proofs.title_digits.padded.Goals as goal

pub returns : goal.returns
returns c =
    rw c.copy_from_slice.ensures.after (ap (λ (xs : List ℕ). c.args.digits.now ++ xs) (drop-replicate (length c.args.digits.now) 32 0))
