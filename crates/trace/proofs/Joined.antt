-- Texts that are written one after the other.
use Rattle.std.proofs.Common.{◌≡◌, ◌∙◌, ℕ, List, ◌++◌, ap, append_assoc}

-- what stands behind a front are two parts, the second written behind the first
pub joined :
    (front first second part whole : List ℕ) → part ≡ front ++ first → whole ≡ part ++ second →
    whole ≡ front ++ (first ++ second)
joined front first second part whole p q =
    q ∙ ap (λ (xs : List ℕ). xs ++ second) p ∙ append_assoc front first second
