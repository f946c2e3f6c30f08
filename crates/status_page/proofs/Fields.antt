-- Fields that are added one by one.
use Rattle.std.proofs.Common.{◌≡◌, List, [], ◌∷◌, ◌++◌, append_assoc}

pub four_behind : {A : Type 0} (xs : List A) (a b c d : A) → (((xs ++ a ∷ []) ++ b ∷ []) ++ c ∷ []) ++ d ∷ [] ≡ xs ++ a ∷ b ∷ c ∷ d ∷ []
four_behind xs a b c d = rw (append_assoc xs (a ∷ []) (b ∷ []), append_assoc xs (a ∷ b ∷ []) (c ∷ []), append_assoc xs (a ∷ b ∷ c ∷ []) (d ∷ []))
