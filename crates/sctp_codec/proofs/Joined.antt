-- Pieces that are written one after another.
use Rattle.std.proofs.Common.{◌≡◌, ℕ, ◌+◌, ◌<◌, List, ◌∷◌, ◌++◌, length, get_or, drop, sym, ap, ◌∙◌}
use Rattle.std.proofs.lemmas.List.{append_assoc, drop_more}

pub joined3 : (t a b c : List ℕ) → ((t ++ a) ++ b) ++ c ≡ t ++ ((a ++ b) ++ c)
joined3 t a b c = ap (λ (x : List ℕ). x ++ c) (append_assoc t a b) ∙ append_assoc t (a ++ b) c

pub joined5 : (t a b c d e : List ℕ) → ((((t ++ a) ++ b) ++ c) ++ d) ++ e ≡ t ++ ((((a ++ b) ++ c) ++ d) ++ e)
joined5 t a b c d e =
    ap (λ (x : List ℕ). (x ++ d) ++ e) (joined3 t a b c) ∙ joined3 t ((a ++ b) ++ c) d e

pub joined6 : (t a b c d e f : List ℕ) → (((((t ++ a) ++ b) ++ c) ++ d) ++ e) ++ f ≡ t ++ (((((a ++ b) ++ c) ++ d) ++ e) ++ f)
joined6 t a b c d e f = ap (λ (x : List ℕ). x ++ f) (joined5 t a b c d e) ∙ append_assoc t ((((a ++ b) ++ c) ++ d) ++ e) f

-- a loop that writes the octets of each element
pub one_written : {X : Type 0} (octets : X → List ℕ) (all : List X → List ℕ) → ((x : X) (xs : List X) → all (x ∷ xs) ≡ octets x ++ all xs)
    → (before after whole : List ℕ) (xs : List X) (i : ℕ) (x d : X) → i < length xs → x ≡ get_or xs i d → after ≡ before ++ octets x
    → before ++ all (drop i xs) ≡ whole → after ++ all (drop (i + 1) xs) ≡ whole
one_written octets all more before after whole xs i x d inside read written rest =
    ap (λ (t : List ℕ). t ++ all (drop (i + 1) xs)) written ∙ append_assoc before (octets x) (all (drop (i + 1) xs))
    ∙ ap (λ (t : List ℕ). before ++ t) (sym (more x (drop (i + 1) xs)) ∙ ap (λ y. all (y ∷ drop (i + 1) xs)) read ∙ sym (ap all (drop_more xs i d inside)))
    ∙ rest
