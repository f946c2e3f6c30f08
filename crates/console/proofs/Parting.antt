-- A text's parts, found from the front.
use Rattle.std.proofs.Common.{◌≡◌, ◌<◌, ℕ, length, ◌++◌, List, [], ◌∷◌, refl, sym, ap, append_assoc, rules, arith}
use Rattle.console.specs.Words.{parted, words, onto_first, begun}

pub begun-onto_first : (front : List ℕ) (c : ℕ) (parts : List (List ℕ)) → begun front (onto_first c parts) ≡ begun (front ++ (c ∷ [])) parts
begun-onto_first front c [] = refl
begun-onto_first front c (w ∷ ws) = ap (λ (x : List ℕ). x ∷ ws) (sym (append_assoc front (c ∷ []) w))

-- an octet that parts nothing goes into the front part
pub parted-unmarked : (mark : ℕ) (front : List ℕ) (c : ℕ) (rest : List ℕ) → (c ≡ mark → ⊥)
    → begun front (parted mark (c ∷ rest)) ≡ begun (front ++ (c ∷ [])) (parted mark rest)
parted-unmarked mark front c rest h = search (rules, begun-onto_first)

pub words-nonspace : (front : List ℕ) (c : ℕ) (rest : List ℕ) → (c ≡ 32 → ⊥) → begun front (words (c ∷ rest)) ≡ begun (front ++ (c ∷ [])) (words rest)
words-nonspace front c rest h = parted-unmarked 32 front c rest h

pub begun-nothing : (parts : List (List ℕ)) → begun [] parts ≡ parts
begun-nothing [] = refl
begun-nothing (w ∷ ws) = refl

length-onto_first : (octet : ℕ) (parts : List (List ℕ)) → length (onto_first octet parts) ≡ length parts
length-onto_first octet [] = refl
length-onto_first octet (part ∷ parts) = refl

-- a text has a part, though it may be empty
pub parted-some : (mark : ℕ) (text : List ℕ) → 0 < length (parted mark text)
parted-some mark [] = omega arith
parted-some mark (octet ∷ rest) = let e = length-onto_first octet (parted mark rest) in let h = parted-some mark rest in grind (arith)

pub ruleset word_steps = (begun-onto_first, words-nonspace, begun-nothing)
