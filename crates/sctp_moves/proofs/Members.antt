-- Membership by recursion: a case for each element that is prepended.
use Rattle.std.proofs.Common.{◌≡◌, ◌⊎◌, inl, inr, ℕ, zero, suc, List, [], ◌∷◌, map, slice_get, refl, ap, sym, subst, arith, Option, Some, None}
use Rattle.std.specs.List.{All, Contains}
use Rattle.std.proofs.lemmas.Grind.{common_steps}
use Rattle.std.proofs.lemmas.List.Elements.{All-nil, All-cons, All-weaker, All-contains, Contains-get_or, Contains-append_right}

abbrev pub In : {X : Type 0} → X → List X → Type 0
In x [] = ⊥
In x (y ∷ ys) = (x ≡ y) ⊎ In x ys

all-in : {X : Type 0} (xs : List X) → All (λ y. In y xs) xs
all-in {X = X} [] = All-nil (λ (y : X). In y [])
all-in {X = X} (x ∷ xs) =
    All-cons (λ (y : X). In y (x ∷ xs)) x xs (inl refl) (All-weaker (λ (y : X). In y xs) (λ (y : X). In y (x ∷ xs)) (λ y m. inr m) xs (all-in xs))

pub in-from : {X : Type 0} (xs : List X) (x : X) → Contains xs x → In x xs
in-from {X = X} xs x c = All-contains (λ (y : X). In y xs) xs x (all-in xs) c

pub contains-from : {X : Type 0} (xs : List X) (x : X) → In x xs → Contains xs x
contains-from [] x m = absurd m
contains-from {X = X} (y ∷ ys) x (inl e) = subst (Contains (y ∷ ys)) (sym e) (Contains-get_or (y ∷ ys) 0 y (omega arith))
contains-from (y ∷ ys) x (inr m) = Contains-append_right (y ∷ []) ys x (contains-from ys x m)

pub in-map : {X Y : Type 0} (f : X → Y) (xs : List X) (x : X) → In x xs → In (f x) (map f xs)
in-map f [] x m = absurd m
in-map f (y ∷ ys) x (inl e) = inl (ap f e)
in-map f (y ∷ ys) x (inr m) = inr (in-map f ys x m)

pub in-unmap : {X Y : Type 0} (f : X → Y) (xs : List X) (y : Y) → In y (map f xs) → (x : X) × In x xs × (f x ≡ y)
in-unmap f [] y m = absurd m
in-unmap f (x ∷ xs) y (inl e) = (x, inl refl, sym e)
in-unmap f (x ∷ xs) y (inr m) = let r = in-unmap f xs y m in (r.0, inr r.1, r.2)

pub in-more : {X : Type 0} (x y : X) (xs ys : List X) → (In x xs → In x ys) → In x (y ∷ xs) → In x (y ∷ ys)
in-more x y xs ys f (inl e) = inl e
in-more x y xs ys f (inr m) = inr (f m)

-- the element in a place
pub some-same : {X : Type 0} {x y : X} → Some x ≡ Some y → x ≡ y
some-same e = cc

pub in-place : {X : Type 0} (xs : List X) (i : ℕ) (x : X) → slice_get xs i ≡ Some x → In x xs
in-place [] i x e = grind (arith, common_steps)
in-place (y ∷ ys) zero x e = inl (sym (some-same e))
in-place (y ∷ ys) (suc i) x e = inr (in-place ys i x e)

map-some : {X Y : Type 0} (f : X → Y) → Option X → Option Y
map-some f None = None
map-some f (Some x) = Some (f x)

pub place-map : {X Y : Type 0} (f : X → Y) (xs : List X) (i : ℕ) (x : X) → slice_get xs i ≡ Some x → slice_get (map f xs) i ≡ Some (f x)
place-map f [] i x e = absurd (grind (arith, common_steps))
place-map {Y = Y} f (y ∷ ys) zero x e = ap (λ z. Some (f z)) (some-same e)
place-map f (y ∷ ys) (suc i) x e = place-map f ys i x e
