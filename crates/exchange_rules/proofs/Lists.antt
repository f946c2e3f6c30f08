-- Lists of which one element changes, and lists of images.
use Rattle.exchange_rules.proofs.Basics.{◌≡◌, ◌+◌, ℕ, Bool, not, cond, List, [], ◌∷◌, get_or, map, sum_by, refl, ap, sym, ◌∙◌, zero, suc, replicate, set, get_or-map, map-set, set-get_or, sum_by-cons, length-map, position}
use Rattle.std.specs.List.{prefix_len}

-- an element is replaced by one of which f is as of the old one
pub map-set_alike : {A B : Type 0} (f : A → B) (xs : List A) (i : ℕ) (x d : A) → f x ≡ f (get_or xs i d) → map f xs ≡ map f (set xs i x)
map-set_alike f xs i x d e = sym (map-set f xs i x ∙ ap (λ y. set (map f xs) i y) e ∙ sym (map-set f xs i (get_or xs i d)) ∙ ap (map f) (set-get_or xs i d))

-- so of each element f is what it was
pub alike-at : {A B : Type 0} (f : A → B) (xs : List A) (i j : ℕ) (x d : A) → f x ≡ f (get_or xs i d) → f (get_or (set xs i x) j d) ≡ f (get_or xs j d)
alike-at f xs i j x d e = sym (get_or-map f (set xs i x) j d) ∙ ap (λ ys. get_or ys j (f d)) (sym (map-set_alike f xs i x d e)) ∙ get_or-map f xs j d

-- what holds of each element, of the default too, holds after one is replaced by another of which it holds
pub each-set : {A : Type 0} (P : A → Type 0) (xs : List A) (i j : ℕ) (x d : A) → ((k : ℕ) → P (get_or xs k d)) → P x → P (get_or (set xs i x) j d)
each-set P [] i j x d each h = each j
each-set P (y ∷ ys) zero zero x d each h = h
each-set P (y ∷ ys) zero (suc j) x d each h = each (suc j)
each-set P (y ∷ ys) (suc i) zero x d each h = each zero
each-set P (y ∷ ys) (suc i) (suc j) x d each h = each-set P ys i j x d (λ k. each (suc k)) h

pub each-replicate : {A : Type 0} (P : A → Type 0) (n j : ℕ) (x : A) → P x → P (get_or (replicate n x) j x)
each-replicate P zero j x h = h
each-replicate P (suc n) zero x h = h
each-replicate P (suc n) (suc j) x h = each-replicate P n j x h

pub map-replicate : {A B : Type 0} (f : A → B) (n : ℕ) (x : A) → map f (replicate n x) ≡ replicate n (f x)
map-replicate f zero x = refl
map-replicate f (suc n) x = ap (λ ys. f x ∷ ys) (map-replicate f n x)

pub sum_by-map : {A B : Type 0} (g : B → ℕ) (f : A → B) (xs : List A) → sum_by g (map f xs) ≡ sum_by (λ x. g (f x)) xs
sum_by-map g f [] = refl
sum_by-map g f (x ∷ xs) = rw (sum_by-cons g (f x) (map f xs), sum_by-cons (λ x. g (f x)) x xs, sum_by-map g f xs)

prefix_len-map : {A B : Type 0} (p : B → Bool) (f : A → B) (xs : List A) → prefix_len p (map f xs) ≡ prefix_len (λ x. p (f x)) xs
prefix_len-map p f [] = refl
prefix_len-map p f (x ∷ xs) = ap (λ n. cond (p (f x)) (1 + n) 0) (prefix_len-map p f xs)

-- a place among the images of a list is a place in the list
pub position-map : {A B : Type 0} (p : B → Bool) (f : A → B) (xs : List A) → position p (map f xs) ≡ position (λ x. p (f x)) xs
position-map p f xs = rw (prefix_len-map (λ y. not (p y)) f xs, length-map xs f) refl
