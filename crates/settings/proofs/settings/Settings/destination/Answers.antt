-- Where an element is in a list.
use Rattle.settings.proofs.Basics.{nat_eq, ◌≡◌, ◌+◌, Bool, not, cond, List, [], ◌∷◌, map, position, refl, ap, prefix_len, length-map}
use Rattle.settings.proofs.settings.Settings.destination.Goals as goal

prefix_len-map : {X Y : Type 0} (p : Y → Bool) (f : X → Y) (xs : List X) → prefix_len p (map f xs) ≡ prefix_len (λ x. p (f x)) xs
prefix_len-map p f [] = refl
prefix_len-map p f (x ∷ xs) = ap (λ n. cond (p (f x)) (1 + n) 0) (prefix_len-map p f xs)

-- a place among the images of a list is a place in the list
position-map : {X Y : Type 0} (p : Y → Bool) (f : X → Y) (xs : List X) → position p (map f xs) ≡ position (λ x. p (f x)) xs
position-map p f xs = rw (prefix_len-map (λ y. not (p y)) f xs, length-map xs f) refl

pub returns : goal.returns
returns c =
    rw (c.place.ensures, c.self.invariant.indexed, ← c.self.view_is) (position-map (nat_eq c.args.point) (λ d. d.point) c.self.inside.checked.arrays.tables.destinations.items)
