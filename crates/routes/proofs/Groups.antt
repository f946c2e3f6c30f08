-- The groups of some routes: what holds of no route holds of none in a group.
use Rattle.routes.proofs.Basics.{◌≡◌, Bool, true, false, ◌||◌, cond, List, [], ◌∷◌, find, refl, Some, unwrap_or, if◌then◌else◌, list_any, Route, alone, groups_of, allowed_or, or_parts}

joined_or : (x y u v : Bool) → u ≡ v → ((x || (y || false)) || u) ≡ (x || (y || v))
joined_or true y u v e = refl
joined_or false true u v e = refl
joined_or false false u v e = e

alone_or : (x u v : Bool) → u ≡ v → ((x || false) || u) ≡ (x || v)
alone_or true u v e = refl
alone_or false u v e = e

module _ (p : Route → Bool) where
  any_alone : (routes : List Route) → list_any (list_any p) (alone routes) ≡ list_any p routes
  any_alone [] = refl
  any_alone (r ∷ rs) = alone_or (p r) (list_any (list_any p) (alone rs)) (list_any p rs) (any_alone rs)

  pub any_group : (routes : List Route) → list_any (list_any p) (groups_of routes) ≡ list_any p routes
  any_group [] = refl
  any_group (a ∷ []) = any_alone (a ∷ [])
  any_group (a ∷ b ∷ rest) =
      elim b.joined as (λ j. list_any (list_any p) (if j then (a ∷ b ∷ []) ∷ alone rest else alone (a ∷ b ∷ rest)) ≡ list_any p (a ∷ b ∷ rest)) [
        | true ↦ joined_or (p a) (p b) (list_any (list_any p) (alone rest)) (list_any p rest) (any_alone rest)
        | false ↦ any_alone (a ∷ b ∷ rest)
      ]

  pub found_apart : (q : List Route → Bool) (groups : List (List Route)) → list_any (list_any p) groups ≡ false
      → list_any p (unwrap_or (find q groups) []) ≡ false
  found_apart q [] e = refl
  found_apart q (g ∷ gs) e =
      elim (q g) as (λ b. list_any p (unwrap_or (cond b (Some g) (find q gs)) []) ≡ false) [
        | true ↦ (or_parts (list_any p g) _ e).0
        | false ↦ found_apart q gs (or_parts (list_any p g) _ e).1
      ]

  pub either_apart : (allowed restricted : List Route) → list_any p allowed ≡ false → list_any p restricted ≡ false
      → list_any p (allowed_or allowed restricted).group ≡ false
  either_apart [] restricted e k = k
  either_apart (first ∷ rest) restricted e k = e
