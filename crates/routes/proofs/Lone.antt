-- If the group that messages take is one set alone, that set decides their links.
use Rattle.routes.proofs.Basics.{◌≡◌, ℕ, Bool, true, false, ◌||◌, cond, List, [], ◌∷◌, ◌++◌, find, refl, ap, sym, ◌∙◌, Option, Some, unwrap_or, list_any, flat_map-cons, Member, members_of, first_serving, Route, RouteStatus, Allowed, Restricted, Facts, set_at, routes_to, is_open, groups_of, open_group, allowed_or, choice_among, sets_of, members, link_by, chosen_link, alone_in, lone_set}

one_open : (b : Bool) → (b || false) ≡ true → b ≡ true
one_open true e = refl
one_open false e = absurd cc

module _ (f : Facts) where
  -- a group that was found has an open route
  pub found_open : (status : RouteStatus) (groups : List (List Route)) (first : Route) (rest : List Route)
      → first ∷ rest ≡ open_group f status groups → list_any (is_open f status) (first ∷ rest) ≡ true
  found_open status [] first rest e = absurd cc
  found_open status (g ∷ gs) first rest e =
      elim (list_any (is_open f status) g) as (λ b. list_any (is_open f status) g ≡ b
      → first ∷ rest ≡ unwrap_or (cond b (Some g) (find (list_any (is_open f status)) gs)) [] → list_any (is_open f status) (first ∷ rest) ≡ true) [
        | true ↦ λ up here. ap (list_any (is_open f status)) here ∙ up
        | false ↦ λ down there. found_open status gs first rest there
      ] refl e

  -- the link of a flow by a set alone
  abbrev by_set : (set selection : ℕ) → Option ℕ
  by_set set selection = first_serving selection f.in_service (set ∷ []) (members_of set (set_at f set) ++ [])

  taken_alone : (status : RouteStatus) (r : Route) (selection : ℕ) → list_any (is_open f status) (r ∷ []) ≡ true
      → link_by f (record { group = r ∷ []; status = status }) selection ≡ by_set r.set selection
  unfolding link_by
  taken_alone status r selection e =
      ap (λ (b : Bool). first_serving selection f.in_service (sets_of (cond b (r ∷ []) [])) (members f (r ∷ []))) (one_open (is_open f status r) e)
      ∙ ap (λ (ms : List Member). first_serving selection f.in_service (r.set ∷ []) ms)
      (flat_map-cons (λ (route : Route). members_of route.set (set_at f route.set)) r [])

  lone_by : (groups : List (List Route)) (allowed restricted : List Route) (set selection : ℕ)
      → allowed ≡ open_group f Allowed groups → restricted ≡ open_group f Restricted groups
      → alone_in (allowed_or allowed restricted).group ≡ Some set → link_by f (allowed_or allowed restricted) selection ≡ by_set set selection
  lone_by groups [] [] set selection a r e = absurd cc
  lone_by groups [] (x ∷ []) set selection a r e =
      let same : x.set ≡ set = cc in
      taken_alone Restricted x selection (found_open Restricted groups x [] r) ∙ ap (λ (n : ℕ). by_set n selection) same
  lone_by groups [] (x ∷ y ∷ ys) set selection a r e = absurd cc
  lone_by groups (x ∷ []) restricted set selection a r e =
      let same : x.set ≡ set = cc in
      taken_alone Allowed x selection (found_open Allowed groups x [] a) ∙ ap (λ (n : ℕ). by_set n selection) same
  lone_by groups (x ∷ y ∷ ys) restricted set selection a r e = absurd cc

  pub lone_link : (destination set selection : ℕ) → lone_set f destination ≡ Some set → chosen_link f destination selection ≡ by_set set selection
  unfolding choice_among
  lone_link destination set selection e =
      lone_by (groups_of (routes_to f destination)) (open_group f Allowed (groups_of (routes_to f destination)))
      (open_group f Restricted (groups_of (routes_to f destination))) set selection refl refl e

pub lone_alike : (f : Facts) (destination other set selection : ℕ) → lone_set f destination ≡ Some set → lone_set f other ≡ Some set
    → chosen_link f destination selection ≡ chosen_link f other selection
lone_alike f destination other set selection e k = lone_link f destination set selection e ∙ sym (lone_link f other set selection k)
