-- While no link of a set is in service, its statuses don't matter.
use Rattle.routes.proofs.Basics.{◌≡◌, ℕ, Bool, true, false, cond, List, [], ◌∷◌, ◌==◌, ◌||◌, map, find, refl, ap, sym, ◌∙◌, Some, nat_eq, unwrap_or, if◌then◌else◌, list_any, filter, flat_map, get_or-map, eqb-true, flat_map-map, Member, has_link, members_of, first_serving, Route, RouteStatus, Allowed, Restricted, Facts, set_at, routes_to, with_status_over, status_number, is_open, alone, groups_of, open_group, Choice, allowed_or, choice_among, taken_by, sets_of, members, link_by, chosen_routes, chosen_link, with_statuses_reset, and_right}

module _ (f : Facts) (set : ℕ) (down : has_link f.in_service (set_at f set) ≡ false) where
  -- a route that is allowed if it goes by the set
  abbrev again : Route → Route
  again = with_status_over set Allowed

  same_set : (r : Route) → (again r).set ≡ r.set
  same_set r = elim (nat_eq r.set set) as (λ b. (if b then record r { status = Allowed } else r).set ≡ r.set) [ true ↦ refl | false ↦ refl ]

  same_joined : (r : Route) → (again r).joined ≡ r.joined
  same_joined r = elim (nat_eq r.set set) as (λ b. (if b then record r { status = Allowed } else r).joined ≡ r.joined) [ true ↦ refl | false ↦ refl ]

  -- a route by a set without a link in service isn't open, whatever its status
  is_closed : (status old : RouteStatus) (r : Route) → nat_eq r.set set ≡ true → is_open f status (record r { status = old }) ≡ false
  is_closed status old r same =
      and_right (status_number old == status_number status) _ (ap (λ n. has_link f.in_service (set_at f n)) (eqb-true r.set set same) ∙ down)

  open_again : (status : RouteStatus) (r : Route) → is_open f status (again r) ≡ is_open f status r
  open_again status r =
      elim (nat_eq r.set set) as (λ b. nat_eq r.set set ≡ b → is_open f status (if b then record r { status = Allowed } else r) ≡ is_open f status r) [
        | true ↦ λ same. is_closed status Allowed r same ∙ sym (is_closed status r.status r same)
        | false ↦ λ apart. refl
      ] refl

  -- where a route is open it stays as it is
  kept_open : (status : RouteStatus) (r : Route) → is_open f status r ≡ true → again r ≡ r
  kept_open status r up =
      elim (nat_eq r.set set) as (λ b. nat_eq r.set set ≡ b → (if b then record r { status = Allowed } else r) ≡ r) [
        | true ↦ λ same. let never : is_open f status r ≡ false = is_closed status r.status r same in absurd cc
        | false ↦ λ apart. refl
      ] refl

  any_again : (status : RouteStatus) (routes : List Route) → list_any (is_open f status) (map again routes) ≡ list_any (is_open f status) routes
  any_again status [] = refl
  any_again status (r ∷ rs) =
      ap (λ (b : Bool). b || list_any (is_open f status) (map again rs)) (open_again status r)
      ∙ ap (λ (b : Bool). is_open f status r || b) (any_again status rs)

  alone_again : (routes : List Route) → alone (map again routes) ≡ map (map again) (alone routes)
  alone_again [] = refl
  alone_again (r ∷ rs) = ap (λ (gs : List (List Route)). (again r ∷ []) ∷ gs) (alone_again rs)

  groups_again : (routes : List Route) → groups_of (map again routes) ≡ map (map again) (groups_of routes)
  groups_again [] = refl
  groups_again (a ∷ []) = refl
  groups_again (a ∷ b ∷ rest) =
      ap (λ (j : Bool). if j then (again a ∷ again b ∷ []) ∷ alone (map again rest) else alone (again a ∷ again b ∷ map again rest)) (same_joined b)
      ∙ elim b.joined as (λ j. (if j then (again a ∷ again b ∷ []) ∷ alone (map again rest) else alone (again a ∷ again b ∷ map again rest))
      ≡ map (map again) (if j then (a ∷ b ∷ []) ∷ alone rest else alone (a ∷ b ∷ rest))) [
        | true ↦ ap (λ (gs : List (List Route)). (again a ∷ again b ∷ []) ∷ gs) (alone_again rest)
        | false ↦ alone_again (a ∷ b ∷ rest)
      ]

  group_again : (status : RouteStatus) (groups : List (List Route)) → open_group f status (map (map again) groups) ≡ map again (open_group f status groups)
  group_again status [] = refl
  group_again status (g ∷ gs) =
      ap (λ (b : Bool). unwrap_or (cond b (Some (map again g)) (find (list_any (is_open f status)) (map (map again) gs))) []) (any_again status g)
      ∙ elim (list_any (is_open f status) g) as (λ b. unwrap_or (cond b (Some (map again g)) (find (list_any (is_open f status)) (map (map again) gs))) []
      ≡ map again (unwrap_or (cond b (Some g) (find (list_any (is_open f status)) gs)) [])) [ true ↦ refl | false ↦ group_again status gs ]

  -- a choice by the same group, with its statuses as they are then
  abbrev choice_again : Choice → Choice
  choice_again c = record { group = map again c.group; status = c.status }

  either_again : (allowed restricted : List Route) → allowed_or (map again allowed) (map again restricted) ≡ choice_again (allowed_or allowed restricted)
  either_again [] restricted = refl
  either_again (first ∷ rest) restricted = refl

  choice_is : (routes : List Route) → choice_among f (map again routes) ≡ choice_again (choice_among f routes)
  unfolding choice_among
  choice_is routes =
      ap (λ (groups : List (List Route)). allowed_or (open_group f Allowed groups) (open_group f Restricted groups)) (groups_again routes)
      ∙ ap (λ (g : List Route). allowed_or g (open_group f Restricted (map (map again) (groups_of routes)))) (group_again Allowed (groups_of routes))
      ∙ ap (λ (g : List Route). allowed_or (map again (open_group f Allowed (groups_of routes))) g) (group_again Restricted (groups_of routes))
      ∙ either_again (open_group f Allowed (groups_of routes)) (open_group f Restricted (groups_of routes))

  filter_again : (status : RouteStatus) (routes : List Route) → filter (is_open f status) (map again routes) ≡ filter (is_open f status) routes
  filter_again status [] = refl
  filter_again status (r ∷ rs) =
      ap (λ (b : Bool). cond b (again r ∷ filter (is_open f status) (map again rs)) (filter (is_open f status) (map again rs))) (open_again status r)
      ∙ elim (is_open f status r) as (λ b. is_open f status r ≡ b → cond b (again r ∷ filter (is_open f status) (map again rs)) (filter (is_open f status) (map again rs))
      ≡ cond b (r ∷ filter (is_open f status) rs) (filter (is_open f status) rs)) [
        | true ↦ λ up. ap (λ (x : Route). x ∷ filter (is_open f status) (map again rs)) (kept_open status r up) ∙ ap (λ (xs : List Route). r ∷ xs) (filter_again status rs)
        | false ↦ λ shut. filter_again status rs
      ] refl

  members_again : (routes : List Route) → members f (map again routes) ≡ members f routes
  members_again routes =
      flat_map-map (λ (route : Route). members_of route.set (set_at f route.set)) again routes
      ∙ ap (λ (g : Route → List Member). flat_map g routes) (λ i. λ r. members_of (same_set r i) (set_at f (same_set r i)))

  told_again : (destination : ℕ) → routes_to (with_statuses_reset set f) destination ≡ map again (routes_to f destination)
  told_again destination = get_or-map (map again) f.routes destination []

  choice_then : (destination : ℕ) → choice_among f (routes_to (with_statuses_reset set f) destination) ≡ choice_again (choice_among f (routes_to f destination))
  choice_then destination = ap (choice_among f) (told_again destination) ∙ choice_is (routes_to f destination)

  -- a choice goes by the statuses of the routes that it is made among, and not by those of others
  same_choice : (routes : List Route) → choice_among (with_statuses_reset set f) routes ≡ choice_among f routes
  unfolding choice_among
  same_choice routes = refl

  pub routes_again : (destination : ℕ) → chosen_routes (with_statuses_reset set f) destination ≡ chosen_routes f destination
  routes_again destination =
      let c : Choice = choice_among f (routes_to f destination) in
      ap (taken_by f) (same_choice (routes_to (with_statuses_reset set f) destination) ∙ choice_then destination) ∙ filter_again c.status c.group

  pub link_again : (destination selection : ℕ) → chosen_link (with_statuses_reset set f) destination selection ≡ chosen_link f destination selection
  unfolding link_by
  link_again destination selection =
      let c : Choice = choice_among f (routes_to f destination) in
      ap (λ (d : Choice). link_by f d selection) (same_choice (routes_to (with_statuses_reset set f) destination) ∙ choice_then destination)
      ∙ ap (λ (routes : List Route). first_serving selection f.in_service (sets_of routes) (members f (map again c.group))) (filter_again c.status c.group)
      ∙ ap (λ (ms : List Member). first_serving selection f.in_service (sets_of (taken_by f c)) ms) (members_again c.group)

pub reset_routes : (f : Facts) (set destination : ℕ) → has_link f.in_service (set_at f set) ≡ false
    → chosen_routes (with_statuses_reset set f) destination ≡ chosen_routes f destination
reset_routes f set destination down = routes_again f set down destination

pub reset_link : (f : Facts) (set destination selection : ℕ) → has_link f.in_service (set_at f set) ≡ false
    → chosen_link (with_statuses_reset set f) destination selection ≡ chosen_link f destination selection
reset_link f set destination selection down = link_again f set down destination selection
