-- No route that messages take is prohibited.
use Rattle.routes.proofs.Basics.{◌≡◌, ◌≢◌, ℕ, Bool, true, ◌&&◌, ◌==◌, List, [], ◌∷◌, All, filter, All-weaker, filter_passes, has_link, Route, RouteStatus, Allowed, Restricted, Prohibited, Facts, set_at, routes_to, status_number, is_open, groups_of, open_group, allowed_or, choice_among, taken_by, chosen_routes}

-- what is open with a status that isn't prohibited isn't prohibited itself
allowed_isnt : (s : RouteStatus) (b : Bool) → ((status_number s == status_number Allowed) && b) ≡ true → s ≢ Prohibited
allowed_isnt Allowed b e = λ p. absurd cc
allowed_isnt Restricted b e = λ p. absurd cc
allowed_isnt Prohibited b e = λ p. absurd cc

restricted_isnt : (s : RouteStatus) (b : Bool) → ((status_number s == status_number Restricted) && b) ≡ true → s ≢ Prohibited
restricted_isnt Allowed b e = λ p. absurd cc
restricted_isnt Restricted b e = λ p. absurd cc
restricted_isnt Prohibited b e = λ p. absurd cc

either_isnt : (f : Facts) (allowed restricted : List Route) → All (λ (r : Route). r.status ≢ Prohibited) (taken_by f (allowed_or allowed restricted))
either_isnt f [] restricted =
    All-weaker (λ (r : Route). is_open f Restricted r ≡ true) (λ (r : Route). r.status ≢ Prohibited)
    (λ r e. restricted_isnt r.status (has_link f.in_service (set_at f r.set)) e)
    (filter (is_open f Restricted) restricted) (filter_passes (is_open f Restricted) restricted)
either_isnt f (first ∷ rest) restricted =
    All-weaker (λ (r : Route). is_open f Allowed r ≡ true) (λ (r : Route). r.status ≢ Prohibited)
    (λ r e. allowed_isnt r.status (has_link f.in_service (set_at f r.set)) e)
    (filter (is_open f Allowed) (first ∷ rest)) (filter_passes (is_open f Allowed) (first ∷ rest))

pub none_prohibited : (f : Facts) (destination : ℕ) → All (λ (r : Route). r.status ≢ Prohibited) (chosen_routes f destination)
unfolding choice_among
none_prohibited f destination =
    either_isnt f (open_group f Allowed (groups_of (routes_to f destination))) (open_group f Restricted (groups_of (routes_to f destination)))
