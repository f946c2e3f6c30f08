-- What changes as a route gets a status, and what doesn't.
use Rattle.routes.proofs.Basics.{◌≡◌, ◌≢◌, ℕ, zero, suc, true, false, cond, List, [], ◌∷◌, map, find, refl, ap, sym, ◌∙◌, Option, Some, slice_index_or, slice_set, nat_eq, if◌then◌else◌, option_map, get_or-map, get_or-set_other, Route, RouteStatus, Allowed, Facts, routes_to, with_status_over, with_status, choice_among, taken_by, link_by, chosen_routes, chosen_link, leads_by, status_of, with_statuses_reset}

-- ---- another destination

routes_left : (f : Facts) (destination other set : ℕ) (status : RouteStatus) → destination ≢ other
    → routes_to (with_status destination set status f) other ≡ routes_to f other
routes_left f destination other set status apart =
    get_or-set_other f.routes destination other (map (with_status_over set status) (routes_to f destination)) [] (λ e. apart (sym e))

pub other_routes : (f : Facts) (destination other set : ℕ) (status : RouteStatus) → destination ≢ other
    → chosen_routes (with_status destination set status f) other ≡ chosen_routes f other
unfolding choice_among
other_routes f destination other set status apart =
    ap (λ (routes : List Route). taken_by f (choice_among f routes)) (routes_left f destination other set status apart)

pub other_link : (f : Facts) (destination other set selection : ℕ) (status : RouteStatus) → destination ≢ other
    → chosen_link (with_status destination set status f) other selection ≡ chosen_link f other selection
unfolding choice_among link_by
other_link f destination other set selection status apart =
    ap (λ (routes : List Route). link_by f (choice_among f routes) selection) (routes_left f destination other set status apart)

-- ---- the status that is read

goes_as_before : (set : ℕ) (status : RouteStatus) (r : Route) → leads_by set (with_status_over set status r) ≡ leads_by set r
goes_as_before set status r =
    elim (nat_eq r.set set) as (λ b. nat_eq (if b then record r { status = status } else r).set set ≡ nat_eq r.set set) [ true ↦ refl | false ↦ refl ]

has_status : (set : ℕ) (status : RouteStatus) (r : Route) → nat_eq r.set set ≡ true → (with_status_over set status r).status ≡ status
has_status set status r e = rw e refl

read_among : (set : ℕ) (status : RouteStatus) (routes : List Route)
    → option_map (λ route. route.status) (find (leads_by set) (map (with_status_over set status) routes))
    ≡ option_map (λ old. status) (option_map (λ route. route.status) (find (leads_by set) routes))
read_among set status [] = refl
read_among set status (r ∷ rs) =
    rw (goes_as_before set status r)
    (elim (nat_eq r.set set) as (λ b. nat_eq r.set set ≡ b
    → option_map (λ route. route.status) (cond b (Some (with_status_over set status r)) (find (leads_by set) (map (with_status_over set status) rs)))
    ≡ option_map (λ old. status) (option_map (λ route. route.status) (cond b (Some r) (find (leads_by set) rs)))) [
      | true ↦ λ e. ap (λ (s : RouteStatus). Some s) (has_status set status r e)
      | false ↦ λ e. read_among set status rs
    ] refl)

-- an element that is replaced by what is made of it
read_back : (g : List Route → List Route) → g [] ≡ [] → (xs : List (List Route)) (i : ℕ)
    → slice_index_or (slice_set xs i (g (slice_index_or xs i []))) i [] ≡ g (slice_index_or xs i [])
read_back g none [] i = sym none
read_back g none (x ∷ xs) zero = refl
read_back g none (x ∷ xs) (suc i) = read_back g none xs i

-- the status of the route by a set among these
abbrev pub status_among : ℕ → List Route → Option RouteStatus
status_among set routes = option_map (λ route. route.status) (find (leads_by set) routes)

pub read_told : (f : Facts) (destination set : ℕ) (status : RouteStatus)
    → status_of (with_status destination set status f) destination set ≡ option_map (λ old. status) (status_of f destination set)
read_told f destination set status =
    ap (status_among set) (read_back (map (with_status_over set status)) refl f.routes destination) ∙ read_among set status (routes_to f destination)

routes_reset : (f : Facts) (set destination : ℕ) → routes_to (with_statuses_reset set f) destination ≡ map (with_status_over set Allowed) (routes_to f destination)
routes_reset f set destination = get_or-map (map (with_status_over set Allowed)) f.routes destination []

pub read_reset : (f : Facts) (destination set : ℕ)
    → status_of (with_statuses_reset set f) destination set ≡ option_map (λ old. Allowed) (status_of f destination set)
read_reset f destination set = ap (status_among set) (routes_reset f set destination) ∙ read_among set Allowed (routes_to f destination)
