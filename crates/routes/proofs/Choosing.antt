-- A flow has a link exactly when messages to its destination take a set.
use Rattle.routes.proofs.Basics.{◌≡◌, ℕ, suc, Bool, true, false, ◌&&◌, ◌||◌, nat_eq, nat_lt, cond, List, [], ◌∷◌, length, refl, ap, ◌∙◌, arith, is_some, list_any, filter, flat_map-cons, list_any-append, nat_tests, Decides-eqb, Member, has_link, is_in_service, members_of, serves, Route, RouteStatus, Facts, set_at, routes_to, Choice, choice_among, is_open, taken_by, sets_of, members, link_by, chosen_link, chosen_sets, and_from, and_parts, or_left, or_right}
use Rattle.routes.proofs.MembersInService.{some_serves}

-- whether a set is one of these
abbrev is_one : List ℕ → ℕ → Bool
is_one sets set = list_any (λ s. nat_eq s set) sets

set_out : (a h o : Bool) → ((a && o) || (h && o)) ≡ ((a || h) && o)
set_out true h true = refl
set_out true true false = refl
set_out true false false = refl
set_out false h o = refl

-- some link of a set serves where one is in service, and messages take that set
set_serves : (in_service : List Bool) (sets : List ℕ) (set : ℕ) (links : List ℕ)
    → list_any (serves in_service sets) (members_of set links) ≡ (has_link in_service links && is_one sets set)
set_serves in_service sets set [] = refl
set_serves in_service sets set (l ∷ ls) =
    ap (λ (b : Bool). (is_in_service in_service l && is_one sets set) || b) (set_serves in_service sets set ls)
    ∙ set_out (is_in_service in_service l) (has_link in_service ls) (is_one sets set)

module _ (f : Facts) (status : RouteStatus) where
  -- the sets of those of these routes that are open
  abbrev open_sets : List Route → List ℕ
  open_sets routes = sets_of (filter (is_open f status) routes)

  first_serves : (sets : List ℕ) (r : Route) (rs : List Route)
      → list_any (serves f.in_service sets) (members f (r ∷ rs))
      ≡ ((has_link f.in_service (set_at f r.set) && is_one sets r.set) || list_any (serves f.in_service sets) (members f rs))
  first_serves sets r rs =
      ap (λ (ms : List Member). list_any (serves f.in_service sets) ms) (flat_map-cons (λ (route : Route). members_of route.set (set_at f route.set)) r rs)
      ∙ list_any-append (serves f.in_service sets) (members_of r.set (set_at f r.set)) (members f rs)
      ∙ ap (λ (b : Bool). b || list_any (serves f.in_service sets) (members f rs)) (set_serves f.in_service sets r.set (set_at f r.set))

  some_open : (routes : List Route) → list_any (is_open f status) routes ≡ true
      → list_any (serves f.in_service (open_sets routes)) (members f routes) ≡ true
  some_open [] e = absurd cc
  some_open (r ∷ rs) e =
      elim (is_open f status r) as (λ b. is_open f status r ≡ b → (b || list_any (is_open f status) rs) ≡ true
      → list_any (serves f.in_service (sets_of (cond b (r ∷ filter (is_open f status) rs) (filter (is_open f status) rs)))) (members f (r ∷ rs)) ≡ true) [
        | true ↦ λ up some.
            first_serves (r.set ∷ open_sets rs) r rs
            ∙ or_left (has_link f.in_service (set_at f r.set) && is_one (r.set ∷ open_sets rs) r.set) _
            (and_from (has_link f.in_service (set_at f r.set)) (is_one (r.set ∷ open_sets rs) r.set) (and_parts _ (has_link f.in_service (set_at f r.set)) up).1
            (or_left (nat_eq r.set r.set) _ ((Decides-eqb r.set r.set).1 refl)))
        | false ↦ λ down some.
            first_serves (open_sets rs) r rs
            ∙ or_right (has_link f.in_service (set_at f r.set) && is_one (open_sets rs) r.set) _ (some_open rs some)
      ] refl e

  none_taken : (group : List Member) → list_any (serves f.in_service []) group ≡ false
  none_taken [] = refl
  none_taken (m ∷ ms) =
      elim (is_in_service f.in_service m.link) as (λ b. ((b && false) || list_any (serves f.in_service []) ms) ≡ false) [ true ↦ none_taken ms | false ↦ none_taken ms ]

  none_open : (routes : List Route) → list_any (is_open f status) routes ≡ false → open_sets routes ≡ []
  none_open [] e = refl
  none_open (r ∷ rs) e =
      elim (is_open f status r) as (λ b. (b || list_any (is_open f status) rs) ≡ false
      → sets_of (cond b (r ∷ filter (is_open f status) rs) (filter (is_open f status) rs)) ≡ []) [ true ↦ λ k. absurd cc | false ↦ λ k. none_open rs k ] e

  some_long : (n : ℕ) → true ≡ nat_lt 0 (suc n)
  some_long n = grind (arith, nat_tests)

  -- how many sets are taken
  counted : (routes : List Route) → list_any (is_open f status) routes ≡ nat_lt 0 (length (open_sets routes))
  counted [] = refl
  counted (r ∷ rs) =
      elim (is_open f status r) as (λ b. (b || list_any (is_open f status) rs)
      ≡ nat_lt 0 (length (sets_of (cond b (r ∷ filter (is_open f status) rs) (filter (is_open f status) rs))))) [
        | true ↦ some_long (length (open_sets rs))
        | false ↦ counted rs
      ]

  pub served : (routes : List Route) → list_any (serves f.in_service (open_sets routes)) (members f routes) ≡ list_any (is_open f status) routes
  served routes =
      elim (list_any (is_open f status) routes) as (λ b. list_any (is_open f status) routes ≡ b
      → list_any (serves f.in_service (open_sets routes)) (members f routes) ≡ b) [
        | true ↦ λ e. some_open routes e
        | false ↦ λ e. ap (λ (sets : List ℕ). list_any (serves f.in_service sets) (members f routes)) (none_open routes e) ∙ none_taken (members f routes)
      ] refl

pub linked_by_choice : (f : Facts) (c : Choice) (selection : ℕ) → is_some (link_by f c selection) ≡ nat_lt 0 (length (sets_of (taken_by f c)))
unfolding link_by
linked_by_choice f c selection =
    some_serves selection f.in_service (sets_of (taken_by f c)) (members f c.group)
    ∙ served f c.status c.group
    ∙ counted f c.status c.group

pub linked_by_sets : (f : Facts) (destination selection : ℕ) → is_some (chosen_link f destination selection) ≡ nat_lt 0 (length (chosen_sets f destination))
linked_by_sets f destination selection = linked_by_choice f (choice_among f (routes_to f destination)) selection
