-- The links of all flows, in a table: a row for each destination, with a place for each selection.
use Rattle.std.specs.Prelude.{ℕ, zero, suc, Bool, List, Option, map, slice_set, if◌then◌else◌}
use Rattle.std.specs.List.{list_any, range_with_len}
use Rattle.signalling_types.specs.declared.limits.TheConstants.Limits.{SELECTIONS}
use Rattle.routes.specs.Routes.{has_member, first_serving, Facts, set_at, routes_to, Choice, choice_among, taken_by, sets_of, members, leads_by}
use Rattle.routes.specs.declared.link_group.Member.{Member}
use Rattle.routes.specs.declared.route.Route.{Route}

-- the links of flows that take these sets of a group
unfoldable pub links_of_group : List Bool → (sets : List ℕ) → List Member → List (Option ℕ)
links_of_group in_service sets group =
    map (λ selection. first_serving selection in_service sets group) (range_with_len 0 SELECTIONS)

-- the links of the flows by a choice
abbrev pub links_by : Facts → Choice → List (Option ℕ)
links_by f c = links_of_group f.in_service (sets_of (taken_by f c)) (members f c.group)

-- the links of the flows to a destination
unfoldable pub links_among : Facts → List Route → List (Option ℕ)
links_among f routes = links_by f (choice_among f routes)

-- those of all flows
abbrev pub table_of : Facts → List (List (Option ℕ))
table_of f = map (links_among f) f.routes

-- ---- how a table is mended: each row for which a test of the routes says so

-- the row of a destination
abbrev pub mended_at : Facts → (destination : ℕ) → List (List (Option ℕ)) → List (List (Option ℕ))
mended_at f destination rows = slice_set rows destination (links_among f (routes_to f destination))

-- the rows of the first n destinations
unfoldable pub mended_below : ℕ → (List Route → Bool) → Facts → List (List (Option ℕ)) → List (List (Option ℕ))
mended_below zero p f rows = rows
mended_below (suc n) p f rows =
    if p (routes_to f n) then mended_at f n (mended_below n p f rows) else mended_below n p f rows

-- whether one of the routes goes by a set that has this link
abbrev pub goes_by_link : Facts → (link : ℕ) → List Route → Bool
goes_by_link f link routes = list_any (λ route. has_member link (set_at f route.set)) routes

-- whether one of the routes goes by this set
abbrev pub goes_by_set : (set : ℕ) → List Route → Bool
goes_by_set set routes = list_any (leads_by set) routes
