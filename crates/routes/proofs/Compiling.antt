-- The table of the links of all flows: what a look-up finds, and what the mended rows are.
use Rattle.routes.proofs.Basics.{◌≡◌, ◌<◌, ◌≤◌, ◌+◌, ℕ, zero, suc, Bool, true, false, List, [], ◌∷◌, ◌++◌, map, take, drop, length, refl, ap, sym, ◌∙◌, arith, add-one, drop_more, map_more, length-map, length-take-le, append_assoc, get_or_past, get_or_read, get_or-map, fill_by_all, get_or-map-range_with_len, filter, nat_tests, Option, None, nat_lt, slice_index_or, slice_set, if◌then◌else◌, Member, first_serving, Route, RouteStatus, Facts, routes_to, with_status_over, with_status, is_open, choice_among, sets_of, members, link_by, chosen_link, SELECTIONS, links_of_group, links_among, table_of, mended_at, mended_below}
use Rattle.std.proofs.lemmas.List.{set_at}

-- ---- a look-up

pub looked_up : (f : Facts) (destination selection : ℕ) → selection < SELECTIONS
    → slice_index_or (links_among f (routes_to f destination)) selection None ≡ chosen_link f destination selection
unfolding links_among links_of_group link_by
looked_up f destination selection l =
    get_or-map-range_with_len (link_by f (choice_among f (routes_to f destination))) 0 SELECTIONS selection selection None l (omega arith)

-- a row that says the link of each selection
pub filled : (in_service : List Bool) (sets : List ℕ) (group : List Member) (row : List (Option ℕ)) → length row ≡ SELECTIONS
    → ((selection : ℕ) → selection < SELECTIONS → slice_index_or row selection None ≡ first_serving selection in_service sets group)
    → row ≡ links_of_group in_service sets group
unfolding links_of_group
filled in_service sets group row e each = fill_by_all (λ s. first_serving s in_service sets group) row SELECTIONS None e each

-- a row that is in the table
pub found_row : (f : Facts) (rows : List (List (Option ℕ))) (row : List (Option ℕ)) (destination selection : ℕ) → rows ≡ table_of f
    → destination < length rows → row ≡ slice_index_or rows destination row → selection < SELECTIONS
    → slice_index_or row selection None ≡ chosen_link f destination selection
found_row f rows row destination selection e within is l =
    ap (λ (r : List (Option ℕ)). slice_index_or r selection None)
    (get_or_read rows destination row within is (links_among f [])
    ∙ ap (λ (xs : List (List (Option ℕ))). slice_index_or xs destination (links_among f [])) e
    ∙ get_or-map (links_among f) f.routes destination [])
    ∙ looked_up f destination selection l

-- after the last row no flow has a link
pub no_row : (f : Facts) (rows : List (List (Option ℕ))) (destination selection : ℕ) → rows ≡ table_of f → false ≡ nat_lt destination (length rows)
    → None ≡ chosen_link f destination selection
unfolding choice_among link_by
no_row f rows destination selection e past =
    let size : length rows ≡ length f.routes = ap length e ∙ length-map f.routes (links_among f) in
    sym (ap (λ (routes : List Route). link_by f (choice_among f routes) selection) (get_or_past f.routes destination [] (grind (arith, nat_tests, size, past))))

-- a link that is worked out
pub worked_out : (f : Facts) (routes group taken listed : List Route) (selection : ℕ) (answer : Option ℕ) (bs : List Bool) (sets lent : List ℕ) (status : RouteStatus) (ms : List Member)
    → answer ≡ first_serving selection bs lent ms → bs ≡ f.in_service → lent ≡ sets → sets ≡ sets_of listed → listed ≡ taken
    → taken ≡ filter (is_open f status) group → ms ≡ members f group → group ≡ (choice_among f routes).group → status ≡ (choice_among f routes).status
    → answer ≡ link_by f (choice_among f routes) selection
unfolding link_by
worked_out f routes group taken listed selection answer bs sets lent status ms e1 e2 e3 e4 e5 e6 e7 e8 e9 =
    rw (e1, e2, e3, e4, e5, e6, e7, e8, e9) refl

-- ---- the row of one destination

told_row : (g : List Route → List (Option ℕ)) (routes : List (List Route)) (destination : ℕ) (told : List Route)
    → slice_set (map g routes) destination (g (slice_index_or (slice_set routes destination told) destination []))
    ≡ map g (slice_set routes destination told)
told_row g [] destination told = refl
told_row g (r ∷ rs) zero told = refl
told_row g (r ∷ rs) (suc destination) told = ap (λ (rows : List (List (Option ℕ))). g r ∷ rows) (told_row g rs destination told)

-- the links to a destination follow from its routes, whatever the routes to others are
pub same_links : (f : Facts) (all : List (List Route)) (routes : List Route)
    → links_among f routes ≡ links_among (record f { routes = all }) routes
unfolding links_among choice_among
same_links f all routes = refl

same_rows : (f : Facts) (all rows : List (List Route)) → map (links_among f) rows ≡ map (links_among (record f { routes = all })) rows
same_rows f all rows = ap (λ (g : List Route → List (Option ℕ)). map g rows) (λ i. λ routes. same_links f all routes i)

pub compiled_told : (f : Facts) (destination set : ℕ) (status : RouteStatus)
    → mended_at (with_status destination set status f) destination (table_of f) ≡ table_of (with_status destination set status f)
compiled_told f destination set status =
    let told : Facts = with_status destination set status f in
    ap (λ (rows : List (List (Option ℕ))). mended_at told destination rows) (same_rows f told.routes f.routes)
    ∙ told_row (links_among told) f.routes destination (map (with_status_over set status) (routes_to f destination))

-- ---- row by row

next_row : {X : Type 0} (rows done rest : List X) (n : ℕ) (old new : X) → rows ≡ done ++ old ∷ rest → length done ≡ n
    → slice_set rows n new ≡ (done ++ new ∷ []) ++ rest
next_row rows done rest n old new e l =
    ap (λ (xs : List _). slice_set xs n new) e ∙ set_at done old rest new n l ∙ sym (append_assoc done (new ∷ []) rest)

left_row : {X : Type 0} (rows done rest : List X) (old new : X) → rows ≡ done ++ old ∷ rest → old ≡ new
    → rows ≡ (done ++ new ∷ []) ++ rest
left_row rows done rest old new e same =
    e ∙ ap (λ (x : _). done ++ x ∷ rest) same ∙ sym (append_assoc done (new ∷ []) rest)

pub below_none : (p : List Route → Bool) (f : Facts) (rows : List (List (Option ℕ))) → mended_below 0 p f rows ≡ rows
unfolding mended_below
below_none p f rows = refl

pub below_next : (n : ℕ) (p : List Route → Bool) (f : Facts) (rows : List (List (Option ℕ)))
    → mended_below (n + 1) p f rows ≡ (if p (routes_to f n) then mended_at f n (mended_below n p f rows) else mended_below n p f rows)
unfolding mended_below
below_next n p f rows = ap (λ m. mended_below m p f rows) (add-one n)

pub ruleset mended = (below_none, below_next)

-- the rows are those of the table where each that isn't mended was that before
pub below_is : (n : ℕ) (p : List Route → Bool) (f : Facts) (rows : List (List (Option ℕ))) → length rows ≡ length f.routes → n ≤ length f.routes
    → ((i : ℕ) → i < n → p (routes_to f i) ≡ false → slice_index_or rows i [] ≡ links_among f (routes_to f i))
    → mended_below n p f rows ≡ map (links_among f) (take n f.routes) ++ drop n rows
unfolding mended_below
below_is zero p f rows e l left = refl
below_is (suc n) p f rows e l left =
    let routes : List Route = routes_to f n in
    let done : List (List (Option ℕ)) = map (links_among f) (take n f.routes) in
    let old : List (Option ℕ) = slice_index_or rows n [] in
    let within : n < length f.routes = omega (arith, l) in
    let before : mended_below n p f rows ≡ done ++ old ∷ drop (n + 1) rows =
    below_is n p f rows e (omega (arith, l)) (λ i h. left i (omega (arith, h)))
    ∙ ap (λ (xs : List (List (Option ℕ))). done ++ xs) (drop_more rows n [] (omega (arith, e, within))) in
    let size : length done ≡ n = length-map (take n f.routes) (links_among f) ∙ length-take-le n f.routes (omega (arith, l)) in
    let after : (done ++ links_among f routes ∷ []) ++ drop (n + 1) rows ≡ map (links_among f) (take (suc n) f.routes) ++ drop (suc n) rows =
    ap (λ (xs : List (List (Option ℕ))). xs ++ drop (n + 1) rows) (sym (map_more (links_among f) f.routes n [] within))
    ∙ ap (λ m. map (links_among f) (take m f.routes) ++ drop m rows) (add-one n) in
    elim (p routes) as (λ b. p routes ≡ b
    → (if b then mended_at f n (mended_below n p f rows) else mended_below n p f rows) ≡ map (links_among f) (take (suc n) f.routes) ++ drop (suc n) rows) [
      | true ↦ λ mended. next_row (mended_below n p f rows) done (drop (n + 1) rows) n old (links_among f routes) before size ∙ after
      | false ↦ λ apart. left_row (mended_below n p f rows) done (drop (n + 1) rows) old (links_among f routes) before (left n (omega arith) apart) ∙ after
    ] refl

-- what is known, lent with the links that are in service
pub known_facts : (f : Facts) (bs : List Bool) (lent : Facts) → bs ≡ f.in_service → lent ≡ record f { in_service = bs } → lent ≡ f
known_facts f bs lent e l = l ∙ ap (λ (in_service : List Bool). record { sets = f.sets; in_service = in_service; routes = f.routes }) e
