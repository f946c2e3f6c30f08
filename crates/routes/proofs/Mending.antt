-- A table that is mended if a link or a set changed is the table of what is known then.
use Rattle.routes.proofs.Basics.{◌≡◌, ◌<◌, ◌||◌, ◌&&◌, ◌==◌, ℕ, Bool, true, false, cond, List, [], ◌∷◌, ◌++◌, map, drop, length, refl, ap, sym, ◌∙◌, arith, find, get_or-map, eqb-false, get_or-set_other, length-map, take_all, drop_all, append-nil, flat_map-cons, list_any-append, list_any-IsPermutation, list_any, filter, range_with_len, Option, Some, nat_eq, slice_index_or, slice_set, unwrap_or, if◌then◌else◌, option_map, has_member, Member, preference, first_serving, has_link, is_in_service, members_of, serves, Route, RouteStatus, Allowed, Restricted, Facts, set_at, routes_to, with_link, with_status_over, status_number, is_open, groups_of, open_group, Choice, allowed_or, choice_among, taken_by, sets_of, members, leads_by, with_statuses_reset, SELECTIONS, links_of_group, links_by, links_among, table_of, mended_below, goes_by_link, goes_by_set, or_parts}
use Rattle.std.proofs.lemmas.List.{get_or-map as get_or-map-within}
use Rattle.routes.proofs.Preference.{preference_permutes}
use Rattle.routes.proofs.Groups.{any_group, found_apart, either_apart}
use Rattle.routes.proofs.Compiling.{below_is, same_links}

-- ---- a group without the link that changes

module _ (in_service : List Bool) (link : ℕ) (up : Bool) where
  abbrev after : List Bool
  after = slice_set in_service link up

  member_alike : (l : ℕ) → nat_eq l link ≡ false → is_in_service in_service l ≡ is_in_service after l
  member_alike l e = sym (get_or-set_other in_service link l up false (eqb-false l link e))

  any_alike : (links : List ℕ) → has_member link links ≡ false → has_link in_service links ≡ has_link after links
  any_alike [] e = refl
  any_alike (l ∷ links) e =
      ap (λ (b : Bool). b || has_link in_service links) (member_alike l (or_parts (nat_eq l link) _ e).0)
      ∙ ap (λ (b : Bool). is_in_service after l || b) (any_alike links (or_parts (nat_eq l link) _ e).1)

  module _ (sets : List ℕ) where
    found_alike : (group : List Member) → list_any (λ m. nat_eq m.link link) group ≡ false
        → find (serves in_service sets) group ≡ find (serves after sets) group
    found_alike [] e = refl
    found_alike (m ∷ ms) e =
        ap (λ (b : Bool). cond (b && list_any (λ s. nat_eq s m.set) sets) (Some m) (find (serves in_service sets) ms))
        (member_alike m.link (or_parts (nat_eq m.link link) _ e).0)
        ∙ ap (λ (o : Option Member). cond (serves after sets m) (Some m) o) (found_alike ms (or_parts (nat_eq m.link link) _ e).1)

    first_alike : (group : List Member) → list_any (λ m. nat_eq m.link link) group ≡ false → (selection : ℕ)
        → first_serving selection in_service sets group ≡ first_serving selection after sets group
    first_alike group e selection =
        ap (λ (o : Option Member). option_map (λ (m : Member). m.link) o)
        (found_alike (preference selection group)
        (sym (list_any-IsPermutation (λ (m : Member). nat_eq m.link link) group (preference selection group) (preference_permutes selection group)) ∙ e))

    all_alike : (group : List Member) → list_any (λ m. nat_eq m.link link) group ≡ false
        → links_of_group in_service sets group ≡ links_of_group after sets group
    unfolding links_of_group
    all_alike group e =
        ap (λ (g : ℕ → Option ℕ). map g (range_with_len 0 SELECTIONS)) (λ i. λ selection. first_alike group e selection i)

-- ---- a destination to which the set of the link doesn't lead

module _ (f : Facts) (link : ℕ) (up : Bool) where
  abbrev changed : Facts
  changed = with_link link up f

  -- whether the link is of the set of a route
  abbrev goes : Route → Bool
  goes route = has_member link (set_at f route.set)

  one_alike : (status : RouteStatus) (r : Route) → goes r ≡ false → is_open f status r ≡ is_open changed status r
  one_alike status r e = ap (λ (b : Bool). (status_number r.status == status_number status) && b) (any_alike f.in_service link up (set_at f r.set) e)

  some_alike : (status : RouteStatus) (routes : List Route) → list_any goes routes ≡ false
      → list_any (is_open f status) routes ≡ list_any (is_open changed status) routes
  some_alike status [] e = refl
  some_alike status (r ∷ rs) e =
      ap (λ (b : Bool). b || list_any (is_open f status) rs) (one_alike status r (or_parts (goes r) _ e).0)
      ∙ ap (λ (b : Bool). is_open changed status r || b) (some_alike status rs (or_parts (goes r) _ e).1)

  group_alike : (status : RouteStatus) (groups : List (List Route)) → list_any (list_any goes) groups ≡ false
      → open_group f status groups ≡ open_group changed status groups
  group_alike status [] e = refl
  group_alike status (g ∷ gs) e =
      ap (λ (b : Bool). unwrap_or (cond b (Some g) (find (list_any (is_open f status)) gs)) []) (some_alike status g (or_parts (list_any goes g) _ e).0)
      ∙ elim (list_any (is_open changed status) g) as (λ b. unwrap_or (cond b (Some g) (find (list_any (is_open f status)) gs)) []
      ≡ unwrap_or (cond b (Some g) (find (list_any (is_open changed status)) gs)) []) [
        | true ↦ refl
        | false ↦ group_alike status gs (or_parts (list_any goes g) _ e).1
      ]

  choice_alike : (routes : List Route) → list_any goes routes ≡ false → choice_among f routes ≡ choice_among changed routes
  unfolding choice_among
  choice_alike routes e =
      let none : list_any (list_any goes) (groups_of routes) ≡ false = any_group goes routes ∙ e in
      ap (λ (g : List Route). allowed_or g (open_group f Restricted (groups_of routes))) (group_alike Allowed (groups_of routes) none)
      ∙ ap (λ (g : List Route). allowed_or (open_group changed Allowed (groups_of routes)) g) (group_alike Restricted (groups_of routes) none)

  choice_apart : (routes : List Route) → list_any goes routes ≡ false → list_any goes (choice_among f routes).group ≡ false
  unfolding choice_among
  choice_apart routes e =
      let none : list_any (list_any goes) (groups_of routes) ≡ false = any_group goes routes ∙ e in
      either_apart goes (open_group f Allowed (groups_of routes)) (open_group f Restricted (groups_of routes))
      (found_apart goes (list_any (is_open f Allowed)) (groups_of routes) none)
      (found_apart goes (list_any (is_open f Restricted)) (groups_of routes) none)

  taken_alike : (status : RouteStatus) (routes : List Route) → list_any goes routes ≡ false
      → filter (is_open f status) routes ≡ filter (is_open changed status) routes
  taken_alike status [] e = refl
  taken_alike status (r ∷ rs) e =
      ap (λ (b : Bool). cond b (r ∷ filter (is_open f status) rs) (filter (is_open f status) rs)) (one_alike status r (or_parts (goes r) _ e).0)
      ∙ ap (λ (xs : List Route). cond (is_open changed status r) (r ∷ xs) xs) (taken_alike status rs (or_parts (goes r) _ e).1)

  set_without : (set : ℕ) (links : List ℕ) → list_any (λ (m : Member). nat_eq m.link link) (members_of set links) ≡ has_member link links
  set_without set [] = refl
  set_without set (l ∷ ls) = ap (λ (b : Bool). nat_eq l link || b) (set_without set ls)

  members_without : (routes : List Route) → list_any (λ (m : Member). nat_eq m.link link) (members f routes) ≡ list_any goes routes
  members_without [] = refl
  members_without (r ∷ rs) =
      ap (λ (ms : List Member). list_any (λ (m : Member). nat_eq m.link link) ms) (flat_map-cons (λ (route : Route). members_of route.set (set_at f route.set)) r rs)
      ∙ list_any-append (λ (m : Member). nat_eq m.link link) (members_of r.set (set_at f r.set)) (members f rs)
      ∙ ap (λ (b : Bool). b || list_any (λ (m : Member). nat_eq m.link link) (members f rs)) (set_without r.set (set_at f r.set))
      ∙ ap (λ (b : Bool). goes r || b) (members_without rs)

  by_alike : (c : Choice) → list_any goes c.group ≡ false → links_by f c ≡ links_by changed c
  by_alike c e =
      all_alike f.in_service link up (sets_of (taken_by f c)) (members f c.group) (members_without c.group ∙ e)
      ∙ ap (λ (routes : List Route). links_of_group changed.in_service (sets_of routes) (members f c.group)) (taken_alike c.status c.group e)

  links_alike : (routes : List Route) → goes_by_link f link routes ≡ false → links_among f routes ≡ links_among changed routes
  unfolding links_among
  links_alike routes e = by_alike (choice_among f routes) (choice_apart routes e) ∙ ap (links_by changed) (choice_alike routes e)

-- ---- the whole table

whole : (p : List Route → Bool) (f : Facts) (rows : List (List (Option ℕ))) → length rows ≡ length f.routes
    → ((i : ℕ) → i < length f.routes → p (routes_to f i) ≡ false → slice_index_or rows i [] ≡ links_among f (routes_to f i))
    → mended_below (length f.routes) p f rows ≡ table_of f
whole p f rows e left =
    below_is (length f.routes) p f rows e (omega arith) left
    ∙ ap (λ (xs : List (List Route)). map (links_among f) xs ++ drop (length f.routes) rows) (take_all (length f.routes) f.routes (omega arith))
    ∙ ap (λ (xs : List (List (Option ℕ))). table_of f ++ xs) (drop_all (length f.routes) rows (omega (arith, e)))
    ∙ append-nil (table_of f)

row_at : (g : List Route → List (Option ℕ)) (routes : List (List Route)) (i : ℕ) → i < length routes
    → slice_index_or (map g routes) i [] ≡ g (slice_index_or routes i [])
row_at g routes i l = get_or-map-within g routes i [] [] l

pub compiled_by_link : (f : Facts) (link : ℕ) (up : Bool)
    → mended_below (length f.routes) (goes_by_link (with_link link up f) link) (with_link link up f) (table_of f) ≡ table_of (with_link link up f)
compiled_by_link f link up =
    whole (goes_by_link f link) (with_link link up f) (table_of f) (length-map f.routes (links_among f))
    (λ i l apart. row_at (links_among f) f.routes i l ∙ links_alike f link up (routes_to f i) apart)

-- ---- statuses that are allowed again

as_before : (set : ℕ) (routes : List Route) → goes_by_set set (map (with_status_over set Allowed) routes) ≡ false
    → routes ≡ map (with_status_over set Allowed) routes
as_before set [] e = refl
as_before set (r ∷ rs) e =
    elim (nat_eq r.set set) as (λ b. nat_eq r.set set ≡ b
    → (leads_by set (if b then record r { status = Allowed } else r) || goes_by_set set (map (with_status_over set Allowed) rs)) ≡ false
    → r ∷ rs ≡ (if b then record r { status = Allowed } else r) ∷ map (with_status_over set Allowed) rs) [
      | true ↦ λ same none.
          let apart : nat_eq r.set set ≡ false = (or_parts (nat_eq r.set set) _ none).0 in
          absurd cc
      | false ↦ λ apart none. ap (λ (xs : List Route). r ∷ xs) (as_before set rs (or_parts (nat_eq r.set set) _ none).1)
    ] refl e

pub compiled_by_set : (f : Facts) (set : ℕ)
    → mended_below (length (with_statuses_reset set f).routes) (goes_by_set set) (with_statuses_reset set f) (table_of f) ≡ table_of (with_statuses_reset set f)
compiled_by_set f set =
    let reset : Facts = with_statuses_reset set f in
    let size : length reset.routes ≡ length f.routes = length-map f.routes (map (with_status_over set Allowed)) in
    let told : (i : ℕ) → routes_to reset i ≡ map (with_status_over set Allowed) (routes_to f i) =
    λ i. get_or-map (map (with_status_over set Allowed)) f.routes i [] in
    whole (goes_by_set set) reset (table_of f) (length-map f.routes (links_among f) ∙ sym size)
    (λ i l apart.
    row_at (links_among f) f.routes i (omega (arith, l, size))
    ∙ same_links f reset.routes (routes_to f i)
    ∙ ap (links_among reset)
    (as_before set (routes_to f i) (ap (goes_by_set set) (sym (told i)) ∙ apart) ∙ sym (told i)))

-- ---- the table keeps its length

pub as_long : (f g : Facts) (old new : List (List (Option ℕ))) → old ≡ table_of f → new ≡ table_of g → length g.routes ≡ length f.routes
    → length new ≡ length old
as_long f g old new e d same = ap length d ∙ length-map g.routes (links_among g) ∙ same ∙ sym (length-map f.routes (links_among f)) ∙ sym (ap length e)
