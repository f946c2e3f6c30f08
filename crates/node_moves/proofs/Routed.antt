-- A flow goes only by the sets that a node's settings list for its destination, whatever the statuses of the routes.
use Rattle.node_moves.proofs.Basics.{◌≡◌, ℕ, zero, suc, Bool, true, false, List, [], ◌∷◌, ◌++◌, length, map, refl, ap, sym, subst, ◌∙◌, arith, slice_index_or, Option, Some, None, ⊎_elim, if◌then◌else◌}
use Rattle.node_moves.proofs.Definitions.{Configuration, Parts, set_of}
use Rattle.std.proofs.Common.{inl, inr}
use Rattle.std.specs.Prelude.{◌⊎◌, Contains, find, cond, unwrap_or}
use Rattle.std.specs.List.{list_any}
use Rattle.std.specs.Option.{option_map}
use Rattle.std.proofs.Math.ListN.{get_or-map}
use Rattle.std.proofs.lemmas.List.Concat.{flat_map-cons}
use Rattle.std.proofs.lemmas.List.Sorted.{Contains-permutation, IsPermutation-sym}
use Rattle.settings.specs.Configuration.{DestinationEntry}
use Rattle.routes.specs.declared.route.Route.{Route}
use Rattle.routes.specs.declared.route.RouteStatus.{RouteStatus}
use Rattle.routes.specs.declared.route.RouteStatus.TheVariants.{Allowed, Restricted}
use Rattle.routes.specs.declared.link_group.Member.{Member}
use Rattle.routes.specs.Routes.{Facts, alone, groups_of, open_group, allowed_or, choice_among, is_open, members_of, members, preference, serves, sets_of, taken_by, link_by, chosen_link, set_at, first_route, first_routes, with_second_joined}
use Rattle.routes.proofs.Preference.{preference_permutes}
use Rattle.exchange_rules.specs.Routing.{facts}
use Rattle.exchange_rules.proofs.LoneLinks.{set-exact}
use Rattle.exchange_rules.proofs.Steps.{any_status, ways_of}

-- ---- elements of lists

pub no-element : {A B : Type 0} (x : A) → Contains [] x → B
no-element x (k, h, e) = absurd (omega (arith, h))

contains-there : {A : Type 0} (y : A) (ys : List A) (x : A) → Contains ys x → Contains (y ∷ ys) x
contains-there y ys x (k, h, e) = (suc k, omega (arith, h), e)

pub contains-or : {A : Type 0} (y : A) (ys : List A) (x : A) → Contains (y ∷ ys) x → (y ≡ x) ⊎ Contains ys x
contains-or y ys x (zero, h, e) = inl e
contains-or y ys x (suc k, h, e) = inr (k, omega (arith, h), e)

found-in : {A : Type 0} (p : A → Bool) (xs : List A) (x : A) → find p xs ≡ Some x → Contains xs x
found-in p [] x e = absurd cc
found-in {A = A} p (y ∷ ys) x e = by (p y) (found-in p ys x) e
  where
    by : (b : Bool) → (find p ys ≡ Some x → Contains ys x) → cond b (Some y) (find p ys) ≡ Some x → Contains (y ∷ ys) x
    by true rest f = (0, omega arith, (let same : y ≡ x = cc in same))
    by false rest f = contains-there y ys x (rest f)

contains-append : {A : Type 0} (xs ys : List A) (x : A) → Contains (xs ++ ys) x → Contains xs x ⊎ Contains ys x
contains-append [] ys x h = inr h
contains-append (z ∷ xs) ys x h =
    ⊎_elim
    (λ (e : z ≡ x). inl (0, omega arith, e))
    (λ (rest : Contains (xs ++ ys) x).
    ⊎_elim (λ (l : Contains xs x). inl (contains-there z xs x l)) (λ (r : Contains ys x). inr r) (contains-append xs ys x rest))
    (contains-or z (xs ++ ys) x h)

-- ---- the groups of routes

-- each group has routes of the list alone
abbrev pub AreAmong : List Route → List (List Route) → Type 0
AreAmong routes groups = (group : List Route) (r : Route) → Contains groups group → Contains group r → Contains routes r

alone-among : (routes : List Route) → AreAmong routes (alone routes)
alone-among [] group r h i = no-element group h
alone-among (x ∷ routes) group r h i =
    ⊎_elim
    (λ (e : (x ∷ []) ≡ group).
    ⊎_elim (λ (same : x ≡ r). (0, omega arith, same)) (λ (no : Contains [] r). no-element r no)
    (contains-or x [] r (subst (λ (g : List Route). Contains g r) (sym e) i)))
    (λ (rest : Contains (alone routes) group). contains-there x routes r (alone-among routes group r rest i))
    (contains-or (x ∷ []) (alone routes) group h)

groups-among : (routes : List Route) → AreAmong routes (groups_of routes)
groups-among [] group r h i = no-element group h
groups-among (first ∷ []) group r h i = alone-among (first ∷ []) group r h i
groups-among (first ∷ second ∷ rest) group r h i = by second.joined h
  where
    by : (b : Bool) → Contains (if b then (first ∷ second ∷ []) ∷ alone rest else alone (first ∷ second ∷ rest)) group → Contains (first ∷ second ∷ rest) r
    by true g =
        ⊎_elim
        (λ (e : (first ∷ second ∷ []) ≡ group).
        ⊎_elim
        (λ (same : first ≡ r). (0, omega arith, same))
        (λ (more : Contains (second ∷ []) r).
        ⊎_elim (λ (same : second ≡ r). (1, omega arith, same)) (λ (no : Contains [] r). no-element r no) (contains-or second [] r more))
        (contains-or first (second ∷ []) r (subst (λ (x : List Route). Contains x r) (sym e) i)))
        (λ (more : Contains (alone rest) group). contains-there first (second ∷ rest) r (contains-there second rest r (alone-among rest group r more i)))
        (contains-or (first ∷ second ∷ []) (alone rest) group g)
    by false g = alone-among (first ∷ second ∷ rest) group r g i

module _ (f : Facts) (routes : List Route) where
  open-among : (status : RouteStatus) (r : Route) → Contains (open_group f status (groups_of routes)) r → Contains routes r
  open-among status r h = by (find (list_any (is_open f status)) (groups_of routes)) refl h
    where
      by : (o : Option (List Route)) → find (list_any (is_open f status)) (groups_of routes) ≡ o → Contains (unwrap_or o []) r → Contains routes r
      by None e i = no-element r i
      by (Some group) e i = groups-among routes group r (found-in (list_any (is_open f status)) (groups_of routes) group e) i

  chosen-among : (r : Route) → Contains (choice_among f routes).group r → Contains routes r
  unfolding choice_among
  chosen-among r h = by (open_group f Allowed (groups_of routes)) refl h
    where
      by : (allowed : List Route) → open_group f Allowed (groups_of routes) ≡ allowed → Contains (allowed_or allowed (open_group f Restricted (groups_of routes))).group r → Contains routes r
      by [] e i = open-among Restricted r i
      by (first ∷ rest) e i = open-among Allowed r (subst (λ (g : List Route). Contains g r) (sym e) i)

-- ---- the link that is chosen

member-in : (set : ℕ) (links : List ℕ) (m : Member) → Contains (members_of set links) m → Contains links m.link
member-in set [] m h = no-element m h
member-in set (l ∷ ls) m h =
    ⊎_elim
    (λ (e : record { link = l; set = set } ≡ m). (0, omega arith, ap (λ (x : Member). x.link) e))
    (λ (rest : Contains (members_of set ls) m). contains-there l ls m.link (member-in set ls m rest))
    (contains-or (record { link = l; set = set }) (members_of set ls) m h)

-- it is a link of a set by which a route of the group goes
members-in : (f : Facts) (group : List Route) (m : Member) → Contains (members f group) m → (r : Route) × Contains group r × Contains (set_at f r.set) m.link
members-in f [] m h = no-element m h
members-in f (r ∷ group) m h =
    ⊎_elim
    (λ (here : Contains (members_of r.set (set_at f r.set)) m). (r, (0, omega arith, refl), member-in r.set (set_at f r.set) m here))
    (λ (later : Contains (members f group) m).
    (let x : (s : Route) × Contains group s × Contains (set_at f s.set) m.link = members-in f group m later in (x.0, contains-there r group x.0 x.1, x.2)))
    (contains-append (members_of r.set (set_at f r.set)) (members f group) m
    (subst (λ (ms : List Member). Contains ms m) (flat_map-cons (λ (route : Route). members_of route.set (set_at f route.set)) r group) h))

chosen-in : (f : Facts) (routes : List Route) (sls link : ℕ) → link_by f (choice_among f routes) sls ≡ Some link → (r : Route) × Contains routes r × Contains (set_at f r.set) link
unfolding link_by
chosen-in f routes sls link e = by (find test (preference sls all)) refl e
  where
    all : List Member
    all = members f (choice_among f routes).group

    test : Member → Bool
    test = serves f.in_service (sets_of (taken_by f (choice_among f routes)))

    by : (o : Option Member) → find test (preference sls all) ≡ o → option_map (λ (m : Member). m.link) o ≡ Some link → (r : Route) × Contains routes r × Contains (set_at f r.set) link
    by None i k = absurd cc
    by (Some m) i k =
        let same : m.link ≡ link = cc in
        let there : Contains all m = Contains-permutation (preference sls all) all m (IsPermutation-sym all (preference sls all) (preference_permutes sls all)) (found-in test (preference sls all) m i) in
        let x : (r : Route) × Contains (choice_among f routes).group r × Contains (set_at f r.set) m.link = members-in f (choice_among f routes).group m there in
        (x.0, chosen-among f routes x.0 x.1, subst (λ (l : ℕ). Contains (set_at f x.0.set) l) same x.2)

-- ---- the sets of the settings

contains-map : {A B : Type 0} (g : A → B) (xs : List A) (x : A) → Contains xs x → Contains (map g xs) (g x)
contains-map g [] x h = no-element x h
contains-map g (y ∷ ys) x h =
    ⊎_elim (λ (e : y ≡ x). (0, omega arith, ap g e)) (λ (rest : Contains ys x). contains-there (g y) (map g ys) (g x) (contains-map g ys x rest)) (contains-or y ys x h)

sets-alike : (rs : List Route) → sets_of (map any_status rs) ≡ sets_of rs
sets-alike [] = refl
sets-alike (r ∷ rs) = ap (λ (xs : List ℕ). r.set ∷ xs) (sets-alike rs)

first-sets : (sets : List ℕ) → sets_of (map first_route sets) ≡ sets
first-sets [] = refl
first-sets (s ∷ sets) = ap (λ (xs : List ℕ). s ∷ xs) (first-sets sets)

joined-sets : (b : Bool) (rs : List Route) → sets_of (with_second_joined b rs) ≡ sets_of rs
joined-sets b [] = refl
joined-sets b (r ∷ []) = refl
joined-sets b (r ∷ s ∷ rs) = refl

abbrev pub no_entry : DestinationEntry
no_entry = record { point = 0; sets = []; joined = false }

-- the link that a flow takes is one of a set that the settings list for its destination
pub goes-by-its-sets : (c : Configuration) (p : Parts) (destination sls link : ℕ) → ways_of p.routes ≡ ways_of (map first_routes c.destinations)
    → chosen_link (facts c p) destination sls ≡ Some link → Contains (slice_index_or c.destinations destination no_entry).sets (set_of c link)
goes-by-its-sets c p destination sls link ways e =
    let rs : List Route = slice_index_or p.routes destination [] in
    let d : DestinationEntry = slice_index_or c.destinations destination no_entry in
    let x : (r : Route) × Contains rs r × Contains (set_at (facts c p) r.set) link = chosen-in (facts c p) rs sls link e in
    let alike : map any_status rs ≡ map any_status (first_routes d) =
    sym (get_or-map (map any_status) p.routes destination []) ∙ ap (λ (w : List (List Route)). slice_index_or w destination []) ways
    ∙ get_or-map (map any_status) (map first_routes c.destinations) destination []
    ∙ ap (map any_status) (get_or-map first_routes c.destinations destination no_entry) in
    let sets : sets_of rs ≡ d.sets = sym (sets-alike rs) ∙ ap sets_of alike ∙ sets-alike (first_routes d) ∙ joined-sets d.joined (map first_route d.sets) ∙ first-sets d.sets in
    let same : set_of c link ≡ x.0.set = (set-exact c.links (length c.sets) x.0.set link x.2).of_set in
    subst (λ (s : ℕ). Contains d.sets s) (sym same) (subst (λ (xs : List ℕ). Contains xs x.0.set) sets (contains-map (λ (r : Route). r.set) rs x.0 x.1))
