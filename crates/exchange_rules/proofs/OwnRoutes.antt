-- The routes to adjacent points over their own sets stay allowed, whatever other statuses change.
use Rattle.exchange_rules.proofs.Basics.{◌≡◌, ◌≢◌, ◌<◌, ◌≤◌, ◌⊎◌, inl, inr, None, ℕ, Bool, true, false, List, [], ◌∷◌, length, map, nat_eq, Option, Some, refl, ap, sym, subst, ◌∙◌, arith, find, if◌then◌else◌, slice_index_or, slice_set, option_map, get_or-map, ⊎_elim, cases_eq, cases_lt, nat_tests, get_or_past, get_or-set_other, get_or-set_same, length-map, length-set}
use Rattle.exchange_rules.proofs.Definitions.{Route, RouteStatus, Allowed, Restricted, Prohibited, first_route, with_second_joined, with_status_over, leads_by, ToldTable, is_own_point}
use Rattle.exchange_rules.specs.Testing.{is_unsure}
use Rattle.exchange_rules.proofs.Lists.{map-set_alike}
use Rattle.exchange_rules.proofs.Steps.{status_over, AreOwnAllowed, AreRerouted, any_status, ways_of}

no : {A : Type 0} → false ≡ true → A
no e = absurd cc

-- ---- the status over a set among the routes to one destination

abbrev status : Option Route → Option RouteStatus
status o = option_map (λ route. route.status) o

abbrev pub over : ℕ → List Route → Option RouteStatus
over set routes = status (find (leads_by set) routes)

sets-allowed : (sets : List ℕ) (set : ℕ) (s : RouteStatus) → over set (map first_route sets) ≡ Some s → s ≡ Allowed
sets-allowed [] set s e = absurd cc
sets-allowed (x ∷ xs) set s e = by (nat_eq x set) e (sets-allowed xs set s)
  where
    by : (b : Bool) → status (if b then Some (first_route x) else find (leads_by set) (map first_route xs)) ≡ Some s → (over set (map first_route xs) ≡ Some s → s ≡ Allowed) → s ≡ Allowed
    by true f more = cc
    by false f more = more f

-- that two routes are joined changes no status
joined-over : (joined : Bool) (routes : List Route) (set : ℕ) → over set (with_second_joined joined routes) ≡ over set routes
joined-over joined [] set = refl
joined-over joined (a ∷ []) set = refl
joined-over joined (a ∷ b ∷ rest) set = by (nat_eq a.set set) (nat_eq b.set set)
  where
    by : (d e : Bool) → status (if d then Some a else (if e then Some (record b { joined = joined }) else find (leads_by set) rest))
        ≡ status (if d then Some a else (if e then Some b else find (leads_by set) rest))
    by true e = refl
    by false true = refl
    by false false = refl

pub first-allowed : (joined : Bool) (sets : List ℕ) (set : ℕ) (s : RouteStatus) → over set (with_second_joined joined (map first_route sets)) ≡ Some s → s ≡ Allowed
first-allowed joined sets set s e = sets-allowed sets set s (sym (joined-over joined (map first_route sets) set) ∙ e)

-- the routes by that set get a status
own-status : (routes : List Route) (set : ℕ) (given s : RouteStatus) → over set (map (with_status_over set given) routes) ≡ Some s → s ≡ given
own-status [] set given s e = absurd cc
own-status (r ∷ rs) set given s e = by (nat_eq r.set set) refl e (own-status rs set given s)
  where
    rest : Option Route
    rest = find (leads_by set) (map (with_status_over set given) rs)

    by : (b : Bool) → nat_eq r.set set ≡ b
        → status (if nat_eq (if b then record r { status = given } else r).set set then Some (if b then record r { status = given } else r) else rest) ≡ Some s
        → (status rest ≡ Some s → s ≡ given) → s ≡ given
    by true f h more = (let its : Some given ≡ Some s = sym (ap (λ (t : Bool). status (if t then Some (record r { status = given }) else rest)) f) ∙ h in cc)
    by false f h more = more (sym (ap (λ (t : Bool). status (if t then Some r else rest)) f) ∙ h)

-- those by other sets keep theirs
other-status : (routes : List Route) (set other : ℕ) (given : RouteStatus) → other ≢ set → over other (map (with_status_over set given) routes) ≡ over other routes
other-status [] set other given apart = refl
other-status (r ∷ rs) set other given apart = by (nat_eq r.set set) (nat_eq r.set other) refl refl (other-status rs set other given apart)
  where
    rest : Option Route
    rest = find (leads_by other) (map (with_status_over set given) rs)

    both : nat_eq r.set set ≡ true → nat_eq r.set other ≡ true → other ≡ set
    both e f = grind (arith, nat_tests, e, f)

    by : (b d : Bool) → nat_eq r.set set ≡ b → nat_eq r.set other ≡ d → status rest ≡ over other rs
        → status (if nat_eq (if b then record r { status = given } else r).set other then Some (if b then record r { status = given } else r) else rest)
        ≡ status (if d then Some r else find (leads_by other) rs)
    by true true e f more = absurd (apart (both e f))
    by true false e f more = ap (λ (t : Bool). status (if t then Some (record r { status = given }) else rest)) f ∙ more
    by false true e f more = ap (λ (t : Bool). status (if t then Some r else rest)) f
    by false false e f more = ap (λ (t : Bool). status (if t then Some r else rest)) f ∙ more

-- ---- those to all destinations

-- a status that is given leaves all else
given-way : (given : RouteStatus) (b : Bool) (r : Route) → any_status (if b then record r { status = given } else r) ≡ any_status r
given-way given true r = refl
given-way given false r = refl

given-ways : (set : ℕ) (given : RouteStatus) (rs : List Route) → map any_status (map (with_status_over set given) rs) ≡ map any_status rs
given-ways set given [] = refl
given-ways set given (r ∷ rs) =
    ap (λ (way : Route). way ∷ map any_status (map (with_status_over set given) rs)) (given-way given (nat_eq r.set set) r)
    ∙ ap (λ (ways : List Route). any_status r ∷ ways) (given-ways set given rs)

all-given : (set : ℕ) (given : RouteStatus) (routes : List (List Route)) → ways_of (map (map (with_status_over set given)) routes) ≡ ways_of routes
all-given set given [] = refl
all-given set given (rs ∷ routes) =
    ap (λ (ways : List Route). ways ∷ ways_of (map (map (with_status_over set given)) routes)) (given-ways set given rs)
    ∙ ap (λ (more : List (List Route)). map any_status rs ∷ more) (all-given set given routes)

-- one route gets a status, but not that of a point over its own set
pub rerouted-one : (t : ToldTable) (routes : List (List Route)) (set destination : ℕ) (given : RouteStatus) → is_own_point t set destination ≡ false
    → AreRerouted t routes (slice_set routes destination (map (with_status_over set given) (slice_index_or routes destination [])))
rerouted-one t routes set destination given away = record {
  size = length-set routes destination changed;
  ways = sym (map-set_alike (map any_status) routes destination changed [] (given-ways set given (slice_index_or routes destination [])));
  own = λ h. record { each = λ other place s is e. h.each other place s is (sym (same other place is) ∙ e) };
}
  where
    changed : List Route
    changed = map (with_status_over set given) (slice_index_or routes destination [])

    apart : (other : ℕ) → is_own_point t other destination ≡ true → other ≢ set
    apart other is e = no (sym away ∙ ap (λ (k : ℕ). is_own_point t k destination) (sym e) ∙ is)

    here : (other : ℕ) → is_own_point t other destination ≡ true → status_over other destination (slice_set routes destination changed) ≡ status_over other destination routes
    here other is =
        ⊎_elim
        (λ (there : destination < length routes).
        ap (over other) (get_or-set_same routes destination changed [] there) ∙ other-status (slice_index_or routes destination []) set other given (apart other is))
        (λ (past : length routes ≤ destination).
        ap (over other)
        (get_or_past (slice_set routes destination changed) destination [] (omega (arith, past, length-set routes destination changed)) ∙ sym (get_or_past routes destination [] past)))
        (cases_lt destination (length routes))

    same : (other place : ℕ) → is_own_point t other place ≡ true → status_over other place (slice_set routes destination changed) ≡ status_over other place routes
    same other place is =
        ⊎_elim
        (λ (e : place ≡ destination).
        subst (λ (k : ℕ). status_over other k (slice_set routes destination changed) ≡ status_over other k routes) (sym e)
        (here other (subst (λ (k : ℕ). is_own_point t other k ≡ true) e is)))
        (λ (d : place ≢ destination). ap (over other) (get_or-set_other routes destination place changed [] d))
        (cases_eq place destination)

-- all routes of a set become allowed
pub rerouted-reset : (t : ToldTable) (routes : List (List Route)) (set : ℕ) → AreRerouted t routes (map (map (with_status_over set Allowed)) routes)
rerouted-reset t routes set = record {
  size = length-map routes (map (with_status_over set Allowed));
  ways = all-given set Allowed routes;
  own = λ h. record { each = λ other place s is e. allowed h other place s is (sym (ap (over other) (get_or-map (map (with_status_over set Allowed)) routes place [])) ∙ e) };
}
  where
    allowed : AreOwnAllowed t routes → (other place : ℕ) (s : RouteStatus) → is_own_point t other place ≡ true
        → over other (map (with_status_over set Allowed) (slice_index_or routes place [])) ≡ Some s → s ≡ Allowed
    allowed h other place s is e =
        ⊎_elim
        (λ (its : other ≡ set). own-status (slice_index_or routes place []) set Allowed s (subst (λ (k : ℕ). over k (map (with_status_over set Allowed) (slice_index_or routes place [])) ≡ Some s) its e))
        (λ (d : other ≢ set). h.each other place s is (sym (other-status (slice_index_or routes place []) set other Allowed d) ∙ e))
        (cases_eq other set)

-- ---- which routes are to be tested

abbrev given_to : (set destination : ℕ) → RouteStatus → List (List Route) → List (List Route)
given_to set destination given routes = slice_set routes destination (map (with_status_over set given) (slice_index_or routes destination []))

-- one that is to be tested was so before, or is that which got the status
pub one-unsure : (routes : List (List Route)) (set destination : ℕ) (given : RouteStatus) (other place : ℕ)
    → is_unsure (status_over other place (given_to set destination given routes)) ≡ true → (is_unsure (status_over other place routes) ≡ true) ⊎ ((other ≡ set) × (place ≡ destination))
one-unsure routes set destination given other place e =
    ⊎_elim
    (λ (its : place ≡ destination). ⊎_elim
    (λ (one : other ≡ set). inr (one, its))
    (λ (apart : other ≢ set). inl (subst (λ (k : ℕ). is_unsure (status_over other k (given_to set destination given routes)) ≡ true → is_unsure (status_over other k routes) ≡ true) (sym its)
    (λ h. sym (ap is_unsure (same apart)) ∙ h) e))
    (cases_eq other set))
    (λ (apart : place ≢ destination). inl (sym (ap (λ (rs : List Route). is_unsure (over other rs)) (get_or-set_other routes destination place _ [] apart)) ∙ e))
    (cases_eq place destination)
  where
    changed : List Route
    changed = map (with_status_over set given) (slice_index_or routes destination [])

    same : other ≢ set → status_over other destination (slice_set routes destination changed) ≡ status_over other destination routes
    same apart =
        ⊎_elim
        (λ (there : destination < length routes). ap (over other) (get_or-set_same routes destination changed [] there) ∙ other-status (slice_index_or routes destination []) set other given apart)
        (λ (past : length routes ≤ destination).
        ap (over other) (get_or_past (slice_set routes destination changed) destination [] (omega (arith, past, length-set routes destination changed)))
        ∙ sym (ap (over other) (get_or_past routes destination [] past)))
        (cases_lt destination (length routes))

pub not-unsure : (o : Option RouteStatus) → ((s : RouteStatus) → o ≡ Some s → s ≡ Allowed) → is_unsure o ≡ false
not-unsure None h = refl
not-unsure (Some Allowed) h = refl
not-unsure (Some Restricted) h = (let bad : Restricted ≡ Allowed = h Restricted refl in absurd cc)
not-unsure (Some Prohibited) h = (let bad : Prohibited ≡ Allowed = h Prohibited refl in absurd cc)

over-allowed : (set : ℕ) (rs : List Route) → is_unsure (over set (map (with_status_over set Allowed) rs)) ≡ false
over-allowed set rs = not-unsure (over set (map (with_status_over set Allowed) rs)) (λ s e. own-status rs set Allowed s e)

-- one that is allowed isn't
pub allowed-sure : (routes : List (List Route)) (set destination : ℕ) → is_unsure (status_over set destination (given_to set destination Allowed routes)) ≡ false
allowed-sure routes set destination =
    ⊎_elim
    (λ (there : destination < length routes).
    ap (λ (rs : List Route). is_unsure (over set rs)) (get_or-set_same routes destination _ [] there) ∙ over-allowed set (slice_index_or routes destination []))
    (λ (past : length routes ≤ destination).
    ap (λ (rs : List Route). is_unsure (over set rs)) (get_or_past (given_to set destination Allowed routes) destination [] (omega (arith, past, length-set routes destination (map (with_status_over set Allowed) (slice_index_or routes destination []))))))
    (cases_lt destination (length routes))

-- nor is one over a set that is reset, and every other is as before
pub reset-sure : (routes : List (List Route)) (set destination : ℕ) → is_unsure (status_over set destination (map (map (with_status_over set Allowed)) routes)) ≡ false
reset-sure routes set destination =
    ap (λ (rs : List Route). is_unsure (over set rs)) (get_or-map (map (with_status_over set Allowed)) routes destination []) ∙ over-allowed set (slice_index_or routes destination [])

pub reset-unsure : (routes : List (List Route)) (set other destination : ℕ) → is_unsure (status_over other destination (map (map (with_status_over set Allowed)) routes)) ≡ true
    → is_unsure (status_over other destination routes) ≡ true
reset-unsure routes set other destination e =
    ⊎_elim
    (λ (its : other ≡ set). no (sym (ap (λ (k : ℕ). is_unsure (status_over k destination (map (map (with_status_over set Allowed)) routes))) its ∙ reset-sure routes set destination) ∙ e))
    (λ (apart : other ≢ set).
    sym (ap (λ (rs : List Route). is_unsure (over other rs)) (get_or-map (map (with_status_over set Allowed)) routes destination [])
    ∙ ap is_unsure (other-status (slice_index_or routes destination []) set other Allowed apart)) ∙ e)
    (cases_eq other set)
