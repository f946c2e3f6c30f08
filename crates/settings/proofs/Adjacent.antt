-- The set that leads to a point is the first of the sets of that destination.
use Rattle.settings.proofs.Basics.{refl, sym, subst, ap, ◌∙◌, ◌≡◌, ℕ, Bool, true, false, ◌&&◌, ◌||◌, nat_eq, List, [], ◌∷◌, position, length, get_or, arith, Option, Some, None, is_some, slice_get, option_and_then, if◌then◌else◌, AllByRecursion, IsDistinct, list_any, nat_tests, position-Some, slice_get-get_or, slice_get_read, Configuration, SetEntry, DestinationEntry, IsWell, is_same_point, is_led_first, is_first, eqb-true, or_left, or_right}
use Rattle.settings.proofs.Entries.{some_place}
use Rattle.settings.specs.Readings.{first_to, destination_place, set_place}
use Rattle.settings.proofs.Rows.{each_then, each_at, none_of_any}

turned : (m n : ℕ) → nat_eq m n ≡ true → nat_eq n m ≡ true
turned m n h = grind (arith, nat_tests)

-- what differs from a number differs from what is equal to it
apart : (m n p : ℕ) → nat_eq m n ≡ false → nat_eq p m ≡ true → nat_eq n p ≡ false
apart m n p h k = grind (arith, nat_tests)

-- where a destination is this point, none of those that differ from it is
none_beside : (q : DestinationEntry → Bool) (point : ℕ) (d : DestinationEntry) → nat_eq point d.point ≡ true → (ds : List DestinationEntry) → AllByRecursion (λ e. is_same_point d e ≡ false) ds
    → list_any (λ e. nat_eq e.point point && q e) ds ≡ false
none_beside q point d h [] k = refl
none_beside q point d h (e ∷ ds) k = rw (apart d.point e.point point k.0 h) (none_beside q point d h ds k.1)

-- where a destination of this point passes a test, each of this point does, since they differ
each_of_point : (q : DestinationEntry → Bool) (point : ℕ) (ds : List DestinationEntry) → IsDistinct is_same_point ds → list_any (λ e. nat_eq e.point point && q e) ds ≡ true
    → AllByRecursion (λ e. nat_eq point e.point ≡ true → q e ≡ true) ds
unfolding IsDistinct
each_of_point q point [] d h = tt
each_of_point q point (e ∷ ds) d h = by (nat_eq e.point point) (q e) refl refl (each_of_point q point ds d.1) h
  where
    Each : List DestinationEntry → Type 0
    Each xs = AllByRecursion (λ x. nat_eq point x.point ≡ true → q x ≡ true) xs

    others : nat_eq e.point point ≡ true → Each ds
    others k = each_then (λ x. is_same_point e x ≡ false) (λ x. nat_eq point x.point ≡ true → q x ≡ true) (λ x a b. grind (arith, nat_tests)) ds d.0

    here : list_any (λ x. nat_eq x.point point && q x) ds ≡ true → nat_eq point e.point ≡ true → q e ≡ true
    here f k = let g : list_any (λ x. nat_eq x.point point && q x) ds ≡ false = none_beside q point e k ds d.0 in cc

    by : (a b : Bool) → nat_eq e.point point ≡ a → q e ≡ b → (list_any (λ x. nat_eq x.point point && q x) ds ≡ true → Each ds)
        → ((a && b) || list_any (λ x. nat_eq x.point point && q x) ds) ≡ true → Each (e ∷ ds)
    by true true k l rest f = (λ m. l, others k)
    by true false k l rest f = (here f, rest f)
    by false b k l rest f = (here f, rest f)

-- the element at a place that was found passes the test
placed : {X : Type 0} (p : X → Bool) (xs : List X) (i : ℕ) → position p xs ≡ Some i → (x : X) × (slice_get xs i ≡ Some x) × (p x ≡ true)
placed p [] i e = cc
placed p (x ∷ xs) i e =
    let r = position-Some p (x ∷ xs) i x e in
    (get_or (x ∷ xs) i x, slice_get-get_or (x ∷ xs) i x r.0, r.1)

any_of_point : (q : DestinationEntry → Bool) (point : ℕ) (ds : List DestinationEntry) → list_any (λ d. nat_eq d.point point && q d) ds ≡ true → list_any (λ d. nat_eq point d.point) ds ≡ true
any_of_point q point [] h = h
any_of_point q point (d ∷ ds) h = by (nat_eq d.point point) (q d) refl (any_of_point q point ds) h
  where
    by : (a b : Bool) → nat_eq d.point point ≡ a → (list_any (λ e. nat_eq e.point point && q e) ds ≡ true → list_any (λ e. nat_eq point e.point) ds ≡ true)
        → ((a && b) || list_any (λ e. nat_eq e.point point && q e) ds) ≡ true → (nat_eq point d.point || list_any (λ e. nat_eq point e.point) ds) ≡ true
    by true b k rest f = or_left (nat_eq point d.point) (list_any (λ e. nat_eq point e.point) ds) (turned d.point point k)
    by false b k rest f = or_right (nat_eq point d.point) (list_any (λ e. nat_eq point e.point) ds) (rest f)

-- ---- the first of some sets
first_found : (sets : List SetEntry) (ids : List ℕ) (point i : ℕ) (s : SetEntry) → is_first i ids ≡ true → slice_get sets i ≡ Some s → nat_eq point s.adjacent ≡ true → first_to sets ids point ≡ Some i
first_found sets [] point i s f e h = cc
first_found sets (first ∷ rest) point i s f e h = rw (eqb-true first i f, e, h) refl

first_missed : (sets : List SetEntry) (ids : List ℕ) (point : ℕ) → AllByRecursion (λ s. nat_eq point s.adjacent ≡ false) sets → first_to sets ids point ≡ None
first_missed sets [] point h = refl
first_missed sets (first ∷ rest) point h = by (slice_get sets first) refl
  where
    by : (o : Option SetEntry) → slice_get sets first ≡ o → option_and_then (λ (s : SetEntry). if nat_eq point s.adjacent then Some first else None) o ≡ None
    by None e = refl
    by (Some s) e = rw (each_at (λ (s : SetEntry). nat_eq point s.adjacent ≡ false) sets first s h e) refl

-- ---- checked settings
led : (c : Configuration) → IsWell c → (point i : ℕ) → set_place c point ≡ Some i → list_any (λ d. nat_eq d.point point && is_first i d.sets) c.destinations ≡ true
led c w point i e =
    let p = placed (λ s. nat_eq point s.adjacent) c.sets i e in
    subst (λ n. list_any (is_led_first n i) c.destinations ≡ true) (sym (eqb-true point p.0.adjacent p.2)) (w.adjacent_points_led i p.0 p.1)

-- no set leads to a point that isn't a destination
pub to_none : (c : Configuration) → IsWell c → (point : ℕ) → destination_place c point ≡ None → set_place c point ≡ None
to_none c w point h = by (set_place c point) refl
  where
    by : (o : Option ℕ) → set_place c point ≡ o → o ≡ None
    by None e = refl
    by (Some i) e =
        let any = any_of_point (λ d. is_first i d.sets) point c.destinations (led c w point i e) in
        let place = some_place (λ d. nat_eq point d.point) c.destinations ∙ any in
        let missed = ap is_some h in
        cc

-- the set that leads to a destination over its own links is the first of that destination's
pub to_first : (c : Configuration) → IsWell c → (point place : ℕ) (d : DestinationEntry) → destination_place c point ≡ Some place → d ≡ get_or c.destinations place d → first_to c.sets d.sets point ≡ set_place c point
to_first c w point place d h k = by (set_place c point) refl
  where
    by : (o : Option ℕ) → set_place c point ≡ o → first_to c.sets d.sets point ≡ o
    by None e =
        let none : list_any (λ s. nat_eq point s.adjacent) c.sets ≡ false = sym (some_place (λ s. nat_eq point s.adjacent) c.sets) ∙ ap is_some e in
        first_missed c.sets d.sets point (none_of_any (λ s. nat_eq point s.adjacent) c.sets none)
    by (Some i) e =
        let p = placed (λ s. nat_eq point s.adjacent) c.sets i e in
        let r = position-Some (λ d. nat_eq point d.point) c.destinations place d h in
        let here : nat_eq point d.point ≡ true = ap (λ (e : DestinationEntry). nat_eq point e.point) k ∙ r.1 in
        let each = each_of_point (λ d. is_first i d.sets) point c.destinations w.points_differ (led c w point i e) in
        let at : slice_get c.destinations place ≡ Some d = slice_get_read c.destinations (length c.destinations) place d refl r.0 k in
        first_found c.sets d.sets point i p.0 (each_at (λ d. nat_eq point d.point ≡ true → is_first i d.sets ≡ true) c.destinations place d each at here) p.1 p.2
