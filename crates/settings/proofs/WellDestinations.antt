-- Destinations without a fault satisfy what is asked of them.
use Rattle.settings.proofs.Basics.{refl, sym, ap, subst, ◌∙◌, ◌≡◌, ◌<◌, ◌≤◌, ℕ, Bool, true, false, not, ◌&&◌, ◌||◌, nat_eq, nat_le, nat_lt, List, [], ◌∷◌, map, length, get_or, All, IsTrue, arith, Option, None, Some, ℤ, String, string_eq, unwrap_or, slice_get, string_bytes, IsDistinct, AllByRecursion, list_any, list_all, position_or_len, option_map, bytes_eq, int_eq, length-map, All-from_recursion, position_or_len_is, slice_get-map, get_or_from_slice_get, bytes_eq-Decides, nat_tests, Decides-eqb, Decides-int_eq, natural, far_point_fault, fault_unless, entries_fault, has_repeat, count_fault, set_of, destination_of, set_place, set_number, destinations_fault, destination_fault, destination_point_fault, set_list_fault, joined_fault, has_destination, is_set_name, unreached_fault, reached_fault, is_reached, is_first_name, sets_fault, SetEntry, is_name, SetDraft, DestinationDraft, Key, Destination, DestinationPoint, DestinationSets, DestinationJoined, SetAdjacent, Range, Duplicate, UnknownName, DESTINATIONS, SETS_PER_DESTINATION, IsWithin, IsDestination, is_same_point, is_led_first, is_first, and_from, not-true, and_parts}
use Rattle.std.specs.declared.alloc.Global.{Global}
use Rattle.std.proofs.lemmas.Map.Keys.{apart_from_distinct}
use Rattle.settings.proofs.Rows.{false_by, two_none, three_none, four_none, passes, each_entry, each_made, each_of_all, each_then, each_unmapped, entries_differ, differ_made, none_of_any, none_differ, every, any_made, each_at, within_from_get}
use Rattle.settings.proofs.WellNumbers.{count_within, far_point_well, no_repeat, nat_eq-flips}
use Rattle.settings.proofs.WellSets.{is_named_alike, set_drafts_differ}
use Rattle.settings.proofs.WellLinks.{known_number, same_set}

bytes_eq-flips : (a b : List ℕ) → bytes_eq a b ≡ true → bytes_eq b a ≡ true
bytes_eq-flips a b h = (bytes_eq-Decides b a).1 (sym ((bytes_eq-Decides a b).0 h))

string_eq-flips : (x y : String Global) → string_eq y x ≡ false → string_eq x y ≡ false
string_eq-flips x y h = false_by (string_eq y x) (string_eq x y) (bytes_eq-flips (string_bytes x) (string_bytes y)) h

-- the sets of a destination: their count, their form, that they differ, and that they are known
record IsListed (sets : List SetDraft) (names : List (String Global)) : Type 0 where
  count : IsWithin 1 SETS_PER_DESTINATION (length names)
  differ : has_repeat string_eq names ≡ false
  known : AllByRecursion (λ name. is_set_name sets name ≡ true) names

is_listed : (sets : List SetDraft) (key : Key) (names : List (String Global)) → set_list_fault sets key names ≡ None → IsListed sets names
is_listed sets key names h =
    let r = four_none (count_fault SETS_PER_DESTINATION key (length names)) (fault_unless (list_all (λ name. is_name (string_bytes name)) names) Range key) (fault_unless (not (has_repeat string_eq names)) Duplicate key) (fault_unless (list_all (is_set_name sets) names) UnknownName key) h in
    record {
      count = count_within SETS_PER_DESTINATION (length names) key r.0;
      differ = not-true (has_repeat string_eq names) (passes (not (has_repeat string_eq names)) Duplicate key r.2);
      known = each_of_all (is_set_name sets) names (passes (list_all (is_set_name sets) names) UnknownName key r.3);
    }

-- the number of the set of a name
abbrev number_in : List SetDraft → String Global → ℕ
number_in sets name = set_number sets (string_bytes name)

destination_none : (own : ℕ) (sets : List SetDraft) (earlier : List DestinationDraft) (d : DestinationDraft) → destination_fault own sets earlier d ≡ None → (destination_point_fault own earlier d ≡ None) × (set_list_fault sets (DestinationSets (length earlier)) d.sets.items ≡ None) × (joined_fault earlier d ≡ None)
destination_none own sets earlier d h = three_none (destination_point_fault own earlier d) (set_list_fault sets (DestinationSets (length earlier)) d.sets.items) (joined_fault earlier d) h

-- a destination whose first two sets are joined has two
two_joined : (joined : Bool) (sets : ℕ) → (not joined || nat_le 2 sets) ≡ true → joined ≡ true → 2 ≤ sets
two_joined true sets h k = grind (arith, nat_tests)
two_joined false sets h k = cc

point_none : (own : ℕ) (earlier : List DestinationDraft) (d : DestinationDraft) → destination_point_fault own earlier d ≡ None → (far_point_fault own (DestinationPoint (length earlier)) d.point ≡ None) × (fault_unless (not (has_destination earlier d.point)) Duplicate (DestinationPoint (length earlier)) ≡ None)
point_none own earlier d h =
    two_none (far_point_fault own (DestinationPoint (length earlier)) d.point) (fault_unless (not (has_destination earlier d.point)) Duplicate (DestinationPoint (length earlier))) h

each_destination : (own : ℕ) (sets : List SetDraft) (earlier : List DestinationDraft) (d : DestinationDraft) → destination_fault own sets earlier d ≡ None → IsDestination own (length (map set_of sets)) (destination_of sets d)
each_destination own sets earlier d h =
    let r = destination_none own sets earlier d h in
    let listed : IsListed sets d.sets.items = is_listed sets (DestinationSets (length earlier)) d.sets.items r.1 in
    record {
      point = far_point_well own (DestinationPoint (length earlier)) d.point (point_none own earlier d r.0).0;
      some = rw (length-map d.sets.items (number_in sets)) listed.count.above;
      fits = rw (length-map d.sets.items (number_in sets)) listed.count.below;
      within = rw (length-map sets set_of) (All-from_recursion (λ set. set < length sets) (map (number_in sets) d.sets.items) (each_made (λ name. is_set_name sets name ≡ true) (λ set. set < length sets) (number_in sets) (λ name k. known_number sets (string_bytes name) k) d.sets.items listed.known));
      differ = differ_made (λ name. is_set_name sets name ≡ true) string_eq nat_eq (number_in sets) (λ x y p q e. same_set sets (string_bytes x) (string_bytes y) p q e) d.sets.items listed.known (no_repeat string_eq string_eq string_eq-flips d.sets.items listed.differ);
      joined = λ k. rw (length-map d.sets.items (number_in sets)) (two_joined d.joined (length d.sets.items) (passes (not d.joined || nat_le 2 (length d.sets.items)) Range (DestinationJoined (length earlier)) r.2) k);
    }

destinations_none : (own : ℕ) (sets : List SetDraft) (ds : List DestinationDraft) → destinations_fault own sets ds ≡ None → (count_fault DESTINATIONS Destination (length ds) ≡ None) × (entries_fault (destination_fault own sets) [] ds ≡ None)
unfolding destinations_fault
destinations_none own sets ds h = two_none (count_fault DESTINATIONS Destination (length ds)) (entries_fault (destination_fault own sets) [] ds) h

pub destination_count_well : (own : ℕ) (sets : List SetDraft) (ds : List DestinationDraft) → destinations_fault own sets ds ≡ None → IsWithin 1 DESTINATIONS (length (map (destination_of sets) ds))
destination_count_well own sets ds h =
    rw (length-map ds (destination_of sets)) (count_within DESTINATIONS (length ds) Destination (destinations_none own sets ds h).0)

pub destinations_well : (own : ℕ) (sets : List SetDraft) (ds : List DestinationDraft) → destinations_fault own sets ds ≡ None → All (IsDestination own (length (map set_of sets))) (map (destination_of sets) ds)
destinations_well own sets ds h =
    All-from_recursion (IsDestination own (length (map set_of sets))) (map (destination_of sets) ds)
    (each_made (λ d. IsDestination own (length (map set_of sets)) (destination_of sets d)) (IsDestination own (length (map set_of sets))) (destination_of sets) (λ d k. k) ds
    (each_entry (destination_fault own sets) (λ d. IsDestination own (length (map set_of sets)) (destination_of sets d)) (each_destination own sets) [] ds (destinations_none own sets ds h).1))

-- whether two destinations were written with the same point
abbrev is_pointed_alike : DestinationDraft → DestinationDraft → Bool
is_pointed_alike d e = nat_eq (natural d.point) (natural e.point)

new_point : (own : ℕ) (sets : List SetDraft) (earlier : List DestinationDraft) (d : DestinationDraft) → destination_fault own sets earlier d ≡ None → AllByRecursion (λ e. is_pointed_alike e d ≡ false) earlier
new_point own sets earlier d h =
    let new = passes (not (has_destination earlier d.point)) Duplicate (DestinationPoint (length earlier)) (point_none own earlier d (destination_none own sets earlier d h).0).1 in
    let apart = none_of_any (nat_eq (natural d.point)) (map (λ (e : DestinationDraft). natural e.point) earlier) (not-true (has_destination earlier d.point) new) in
    each_then (λ e. is_pointed_alike d e ≡ false) (λ e. is_pointed_alike e d ≡ false) (λ e k. nat_eq-flips (natural e.point) (natural d.point) k) earlier
    (each_unmapped (λ n. nat_eq (natural d.point) n ≡ false) (λ (e : DestinationDraft). natural e.point) earlier apart)

pub points_well : (own : ℕ) (sets : List SetDraft) (ds : List DestinationDraft) → destinations_fault own sets ds ≡ None → IsDistinct is_same_point (map (destination_of sets) ds)
points_well own sets ds h =
    differ_made (λ d. Unit {0}) is_pointed_alike is_same_point (destination_of sets) (λ d e _ _ k. k) ds (every ds)
    (entries_differ (destination_fault own sets) is_pointed_alike (new_point own sets) [] ds (none_differ is_pointed_alike) (destinations_none own sets ds h).1)

-- ---- adjacent points
int_eq-known : (x y : ℤ) → int_eq x y ≡ true → nat_eq (natural x) (natural y) ≡ true
int_eq-known x y e = (Decides-eqb (natural x) (natural y)).1 (ap natural ((Decides-int_eq x y).0 e))

-- the place of a set is found by its name
place_of : (sets : List SetDraft) (set : ℕ) (s : SetDraft) → IsDistinct is_named_alike sets → slice_get sets set ≡ Some s → set_place sets (string_bytes s.name) ≡ Some set
place_of sets set s differ at =
    let within : set < length sets = within_from_get sets set s at in
    let here : get_or sets set s ≡ s = get_or_from_slice_get sets set s s at in
    let before : (k : ℕ) → k < set → is_named_alike (get_or sets k s) s ≡ false = λ k m. ap (is_named_alike (get_or sets k s)) (sym here) ∙ apart_from_distinct is_named_alike sets k set s differ m within in
    let found : set < length sets → is_named_alike (get_or sets set s) s ≡ true = λ _. ap (λ t. is_named_alike t s) here ∙ (bytes_eq-Decides (string_bytes s.name) (string_bytes s.name)).1 refl in
    let place : position_or_len (λ t. is_named_alike t s) sets ≡ set = position_or_len_is (λ t. is_named_alike t s) sets set s (omega (arith, within)) before found in
    let fits : nat_lt set (length sets) ≡ true = grind (arith, nat_tests) in
    rw (place, fits) refl

-- the first of a destination's names leads to the set of that name
first_led : (sets : List SetDraft) (set : ℕ) (s : SetDraft) → set_place sets (string_bytes s.name) ≡ Some set → (names : List (String Global)) → is_first_name (string_bytes s.name) names ≡ true → is_first set (map (number_in sets) names) ≡ true
first_led sets set s place [] e = e
first_led sets set s place (name ∷ rest) e =
    let same : string_bytes name ≡ string_bytes s.name = (bytes_eq-Decides (string_bytes name) (string_bytes s.name)).0 e in
    let number : set_number sets (string_bytes name) ≡ set = ap (λ text. set_number sets text) same ∙ ap (λ o. unwrap_or o 0) place in
    (Decides-eqb (set_number sets (string_bytes name)) set).1 number

led : (sets : List SetDraft) (set : ℕ) (s : SetDraft) → set_place sets (string_bytes s.name) ≡ Some set → (d : DestinationDraft) → (int_eq d.point s.adjacent && is_first_name (string_bytes s.name) d.sets.items) ≡ true → is_led_first (natural s.adjacent) set (destination_of sets d) ≡ true
led sets set s place d h =
    let r = and_parts (int_eq d.point s.adjacent) (is_first_name (string_bytes s.name) d.sets.items) h in
    and_from (nat_eq (natural d.point) (natural s.adjacent)) (is_first set (map (number_in sets) d.sets.items)) (int_eq-known d.point s.adjacent r.0) (first_led sets set s place d.sets.items r.1)

all_reached : (sets : List SetDraft) (ds : List DestinationDraft) → unreached_fault ds sets ≡ None → AllByRecursion (λ s. is_reached ds s ≡ true) sets
unfolding unreached_fault
all_reached sets ds h =
    each_entry (reached_fault ds) (λ s. is_reached ds s ≡ true) (λ earlier s e. passes (is_reached ds s) UnknownName (SetAdjacent (length earlier)) e) [] sets h

led_at : (own : ℕ) (sets : List SetDraft) (ds : List DestinationDraft) → sets_fault own sets ≡ None → unreached_fault ds sets ≡ None → (set : ℕ) (t : SetDraft) → slice_get sets set ≡ Some t → list_any (is_led_first (natural t.adjacent) set) (map (destination_of sets) ds) ≡ true
led_at own sets ds k h set t at =
    any_made (λ (d : DestinationDraft). int_eq d.point t.adjacent && is_first_name (string_bytes t.name) d.sets.items) (is_led_first (natural t.adjacent) set) (destination_of sets) (led sets set t (place_of sets set t (set_drafts_differ own sets k) at)) ds
    (each_at (λ s. is_reached ds s ≡ true) sets set t (all_reached sets ds h) at)

pub adjacent_points_led_well : (own : ℕ) (sets : List SetDraft) (ds : List DestinationDraft) → sets_fault own sets ≡ None → unreached_fault ds sets ≡ None → (set : ℕ) (s : SetEntry) → slice_get (map set_of sets) set ≡ Some s → IsTrue (list_any (is_led_first s.adjacent set) (map (destination_of sets) ds))
adjacent_points_led_well own sets ds k h set s at = by (slice_get sets set) refl (sym (slice_get-map set_of sets set) ∙ at)
  where
    by : (o : Option SetDraft) → slice_get sets set ≡ o → option_map set_of o ≡ Some s → IsTrue (list_any (is_led_first s.adjacent set) (map (destination_of sets) ds))
    by None e f = cc
    by (Some t) e f =
        let same : set_of t ≡ s = cc in
        subst (λ (u : SetEntry). IsTrue (list_any (is_led_first u.adjacent set) (map (destination_of sets) ds))) same (led_at own sets ds k h set t e)
