-- Link sets without a fault satisfy what is asked of them.
use Rattle.settings.proofs.Basics.{ap, ◌≡◌, ℕ, Bool, true, false, not, nat_eq, List, [], map, length, All, None, ℤ, pos, negsuc, string_bytes, IsDistinct, AllByRecursion, bytes_eq, int_eq, length-map, All-from_recursion, Decides-eqb, Decides-int_eq, natural, is_within, far_point_fault, fault_unless, entries_fault, count_fault, set_of, sets_fault, set_fault, set_name_fault, set_adjacent_fault, has_set_named, has_adjacent, is_name, SetDraft, Set, SetName, SetAdjacent, Range, Duplicate, SETS, IsWithin, IsSet, is_set_of_same_name, is_set_to_same_point, not-true}
use Rattle.settings.proofs.Rows.{two_none, passes, two_pass, each_entry, each_made, entries_differ, differ_made, none_of_any, none_differ, every}
use Rattle.settings.proofs.WellNumbers.{count_within, far_point_within, far_point_well}

-- numbers that were written and are not below 0 are the same where their natural numbers are
pub int_eq-natural : (low high : ℕ) (x y : ℤ) → is_within low high x ≡ true → is_within low high y ≡ true → nat_eq (natural x) (natural y) ≡ true → int_eq x y ≡ true
int_eq-natural low high (pos n) (pos m) h k e = (Decides-int_eq (pos n) (pos m)).1 (ap pos ((Decides-eqb n m).0 e))
int_eq-natural low high (pos n) (negsuc m) h k e = cc
int_eq-natural low high (negsuc n) y h k e = cc

sets_none : (own : ℕ) (sets : List SetDraft) → sets_fault own sets ≡ None → (count_fault SETS Set (length sets) ≡ None) × (entries_fault (set_fault own) [] sets ≡ None)
unfolding sets_fault
sets_none own sets h = two_none (count_fault SETS Set (length sets)) (entries_fault (set_fault own) [] sets) h

set_none : (own : ℕ) (earlier : List SetDraft) (s : SetDraft) → set_fault own earlier s ≡ None → (set_name_fault earlier s ≡ None) × (set_adjacent_fault own earlier s ≡ None)
set_none own earlier s h = two_none (set_name_fault earlier s) (set_adjacent_fault own earlier s) h

name_passes : (earlier : List SetDraft) (s : SetDraft) → set_name_fault earlier s ≡ None → (is_name (string_bytes s.name) ≡ true) × (not (has_set_named earlier (string_bytes s.name)) ≡ true)
name_passes earlier s h =
    two_pass (is_name (string_bytes s.name)) (not (has_set_named earlier (string_bytes s.name))) Range Duplicate (SetName (length earlier)) h

adjacent_none : (own : ℕ) (earlier : List SetDraft) (s : SetDraft) → set_adjacent_fault own earlier s ≡ None → (far_point_fault own (SetAdjacent (length earlier)) s.adjacent ≡ None) × (fault_unless (not (has_adjacent earlier s.adjacent)) Duplicate (SetAdjacent (length earlier)) ≡ None)
adjacent_none own earlier s h =
    two_none (far_point_fault own (SetAdjacent (length earlier)) s.adjacent) (fault_unless (not (has_adjacent earlier s.adjacent)) Duplicate (SetAdjacent (length earlier))) h

pub set_count_well : (own : ℕ) (sets : List SetDraft) → sets_fault own sets ≡ None → IsWithin 1 SETS (length (map set_of sets))
set_count_well own sets h = rw (length-map sets set_of) (count_within SETS (length sets) Set (sets_none own sets h).0)

each_set : (own : ℕ) (earlier : List SetDraft) (s : SetDraft) → set_fault own earlier s ≡ None → IsSet own (set_of s)
each_set own earlier s h =
    let r = set_none own earlier s h in
    record {
      name = (name_passes earlier s r.0).0;
      adjacent = far_point_well own (SetAdjacent (length earlier)) s.adjacent (adjacent_none own earlier s r.1).0;
    }

pub sets_well : (own : ℕ) (sets : List SetDraft) → sets_fault own sets ≡ None → All (IsSet own) (map set_of sets)
sets_well own sets h =
    All-from_recursion (IsSet own) (map set_of sets) (each_made (λ s. IsSet own (set_of s)) (IsSet own) set_of (λ s k. k) sets (each_entry (set_fault own) (λ s. IsSet own (set_of s)) (each_set own) [] sets (sets_none own sets h).1))

-- whether two link sets were written with one name
abbrev pub is_named_alike : SetDraft → SetDraft → Bool
is_named_alike s t = bytes_eq (string_bytes s.name) (string_bytes t.name)

new_name : (own : ℕ) (earlier : List SetDraft) (s : SetDraft) → set_fault own earlier s ≡ None → AllByRecursion (λ e. is_named_alike e s ≡ false) earlier
new_name own earlier s h =
    none_of_any (λ e. is_named_alike e s) earlier (not-true (has_set_named earlier (string_bytes s.name)) (name_passes earlier s (set_none own earlier s h).0).1)

pub set_drafts_differ : (own : ℕ) (sets : List SetDraft) → sets_fault own sets ≡ None → IsDistinct is_named_alike sets
set_drafts_differ own sets h = entries_differ (set_fault own) is_named_alike (new_name own) [] sets (none_differ is_named_alike) (sets_none own sets h).1

pub set_names_well : (own : ℕ) (sets : List SetDraft) → sets_fault own sets ≡ None → IsDistinct is_set_of_same_name (map set_of sets)
set_names_well own sets h =
    differ_made (λ s. Unit {0}) is_named_alike is_set_of_same_name set_of (λ s t _ _ e. e) sets (every sets) (set_drafts_differ own sets h)

-- whether two link sets were written with one adjacent point
abbrev is_led_alike : SetDraft → SetDraft → Bool
is_led_alike s t = int_eq s.adjacent t.adjacent

new_adjacent : (own : ℕ) (earlier : List SetDraft) (s : SetDraft) → set_fault own earlier s ≡ None → AllByRecursion (λ e. is_led_alike e s ≡ false) earlier
new_adjacent own earlier s h =
    none_of_any (λ e. is_led_alike e s) earlier (not-true (has_adjacent earlier s.adjacent) (passes (not (has_adjacent earlier s.adjacent)) Duplicate (SetAdjacent (length earlier)) (adjacent_none own earlier s (set_none own earlier s h).1).1))

adjacent_within : (own : ℕ) (earlier : List SetDraft) (s : SetDraft) → set_fault own earlier s ≡ None → is_within 0 16383 s.adjacent ≡ true
adjacent_within own earlier s h = far_point_within own (SetAdjacent (length earlier)) s.adjacent (adjacent_none own earlier s (set_none own earlier s h).1).0

pub adjacent_points_well : (own : ℕ) (sets : List SetDraft) → sets_fault own sets ≡ None → IsDistinct is_set_to_same_point (map set_of sets)
adjacent_points_well own sets h =
    differ_made (λ s. is_within 0 16383 s.adjacent ≡ true) is_led_alike is_set_to_same_point set_of (λ s t a b e. int_eq-natural 0 16383 s.adjacent t.adjacent a b e) sets
    (each_entry (set_fault own) (λ s. is_within 0 16383 s.adjacent ≡ true) (adjacent_within own) [] sets (sets_none own sets h).1)
    (entries_differ (set_fault own) is_led_alike (new_adjacent own) [] sets (none_differ is_led_alike) (sets_none own sets h).1)
