-- Links without a fault satisfy what is asked of them.
use Rattle.settings.proofs.Basics.{refl, sym, ap, ◌∙◌, ◌≡◌, ◌≤◌, ◌<◌, ℕ, Bool, true, false, not, ◌&&◌, nat_eq, List, [], ◌∷◌, map, length, get_or, All, arith, Option, None, Some, is_some, unwrap_or, string_bytes, IsDistinct, AllByRecursion, filter, count_by, bytes_eq, int_eq, eqb, length-map, All-from_recursion, position-Some, length-filter, bytes_eq-Decides, nat_tests, natural, is_within, entries_fault, count_fault, set_of, link_of, set_place, set_number, links_fault, link_fault, link_name_fault, link_set_fault, link_slc_fault, optional_fault, has_link_named, has_link_code, LinkEntry, is_name, SetDraft, Link, LinkName, LinkSet, LinkSlc, LinkShare, Range, Duplicate, UnknownName, LINKS, LINKS_PER_SET, POOL, IsWithin, IsLink, is_link_of_same_name, is_same_code, and_from, not-true, and_parts}
use Rattle.std.proofs.lemmas.Map.Steps.{length-le_from_distinct_below}
use Rattle.settings.specs.declared.draft.LinkDraft.{LinkDraft}
use Rattle.settings.proofs.Rows.{two_none, four_none, two_pass, within_from_test, each_entry, each_made, entries_differ, differ_made, none_of_any, none_differ, every, each_passes, each_filtered, differ_filter, below_from_each}
use Rattle.settings.proofs.WellNumbers.{optional_in_range, count_within}
use Rattle.settings.proofs.WellSets.{int_eq-natural}

some_is : (o : Option ℕ) → is_some o ≡ true → o ≡ Some (unwrap_or o 0)
some_is None h = cc
some_is (Some n) h = refl

-- a name that a set has leads to one of the sets
pub known_number : (sets : List SetDraft) (name : List ℕ) → is_some (set_place sets name) ≡ true → set_number sets name < length sets
known_number [] name h = cc
known_number (s ∷ rest) name h =
    (position-Some (λ (t : SetDraft). bytes_eq (string_bytes t.name) name) (s ∷ rest) (set_number (s ∷ rest) name) s (some_is (set_place (s ∷ rest) name) h)).0

-- the set that a known name leads to has that name
named : (sets : List SetDraft) (name : List ℕ) (d : SetDraft) → is_some (set_place sets name) ≡ true → string_bytes (get_or sets (set_number sets name) d).name ≡ name
named sets name d h =
    (bytes_eq-Decides (string_bytes (get_or sets (set_number sets name) d).name) name).0 (position-Some (λ (t : SetDraft). bytes_eq (string_bytes t.name) name) sets (set_number sets name) d (some_is (set_place sets name) h)).1

-- names that lead to one set are the same
pub same_set : (sets : List SetDraft) (a b : List ℕ) → is_some (set_place sets a) ≡ true → is_some (set_place sets b) ≡ true → nat_eq (set_number sets a) (set_number sets b) ≡ true → bytes_eq a b ≡ true
same_set [] a b h k e = cc
same_set (s ∷ rest) a b h k e =
    let n : set_number (s ∷ rest) a ≡ set_number (s ∷ rest) b = grind (arith, nat_tests) in
    (bytes_eq-Decides a b).1 (sym (named (s ∷ rest) a s h) ∙ ap (λ i. string_bytes (get_or (s ∷ rest) i s).name) n ∙ named (s ∷ rest) b s k)

links_none : (sets : List SetDraft) (links : List LinkDraft) → links_fault sets links ≡ None → (count_fault LINKS Link (length links) ≡ None) × (entries_fault (link_fault sets) [] links ≡ None)
unfolding links_fault
links_none sets links h = two_none (count_fault LINKS Link (length links)) (entries_fault (link_fault sets) [] links) h

link_none : (sets : List SetDraft) (earlier : List LinkDraft) (l : LinkDraft) → link_fault sets earlier l ≡ None → (link_name_fault earlier l ≡ None) × (link_set_fault sets earlier l ≡ None) × (link_slc_fault earlier l ≡ None) × (optional_fault 1 POOL (LinkShare (length earlier)) l.share ≡ None)
link_none sets earlier l h = four_none (link_name_fault earlier l) (link_set_fault sets earlier l) (link_slc_fault earlier l) (optional_fault 1 POOL (LinkShare (length earlier)) l.share) h

name_passes : (earlier : List LinkDraft) (l : LinkDraft) → link_name_fault earlier l ≡ None → (is_name (string_bytes l.name) ≡ true) × (not (has_link_named earlier (string_bytes l.name)) ≡ true)
name_passes earlier l h =
    two_pass (is_name (string_bytes l.name)) (not (has_link_named earlier (string_bytes l.name))) Range Duplicate (LinkName (length earlier)) h

known : (sets : List SetDraft) (earlier : List LinkDraft) (l : LinkDraft) → link_fault sets earlier l ≡ None → is_some (set_place sets (string_bytes l.set)) ≡ true
known sets earlier l h =
    (two_pass (is_name (string_bytes l.set)) (is_some (set_place sets (string_bytes l.set))) Range UnknownName (LinkSet (length earlier)) (link_none sets earlier l h).1).1

code_none : (sets : List SetDraft) (earlier : List LinkDraft) (l : LinkDraft) → link_fault sets earlier l ≡ None → (is_within 0 15 l.slc ≡ true) × (not (has_link_code earlier (string_bytes l.set) l.slc) ≡ true)
code_none sets earlier l h =
    two_pass (is_within 0 15 l.slc) (not (has_link_code earlier (string_bytes l.set) l.slc)) Range Duplicate (LinkSlc (length earlier)) (link_none sets earlier l h).2

pub link_count_well : (sets : List SetDraft) (links : List LinkDraft) → links_fault sets links ≡ None → IsWithin 1 LINKS (length (map (link_of sets) links))
link_count_well sets links h = rw (length-map links (link_of sets)) (count_within LINKS (length links) Link (links_none sets links h).0)

each_link : (sets : List SetDraft) (earlier : List LinkDraft) (l : LinkDraft) → link_fault sets earlier l ≡ None → IsLink (length (map set_of sets)) (link_of sets l)
each_link sets earlier l h =
    let code : IsWithin 0 15 (natural l.slc) = within_from_test 0 15 l.slc (code_none sets earlier l h).0 in
    record {
      name = (name_passes earlier l (link_none sets earlier l h).0).0;
      set = rw (length-map sets set_of) (known_number sets (string_bytes l.set) (known sets earlier l h));
      slc = omega (arith, code.below);
      share = optional_in_range 1 POOL (LinkShare (length earlier)) l.share (link_none sets earlier l h).3;
    }

links_each : (sets : List SetDraft) (links : List LinkDraft) → links_fault sets links ≡ None → AllByRecursion (IsLink (length (map set_of sets))) (map (link_of sets) links)
links_each sets links h =
    each_made (λ l. IsLink (length (map set_of sets)) (link_of sets l)) (IsLink (length (map set_of sets))) (link_of sets) (λ l k. k) links (each_entry (link_fault sets) (λ l. IsLink (length (map set_of sets)) (link_of sets l)) (each_link sets) [] links (links_none sets links h).1)

pub links_well : (sets : List SetDraft) (links : List LinkDraft) → links_fault sets links ≡ None → All (IsLink (length (map set_of sets))) (map (link_of sets) links)
links_well sets links h = All-from_recursion (IsLink (length (map set_of sets))) (map (link_of sets) links) (links_each sets links h)

-- whether two links were written with one name
abbrev is_named_alike : LinkDraft → LinkDraft → Bool
is_named_alike l m = bytes_eq (string_bytes l.name) (string_bytes m.name)

new_name : (sets : List SetDraft) (earlier : List LinkDraft) (l : LinkDraft) → link_fault sets earlier l ≡ None → AllByRecursion (λ e. is_named_alike e l ≡ false) earlier
new_name sets earlier l h =
    none_of_any (λ e. is_named_alike e l) earlier (not-true (has_link_named earlier (string_bytes l.name)) (name_passes earlier l (link_none sets earlier l h).0).1)

pub link_names_well : (sets : List SetDraft) (links : List LinkDraft) → links_fault sets links ≡ None → IsDistinct is_link_of_same_name (map (link_of sets) links)
link_names_well sets links h =
    differ_made (λ l. Unit {0}) is_named_alike is_link_of_same_name (link_of sets) (λ l m _ _ e. e) links (every links)
    (entries_differ (link_fault sets) is_named_alike (new_name sets) [] links (none_differ is_named_alike) (links_none sets links h).1)

-- what is asked of a link's set and code
record HasPlace (sets : List SetDraft) (l : LinkDraft) : Type 0 where
  known : is_some (set_place sets (string_bytes l.set)) ≡ true
  within : is_within 0 15 l.slc ≡ true

has_place : (sets : List SetDraft) (earlier : List LinkDraft) (l : LinkDraft) → link_fault sets earlier l ≡ None → HasPlace sets l
has_place sets earlier l h = record { known = known sets earlier l h; within = (code_none sets earlier l h).0 }

-- whether two links were written with the same set and the same code
abbrev is_coded_alike : LinkDraft → LinkDraft → Bool
is_coded_alike l m = int_eq l.slc m.slc && bytes_eq (string_bytes l.set) (string_bytes m.set)

new_code : (sets : List SetDraft) (earlier : List LinkDraft) (l : LinkDraft) → link_fault sets earlier l ≡ None → AllByRecursion (λ e. is_coded_alike e l ≡ false) earlier
new_code sets earlier l h =
    none_of_any (λ e. is_coded_alike e l) earlier (not-true (has_link_code earlier (string_bytes l.set) l.slc) (code_none sets earlier l h).1)

coded_alike : (sets : List SetDraft) (l m : LinkDraft) → HasPlace sets l → HasPlace sets m → is_same_code (link_of sets l) (link_of sets m) ≡ true → is_coded_alike l m ≡ true
coded_alike sets l m p q e =
    let r = and_parts (nat_eq (set_number sets (string_bytes l.set)) (set_number sets (string_bytes m.set))) (nat_eq (natural l.slc) (natural m.slc)) e in
    and_from (int_eq l.slc m.slc) (bytes_eq (string_bytes l.set) (string_bytes m.set)) (int_eq-natural 0 15 l.slc m.slc p.within q.within r.1) (same_set sets (string_bytes l.set) (string_bytes m.set) p.known q.known r.0)

pub link_codes_well : (sets : List SetDraft) (links : List LinkDraft) → links_fault sets links ≡ None → IsDistinct is_same_code (map (link_of sets) links)
link_codes_well sets links h =
    differ_made (HasPlace sets) is_coded_alike is_same_code (link_of sets) (coded_alike sets) links
    (each_entry (link_fault sets) (HasPlace sets) (has_place sets) [] links (links_none sets links h).1)
    (entries_differ (link_fault sets) is_coded_alike (new_code sets) [] links (none_differ is_coded_alike) (links_none sets links h).1)

-- links of one set that have the same code are the same link
one_code : (set : ℕ) (l m : LinkEntry) → nat_eq l.set set ≡ true → nat_eq m.set set ≡ true → eqb l.slc m.slc ≡ true → is_same_code l m ≡ true
one_code set l m a b e = and_from (nat_eq l.set m.set) (nat_eq l.slc m.slc) (grind (arith, nat_tests)) e

-- links of one set that differ in their codes, of four bits, are at most sixteen
few_of_a_set : (n : ℕ) (links : List LinkEntry) (set : ℕ) → AllByRecursion (IsLink n) links → IsDistinct is_same_code links → length (map (λ (l : LinkEntry). l.slc) (filter (λ l. nat_eq l.set set) links)) ≤ LINKS_PER_SET
few_of_a_set n links set each differ =
    length-le_from_distinct_below (map (λ (l : LinkEntry). l.slc) (filter (λ l. nat_eq l.set set) links)) 16
    (differ_made (λ (l : LinkEntry). nat_eq l.set set ≡ true) is_same_code eqb (λ (l : LinkEntry). l.slc) (one_code set) (filter (λ l. nat_eq l.set set) links) (each_passes (λ l. nat_eq l.set set) links) (differ_filter is_same_code (λ l. nat_eq l.set set) links differ))
    (below_from_each 16 (map (λ (l : LinkEntry). l.slc) (filter (λ l. nat_eq l.set set) links)) (each_made (IsLink n) (λ c. c < 16) (λ (l : LinkEntry). l.slc) (λ l k. k.slc) (filter (λ l. nat_eq l.set set) links) (each_filtered (λ l. nat_eq l.set set) (IsLink n) links each)))

pub links_of_a_set_well : (sets : List SetDraft) (links : List LinkDraft) → links_fault sets links ≡ None → (set : ℕ) → count_by (λ l. nat_eq l.set set) (map (link_of sets) links) ≤ LINKS_PER_SET
links_of_a_set_well sets links h set =
    rw (← length-filter (λ (l : LinkEntry). nat_eq l.set set) (map (link_of sets) links), ← length-map (filter (λ (l : LinkEntry). nat_eq l.set set) (map (link_of sets) links)) (λ (l : LinkEntry). l.slc))
    (few_of_a_set (length (map set_of sets)) (map (link_of sets) links) set (links_each sets links h) (link_codes_well sets links h))
