-- The first of all faults is the first fault.
use Rattle.settings.proofs.Basics.{refl, sym, ap, ◌∙◌, ◌≡◌, ℕ, Bool, true, false, not, ◌&&◌, ◌||◌, nat_eq, List, [], ◌∷◌, ◌++◌, length, Option, None, Some, ℤ, pos, negsuc, is_some, string_bytes, string_eq, list_any, list_all, arith, nat_tests, int_eq, bytes_eq, bytes_eq-Decides, AllByRecursion, first_of, all_of, behind, all_behind, fault_unless, entries_checks, entries_fault, numbers_fault, is_within, natural, range_fault, optional_fault, far_point_fault, has_repeat, count_fault, route_fault, ssn_fault, digits_fault, first_fault, scalars_checks, scalars_fault, set_checks, set_fault, link_tests_checks, link_tests_fault, timers_fault, bar_fault, ticks_fault, timers_written, ticks_in, timer_in, and_parts, sets_fault, links_fault, link_fault, link_name_fault, has_link_code, destination_fault, destination_point_fault, set_list_fault, joined_fault, has_destination, is_set_name, set_place, destinations_fault, titles_fault, title_fault, title_numbers_fault, title_digits_fault, title_target_fault, title_change_fault, title_numbers_checks, title_change_checks, is_same_title, is_by_title, unreached_fault, reached_fault, tables_fault, arrays_fault, own_point, ticks_before_bar, ticks_checks, late_timers_checks, timers_checks, set_count_fault, sets_checks, link_checks, link_count_fault, links_checks, has_point, destination_checks, destination_count_fault, destinations_checks, title_digits_check, is_by_number, title_target_checks, title_checks, title_count_fault, titles_checks, reached_checks, unreached_checks, routes_fault, arrays_checks, all_checks, all_faults, first_in, is_name, DraftFault, Draft, TimersDraft, SetDraft, LinkDraft, DestinationDraft, TitleDraft, Key, Range, Duplicate, UnknownName, Users, Subsystems, Timer, L4e, Sst, LinkSet, LinkSlc, LinkShare, DestinationPoint, DestinationSets, TitleDigits, TitlePoint, TitleBackup, TitleRoute, TitleSsn, POOL, TICKS, SETS_PER_DESTINATION}
use Rattle.settings.proofs.Entries.{first_of-one}
use Rattle.settings.proofs.Rows.{each_push, two_none, three_none, passes, each_entry}
use Rattle.settings.specs.declared.draft.DestinationDraft.{DestinationDraft}
use Rattle.std.specs.Prelude.{codes}

-- ---- lists of checks
pub first_in-all_of : (checks : List (Option DraftFault)) → first_in (all_of checks) ≡ first_of checks
first_in-all_of [] = refl
first_in-all_of (None ∷ rest) = first_in-all_of rest
first_in-all_of (Some fault ∷ rest) = refl

-- what is checked first counts as one
join : (a b : List (Option DraftFault)) → first_of (a ++ b) ≡ first_of (first_of a ∷ b)
join [] b = refl
join (None ∷ a) b = join a b
join (Some fault ∷ a) b = refl

-- behind the same check only what is found where it finds nothing matters
pub keep : (a : Option DraftFault) (b c : List (Option DraftFault)) → (a ≡ None → first_of b ≡ first_of c) → first_of (a ∷ b) ≡ first_of (a ∷ c)
keep None b c h = h refl
keep (Some fault) b c h = refl

-- checks that are behind another one may as well stand behind it
behind-first : (a : Option DraftFault) (b : List (Option DraftFault)) → first_of (a ∷ all_behind a b) ≡ first_of (a ∷ first_of b ∷ [])
behind-first None b = sym (first_of-one (first_of b))
behind-first (Some fault) b = refl

-- entry by entry, where each entry before had no fault
entries : {A : Type 0} (checks : List A → A → List (Option DraftFault)) (fault : List A → A → Option DraftFault) (P : A → Type 0) → ((earlier : List A) (x : A) → AllByRecursion P earlier → first_of (checks earlier x) ≡ fault earlier x) → ((earlier : List A) (x : A) → fault earlier x ≡ None → P x) → (earlier xs : List A) → AllByRecursion P earlier → first_of (entries_checks checks earlier xs) ≡ entries_fault fault earlier xs
entries checks fault P same well earlier [] p = refl
entries checks fault P same well earlier (x ∷ xs) p =
    join (checks earlier x) (entries_checks checks (earlier ++ x ∷ []) xs)
    ∙ rw (same earlier x p) (keep (fault earlier x) (entries_checks checks (earlier ++ x ∷ []) xs) (entries_fault fault (earlier ++ x ∷ []) xs ∷ []) (λ h.
    entries checks fault P same well (earlier ++ x ∷ []) xs (each_push P earlier x p (well earlier x h)) ∙ sym (first_of-one (entries_fault fault (earlier ++ x ∷ []) xs))))

-- ---- timers
-- T2 is one of the timers that each node has
t2_well : (t : TimersDraft) → entries_fault ticks_fault [] (timers_written t) ≡ None → ticks_before_bar t.t2 ≡ natural t.t2
t2_well t h =
    let all = each_entry ticks_fault (λ w. is_within 1 TICKS (ticks_in w) ≡ true) (λ earlier w k. passes (is_within 1 TICKS (ticks_in w)) Range (Timer (timer_in w)) k) [] (timers_written t) h in
    let t2 : is_within 1 TICKS t.t2 ≡ true = all.1.1.1.1.1.1.1.0 in
    rw t2 refl

each_timer : (t : TimersDraft) → first_of (entries_checks ticks_checks [] (timers_written t)) ≡ entries_fault ticks_fault [] (timers_written t)
each_timer t = entries ticks_checks ticks_fault (λ w. Unit {0}) (λ earlier w p. first_of-one (ticks_fault earlier w)) (λ earlier w h. tt) [] (timers_written t) tt

timers_same : (t : TimersDraft) → first_of (timers_checks t) ≡ timers_fault t
unfolding timers_checks timers_fault link_tests_fault
timers_same t =
    let left = link_tests_checks t.link_tests ++ late_timers_checks t in
    let right = link_tests_fault t.link_tests ∷ optional_fault 1 TICKS (Timer L4e) t.l4e ∷ optional_fault 1 TICKS (Timer Sst) t.sst ∷ bar_fault (natural t.t2) t.t2_bar ∷ [] in
    join (entries_checks ticks_checks [] (timers_written t)) left
    ∙ rw (each_timer t) (keep (entries_fault ticks_fault [] (timers_written t)) left right (λ h.
    join (link_tests_checks t.link_tests) (late_timers_checks t) ∙ rw (t2_well t h) refl))

-- ---- link sets
each_set : (own : ℕ) (sets : List SetDraft) → first_of (entries_checks (set_checks own) [] sets) ≡ entries_fault (set_fault own) [] sets
each_set own sets = entries (set_checks own) (set_fault own) (λ s. Unit {0}) (λ earlier s p. refl) (λ earlier s h. tt) [] sets tt

sets_same : (own : ℕ) (sets : List SetDraft) → first_of (sets_checks own sets) ≡ sets_fault own sets
unfolding sets_checks sets_fault
sets_same own sets = rw (← each_set own sets) (behind-first (set_count_fault sets) (entries_checks (set_checks own) [] sets))

-- there are as many sets as there may be, if they have no fault
counted : (own : ℕ) (sets : List SetDraft) → sets_fault own sets ≡ None → set_count_fault sets ≡ None
unfolding sets_fault
counted own sets h = (two_none (set_count_fault sets) (entries_fault (set_fault own) [] sets) h).0

-- ---- links
link_by : (count name form unknown range twice share : Option DraftFault) → count ≡ None → first_of (name ∷ first_of (form ∷ behind count unknown ∷ []) ∷ first_of (range ∷ behind (first_of (form ∷ behind count unknown ∷ [])) twice ∷ []) ∷ share ∷ []) ≡ first_of (name ∷ first_of (form ∷ unknown ∷ []) ∷ first_of (range ∷ twice ∷ []) ∷ share ∷ [])
link_by (Some count) name form unknown range twice share h = cc
link_by None (Some name) form unknown range twice share h = refl
link_by None None (Some form) unknown range twice share h = refl
link_by None None None (Some unknown) range twice share h = refl
link_by None None None None range twice share h = refl

link_same : (sets : List SetDraft) (earlier : List LinkDraft) (l : LinkDraft) → set_count_fault sets ≡ None → first_of (link_checks sets earlier l) ≡ link_fault sets earlier l
link_same sets earlier l h =
    let place = length earlier in
    link_by (set_count_fault sets) (link_name_fault earlier l) (fault_unless (is_name (string_bytes l.set)) Range (LinkSet place)) (fault_unless (is_some (set_place sets (string_bytes l.set))) UnknownName (LinkSet place)) (range_fault 0 15 (LinkSlc place) l.slc) (fault_unless (not (has_link_code earlier (string_bytes l.set) l.slc)) Duplicate (LinkSlc place)) (optional_fault 1 POOL (LinkShare place) l.share) h

links_same : (sets : List SetDraft) (links : List LinkDraft) → set_count_fault sets ≡ None → first_of (links_checks sets links) ≡ links_fault sets links
unfolding links_checks links_fault
links_same sets links h =
    let each : first_of (entries_checks (link_checks sets) [] links) ≡ entries_fault (link_fault sets) [] links = entries (link_checks sets) (link_fault sets) (λ l. Unit {0}) (λ earlier l p. link_same sets earlier l h) (λ earlier l k. tt) [] links tt in
    rw (← each) (behind-first (link_count_fault links) (entries_checks (link_checks sets) [] links))

-- ---- destinations
destination_by : (count far twice again many form repeat unknown joined : Option DraftFault) → count ≡ None → (far ≡ None → twice ≡ again) → first_of (first_of (far ∷ twice ∷ []) ∷ first_of (many ∷ form ∷ repeat ∷ behind count unknown ∷ []) ∷ behind (first_of (many ∷ form ∷ repeat ∷ behind count unknown ∷ [])) joined ∷ []) ≡ first_of (first_of (far ∷ again ∷ []) ∷ first_of (many ∷ form ∷ repeat ∷ unknown ∷ []) ∷ joined ∷ [])
destination_by (Some count) far twice again many form repeat unknown joined h k = cc
destination_by None (Some far) twice again many form repeat unknown joined h k = refl
destination_by None None twice again many form repeat unknown joined h k = rw (k refl) (by again many form repeat unknown)
  where
    by : (again many form repeat unknown : Option DraftFault) → first_of (first_of (None ∷ again ∷ []) ∷ first_of (many ∷ form ∷ repeat ∷ unknown ∷ []) ∷ behind (first_of (many ∷ form ∷ repeat ∷ unknown ∷ [])) joined ∷ []) ≡ first_of (first_of (None ∷ again ∷ []) ∷ first_of (many ∷ form ∷ repeat ∷ unknown ∷ []) ∷ joined ∷ [])
    by (Some again) many form repeat unknown = refl
    by None (Some many) form repeat unknown = refl
    by None None (Some form) repeat unknown = refl
    by None None None (Some repeat) unknown = refl
    by None None None None (Some unknown) = refl
    by None None None None None = refl

pub same_number : (m n : ℕ) → int_eq (pos m) (pos n) ≡ nat_eq n m
same_number m n = grind (arith, nat_tests)

-- among points that are well formed, whether a point is there doesn't depend on how it is compared
point_same : (earlier : List DestinationDraft) (n : ℕ) → AllByRecursion (λ d. is_within 0 16383 d.point ≡ true) earlier → has_point earlier (pos n) ≡ has_destination earlier (pos n)
point_same [] n p = refl
point_same (d ∷ earlier) n p = by d.point p.0 (point_same earlier n p.1)
  where
    by : (point : ℤ) → is_within 0 16383 point ≡ true → has_point earlier (pos n) ≡ has_destination earlier (pos n) → (int_eq point (pos n) || has_point earlier (pos n)) ≡ (nat_eq n (natural point) || has_destination earlier (pos n))
    by (pos m) h k = rw (same_number m n, k) refl
    by (negsuc m) h k = cc

pub far_within : (own : ℕ) (key : Key) (n : ℤ) → far_point_fault own key n ≡ None → is_within 0 16383 n ≡ true
far_within own key n h = (and_parts (is_within 0 16383 n) (not (nat_eq (natural n) own)) (passes (is_within 0 16383 n && not (nat_eq (natural n) own)) Range key h)).0

new_same : (own : ℕ) (earlier : List DestinationDraft) (n : ℤ) (key : Key) → AllByRecursion (λ d. is_within 0 16383 d.point ≡ true) earlier → far_point_fault own key n ≡ None → fault_unless (not (has_point earlier n)) Duplicate key ≡ fault_unless (not (has_destination earlier n)) Duplicate key
new_same own earlier (pos n) key p h = ap (λ b. fault_unless (not b) Duplicate key) (point_same earlier n p)
new_same own earlier (negsuc n) key p h = cc

destination_same : (own : ℕ) (sets : List SetDraft) (earlier : List DestinationDraft) (d : DestinationDraft) → set_count_fault sets ≡ None → AllByRecursion (λ d. is_within 0 16383 d.point ≡ true) earlier → first_of (destination_checks own sets earlier d) ≡ destination_fault own sets earlier d
destination_same own sets earlier d h p =
    let key = DestinationSets (length earlier) in
    let point = DestinationPoint (length earlier) in
    let names = d.sets.items in
    destination_by (set_count_fault sets) (far_point_fault own point d.point) (fault_unless (not (has_point earlier d.point)) Duplicate point) (fault_unless (not (has_destination earlier d.point)) Duplicate point) (count_fault SETS_PER_DESTINATION key (length names)) (fault_unless (list_all (λ name. is_name (string_bytes name)) names) Range key) (fault_unless (not (has_repeat string_eq names)) Duplicate key) (fault_unless (list_all (is_set_name sets) names) UnknownName key) (joined_fault earlier d) h (new_same own earlier d.point point p)

destination_within : (own : ℕ) (sets : List SetDraft) (earlier : List DestinationDraft) (d : DestinationDraft) → destination_fault own sets earlier d ≡ None → is_within 0 16383 d.point ≡ true
destination_within own sets earlier d h =
    let point = DestinationPoint (length earlier) in
    let r = three_none (destination_point_fault own earlier d) (set_list_fault sets (DestinationSets (length earlier)) d.sets.items) (joined_fault earlier d) h in
    far_within own point d.point (two_none (far_point_fault own point d.point) (fault_unless (not (has_destination earlier d.point)) Duplicate point) r.0).0

destinations_same : (own : ℕ) (sets : List SetDraft) (ds : List DestinationDraft) → set_count_fault sets ≡ None → first_of (destinations_checks own sets ds) ≡ destinations_fault own sets ds
unfolding destinations_checks destinations_fault
destinations_same own sets ds h =
    let each : first_of (entries_checks (destination_checks own sets) [] ds) ≡ entries_fault (destination_fault own sets) [] ds = entries (destination_checks own sets) (destination_fault own sets) (λ d. is_within 0 16383 d.point ≡ true) (λ earlier d p. destination_same own sets earlier d h p) (destination_within own sets) [] ds tt in
    rw (← each) (behind-first (destination_count_fault ds) (entries_checks (destination_checks own sets) [] ds))

-- ---- translation rows
not_number : (text : List ℕ) → bytes_eq text (codes "title") ≡ true → bytes_eq text (codes "ssn") ≡ false
not_number text h = let e : text ≡ codes "title" = (bytes_eq-Decides text (codes "title")).0 h in rw e refl

-- a route that is well formed is by title or by number
route_same : (key : Key) (text : List ℕ) → route_fault key text ≡ None → not (bytes_eq text (codes "ssn")) ≡ bytes_eq text (codes "title")
route_same key text h = by (bytes_eq text (codes "title")) (bytes_eq text (codes "ssn")) (passes (bytes_eq text (codes "title") || bytes_eq text (codes "ssn")) Range key h) (not_number text)
  where
    by : (title number : Bool) → (title || number) ≡ true → (title ≡ true → number ≡ false) → not number ≡ title
    by true number h k = rw (k refl) refl
    by false true h k = refl
    by false false h k = cc

target_same : (place : ℕ) (t : TitleDraft) → first_of (title_target_checks place t) ≡ title_target_fault place t
target_same place t =
    let point = range_fault 0 16383 (TitlePoint place) t.point in
    let backup = optional_fault 0 16383 (TitleBackup place) t.backup in
    let route = route_fault (TitleRoute place) (string_bytes t.route) in
    let left = ssn_fault (not (is_by_number t)) (TitleSsn place) t.ssn in
    let right = ssn_fault (is_by_title t) (TitleSsn place) t.ssn in
    keep point (backup ∷ route ∷ left ∷ []) (backup ∷ route ∷ right ∷ []) (λ p. keep backup (route ∷ left ∷ []) (route ∷ right ∷ []) (λ b. keep route (left ∷ []) (right ∷ []) (λ r.
    ap (λ by_title. first_of (ssn_fault by_title (TitleSsn place) t.ssn ∷ [])) (route_same (TitleRoute place) (string_bytes t.route) r))))

title_same : (earlier : List TitleDraft) (t : TitleDraft) → first_of (title_checks earlier t) ≡ title_fault earlier t
unfolding title_checks
title_same earlier t =
    let place = length earlier in
    let target = title_target_checks place t in
    let change = title_change_checks place t.change in
    let digits = digits_fault (TitleDigits place) (string_bytes t.digits) in
    let twice = fault_unless (not (list_any (is_same_title t) earlier)) Duplicate (TitleDigits place) in
    let numbers = title_numbers_fault place t in
    let rest : first_of (target ++ change) ≡ first_of (title_target_fault place t ∷ title_change_fault place t.change ∷ []) =
    join target change ∙ rw (target_same place t) (keep (title_target_fault place t) change (title_change_fault place t.change ∷ []) (λ h. sym (first_of-one (title_change_fault place t.change)))) in
    join (title_numbers_checks place t) (title_digits_check earlier t ∷ target ++ change)
    ∙ keep numbers (title_digits_check earlier t ∷ target ++ change) (title_digits_fault earlier t ∷ title_target_fault place t ∷ title_change_fault place t.change ∷ []) (λ h.
    ap (λ other. first_of (first_of (digits ∷ behind other twice ∷ []) ∷ target ++ change)) h
    ∙ keep (title_digits_fault earlier t) (target ++ change) (title_target_fault place t ∷ title_change_fault place t.change ∷ []) (λ k. rest))

titles_same : (titles : List TitleDraft) → first_of (titles_checks titles) ≡ titles_fault titles
unfolding titles_checks titles_fault
titles_same titles =
    let each : first_of (entries_checks title_checks [] titles) ≡ entries_fault title_fault [] titles = entries title_checks title_fault (λ t. Unit {0}) (λ earlier t p. title_same earlier t) (λ earlier t h. tt) [] titles tt in
    rw (← each) (behind-first (title_count_fault titles) (entries_checks title_checks [] titles))

-- ---- all
unreached_same : (ds : List DestinationDraft) (sets : List SetDraft) (before : Option DraftFault) → before ≡ None → first_of (unreached_checks before ds sets) ≡ unreached_fault ds sets
unfolding unreached_checks unreached_fault
unreached_same ds sets before h =
    rw h (entries (reached_checks ds) (reached_fault ds) (λ s. Unit {0}) (λ earlier s p. first_of-one (reached_fault ds earlier s)) (λ earlier s k. tt) [] sets tt)

arrays_same : (d : Draft) → first_of (arrays_checks (natural d.own) d) ≡ arrays_fault d
unfolding arrays_checks arrays_fault tables_fault
arrays_same d =
    let own = natural d.own in
    let sets = d.sets.items in
    let ds = d.destinations.items in
    let last = unreached_checks (routes_fault own d) ds sets in
    let titles = titles_checks d.titles.items ++ last in
    let destinations = destinations_checks own sets ds ++ titles in
    let links = links_checks sets d.links.items ++ destinations in
    join (sets_checks own sets) links
    ∙ rw (sets_same own sets) (keep (sets_fault own sets) links (links_fault sets d.links.items ∷ tables_fault d ∷ []) (λ s.
    let count = counted own sets s in
    join (links_checks sets d.links.items) destinations
    ∙ rw (links_same sets d.links.items count) (keep (links_fault sets d.links.items) destinations (tables_fault d ∷ []) (λ l.
    join (destinations_checks own sets ds) titles
    ∙ rw (destinations_same own sets ds count) (keep (destinations_fault own sets ds) titles (titles_fault d.titles.items ∷ unreached_fault ds sets ∷ []) (λ e.
    let before : routes_fault own d ≡ None = join (sets_checks own sets) (destinations_checks own sets ds) ∙ rw (sets_same own sets, s) (destinations_same own sets ds count ∙ e) in
    join (titles_checks d.titles.items) last
    ∙ rw (titles_same d.titles.items) (keep (titles_fault d.titles.items) last (unreached_fault ds sets ∷ []) (λ t.
    unreached_same ds sets (routes_fault own d) before ∙ sym (first_of-one (unreached_fault ds sets))))))
    ∙ sym (first_of-one (tables_fault d))))))

pub all_same : (d : Draft) → first_of (all_checks d) ≡ first_fault d
unfolding all_checks scalars_fault
all_same d = by (is_within 0 16383 d.own) refl
  where
    by : (b : Bool) → is_within 0 16383 d.own ≡ b → first_of (all_checks d) ≡ first_fault d
    by false e = rw e refl
    by true e =
        let users = numbers_fault 4 15 Users d.users.items in
        let subsystems = numbers_fault 1 255 Subsystems d.subsystems.items in
        let arrays = arrays_checks (own_point d.own) d in
        let own : own_point d.own ≡ natural d.own = rw e refl in
        let left = timers_checks d.timers ++ arrays in
        let right = timers_fault d.timers ∷ arrays_fault d ∷ [] in
        join (scalars_checks d) (users ∷ subsystems ∷ left)
        ∙ keep (scalars_fault d) (users ∷ subsystems ∷ left) (users ∷ subsystems ∷ right) (λ a. keep users (subsystems ∷ left) (subsystems ∷ right) (λ b. keep subsystems left right (λ c.
        join (timers_checks d.timers) arrays
        ∙ rw (timers_same d.timers) (keep (timers_fault d.timers) arrays (arrays_fault d ∷ []) (λ t.
        ap (λ n. first_of (arrays_checks n d)) own ∙ (arrays_same d ∙ sym (first_of-one (arrays_fault d))))))))

pub first_same : (d : Draft) → first_in (all_faults d) ≡ first_fault d
first_same d = first_in-all_of (all_checks d) ∙ all_same d

pub none_in : (faults : List DraftFault) → first_in faults ≡ None → faults ≡ []
none_in [] h = refl
none_in (fault ∷ rest) h = cc
