-- Timers without a fault run as many ticks as they may.
use Rattle.settings.proofs.Basics.{◌≡◌, ℕ, ℤ, true, List, [], ◌∷◌, ◌++◌, map, All, AllByRecursion, All-from_recursion, Option, None, Some, IfSome, ◌<◌, nat_lt, arith, nat_tests, option_map, natural, fault_unless, range_fault, optional_fault, entries_fault, link_tests_fault, bar_fault, timers_fault, Range, ticks_fault, timers_written, ticks_in, timer_in, ticks_of, test_ticks_of, Timer, Slt1, Slt2, L4e, Sst, T2Bar, TICKS, IsWithin, all_ticks, test_ticks, ticks_if_any}
use Rattle.settings.specs.declared.draft.TimersDraft.{TimersDraft}
use Rattle.settings.specs.declared.draft.LinkTestsDraft.{LinkTestsDraft}
use Rattle.settings.specs.declared.key.TimerKey.{TimerKey}
use Rattle.settings.proofs.Rows.{two_none, five_none, passes, each_entry, each_made}
use Rattle.settings.proofs.WellNumbers.{in_range}

each_joined : {A : Type 0} (Q : A → Type 0) (xs ys : List A) → AllByRecursion Q xs → AllByRecursion Q ys → AllByRecursion Q (xs ++ ys)
each_joined Q [] ys h k = k
each_joined Q (x ∷ xs) ys h k = (h.0, each_joined Q xs ys h.1 k)

abbrev AreWithin : List ℕ → Type 0
AreWithin ticks = AllByRecursion (IsWithin 1 TICKS) ticks

of-tests : (tests : Option LinkTestsDraft) → link_tests_fault tests ≡ None → AreWithin (test_ticks (option_map test_ticks_of tests))
unfolding link_tests_fault
of-tests None h = tt
of-tests (Some tests) h =
    let r = two_none (range_fault 1 TICKS (Timer Slt1) tests.slt1) (range_fault 1 TICKS (Timer Slt2) tests.slt2) h in
    (in_range 1 TICKS (Timer Slt1) tests.slt1 r.0, (in_range 1 TICKS (Timer Slt2) tests.slt2 r.1, tt))

if-any : (timer : TimerKey) (ticks : Option ℤ) → optional_fault 1 TICKS (Timer timer) ticks ≡ None → AreWithin (ticks_if_any (option_map natural ticks))
if-any timer None h = tt
if-any timer (Some n) h = (in_range 1 TICKS (Timer timer) n h, tt)

bar-parts : (t2 : ℕ) (bar : ℤ) → bar_fault t2 (Some bar) ≡ None → (range_fault 1 TICKS (Timer T2Bar) bar ≡ None) × (fault_unless (nat_lt t2 (natural bar)) Range (Timer T2Bar) ≡ None)
unfolding bar_fault
bar-parts t2 bar h = two_none (range_fault 1 TICKS (Timer T2Bar) bar) (fault_unless (nat_lt t2 (natural bar)) Range (Timer T2Bar)) h

of-bar : (t2 : ℕ) (bar : Option ℤ) → bar_fault t2 bar ≡ None → AreWithin (ticks_if_any (option_map natural bar))
of-bar t2 None h = tt
of-bar t2 (Some n) h = (in_range 1 TICKS (Timer T2Bar) n (bar-parts t2 n h).0, tt)

longer-bar : (t2 : ℕ) (bar : Option ℤ) → bar_fault t2 bar ≡ None → IfSome (option_map natural bar) (λ n. t2 < n)
longer-bar t2 None h = tt
longer-bar t2 (Some n) h =
    let longer : nat_lt t2 (natural n) ≡ true = passes (nat_lt t2 (natural n)) Range (Timer T2Bar) (bar-parts t2 n h).1 in
    grind (arith, nat_tests)

of-all : (t : TimersDraft) → entries_fault ticks_fault [] (timers_written t) ≡ None → AreWithin (map (λ w. natural (ticks_in w)) (timers_written t))
of-all t h =
    each_made (λ w. IsWithin 1 TICKS (natural (ticks_in w))) (IsWithin 1 TICKS) (λ w. natural (ticks_in w)) (λ w k. k) (timers_written t)
    (each_entry ticks_fault (λ w. IsWithin 1 TICKS (natural (ticks_in w))) (λ earlier w k. in_range 1 TICKS (Timer (timer_in w)) (ticks_in w) k) [] (timers_written t) h)

parts : (t : TimersDraft) → timers_fault t ≡ None → (entries_fault ticks_fault [] (timers_written t) ≡ None) × (link_tests_fault t.link_tests ≡ None) × (optional_fault 1 TICKS (Timer L4e) t.l4e ≡ None) × (optional_fault 1 TICKS (Timer Sst) t.sst ≡ None) × (bar_fault (natural t.t2) t.t2_bar ≡ None)
unfolding timers_fault
parts t h = five_none (entries_fault ticks_fault [] (timers_written t)) (link_tests_fault t.link_tests) (optional_fault 1 TICKS (Timer L4e) t.l4e) (optional_fault 1 TICKS (Timer Sst) t.sst) (bar_fault (natural t.t2) t.t2_bar) h

pub timers_within : (t : TimersDraft) → timers_fault t ≡ None → All (IsWithin 1 TICKS) (all_ticks (ticks_of t))
timers_within t h =
    let r = parts t h in
    let tests : List ℕ = test_ticks (option_map test_ticks_of t.link_tests) in
    let proving : List ℕ = ticks_if_any (option_map natural t.l4e) in
    let subsystems : List ℕ = ticks_if_any (option_map natural t.sst) in
    let bar : List ℕ = ticks_if_any (option_map natural t.t2_bar) in
    All-from_recursion (IsWithin 1 TICKS) (all_ticks (ticks_of t))
    (each_joined (IsWithin 1 TICKS) (map (λ w. natural (ticks_in w)) (timers_written t)) (tests ++ (proving ++ (subsystems ++ bar))) (of-all t r.0)
    (each_joined (IsWithin 1 TICKS) tests (proving ++ (subsystems ++ bar)) (of-tests t.link_tests r.1)
    (each_joined (IsWithin 1 TICKS) proving (subsystems ++ bar) (if-any L4e t.l4e r.2)
    (each_joined (IsWithin 1 TICKS) subsystems bar (if-any Sst t.sst r.3) (of-bar (natural t.t2) t.t2_bar r.4)))))

pub bar_longer : (t : TimersDraft) → timers_fault t ≡ None → IfSome (ticks_of t).t2_bar (λ bar. (ticks_of t).t2 < bar)
bar_longer t h = longer-bar (natural t.t2) t.t2_bar (parts t h).4
