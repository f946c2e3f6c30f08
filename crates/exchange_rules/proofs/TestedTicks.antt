-- T10 tests the route as it runs out, and runs again; so through ticks, too, it runs for each route over a set in
-- service that isn't allowed.
use Rattle.exchange_rules.proofs.Basics.{◌≡◌, ◌≢◌, ◌<◌, ℕ, Bool, true, false, ◌&&◌, nat_lt, length, List, [], Option, Some, None, refl, ap, sym, subst, ◌∙◌, arith, ⊎_elim, if◌then◌else◌, is_some, and_from, slice_index_or, map, length-map, get_or-map}
use Rattle.exchange_rules.proofs.Definitions.{is_led, Configuration, DestinationEntry, Link, Message, TimerName, NodeCounts, Running, is_running, one_less, set_timer, clear_timer, left-clear_other, left-ticked, counts-set, counts-clear, due_name, after_due, after-clear, after-none, ticked, Route, RouteStatus, Allowed, Restricted, Prohibited, status_of, Node, with_parts, facts, with_timers, run_timer, run_due, ask_by, ask, prohibited_test, restricted_test, first_state, first_routes, WholeQueues, whole}
use Rattle.timers.specs.declared.name.TimerName.TheVariants as name
use Rattle.exchange_rules.specs.Testing.{serves_set, is_unsure, unsure_routes_are_tested, tests_are_repeated}
use Rattle.exchange_rules.proofs.TimerSettings.{cases-name, set-still}
use Rattle.exchange_rules.proofs.OwnRoutes.{over, first-allowed, not-unsure}
use Rattle.exchange_rules.proofs.Steps.{status_over}
use Rattle.exchange_rules.proofs.SteppingMessages.{send_if-steps}
use Rattle.exchange_rules.proofs.SteppingEvents.{run_timer-steps}
use Rattle.exchange_rules.proofs.Tested.{Fits, Tests, both, same, sends, timers-test, serving-set, unsure-there}
use Rattle.exchange_rules.proofs.Asked.{IsOfAll, asked-all}
use Rattle.exchange_rules.proofs.TestedAll.{no-way, below, cleared, set-runs, tests-rules}

module _ (c : Configuration) where
  -- ---- T10 runs out: a route test goes out, and it runs again

  handed : TimerName → Node WholeQueues → Node WholeQueues
  handed its n = with_timers n (clear_timer its n.parts.timers)

  module _ (set destination : ℕ) (n : Node WholeQueues) where
    -- all others run on, and it does where its route is to be tested
    but-one : (m : Node WholeQueues) → m.parts.links ≡ n.parts.links → m.parts.routes ≡ n.parts.routes → m.parts.timers.counts ≡ n.parts.timers.counts
        → ((s d : ℕ) → name.T10 set destination ≢ name.T10 s d → is_running (name.T10 s d) n.parts.timers ≡ true → is_running (name.T10 s d) m.parts.timers ≡ true)
        → (Fits c n.parts → serves_set c n.parts set ≡ true → is_unsure (status_over set destination n.parts.routes) ≡ true → is_running (name.T10 set destination) m.parts.timers ≡ true)
        → Tests c n m
    but-one m e f g others own = record {
      fits = λ h. record {
        sets = ap (λ (x : NodeCounts). x.sets) g ∙ h.sets;
        destinations = ap (λ (x : NodeCounts). x.destinations) g ∙ h.destinations;
        routes = ap (λ (rs : List (List Route)). length rs) f ∙ h.routes;
      };
      tested = λ h t. record {
        each = λ s d serves unsure.
            let served : serves_set c n.parts s ≡ true = sym (ap (λ (ls : List Link). serves_set c (record n.parts { links = ls }) s) e) ∙ serves in
            let was : is_unsure (status_over s d n.parts.routes) ≡ true = sym (ap (λ (rs : List (List Route)). is_unsure (status_over s d rs)) f) ∙ unsure in
            ⊎_elim
            (λ (one : name.T10 set destination ≡ name.T10 s d). its-own h s d one served was)
            (λ (apart : name.T10 set destination ≢ name.T10 s d). others s d apart (t.each s d served was))
            (cases-name (name.T10 set destination) (name.T10 s d));
      };
    }
      where
        its-own : Fits c n.parts → (s d : ℕ) → name.T10 set destination ≡ name.T10 s d → serves_set c n.parts s ≡ true → is_unsure (status_over s d n.parts.routes) ≡ true
            → is_running (name.T10 s d) m.parts.timers ≡ true
        its-own h s d one served was =
            let x : set ≡ s = cc in
            let y : destination ≡ d = cc in
            ap (λ (its : TimerName). is_running its m.parts.timers) (sym one)
            ∙ own h (subst (λ (k : ℕ). serves_set c n.parts k ≡ true) (sym x) served)
            (subst (λ (k : ℕ). is_unsure (status_over k destination n.parts.routes) ≡ true) (sym x) (subst (λ (k : ℕ). is_unsure (status_over s k n.parts.routes) ≡ true) (sym y) was))

    stopped-others : (s d : ℕ) → name.T10 set destination ≢ name.T10 s d → is_running (name.T10 s d) n.parts.timers ≡ true
        → is_running (name.T10 s d) (clear_timer (name.T10 set destination) n.parts.timers) ≡ true
    stopped-others s d apart e = ap is_some (left-clear_other (name.T10 set destination) (name.T10 s d) n.parts.timers apart) ∙ e

    -- nothing is to be tested
    let-be : (Fits c n.parts → serves_set c n.parts set ≡ true → is_unsure (status_over set destination n.parts.routes) ≡ true → ⊥) → Tests c n (handed (name.T10 set destination) n)
    unfolding handed
    let-be none = but-one _ refl refl (counts-clear (name.T10 set destination) n.parts.timers) stopped-others (λ h served was. absurd (none h served was))

    asked-tests : (m : Message) → Tests c n (ask whole c m set destination (handed (name.T10 set destination) n))
    unfolding handed
    asked-tests m =
        let stopped : Running = clear_timer (name.T10 set destination) n.parts.timers in
        let next : Node WholeQueues = with_parts n (record n.parts { timers = set_timer (name.T10 set destination) c.timers.t10 stopped }) in
        let same_counts : stopped.counts ≡ n.parts.timers.counts = counts-clear (name.T10 set destination) n.parts.timers in
        both c n next _
        (but-one next refl refl (counts-set (name.T10 set destination) c.timers.t10 stopped ∙ same_counts)
        (λ s d apart e. set-still (name.T10 set destination) c.timers.t10 stopped (name.T10 s d) (stopped-others s d apart e))
        (λ h served was.
        set-runs c set destination c.timers.t10 stopped
        (omega (arith, ap (λ (x : NodeCounts). x.sets) same_counts, h.sets, serving-set c n.parts set served))
        (omega (arith, ap (λ (x : NodeCounts). x.destinations) same_counts, h.destinations, h.routes, unsure-there n.parts.routes set destination was))))
        (send_if-steps (sends c) (is_led c m n.parts) m next)

    by_status : (status : Option RouteStatus) → status_of (facts c n.parts) destination set ≡ status
        → Tests c n (ask_by whole c status set destination (handed (name.T10 set destination) n))
    by_status (Some Prohibited) e = asked-tests (prohibited_test whole c set destination)
    by_status (Some Restricted) e = asked-tests (restricted_test whole c set destination)
    by_status (Some Allowed) e = let-be (λ h served was. no-way (is_unsure (status_over set destination n.parts.routes)) was (ap is_unsure e))
    by_status None e = let-be (λ h served was. no-way (is_unsure (status_over set destination n.parts.routes)) was (ap is_unsure e))

    runs_out-tests : (are_there : Bool) → (nat_lt set (length c.sets) && nat_lt destination (length c.destinations)) ≡ are_there
        → Tests c n (if are_there then ask_by whole c (status_of (facts c n.parts) destination set) set destination (handed (name.T10 set destination) n) else handed (name.T10 set destination) n)
    runs_out-tests true e = by_status (status_of (facts c n.parts) destination set) refl
    runs_out-tests false e =
        let-be (λ h served was.
        no-way (nat_lt set (length c.sets) && nat_lt destination (length c.destinations))
        (and_from (nat_lt set (length c.sets)) (nat_lt destination (length c.destinations)) (below _ _ (serving-set c n.parts set served))
        (below _ _ (omega (arith, h.routes, unsure-there n.parts.routes set destination was)))) e)

  -- ---- ticks

  other-runs_out : (its : TimerName) (n : Node WholeQueues) → ((set destination : ℕ) → its ≢ name.T10 set destination) → Tests c n (run_timer whole c its (handed its n))
  unfolding handed
  other-runs_out its n apart =
      both c n (with_timers n (clear_timer its n.parts.timers)) _ (cleared c its n apart) (run_timer-steps (tests-rules c) its (with_timers n (clear_timer its n.parts.timers)) (λ link t e. tt))

  ran-tests : (its : TimerName) (n : Node WholeQueues) → Tests c n (run_timer whole c its (handed its n))
  unfolding handed
  ran-tests (name.L1 link) n = other-runs_out (name.L1 link) n (λ s d e. cc)
  ran-tests (name.L2 link) n = other-runs_out (name.L2 link) n (λ s d e. cc)
  ran-tests (name.L3 link) n = other-runs_out (name.L3 link) n (λ s d e. cc)
  ran-tests (name.L4 link) n = other-runs_out (name.L4 link) n (λ s d e. cc)
  ran-tests (name.L6 link) n = other-runs_out (name.L6 link) n (λ s d e. cc)
  ran-tests (name.L7 link) n = other-runs_out (name.L7 link) n (λ s d e. cc)
  ran-tests (name.T1 link) n = other-runs_out (name.T1 link) n (λ s d e. cc)
  ran-tests (name.T2 link) n = other-runs_out (name.T2 link) n (λ s d e. cc)
  ran-tests (name.T3 link) n = other-runs_out (name.T3 link) n (λ s d e. cc)
  ran-tests (name.T4 set code) n = other-runs_out (name.T4 set code) n (λ s d e. cc)
  ran-tests (name.T6 destination) n = other-runs_out (name.T6 destination) n (λ s d e. cc)
  ran-tests (name.T8 set destination) n = other-runs_out (name.T8 set destination) n (λ s d e. cc)
  ran-tests (name.Slt1 link) n = other-runs_out (name.Slt1 link) n (λ s d e. cc)
  ran-tests (name.Slt2 link) n = other-runs_out (name.Slt2 link) n (λ s d e. cc)
  ran-tests (name.T10 set destination) n = runs_out-tests set destination n (nat_lt set (length c.sets) && nat_lt destination (length c.destinations)) refl

  due-tests : (due : Option TimerName) (n : Node WholeQueues) → due_name n.parts.timers ≡ due → Tests c n (run_due whole c due (with_timers n (after_due n.parts.timers)))
  unfolding handed
  due-tests None n e = same c n _ refl refl (after-none n.parts.timers e)
  due-tests (Some its) n e =
      subst (λ (r : Running). Tests c n (run_timer whole c its (with_timers n r))) (sym (after-clear its n.parts.timers e)) (ran-tests its n)

  still-running : (o : Option ℕ) → is_some (one_less o) ≡ is_some o
  still-running None = refl
  still-running (Some n) = refl

  tests-all : IsOfAll c (Tests c)
  tests-all = record {
    rules = tests-rules c;
    ticks = λ n. timers-test c n (ticked n.parts.timers) refl (λ set destination e. ap is_some (left-ticked (name.T10 set destination) n.parts.timers) ∙ still-running (n.parts.timers.left (name.T10 set destination)) ∙ e);
    next = λ n. due-tests (due_name n.parts.timers) n refl;
  }

-- at first all routes are allowed
first-sure : (c : Configuration) (set destination : ℕ) → is_unsure (status_over set destination (map first_routes c.destinations)) ≡ false
first-sure c set destination =
    let d : DestinationEntry = slice_index_or c.destinations destination (record { point = 0; sets = []; joined = false }) in
    ap (λ (rs : List Route). is_unsure (over set rs)) (get_or-map first_routes c.destinations destination (record { point = 0; sets = []; joined = false }))
    ∙ not-unsure (over set (first_routes d)) (λ s e. first-allowed d.joined d.sets set s e)

pub unsure-tested : unsure_routes_are_tested
unsure-tested c asked few =
    (asked-all (tests-all c) asked (first_state c) refl).tested
    (record { sets = refl; destinations = refl; routes = length-map c.destinations first_routes })
    (record { each = λ set destination serves unsure. no-way (is_unsure (status_over set destination (map first_routes c.destinations))) unsure (first-sure c set destination) })

-- ---- what T10 does as it runs out

asks : (c : Configuration) (set destination : ℕ) (status : RouteStatus) (n : Node WholeQueues) → set < length c.sets → destination < length c.destinations
    → status_of (facts c n.parts) destination set ≡ Some status → run_timer whole c (name.T10 set destination) n ≡ ask_by whole c (Some status) set destination n
asks c set destination status n there about e =
    ap (λ (b : Bool). if b then ask_by whole c (status_of (facts c n.parts) destination set) set destination n else n)
    (and_from (nat_lt set (length c.sets)) (nat_lt destination (length c.destinations)) (below _ _ there) (below _ _ about))
    ∙ ap (λ (o : Option RouteStatus). ask_by whole c o set destination n) e

pub tests-repeated : tests_are_repeated
tests-repeated c set destination n there about = record {
  prohibited = asks c set destination Prohibited n there about;
  restricted = asks c set destination Restricted n there about;
}
