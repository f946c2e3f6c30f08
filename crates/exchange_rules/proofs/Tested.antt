-- Whatever happens, T10 runs for each route over a set that carries traffic that isn't allowed.
use Rattle.exchange_rules.proofs.Basics.{◌≡◌, ◌≢◌, ◌<◌, ◌≤◌, ◌⊎◌, ◌==◌, inl, inr, ℕ, zero, suc, Bool, true, false, ◌&&◌, ◌||◌, not, length, List, [], ◌∷◌, refl, ap, sym, subst, ◌∙◌, arith, ⊎_elim, cases_eq, cases_lt, if◌then◌else◌, is_some, list_any, slice_index_or, Contains, nat_tests, or_left, or_right, get_or_past, get_or-map, get_or-set_same, get_or-set_other, length-set}
use Rattle.exchange_rules.proofs.Definitions.{Configuration, FailureReason, Transition, is_in_service, carries_traffic, stepped, after_failure, LinkTimer, TimerName, NodeCounts, Running, is_running, set_timer, clear_timer, clear_set, left-clear_other, left-clear_set_other, counts-set, counts-clear_set, timer_name, timed, Link, down_link, Route, Parts, Node, with_parts, link_at, links_with, in_service, in_traffic, set_of, facts, suspended, fail_link, has_other, without_tests, make_unavailable, step_on, enters_traffic, is_first_test, with_test_passed, WholeQueues, whole}
use Rattle.routes.specs.Routes as routes
use Rattle.routes.specs.Routes.{has_link, set_at, first_sets}
use Rattle.node_links.specs.NodeLinks.{serving}
use Rattle.timers.specs.declared.name.TimerName.TheVariants as name
use Rattle.timers.specs.declared.name.RouteTimer.TheVariants as of_set
use Rattle.link.specs.declared.action.LinkTimer.TheVariants as timer
use Rattle.exchange_rules.specs.Testing.{serves_set, is_unsure, AreTested}
use Rattle.exchange_rules.proofs.Belonging.{length-sets}
use Rattle.exchange_rules.proofs.LinkTimers.{AreTimedFor, same-for, without_timers-for, timed-for}
use Rattle.exchange_rules.proofs.LoneRoutes.{set-exact}
use Rattle.exchange_rules.proofs.TimerSettings.{set-still}
use Rattle.exchange_rules.proofs.Steps.{IsOfSends, status_over, BeginsClean}

no-way : {A : Type 0} (b : Bool) → b ≡ true → b ≡ false → A
no-way b e f = (let no : true ≡ false = sym e ∙ f in absurd cc)

-- ---- sets that carry traffic, as a link changes

is-served : (links : List Link) (l : ℕ) → routes.is_in_service (serving links) l ≡ carries_traffic (slice_index_or links l down_link)
is-served links l = get_or-map carries_traffic links l down_link

-- some of a list pass still, or this is one of it
any-but : (f g : ℕ → Bool) (k : ℕ) (xs : List ℕ) → ((l : ℕ) → l ≢ k → f l ≡ true → g l ≡ true) → list_any f xs ≡ true → (list_any g xs ≡ true) ⊎ Contains xs k
any-but f g k [] h e = absurd cc
any-but f g k (x ∷ xs) h e = by (f x) refl e (any-but f g k xs h)
  where
    later : (list_any g xs ≡ true) ⊎ Contains xs k → (list_any g (x ∷ xs) ≡ true) ⊎ Contains (x ∷ xs) k
    later (inl r) = inl (or_right (g x) (list_any g xs) r)
    later (inr (i, l, m)) = inr (suc i, omega (arith, l), m)

    by : (b : Bool) → f x ≡ b → (b || list_any f xs) ≡ true → (list_any f xs ≡ true → (list_any g xs ≡ true) ⊎ Contains xs k)
        → (list_any g (x ∷ xs) ≡ true) ⊎ Contains (x ∷ xs) k
    by true p e more = ⊎_elim (λ (same : x ≡ k). inr (zero, omega arith, same)) (λ (apart : x ≢ k). inl (or_left (g x) (list_any g xs) (h x apart p))) (cases_eq x k)
    by false p e more = later (more e)

any-still : (f g : ℕ → Bool) (xs : List ℕ) → ((l : ℕ) → f l ≡ true → g l ≡ true) → list_any f xs ≡ true → list_any g xs ≡ true
any-still f g [] h e = absurd cc
any-still f g (x ∷ xs) h e = by (f x) refl e (any-still f g xs h)
  where
    by : (b : Bool) → f x ≡ b → (b || list_any f xs) ≡ true → (list_any f xs ≡ true → list_any g xs ≡ true) → list_any g (x ∷ xs) ≡ true
    by true p e more = or_left (g x) (list_any g xs) (h x p)
    by false p e more = or_right (g x) (list_any g xs) (more e)

module _ (c : Configuration) where
  -- a set that carries traffic now did so before, where no link began to
  pub serves-before : (p q : Parts) (set : ℕ) → ((l : ℕ) → in_traffic q l ≡ true → in_traffic p l ≡ true) → serves_set c q set ≡ true → serves_set c p set ≡ true
  serves-before p q set h e =
      any-still (routes.is_in_service (serving q.links)) (routes.is_in_service (serving p.links)) (set_at (facts c p) set)
      (λ l f. is-served p.links l ∙ h l (sym (is-served q.links l) ∙ f)) e

  -- or a link of it did
  serves-but : (p q : Parts) (set k : ℕ) → ((l : ℕ) → l ≢ k → in_traffic q l ≡ true → in_traffic p l ≡ true) → serves_set c q set ≡ true
      → (serves_set c p set ≡ true) ⊎ (set_of c k ≡ set)
  serves-but p q set k h e =
      ⊎_elim (λ (f : serves_set c p set ≡ true). inl f)
      (λ (f : Contains (set_at (facts c p) set) k). inr (set-exact c.links (length c.sets) set k f).of_set)
      (any-but (routes.is_in_service (serving q.links)) (routes.is_in_service (serving p.links)) k (set_at (facts c p) set)
      (λ l apart f. is-served p.links l ∙ h l apart (sym (is-served q.links l) ∙ f)) e)

  -- only a set that is there carries traffic
  pub serving-set : (p : Parts) (set : ℕ) → serves_set c p set ≡ true → set < length c.sets
  serving-set p set e =
      ⊎_elim (λ (l : set < length c.sets). l)
      (λ (l : length c.sets ≤ set).
      no-way (serves_set c p set) e
      (ap (has_link (serving p.links)) (get_or_past (first_sets (length c.sets) c.links) set [] (omega (arith, l, length-sets (length c.sets) c.links)))))
      (cases_lt set (length c.sets))

pub unsure-there : (all : List (List Route)) (set destination : ℕ) → is_unsure (status_over set destination all) ≡ true → destination < length all
unsure-there all set destination e =
    ⊎_elim (λ (l : destination < length all). l)
    (λ (l : length all ≤ destination). no-way (is_unsure (status_over set destination all)) e (ap (λ (rs : List Route). is_unsure (status_over set 0 (rs ∷ []))) (get_or_past all destination [] l)))
    (cases_lt destination (length all))

-- ---- from one node to another

-- there are timers of each set and each destination
pub record Fits (c : Configuration) (p : Parts) : Type 0 where
  pub sets : p.timers.counts.sets ≡ length c.sets
  pub destinations : p.timers.counts.destinations ≡ length c.destinations
  pub routes : length p.routes ≡ length c.destinations

pub record Tests (c : Configuration) (n m : Node WholeQueues) : Type 0 where
  pub fits : Fits c n.parts → Fits c m.parts
  pub tested : Fits c n.parts → AreTested c n.parts → AreTested c m.parts

module _ (c : Configuration) where
  pub both : (n m o : Node WholeQueues) → Tests c n m → Tests c m o → Tests c n o
  both n m o e f = record { fits = λ h. f.fits (e.fits h); tested = λ h t. f.tested (e.fits h) (e.tested h t) }

  -- no set began to carry traffic, routes are the same, and T10 runs on
  pub quiet : (n m : Node WholeQueues) → m.parts.routes ≡ n.parts.routes → m.parts.timers.counts ≡ n.parts.timers.counts
      → ((set : ℕ) → serves_set c m.parts set ≡ true → serves_set c n.parts set ≡ true)
      → ((set destination : ℕ) → serves_set c m.parts set ≡ true → is_running (name.T10 set destination) n.parts.timers ≡ true → is_running (name.T10 set destination) m.parts.timers ≡ true)
      → Tests c n m
  quiet n m e f g h = record {
    fits = λ k. record {
      sets = ap (λ (x : NodeCounts). x.sets) f ∙ k.sets;
      destinations = ap (λ (x : NodeCounts). x.destinations) f ∙ k.destinations;
      routes = ap (λ (rs : List (List Route)). length rs) e ∙ k.routes;
    };
    tested = λ k t. record {
      each = λ set destination serves unsure.
          h set destination serves (t.each set destination (g set serves) (sym (ap (λ (rs : List (List Route)). is_unsure (status_over set destination rs)) e) ∙ unsure));
    };
  }

  pub same : (n m : Node WholeQueues) → m.parts.links ≡ n.parts.links → m.parts.routes ≡ n.parts.routes → m.parts.timers ≡ n.parts.timers → Tests c n m
  same n m e f g =
      quiet n m f (ap (λ (r : Running). r.counts) g)
      (λ set h. sym (ap (λ (ls : List Link). serves_set c (record n.parts { links = ls }) set) e) ∙ h)
      (λ set destination h k. ap (λ (r : Running). is_running (name.T10 set destination) r) g ∙ k)

  -- timers alone change
  pub timers-test : (n : Node WholeQueues) (r : Running) → r.counts ≡ n.parts.timers.counts
      → ((set destination : ℕ) → is_running (name.T10 set destination) n.parts.timers ≡ true → is_running (name.T10 set destination) r ≡ true)
      → Tests c n (with_parts n (record n.parts { timers = r }))
  timers-test n r e h = quiet n _ refl e (λ set f. f) (λ set destination serves k. h set destination k)

  pub set-test : (its : TimerName) (ticks : ℕ) (n : Node WholeQueues) → Tests c n (with_parts n (record n.parts { timers = set_timer its ticks n.parts.timers }))
  set-test its ticks n = timers-test n (set_timer its ticks n.parts.timers) (counts-set its ticks n.parts.timers) (λ set destination. set-still its ticks n.parts.timers (name.T10 set destination))

  -- a timer other than T10 stops
  pub clear-still : (its : TimerName) (r : Running) → ((set destination : ℕ) → its ≢ name.T10 set destination) → (set destination : ℕ)
      → is_running (name.T10 set destination) r ≡ true → is_running (name.T10 set destination) (clear_timer its r) ≡ true
  clear-still its r apart set destination e = ap is_some (left-clear_other its (name.T10 set destination) r (apart set destination)) ∙ e

  pub sends : IsOfSends c (Tests c)
  sends = record {
    none = λ n. same n n refl refl refl;
    both = both;
    routed = λ link m n e. same n _ refl refl refl;
    noted = λ notice n e. same n _ refl refl refl;
    lost = λ notice n e. same n _ refl refl refl;
    counted = λ messages broken n. same n _ refl refl refl;
  }

  -- ---- one link changes, with timers of it

  pub link-runs : (k : ℕ) (t : LinkTimer) (set destination : ℕ) → name.T10 set destination ≢ timer_name k t
  link-runs k timer.L1 set destination e = cc
  link-runs k timer.L2 set destination e = cc
  link-runs k timer.L3 set destination e = cc
  link-runs k timer.L4 set destination e = cc
  link-runs k timer.L6 set destination e = cc
  link-runs k timer.L7 set destination e = cc

  -- a link that carries no traffic after, or did before
  pub on-link : (k : ℕ) (x : Link) (r : Running) (n : Node WholeQueues) → AreTimedFor k n.parts.timers r → (carries_traffic x ≡ true → in_traffic n.parts k ≡ true)
      → Tests c n (with_parts n (record n.parts { links = links_with n.parts k x; timers = r }))
  on-link k x r n t f =
      quiet n _ refl t.counts
      (λ set. serves-before c n.parts (record n.parts { links = links_with n.parts k x }) set (λ l. served l))
      (λ set destination serves e. ap is_some (t.rest (name.T10 set destination) (λ u. link-runs k u set destination) (λ u. cc) (λ u. cc)) ∙ e)
    where
      served : (l : ℕ) → in_traffic (record n.parts { links = links_with n.parts k x }) l ≡ true → in_traffic n.parts l ≡ true
      served l e =
          ⊎_elim
          (λ (same : l ≡ k). ⊎_elim
          (λ (there : k < length n.parts.links).
          subst (λ (i : ℕ). in_traffic n.parts i ≡ true) (sym same)
          (f (sym (ap carries_traffic (get_or-set_same n.parts.links k x down_link there))
          ∙ subst (λ (i : ℕ). in_traffic (record n.parts { links = links_with n.parts k x }) i ≡ true) same e)))
          (λ (past : length n.parts.links ≤ k).
          no-way (in_traffic (record n.parts { links = links_with n.parts k x }) l) e
          (ap (λ (i : ℕ). in_traffic (record n.parts { links = links_with n.parts k x }) i) same
          ∙ ap carries_traffic (get_or_past (links_with n.parts k x) k down_link (omega (arith, past, length-set n.parts.links k x)))))
          (cases_lt k (length n.parts.links)))
          (λ (apart : l ≢ k). sym (ap carries_traffic (get_or-set_other n.parts.links k l x down_link apart)) ∙ e)
          (cases_eq l k)

  -- ---- a link changes, by which it may begin to carry traffic

  pub begins-test : (begins : Bool) (link : ℕ) (x : Link) (r : Running) (n : Node WholeQueues) → AreTimedFor link n.parts.timers r → BeginsClean c begins link n.parts
      → (carries_traffic x ≡ true → (begins ≡ true) ⊎ (in_traffic n.parts link ≡ true))
      → Tests c n (with_parts n (record n.parts { links = links_with n.parts link x; timers = r }))
  begins-test begins link x r n t clean may = record {
    fits = λ k. record { sets = ap (λ (x : NodeCounts). x.sets) t.counts ∙ k.sets; destinations = ap (λ (x : NodeCounts). x.destinations) t.counts ∙ k.destinations; routes = k.routes };
    tested = λ k h. record {
      each = λ set destination serves unsure.
          ap is_some (t.rest (name.T10 set destination) (λ u. link-runs link u set destination) (λ u. cc) (λ u. cc))
          ∙ h.each set destination (by set destination unsure serves (carries_traffic x) refl) unsure;
    };
  }
    where
      next : Parts
      next = record n.parts { links = links_with n.parts link x; timers = r }

      others : (l : ℕ) → l ≢ link → in_traffic next l ≡ true → in_traffic n.parts l ≡ true
      others l apart e = sym (ap carries_traffic (get_or-set_other n.parts.links link l x down_link apart)) ∙ e

      -- the link itself, if it is there
      here : in_traffic next link ≡ true → carries_traffic x ≡ true
      here e =
          ⊎_elim
          (λ (there : link < length n.parts.links). sym (ap carries_traffic (get_or-set_same n.parts.links link x down_link there)) ∙ e)
          (λ (past : length n.parts.links ≤ link).
          no-way (in_traffic next link) e
          (ap carries_traffic (get_or_past (links_with n.parts link x) link down_link (omega (arith, past, length-set n.parts.links link x)))))
          (cases_lt link (length n.parts.links))

      each : (l : ℕ) → (carries_traffic x ≡ true → in_traffic n.parts link ≡ true) → in_traffic next l ≡ true → in_traffic n.parts l ≡ true
      each l f e =
          ⊎_elim
          (λ (same : l ≡ link). subst (λ (i : ℕ). in_traffic n.parts i ≡ true) (sym same) (f (here (subst (λ (i : ℕ). in_traffic next i ≡ true) same e))))
          (λ (apart : l ≢ link). others l apart e)
          (cases_eq l link)

      begun : (set destination : ℕ) → is_unsure (status_over set destination n.parts.routes) ≡ true → serves_set c next set ≡ true
          → (other : Bool) → serves_set c n.parts (set_of c link) ≡ other → begins ≡ true → serves_set c n.parts set ≡ true
      begun set destination unsure serves true f e =
          ⊎_elim (λ (h : serves_set c n.parts set ≡ true). h)
          (λ (h : set_of c link ≡ set). subst (λ (k : ℕ). serves_set c n.parts k ≡ true) h f)
          (serves-but c n.parts next set link others serves)
      begun set destination unsure serves false f e =
          ⊎_elim (λ (h : serves_set c n.parts set ≡ true). h)
          (λ (h : set_of c link ≡ set).
          let first : (begins && not (has_other c link n.parts)) ≡ true = ap (λ (b : Bool). b && not (has_other c link n.parts)) e ∙ ap not f in
          no-way (is_unsure (status_over set destination n.parts.routes)) unsure
          (subst (λ (k : ℕ). is_unsure (status_over k destination n.parts.routes) ≡ false) h (clean.clean first destination)))
          (serves-but c n.parts next set link others serves)

      by : (set destination : ℕ) → is_unsure (status_over set destination n.parts.routes) ≡ true → serves_set c next set ≡ true
          → (carries : Bool) → carries_traffic x ≡ carries → serves_set c n.parts set ≡ true
      by set destination unsure serves false e = serves-before c n.parts next set (λ l. each l (λ h. no-way (carries_traffic x) h e)) serves
      by set destination unsure serves true e =
          ⊎_elim (λ (b : begins ≡ true). begun set destination unsure serves (serves_set c n.parts (set_of c link)) refl b)
          (λ (g : in_traffic n.parts link ≡ true). serves-before c n.parts next set (λ l. each l (λ h. g)) serves)
          (may e)

  -- by a step of its alignment, and as it passes a test

  carries-by : (after before untested : Bool) → (after && not untested) ≡ true → (((after && not before) && not untested) ≡ true) ⊎ ((before && not untested) ≡ true)
  carries-by true true false e = inr refl
  carries-by true false false e = inl refl
  carries-by true before true e = absurd cc
  carries-by false before untested e = absurd cc

  pub stepped-test : (link : ℕ) (step : Transition) (n : Node WholeQueues) → BeginsClean c (enters_traffic link step n.parts) link n.parts
      → Tests c n (with_parts n (step_on c link step n.parts))
  stepped-test link step n clean =
      begins-test (enters_traffic link step n.parts) link (stepped step (link_at n.parts link)) (timed c link step n.parts.timers) n (timed-for link c step n.parts.timers) clean
      (carries-by (is_in_service step.state) (in_service n.parts link) (link_at n.parts link).untested)

  passes-by : (serves untested : Bool) → (serves && true) ≡ true → ((serves && untested) ≡ true) ⊎ ((serves && not untested) ≡ true)
  passes-by true true e = inl refl
  passes-by true false e = inr refl
  passes-by false untested e = absurd cc

  pub passed-test : (link : ℕ) (n : Node WholeQueues) → BeginsClean c (is_first_test link n.parts) link n.parts → Tests c n (with_parts n (with_test_passed link n.parts))
  passed-test link n clean =
      begins-test (is_first_test link n.parts) link (record (link_at n.parts link) { test_failed = false; untested = false }) n.parts.timers n (same-for link n.parts.timers) clean
      (passes-by (in_service n.parts link) (link_at n.parts link).untested)

  -- ---- a link fails: where it was the last of its set, that isn't in service any more

  failed-test : (link : ℕ) (why : FailureReason) (n : Node WholeQueues) → Tests c n (with_parts n (fail_link link why n.parts))
  failed-test link why n =
      let falls : Node WholeQueues = with_parts n (record n.parts { links = (fail_link link why n.parts).links; timers = (fail_link link why n.parts).timers }) in
      both n falls _ (on-link link (after_failure (link_at n.parts link)) _ n (without_timers-for link n.parts.timers) (λ h. absurd cc)) (same falls _ refl refl refl)

  untested-test : (others : Bool) (link : ℕ) (n : Node WholeQueues) → has_other c link n.parts ≡ others
      → Tests c n (with_parts n (if others then n.parts else without_tests (set_of c link) n.parts))
  untested-test true link n e = same n n refl refl refl
  untested-test false link n e =
      quiet n _ refl (counts-clear_set of_set.T10 (set_of c link) n.parts.timers) (λ set f. f)
      (λ set destination serves runs. by set destination serves (set == set_of c link) refl runs)
    where
      same-set : {k l : ℕ} → (k == l) ≡ true → k ≡ l
      same-set {k} {l} f = grind (arith, nat_tests, f)

      by : (set destination : ℕ) → serves_set c n.parts set ≡ true → (b : Bool) → (set == set_of c link) ≡ b → is_running (name.T10 set destination) n.parts.timers ≡ true
          → is_running (name.T10 set destination) (clear_set of_set.T10 (set_of c link) n.parts.timers) ≡ true
      by set destination serves true f runs = no-way (serves_set c n.parts set) serves (ap (λ (k : ℕ). serves_set c n.parts k) (same-set f) ∙ e)
      by set destination serves false f runs = ap is_some (left-clear_set_other of_set.T10 (set_of c link) (name.T10 set destination) n.parts.timers f) ∙ runs

  pub gone-test : (served : Bool) (link : ℕ) (why : FailureReason) (n : Node WholeQueues) → Tests c n (make_unavailable whole c served link why n)
  gone-test false link why n = failed-test link why n
  gone-test true link why n =
      let suspends : Node WholeQueues = with_parts n (suspended c link (whole.unconfirmed n.queues link) n.parts) in
      let failed : Node WholeQueues = with_parts n (fail_link link why suspends.parts) in
      both n suspends _ (same n suspends refl refl refl)
      (both suspends failed _ (failed-test link why suspends) (untested-test (has_other c link failed.parts) link failed refl))
