-- The flows that are rerouted are those that go from one link to another, and they are held.
use Rattle.changeback.proofs.Basics.{◌≡◌, ◌≢◌, ℕ, zero, suc, ◌<◌, Bool, true, false, cond, List, [], ◌∷◌, refl, ap, sym, ◌∙◌, subst, arith, nat_eq, nat_lt, ◌&&◌, Option, Some, None, Contains, filter, range_with_len, and_from, nat_tests, length-range_with_len, get_or-range_with_len, Facts, chosen_link, Procedure, Reroute, SELECTIONS, HoldSet, holds, may_hold, with_hold, adds_its_pair, keeps_pairs, hold-leaves_others, keeps_flows_held, may-still, is_other_link, changes_link, rerouted, held_for, GoesToAnother, each_rerouted_goes_to_another, each_that_goes_to_another_is_rerouted, unlinked_before_are_left, unlinked_after_are_left, each_rerouted_has_its_hold, rerouting_leaves_other_pairs, each_rerouted_is_held, rerouting_keeps_flows_held}
use Rattle.flow_hold.proofs.Pairing.{held_by}

-- ---- what a filter keeps

-- an element that passes
abbrev Passes : (ℕ → Bool) → List ℕ → ℕ → Type 0
Passes p xs x = Contains xs x × (p x ≡ true)

past : (p : ℕ → Bool) (y : ℕ) (ys : List ℕ) (x : ℕ) → Passes p ys x → Passes p (y ∷ ys) x
past p y ys x ((k, l, e), t) = ((suc k, omega (arith, l), e), t)

kept-first : (p : ℕ → Bool) (y : ℕ) (ys : List ℕ) (x : ℕ) → p y ≡ true → (Contains (filter p ys) x → Passes p ys x)
    → Contains (y ∷ filter p ys) x → Passes p (y ∷ ys) x
kept-first p y ys x t more (zero, l, e) = ((0, omega arith, e), subst (λ (z : ℕ). p z ≡ true) e t)
kept-first p y ys x t more (suc k, l, e) = past p y ys x (more (k, omega (arith, l), e))

kept : (p : ℕ → Bool) (xs : List ℕ) (x : ℕ) → Contains (filter p xs) x → Passes p xs x
kept p [] x (k, l, e) = absurd (omega (arith, l))
kept p (y ∷ ys) x h =
    elim (p y) as (λ b. p y ≡ b → Contains (cond b (y ∷ filter p ys) (filter p ys)) x → Passes p (y ∷ ys) x) [
      | true ↦ λ t i. kept-first p y ys x t (kept p ys x) i
      | false ↦ λ t i. past p y ys x (kept p ys x i)
    ] refl h

behind : (y : ℕ) (ys : List ℕ) (x : ℕ) → Contains ys x → Contains (y ∷ ys) x
behind y ys x (k, l, e) = (suc k, omega (arith, l), e)

passed : (p : ℕ → Bool) (xs : List ℕ) (x : ℕ) → Contains xs x → p x ≡ true → Contains (filter p xs) x
passed p [] x (k, l, e) t = absurd (omega (arith, l))
passed p (y ∷ ys) x (zero, l, e) t =
    subst (λ (b : Bool). Contains (cond b (y ∷ filter p ys) (filter p ys)) x) (sym (ap p e ∙ t)) (0, omega arith, e)
passed p (y ∷ ys) x (suc k, l, e) t =
    let more : Contains (filter p ys) x = passed p ys x (k, omega (arith, l), e) t in
    elim (p y) as (λ b. Contains (cond b (y ∷ filter p ys) (filter p ys)) x) [
      | true ↦ behind y (filter p ys) x more
      | false ↦ more
    ]

-- ---- the numbers below

below : (n x : ℕ) → Contains (range_with_len 0 n) x → x < n
below n x (k, l, e) =
    let few : k < n = subst (λ m. k < m) (length-range_with_len 0 n) l in
    omega (arith, few, e, get_or-range_with_len 0 n k x few)

above : (n x : ℕ) → x < n → Contains (range_with_len 0 n) x
above n x l = (x, subst (λ m. x < m) (sym (length-range_with_len 0 n)) l, get_or-range_with_len 0 n x x l ∙ omega arith)

-- ---- from one link to another

goes : (before after : Facts) (destination sls : ℕ) (b a : Option ℕ) → sls < SELECTIONS
    → chosen_link before destination sls ≡ b → chosen_link after destination sls ≡ a → is_other_link b a ≡ true → GoesToAnother before after destination sls
goes before after destination sls (Some from) (Some to) l was is t =
    record { from = from; to = to; selection = l; was = was; is = is; other = λ same. grind (arith, nat_tests, t, same) }
goes before after destination sls (Some from) None l was is t = absurd cc
goes before after destination sls None a l was is t = absurd cc

pub goes_to_another : each_rerouted_goes_to_another
unfolding rerouted
goes_to_another before after destination sls h =
    let k : Passes (changes_link before after destination) (range_with_len 0 SELECTIONS) sls =
    kept (changes_link before after destination) (range_with_len 0 SELECTIONS) sls h in
    goes before after destination sls _ _ (below SELECTIONS sls k.0) refl refl k.1

changed : (b a : Option ℕ) (from to : ℕ) → b ≡ Some from → a ≡ Some to → from ≢ to → is_other_link b a ≡ true
changed b a from to was is other =
    ap (λ (b : Option ℕ). is_other_link b a) was ∙ ap (λ (a : Option ℕ). is_other_link (Some from) a) is ∙ grind (arith, nat_tests, other)

pub is_rerouted : each_that_goes_to_another_is_rerouted
unfolding rerouted
is_rerouted before after destination sls g =
    passed (changes_link before after destination) (range_with_len 0 SELECTIONS) sls (above SELECTIONS sls g.selection)
    (changed (chosen_link before destination sls) (chosen_link after destination sls) g.from g.to g.was g.is g.other)

apart : (o : Option ℕ) (link : ℕ) → o ≡ None → o ≡ Some link → ⊥
apart o link none some = absurd cc

pub had_none : unlinked_before_are_left
had_none before after destination sls none h =
    let g : GoesToAnother before after destination sls = goes_to_another before after destination sls h in
    apart (chosen_link before destination sls) g.from none g.was

pub has_none : unlinked_after_are_left
has_none before after destination sls none h =
    let g : GoesToAnother before after destination sls = goes_to_another before after destination sls h in
    apart (chosen_link after destination sls) g.to none g.is

-- ---- they are held

pub still_held : rerouting_keeps_flows_held
still_held destination [] h other sls e = e
still_held destination (x ∷ xs) h other sls e =
    still_held destination xs (with_hold h (Reroute destination) destination x) other sls (keeps_flows_held h (Reroute destination) destination x other sls e)

own : (n : ℕ) → nat_eq n n ≡ true
own n = grind (arith, nat_tests)

-- the rerouting of a destination that is there may hold each flow to it
rerouting_may_hold : (h : HoldSet) (destination sls : ℕ) → destination < h.destinations → sls < SELECTIONS → may_hold h (Reroute destination) destination sls ≡ true
rerouting_may_hold h destination sls there few =
    and_from (nat_eq destination destination) (nat_lt destination h.destinations && nat_lt sls SELECTIONS) (own destination)
    (and_from (nat_lt destination h.destinations) (nat_lt sls SELECTIONS) (grind (arith, nat_tests, there)) (grind (arith, nat_tests, few)))

pairs-stay : (destination : ℕ) (xs : List ℕ) (h : HoldSet) (procedure : Procedure) (other sls : ℕ) → holds h procedure other sls ≡ true →
    holds (held_for destination xs h) procedure other sls ≡ true
pairs-stay destination [] h procedure other sls e = e
pairs-stay destination (x ∷ xs) h procedure other sls e =
    pairs-stay destination xs (with_hold h (Reroute destination) destination x) procedure other sls (keeps_pairs h (Reroute destination) procedure destination x other sls e)

held_each : (destination : ℕ) (xs : List ℕ) (h : HoldSet) (sls : ℕ) → Contains xs sls → may_hold h (Reroute destination) destination sls ≡ true →
    holds (held_for destination xs h) (Reroute destination) destination sls ≡ true
held_each destination [] h sls (k, l, e) may = absurd (omega (arith, l))
held_each destination (x ∷ xs) h sls (zero, l, e) may =
    pairs-stay destination xs (with_hold h (Reroute destination) destination x) (Reroute destination) destination sls
    (subst (λ (x : ℕ). holds (with_hold h (Reroute destination) destination x) (Reroute destination) destination sls ≡ true) (sym e)
    (adds_its_pair h (Reroute destination) destination sls may))
held_each destination (x ∷ xs) h sls (suc k, l, e) may =
    held_each destination xs (with_hold h (Reroute destination) destination x) sls (k, omega (arith, l), e)
    (may-still h (Reroute destination) destination x (Reroute destination) destination sls ∙ may)

pub has_hold : each_rerouted_has_its_hold
has_hold before after destination sls h among there =
    held_each destination (rerouted before after destination) h sls among
    (rerouting_may_hold h destination sls there ((goes_to_another before after destination sls among).selection))

pub other_pairs : rerouting_leaves_other_pairs
other_pairs destination [] h procedure other sls not_of_it = refl
other_pairs destination (x ∷ xs) h procedure other sls not_of_it =
    other_pairs destination xs (with_hold h (Reroute destination) destination x) procedure other sls (λ p d among. not_of_it p d (behind x xs sls among))
    ∙ hold-leaves_others h (Reroute destination) procedure destination x other sls
    (λ e. not_of_it (ap (λ (p : Procedure × ℕ × ℕ). p.0) e) (ap (λ (p : Procedure × ℕ × ℕ). p.1) e) (0, omega arith, sym (ap (λ (p : Procedure × ℕ × ℕ). p.2) e)))

pub rerouted_held : each_rerouted_is_held
rerouted_held before after destination sls h among there =
    (held_by (held_for destination (rerouted before after destination) h) destination sls).1 (Reroute destination, has_hold before after destination sls h among there)
