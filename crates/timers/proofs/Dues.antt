-- Which timer is due first, and how many are due.
use Rattle.timers.proofs.Basics.{◌≡◌, ◌≢◌, ℕ, suc, ◌+◌, ◌≤◌, ◌||◌, Bool, true, false, cond, List, [], ◌∷◌, length, refl, sym, ap, subst, ◌∙◌, arith, false≢true, nat_tests, Option, Some, None, max, filter, find, option_map_or, AllByRecursion, list_any, TimerName, RouteTimer, has_name, is_same, is_before, is_of_set, names_of, AreInOrder, Running, set_timer, clear_timer, clear_set, no_tick_left, is_due, due_name, after_due, due_count, same_Some, Key, key_of, is_key_before}
use Rattle.timers.proofs.Same.{same_is, is_itself, other_is_not}
use Rattle.timers.proofs.NamesOf.{IsIn, holds_of, is_in}
use Rattle.timers.proofs.NamesRise.{names-rise}
use Rattle.timers.proofs.Elements.{all-weaker}
use Rattle.timers.proofs.Maps.{exists, left-clear, left-clear_other, counts-clear}

key-asym : (x y : Key) → is_key_before x y ≡ true → is_key_before y x ≡ false
key-asym x y h = grind (arith, nat_tests)

pub before-asym : (x y : TimerName) → is_before x y ≡ true → is_before y x ≡ false
before-asym x y h = key-asym (key_of x) (key_of y) h

pub before-itself : (x : TimerName) → is_before x x ≡ false
before-itself x =
    elim (is_before x x) as (λ b. is_before x x ≡ b → b ≡ false) [
      | true ↦ λ e. sym e ∙ before-asym x x e
      | false ↦ λ e. refl
    ] refl

-- ---- a test in a list of names

-- a name among those after another is another
behind_differs : (x name : TimerName) (names : List TimerName) → AllByRecursion (λ y. is_before x y ≡ true) names → IsIn name names → x ≢ name
behind_differs x name names h e same =
    false≢true (sym (before-itself x) ∙ ap (is_before x) same ∙ holds_of (λ y. is_before x y ≡ true) name names h e)

in-past : (x name : TimerName) (names : List TimerName) → is_same x name ≡ false → IsIn name (x ∷ names) → IsIn name names
in-past x name names h e = ap (λ b. b || list_any (λ x. is_same x name) names) (sym h) ∙ e

module _ (p : TimerName → Bool) where
  find-here : (x : TimerName) (names : List TimerName) → p x ≡ true → find p (x ∷ names) ≡ Some x
  find-here x names h = ap (λ b. cond b (Some x) (find p names)) h

  find-past : (x : TimerName) (names : List TimerName) → p x ≡ false → find p (x ∷ names) ≡ find p names
  find-past x names h = ap (λ b. cond b (Some x) (find p names)) h

  find-passes : (name : TimerName) (names : List TimerName) → find p names ≡ Some name → p name ≡ true
  find-passes name [] e = absurd cc
  find-passes name (x ∷ names) e =
      elim (p x) as (λ b. p x ≡ b → p name ≡ true) [
        | true ↦ λ h. subst (λ z. p z ≡ true) (same_Some _ _ (sym (find-here x names h) ∙ e)) h
        | false ↦ λ h. find-passes name names (sym (find-past x names h) ∙ e)
      ] refl

  all-fail : (names : List TimerName) → find p names ≡ None → AllByRecursion (λ x. p x ≡ false) names
  all-fail [] e = tt
  all-fail (x ∷ names) e =
      elim (p x) as (λ b. p x ≡ b → AllByRecursion (λ x. p x ≡ false) (x ∷ names)) [
        | true ↦ λ h. (let k = sym (find-here x names h) ∙ e in absurd cc)
        | false ↦ λ h. (h, all-fail names (sym (find-past x names h) ∙ e))
      ] refl

  -- the first that passes comes before every other that does
  find-first : (name other : TimerName) (names : List TimerName) → AreInOrder names → find p names ≡ Some name → IsIn other names → p other ≡ true → name ≢ other → is_before name other ≡ true
  find-first name other [] r e i k h = absurd cc
  find-first name other (x ∷ names) r e i k h =
      elim (p x) as (λ b. p x ≡ b → is_before name other ≡ true) [
        | true ↦ λ t.
            let same = same_Some _ _ (sym (find-here x names t) ∙ e) in
            let rest = in-past x other names (other_is_not x other (λ z. h (sym same ∙ z))) i in
            subst (λ z. is_before z other ≡ true) same (holds_of (λ y. is_before x y ≡ true) other names r.0 rest)
        | false ↦ λ t.
            let apart = other_is_not x other (λ z. false≢true (sym t ∙ ap p z ∙ k)) in
            find-first name other names r.1 (sym (find-past x names t) ∙ e) (in-past x other names apart i) k h
      ] refl

  -- what passes and comes before every other that does is the first
  pub first-found : (name : TimerName) (names : List TimerName) → AreInOrder names → IsIn name names → p name ≡ true → ((other : TimerName) → p other ≡ true → name ≢ other → is_before name other ≡ true) → find p names ≡ Some name
  first-found name [] r i k h = absurd cc
  first-found name (x ∷ names) r i k h =
      elim (is_same x name) as (λ b. is_same x name ≡ b → find p (x ∷ names) ≡ Some name) [
        | true ↦ λ s. (let same = same_is x name s in find-here x names (ap p same ∙ k) ∙ ap (λ z. Some z) same)
        | false ↦ λ s.
            let rest = in-past x name names s i in
            let apart = behind_differs x name names r.0 rest in
            find-past x names (idle apart (holds_of (λ y. is_before x y ≡ true) name names r.0 rest)) ∙ first-found name names r.1 rest k h
      ] refl
    where
      idle : x ≢ name → is_before x name ≡ true → p x ≡ false
      idle apart earlier =
          elim (p x) as (λ b. p x ≡ b → b ≡ false) [
            | true ↦ λ t. absurd (false≢true (sym (before-asym x name earlier) ∙ h x t (λ z. apart (sym z))))
            | false ↦ λ t. refl
          ] refl

  pub none-found : (names : List TimerName) → ((name : TimerName) → p name ≡ false) → find p names ≡ None
  none-found [] h = refl
  none-found (x ∷ names) h = find-past x names (h x) ∙ none-found names h

  none-pass : (names : List TimerName) → AllByRecursion (λ x. p x ≡ false) names → length (filter p names) ≡ 0
  none-pass [] h = refl
  none-pass (x ∷ names) h = ap (λ b. length (cond b (x ∷ filter p names) (filter p names))) h.0 ∙ none-pass names h.1

-- ---- two tests

-- a list, by one test or another
abbrev passed : Bool → ℕ → ℕ
passed b n = cond b 1 0 + n

longer : (p : TimerName → Bool) (x : TimerName) (names : List TimerName) → length (filter p (x ∷ names)) ≡ passed (p x) (length (filter p names))
longer p x names =
    elim (p x) as (λ b. length (cond b (x ∷ filter p names) (filter p names)) ≡ passed b (length (filter p names))) [
      | true ↦ (let goal : suc (length (filter p names)) ≡ 1 + length (filter p names) = omega arith in goal)
      | false ↦ (let goal : length (filter p names) ≡ 0 + length (filter p names) = omega arith in goal)
    ]

module _ (p q : TimerName → Bool) where
  same-passed : (names : List TimerName) → AllByRecursion (λ x. q x ≡ p x) names → length (filter q names) ≡ length (filter p names)
  same-passed [] h = refl
  same-passed (x ∷ names) h =
      let one : passed (q x) 0 ≡ passed (p x) 0 = ap (λ b. passed b 0) h.0 in
      omega (arith, one, longer p x names, longer q x names, same-passed names h.1)

  -- one name less
  one-less : (name : TimerName) (names : List TimerName) → AreInOrder names → IsIn name names → p name ≡ true → q name ≡ false → ((x : TimerName) → name ≢ x → q x ≡ p x) → length (filter q names) + 1 ≡ length (filter p names)
  one-less name [] r i h k e = absurd cc
  one-less name (x ∷ names) r i h k e =
      elim (is_same x name) as (λ b. is_same x name ≡ b → length (filter q (x ∷ names)) + 1 ≡ length (filter p (x ∷ names))) [
        | true ↦ λ s.
            let same = same_is x name s in
            let was : passed (p x) 0 ≡ 1 = ap (λ b. passed b 0) (ap p same ∙ h) in
            let now : passed (q x) 0 ≡ 0 = ap (λ b. passed b 0) (ap q same ∙ k) in
            let rest = same-passed names (all-weaker _ (λ y. q y ≡ p y) (λ y l. e y (λ z. false≢true (sym (before-itself x) ∙ ap (is_before x) (same ∙ z) ∙ l))) names r.0) in
            omega (arith, was, now, rest, longer p x names, longer q x names)
        | false ↦ λ s.
            let one : passed (q x) 0 ≡ passed (p x) 0 = ap (λ b. passed b 0) (e x (λ z. false≢true (sym s ∙ ap (λ y. is_same y name) (sym z) ∙ is_itself name))) in
            omega (arith, one, longer p x names, longer q x names, one-less name names r.1 (in-past x name names s i) h k e)
      ] refl

  no-more : (names : List TimerName) → ((x : TimerName) → q x ≡ true → p x ≡ true) → length (filter q names) ≤ length (filter p names)
  no-more [] h = omega arith
  no-more (x ∷ names) h = omega (arith, implied (q x) (p x) (h x), longer p x names, longer q x names, no-more names h)
    where
      implied : (c b : Bool) → (c ≡ true → b ≡ true) → passed c 0 ≤ passed b 0
      implied true b h = (let one : passed b 0 ≡ 1 = ap (λ c. passed c 0) (h refl) in omega (arith, one))
      implied false b h = (let goal : 0 + 0 ≤ passed b 0 = omega arith in goal)

-- ---- timers that are due

pub no_ticks : (o : Option ℕ) → no_tick_left o ≡ true → o ≡ Some 0
no_ticks None e = absurd cc
no_ticks (Some n) e = let z : n ≡ 0 = grind (arith, nat_tests) in ap (λ n. Some n) z

-- what is due exists
pub due-in : (r : Running) (name : TimerName) → r.left name ≡ Some 0 → IsIn name (names_of r.counts)
due-in r name e = is_in r.counts name (exists r name 0 e)

pub due-left : (name : TimerName) (r : Running) → due_name r ≡ Some name → r.left name ≡ Some 0
unfolding due_name
due-left name r e = no_ticks (r.left name) (find-passes (is_due r) name (names_of r.counts) e)

pub due-first : (name other : TimerName) (r : Running) → due_name r ≡ Some name → r.left other ≡ Some 0 → name ≢ other → is_before name other ≡ true
unfolding due_name
due-first name other r e k h = find-first (is_due r) name other (names_of r.counts) (names-rise r.counts) e (due-in r other k) (ap no_tick_left k) h

pub due-none : (name : TimerName) (r : Running) → due_name r ≡ None → r.left name ≢ Some 0
unfolding due_name
due-none name r e k = false≢true (sym (holds_of (λ x. is_due r x ≡ false) name (names_of r.counts) (all-fail (is_due r) (names_of r.counts) e) (due-in r name k)) ∙ ap no_tick_left k)

-- what is due first is known by these
pub due-is : (name : TimerName) (r : Running) → r.left name ≡ Some 0 → ((other : TimerName) → r.left other ≡ Some 0 → name ≢ other → is_before name other ≡ true) → due_name r ≡ Some name
unfolding due_name
due-is name r e h = first-found (is_due r) name (names_of r.counts) (names-rise r.counts) (due-in r name e) (ap no_tick_left e) (λ other k. h other (no_ticks (r.left other) k))

pub due-is_none : (r : Running) → ((name : TimerName) → r.left name ≢ Some 0) → due_name r ≡ None
unfolding due_name
due-is_none r h = none-found (is_due r) (names_of r.counts) idle
  where
    idle : (name : TimerName) → is_due r name ≡ false
    idle name = elim (is_due r name) as (λ b. is_due r name ≡ b → b ≡ false) [ true ↦ λ e. absurd (h name (no_ticks (r.left name) e)) | false ↦ λ e. refl ] refl

-- ---- what is handed out

pub after-clear : (name : TimerName) (r : Running) → due_name r ≡ Some name → after_due r ≡ clear_timer name r
unfolding after_due
after-clear name r e = ap (λ o. option_map_or (λ name. clear_timer name r) o r) e

pub after-none : (r : Running) → due_name r ≡ None → after_due r ≡ r
unfolding after_due
after-none r e = ap (λ o. option_map_or (λ name. clear_timer name r) o r) e

pub counts-after : (r : Running) → (after_due r).counts ≡ r.counts
counts-after r =
    elim (due_name r) as (λ o. due_name r ≡ o → (after_due r).counts ≡ r.counts) [
      | Some name ↦ λ e. ap (λ (s : Running). s.counts) (after-clear name r e) ∙ counts-clear name r
      | None ↦ λ e. ap (λ (s : Running). s.counts) (after-none r e)
    ] refl

-- ---- how many are due

-- as many as a test lets through
counted : (r s : Running) → s.counts ≡ r.counts → due_count s ≡ length (filter (is_due s) (names_of r.counts))
unfolding due_count
counted r s e = ap (λ n. length (filter (is_due s) (names_of n))) e

counted-itself : (r : Running) → due_count r ≡ length (filter (is_due r) (names_of r.counts))
unfolding due_count
counted-itself r = refl

pub count-after : (name : TimerName) (r : Running) → due_name r ≡ Some name → due_count (after_due r) + 1 ≡ due_count r
count-after name r e =
    let s = clear_timer name r in
    let due = due-left name r e in
    let fewer = one-less (is_due r) (is_due s) name (names_of r.counts) (names-rise r.counts) (due-in r name due) (ap no_tick_left due) (ap no_tick_left (left-clear name r)) (λ x h. ap no_tick_left (left-clear_other name x r h)) in
    let after = ap due_count (after-clear name r e) ∙ counted r s (counts-clear name r) in
    omega (arith, fewer, after, counted-itself r)

pub count-none : (r : Running) → due_name r ≡ None → due_count r ≡ 0
unfolding due_name
count-none r e = counted-itself r ∙ none-pass (is_due r) (names_of r.counts) (all-fail (is_due r) (names_of r.counts) e)

no-more-due : (r s : Running) → s.counts ≡ r.counts → ((name : TimerName) → is_due s name ≡ true → is_due r name ≡ true) → due_count s ≤ due_count r
no-more-due r s e h = omega (arith, no-more (is_due r) (is_due s) (names_of r.counts) h, counted r s e, counted-itself r)

-- a value that isn't due, or the one before
due-before : (has picked : Bool) (new old : Option ℕ) → no_tick_left new ≡ false → no_tick_left (cond has (cond picked new old) None) ≡ true → no_tick_left old ≡ true
due-before true true new old h e = absurd (false≢true (sym h ∙ e))
due-before true false new old h e = e
due-before false picked new old h e = absurd cc

ticks_left : (ticks : ℕ) → no_tick_left (Some (max 1 ticks)) ≡ false
ticks_left ticks = grind (arith, nat_tests)

pub count-set : (name : TimerName) (ticks : ℕ) (r : Running) → due_count (set_timer name ticks r) ≤ due_count r
unfolding set_timer
count-set name ticks r = no-more-due r (set_timer name ticks r) refl (λ x. due-before (has_name r.counts x) (is_same name x) (Some (max 1 ticks)) (r.left x) (ticks_left ticks))

pub count-clear : (name : TimerName) (r : Running) → due_count (clear_timer name r) ≤ due_count r
unfolding clear_timer
count-clear name r = no-more-due r (clear_timer name r) refl (λ x. due-before (has_name r.counts x) (is_same name x) None (r.left x) refl)

pub count-clear_set : (timer : RouteTimer) (set : ℕ) (r : Running) → due_count (clear_set timer set r) ≤ due_count r
unfolding clear_set
count-clear_set timer set r = no-more-due r (clear_set timer set r) refl (λ x. due-before (has_name r.counts x) (is_of_set timer set x) None (r.left x) refl)
