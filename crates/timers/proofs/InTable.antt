-- The ticks left to each timer, by its index.
use Rattle.timers.proofs.Basics.{◌≡◌, ◌≢◌, ℕ, suc, nat_lt, ◌+◌, ◌<◌, ◌≤◌, true, false, cond, List, [], ◌∷◌, length, map, get_or, slice_set, refl, sym, ap, subst, ◌∙◌, arith, get_or-set_same, get_or-set_other, length-set, length-map, get_or-replicate, sum_by-set, length-filter, passes_at_first, fails_before_first, true≢false, nat_tests, Option, Some, None, MatchOption, filter, position_or_len, option_map, TimerName, NodeCounts, has_name, is_before, count_of, named_sets, place_in, name_at, one_less, no_tick_left, Table, has_place, left_to, IsWhole, same_Some}
use Rattle.std.proofs.Math.ListN.{get_or-map}
use Rattle.timers.proofs.Dues.{no_ticks}
use Rattle.timers.proofs.OnTable.{none_in, put, put_at, put_in, ticked_in, due_place, due_in, after_due_in, count_in}
use Rattle.timers.proofs.PlaceNames.{name-place, IsNamed, named}
use Rattle.timers.proofs.PlacesRise.{place-fits, place-rises}
use Rattle.timers.proofs.Same.{before-total}

abbrev place_for : TimerName → Table → ℕ
place_for name t = place_in (named_sets t.counts) name

-- ---- one place

pub left-there : (name : TimerName) (t : Table) → has_place name t ≡ true → left_to name t ≡ get_or t.left (place_for name t) None
unfolding left_to
left-there name t h = ap (λ b. cond b (get_or t.left (place_for name t) None) None) h

pub left-absent : (name : TimerName) (t : Table) → has_place name t ≡ false → left_to name t ≡ None
unfolding left_to
left-absent name t h = ap (λ b. cond b (get_or t.left (place_for name t) None) None) h

pub within : (name : TimerName) (t : Table) → IsWhole t → has_place name t ≡ true → place_for name t < length t.left
within name t w h = let f = place-fits (named_sets t.counts) name h in omega (arith, f, w.places)

pub put-there : (name : TimerName) (left : Option ℕ) (t : Table) → has_place name t ≡ true → put_in name left t ≡ put (place_for name t) left t
put-there name left t h = ap (λ b. put_at (cond b (Some (place_for name t)) None) left t) h

pub put-absent : (name : TimerName) (left : Option ℕ) (t : Table) → has_place name t ≡ false → put_in name left t ≡ t
put-absent name left t h = ap (λ b. put_at (cond b (Some (place_for name t)) None) left t) h

pub left-put : (name : TimerName) (left : Option ℕ) (t : Table) → IsWhole t → has_place name t ≡ true → left_to name (put_in name left t) ≡ left
left-put name left t w h =
    ap (left_to name) (put-there name left t h)
    ∙ left-there name (put (place_for name t) left t) h
    ∙ get_or-set_same t.left (place_for name t) left None (within name t w h)

-- one place holds one timer
one_place : (n : NodeCounts) (x y : TimerName) → has_name n x ≡ true → has_name n y ≡ true → place_in n x ≡ place_in n y → x ≡ y
one_place n x y h k e = sym (name-place n x h) ∙ ap (name_at n) e ∙ name-place n y k

left-put_apart : (name other : TimerName) (left : Option ℕ) (t : Table) → has_place name t ≡ true → name ≢ other → left_to other (put (place_for name t) left t) ≡ left_to other t
left-put_apart name other left t h apart =
    elim (has_place other t) as (λ b. has_place other t ≡ b → left_to other (put (place_for name t) left t) ≡ left_to other t) [
      | true ↦ λ k.
          left-there other (put (place_for name t) left t) k
          ∙ get_or-set_other t.left (place_for name t) (place_for other t) left None (λ e. apart (one_place (named_sets t.counts) name other h k (sym e)))
          ∙ sym (left-there other t k)
      | false ↦ λ k. left-absent other (put (place_for name t) left t) k ∙ sym (left-absent other t k)
    ] refl

pub left-put_other : (name other : TimerName) (left : Option ℕ) (t : Table) → name ≢ other → left_to other (put_in name left t) ≡ left_to other t
left-put_other name other left t apart =
    elim (has_place name t) as (λ b. has_place name t ≡ b → left_to other (put_in name left t) ≡ left_to other t) [
      | true ↦ λ h. ap (left_to other) (put-there name left t h) ∙ left-put_apart name other left t h apart
      | false ↦ λ h. ap (left_to other) (put-absent name left t h)
    ] refl

pub left-clear : (name : TimerName) (t : Table) → IsWhole t → left_to name (put_in name None t) ≡ None
left-clear name t w =
    elim (has_place name t) as (λ b. has_place name t ≡ b → left_to name (put_in name None t) ≡ None) [
      | true ↦ λ h. left-put name None t w h
      | false ↦ λ h. ap (left_to name) (put-absent name None t h) ∙ left-absent name t h
    ] refl

-- ---- all places

pub left-ticked : (name : TimerName) (t : Table) → left_to name (ticked_in t) ≡ one_less (left_to name t)
unfolding left_to
left-ticked name t =
    elim (has_place name t) as (λ b. cond b (get_or (map one_less t.left) (place_for name t) None) None ≡ one_less (cond b (get_or t.left (place_for name t) None) None)) [
      | true ↦ get_or-map one_less t.left (place_for name t) None
      | false ↦ refl
    ]

pub left-none : (name : TimerName) (n : NodeCounts) → left_to name (none_in n) ≡ None
left-none name n =
    elim (has_place name (none_in n)) as (λ b. has_place name (none_in n) ≡ b → left_to name (none_in n) ≡ None) [
      | true ↦ λ h. left-there name (none_in n) h ∙ get_or-replicate (count_of (named_sets n)) (place_in (named_sets n) name) None None (place-fits (named_sets n) name h)
      | false ↦ λ h. left-absent name (none_in n) h
    ] refl

-- ---- the table stays whole

pub whole-put : (place : ℕ) (left : Option ℕ) (t : Table) → IsWhole t → IsWhole (put place left t)
whole-put place left t w = record { places = length-set t.left place left ∙ w.places }

pub whole-put_at : (o left : Option ℕ) (t : Table) → IsWhole t → IsWhole (put_at o left t)
whole-put_at (Some place) left t w = whole-put place left t w
whole-put_at None left t w = w

pub whole-ticked : (t : Table) → IsWhole t → IsWhole (ticked_in t)
whole-ticked t w = record { places = length-map t.left one_less ∙ w.places }

pub counts-put_at : (o left : Option ℕ) (t : Table) → (put_at o left t).counts ≡ t.counts
counts-put_at (Some place) left t = refl
counts-put_at None left t = refl

-- ---- what is due

record IsFirst (t : Table) (place : ℕ) : Type 0 where
  within : place < length t.left
  due : get_or t.left place None ≡ Some 0
  idle : (k : ℕ) → k < place → no_tick_left (get_or t.left k None) ≡ false

-- where a search ends
tested : (n m : ℕ) (o : Option ℕ) → cond (nat_lt n m) (Some n) None ≡ o → MatchOption o (m ≤ n) (λ i. (n ≡ i) × (n < m))
tested n m None e = grind (arith, nat_tests, e)
tested n m (Some i) e = (grind (arith, nat_tests, e), grind (arith, nat_tests, e))

first_place : (t : Table) (place : ℕ) → due_place t ≡ Some place → IsFirst t place
first_place t place e =
    let n = position_or_len no_tick_left t.left in
    let f = tested n (length t.left) (Some place) e in
    subst (IsFirst t) f.0 (record {
      within = f.1;
      due = no_ticks (get_or t.left n None) (passes_at_first no_tick_left t.left None f.1);
      idle = λ k l. fails_before_first no_tick_left t.left k None l;
    })

all_idle : (t : Table) → due_place t ≡ None → (k : ℕ) → k < length t.left → no_tick_left (get_or t.left k None) ≡ false
all_idle t e k l =
    let f = tested (position_or_len no_tick_left t.left) (length t.left) None e in
    fails_before_first no_tick_left t.left k None (omega (arith, f, l))

-- the name at the first place that is due
record IsDue (name : TimerName) (t : Table) : Type 0 where
  place : ℕ
  there : due_place t ≡ Some place
  first : IsFirst t place
  has : has_place name t ≡ true
  at : place_in (named_sets t.counts) name ≡ place

is_due : (name : TimerName) (t : Table) → IsWhole t → due_in t ≡ Some name → IsDue name t
is_due name t w e = at (due_place t) refl e
  where
    at : (o : Option ℕ) → due_place t ≡ o → option_map (name_at (named_sets t.counts)) o ≡ Some name → IsDue name t
    at (Some p) d e =
        let first = first_place t p d in
        let same : name_at (named_sets t.counts) p ≡ name = same_Some _ _ e in
        let i = subst (IsNamed (named_sets t.counts) p) same (named (named_sets t.counts) p (omega (arith, first.within, w.places))) in
        record { place = p; there = d; first = first; has = i.has; at = i.place }
    at None d e = absurd cc

none_due : (t : Table) → due_in t ≡ None → due_place t ≡ None
none_due t e = at (due_place t) e
  where
    at : (o : Option ℕ) → option_map (name_at (named_sets t.counts)) o ≡ None → o ≡ None
    at (Some p) e = absurd cc
    at None e = refl

pub due-left : (name : TimerName) (t : Table) → IsWhole t → due_in t ≡ Some name → left_to name t ≡ Some 0
due-left name t w e =
    let d = is_due name t w e in
    left-there name t d.has ∙ ap (λ p. get_or t.left p None) d.at ∙ d.first.due

-- a timer that is due has a place that is due
record StandsDue (name : TimerName) (t : Table) : Type 0 where
  has : has_place name t ≡ true
  due : get_or t.left (place_for name t) None ≡ Some 0

stands_due : (name : TimerName) (t : Table) → left_to name t ≡ Some 0 → StandsDue name t
stands_due name t e =
    elim (has_place name t) as (λ b. has_place name t ≡ b → StandsDue name t) [
      | true ↦ λ h. record { has = h; due = sym (left-there name t h) ∙ e }
      | false ↦ λ h. (let none = sym (left-absent name t h) ∙ e in absurd cc)
    ] refl

pub due-first : (name other : TimerName) (t : Table) → IsWhole t → due_in t ≡ Some name → left_to other t ≡ Some 0 → name ≢ other → is_before name other ≡ true
due-first name other t w e k apart =
    let d = is_due name t w e in
    let s = stands_due other t k in
    elim (is_before name other) as (λ b. is_before name other ≡ b → b ≡ true) [
      | true ↦ λ h. refl
      | false ↦ λ h.
          let lower = place-rises (named_sets t.counts) other name s.has d.has (before-total name other apart h) in
          absurd (true≢false (sym (ap no_tick_left s.due) ∙ d.first.idle (place_for other t) (omega (arith, lower, d.at))))
    ] refl

pub due-none : (name : TimerName) (t : Table) → IsWhole t → due_in t ≡ None → left_to name t ≡ Some 0 → ⊥
due-none name t w e k =
    let s = stands_due name t k in
    true≢false (sym (ap no_tick_left s.due) ∙ all_idle t (none_due t e) (place_for name t) (within name t w s.has))

pub after-clear : (name : TimerName) (t : Table) → IsWhole t → due_in t ≡ Some name → after_due_in t ≡ put_in name None t
after-clear name t w e =
    let d = is_due name t w e in
    ap (λ o. put_at o None t) d.there ∙ ap (λ p. put p None t) (sym d.at) ∙ sym (put-there name None t d.has)

pub after-none : (t : Table) → due_in t ≡ None → after_due_in t ≡ t
after-none t e = ap (λ o. put_at o None t) (none_due t e)

-- ---- how many are due

abbrev one : Option ℕ → ℕ
one o = cond (no_tick_left o) 1 0

pub count-after : (name : TimerName) (t : Table) → IsWhole t → due_in t ≡ Some name → count_in (after_due_in t) + 1 ≡ count_in t
count-after name t w e =
    let d = is_due name t w e in
    let new = ap (λ o. count_in (put_at o None t)) d.there ∙ length-filter no_tick_left (slice_set t.left d.place None) in
    let old = length-filter no_tick_left t.left in
    let sums = sum_by-set one t.left d.place None None d.first.within in
    let was : one (get_or t.left d.place None) ≡ 1 = ap one d.first.due in
    let is : one None ≡ 0 = refl in
    omega (arith, new, old, sums, was, is)

none-pass : (xs : List (Option ℕ)) → ((k : ℕ) → k < length xs → no_tick_left (get_or xs k None) ≡ false) → length (filter no_tick_left xs) ≡ 0
none-pass [] h = refl
none-pass (x ∷ xs) h =
    ap (λ b. length (cond b (x ∷ filter no_tick_left xs) (filter no_tick_left xs))) (h 0 (omega arith))
    ∙ none-pass xs (λ k l. h (suc k) (omega (arith, l)))

pub count-none : (t : Table) → due_in t ≡ None → count_in t ≡ 0
count-none t e = none-pass t.left (all_idle t (none_due t e))
