-- The map that the table says: what a call does to the table, it does to the map.
use Rattle.timers.proofs.Basics.{◌≡◌, ◌≢◌, ℕ, zero, suc, nat_lt, min, Bool, true, false, cond, refl, sym, ap, subst, ◌∙◌, arith, nat_tests, Option, Some, None, is_some, max, ◌&&◌, TimerName, T4, T8, T10, NodeCounts, has_name, is_same, named_sets, place_of, Running, none_running, is_running, set_timer, start_unless_running, clear_timer, one_less, ticked, due_name, after_due, due_count, one_map, Table, has_place, left_to, map_of, IsWhole}
use Rattle.timers.proofs.OnTable.{none_in, put_in, ticked_in, due_place, due_in, after_due_in, count_in}
use Rattle.timers.proofs.Same.{same_is, is_itself}
use Rattle.timers.proofs.InTable as table
use Rattle.timers.proofs.Maps as map
use Rattle.timers.proofs.Dues as due

-- ---- what is left to a name

pub counts-map : (t : Table) → (map_of t).counts ≡ t.counts
unfolding map_of
counts-map t = refl

fewer_sets : (s n : ℕ) (b : Bool) → (nat_lt s n && b) ≡ false → (nat_lt s (min n 256) && b) ≡ false
fewer_sets s n true h = grind (arith, nat_tests, h)
fewer_sets s n false h = grind (arith, nat_tests)

-- a name that the node doesn't have has no place
no_place : (n : NodeCounts) (name : TimerName) → has_name n name ≡ false → has_name (named_sets n) name ≡ false
no_place n (T4 set code) h = fewer_sets set n.sets (nat_lt code 16) h
no_place n (T8 set destination) h = fewer_sets set n.sets (nat_lt destination n.destinations) h
no_place n (T10 set destination) h = fewer_sets set n.sets (nat_lt destination n.destinations) h
no_place n other h = h

pub left-map : (t : Table) (name : TimerName) → (map_of t).left name ≡ left_to name t
unfolding map_of
left-map t name =
    elim (has_name t.counts name) as (λ b. has_name t.counts name ≡ b → cond b (left_to name t) None ≡ left_to name t) [
      | true ↦ λ h. refl
      | false ↦ λ h. sym (table.left-absent name t (no_place t.counts name h))
    ] refl

-- a map that leaves the same to each name that exists
alike : (t : Table) (r : Running) (n : NodeCounts) → t.counts ≡ n → r.counts ≡ n → ((name : TimerName) → has_name n name ≡ true → left_to name t ≡ r.left name) → map_of t ≡ r
alike t r n c d left = one_map (map_of t) r (counts-map t ∙ c ∙ sym d) each
  where
    each : (name : TimerName) → (map_of t).left name ≡ r.left name
    each name =
        elim (has_name n name) as (λ b. has_name n name ≡ b → (map_of t).left name ≡ r.left name) [
          | true ↦ λ h. left-map t name ∙ left name h
          | false ↦ λ h. (map_of t).only name (ap (λ n. has_name n name) (counts-map t ∙ c) ∙ h) ∙ sym (r.only name (ap (λ n. has_name n name) d ∙ h))
        ] refl

differs : (x y : TimerName) → is_same x y ≡ false → x ≢ y
differs x y h e = (let same = sym h ∙ ap (λ z. is_same z y) e ∙ is_itself y in absurd cc)

counts-put : (name : TimerName) (left : Option ℕ) (t : Table) → (put_in name left t).counts ≡ t.counts
counts-put name left t = table.counts-put_at (place_of (named_sets t.counts) name) left t

-- ---- the calls

pub map-none : (n : NodeCounts) → map_of (none_in n) ≡ none_running n
map-none n = alike (none_in n) (none_running n) n refl refl (λ name h. table.left-none name n ∙ sym (map.left-none name n))

pub map-set : (name : TimerName) (ticks : ℕ) (t : Table) → IsWhole t → has_place name t ≡ has_name t.counts name → map_of (put_in name (Some (max 1 ticks)) t) ≡ set_timer name ticks (map_of t)
map-set name ticks t w has =
    alike (put_in name (Some (max 1 ticks)) t) (set_timer name ticks (map_of t)) t.counts (counts-put name (Some (max 1 ticks)) t)
    (map.counts-set name ticks (map_of t) ∙ counts-map t) each
  where
    here : has_name t.counts name ≡ true → left_to name (put_in name (Some (max 1 ticks)) t) ≡ (set_timer name ticks (map_of t)).left name
    here h =
        table.left-put name (Some (max 1 ticks)) t w (has ∙ h)
        ∙ sym (map.left-set name ticks (map_of t) (ap (λ n. has_name n name) (counts-map t) ∙ h))

    each : (other : TimerName) → has_name t.counts other ≡ true → left_to other (put_in name (Some (max 1 ticks)) t) ≡ (set_timer name ticks (map_of t)).left other
    each other h =
        elim (is_same name other) as (λ b. is_same name other ≡ b → left_to other (put_in name (Some (max 1 ticks)) t) ≡ (set_timer name ticks (map_of t)).left other) [
          | true ↦ λ e.
              let same = same_is name other e in
              subst (λ x. left_to x (put_in name (Some (max 1 ticks)) t) ≡ (set_timer name ticks (map_of t)).left x) same (here (ap (has_name t.counts) same ∙ h))
          | false ↦ λ e.
              table.left-put_other name other (Some (max 1 ticks)) t (differs name other e)
              ∙ sym (left-map t other)
              ∙ sym (map.left-set_other name other ticks (map_of t) (differs name other e))
        ] refl

pub map-clear : (name : TimerName) (t : Table) → IsWhole t → map_of (put_in name None t) ≡ clear_timer name (map_of t)
map-clear name t w =
    alike (put_in name None t) (clear_timer name (map_of t)) t.counts (counts-put name None t) (map.counts-clear name (map_of t) ∙ counts-map t) each
  where
    each : (other : TimerName) → has_name t.counts other ≡ true → left_to other (put_in name None t) ≡ (clear_timer name (map_of t)).left other
    each other h =
        elim (is_same name other) as (λ b. is_same name other ≡ b → left_to other (put_in name None t) ≡ (clear_timer name (map_of t)).left other) [
          | true ↦ λ e. subst (λ x. left_to x (put_in name None t) ≡ (clear_timer name (map_of t)).left x) (same_is name other e) (table.left-clear name t w ∙ sym (map.left-clear name (map_of t)))
          | false ↦ λ e. table.left-put_other name other None t (differs name other e) ∙ sym (left-map t other) ∙ sym (map.left-clear_other name other (map_of t) (differs name other e))
        ] refl

pub map-ticked : (t : Table) → map_of (ticked_in t) ≡ ticked (map_of t)
map-ticked t =
    alike (ticked_in t) (ticked (map_of t)) t.counts refl (counts-map t)
    (λ name h. table.left-ticked name t ∙ ap one_less (sym (left-map t name)) ∙ sym (map.left-ticked name (map_of t)))

-- ---- whether one runs

pub map-running : (name : TimerName) (t : Table) → is_some (left_to name t) ≡ is_running name (map_of t)
map-running name t = ap is_some (sym (left-map t name))

pub map-start : (name : TimerName) (ticks : ℕ) (t : Table) → IsWhole t → has_place name t ≡ has_name t.counts name
    → map_of (cond (is_some (left_to name t)) t (put_in name (Some (max 1 ticks)) t)) ≡ start_unless_running name ticks (map_of t)
unfolding start_unless_running
map-start name ticks t w has =
    either (is_some (left_to name t))
    ∙ ap (λ b. cond b (map_of t) (set_timer name ticks (map_of t))) (map-running name t)
  where
    either : (b : Bool) → map_of (cond b t (put_in name (Some (max 1 ticks)) t)) ≡ cond b (map_of t) (set_timer name ticks (map_of t))
    either true = refl
    either false = map-set name ticks t w has

-- ---- what is due

pub map-due : (t : Table) → IsWhole t → due_in t ≡ due_name (map_of t)
map-due t w =
    elim (due_in t) as (λ o. due_in t ≡ o → o ≡ due_name (map_of t)) [
      | Some name ↦ λ e. sym (due.due-is name (map_of t) (left-map t name ∙ table.due-left name t w e) (λ other k h. table.due-first name other t w e (sym (left-map t other) ∙ k) h))
      | None ↦ λ e. sym (due.due-is_none (map_of t) (λ name k. table.due-none name t w e (sym (left-map t name) ∙ k)))
    ] refl

pub map-after : (t : Table) → IsWhole t → map_of (after_due_in t) ≡ after_due (map_of t)
map-after t w =
    elim (due_in t) as (λ o. due_in t ≡ o → map_of (after_due_in t) ≡ after_due (map_of t)) [
      | Some name ↦ λ e. ap map_of (table.after-clear name t w e) ∙ map-clear name t w ∙ sym (due.after-clear name (map_of t) (sym (map-due t w) ∙ e))
      | None ↦ λ e. ap map_of (table.after-none t e) ∙ sym (due.after-none (map_of t) (sym (map-due t w) ∙ e))
    ] refl

none-counted : (k : ℕ) (t : Table) → IsWhole t → due_in t ≡ None → count_in t ≡ k → due_count (map_of t) ≡ k
none-counted k t w d e = due.count-none (map_of t) (sym (map-due t w) ∙ d) ∙ sym (table.count-none t d) ∙ e

count-by : (k : ℕ) (t : Table) → IsWhole t → count_in t ≡ k → due_count (map_of t) ≡ k
count-by zero t w e =
    elim (due_in t) as (λ o. due_in t ≡ o → due_count (map_of t) ≡ 0) [
      | Some name ↦ λ d. absurd (omega (arith, e, table.count-after name t w d))
      | None ↦ λ d. none-counted 0 t w d e
    ] refl
count-by (suc k) t w e =
    elim (due_in t) as (λ o. due_in t ≡ o → due_count (map_of t) ≡ suc k) [
      | Some name ↦ λ d.
          let fewer : count_in (after_due_in t) ≡ k = omega (arith, e, table.count-after name t w d) in
          let rest = ap due_count (sym (map-after t w)) ∙ count-by k (after_due_in t) (table.whole-put_at (due_place t) None t w) fewer in
          omega (arith, rest, due.count-after name (map_of t) (sym (map-due t w) ∙ d))
      | None ↦ λ d. none-counted (suc k) t w d e
    ] refl

pub map-count : (t : Table) → IsWhole t → count_in t ≡ due_count (map_of t)
map-count t w = sym (count-by (count_in t) t w refl)
