-- What the calls of the table come to, for the map that it says.
use Rattle.timers.proofs.Basics.{◌≡◌, ℕ, Bool, true, false, cond, refl, sym, ap, subst, ◌∙◌, Option, Some, None, is_some, max, get_or, length, slice_set, ◌<◌, option_map, TimerName, has_name, named_sets, place_in, place_of, name_at, Running, is_running, set_timer, start_unless_running, clear_timer, ticked, due_name, after_due, Table, has_place, left_to, map_of, IsWhole, same_Some}
use Rattle.timers.proofs.OnTable.{put, put_at, put_in, start_at, ticked_in, due_place, after_due_in}
use Rattle.timers.proofs.InTable.{within, left-there, left-absent, whole-put_at, whole-ticked}
use Rattle.timers.proofs.Viewed.{map-set, map-start, map-clear, map-ticked, map-running, map-due, map-after}

-- the table says this map, and is whole
pub record Meets (s : Table) (r : Running) : Type 0 where
  pub view : map_of s ≡ r
  pub whole : IsWhole s

meets : (s t : Table) (r : Running) → s ≡ t → map_of t ≡ r → IsWhole t → Meets s r
meets s t r same view whole = record { view = ap map_of same ∙ view; whole = subst IsWhole (sym same) whole }

-- ---- a call on one name, once its place is known

abbrev place_for : TimerName → Table → Option ℕ
place_for name t = place_of (named_sets t.counts) name

-- what is left at that place is left to the name
left-at : (o : Option ℕ) (name : TimerName) (t : Table) → o ≡ place_for name t → (place : ℕ) → o ≡ Some place → get_or t.left place None ≡ left_to name t
left-at o name t e place f = at (has_place name t) refl (sym e ∙ f)
  where
    at : (b : Bool) → has_place name t ≡ b → cond b (Some (place_in (named_sets t.counts) name)) None ≡ Some place → get_or t.left place None ≡ left_to name t
    at true h e = ap (λ p. get_or t.left p None) (sym (same_Some _ _ e)) ∙ sym (left-there name t h)
    at false h e = absurd cc

none-left : (name : TimerName) (t : Table) → place_for name t ≡ None → left_to name t ≡ None
none-left name t e = at (has_place name t) refl e
  where
    at : (b : Bool) → has_place name t ≡ b → cond b (Some (place_in (named_sets t.counts) name)) None ≡ None → left_to name t ≡ None
    at true h e = absurd cc
    at false h e = left-absent name t h

pub place_fits : (place : ℕ) (name : TimerName) (t : Table) → IsWhole t → Some place ≡ place_for name t → place < length t.left
place_fits place name t w e = at (has_place name t) refl (sym e)
  where
    at : (b : Bool) → has_place name t ≡ b → cond b (Some (place_in (named_sets t.counts) name)) None ≡ Some place → place < length t.left
    at true h e = subst (λ p. p < length t.left) (same_Some _ _ e) (within name t w h)
    at false h e = absurd cc

-- a place that is started, in a table
pub started : (b : Bool) (t : Table) (place : ℕ) (left : Option ℕ) → record t { left = cond b t.left (slice_set t.left place left) } ≡ cond b t (put place left t)
started true t place left = refl
started false t place left = refl

pub set_meets : (o : Option ℕ) (name : TimerName) (ticks : ℕ) (t s : Table) → IsWhole t → has_place name t ≡ has_name t.counts name → o ≡ place_for name t → s ≡ put_at o (Some (max 1 ticks)) t
    → Meets s (set_timer name ticks (map_of t))
set_meets o name ticks t s w has e f =
    meets s (put_in name (Some (max 1 ticks)) t) (set_timer name ticks (map_of t)) (f ∙ ap (λ o. put_at o (Some (max 1 ticks)) t) e) (map-set name ticks t w has)
    (whole-put_at (place_for name t) (Some (max 1 ticks)) t w)

pub clear_meets : (o : Option ℕ) (name : TimerName) (t s : Table) → IsWhole t → o ≡ place_for name t → s ≡ put_at o None t → Meets s (clear_timer name (map_of t))
clear_meets o name t s w e f =
    meets s (put_in name None t) (clear_timer name (map_of t)) (f ∙ ap (λ o. put_at o None t) e) (map-clear name t w) (whole-put_at (place_for name t) None t w)

abbrev start_in : TimerName → ℕ → Table → Table
start_in name left t = cond (is_some (left_to name t)) t (put_in name (Some left) t)

start-is : (o : Option ℕ) (name : TimerName) (left : ℕ) (t : Table) → o ≡ place_for name t → start_at o left t ≡ start_in name left t
start-is (Some place) name left t e =
    ap (λ v. cond (is_some v) t (put place (Some left) t)) (left-at (Some place) name t e place refl)
    ∙ ap (λ o. cond (is_some (left_to name t)) t (put_at o (Some left) t)) e
start-is None name left t e =
    sym (ap (λ v. cond (is_some v) t (put_in name (Some left) t)) (none-left name t (sym e)) ∙ ap (λ o. put_at o (Some left) t) (sym e))

pub start_meets : (o : Option ℕ) (name : TimerName) (ticks : ℕ) (t s : Table) → IsWhole t → has_place name t ≡ has_name t.counts name → o ≡ place_for name t → s ≡ start_at o (max 1 ticks) t
    → Meets s (start_unless_running name ticks (map_of t))
start_meets o name ticks t s w has e f =
    meets s (start_in name (max 1 ticks) t) (start_unless_running name ticks (map_of t)) (f ∙ start-is o name (max 1 ticks) t e) (map-start name ticks t w has) (whole (is_some (left_to name t)))
  where
    whole : (b : Bool) → IsWhole (cond b t (put_in name (Some (max 1 ticks)) t))
    whole true = w
    whole false = whole-put_at (place_for name t) (Some (max 1 ticks)) t w

pub running_at : (o : Option ℕ) (name : TimerName) (t : Table) → o ≡ place_for name t → (place : ℕ) → o ≡ Some place → is_some (get_or t.left place None) ≡ is_running name (map_of t)
running_at o name t e place f = ap is_some (left-at o name t e place f) ∙ map-running name t

pub running_nowhere : (name : TimerName) (t : Table) → place_for name t ≡ None → false ≡ is_running name (map_of t)
running_nowhere name t e = ap is_some (sym (none-left name t e)) ∙ map-running name t

-- ---- a tick

pub tick_meets : (t s : Table) → IsWhole t → s ≡ ticked_in t → Meets s (ticked (map_of t))
tick_meets t s w f = meets s (ticked_in t) (ticked (map_of t)) f (map-ticked t) (whole-ticked t w)

-- ---- what is due

pub due_named : (o : Option ℕ) (t : Table) → IsWhole t → o ≡ due_place t → option_map (name_at (named_sets t.counts)) o ≡ due_name (map_of t)
due_named o t w e = ap (option_map (name_at (named_sets t.counts))) e ∙ map-due t w

pub due_meets : (o : Option ℕ) (t s : Table) → IsWhole t → o ≡ due_place t → s ≡ put_at o None t → Meets s (after_due (map_of t))
due_meets o t s w e f = meets s (after_due_in t) (after_due (map_of t)) (f ∙ ap (λ o. put_at o None t) e) (map-after t w) (whole-put_at (due_place t) None t w)
