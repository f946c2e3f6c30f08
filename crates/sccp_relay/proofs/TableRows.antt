-- What remains of a table with one row more or less.
use Rattle.sccp_relay.proofs.Basics.{◌≡◌, ℕ, suc, ◌<◌, ◌≤◌, Bool, true, false, cond, List, ◌∷◌, length, take, drop, sym, subst, arith, length-append, length-set, length-take, length-drop, insert, remove, set, TITLES, TitleEntry, row_place, IsOrdered, with_row, without_row, StandsAt, FitsAt}
use Rattle.sccp_relay.proofs.RowOrder.{ordered-with_row, ordered-filter}

pub record IsFine (rows : List TitleEntry) : Type 0 where
  pub ordered : IsOrdered rows
  pub fits : length rows ≤ TITLES

pub fine-added : (old lent new : List TitleEntry) (place : List ℕ) (i : ℕ) (row : TitleEntry) (ok : Bool) → IsOrdered old → length old < TITLES → lent ≡ old
    → FitsAt lent place i → row_place row ≡ place → new ≡ cond ok (insert old i row) old → IsFine new
fine-added old lent new place i row false h room same fit e n = rw n (record { ordered = h; fits = omega (arith, room) })
fine-added old lent new place i row true h room same fit e n = rw n (record {
  ordered = subst IsOrdered (sym (subst (λ (rows : List TitleEntry). insert rows i row ≡ with_row row rows) same (fit.inserted row e))) (ordered-with_row row old h);
  fits = omega (arith, room, length-append (take i old) (row ∷ drop i old), length-take i old, length-drop i old);
})

pub fine-replaced : (old lent new : List TitleEntry) (place : List ℕ) (i : ℕ) (row : TitleEntry) → IsOrdered old → length old ≤ TITLES → lent ≡ old → StandsAt lent place i
    → row_place row ≡ place → new ≡ set old i row → IsFine new
fine-replaced old lent new place i row h room same at e n = rw n (record {
  ordered = subst IsOrdered (sym (subst (λ (rows : List TitleEntry). set rows i row ≡ with_row row rows) same (at.replaced row e))) (ordered-with_row row old h);
  fits = omega (arith, room, length-set old i row);
})

pub fine-removed : (old lent new : List TitleEntry) (place : List ℕ) (i : ℕ) → IsOrdered old → length old ≤ TITLES → lent ≡ old → StandsAt lent place i → new ≡ remove old i → IsFine new
fine-removed old lent new place i h room same at n = rw n (record {
  ordered = subst IsOrdered (sym (subst (λ (rows : List TitleEntry). remove rows i ≡ without_row place rows) same at.removed)) (ordered-filter _ old h);
  fits = omega (arith, room, length-append (take i old) (drop (suc i) old), length-take i old, length-drop (suc i) old);
})
