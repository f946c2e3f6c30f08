-- The first row that doesn't come before a key is of that key, or there is none.
use Rattle.sccp_relay.proofs.Basics.{both_ways, false_from_ne_true, ◌≡◌, ℕ, zero, suc, ◌<◌, ◌≤◌, Bool, true, false, List, [], ◌∷◌, length, get_or, refl, sym, ap, subst, ◌∙◌, inl, inr, arith, and_parts, cases_eq, cases_lt, eqb-true, eq-eqb, get_or_default, list_any_at, list_any_none, list_any, is_lt, nat_cmp, ordering_then, slice_cmp, Ordering, Less, Equal, TitleKey, TitleEntry, IsOrdered, place_of, row_place, place_order, is_before, has_key}
use Rattle.sccp_relay.proofs.RowOrder.{Splits, each-at}

record Key (key : TitleKey) (row : TitleEntry) : Type 0 where
  pub translation : row.translation ≡ key.translation
  pub plan : row.plan ≡ key.plan
  pub nature : row.nature ≡ key.nature

of-key : (key : TitleKey) (row : TitleEntry) → has_key key row ≡ true → Key key row
of-key key row e =
    let two = and_parts _ _ e in
    let first = and_parts _ _ two.0 in
    record { translation = eqb-true _ _ first.0; plan = eqb-true _ _ first.1; nature = eqb-true _ _ two.1 }

key-true : (key : TitleKey) (row : TitleEntry) → Key key row → has_key key row ≡ true
key-true key row s = rw (eq-eqb row.translation key.translation s.translation, eq-eqb row.plan key.plan s.plan, eq-eqb row.nature key.nature s.nature) refl

-- ---- a row of the key doesn't come before it

itself : (n : ℕ) → nat_cmp n n ≡ Equal
itself n = grind arith

none-less : (digits : List ℕ) → is_lt (slice_cmp nat_cmp digits []) ≡ false
none-less [] = refl
none-less (d ∷ digits) = refl

not-before : (key : TitleKey) (row : TitleEntry) → Key key row → is_before (place_of key []) row ≡ false
not-before key row s =
    rw (s.translation, s.plan, s.nature, itself key.translation, itself key.plan, itself key.nature) (none-less row.digits)

-- ---- a row between the key and a row of it is of it

record Ties (x y : ℕ) (a b : Ordering) : Type 0 where
  pub same : x ≡ y
  pub above : is_lt a ≡ false
  pub below : b ≡ Less

tied : (x y : ℕ) (a b : Ordering) (o : Ordering) → nat_cmp x y ≡ o → is_lt (ordering_then o a) ≡ false → ordering_then o b ≡ Less → Ties x y a b
tied x y a b Equal e f g = record { same = grind (arith, e); above = f; below = g }
tied x y a b o e f g = absurd cc

between-parts : (t p n t' p' n' : ℕ) (ds ds' : List ℕ) → is_lt (place_order (t' ∷ p' ∷ n' ∷ ds') (t ∷ p ∷ n ∷ [])) ≡ false
    → place_order (t' ∷ p' ∷ n' ∷ ds') (t ∷ p ∷ n ∷ ds) ≡ Less → (t' ≡ t) × (p' ≡ p) × (n' ≡ n)
between-parts t p n t' p' n' ds ds' e f =
    let one = tied t' t _ _ (nat_cmp t' t) refl e f in
    let two = tied p' p _ _ (nat_cmp p' p) refl one.above one.below in
    let three = tied n' n _ _ (nat_cmp n' n) refl two.above two.below in
    (one.same, two.same, three.same)

between : (key : TitleKey) (row other : TitleEntry) → is_before (place_of key []) row ≡ false → Key key other → place_order (row_place row) (row_place other) ≡ Less → Key key row
between key row other e s less =
    let at : place_order (row_place row) (key.translation ∷ key.plan ∷ key.nature ∷ other.digits) ≡ Less =
    subst (λ (t : ℕ). place_order (row_place row) (t ∷ key.plan ∷ key.nature ∷ other.digits) ≡ Less) s.translation
    (subst (λ (p : ℕ). place_order (row_place row) (other.translation ∷ p ∷ key.nature ∷ other.digits) ≡ Less) s.plan
    (subst (λ (n : ℕ). place_order (row_place row) (other.translation ∷ other.plan ∷ n ∷ other.digits) ≡ Less) s.nature less)) in
    let parts = between-parts key.translation key.plan key.nature row.translation row.plan row.nature other.digits row.digits e at in
    record { translation = parts.0; plan = parts.1; nature = parts.2 }

-- ---- whether a row is of the key

far : (rows : List TitleEntry) (i k : ℕ) (d : TitleEntry) → IsOrdered rows → i < k → k < length rows → place_order (row_place (get_or rows i d)) (row_place (get_or rows k d)) ≡ Less
far [] i k d h lt le = absurd (omega (arith, le))
far (row ∷ rows) i zero d h lt le = absurd (omega (arith, lt))
far (row ∷ rows) zero (suc k) d h lt le = each-at _ rows h.0 k d (omega (arith, le))
far (row ∷ rows) (suc i) (suc k) d h lt le = far rows i k d h.1 (omega (arith, lt)) (omega (arith, le))

not-early : (key : TitleKey) (rows : List TitleEntry) (at k : ℕ) (d : TitleEntry) → Splits (place_of key []) rows at → Key key (get_or rows k d) → at ≤ k
not-early key rows at k d split s =
    elim (cases_lt k at) [
      | inr late ↦ late
      | inl early ↦ absurd (both_ways _ (not-before key (get_or rows k d) s) (split.0 k d (omega arith) early))
    ]

none-of : (key : TitleKey) (rows : List TitleEntry) → ((k : ℕ) (d : TitleEntry) → k < length rows → Key key (get_or rows k d) → ⊥) → list_any (has_key key) rows ≡ false
none-of key rows h = list_any_none (has_key key) rows (λ k d lt. false_from_ne_true _ (λ t. h k d lt (of-key key (get_or rows k d) t)))

pub none-at-end : (key : TitleKey) (rows : List TitleEntry) (at : ℕ) → Splits (place_of key []) rows at → length rows ≤ at → list_any (has_key key) rows ≡ false
none-at-end key rows at split end = none-of key rows (λ k d lt s. let le = not-early key rows at k d split s in omega (arith, le, lt, end))

none-there : (key : TitleKey) (rows : List TitleEntry) (at k : ℕ) (d : TitleEntry) → IsOrdered rows → Splits (place_of key []) rows at → at < length rows → k < length rows
    → has_key key (get_or rows at d) ≡ false → Key key (get_or rows k d) → ⊥
none-there key rows at k d h split lt le other_key s =
    elim (cases_eq at k) [
      | inl here ↦ both_ways _ other_key (key-true key (get_or rows at d) (rw here s))
      | inr other ↦
          let early = not-early key rows at k d split s in
          let row = between key (get_or rows at d) (get_or rows k d) (split.1 at d (omega arith) lt) s (far rows at k d h (omega (arith, early, other)) le) in
          both_ways _ other_key (key-true key (get_or rows at d) row)
    ]

any-if : (key : TitleKey) (rows : List TitleEntry) (at : ℕ) (row : TitleEntry) (t : Bool) → IsOrdered rows → Splits (place_of key []) rows at → at < length rows
    → row ≡ get_or rows at row → has_key key row ≡ t → t ≡ list_any (has_key key) rows
any-if key rows at row true h split lt e is =
    sym (list_any_at (has_key key) rows at row lt (ap (has_key key) (sym e) ∙ is))
any-if key rows at row false h split lt e is =
    sym (none-of key rows (λ k d le s.
    none-there key rows at k d h split lt le (ap (has_key key) (get_or_default rows at d row lt ∙ sym e) ∙ is) s))

pub any-at : (key : TitleKey) (rows : List TitleEntry) (at : ℕ) (row : TitleEntry) → IsOrdered rows → Splits (place_of key []) rows at → at < length rows
    → row ≡ get_or rows at row → has_key key row ≡ list_any (has_key key) rows
any-at key rows at row h split lt e = any-if key rows at row (has_key key row) h split lt e refl
