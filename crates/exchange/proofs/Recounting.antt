-- The flows to one destination are counted after the other: to count all of them then is to count all of them at first.
use Rattle.exchange.proofs.Basics.{◌≡◌, ◌≢◌, ◌<◌, ◌≤◌, ◌+◌, ◌-◌, ℕ, zero, suc, Bool, true, false, nat_eq, if◌then◌else◌, List, [], ◌∷◌, length, Option, None, refl, ap, sym, subst, ◌∙◌, arith, slice_index_or, slice_set, drop, drop_all, get_or_past, get_or-set_same, get_or-set_other, length-set, inl, inr, eqb_tells, leb_tells, Configuration, Facts, facts, State}
use Rattle.std.specs.Prelude.{◌^◌, min}
use Rattle.std.proofs.lemmas.List.{drop_more}
use Rattle.exchange_rules.specs.State.{Reroutings}
use Rattle.exchange_rules.specs.Exchange.{leaving}
use Rattle.exchange_rules.specs.Reroutings.{set_taken, last_set, is_rerouted, one_if, last_sets_from, changes_from, all_last_sets_from, all_changes_from, counted}
use Rattle.exchange_rules.proofs.Reroutings.{row-again, row-quiet, rows-at, counted-quiet, nothing-and, rows-places}
use Rattle.exchange.specs.DueFlows.{is_due, is_any_due, with_due, row_of, row_counted, with_reroutings, IsCounted, CountedBut, IsCountedBelow}
use Rattle.exchange.specs.declared.reroutings.DueFlows.{DueFlows}
use Rattle.exchange.specs.declared.reroutings.DueFlows.TheVariants.{Nothing, To, All}

module _ (c : Configuration) (f : Facts) where
  -- ---- one row

  sets-after : (first : ℕ) (rows : List (List (Option ℕ))) (place : ℕ)
      → all_last_sets_from c f first (slice_set rows place (last_sets_from c f (first + place) 0 (slice_index_or rows place []))) ≡ all_last_sets_from c f first rows
  sets-after first [] place = refl
  sets-after first (row ∷ others) zero =
      let same : first + 0 ≡ first = omega arith in
      ap (λ (about : ℕ). last_sets_from c f first 0 (last_sets_from c f about 0 row) ∷ all_last_sets_from c f (first + 1) others) same
      ∙ ap (λ (sets : List (Option ℕ)). sets ∷ all_last_sets_from c f (first + 1) others) (row-again c f first 0 row)
  sets-after first (row ∷ others) (suc place) =
      let next : first + suc place ≡ (first + 1) + place = omega arith in
      ap (λ (about : ℕ). last_sets_from c f first 0 row ∷ all_last_sets_from c f (first + 1) (slice_set others place (last_sets_from c f about 0 (slice_index_or others place [])))) next
      ∙ ap (λ (sets : List (List (Option ℕ))). last_sets_from c f first 0 row ∷ sets) (sets-after (first + 1) others place)

  changes-after : (first : ℕ) (rows : List (List (Option ℕ))) (place : ℕ)
      → all_changes_from c f first (slice_set rows place (last_sets_from c f (first + place) 0 (slice_index_or rows place []))) + changes_from c f (first + place) 0 (slice_index_or rows place [])
      ≡ all_changes_from c f first rows
  changes-after first [] place = refl
  changes-after first (row ∷ others) zero =
      let same : first + 0 ≡ first = omega arith in
      let rest : ℕ = all_changes_from c f (first + 1) others in
      ap (λ (about : ℕ). (changes_from c f first 0 (last_sets_from c f about 0 row) + rest) + changes_from c f about 0 row) same
      ∙ ap (λ (n : ℕ). (n + rest) + changes_from c f first 0 row) (row-quiet c f first 0 (last_sets_from c f first 0 row) (row-again c f first 0 row))
      ∙ around rest (changes_from c f first 0 row)
    where
      around : (n m : ℕ) → (0 + n) + m ≡ m + n
      around n m = omega arith
  changes-after first (row ∷ others) (suc place) =
      let next : first + suc place ≡ (first + 1) + place = omega arith in
      ap (λ (about : ℕ). (changes_from c f first 0 row + all_changes_from c f (first + 1) (slice_set others place (last_sets_from c f about 0 (slice_index_or others place [])))) + changes_from c f about 0 (slice_index_or others place [])) next
      ∙ grouped (changes_from c f first 0 row) (all_changes_from c f (first + 1) (slice_set others place (last_sets_from c f ((first + 1) + place) 0 (slice_index_or others place [])))) (changes_from c f ((first + 1) + place) 0 (slice_index_or others place []))
      ∙ ap (λ (n : ℕ). changes_from c f first 0 row + n) (changes-after (first + 1) others place)
    where
      grouped : (n m k : ℕ) → (n + m) + k ≡ n + (m + k)
      grouped n m k = omega arith

  summed : (times here rest all limit : ℕ) → rest + here ≡ all → min (min (times + here) limit + rest) limit ≡ min (times + all) limit
  summed times here rest all limit e = omega (arith, e)

  -- all flows are counted after those to one destination
  pub counted-after : (destination : ℕ) (r : Reroutings) → counted c f (row_counted c f destination r) ≡ counted c f r
  counted-after destination r =
      let row : List (Option ℕ) = row_of r destination in
      let next : List (List (Option ℕ)) = slice_set r.last_sets destination (last_sets_from c f destination 0 row) in
      let sets : all_last_sets_from c f 0 next ≡ all_last_sets_from c f 0 r.last_sets =
      sym (ap (λ (about : ℕ). all_last_sets_from c f 0 (slice_set r.last_sets destination (last_sets_from c f about 0 row))) (nothing-and destination))
      ∙ sets-after 0 r.last_sets destination in
      let changes : all_changes_from c f 0 next + changes_from c f destination 0 row ≡ all_changes_from c f 0 r.last_sets =
      sym (ap (λ (about : ℕ). all_changes_from c f 0 (slice_set r.last_sets destination (last_sets_from c f about 0 row)) + changes_from c f about 0 row) (nothing-and destination))
      ∙ changes-after 0 r.last_sets destination in
      ap (λ (rows : List (List (Option ℕ))). record { last_sets = rows; times = min (min (r.times + changes_from c f destination 0 row) (2 ^ 64 - 1) + all_changes_from c f 0 next) (2 ^ 64 - 1) }) sets
      ∙ ap (λ (n : ℕ). record { last_sets = all_last_sets_from c f 0 r.last_sets; times = n })
      (summed r.times (changes_from c f destination 0 row) (all_changes_from c f 0 next) (all_changes_from c f 0 r.last_sets) (2 ^ 64 - 1) changes)

  -- they are counted now, and those to others stay as they were
  pub row-counted : (r : Reroutings) (destination : ℕ) → destination < length r.last_sets → IsCounted c f (row_counted c f destination r) destination
  row-counted r destination there =
      subst (λ (row : List (Option ℕ)). last_sets_from c f destination 0 row ≡ row)
      (sym (get_or-set_same r.last_sets destination (last_sets_from c f destination 0 (row_of r destination)) [] there))
      (row-again c f destination 0 (row_of r destination))

  pub others-counted : (r : Reroutings) (destination other : ℕ) → destination ≢ other → IsCounted c f r other → IsCounted c f (row_counted c f destination r) other
  others-counted r destination other apart h =
      subst (λ (row : List (Option ℕ)). last_sets_from c f other 0 row ≡ row)
      (sym (get_or-set_other r.last_sets destination other (last_sets_from c f destination 0 (row_of r destination)) [] (λ same. apart (sym same)))) h

  -- a destination that isn't there has no flows
  pub past-counted : (r : Reroutings) (destination : ℕ) → length r.last_sets ≤ destination → IsCounted c f r destination
  past-counted r destination past =
      subst (λ (row : List (Option ℕ)). last_sets_from c f destination 0 row ≡ row) (sym (get_or_past r.last_sets destination [] past)) refl

  -- ---- all rows

  rows-counted : (first : ℕ) (rows : List (List (Option ℕ))) → ((place : ℕ) → last_sets_from c f (first + place) 0 (slice_index_or rows place []) ≡ slice_index_or rows place [])
      → all_last_sets_from c f first rows ≡ rows
  rows-counted first [] each = refl
  rows-counted first (row ∷ others) each =
      let same : first + 0 ≡ first = omega arith in
      ap (λ (sets : List (Option ℕ)). sets ∷ all_last_sets_from c f (first + 1) others)
      (sym (ap (λ (about : ℕ). last_sets_from c f about 0 row) same) ∙ each 0)
      ∙ ap (λ (sets : List (List (Option ℕ))). row ∷ sets)
      (rows-counted (first + 1) others (λ place.
      let next : (first + 1) + place ≡ first + suc place = omega arith in
      ap (λ (about : ℕ). last_sets_from c f about 0 (slice_index_or others place [])) next ∙ each (suc place)))

  -- where all flows were counted, to count them changes nothing
  pub all-counted : (r : Reroutings) → r.times ≤ 2 ^ 64 - 1 → ((destination : ℕ) → IsCounted c f r destination) → counted c f r ≡ r
  all-counted r few each =
      counted-quiet c f r
      (rows-counted 0 r.last_sets (λ place. ap (λ (about : ℕ). last_sets_from c f about 0 (slice_index_or r.last_sets place [])) (nothing-and place) ∙ each place)) few

  -- and once they were, each was
  pub each-counted : (r : Reroutings) (destination : ℕ) → IsCounted c f (counted c f r) destination
  each-counted r destination =
      elim (leb_tells (length r.last_sets) destination) [
        | inl past ↦ past-counted (counted c f r) destination (subst (λ (n : ℕ). n ≤ destination) (sym (rows-places c f 0 r.last_sets)) past.1)
        | inr there ↦
            subst (λ (row : List (Option ℕ)). last_sets_from c f destination 0 row ≡ row)
            (sym (rows-at c f 0 r.last_sets destination there.1 ∙ ap (λ (about : ℕ). last_sets_from c f about 0 (row_of r destination)) (nothing-and destination)))
            (row-again c f destination 0 (row_of r destination))
      ]

  most : (n limit : ℕ) → min n limit ≤ limit
  most n limit = omega arith

  pub few-counted : (r : Reroutings) → (counted c f r).times ≤ 2 ^ 64 - 1
  few-counted r = most (r.times + all_changes_from c f 0 r.last_sets) (2 ^ 64 - 1)

  pub few-row : (r : Reroutings) (destination : ℕ) → (row_counted c f destination r).times ≤ 2 ^ 64 - 1
  few-row r destination = most (r.times + changes_from c f destination 0 (row_of r destination)) (2 ^ 64 - 1)

  -- ---- what was due

  -- none was
  pub none-due : (r : Reroutings) → CountedBut c Nothing f r → counted c f r ≡ r
  none-due r h = all-counted r h.few (λ destination. h.counted destination refl)

  pub nothing-due : (due : DueFlows) (r : Reroutings) → is_any_due due ≡ false → CountedBut c due f r → counted c f r ≡ r
  nothing-due Nothing r out h = none-due r h
  nothing-due (To its) r out h = absurd cc
  nothing-due All r out h = absurd cc

  -- those to one destination, which is there
  one-each : (destination : ℕ) (r : Reroutings) → CountedBut c (To destination) f r → destination < length c.destinations
      → (other : ℕ) → IsCounted c f (row_counted c f destination r) other
  one-each destination r h there other =
      elim (eqb_tells destination other) [
        | inl same ↦
            subst (λ (about : ℕ). IsCounted c f (row_counted c f destination r) about) same.1
            (row-counted r destination (subst (λ (n : ℕ). destination < n) (sym h.rows) there))
        | inr apart ↦ others-counted r destination other apart.1 (h.counted other apart.0)
      ]

  pub one-due : (destination : ℕ) (r : Reroutings) → CountedBut c (To destination) f r → destination < length c.destinations
      → row_counted c f destination r ≡ counted c f r
  one-due destination r h there =
      sym (all-counted (row_counted c f destination r) (few-row r destination) (one-each destination r h there)) ∙ counted-after destination r

  -- or which isn't
  past-each : (destination : ℕ) (r : Reroutings) → CountedBut c (To destination) f r → length c.destinations ≤ destination → (other : ℕ) → IsCounted c f r other
  past-each destination r h past other =
      elim (eqb_tells destination other) [
        | inl same ↦ subst (λ (about : ℕ). IsCounted c f r about) same.1 (past-counted r destination (subst (λ (n : ℕ). n ≤ destination) (sym h.rows) past))
        | inr apart ↦ h.counted other apart.0
      ]

  pub past-due : (destination : ℕ) (r : Reroutings) → CountedBut c (To destination) f r → length c.destinations ≤ destination → counted c f r ≡ r
  past-due destination r h past = all-counted r h.few (past-each destination r h past)

  -- those to one destination are counted, whatever is due
  pub row-but : (due : DueFlows) (destination : ℕ) (r : Reroutings) → CountedBut c due f r → destination < length c.destinations → CountedBut c due f (row_counted c f destination r)
  row-but due destination r h there = record {
    rows = length-set r.last_sets destination (last_sets_from c f destination 0 (row_of r destination)) ∙ h.rows;
    few = few-row r destination;
    counted = λ other out.
        elim (eqb_tells destination other) [
          | inl same ↦
              subst (λ (about : ℕ). IsCounted c f (row_counted c f destination r) about) same.1
              (row-counted r destination (subst (λ (n : ℕ). destination < n) (sym h.rows) there))
          | inr apart ↦ others-counted r destination other apart.1 (h.counted other out)
        ];
  }

  -- after all were, none is due
  pub counted-but : (r : Reroutings) → length r.last_sets ≡ length c.destinations → CountedBut c Nothing f (counted c f r)
  counted-but r rows = record {
    rows = rows-places c f 0 r.last_sets ∙ rows;
    few = few-counted r;
    counted = λ destination out. each-counted r destination;
  }

-- ---- one flow after the other

module _ (c : Configuration) (f : Facts) (destination : ℕ) where
  change-next : (sls : ℕ) (row : List (Option ℕ)) → sls < length row
      → changes_from c f destination sls (drop sls row)
      ≡ one_if (is_rerouted c destination (slice_index_or row sls None) (set_taken c f destination sls)) + changes_from c f destination (sls + 1) (drop (sls + 1) row)
  change-next sls row there = ap (λ (left : List (Option ℕ)). changes_from c f destination sls left) (drop_more row sls None there)

  -- the changes so far, and those that are left, are all of them
  pub changes-next : (sls : ℕ) (row : List (Option ℕ)) (before change all : ℕ) → sls < length row
      → change ≡ one_if (is_rerouted c destination (slice_index_or row sls None) (set_taken c f destination sls))
      → before + changes_from c f destination sls (drop sls row) ≡ all → (before + change) + changes_from c f destination (sls + 1) (drop (sls + 1) row) ≡ all
  changes-next sls row before change all there is h = omega (arith, is, h, change-next sls row there)

  pub changes-done : (sls : ℕ) (row : List (Option ℕ)) (before all : ℕ) → length row ≤ sls → before + changes_from c f destination sls (drop sls row) ≡ all → before ≡ all
  changes-done sls row before all done h =
      let none : changes_from c f destination sls (drop sls row) ≡ 0 = ap (λ (left : List (Option ℕ)). changes_from c f destination sls left) (drop_all sls row done) in
      omega (arith, h, none)

  -- the sets so far
  pub sets-next : (sls : ℕ) (row sets : List (Option ℕ)) (set : Option ℕ) → sls < length sets → set ≡ last_set (slice_index_or row sls None) (set_taken c f destination sls)
      → ((s : ℕ) → s < sls → slice_index_or sets s None ≡ last_set (slice_index_or row s None) (set_taken c f destination s))
      → (s : ℕ) → s < sls + 1 → slice_index_or (slice_set sets sls set) s None ≡ last_set (slice_index_or row s None) (set_taken c f destination s)
  sets-next sls row sets set there is h s below =
      elim (eqb_tells s sls) [
        | inl same ↦
            subst (λ (its : ℕ). slice_index_or (slice_set sets sls set) its None ≡ last_set (slice_index_or row its None) (set_taken c f destination its)) (sym same.1)
            (get_or-set_same sets sls set None there ∙ is)
        | inr apart ↦ get_or-set_other sets sls s set None apart.1 ∙ h s (omega (arith, below, apart.1))
      ]

  sets-from : (first : ℕ) (row sets : List (Option ℕ)) → length sets ≡ length row
      → ((s : ℕ) → s < length row → slice_index_or sets s None ≡ last_set (slice_index_or row s None) (set_taken c f destination (first + s)))
      → sets ≡ last_sets_from c f destination first row
  sets-from first [] [] many each = refl
  sets-from first [] (set ∷ sets) many each = absurd (omega (arith, many))
  sets-from first (before ∷ row) [] many each = absurd (omega (arith, many))
  sets-from first (before ∷ row) (set ∷ sets) many each =
      let same : first + 0 ≡ first = omega arith in
      ap (λ (its : Option ℕ). its ∷ sets) (each 0 (omega arith) ∙ ap (λ (other : ℕ). last_set before (set_taken c f destination other)) same)
      ∙ ap (λ (others : List (Option ℕ)). last_set before (set_taken c f destination first) ∷ others)
      (sets-from (first + 1) row sets (omega (arith, many)) (λ s below.
      let next : first + suc s ≡ (first + 1) + s = omega arith in
      each (suc s) (omega (arith, below)) ∙ ap (λ (other : ℕ). last_set (slice_index_or row s None) (set_taken c f destination other)) next))

  pub sets-done : (row sets : List (Option ℕ)) → length sets ≡ length row
      → ((s : ℕ) → s < length row → slice_index_or sets s None ≡ last_set (slice_index_or row s None) (set_taken c f destination s))
      → sets ≡ last_sets_from c f destination 0 row
  sets-done row sets many each =
      sets-from 0 row sets many (λ s below. each s below ∙ sym (ap (λ (other : ℕ). last_set (slice_index_or row s None) (set_taken c f destination other)) (nothing-and s)))

-- ---- what becomes due

-- whatever changes, all are
pub all-due : (c : Configuration) (due : DueFlows) (f g : Facts) (r : Reroutings) → CountedBut c due f r → CountedBut c All g r
all-due c due f g r h = record { rows = h.rows; few = h.few; counted = λ destination out. absurd cc }

-- one more is: the others are as they were
due-apart : (due : DueFlows) (destination other : ℕ) → is_due (with_due destination due) other ≡ false → (destination ≢ other) × (is_due due other ≡ false)
due-apart Nothing destination other out = (λ same. unlike destination other same out, refl)
  where
    unlike : (n m : ℕ) → n ≡ m → nat_eq n m ≡ false → ⊥
    unlike n m same out = elim (eqb_tells n m) [ inl e ↦ (let is = sym e.0 ∙ out in absurd cc) | inr e ↦ e.1 same ]
due-apart (To its) destination other out = by (nat_eq its destination) refl out
  where
    by : (b : Bool) → nat_eq its destination ≡ b → is_due (if b then To its else All) other ≡ false → (destination ≢ other) × (nat_eq its other ≡ false)
    by true same out =
        elim (eqb_tells its destination) [
          | inl e ↦ (λ is. elim (eqb_tells its other) [ inl d ↦ (let no = sym d.0 ∙ out in absurd cc) | inr d ↦ d.1 (e.1 ∙ is) ], out)
          | inr e ↦ (let no = sym e.0 ∙ same in absurd cc)
        ]
    by false same out = absurd cc
due-apart All destination other out = absurd cc

pub one-more-due : (c : Configuration) (due : DueFlows) (f g : Facts) (destination : ℕ) (r : Reroutings)
    → ((other sls : ℕ) → destination ≢ other → set_taken c g other sls ≡ set_taken c f other sls) → CountedBut c due f r
    → CountedBut c (with_due destination due) g r
one-more-due c due f g destination r alike h = record {
  rows = h.rows;
  few = h.few;
  counted = λ other out.
      let apart = due-apart due destination other out in
      row-alike c f g other 0 (row_of r other) (λ sls. alike other sls apart.0) ∙ h.counted other apart.1;
}
  where
    row-alike : (c : Configuration) (f g : Facts) (destination sls : ℕ) (row : List (Option ℕ)) → ((its : ℕ) → set_taken c g destination its ≡ set_taken c f destination its)
        → last_sets_from c g destination sls row ≡ last_sets_from c f destination sls row
    row-alike c f g destination sls [] same = refl
    row-alike c f g destination sls (before ∷ others) same = rw (same sls, row-alike c f g destination (sls + 1) others same)

-- ---- one destination after the other

module _ {Q : Type 0} (old : State Q) where
  pub none-below : length old.reroutings.last_sets ≡ length old.settings.destinations → old.reroutings.times ≤ 2 ^ 64 - 1 → IsCountedBelow old 0 old
  none-below rows few = record {
    others = refl;
    same = refl;
    rows = rows;
    few = few;
    done = λ destination below. absurd (omega (arith, below));
  }

  below-next : (destination : ℕ) (r : Reroutings) → IsCountedBelow old destination (with_reroutings old r) → destination < length old.settings.destinations
      → IsCountedBelow old (destination + 1) (with_reroutings old (row_counted old.settings (facts old.settings old.node.parts) destination r))
  below-next destination r h there =
      let f : Facts = facts old.settings old.node.parts in
      record {
        others = refl;
        same = counted-after old.settings f destination r ∙ h.same;
        rows = length-set r.last_sets destination (last_sets_from old.settings f destination 0 (row_of r destination)) ∙ h.rows;
        few = few-row old.settings f r destination;
        done = λ other below.
            elim (eqb_tells destination other) [
              | inl same ↦
                  subst (λ (about : ℕ). IsCounted old.settings f (row_counted old.settings f destination r) about) same.1
                  (row-counted old.settings f r destination (subst (λ (n : ℕ). destination < n) (sym h.rows) there))
              | inr apart ↦ others-counted old.settings f r destination other apart.1 (h.done other (omega (arith, below, apart.1)))
            ];
      }

  pub one-below : (destination : ℕ) (now next : State Q) → IsCountedBelow old destination now → destination < length old.settings.destinations
      → next ≡ with_reroutings now (row_counted now.settings (facts now.settings now.node.parts) destination now.reroutings) → IsCountedBelow old (destination + 1) next
  one-below destination now next h there is =
      let r : Reroutings = now.reroutings in
      let its : next ≡ with_reroutings old (row_counted old.settings (facts old.settings old.node.parts) destination r) =
      is ∙ ap (λ (s : State Q). with_reroutings s (row_counted s.settings (facts s.settings s.node.parts) destination r)) h.others in
      subst (λ (s : State Q). IsCountedBelow old (destination + 1) s) (sym its)
      (below-next destination r (subst (λ (s : State Q). IsCountedBelow old destination s) h.others h) there)

  pub all-below : (below : ℕ) (now : State Q) → IsCountedBelow old below now → length old.settings.destinations ≤ below → now ≡ leaving old old.node
  all-below below now h done =
      let f : Facts = facts old.settings old.node.parts in
      let each : (destination : ℕ) → IsCounted old.settings f now.reroutings destination =
      λ destination. elim (leb_tells below destination) [
        | inl past ↦ past-counted old.settings f now.reroutings destination (omega (arith, past.1, done, h.rows))
        | inr there ↦ h.done destination there.1
      ] in
      h.others ∙ ap (λ (r : Reroutings). with_reroutings old r) (sym (all-counted old.settings f now.reroutings h.few each) ∙ h.same)
