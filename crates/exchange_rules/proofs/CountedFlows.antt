-- How many flows are counted as rerouted: as many as there are of which that holds.
use Rattle.exchange_rules.proofs.Basics.{◌≡◌, ◌<◌, ◌+◌, ℕ, suc, Bool, true, false, cond, List, [], ◌∷◌, length, slice_index_or, Option, None, refl, ap, sym, subst, ◌∙◌, arith, count_by, sum_by-cons, sum_by-append}
use Rattle.exchange_rules.proofs.Definitions.{Configuration, Facts, SELECTIONS}
use Rattle.exchange_rules.proofs.Lists.{sum_by-map}
use Rattle.exchange_rules.proofs.Reroutings.{nothing-and, HasFlows}
use Rattle.exchange_rules.specs.State.{Reroutings}
use Rattle.exchange_rules.specs.Reroutings.{set_taken, is_rerouted, one_if, changes_from, all_changes_from, set_before}
use Rattle.flow_hold.specs.Holds.{NodeFlow, flows_to, flows, passes}
use Rattle.std.specs.List.{flat_map, range_with_len}

one-or-none : (b : Bool) → one_if b ≡ cond b 1 0
one-or-none true = refl
one-or-none false = refl

-- the flows to a destination
to-one : (test : (destination sls : ℕ) → Bool) (destination : ℕ) → count_by (passes test) (flows_to destination) ≡ count_by (test destination) (range_with_len 0 SELECTIONS)
to-one test destination =
    sum_by-map (λ (flow : NodeFlow). cond (passes test flow) 1 0) (λ (sls : ℕ). record { destination = destination; sls = sls }) (range_with_len 0 SELECTIONS)

still : (b : Bool) (n : ℕ) → b ≡ false → n ≡ 0 → one_if b + n ≡ 0
still true n e z = absurd cc
still false n e z = nothing-and n ∙ z

module _ (c : Configuration) (f : Facts) where
  -- ---- a flow is counted exactly if it is rerouted

  -- whether a test says of each flow from a selection on, or from a destination on, whether it is rerouted
  abbrev TellsRow : (test : ℕ → Bool) (destination sls : ℕ) → List (Option ℕ) → Type 0
  TellsRow test destination sls row =
      (place : ℕ) → test (sls + place) ≡ is_rerouted c destination (slice_index_or row place None) (set_taken c f destination (sls + place))

  abbrev TellsRows : (test : (destination sls : ℕ) → Bool) (first : ℕ) → List (List (Option ℕ)) → Type 0
  TellsRows test first rows =
      (about sls : ℕ)
      → test (first + about) sls ≡ is_rerouted c (first + about) (slice_index_or (slice_index_or rows about []) sls None) (set_taken c f (first + about) sls)

  row-counts : (test : ℕ → Bool) (destination sls : ℕ) (row : List (Option ℕ)) → TellsRow test destination sls row
      → changes_from c f destination sls row ≡ count_by test (range_with_len sls (length row))
  row-counts test destination sls [] tells = refl
  row-counts test destination sls (before ∷ others) tells =
      let others_from : List ℕ = range_with_len (sls + 1) (length others) in
      let same : sls + 0 ≡ sls = omega arith in
      let here : test sls ≡ is_rerouted c destination before (set_taken c f destination sls) =
      subst (λ (other : ℕ). test other ≡ is_rerouted c destination before (set_taken c f destination other)) same (tells 0) in
      let rest : changes_from c f destination (sls + 1) others ≡ count_by test others_from =
      row-counts test destination (sls + 1) others
      (λ place.
      let next : sls + suc place ≡ (sls + 1) + place = omega arith in
      subst (λ (other : ℕ). test other ≡ is_rerouted c destination (slice_index_or others place None) (set_taken c f destination other)) next (tells (suc place))) in
      ap (λ (n : ℕ). one_if (is_rerouted c destination before (set_taken c f destination sls)) + n) rest
      ∙ ap (λ (b : Bool). one_if b + count_by test others_from) (sym here)
      ∙ ap (λ (n : ℕ). n + count_by test others_from) (one-or-none (test sls))
      ∙ sym (sum_by-cons (λ (other : ℕ). cond (test other) 1 0) sls others_from)

  rows-count : (test : (destination sls : ℕ) → Bool) (first : ℕ) (rows : List (List (Option ℕ)))
      → ((about : ℕ) → about < length rows → length (slice_index_or rows about []) ≡ SELECTIONS) → TellsRows test first rows
      → all_changes_from c f first rows ≡ count_by (passes test) (flat_map flows_to (range_with_len first (length rows)))
  rows-count test first [] full tells = refl
  rows-count test first (row ∷ others) full tells =
      let others_from : List NodeFlow = flat_map flows_to (range_with_len (first + 1) (length others)) in
      let same : first + 0 ≡ first = omega arith in
      let here : changes_from c f first 0 row ≡ count_by (test first) (range_with_len 0 (length row)) =
      row-counts (test first) first 0 row
      (λ place.
      subst (λ (sls : ℕ). test first sls ≡ is_rerouted c first (slice_index_or row place None) (set_taken c f first sls)) (sym (nothing-and place))
      (subst (λ (about : ℕ). test about place ≡ is_rerouted c about (slice_index_or row place None) (set_taken c f about place)) same (tells 0 place))) in
      let rest : all_changes_from c f (first + 1) others ≡ count_by (passes test) others_from =
      rows-count test (first + 1) others (λ about there. full (suc about) (omega (arith, there)))
      (λ about sls.
      let next : first + suc about ≡ (first + 1) + about = omega arith in
      subst (λ (other : ℕ). test other sls ≡ is_rerouted c other (slice_index_or (slice_index_or others about []) sls None) (set_taken c f other sls)) next (tells (suc about) sls)) in
      ap (λ (n : ℕ). changes_from c f first 0 row + n) rest
      ∙ ap (λ (n : ℕ). n + count_by (passes test) others_from)
      (here ∙ ap (λ (n : ℕ). count_by (test first) (range_with_len 0 n)) (full 0 (omega arith)) ∙ sym (to-one test first))
      ∙ sym (sum_by-append (λ (flow : NodeFlow). cond (passes test flow) 1 0) (flows_to first) others_from)

  pub all-counted : (test : (destination sls : ℕ) → Bool) (r : Reroutings) → HasFlows c r
      → ((destination sls : ℕ) → test destination sls ≡ is_rerouted c destination (set_before r destination sls) (set_taken c f destination sls))
      → all_changes_from c f 0 r.last_sets ≡ count_by (passes test) (flows (length c.destinations))
  unfolding flows
  all-counted test r h tells =
      rows-count test 0 r.last_sets (λ about there. h.places about (omega (arith, there, h.rows)))
      (λ about sls.
      subst (λ (other : ℕ). test other sls ≡ is_rerouted c other (set_before r about sls) (set_taken c f other sls)) (sym (nothing-and about)) (tells about sls))
      ∙ ap (λ (n : ℕ). count_by (passes test) (flat_map flows_to (range_with_len 0 n))) h.rows

  -- ---- where no flow is rerouted, none is counted

  row-still : (destination sls : ℕ) (row : List (Option ℕ)) → TellsRow (λ other. false) destination sls row → changes_from c f destination sls row ≡ 0
  row-still destination sls [] tells = refl
  row-still destination sls (before ∷ others) tells =
      let same : sls + 0 ≡ sls = omega arith in
      still (is_rerouted c destination before (set_taken c f destination sls)) (changes_from c f destination (sls + 1) others)
      (sym (subst (λ (other : ℕ). false ≡ is_rerouted c destination before (set_taken c f destination other)) same (tells 0)))
      (row-still destination (sls + 1) others
      (λ place.
      let next : sls + suc place ≡ (sls + 1) + place = omega arith in
      subst (λ (other : ℕ). false ≡ is_rerouted c destination (slice_index_or others place None) (set_taken c f destination other)) next (tells (suc place))))

  both-none : (n m : ℕ) → n ≡ 0 → m ≡ 0 → n + m ≡ 0
  both-none n m e z = omega (arith, e, z)

  rows-still : (first : ℕ) (rows : List (List (Option ℕ))) → TellsRows (λ other sls. false) first rows → all_changes_from c f first rows ≡ 0
  rows-still first [] tells = refl
  rows-still first (row ∷ others) tells =
      let same : first + 0 ≡ first = omega arith in
      both-none (changes_from c f first 0 row) (all_changes_from c f (first + 1) others)
      (row-still first 0 row
      (λ place.
      subst (λ (sls : ℕ). false ≡ is_rerouted c first (slice_index_or row place None) (set_taken c f first sls)) (sym (nothing-and place))
      (subst (λ (about : ℕ). false ≡ is_rerouted c about (slice_index_or row place None) (set_taken c f about place)) same (tells 0 place))))
      (rows-still (first + 1) others
      (λ about sls.
      let next : first + suc about ≡ (first + 1) + about = omega arith in
      subst (λ (other : ℕ). false ≡ is_rerouted c other (slice_index_or (slice_index_or others about []) sls None) (set_taken c f other sls)) next (tells (suc about) sls)))

  pub none-counted : (r : Reroutings) → ((destination sls : ℕ) → is_rerouted c destination (set_before r destination sls) (set_taken c f destination sls) ≡ false)
      → all_changes_from c f 0 r.last_sets ≡ 0
  none-counted r each =
      rows-still 0 r.last_sets
      (λ about sls.
      subst (λ (other : ℕ). false ≡ is_rerouted c other (set_before r about sls) (set_taken c f other sls)) (sym (nothing-and about)) (sym (each about sls)))
