-- The flows that change their set are counted: each has its place, and counting again changes nothing.
use Rattle.exchange_rules.proofs.Basics.{◌≡◌, ◌≤◌, ◌<◌, ◌+◌, ◌-◌, ◌^◌, ℕ, zero, suc, Bool, true, false, ◌&&◌, not, nat_eq, eq-eqb, List, [], ◌∷◌, length, replicate, slice_index_or, Option, Some, None, refl, ap, sym, subst, ◌∙◌, arith, min, drop, option_map, ⊎_elim, cases_lt, get_or_past, get_or-replicate, length-replicate, true≢false}
use Rattle.exchange_rules.proofs.Definitions.{Configuration, Facts, Node, WholeQueues, whole, Outgoing, SendsStatus, SendsMessage, Acknowledges, SendsNothing, goes_out, without_owed, after_sending, after_take, link_at, facts, network_of, chosen_link, first_state, SELECTIONS, set_of}
use Rattle.exchange_rules.specs.State.{Reroutings}
use Rattle.exchange_rules.specs.Reroutings.{set_taken, last_set, is_direct, is_rerouted, one_if, last_sets_from, changes_from, all_last_sets_from, all_changes_from, counted, first_reroutings, set_before}
use Rattle.node_links.proofs.Serving.{facts_alike, serving_none}
use Rattle.routes.proofs.InService.{chosen_serves}
use Rattle.exchange_rules.proofs.Lists.{each-replicate}

pub nothing-and : (n : ℕ) → 0 + n ≡ n
nothing-and n = omega arith

-- ---- counting again

last-again : (before now : Option ℕ) → last_set (last_set before now) now ≡ last_set before now
last-again before None = refl
last-again before (Some set) = refl

same-set : (set : ℕ) → nat_eq set set ≡ true
same-set set = eq-eqb set set refl

-- a flow that goes by its last set, or by none, isn't rerouted
pub stays : (c : Configuration) (destination : ℕ) (before now : Option ℕ) → last_set before now ≡ before → is_rerouted c destination before now ≡ false
stays c destination None now e = refl
stays c destination (Some before) None e = refl
stays c destination (Some before) (Some now) e =
    subst (λ (o : Option ℕ). is_rerouted c destination (Some before) o ≡ false) (sym e)
    (ap (λ (b : Bool). not b && not (is_direct c before destination)) (same-set before))

module _ (c : Configuration) (f : Facts) where
  pub row-again : (destination sls : ℕ) (row : List (Option ℕ)) → last_sets_from c f destination sls (last_sets_from c f destination sls row) ≡ last_sets_from c f destination sls row
  row-again destination sls [] = refl
  row-again destination sls (before ∷ others) = rw (last-again before (set_taken c f destination sls), row-again destination (sls + 1) others)

  pub rows-again : (destination : ℕ) (rows : List (List (Option ℕ))) → all_last_sets_from c f destination (all_last_sets_from c f destination rows) ≡ all_last_sets_from c f destination rows
  rows-again destination [] = refl
  rows-again destination (row ∷ others) = rw (row-again destination 0 row, rows-again (destination + 1) others)

  -- where nothing is written, nothing is counted
  pub row-quiet : (destination sls : ℕ) (row : List (Option ℕ)) → last_sets_from c f destination sls row ≡ row → changes_from c f destination sls row ≡ 0
  row-quiet destination sls [] e = refl
  row-quiet destination sls (before ∷ others) e =
      let now : Option ℕ = set_taken c f destination sls in
      let here : last_set before now ≡ before = cc in
      let rest : last_sets_from c f destination (sls + 1) others ≡ others = cc in
      rw (stays c destination before now here, row-quiet destination (sls + 1) others rest)

  pub rows-quiet : (destination : ℕ) (rows : List (List (Option ℕ))) → all_last_sets_from c f destination rows ≡ rows → all_changes_from c f destination rows ≡ 0
  rows-quiet destination [] e = refl
  rows-quiet destination (row ∷ others) e =
      let here : last_sets_from c f destination 0 row ≡ row = cc in
      let rest : all_last_sets_from c f (destination + 1) others ≡ others = cc in
      rw (row-quiet destination 0 row here, rows-quiet (destination + 1) others rest)

  least-again : (times more limit : ℕ) → more ≡ 0 → min (min times limit + more) limit ≡ min times limit
  least-again times more limit e = omega (arith, e)

  least : (times more limit : ℕ) → more ≡ 0 → times ≤ limit → min (times + more) limit ≡ times
  least times more limit e l = omega (arith, e, l)

  pub counted-quiet : (r : Reroutings) → all_last_sets_from c f 0 r.last_sets ≡ r.last_sets → r.times ≤ 2 ^ 64 - 1 → counted c f r ≡ r
  counted-quiet r e l =
      ap (λ (sets : List (List (Option ℕ))). record { last_sets = sets; times = min (r.times + all_changes_from c f 0 r.last_sets) (2 ^ 64 - 1) }) e
      ∙ ap (λ (n : ℕ). record { last_sets = r.last_sets; times = n }) (least r.times _ (2 ^ 64 - 1) (rows-quiet 0 r.last_sets e) l)

  most : (n limit : ℕ) → min n limit ≤ limit
  most n limit = omega arith

  pub counted-again : (r : Reroutings) → counted c f (counted c f r) ≡ counted c f r
  counted-again r =
      counted-quiet (counted c f r) (rows-again 0 r.last_sets) (most (r.times + all_changes_from c f 0 r.last_sets) (2 ^ 64 - 1))

  -- ---- where no flow has a link

  row-none : (destination sls : ℕ) (row : List (Option ℕ)) → ((other : ℕ) → set_taken c f destination other ≡ None) → last_sets_from c f destination sls row ≡ row
  row-none destination sls [] none = refl
  row-none destination sls (before ∷ others) none =
      rw (ap (λ (now : Option ℕ). last_set before now) (none sls), row-none destination (sls + 1) others none)

  pub rows-none : (destination : ℕ) (rows : List (List (Option ℕ))) → ((about sls : ℕ) → set_taken c f about sls ≡ None) → all_last_sets_from c f destination rows ≡ rows
  rows-none destination [] none = refl
  rows-none destination (row ∷ others) none = rw (row-none destination 0 row (none destination), rows-none (destination + 1) others none)

  -- ---- each flow has its place

  row-at : (destination sls : ℕ) (row : List (Option ℕ)) (place : ℕ) → place < length row
      → slice_index_or (last_sets_from c f destination sls row) place None ≡ last_set (slice_index_or row place None) (set_taken c f destination (sls + place))
  row-at destination sls [] place there = absurd (omega (arith, there))
  row-at destination sls (before ∷ others) zero there =
      let same : sls + 0 ≡ sls = omega arith in
      ap (λ (other : ℕ). last_set before (set_taken c f destination other)) (sym same)
  row-at destination sls (before ∷ others) (suc place) there =
      let next : (sls + 1) + place ≡ sls + suc place = omega arith in
      row-at destination (sls + 1) others place (omega (arith, there))
      ∙ ap (λ (other : ℕ). last_set (slice_index_or others place None) (set_taken c f destination other)) next

  pub rows-at : (destination : ℕ) (rows : List (List (Option ℕ))) (about : ℕ) → about < length rows
      → slice_index_or (all_last_sets_from c f destination rows) about [] ≡ last_sets_from c f (destination + about) 0 (slice_index_or rows about [])
  rows-at destination [] about there = absurd (omega (arith, there))
  rows-at destination (row ∷ others) zero there =
      let same : destination + 0 ≡ destination = omega arith in
      ap (λ (other : ℕ). last_sets_from c f other 0 row) (sym same)
  rows-at destination (row ∷ others) (suc about) there =
      let next : (destination + 1) + about ≡ destination + suc about = omega arith in
      rows-at (destination + 1) others about (omega (arith, there))
      ∙ ap (λ (other : ℕ). last_sets_from c f other 0 (slice_index_or others about [])) next

  pub set-at : (r : Reroutings) (destination sls : ℕ) → destination < length r.last_sets → sls < length (slice_index_or r.last_sets destination [])
      → set_before (counted c f r) destination sls ≡ last_set (set_before r destination sls) (set_taken c f destination sls)
  set-at r destination sls there has =
      let row : List (Option ℕ) = slice_index_or r.last_sets destination [] in
      ap (λ (sets : List (Option ℕ)). slice_index_or sets sls None) (rows-at 0 r.last_sets destination there)
      ∙ ap (λ (about : ℕ). slice_index_or (last_sets_from c f about 0 row) sls None) (nothing-and destination)
      ∙ row-at destination 0 row sls has
      ∙ ap (λ (other : ℕ). last_set (slice_index_or row sls None) (set_taken c f destination other)) (nothing-and sls)

  -- ---- where nothing is counted, no flow is rerouted

  no-change : (b : Bool) (n : ℕ) → one_if b + n ≡ 0 → (b ≡ false) × (n ≡ 0)
  no-change true n e = absurd (omega (arith, e))
  no-change false n e = (refl, sym (nothing-and n) ∙ e)

  row-kept : (destination sls : ℕ) (row : List (Option ℕ)) (place : ℕ) → changes_from c f destination sls row ≡ 0
      → is_rerouted c destination (slice_index_or row place None) (set_taken c f destination (sls + place)) ≡ false
  row-kept destination sls [] place e = refl
  row-kept destination sls (before ∷ others) zero e =
      let same : sls + 0 ≡ sls = omega arith in
      let parts = no-change (is_rerouted c destination before (set_taken c f destination sls)) (changes_from c f destination (sls + 1) others) e in
      ap (λ (other : ℕ). is_rerouted c destination before (set_taken c f destination other)) same ∙ parts.0
  row-kept destination sls (before ∷ others) (suc place) e =
      let next : (sls + 1) + place ≡ sls + suc place = omega arith in
      let parts = no-change (is_rerouted c destination before (set_taken c f destination sls)) (changes_from c f destination (sls + 1) others) e in
      sym (ap (λ (other : ℕ). is_rerouted c destination (slice_index_or others place None) (set_taken c f destination other)) next)
      ∙ row-kept destination (sls + 1) others place parts.1

  rows-kept : (destination : ℕ) (rows : List (List (Option ℕ))) (about sls : ℕ) → all_changes_from c f destination rows ≡ 0
      → is_rerouted c (destination + about) (slice_index_or (slice_index_or rows about []) sls None) (set_taken c f (destination + about) sls) ≡ false
  rows-kept destination [] about sls e = refl
  rows-kept destination (row ∷ others) zero sls e =
      let same : destination + 0 ≡ destination = omega arith in
      let here : changes_from c f destination 0 row ≡ 0 = omega (arith, e) in
      ap (λ (other : ℕ). is_rerouted c other (slice_index_or row sls None) (set_taken c f other sls)) same
      ∙ sym (ap (λ (other : ℕ). is_rerouted c destination (slice_index_or row sls None) (set_taken c f destination other)) (nothing-and sls))
      ∙ row-kept destination 0 row sls here
  rows-kept destination (row ∷ others) (suc about) sls e =
      let next : (destination + 1) + about ≡ destination + suc about = omega arith in
      let rest : all_changes_from c f (destination + 1) others ≡ 0 = omega (arith, e) in
      sym (ap (λ (other : ℕ). is_rerouted c other (slice_index_or (slice_index_or others about []) sls None) (set_taken c f other sls)) next)
      ∙ rows-kept (destination + 1) others about sls rest

  none-counted : (times more limit : ℕ) → times < limit → min (times + more) limit ≡ times → more ≡ 0
  none-counted times more limit l e = omega (arith, l, e)

  pub flow-kept : (r : Reroutings) (destination sls : ℕ) → r.times < 2 ^ 64 - 1 → (counted c f r).times ≡ r.times
      → is_rerouted c destination (set_before r destination sls) (set_taken c f destination sls) ≡ false
  flow-kept r destination sls l e =
      sym (ap (λ (about : ℕ). is_rerouted c about (set_before r destination sls) (set_taken c f about sls)) (nothing-and destination))
      ∙ rows-kept 0 r.last_sets destination sls (none-counted r.times (all_changes_from c f 0 r.last_sets) (2 ^ 64 - 1) l e)

  -- ---- the count never falls

  grown : (times more limit : ℕ) → times ≤ limit → (times ≤ min (times + more) limit) × (min (times + more) limit ≤ limit)
  grown times more limit l = (omega (arith, l), omega arith)

  pub never-falls : (r : Reroutings) → r.times ≤ 2 ^ 64 - 1 → (r.times ≤ (counted c f r).times) × ((counted c f r).times ≤ 2 ^ 64 - 1)
  never-falls r l = grown r.times (all_changes_from c f 0 r.last_sets) (2 ^ 64 - 1) l

  -- ---- places stay

  row-places : (destination sls : ℕ) (row : List (Option ℕ)) → length (last_sets_from c f destination sls row) ≡ length row
  row-places destination sls [] = refl
  row-places destination sls (before ∷ others) = ap suc (row-places destination (sls + 1) others)

  pub rows-places : (destination : ℕ) (rows : List (List (Option ℕ))) → length (all_last_sets_from c f destination rows) ≡ length rows
  rows-places destination [] = refl
  rows-places destination (row ∷ others) = ap suc (rows-places (destination + 1) others)

-- there is a place for each flow
pub record HasFlows (c : Configuration) (r : Reroutings) : Type 0 where
  pub rows : length r.last_sets ≡ length c.destinations
  pub places : (destination : ℕ) → destination < length c.destinations → length (slice_index_or r.last_sets destination []) ≡ SELECTIONS

pub counted-flows : (c : Configuration) (f : Facts) (r : Reroutings) → HasFlows c r → HasFlows c (counted c f r)
counted-flows c f r h = record {
  rows = rows-places c f 0 r.last_sets ∙ h.rows;
  places = λ destination there.
      ap (λ (row : List (Option ℕ)). length row) (rows-at c f 0 r.last_sets destination (omega (arith, there, h.rows)))
      ∙ row-places c f (0 + destination) 0 (slice_index_or r.last_sets destination [])
      ∙ h.places destination there;
}

-- a place at which a flow went by a set is there
some-there : {A : Type 0} (xs : List (Option A)) (place : ℕ) (x : A) → slice_index_or xs place None ≡ Some x → place < length xs
some-there xs place x e =
    ⊎_elim (λ l. l) (λ past. let none = sym (get_or_past xs place None past) ∙ e in absurd cc) (cases_lt place (length xs))

pub set-there : (r : Reroutings) (destination sls set : ℕ) → set_before r destination sls ≡ Some set
    → (destination < length r.last_sets) × (sls < length (slice_index_or r.last_sets destination []))
set-there r destination sls set e = (
  ⊎_elim (λ l. l) (λ past. let none = sym (ap (λ (row : List (Option ℕ)). slice_index_or row sls None) (get_or_past r.last_sets destination [] past)) ∙ e in absurd cc)
      (cases_lt destination (length r.last_sets)),
  some-there (slice_index_or r.last_sets destination []) sls set e,
)

-- ---- a take changes no route, and at first no flow has a link

after_sending-facts : (c : Configuration) (link : ℕ) (out : Outgoing) (n : Node WholeQueues) → facts c (after_sending whole c link n out).parts ≡ facts c n.parts
after_sending-facts c link (SendsStatus status) n =
    facts_alike (network_of c n.parts) link (record (link_at n.parts link) { waiting = drop 1 (link_at n.parts link).waiting }) refl
after_sending-facts c link (SendsMessage next) n = facts_alike (network_of c n.parts) link (without_owed (link_at n.parts link)) refl
after_sending-facts c link Acknowledges n = facts_alike (network_of c n.parts) link (without_owed (link_at n.parts link)) refl
after_sending-facts c link SendsNothing n = refl

pub take-facts : (c : Configuration) (link : ℕ) (n : Node WholeQueues) → facts c (after_take whole c link n).parts ≡ facts c n.parts
take-facts c link n = after_sending-facts c link (goes_out whole c link n) n

-- so what was counted stays so
pub take-rerouting : (c : Configuration) (link : ℕ) (n : Node WholeQueues) (r : Reroutings) → counted c (facts c n.parts) r ≡ r
    → counted c (facts c (after_take whole c link n).parts) r ≡ r
take-rerouting c link n r e = ap (λ (f : Facts). counted c f r) (take-facts c link n) ∙ e

first-chosen : (c : Configuration) (destination sls : ℕ) → chosen_link (facts c (first_state c).node.parts) destination sls ≡ None
first-chosen c destination sls = by (chosen_link (facts c (first_state c).node.parts) destination sls) refl
  where
    first : Facts
    first = facts c (first_state c).node.parts

    out : (link : ℕ) → slice_index_or first.in_service link false ≡ false
    out link =
        ap (λ (bs : List Bool). slice_index_or bs link false) (serving_none (length c.links))
        ∙ each-replicate (λ (b : Bool). b ≡ false) (length c.links) link false refl

    by : (o : Option ℕ) → chosen_link first destination sls ≡ o → o ≡ None
    by None e = refl
    by (Some link) e = absurd (true≢false (sym (chosen_serves first destination sls link e) ∙ out link))

pub first-taken : (c : Configuration) (destination sls : ℕ) → set_taken c (facts c (first_state c).node.parts) destination sls ≡ None
first-taken c destination sls = ap (λ (o : Option ℕ). option_map (set_of c) o) (first-chosen c destination sls)

pub first-rerouting : (c : Configuration) → counted c (facts c (first_state c).node.parts) (first_reroutings c) ≡ first_reroutings c
first-rerouting c =
    let f : Facts = facts c (first_state c).node.parts in
    counted-quiet c f (first_reroutings c) (rows-none c f 0 (first_reroutings c).last_sets (first-taken c)) (omega arith)

rows-replicate : (n : ℕ) (row : List (Option ℕ)) (place : ℕ) → place < n → slice_index_or (replicate n row) place [] ≡ row
rows-replicate n row place there = get_or-replicate n place row [] there

pub first-flows : (c : Configuration) → HasFlows c (first_reroutings c)
first-flows c = record {
  rows = length-replicate (length c.destinations) (replicate SELECTIONS None);
  places = λ destination there.
      ap (λ (row : List (Option ℕ)). length row) (rows-replicate (length c.destinations) (replicate SELECTIONS None) destination there)
      ∙ length-replicate {A = Option ℕ} SELECTIONS None;
}

-- at first none went by a set
pub none-before : (c : Configuration) (destination sls : ℕ) → set_before (first_reroutings c) destination sls ≡ None
none-before c destination sls = rows-unset (length c.destinations) destination
  where
    no_sets : List (Option ℕ)
    no_sets = replicate SELECTIONS None

    rows-unset : (many place : ℕ) → slice_index_or (slice_index_or (replicate many no_sets) place []) sls None ≡ None
    rows-unset zero place = refl
    rows-unset (suc many) zero = each-replicate (λ (o : Option ℕ). o ≡ None) SELECTIONS sls None refl
    rows-unset (suc many) (suc place) = rows-unset many place
