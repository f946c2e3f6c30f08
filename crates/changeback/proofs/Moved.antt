-- The flows that a link takes over are those that are moved to it.
use Rattle.changeback.proofs.Basics.{◌≡◌, ◌≢◌, ℕ, zero, suc, ◌<◌, ◌≤◌, Bool, true, false, ◌&&◌, not, [], ◌∷◌, length, refl, ap, sym, ◌∙◌, subst, arith, nat_eq, nat_lt, ◌-◌, inl, inr, if◌then◌else◌, Option, Some, None, Contains, nat_tests, Contains-get_or, Contains-append_left, Contains-append_right, Contains-append_cases, Facts, chosen_link, former_link, SELECTIONS, FlowChange, former_link_of, change_from, changes_of, changes, returned, IsMoved, each_is_moved, each_moved_is_found}

-- the one flow of a list
only : (x c : FlowChange) → Contains (x ∷ []) c → x ≡ c
only x c (zero, l, e) = e
only x c (suc k, l, e) = absurd (omega (arith, l))

none : (c : FlowChange) → Contains {X = FlowChange} [] c → ⊥
none c (k, l, e) = omega (arith, l)

-- ---- each flow that is taken over is moved

module _ (to : ℕ) (before after : Facts) where
  one-moved : (destination sls from now : ℕ) (test : Bool) → destination < length after.routes → sls < SELECTIONS
      → chosen_link before destination sls ≡ Some from → chosen_link after destination sls ≡ Some now
      → (nat_eq now to && not (nat_eq from to)) ≡ test
      → (c : FlowChange) → Contains (change_from destination sls (if test then Some from else None)) c → IsMoved to before after c
  one-moved destination sls from now true there selection was is e c h =
      let is_to : now ≡ to = grind (arith, nat_tests, e) in
      subst (IsMoved to before after) (only (record { destination = destination; sls = sls; from = from }) c h) (record {
        there = there;
        selection = selection;
        was = was;
        is = is ∙ ap Some is_to;
        other = λ same. grind (arith, nat_tests, e, same);
      })
  one-moved destination sls from now false there selection was is e c h = absurd (none c h)

  flow-moved : (destination sls : ℕ) (b a : Option ℕ) → destination < length after.routes → sls < SELECTIONS
      → chosen_link before destination sls ≡ b → chosen_link after destination sls ≡ a
      → (c : FlowChange) → Contains (change_from destination sls (former_link to b a)) c → IsMoved to before after c
  flow-moved destination sls (Some from) (Some now) there selection was is c h = one-moved destination sls from now _ there selection was is refl c h
  flow-moved destination sls (Some from) None there selection was is c h = absurd (none c h)
  flow-moved destination sls None a there selection was is c h = absurd (none c h)

  moved-to : (destination count : ℕ) → destination < length after.routes → count ≤ SELECTIONS
      → (c : FlowChange) → Contains (changes_of to before after destination count) c → IsMoved to before after c
  unfolding changes_of
  moved-to destination zero there few c h = absurd (none c h)
  moved-to destination (suc count) there few c h =
      elim (Contains-append_cases (changes_of to before after destination count) _ c h) [
        | inl earlier ↦ moved-to destination count there (omega (arith, few)) c earlier
        | inr last ↦ flow-moved destination count _ _ there (omega (arith, few)) refl refl c last
      ]

  moved-all : (count : ℕ) → count ≤ length after.routes → (c : FlowChange) → Contains (changes to before after count) c → IsMoved to before after c
  unfolding changes
  moved-all zero few c h = absurd (none c h)
  moved-all (suc count) few c h =
      elim (Contains-append_cases (changes to before after count) _ c h) [
        | inl earlier ↦ moved-all count (omega (arith, few)) c earlier
        | inr last ↦ moved-to count SELECTIONS (omega (arith, few)) (omega arith) c last
      ]

  -- ---- each flow that is moved is taken over

  here : (c : FlowChange) (b a : Option ℕ) → b ≡ Some c.from → a ≡ Some to → c.from ≢ to → Contains (change_from c.destination c.sls (former_link to b a)) c
  here c b a was is other =
      let test : (nat_eq to to && not (nat_eq c.from to)) ≡ true = grind (arith, nat_tests, other) in
      subst (λ (o : Option ℕ). Contains (change_from c.destination c.sls o) c)
      (sym (ap (λ (b : Option ℕ). former_link to b a) was ∙ ap (λ (a : Option ℕ). former_link to (Some c.from) a) is
      ∙ ap (λ (t : Bool). if t then Some c.from else None) test))
      (0, omega arith, refl)

  found-to : (c : FlowChange) → IsMoved to before after c → (count : ℕ) (earlier : Bool) → c.sls < count → nat_lt c.sls (count - 1) ≡ earlier → Contains (changes_of to before after c.destination count) c
  unfolding changes_of
  found-to c moved zero earlier l e = absurd (omega (arith, l))
  found-to c moved (suc count) true l e = Contains-append_left _ _ c (found-to c moved count _ (grind (arith, nat_tests, e)) refl)
  found-to c moved (suc count) false l e =
      let same : c.sls ≡ count = grind (arith, nat_tests, e, l) in
      Contains-append_right (changes_of to before after c.destination count) _ c
      (subst (λ (n : ℕ). Contains (change_from c.destination n (former_link_of to before after c.destination n)) c) same
      (here c _ _ moved.was moved.is moved.other))

  found-all : (c : FlowChange) → IsMoved to before after c → (count : ℕ) (earlier : Bool) → c.destination < count → nat_lt c.destination (count - 1) ≡ earlier → Contains (changes to before after count) c
  unfolding changes
  found-all c moved zero earlier l e = absurd (omega (arith, l))
  found-all c moved (suc count) true l e = Contains-append_left _ _ c (found-all c moved count _ (grind (arith, nat_tests, e)) refl)
  found-all c moved (suc count) false l e =
      let same : c.destination ≡ count = grind (arith, nat_tests, e, l) in
      Contains-append_right (changes to before after count) _ c
      (subst (λ (n : ℕ). Contains (changes_of to before after n SELECTIONS) c) same (found-to c moved SELECTIONS _ moved.selection refl))

pub moved_of : (to : ℕ) (before after : Facts) (c : FlowChange) → Contains (returned to before after) c → IsMoved to before after c
moved_of to before after c h = moved-all to before after (length after.routes) (omega arith) c h

pub each_moved : each_is_moved
each_moved to before after k d l = moved-all to before after (length after.routes) (omega arith) _ (Contains-get_or (returned to before after) k d l)

pub each_found : each_moved_is_found
each_found to before after c moved = found-all to before after c moved (length after.routes) _ moved.there refl
