-- One more flow to a destination whose route changes its status.
use Rattle.changeback.proofs.Basics.{◌≡◌, ℕ, zero, suc, ◌+◌, ◌<◌, Bool, true, false, ◌||◌, cond, List, [], ◌∷◌, ◌++◌, length, slice_index_or, refl, ap, sym, ◌∙◌, arith, add-one, Option, None, nat_lt, filter, range_with_len, nat_tests, map-id, filter_of_map_range_with_len_more, Facts, chosen_link, Reroute, SELECTIONS, HoldSet, with_hold, is_other_link, changes_link, rerouted, moved_from, held_for}

-- ---- the flows

one_more : (p : ℕ → Bool) (n : ℕ) → filter p (range_with_len 0 (n + 1)) ≡ filter p (range_with_len 0 n) ++ cond (p n) (n ∷ []) []
one_more p n =
    ap (λ (xs : List ℕ). filter p xs) (sym (map-id (range_with_len 0 (n + 1))))
    ∙ filter_of_map_range_with_len_more p (λ x. x) 0 n n (omega arith)
    ∙ ap (λ (xs : List ℕ). filter p xs ++ cond (p n) (n ∷ []) []) (map-id (range_with_len 0 n))

-- two tests that agree on the first numbers
agreed : (p q : ℕ → Bool) (n : ℕ) → ((i : ℕ) → i < n → p i ≡ q i) → filter p (range_with_len 0 n) ≡ filter q (range_with_len 0 n)
agreed p q zero h = refl
agreed p q (suc n) h =
    ap (λ (m : ℕ). filter p (range_with_len 0 m)) (sym (add-one n))
    ∙ one_more p n
    ∙ ap (λ (xs : List ℕ). xs ++ cond (p n) (n ∷ []) []) (agreed p q n (λ i l. h i (omega (arith, l))))
    ∙ ap (λ (b : Bool). filter q (range_with_len 0 n) ++ cond b (n ∷ []) []) (h n (omega arith))
    ∙ sym (one_more q n)
    ∙ ap (λ (m : ℕ). filter q (range_with_len 0 m)) (add-one n)

pub none_moved : (links : List (Option ℕ)) (after : Facts) (destination : ℕ) → moved_from links after destination 0 ≡ []
unfolding moved_from
none_moved links after destination = refl

more_moved : (links : List (Option ℕ)) (after : Facts) (destination count : ℕ)
    → moved_from links after destination (count + 1)
    ≡ moved_from links after destination count ++ cond (is_other_link (slice_index_or links count None) (chosen_link after destination count)) (count ∷ []) []
unfolding moved_from
more_moved links after destination count = one_more (λ sls. is_other_link (slice_index_or links sls None) (chosen_link after destination sls)) count

-- the links from before are those of the facts from before
pub moved_alike : (links : List (Option ℕ)) (before after : Facts) (destination : ℕ)
    → ((sls : ℕ) → sls < SELECTIONS → slice_index_or links sls None ≡ chosen_link before destination sls)
    → moved_from links after destination SELECTIONS ≡ rerouted before after destination
unfolding moved_from rerouted
moved_alike links before after destination h =
    agreed (λ sls. is_other_link (slice_index_or links sls None) (chosen_link after destination sls)) (changes_link before after destination) SELECTIONS
    (λ sls l. ap (λ (o : Option ℕ). is_other_link o (chosen_link after destination sls)) (h sls l))

-- ---- the holds

held_for-append : (destination : ℕ) (xs ys : List ℕ) (t : HoldSet) → held_for destination (xs ++ ys) t ≡ held_for destination ys (held_for destination xs t)
held_for-append destination [] ys t = refl
held_for-append destination (x ∷ xs) ys t = held_for-append destination xs ys (with_hold t (Reroute destination) destination x)

pub held_more : (links : List (Option ℕ)) (after : Facts) (destination count : ℕ) (other : Bool) (t0 t1 t2 : HoldSet)
    → other ≡ is_other_link (slice_index_or links count None) (chosen_link after destination count)
    → t1 ≡ held_for destination (moved_from links after destination count) t0
    → t2 ≡ held_for destination (cond other (count ∷ []) []) t1
    → t2 ≡ held_for destination (moved_from links after destination (count + 1)) t0
held_more links after destination count other t0 t1 t2 is f g =
    g
    ∙ ap (λ (t : HoldSet). held_for destination (cond other (count ∷ []) []) t) f
    ∙ sym (held_for-append destination (moved_from links after destination count) (cond other (count ∷ []) []) t0)
    ∙ ap (λ (b : Bool). held_for destination (moved_from links after destination count ++ cond b (count ∷ []) []) t0) is
    ∙ ap (λ (xs : List ℕ). held_for destination xs t0)
    (sym (more_moved links after destination count))

-- ---- whether there is such a flow

positive : (n : ℕ) → nat_lt 0 (suc n) ≡ true
positive n = grind (arith, nat_tests)

some_more : (xs : List ℕ) (b : Bool) (n : ℕ) → nat_lt 0 (length (xs ++ cond b (n ∷ []) [])) ≡ (nat_lt 0 (length xs) || b)
some_more (x ∷ xs) b n = positive _ ∙ sym (ap (λ (t : Bool). t || b) (positive (length xs)))
some_more [] true n = refl
some_more [] false n = refl

pub moved_more : (links : List (Option ℕ)) (after : Facts) (destination count : ℕ) (moved other : Bool)
    → other ≡ is_other_link (slice_index_or links count None) (chosen_link after destination count)
    → moved ≡ nat_lt 0 (length (moved_from links after destination count))
    → (moved || other) ≡ nat_lt 0 (length (moved_from links after destination (count + 1)))
moved_more links after destination count moved other is e =
    ap (λ (b : Bool). b || other) e
    ∙ ap (λ (b : Bool). nat_lt 0 (length (moved_from links after destination count)) || b) is
    ∙ sym (some_more (moved_from links after destination count) (is_other_link (slice_index_or links count None) (chosen_link after destination count)) count)
    ∙ ap (λ (xs : List ℕ). nat_lt 0 (length xs))
    (sym (more_moved links after destination count))
