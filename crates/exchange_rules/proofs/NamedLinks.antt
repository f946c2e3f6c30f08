-- A signalling link code names one link of the set to a point.
use Rattle.exchange_rules.proofs.Basics.{refl, ◌≡◌, ◌<◌, ℕ, Bool, true, false, ◌&&◌, cond, zero, suc, List, [], ◌∷◌, Option, Some, None, length, nat_eq, nat_lt, get_or, ap, ◌∙◌, arith, AllByRecursion, IsDistinct, position_or_len, option_and_then, nat_tests, position_or_len_is}
use Rattle.exchange_rules.proofs.Definitions.{Configuration, set_place, destination_place, IsWell, is_same_code, is_same_point, is_set_to_same_point, entry_of, set_of, adjacent_of, peer_of, point_of, link_in_set, link_with_code}
use Rattle.std.proofs.Common.{position}
use Rattle.exchange_rules.proofs.Onward.{link-set}

-- ---- the index of an element in a list whose elements differ

all-at : {X : Type 0} (same : X → X → Bool) (x : X) (xs : List X) (k : ℕ) (d : X) → AllByRecursion (λ y. same x y ≡ false) xs → k < length xs → same x (get_or xs k d) ≡ false
all-at same x [] k d h l = absurd (omega (arith, l))
all-at same x (y ∷ ys) zero d h l = h.0
all-at same x (y ∷ ys) (suc k) d h l = all-at same x ys k d h.1 (omega (arith, l))

-- of two elements at different places
differ-at : {X : Type 0} (same : X → X → Bool) (xs : List X) (k i : ℕ) (d : X) → IsDistinct same xs → k < i → i < length xs → same (get_or xs k d) (get_or xs i d) ≡ false
unfolding IsDistinct
differ-at same [] k i d h l there = absurd (omega (arith, there))
differ-at same (x ∷ xs) k zero d h l there = absurd (omega (arith, l))
differ-at same (x ∷ xs) zero (suc i) d h l there = all-at same x xs i d h.0 (omega (arith, there))
differ-at same (x ∷ xs) (suc k) (suc i) d h l there = differ-at same xs k i d h.1 (omega (arith, l)) (omega (arith, there))

-- an element is found by a test that tells it from all others
pub found-at : {X : Type 0} (same : X → X → Bool) (p : X → Bool) (xs : List X) (i : ℕ) (d : X)
    → IsDistinct same xs → i < length xs → ((x : X) → p x ≡ same x (get_or xs i d)) → p (get_or xs i d) ≡ true → position p xs ≡ Some i
found-at same p xs i d h there agrees here =
    let before : (k : ℕ) → k < i → p (get_or xs k d) ≡ false = λ k l. agrees (get_or xs k d) ∙ differ-at same xs k i d h l there in
    let at : position_or_len p xs ≡ i = position_or_len_is p xs i d (omega (arith, there)) before (λ _. here) in
    let within : nat_lt i (length xs) ≡ true = grind (arith, nat_tests, there) in
    ap (λ (n : ℕ). cond {A = Option ℕ} (nat_lt n (length xs)) (Some n) None) at
    ∙ ap (λ (b : Bool). cond {A = Option ℕ} b (Some i) None) within

same-turned : (m n : ℕ) → nat_eq m n ≡ nat_eq n m
same-turned m n = grind (arith, nat_tests)

same-self : (m : ℕ) → nat_eq m m ≡ true
same-self m = grind (arith, nat_tests)

both-self : (m n : ℕ) → (nat_eq m m && nat_eq n n) ≡ true
both-self m n = rw (same-self m, same-self n) refl

-- ---- the settings

module _ (c : Configuration) (well : IsWell c) where
  -- the point that a set leads to names the set
  pub set-named : (set : ℕ) → set < length c.sets → set_place c (adjacent_of c set) ≡ Some set
  set-named set there =
      found-at is_set_to_same_point (λ s. nat_eq (adjacent_of c set) s.adjacent) c.sets set (record { name = []; adjacent = 0 }) well.adjacent_points_differ there
      (λ s. same-turned (adjacent_of c set) s.adjacent) (same-self (adjacent_of c set))

  -- a destination's point names the destination
  pub destination-named : (destination : ℕ) → destination < length c.destinations → destination_place c (point_of c destination) ≡ Some destination
  destination-named destination there =
      found-at is_same_point (λ d. nat_eq (point_of c destination) d.point) c.destinations destination (record { point = 0; sets = []; joined = false }) well.points_differ there
      (λ d. same-turned (point_of c destination) d.point) (same-self (point_of c destination))

  -- the code of a link names it in its set
  pub code-named : (link : ℕ) → link < length c.links → link_in_set c (entry_of c link).slc (set_of c link) ≡ Some link
  code-named link there =
      found-at is_same_code (λ l. nat_eq l.set (set_of c link) && nat_eq l.slc (entry_of c link).slc) c.links link (record { name = []; set = 0; slc = 0; share = None }) well.link_codes_differ there
      (λ l. refl) (both-self (set_of c link) (entry_of c link).slc)

  -- and the point that the link leads to, with its code, names it
  pub link-named : (link : ℕ) → link < length c.links → link_with_code c (peer_of c link) (entry_of c link).slc ≡ Some link
  link-named link there =
      ap (option_and_then (link_in_set c (entry_of c link).slc)) (set-named (set_of c link) (link-set c well link)) ∙ code-named link there
