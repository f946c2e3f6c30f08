-- The nodes that are kept, by their points, where one of them is put in the place of another at the same point.
use Rattle.std.proofs.Common.{◌≡◌, ◌≢◌, ◌<◌, ◌≤◌, ℕ, Bool, true, false, List, [], ◌∷◌, length, Option, Some, None, nat_eq, nat_lt, refl, ap, sym, ◌∙◌, arith}
use Rattle.std.specs.List.{position_or_len}
use Rattle.std.specs.Option.{option_and_then}
use Rattle.std.specs.Prelude.{if◌then◌else◌, find, position, slice_get, slice_index_or, slice_set}
use Rattle.std.proofs.Math.Seq.{map-set_same}
use Rattle.std.proofs.lemmas.Bool.Decides.{nat_tests}
use Rattle.std.proofs.lemmas.List.Folds.{find-set, find_at, find_past}
use Rattle.std.proofs.lemmas.List.Quantifiers.{position-Some}
use Rattle.std.proofs.lemmas.Option.{slice_get-get_or, slice_get_past}
use Rattle.node_world.specs.Kept.{KeptNode, is_at, node_at, place_at, points_of}

-- ---- numbers

pub equal : (m n : ℕ) → nat_eq m n ≡ true → m ≡ n
equal m n e = grind (arith, nat_tests)

unequal : (m n : ℕ) → m ≢ n → nat_eq m n ≡ false
unequal m n d = grind (arith, nat_tests, d)

pub unlike : (m n : ℕ) → nat_eq m n ≡ false → m ≢ n
unlike m n e = λ same. grind (arith, nat_tests)

pub itself-eq : (n : ℕ) → nat_eq n n ≡ true
itself-eq n = grind (arith, nat_tests)

-- ---- the first of a list that passes a test

first-so : (b : Bool) (m i : ℕ) → (if b then Some m else None) ≡ Some i → i ≡ m
first-so true m i e = cc
first-so false m i e = absurd cc

module _ {X : Type 0} (p : X → Bool) (xs : List X) where
  pub is-first : (i : ℕ) → position p xs ≡ Some i → i ≡ position_or_len p xs
  is-first i e = first-so (nat_lt (position_or_len p xs) (length xs)) (position_or_len p xs) i e

  pub found-at : (i : ℕ) (d : X) → position p xs ≡ Some i → find p xs ≡ Some (slice_index_or xs i d)
  found-at i d e =
      find_at p xs ∙ ap (slice_get xs) (sym (is-first i e)) ∙ slice_get-get_or xs i d (position-Some p xs i d e).0

  past : (b : Bool) (m count : ℕ) → nat_lt m count ≡ b → (if b then Some m else None) ≡ None → count ≤ m
  past true m count e f = absurd cc
  past false m count e f = grind (arith, nat_tests, e)

  pub found-none : position p xs ≡ None → find p xs ≡ None
  found-none e =
      find_at p xs
      ∙ slice_get_past xs (position_or_len p xs) (past (nat_lt (position_or_len p xs) (length xs)) (position_or_len p xs) (length xs) refl e)

-- ---- the node at a point

module _ (k : List KeptNode) (point place : ℕ) (d : KeptNode) (e : place_at point k ≡ Some place) where
  abbrev there : KeptNode
  there = slice_index_or k place d

  pub is-within : place < length k
  is-within = (position-Some (is_at point) k place d e).0

  pub has-point : there.exchange.settings.own ≡ point
  has-point = equal there.exchange.settings.own point (position-Some (is_at point) k place d e).1

  pub gets : slice_get k place ≡ Some there
  gets = slice_get-get_or k place d is-within

  keeps : find (is_at point) k ≡ Some there
  keeps = found-at (is_at point) k place d e

-- by its place, it is the first at the point
pub node-found : (k : List KeptNode) (point : ℕ) → node_at point k ≡ find (is_at point) k
node-found [] point = refl
node-found (n ∷ k) point = by (place_at point (n ∷ k)) refl
  where
    by : (o : Option ℕ) → place_at point (n ∷ k) ≡ o → option_and_then (slice_get (n ∷ k)) o ≡ find (is_at point) (n ∷ k)
    by None e = sym (found-none (is_at point) (n ∷ k) e)
    by (Some place) e = gets (n ∷ k) point place n e ∙ sym (keeps (n ∷ k) point place n e)

pub node-there : (k : List KeptNode) (point place : ℕ) → place_at point k ≡ Some place → node_at point k ≡ slice_get k place
node-there k point place e = ap (option_and_then (slice_get k)) e

-- ---- another node is put there, at the same point

module _ (k : List KeptNode) (point place : ℕ) (n : KeptNode) (e : place_at point k ≡ Some place) (own : n.exchange.settings.own ≡ point) where
  abbrev put : List KeptNode
  put = slice_set k place n

  at-point : is_at point n ≡ true
  at-point = ap (λ (o : ℕ). nat_eq o point) own ∙ itself-eq point

  -- it is found there
  pub found-new : node_at point put ≡ Some n
  found-new = node-found put point ∙ find-set (is_at point) k place n (is-first (is_at point) k place e) (is-within k point place n e) at-point

  -- and elsewhere nothing changes
  other-than : (other : ℕ) (m : KeptNode) → m.exchange.settings.own ≡ point → nat_eq point other ≡ false → is_at other m ≡ false
  other-than other m same d = ap (λ (o : ℕ). nat_eq o other) same ∙ d

  pub found-others : (other : ℕ) → other ≢ point → node_at other put ≡ node_at other k
  found-others other d =
      let no : nat_eq point other ≡ false = unequal point other (λ s. d (sym s)) in
      node-found put other
      ∙ find_past (is_at other) k place n n (other-than other (slice_index_or k place n) (has-point k point place n e) no) (other-than other n own no)
      ∙ sym (node-found k other)

  -- the points are as they were
  pub points-same : points_of put ≡ points_of k
  points-same = map-set_same (λ m. m.exchange.settings.own) k place n n (own ∙ sym (has-point k point place n e))
