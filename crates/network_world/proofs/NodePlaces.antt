-- The nodes that are kept, by their points, where one of them is put in the place of another for the same point.
use Rattle.std.proofs.Common.{◌≡◌, ◌≢◌, ◌<◌, ℕ, Bool, true, false, List, length, Option, Some, None, nat_eq, nat_lt, refl, ap, sym, subst, ◌∙◌, arith}
use Rattle.std.specs.List.{position_or_len}
use Rattle.std.specs.Prelude.{if◌then◌else◌, slice_get, slice_index_or, slice_set}
use Rattle.std.proofs.Math.Seq.{map-set_same}
use Rattle.std.proofs.lemmas.Bool.Decides.{nat_tests}
use Rattle.std.proofs.lemmas.List.{length-set}
use Rattle.std.proofs.lemmas.List.Folds.{find-set, find_past, position_or_len-set}
use Rattle.std.proofs.lemmas.List.Quantifiers.{position-Some}
use Rattle.std.proofs.lemmas.Option.{slice_get-get_or}
use Rattle.network_rules.specs.Networks.{NetworkNode, NetworkState}
use Rattle.network_world.specs.KeptNodes.{KeptNode}
use Rattle.network_world.specs.KeptNetworks.{is_at, kept_at, place_at, points_of}
use Rattle.network_world.specs.NetworkStands.{IsNodeAt, IsNodeOf}
use Rattle.network_world.proofs.Firsts.{found-at, found-none, is-first}

-- ---- numbers

pub equal : (m n : ℕ) → nat_eq m n ≡ true → m ≡ n
equal m n e = grind (arith, nat_tests)

unequal : (m n : ℕ) → m ≢ n → nat_eq m n ≡ false
unequal m n d = grind (arith, nat_tests, d)

pub unlike : (m n : ℕ) → nat_eq m n ≡ false → m ≢ n
unlike m n e = λ same. grind (arith, nat_tests)

pub itself-eq : (n : ℕ) → nat_eq n n ≡ true
itself-eq n = grind (arith, nat_tests)

-- ---- the node at a point

module _ (k : List KeptNode) (point : ℕ) where
  -- where its place is known
  module _ (place : ℕ) (d : KeptNode) (e : place_at point k ≡ Some place) where
    abbrev there : KeptNode
    there = slice_index_or k place d

    pub is-within : place < length k
    is-within = (position-Some (is_at point) k place d e).0

    pub has-point : there.exchange.settings.own ≡ point
    has-point = equal there.exchange.settings.own point (position-Some (is_at point) k place d e).1

    pub gets : slice_get k place ≡ Some there
    gets = slice_get-get_or k place d is-within

    pub keeps : kept_at point k ≡ Some there
    keeps = found-at (is_at point) k place d e

  -- where there is none
  pub keeps-none : place_at point k ≡ None → kept_at point k ≡ None
  keeps-none e = found-none (is_at point) k e

-- ---- another node is put there, for the same point

module _ (k : List KeptNode) (point place : ℕ) (n : KeptNode) (e : place_at point k ≡ Some place) (own : n.exchange.settings.own ≡ point) where
  abbrev set : List KeptNode
  set = slice_set k place n

  at-point : is_at point n ≡ true
  at-point = ap (λ (o : ℕ). nat_eq o point) own ∙ itself-eq point

  -- it is found there
  found : kept_at point set ≡ Some n
  found = find-set (is_at point) k place n (is-first (is_at point) k place e) (is-within k point place n e) at-point

  -- and elsewhere nothing changes
  other-than : (other : ℕ) (m : KeptNode) → m.exchange.settings.own ≡ point → nat_eq point other ≡ false → is_at other m ≡ false
  other-than other m same d = ap (λ (o : ℕ). nat_eq o other) same ∙ d

  others : (other : ℕ) → other ≢ point → kept_at other set ≡ kept_at other k
  others other d =
      let no : nat_eq point other ≡ false = unequal point other (λ s. d (sym s)) in
      find_past (is_at other) k place n n (other-than other (slice_index_or k place n) (has-point k point place n e) no) (other-than other n own no)

  -- each keeps its place
  pub places-same : (other : ℕ) → place_at other set ≡ place_at other k
  places-same other =
      ap (λ (p : ℕ). if nat_lt p (length set) then Some p else None)
      (position_or_len-set (is_at other) k place n n (ap (λ (o : ℕ). nat_eq o other) (own ∙ sym (has-point k point place n e))))
      ∙ ap (λ (count : ℕ). if nat_lt (position_or_len (is_at other) k) count then Some (position_or_len (is_at other) k) else None) (length-set k place n)

  -- and the points are as they were
  pub points-same : points_of set ≡ points_of k
  points-same = map-set_same (λ m. m.exchange.settings.own) k place n n (own ∙ sym (has-point k point place n e))

  -- so the nodes are those of a state that differs there alone
  pub put-nodes : (w v : NetworkState) → ((other : ℕ) → IsNodeAt other (kept_at other k) (w.node other)) → IsNodeOf n (v.node point)
      → ((other : ℕ) → other ≢ point → v.node other ≡ w.node other) → (other : ℕ) → IsNodeAt other (kept_at other set) (v.node other)
  put-nodes w v nodes is same other = by (nat_eq other point) refl
    where
      by : (b : Bool) → nat_eq other point ≡ b → IsNodeAt other (kept_at other set) (v.node other)
      by true f =
          subst (λ (p : ℕ). IsNodeAt p (kept_at p set) (v.node p)) (sym (equal other point f))
          (subst (λ (o : Option KeptNode). IsNodeAt point o (v.node point)) (sym found) is)
      by false f =
          let d : other ≢ point = unlike other point f in
          subst (λ (o : Option KeptNode). IsNodeAt other o (v.node other)) (sym (others other d))
          (subst (λ (x : NetworkNode). IsNodeAt other (kept_at other k) x) (sym (same other d)) (nodes other))
