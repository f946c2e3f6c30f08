-- Two elements of a list, each written in its part of the list; and two nodes that are at two places.
use Rattle.std.proofs.Common.{◌≡◌, ◌<◌, ◌+◌, ℕ, zero, suc, Bool, false, List, [], ◌∷◌, ◌++◌, length, Option, Some, drop, nat_eq, take, refl, ap, sym, ◌∙◌, arith}
use Rattle.std.specs.Prelude.{OnOk, Result, Ok, Err, if◌then◌else◌, slice_get, slice_index_or, slice_set}
use Rattle.std.proofs.lemmas.List.{get_or-drop, get_or-take}
use Rattle.std.proofs.lemmas.Option.{slice_get-get_or}
use Rattle.network_world.specs.declared.doing.Reach.{Reach}
use Rattle.network_world.specs.KeptNodes.{KeptNode, both_did}
use Rattle.network_world.specs.KeptNetworks.{both_turned, network_ignored, reached_at}

none-more : (n : ℕ) → n + 0 ≡ n
none-more n = omega arith

module _ {X : Type 0} where
  set-there : (xs : List X) (j : ℕ) (b : X) → j < length xs → take j xs ++ slice_set (drop j xs) 0 b ≡ slice_set xs j b
  set-there [] j b l = absurd (omega arith)
  set-there (x ∷ xs) zero b l = refl
  set-there (x ∷ xs) (suc j) b l = ap (λ (ys : List X). x ∷ ys) (set-there xs j b (omega arith))

  pub set-later : (xs : List X) (i j : ℕ) (a b : X) → i < j → j < length xs → slice_set (take j xs) i a ++ slice_set (drop j xs) 0 b ≡ slice_set (slice_set xs i a) j b
  set-later [] i j a b l m = absurd (omega arith)
  set-later (x ∷ xs) i zero a b l m = absurd (omega arith)
  set-later (x ∷ xs) zero (suc j) a b l m = ap (λ (ys : List X). a ∷ ys) (set-there xs j b (omega arith))
  set-later (x ∷ xs) (suc i) (suc j) a b l m = ap (λ (ys : List X). x ∷ ys) (set-later xs i j a b (omega arith) (omega arith))

  pub set-earlier : (xs : List X) (i j : ℕ) (a b : X) → j < i → i < length xs → slice_set (take i xs) j b ++ slice_set (drop i xs) 0 a ≡ slice_set (slice_set xs i a) j b
  set-earlier [] i j a b l m = absurd (omega arith)
  set-earlier (x ∷ xs) zero j a b l m = absurd (omega arith)
  set-earlier (x ∷ xs) (suc i) zero a b l m = ap (λ (ys : List X). b ∷ ys) (set-there xs i a (omega arith))
  set-earlier (x ∷ xs) (suc i) (suc j) a b l m = ap (λ (ys : List X). x ∷ ys) (set-earlier xs i j a b (omega arith) (omega arith))

  -- an element of a part is that of the list
  pub got-front : (xs : List X) (i mid : ℕ) (front : List X) (x : X) → front ≡ take mid xs → i < mid → i < length xs → x ≡ slice_index_or front i x → slice_get xs i ≡ Some x
  got-front xs i mid front x e l m g =
      slice_get-get_or xs i x m ∙ ap (λ (y : X). Some y) (sym (g ∙ ap (λ (ys : List X). slice_index_or ys i x) e ∙ get_or-take mid xs i x l))

  pub got-back : (xs : List X) (mid : ℕ) (back : List X) (x : X) → back ≡ drop mid xs → mid < length xs → x ≡ slice_index_or back 0 x → slice_get xs mid ≡ Some x
  got-back xs mid back x e l g =
      slice_get-get_or xs mid x l
      ∙ ap (λ (y : X). Some y) (sym (g ∙ ap (λ (ys : List X). slice_index_or ys 0 x) e ∙ get_or-drop mid xs 0 x ∙ ap (λ (i : ℕ). slice_index_or xs i x) (none-more mid)))

-- both are there, at two places
pub reached-both : (what : Reach) (place link far other : ℕ) (k : List KeptNode) (near there : KeptNode) → slice_get k place ≡ Some near → slice_get k far ≡ Some there → nat_eq place far ≡ false
    → reached_at what place link far other (slice_get k place) (slice_get k far) k ≡ both_turned place far (both_did what link other near there) k
reached-both what place link far other k near there e f apart =
    ap (λ (o : Option KeptNode). reached_at what place link far other o (slice_get k far) k) e
    ∙ ap (λ (o : Option KeptNode). reached_at what place link far other (Some near) o k) f
    ∙ ap (λ (b : Bool). if b then network_ignored k else both_turned place far (both_did what link other near there) k) apart

pub on-both : {T E A B C : Type 0} (r : Result T E) → OnOk r A → OnOk r B → (A → B → C) → OnOk r C
on-both (Ok v) a b f = f a b
on-both (Err e) a b f = tt
