-- A network of the code is quiet exactly if the abstract one is; and what its nodes booked doesn't matter to that.
use Rattle.std.proofs.Common.{◌≡◌, ◌<◌, ◌≤◌, ◌+◌, ◌&&◌, ◌||◌, ℕ, zero, suc, Bool, true, false, List, [], ◌∷◌, length, Option, Some, None, cond, is_some, nat_eq, nat_lt, refl, ap, sym, subst, ◌∙◌, arith}
use Rattle.std.specs.Prelude.{count_by, if◌then◌else◌, slice_get}
use Rattle.std.proofs.lemmas.List.Sums.{sum_by-cons}
use Rattle.exchange_rules.specs.State.{is_link}
use Rattle.exchange.specs.Calls.{kept_of}
use Rattle.exchange.specs.Views.{may_restart_at}
use Rattle.pair_rules.specs.Pairs.{may_open_at}
use Rattle.network_rules.specs.Anew.{Change, IsQuietNetwork, IsQuietNode, after_all, begun_anew}
use Rattle.network_rules.specs.Networks.{NetworkNode, NetworkState, end_of}
use Rattle.network_rules.specs.Totals.{is_listed}
use Rattle.network_world.specs.KeptAnew.{AreQuiet, IsNodeQuiet}
use Rattle.network_world.specs.KeptNodes.{KeptNode, kept_node_of}
use Rattle.network_world.specs.KeptNetworks.{kept_at, place_at, points_of}
use Rattle.network_world.specs.NetworkAnew.{since}
use Rattle.network_world.specs.NetworkStands.{IsNodeAt, IsNodeOf}
use Rattle.network_world.proofs.AsKept.{IsKept}
use Rattle.network_world.proofs.BooksAside.{aside}
use Rattle.network_world.proofs.Fetching.{is-there}
use Rattle.network_world.proofs.Listed.{listed-kept, turned}
use Rattle.network_world.proofs.NetworkSteps as steps
use Rattle.network_world.proofs.NodeFits.{Fits}
use Rattle.network_world.proofs.NodePlaces.{itself-eq, keeps-none}

-- ---- a node is found at its point, where no other is at that

abbrev own : KeptNode → ℕ
own n = n.exchange.settings.own

same-some : (x y : KeptNode) → Some x ≡ Some y → x ≡ y
same-some x y e = cc

none-some : (x : KeptNode) → None ≡ Some x → ⊥
none-some x e = cc

-- one that is there is counted
more : (b : Bool) (n : ℕ) → 1 ≤ n → 1 ≤ cond b 1 0 + n
more true n e = omega (arith, e)
more false n e = omega (arith, e)

count-first : (point p : ℕ) (points : List ℕ) → count_by (nat_eq point) (p ∷ points) ≡ cond (nat_eq point p) 1 0 + count_by (nat_eq point) points
count-first point p points = sum_by-cons (λ q. cond (nat_eq point q) 1 0) p points

itself-first : (m n : KeptNode) → Some m ≡ Some n → nat_eq (own n) (own m) ≡ true
itself-first m n e = ap (λ (p : ℕ). nat_eq (own n) p) (ap own (same-some m n e)) ∙ itself-eq (own n)

counted : (k : List KeptNode) (place : ℕ) (n : KeptNode) → slice_get k place ≡ Some n → 1 ≤ count_by (nat_eq (own n)) (points_of k)
counted [] place n e = absurd (none-some n e)
counted (m ∷ k) zero n e =
    subst (λ (c : ℕ). 1 ≤ c)
    (sym (count-first (own n) (own m) (points_of k) ∙ ap (λ (b : Bool). cond b 1 0 + count_by (nat_eq (own n)) (points_of k)) (itself-first m n e)))
    (one (count_by (nat_eq (own n)) (points_of k)))
  where
    one : (c : ℕ) → 1 ≤ 1 + c
    one c = omega (arith)
counted (m ∷ k) (suc place) n e =
    subst (λ (c : ℕ). 1 ≤ c) (sym (count-first (own n) (own m) (points_of k)))
    (more (nat_eq (own n) (own m)) (count_by (nat_eq (own n)) (points_of k)) (counted k place n e))

or-true : (b : Bool) → (b || true) ≡ true
or-true true = refl
or-true false = refl

pub listed : (k : List KeptNode) (place : ℕ) (n : KeptNode) → slice_get k place ≡ Some n → is_listed (points_of k) (own n) ≡ true
listed [] place n e = absurd (none-some n e)
listed (m ∷ k) zero n e = ap (λ (b : Bool). b || is_listed (points_of k) (own n)) (itself-first m n e)
listed (m ∷ k) (suc place) n e =
    ap (λ (b : Bool). nat_eq (own n) (own m) || b) (listed k place n e) ∙ or-true (nat_eq (own n) (own m))

too-many : (c : ℕ) → 1 ≤ c → 1 + c ≡ 1 → ⊥
too-many c l e = omega (arith, l, e)

no-more : (c : ℕ) → 0 + c ≡ 1 → c ≡ 1
no-more c e = omega (arith, e)

found : (k : List KeptNode) (place : ℕ) (n : KeptNode) → slice_get k place ≡ Some n → count_by (nat_eq (own n)) (points_of k) ≡ 1 → kept_at (own n) k ≡ Some n
found [] place n e once = absurd (none-some n e)
found (m ∷ k) zero n e once =
    ap (λ (b : Bool). if b then Some m else kept_at (own n) k) (turned (own n) (own m) true (itself-first m n e)) ∙ e
found (m ∷ k) (suc place) n e once = by (nat_eq (own n) (own m)) refl (found k place n e)
  where
    left : (b : Bool) → nat_eq (own n) (own m) ≡ b → cond b 1 0 + count_by (nat_eq (own n)) (points_of k) ≡ 1
    left b f =
        ap (λ (d : Bool). cond d 1 0 + count_by (nat_eq (own n)) (points_of k)) (sym f)
        ∙ sym (count-first (own n) (own m) (points_of k)) ∙ once

    by : (b : Bool) → nat_eq (own n) (own m) ≡ b → (count_by (nat_eq (own n)) (points_of k) ≡ 1 → kept_at (own n) k ≡ Some n) → kept_at (own n) (m ∷ k) ≡ Some n
    by true f rest = absurd (too-many (count_by (nat_eq (own n)) (points_of k)) (counted k place n e) (left true f))
    by false f rest =
        ap (λ (b : Bool). if b then Some m else kept_at (own n) k) (turned (own n) (own m) false f)
        ∙ rest (no-more (count_by (nat_eq (own n)) (points_of k)) (left false f))

-- ---- one node, and all

-- a link may open in what is kept, if it may
may-same : (x : NetworkNode) → Fits x → (link : ℕ) → link < length x.exchange.settings.links → may_restart_at (kept_of x.exchange) link ≡ may_open_at (end_of x) link
may-same x fits link there =
    let is : is_link x.exchange.node.parts link ≡ true = ap (nat_lt link) fits.places.parts.links ∙ is-there link (length x.exchange.settings.links) there in
    ap (λ (b : Bool). b && may_open_at (end_of x) link) is

module _ (x : NetworkNode) (fits : Fits x) where
  as-abstract : IsNodeQuiet (kept_node_of x) → IsQuietNode x
  as-abstract h = record {
    links = λ link less. (sym (may-same x fits link less) ∙ (h.links link less).0, (h.links link less).1);
    held = h.held;
  }

  as-kept : IsQuietNode x → IsNodeQuiet (kept_node_of x)
  as-kept h = record {
    links = λ link less. (may-same x fits link less ∙ (h.links link less).0, (h.links link less).1);
    held = h.held;
  }

module _ (k : List KeptNode) (w : NetworkState) (s : IsKept k w) where
  one-quiet : AreQuiet k → (point : ℕ) (o : Option ℕ) → place_at point k ≡ o → is_listed (points_of k) point ≡ true → IsQuietNode (w.node point)
  one-quiet all point None e there =
      absurd (let no : false ≡ true = sym (ap (λ (o : Option KeptNode). is_some o) (keeps-none k point e)) ∙ sym (listed-kept k point) ∙ there in cc)
  one-quiet all point (Some place) e there =
      as-abstract (w.node point) (s.fits point).fits (all place (kept_node_of (w.node point)) (steps.got k w s point place e))

  pub all-quiet : AreQuiet k → IsQuietNetwork (points_of k) w
  all-quiet all = λ point there. one-quiet all point (place_at point k) refl there

  pub node-of : (place : ℕ) (n : KeptNode) → slice_get k place ≡ Some n → IsNodeOf n (w.node (own n))
  node-of place n e =
      subst (λ (o : Option KeptNode). IsNodeAt (own n) o (w.node (own n)))
      (found k place n e (s.placed.once (own n) (listed k place n e)))
      (s.nodes (own n))

  pub quiet-all : IsQuietNetwork (points_of k) w → AreQuiet k
  quiet-all quiet = λ place n e.
      subst IsNodeQuiet (sym (node-of place n e).kept)
      (as-kept (w.node (own n)) (s.fits (own n)).fits (quiet (own n) (listed k place n e)))

-- ---- whatever was booked

books-aside : (points : List ℕ) (w v : NetworkState) → begun_anew w ≡ begun_anew v → IsQuietNetwork points w → IsQuietNetwork points v
books-aside points w v same quiet = λ point there.
    let before : IsQuietNode ((begun_anew w).node point) = record { links = (quiet point there).links; held = (quiet point there).held } in
    let after : IsQuietNode ((begun_anew v).node point) = subst (λ (u : NetworkState). IsQuietNode (u.node point)) same before in
    record { links = after.links; held = after.held }

module _ (points : List ℕ) (from : NetworkState) (changes : List Change) where
  pub quiet-anew : IsQuietNetwork points (since from changes) → IsQuietNetwork points (after_all changes from)
  quiet-anew = books-aside points (since from changes) (after_all changes from) (aside changes from)

  pub quiet-since : IsQuietNetwork points (after_all changes from) → IsQuietNetwork points (since from changes)
  quiet-since = books-aside points (after_all changes from) (since from changes) (sym (aside changes from))
