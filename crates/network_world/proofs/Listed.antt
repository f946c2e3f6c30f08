-- The settings of a network whose nodes are at the points of a list, and which of them are kept.
use Rattle.std.proofs.Common.{◌≡◌, ◌≢◌, ◌<◌, ◌||◌, ℕ, Bool, true, false, List, [], ◌∷◌, Some, is_some, nat_eq, length, refl, ap, sym, subst, ◌∙◌, arith}
use Rattle.std.specs.Prelude.{None, if◌then◌else◌, slice_get, slice_index_or}
use Rattle.std.proofs.lemmas.Bool.Decides.{nat_tests}
use Rattle.std.proofs.lemmas.Option.{get_or_from_slice_get, slice_get_within}
use Rattle.settings.specs.Configuration.{Configuration, LinkEntry}
use Rattle.settings.specs.Well.{IsLink, IsSet, IsWell}
use Rattle.exchange_rules.specs.Routing.{adjacent_of}
use Rattle.network_rules.specs.Totals.{IsPlaced, is_listed}
use Rattle.network_rules.proofs.Joined.{placed-listed}
use Rattle.network_world.specs.KeptNodes.{KeptNode}
use Rattle.network_world.specs.KeptNetworks.{kept_at, points_of}

-- ---- a link leads to another point

-- by settings within every limit
set-far : (c : Configuration) → IsWell c → (set : ℕ) → set < length c.sets → adjacent_of c set ≢ c.own
set-far c well set there =
    (let known : IsSet c.own (slice_index_or c.sets set (record { name = []; adjacent = 0 })) = well.sets set (record { name = []; adjacent = 0 }) there in known.adjacent.far)

module _ (settings : (point : ℕ) → Configuration) (points : List ℕ) (h : IsPlaced settings points) where
  pub leads-apart : (point link : ℕ) (l : LinkEntry) → slice_get (settings point).links link ≡ Some l → adjacent_of (settings point) l.set ≢ point
  leads-apart point link l is same =
      let c : Configuration = settings point in
      let none : LinkEntry = record { name = []; set = 0; slc = 0; share = None } in
      let inside : link < length c.links = slice_get_within c.links link l is in
      let well : IsWell c = h.well point (placed-listed settings points h point link inside) in
      let known : IsLink (length c.sets) (slice_index_or c.links link none) = well.links link none inside in
      let there : l.set < length c.sets = subst (λ (row : LinkEntry). row.set < length c.sets) (get_or_from_slice_get c.links link l none is) known.set in
      set-far c well l.set there (same ∙ sym (h.own point))

-- ---- the points of the nodes that are kept

pub turned : (m n : ℕ) (b : Bool) → nat_eq m n ≡ b → nat_eq n m ≡ b
turned m n true e = grind (arith, nat_tests, e)
turned m n false e = grind (arith, nat_tests, e)

pub listed-kept : (k : List KeptNode) (point : ℕ) → is_listed (points_of k) point ≡ is_some (kept_at point k)
listed-kept [] point = refl
listed-kept (n ∷ k) point = by (nat_eq n.exchange.settings.own point) refl (listed-kept k point)
  where
    by : (b : Bool) → nat_eq n.exchange.settings.own point ≡ b → is_listed (points_of k) point ≡ is_some (kept_at point k)
        → (nat_eq point n.exchange.settings.own || is_listed (points_of k) point) ≡ is_some (if b then Some n else kept_at point k)
    by true e rest = ap (λ (t : Bool). t || is_listed (points_of k) point) (turned n.exchange.settings.own point true e)
    by false e rest = ap (λ (t : Bool). t || is_listed (points_of k) point) (turned n.exchange.settings.own point false e) ∙ rest
